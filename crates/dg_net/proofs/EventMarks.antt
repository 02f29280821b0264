-- The marks of events, in their order and sorted, and what the last mark of each element says.
use Rattle.std.proofs.Common.{◌≡◌, ℕ, suc, ◌+◌, ◌<◌, Bool, true, false, cond, not, ◌||◌, ◌&&◌, List, [], ◌∷◌, ◌++◌, map, filter, length, get_or, drop, append_assoc, Option, Some, None, refl, sym, ap, ◌∙◌, IsTrue, arith}
use Rattle.std.specs.Ordering.{is_lt, is_eq, ordering_reverse}
use Rattle.std.specs.declared.cmp.Ordering.{Ordering}
use Rattle.std.specs.declared.cmp.Ordering.TheVariants.{Less, Equal, Greater}
use Rattle.std.specs.List.{flat_map}
use Rattle.std.specs.List.Sorted.{IsSortedBy, IsStableBy, ties}
use Rattle.std.specs.Cmp.{IsStrictWeakOrder}
use Rattle.std.proofs.lemmas.Bool.{true≢false, false≢true}
use Rattle.std.proofs.lemmas.List.{map-append, drop_more}
use Rattle.std.proofs.lemmas.List.Sorted.{ranks_by}
use Rattle.dg_graph.specs.declared.element.Element.{Element}
use Rattle.dg_graph.specs.declared.event.Event.{Event}
use Rattle.dg_graph.specs.Composition.{Delta, Says, In, Out, As_it_was, says, then_says, composition, Composes}
use Rattle.dg_graph.specs.Elements.{IsSet, IsBelowFirst, element_cmp, before, has, same}
use Rattle.dg_graph.proofs.Sets.{element_total, element_exact, before_trans, lacks_below}
use Rattle.dg_set.specs.Apart.{AreApart}
use Rattle.dg_delta.proofs.Deltas.{word, and_then_associates, can_be_cut}
use Rattle.dg_net.specs.EventMarks.{word_of, taken_out, marks_of, earlier, names_first, goes, lasts}
use Rattle.dg_net.specs.declared.marks.Mark.{Mark}
use Rattle.dg_net.proofs.ReplayNets.{one_delta}

pub earlier_ranks : IsStrictWeakOrder earlier
earlier_ranks = ranks_by element_total (λ (m : Mark). m.element)

-- ---- words

first_word : (w : Says) → then_says As_it_was w ≡ w
first_word In = refl
first_word Out = refl
first_word As_it_was = refl

-- what a mark says of an element that is the same or is not
abbrev said : Bool → Bool → Says
said p b = cond b (cond p In Out) As_it_was

says_one : (m : Mark) (x : Element) → says (word_of m) x ≡ said m.puts_in (same x m.element)
says_one m x = by m.puts_in (same x m.element)
  where
    by : (p b : Bool) → says (cond p (record { minus = []; plus = m.element ∷ [] }) (record { minus = m.element ∷ []; plus = [] })) x ≡ said p (same x m.element)
    by true b = elim (same x m.element) as (λ t. cond (t || false) In As_it_was ≡ said true t) [ true ↦ refl | false ↦ refl ]
    by false b = elim (same x m.element) as (λ t. cond (t || false) Out As_it_was ≡ said false t) [ true ↦ refl | false ↦ refl ]

repeats : (p q b : Bool) → then_says (said p b) (said q b) ≡ said q b
repeats true true true = refl
repeats true false true = refl
repeats false true true = refl
repeats false false true = refl
repeats p q false = refl

-- ---- the order

by_order : (o : Ordering) → (not (is_lt o) && not (is_lt (ordering_reverse o))) ≡ is_eq o
by_order Less = refl
by_order Equal = refl
by_order Greater = refl

ties_are : (a b : Mark) → ties earlier a b ≡ same a.element b.element
ties_are a b =
    ap (λ o. not (is_lt (element_cmp a.element b.element)) && not (is_lt o)) (element_total.antisymm b.element a.element) ∙ by_order (element_cmp a.element b.element)

abbrev pub NotAfter : Mark → List Mark → Type 0
NotAfter m [] = Unit {0}
NotAfter m (n ∷ rest) = earlier n m ≡ false

-- no mark is of an earlier element than the one before it
abbrev pub Rises : List Mark → Type 0
Rises [] = Unit {0}
Rises (m ∷ rest) = NotAfter m rest × Rises rest

pub rises_sorted : (ms : List Mark) → IsSortedBy earlier ms → Rises ms
rises_sorted [] h = tt
rises_sorted (m ∷ []) h = (tt, tt)
rises_sorted (m ∷ n ∷ rest) h = (
  h 0 m (omega arith) (omega arith),
  rises_sorted (n ∷ rest) (λ k d le lt.
      let next : suc (k + 1) ≡ suc k + 1 = omega arith in
      ap (λ j. earlier (get_or (m ∷ n ∷ rest) j d) (get_or (n ∷ rest) k d)) next ∙ h (suc k) d (omega arith) (omega arith)),
)

-- the element is before the first mark's
abbrev Below : Element → List Mark → Type 0
Below z [] = Unit {0}
Below z (m ∷ rest) = IsTrue (before z m.element)

pub strictly : (o : Ordering) → is_lt (ordering_reverse o) ≡ false → is_eq o ≡ false → is_lt o ≡ true
strictly Less e f = refl
strictly Equal e f = absurd (true≢false f)
strictly Greater e f = absurd (true≢false e)

below_other : (m : Mark) (rest : List Mark) → NotAfter m rest → names_first m.element rest ≡ false → Below m.element rest
below_other m [] h e = tt
below_other m (n ∷ rest) h e =
    strictly (element_cmp m.element n.element) (ap is_lt (sym (element_total.antisymm n.element m.element)) ∙ h) e

below_next : (z : Element) (m : Mark) (rest : List Mark) → IsTrue (before z m.element) → NotAfter m rest → Below z rest
below_next z m [] b h = tt
below_next z m (n ∷ rest) b h =
    elim (same m.element n.element) as (λ t. same m.element n.element ≡ t → IsTrue (before z n.element)) [
      | true ↦ λ e. ap (before z) (sym (element_exact m.element n.element e)) ∙ b
      | false ↦ λ e. before_trans z m.element n.element b (below_other m (n ∷ rest) h e)
    ] refl

below_lasts : (into : Bool) (z : Element) (ms : List Mark) → Rises ms → Below z ms → IsBelowFirst z (lasts into ms)
below_lasts into z [] r b = tt
below_lasts into z (m ∷ rest) r b =
    elim (not (names_first m.element rest) && goes into m) as (λ t. IsBelowFirst z (cond t (m.element ∷ lasts into rest) (lasts into rest))) [
      | true ↦ b
      | false ↦ below_lasts into z rest r.1 (below_next z m rest b r.0)
    ]

-- ---- what the last marks say

-- two sets say what the marks say
pub record Keeps (minus plus : List Element) (ms : List Mark) : Type 0 where
  pub out : IsSet minus
  pub into : IsSet plus
  pub apart : AreApart minus plus
  pub says : (x : Element) → word (has plus x) (has minus x) ≡ composition (map word_of ms) x

absorbed : (m : Mark) (rest : List Mark) → names_first m.element rest ≡ true → (x : Element) → composition (map word_of rest) x ≡ composition (map word_of (m ∷ rest)) x
absorbed m [] e x = absurd (false≢true e)
absorbed m (n ∷ rest) e x =
    let later = composition (map word_of rest) x in
    let is = element_exact m.element n.element e in
    let one = says_one m x ∙ ap (λ z. said m.puts_in (same x z)) is in
    let two = says_one n x in
    let b = same x n.element in
    ap (λ w. then_says w later) two
    ∙ ap (λ w. then_says w later) (sym (repeats m.puts_in n.puts_in b))
    ∙ and_then_associates (said m.puts_in b) (said n.puts_in b) later
    ∙ sym (λ i. then_says (one i) (then_says (two i) later))

module _ (y : Element) (rest : List Mark) (minus plus : List Element) (k : Keeps minus plus rest) where
  abbrev at : Bool → Mark
  at p = record { element = y; puts_in = p }

  nowhere : (set : List Element) → IsBelowFirst y set → IsSet set → (x : Element) → same x y ≡ true → has set x ≡ false
  nowhere set b s x e = ap (has set) (element_exact x y e) ∙ lacks_below y set b s

  said_first : (p : Bool) (x : Element) → then_says (said p (same x y)) (word (has plus x) (has minus x)) ≡ composition (map word_of (at p ∷ rest)) x
  said_first p x = (λ i. then_says (sym (says_one (at p) x) i) (k.says x i))

  module _ (below_minus : IsBelowFirst y minus) (below_plus : IsBelowFirst y plus) where
    put_first : Keeps minus (y ∷ plus) (at true ∷ rest)
    put_first = record {
      out = k.out;
      into = (below_plus, k.into);
      apart = λ x h. elim (same x y) as (λ t. same x y ≡ t → (t || has plus x) ≡ false) [
        | true ↦ λ e. absurd (true≢false (sym h ∙ nowhere minus below_minus k.out x e))
        | false ↦ λ e. k.apart x h
      ] refl;
      says = λ x. elim (same x y) as (λ t. same x y ≡ t → word (t || has plus x) (has minus x) ≡ then_says (said true t) (word (has plus x) (has minus x))) [
        | true ↦ λ e. sym (λ i. then_says In (word (nowhere plus below_plus k.into x e i) (nowhere minus below_minus k.out x e i)))
        | false ↦ λ e. sym (first_word (word (has plus x) (has minus x)))
      ] refl ∙ said_first true x;
    }

    take_first : Keeps (y ∷ minus) plus (at false ∷ rest)
    take_first = record {
      out = (below_minus, k.out);
      into = k.into;
      apart = λ x. elim (same x y) as (λ t. same x y ≡ t → (t || has minus x) ≡ true → has plus x ≡ false) [
        | true ↦ λ e h. nowhere plus below_plus k.into x e
        | false ↦ λ e h. k.apart x h
      ] refl;
      says = λ x. elim (same x y) as (λ t. same x y ≡ t → word (has plus x) (t || has minus x) ≡ then_says (said false t) (word (has plus x) (has minus x))) [
        | true ↦ λ e. ap (λ b. word b true) (nowhere plus below_plus k.into x e) ∙ sym (λ i. then_says Out (word (nowhere plus below_plus k.into x e i) (nowhere minus below_minus k.out x e i)))
        | false ↦ λ e. sym (first_word (word (has plus x) (has minus x)))
      ] refl ∙ said_first false x;
    }

  passed_by : (p : Bool) → names_first y rest ≡ true → Keeps minus plus (at p ∷ rest)
  passed_by p e = record { out = k.out; into = k.into; apart = k.apart; says = λ x. k.says x ∙ absorbed (at p) rest e x }

keep_more : (y : Element) (rest : List Mark) → Rises rest → Keeps (lasts false rest) (lasts true rest) rest → (p t : Bool) → names_first y rest ≡ t → NotAfter (record { element = y; puts_in = p }) rest
    → Keeps (cond (not t && not p) (y ∷ lasts false rest) (lasts false rest)) (cond (not t && p) (y ∷ lasts true rest) (lasts true rest)) (record { element = y; puts_in = p } ∷ rest)
keep_more y rest r k p true e h = passed_by y rest (lasts false rest) (lasts true rest) k p e
keep_more y rest r k true false e h =
    let b = below_other (record { element = y; puts_in = true }) rest h e in
    put_first y rest (lasts false rest) (lasts true rest) k (below_lasts false y rest r b) (below_lasts true y rest r b)
keep_more y rest r k false false e h =
    let b = below_other (record { element = y; puts_in = false }) rest h e in
    take_first y rest (lasts false rest) (lasts true rest) k (below_lasts false y rest r b) (below_lasts true y rest r b)

pub lasts_keep : (ms : List Mark) → Rises ms → Keeps (lasts false ms) (lasts true ms) ms
lasts_keep [] r = record { out = tt; into = tt; apart = λ x e. refl; says = λ x. refl }
lasts_keep (m ∷ rest) r = keep_more m.element rest r.1 (lasts_keep rest r.1) m.puts_in (names_first m.element rest) refl r.0

-- ---- sorted marks say the same

only : (x : Element) (p : Bool) (ms : List Mark) → composition (map word_of (filter (ties earlier (record { element = x; puts_in = p })) ms)) x ≡ composition (map word_of ms) x
only x p [] = refl
only x p (m ∷ ms) =
    let k : Mark = record { element = x; puts_in = p } in
    let rest = filter (ties earlier k) ms in
    elim (ties earlier k m) as (λ t. ties earlier k m ≡ t → composition (map word_of (cond t (m ∷ rest) rest)) x ≡ composition (map word_of (m ∷ ms)) x) [
      | true ↦ λ e. ap (then_says (says (word_of m) x)) (only x p ms)
      | false ↦ λ e.
          let none : says (word_of m) x ≡ As_it_was = says_one m x ∙ ap (said m.puts_in) (sym (ties_are k m) ∙ e) in
          only x p ms ∙ sym (ap (λ w. then_says w (composition (map word_of ms) x)) none ∙ first_word (composition (map word_of ms) x))
    ] refl

pub stable_same : (xs ys : List Mark) → IsStableBy earlier xs ys → (x : Element) → composition (map word_of ys) x ≡ composition (map word_of xs) x
stable_same xs ys h x =
    let k : Mark = record { element = x; puts_in = true } in
    sym (only x true ys) ∙ ap (λ l. composition (map word_of l) x) (h k) ∙ only x true xs

-- ---- the marks of events

both_words : (out into : Option Element) (x : Element) → composition (map word_of (marks_of out into)) x ≡ says (one_delta out into) x
both_words None None x = refl
both_words (Some y) None x = first_word_last (says (word_of (taken_out y)) x)
  where
    first_word_last : (w : Says) → then_says w As_it_was ≡ w
    first_word_last w = refl
both_words None (Some z) x = refl
both_words (Some y) (Some z) x =
    elim (same x z) as (λ b. then_says (cond (same x y || false) Out As_it_was) (cond (b || false) In As_it_was) ≡ word (b || false) (same x y || false)) [
      | true ↦ refl
      | false ↦ refl
    ]

pub events_say : (out into : Event → Option Element) (events : List Event) (x : Element) → composition (map word_of (flat_map (λ e. marks_of (out e) (into e)) events)) x ≡ composition (map (λ e. one_delta (out e) (into e)) events) x
events_say out into [] x = refl
events_say out into (e ∷ events) x =
    let marks = marks_of (out e) (into e) in
    let rest = flat_map (λ e. marks_of (out e) (into e)) events in
    ap (λ l. composition l x) (map-append word_of marks rest)
    ∙ can_be_cut (map word_of marks) (map word_of rest) x
    ∙ (λ i. then_says (both_words (out e) (into e) x i) (events_say out into events x i))

-- the net of sorted marks
pub net_is : (d : Delta) (xs ys : List Mark) → IsSortedBy earlier ys → IsStableBy earlier xs ys → d ≡ record { minus = lasts false ys; plus = lasts true ys } → Composes d (map word_of xs)
net_is d xs ys sorted stable is x =
    ap (λ z. says z x) is ∙ (lasts_keep ys (rises_sorted ys sorted)).says x ∙ stable_same xs ys stable x

pub events_net : (d : Delta) (out into : Event → Option Element) (events : List Event) (marks : List Mark) → marks ≡ flat_map (λ e. marks_of (out e) (into e)) events → Composes d (map word_of marks) → Composes d (map (λ e. one_delta (out e) (into e)) events)
events_net d out into events marks is composes x =
    composes x ∙ ap (λ l. composition (map word_of l) x) is ∙ events_say out into events x

-- a turn of the loop over the events on the way back
pub marks_turn : (out into : Event → Option Element) (events : List Event) (i j : ℕ) (e : Event) (old new : List Mark) (o n : Option Element) (all : List Mark) → (i < length events) × (e ≡ get_or events i e) → j ≡ i + 1 → o ≡ out e → n ≡ into e → new ≡ old ++ marks_of o n
    → old ++ flat_map (λ e. marks_of (out e) (into e)) (drop i events) ≡ all → new ++ flat_map (λ e. marks_of (out e) (into e)) (drop j events) ≡ all
marks_turn out into events i j e old new o n all at next is_out is_into is h =
    let make : Event → List Mark = λ e. marks_of (out e) (into e) in
    let rest = flat_map make (drop (i + 1) events) in
    let first : marks_of o n ≡ make (get_or events i e) = (λ k. marks_of (is_out k) (is_into k)) ∙ ap make at.1 in
    ap (λ m. new ++ flat_map make (drop m events)) next
    ∙ ap (λ l. l ++ rest) is
    ∙ append_assoc old (marks_of o n) rest
    ∙ ap (λ l. old ++ (l ++ rest)) first
    ∙ ap (λ l. old ++ flat_map make l) (sym (drop_more events i e at.0))
    ∙ h
