-- Which closed lists of a history have no event of a span.
use Rattle.std.proofs.Common.{◌≡◌, ℕ, zero, suc, ◌+◌, ◌-◌, ◌*◌, ◌<◌, ◌≤◌, Bool, true, false, cond, ◌&&◌, List, [], ◌∷◌, ◌++◌, Option, Some, None, length, take, drop, refl, sym, ap, ◌∙◌, subst, append-nil, length-append, length-drop, length-take, add-mul, drop-drop, take-append-drop, arith}
use Rattle.std.specs.Prelude.{nat_le, nat_lt}
use Rattle.std.proofs.lemmas.Bool.{false≢true, lt-leb, lt-ltb, le-ltb, ltb-true, ltb-false}
use Rattle.std.proofs.lemmas.List.Elements.{filter-append}
use Rattle.std.proofs.Math.Seq.{take-add}
use Rattle.dg_dumping.specs.SpanText.{events_within, is_before, is_within}
use Rattle.dg_dumping.specs.declared.span.Span.{Span}
use Rattle.dg_graph.specs.declared.event.Event.{Event}
use Rattle.dg_heard.specs.Heard.{end_before, list_total}
use Rattle.dg_history.specs.declared.params.Params.{Params}
use Rattle.dg_history.specs.declared.node.Key.TheVariants as key
use Rattle.dg_history.specs.EventTimes.{RisesFrom}
use Rattle.dg_history.specs.History.{History, events_of, first_time_of, last_time_from}
use Rattle.dg_history.specs.LegalHistory.{IsLegal}
use Rattle.dg_history.proofs.EventTimes.{rises_last, rises_parts}
use Rattle.dg_history.proofs.LegalHistories.{events_rise}
use Rattle.dg_index.specs.declared.entry.Ends.{Ends}
use Rattle.dg_index.specs.declared.entry.Entry.{Entry}
use Rattle.dg_index.specs.Hierarchy.{leaves}
use Rattle.dg_index.specs.IndexRecords.{closed_list}
use Rattle.dg_index.specs.OpenedIndex.{Opening, entry_at, event_total, opened_of}
use Rattle.dg_index.proofs.HeldRecords.{IsHeld, held_at, known}
use Rattle.dg_index.proofs.OpenedIndexRecords.{record_held, told_at}

-- ---- events of which none is in the span

and_none : (a b : Bool) → b ≡ false → (a && b) ≡ false
and_none true b e = e
and_none false b e = refl

none_more : (span : Span) (e : Event) (es : List Event) → is_within span e.time ≡ false → events_within span es ≡ [] → events_within span (e ∷ es) ≡ []
none_more span e es is more = ap (λ b. cond b (e ∷ events_within span es) (events_within span es)) is ∙ more

-- all come at the end of the span or later
pub none_late : (span : Span) (until t : ℕ) (es : List Event) → span.until ≡ Some until → until ≤ t → RisesFrom t es → events_within span es ≡ []
none_late span until t [] is le r = refl
none_late span until t (e ∷ es) is le r =
    none_more span e es
    (ap (λ (o : Option ℕ). nat_le span.from e.time && is_before o e.time) is ∙ and_none (nat_le span.from e.time) (nat_lt e.time until) (le-ltb e.time until (omega (arith, le, r.0))))
    (none_late span until e.time es is (omega (arith, le, r.0)) r.1)

-- all come before the span
pub none_early : (span : Span) (s : ℕ) (es : List Event) → RisesFrom s es → last_time_from s es < span.from → events_within span es ≡ []
none_early span s [] r lt = refl
none_early span s (e ∷ es) r lt =
    none_more span e es
    (ap (λ b. b && is_before span.until e.time) (lt-leb span.from e.time (omega (arith, lt, rises_last e.time es r.1))))
    (none_early span e.time es r.1 lt)

-- ---- the times of a part of events

last_behind : (t u : ℕ) (xs ys : List Event) → 1 ≤ length ys → last_time_from t (xs ++ ys) ≡ last_time_from u ys
last_behind t u [] [] some = absurd (omega (arith, some))
last_behind t u [] (y ∷ ys) some = refl
last_behind t u (x ∷ xs) ys some = last_behind x.time u xs ys some

rises_first : (s : ℕ) (es : List Event) → RisesFrom s es → RisesFrom (first_time_of es) es
rises_first s [] r = tt
rises_first s (e ∷ es) r = (omega arith, r.1)

first_of_front : (l : ℕ) (es : List Event) → 1 ≤ l → first_time_of (take l es) ≡ first_time_of es
first_of_front zero es some = absurd (omega (arith, some))
first_of_front (suc l) [] some = refl
first_of_front (suc l) (e ∷ es) some = refl

-- ---- the closed lists

module _ (z : History) (legal : IsLegal z) (some : 0 < z.params.l) where
  abbrev es : List Event
  es = events_of z

  -- the instants that the index keeps of a list, and its events
  record IsListed (i : ℕ) : Type 0 where
    pub ends : (entry_at (opened_of z).index (key.List i)).ends ≡ Some (record { first = first_time_of (closed_list z.params es i); last = last_time_from 0 (closed_list z.params es i) })
    pub full : (i + 1) * z.params.l ≤ length es

  listed : (i : ℕ) → i < leaves z.params (length es) → IsListed i
  listed i lt =
      let there = record_held z legal (key.List i) (lt-ltb i (leaves z.params (length es)) lt) in
      let e : IsHeld (opened_of z).index (key.List i) = held_at (opened_of z).index (key.List i) there in
      let told = told_at z legal (key.List i) e.entry e.found in
      record { ends = ap (λ (x : Entry). x.ends) e.is ∙ told.1; full = told.2 }

  -- the events up to the end of a list end with it
  ends_with : (i : ℕ) → (i + 1) * z.params.l ≤ length es → last_time_from 0 (take ((i + 1) * z.params.l) es) ≡ last_time_from 0 (closed_list z.params es i)
  ends_with i full =
      let l : ℕ = z.params.l in
      let a : ℕ = i * l in
      let on : (i + 1) * l ≡ a + l = omega (arith, add-mul i 1 l) in
      let own : 1 ≤ length (closed_list z.params es i) = omega (arith, some, full, on, length-take l (drop a es), length-drop a es) in
      ap (λ n. last_time_from 0 (take n es)) on ∙ ap (last_time_from 0) (take-add a l es) ∙ last_behind 0 0 (take a es) (closed_list z.params es i) own

  parts : (n : ℕ) → RisesFrom 0 (take n es) × RisesFrom (last_time_from 0 (take n es)) (drop n es)
  parts n = rises_parts 0 (take n es) (drop n es) (subst (RisesFrom 0) (sym (take-append-drop n es)) (events_rise z legal))

  -- a list ends before the span: so no event up to its end is in it
  pub early_list : (span : Span) (i : ℕ) → i < leaves z.params (length es) → end_before span.from (entry_at (opened_of z).index (key.List i)).ends ≡ true
      → events_within span (take ((i + 1) * z.params.l) es) ≡ []
  early_list span i lt ended =
      let h : IsListed i = listed i lt in
      let last : last_time_from 0 (closed_list z.params es i) < span.from = ltb-true _ span.from (sym (ap (end_before span.from) h.ends) ∙ ended) in
      none_early span 0 (take ((i + 1) * z.params.l) es) (parts ((i + 1) * z.params.l)).0 (omega (arith, last, ends_with i h.full))

  -- a list ends at the end of the span or later: so no event behind it is in the span
  pub late_behind : (span : Span) (until i : ℕ) → span.until ≡ Some until → i < leaves z.params (length es)
      → end_before until (entry_at (opened_of z).index (key.List i)).ends ≡ false → events_within span (drop ((i + 1) * z.params.l) es) ≡ []
  late_behind span until i is lt still =
      let h : IsListed i = listed i lt in
      let last : until ≤ last_time_from 0 (closed_list z.params es i) = ltb-false _ until (sym (ap (end_before until) h.ends) ∙ still) in
      none_late span until _ (drop ((i + 1) * z.params.l) es) is (omega (arith, last, ends_with i h.full)) (parts ((i + 1) * z.params.l)).1

  -- a list begins there: so none from it on is
  pub late_from : (span : Span) (until i : ℕ) (ends : Ends) → span.until ≡ Some until → i < leaves z.params (length es)
      → (entry_at (opened_of z).index (key.List i)).ends ≡ Some ends → until ≤ ends.first → events_within span (drop (i * z.params.l) es) ≡ []
  late_from span until i ends is lt here le =
      let h : IsListed i = listed i lt in
      let a : ℕ = i * z.params.l in
      let first : ends.first ≡ first_time_of (drop a es) = same_first ends _ (sym here ∙ h.ends) ∙ first_of_front z.params.l (drop a es) some in
      none_late span until (first_time_of (drop a es)) (drop a es) is (omega (arith, le, first)) (rises_first _ (drop a es) (parts a).1)
    where
      same_first : (x y : Ends) → Some x ≡ Some y → x.first ≡ y.first
      same_first x y e = cc

-- ---- what is left between

pub all_between : (span : Span) (es : List Event) (a b : ℕ) → a ≤ b → events_within span (take a es) ≡ [] → events_within span (drop b es) ≡ []
    → events_within span es ≡ events_within span (take (b - a) (drop a es))
all_between span es a b le early late =
    let p : Event → Bool = λ e. is_within span e.time in
    let there : a + (b - a) ≡ b = omega (arith, le) in
    let rest : List Event = drop a es in
    ap (events_within span) (sym (take-append-drop a es)) ∙ filter-append p (take a es) rest ∙ ap (λ (l : List Event). l ++ events_within span rest) early
    ∙ ap (events_within span) (sym (take-append-drop (b - a) rest)) ∙ filter-append p (take (b - a) rest) (drop (b - a) rest)
    ∙ ap (λ (l : List Event). events_within span (take (b - a) rest) ++ l) (ap (events_within span) (drop-drop (b - a) a es ∙ ap (λ n. drop n es) there) ∙ late)
    ∙ append-nil (events_within span (take (b - a) rest))

-- ---- over an index

none_past : (span : Span) (n : ℕ) (es : List Event) → length es ≤ n → events_within span (drop n es) ≡ []
none_past span zero [] le = refl
none_past span (suc n) [] le = refl
none_past span zero (e ∷ es) le = absurd (omega (arith, le))
none_past span (suc n) (e ∷ es) le = none_past span n es (omega (arith, le))

module _ (z : History) (legal : IsLegal z) (o : Opening) (is : (opened_of z).index ≡ o) (some : 0 < o.params.l) where
  size_is : o.params.l ≡ z.params.l
  size_is = ap (λ (o : Opening). o.params.l) (sym is) ∙ ap (λ (p : Params). p.l) (known z).params

  total_is : list_total o ≡ leaves z.params (length (events_of z))
  total_is = ap list_total (sym is) ∙ (λ j. leaves ((known z).params j) ((known z).count j))

  some_here : 0 < z.params.l
  some_here = omega (arith, some, size_is)

  -- each list before this one ends before the span
  pub early_lists : (span : Span) (n : ℕ) → n ≤ list_total o → ((i : ℕ) → i < n → end_before span.from (entry_at o (key.List i)).ends ≡ true)
      → events_within span (take (n * o.params.l) (events_of z)) ≡ []
  early_lists span zero le ended = ap (λ n. events_within span (take n (events_of z))) (let e : 0 * o.params.l ≡ 0 = omega arith in e)
  early_lists span (suc n) le ended =
      let on : suc n ≡ n + 1 = omega arith in
      (λ j. events_within span (take (on j * size_is j) (events_of z)))
      ∙ early_list z legal some_here span n (omega (arith, le, total_is)) (ap (λ (o : Opening). end_before span.from (entry_at o (key.List n)).ends) is ∙ ended n (omega arith))

  pub late_all : (span : Span) (n : ℕ) → n ≡ event_total o.batches → events_within span (drop n (events_of z)) ≡ []
  late_all span n all = none_past span n (events_of z) (omega (arith, all, ap (λ (o : Opening). event_total o.batches) (sym is), (known z).count))

  pub late_end : (span : Span) (until i : ℕ) → span.until ≡ Some until → i < list_total o → end_before until (entry_at o (key.List i)).ends ≡ false
      → (n : ℕ) → n ≡ i * o.params.l + o.params.l → events_within span (drop n (events_of z)) ≡ []
  late_end span until i bound lt still n at =
      let there : n ≡ (i + 1) * z.params.l = at ∙ (let e : i * o.params.l + o.params.l ≡ (i + 1) * o.params.l = omega (arith, add-mul i 1 o.params.l) in e) ∙ ap (λ l. (i + 1) * l) size_is in
      ap (λ n. events_within span (drop n (events_of z))) there
      ∙ late_behind z legal some_here span until i bound (omega (arith, lt, total_is)) (ap (λ (o : Opening). end_before until (entry_at o (key.List i)).ends) is ∙ still)

  pub late_start : (span : Span) (until i : ℕ) (ends : Ends) → span.until ≡ Some until → i < list_total o → (entry_at o (key.List i)).ends ≡ Some ends → until ≤ ends.first
      → (n : ℕ) → n ≡ i * o.params.l → events_within span (drop n (events_of z)) ≡ []
  late_start span until i ends bound lt here le n at =
      ap (λ n. events_within span (drop n (events_of z))) (at ∙ ap (λ l. i * l) size_is)
      ∙ late_from z legal some_here span until i ends bound (omega (arith, lt, total_is)) (ap (λ (o : Opening). (entry_at o (key.List i)).ends) is ∙ here) le
