-- Each instant once: the same lists are heard, and what the instants have is what the times have.
use Rattle.std.proofs.Common.{arith, ◌≡◌, ℕ, ◌==◌, Bool, true, false, cond, List, [], ◌∷◌, ◌++◌, Option, Result, Ok, Err, filter, get_or, map, refl, sym, ap, subst, ◌∙◌}
use Rattle.std.specs.Prelude.{◌||◌, IfSome, IsErr, IsErrAnd}
use Rattle.std.specs.List.{All, list_any, sum}
use Rattle.std.proofs.lemmas.Bool.{eqb-false, eqb-true, false≢true, or_parts, or_right}
use Rattle.std.proofs.lemmas.List.Elements.{All-head, All-map, All-tail}
use Rattle.std.proofs.lemmas.List.Folds.{list_any-append}
use Rattle.dg_catalogue.specs.Entries.{column_length_in}
use Rattle.dg_graph.specs.declared.element.Column.TheVariants.{Transient}
use Rattle.dg_graph.specs.declared.element.Element.{Element}
use Rattle.dg_graph.specs.declared.event.Event.{Event}
use Rattle.dg_graph.specs.Replay.{told_at}
use Rattle.dg_heard.specs.Heard.{heard_bytes, heard_events, heard_over, lies_between, list_total, messages_along}
use Rattle.dg_records.specs.ColumnReads.{Takes, TakesAtMost}
use Rattle.dg_history.specs.declared.node.Key.TheVariants as key
use Rattle.dg_index.specs.Hierarchy.{numbers}
use Rattle.dg_index.specs.OpenedIndex.{Opening, entry_at}
use Rattle.dg_messages.specs.Calls.{AreHeard, IsFirstMessageDamage, TakesHeard, TellsMessageDamage}
use Rattle.dg_messages.specs.Once.{each_once, is_among, once_behind, set_of, sets_for, with_instant}
use Rattle.dg_messages.specs.Told.{AreToldIn}
use Rattle.dg_heard.proofs.ListColumns.{told_so}
use Rattle.dg_records.specs.declared.fault.RecordFault.{RecordFault}
use Rattle.dg_records.specs.declared.fault.RecordFault.TheVariants as fault
use Rattle.dg_retrieval.specs.NamesThere.{NamesAreThere}

-- ---- truth values

or_none : (a : Bool) → a ≡ (a || false)
or_none true = refl
or_none false = refl

there_already : (a b c : Bool) → (b ≡ true → a ≡ true) → (a || c) ≡ (a || (b || c))
there_already true b c h = refl
there_already false true c h = absurd (false≢true (h refl))
there_already false false c h = refl

behind_all : (a b c : Bool) → ((a || (b || false)) || c) ≡ (a || (b || c))
behind_all true b c = refl
behind_all false true c = refl
behind_all false false c = refl

pub itself : (n : ℕ) → (n == n) ≡ true
itself n = by (n == n) refl
  where
    by : (b : Bool) → (n == n) ≡ b → b ≡ true
    by true e = refl
    by false e = absurd (omega (arith, eqb-false n n e))

turned : (m n : ℕ) → (m == n) ≡ false → (n == m) ≡ false
turned m n e = by (n == m) refl
  where
    by : (b : Bool) → (n == m) ≡ b → b ≡ false
    by true h = absurd (eqb-false m n e (sym (eqb-true n m h)))
    by false h = refl

-- ---- each once

among_has : (p : ℕ → Bool) (t : ℕ) (instants : List ℕ) → is_among t instants ≡ true → p t ≡ true → list_any p instants ≡ true
among_has p t [] there e = absurd (false≢true there)
among_has p t (u ∷ instants) there e = by (λ h. among_has p t instants h e) (u == t) refl there
  where
    by : (is_among t instants ≡ true → list_any p instants ≡ true) → (b : Bool) → (u == t) ≡ b → (b || is_among t instants) ≡ true → (p u || list_any p instants) ≡ true
    by more true same h = ap (λ b. b || list_any p instants) (ap p (eqb-true u t same) ∙ e)
    by more false other h = or_right (p u) (list_any p instants) (more h)

any_behind : (p : ℕ → Bool) (instants times : List ℕ) → list_any p (once_behind instants times) ≡ (list_any p instants || list_any p times)
any_behind p instants [] = or_none (list_any p instants)
any_behind p instants (t ∷ times) = any_behind p (with_instant t instants) times ∙ by (is_among t instants) refl
  where
    by : (b : Bool) → is_among t instants ≡ b → (list_any p (cond b instants (instants ++ t ∷ [])) || list_any p times) ≡ (list_any p instants || (p t || list_any p times))
    by true there = there_already (list_any p instants) (p t) (list_any p times) (among_has p t instants there)
    by false new = ap (λ b. b || list_any p times) (list_any-append p instants (t ∷ [])) ∙ behind_all (list_any p instants) (p t) (list_any p times)

-- what one of the times has, one of the instants has
pub same_any : (p : ℕ → Bool) (times : List ℕ) → list_any p (each_once times) ≡ list_any p times
same_any p times = any_behind p [] times

-- no instant comes twice
abbrev pub IsOnce : List ℕ → Type 0
IsOnce [] = Unit {0}
IsOnce (u ∷ instants) = (is_among u instants ≡ false) × IsOnce instants

once_more : (t : ℕ) (instants : List ℕ) → IsOnce instants → is_among t instants ≡ false → IsOnce (instants ++ t ∷ [])
once_more t [] once new = (refl, tt)
once_more t (u ∷ instants) once new =
    let apart = or_parts (u == t) (is_among t instants) new in
    (list_any-append (λ v. v == u) instants (t ∷ []) ∙ (λ i. once.0 i || (turned u t apart.0 i || false)), once_more t instants once.1 apart.1)

once_still : (instants times : List ℕ) → IsOnce instants → IsOnce (once_behind instants times)
once_still instants [] once = once
once_still instants (t ∷ times) once = once_still (with_instant t instants) times (by (is_among t instants) refl)
  where
    by : (b : Bool) → is_among t instants ≡ b → IsOnce (cond b instants (instants ++ t ∷ []))
    by true there = once
    by false new = once_more t instants once new

pub is_once : (times : List ℕ) → IsOnce (each_once times)
is_once times = once_still [] times tt

-- ---- what is heard

same_over : (o : Opening) (times : List ℕ) → heard_over o (each_once times) ≡ heard_over o times
same_over o times = λ j. filter (λ i. same_any (λ t. lies_between t (entry_at o (key.List i)).ends) times j) (numbers 0 (list_total o))

same_bytes : (o : Opening) (times : List ℕ) → heard_bytes o (each_once times) ≡ heard_bytes o times
same_bytes o times = ap (λ (l : List ℕ). sum (map (λ i. column_length_in (entry_at o (key.List i)) Transient) l)) (same_over o times)

same_events : (names : ℕ) (image : List ℕ) (o : Opening) (times : List ℕ) → heard_events names image o (each_once times) ≡ heard_events names image o times
same_events names image o times = ap (messages_along names image o) (same_over o times)

module _ (told : Option (List ℕ)) (o : Opening) (times instants : List ℕ) (is : instants ≡ each_once times) (before after : ℕ) where
  -- as many bytes are read
  pub taken_once : {A B : Type 0} (x : A) (y : B) → IfSome told (λ image. TakesHeard {A = A} o instants before after (Ok x)) → IfSome told (λ image. TakesHeard {A = B} o times before after (Ok y))
  taken_once {A} {B} x y h =
      let same : heard_bytes o instants ≡ heard_bytes o times = ap (heard_bytes o) is ∙ same_bytes o times in
      told_so told (λ image. TakesHeard {A = A} o instants before after (Ok x)) (λ image. TakesHeard {A = B} o times before after (Ok y))
      (λ image h. record { takes = subst (λ n. Takes n before after) same h.takes; most = subst (λ n. TakesAtMost n before after) same h.most }) h

  pub most_once : {A : Type 0} (r : Result A RecordFault) → IfSome told (λ image. TakesHeard {A = A} o instants before after r) → IfSome told (λ image. TakesAtMost (heard_bytes o times) before after)
  most_once {A} r h =
      told_so told (λ image. TakesHeard {A = A} o instants before after r) (λ image. TakesAtMost (heard_bytes o times) before after)
      (λ image h. subst (λ n. TakesAtMost n before after) (ap (heard_bytes o) is ∙ same_bytes o times) h.most) h

module _ (names : ℕ) (told : Option (List ℕ)) (o : Opening) (times instants : List ℕ) (is : instants ≡ each_once times) where
  same_heard : (image : List ℕ) → heard_events names image o times ≡ heard_events names image o instants
  same_heard image = sym (ap (heard_events names image o) is ∙ same_events names image o times)

  -- the same columns are heard, and the same damage is met
  pub sound_once : IfSome told (λ image. AreHeard names image o instants) → IfSome told (λ image. AreHeard names image o times)
  sound_once h =
      told_so told (λ image. AreHeard names image o instants) (λ image. AreHeard names image o times) (λ image h. (h.0, same_heard image ∙ h.1)) h

  first_once : (image : List ℕ) (f : RecordFault) → IsFirstMessageDamage names image o instants f → IsFirstMessageDamage names image o times f
  first_once image fault.Disk h = tt
  first_once image fault.Memory h = tt
  first_once image (fault.Damaged k col) h = (h.0, same_heard image ∙ h.1, h.2, h.3)

  pub damage_once : {A : Type 0} (r : Result A RecordFault) (f : RecordFault) → IsErr r × IsErrAnd r (λ y. y ≡ f) → IfSome told (λ image. IsFirstMessageDamage names image o instants f)
      → IfSome told (λ image. TellsMessageDamage names o times image r)
  damage_once {A} (Ok x) f on h = absurd (false≢true on.0)
  damage_once {A} (Err e) f on h =
      subst (λ (g : RecordFault). IfSome told (λ image. IsFirstMessageDamage names image o times g)) (sym on.1)
      (told_so told (λ image. IsFirstMessageDamage names image o instants f) (λ image. IsFirstMessageDamage names image o times f) (λ image. first_once image f) h)

-- ---- what the times have

set_at : (f : ℕ → List Element) (t : ℕ) (instants : List ℕ) → is_among t instants ≡ true → set_of t instants (map f instants) ≡ f t
set_at f t [] there = absurd (false≢true there)
set_at f t (u ∷ instants) there = by (set_at f t instants) (u == t) refl there
  where
    by : (is_among t instants ≡ true → set_of t instants (map f instants) ≡ f t) → (b : Bool) → (u == t) ≡ b → (b || is_among t instants) ≡ true → cond b (f u) (set_of t instants (map f instants)) ≡ f t
    by more true same h = ap f (eqb-true u t same)
    by more false other h = more h

sets_at : (f : ℕ → List Element) (instants times : List ℕ) → ((t : ℕ) → is_among t times ≡ true → is_among t instants ≡ true) → sets_for instants (map f instants) times ≡ map f times
sets_at f instants [] inside = refl
sets_at f instants (t ∷ times) inside =
    let first = set_at f t instants (inside t (ap (λ b. b || is_among t times) (itself t))) in
    let rest = sets_at f instants times (λ u e. inside u (or_right (t == u) (is_among u times) e)) in
    λ i. first i ∷ rest i

-- each of the times is among the instants
pub among_once : (times instants : List ℕ) → instants ≡ each_once times → (t : ℕ) → is_among t times ≡ true → is_among t instants ≡ true
among_once times instants is t e = ap (is_among t) is ∙ same_any (λ u. u == t) times ∙ e

pub told_for : (names : ℕ) (told : Option (List ℕ)) (o : Opening) (recent : List Event) (times instants : List ℕ) (sets : List (List Element)) → instants ≡ each_once times
    → IfSome told (λ image. AreToldIn names image o recent instants sets) → IfSome told (λ image. AreToldIn names image o recent times (sets_for instants sets times))
told_for names told o recent times instants sets is h =
    told_so told (λ image. AreToldIn names image o recent instants sets) (λ image. AreToldIn names image o recent times (sets_for instants sets times))
    (λ image h. (
      h.0,
      same_heard names told o times instants is image ∙ h.1,
      ap (λ l. sets_for instants l times) h.2 ∙ sets_at (told_at (h.0 ++ recent)) instants times (among_once times instants is),
    )) h

set_named : (names t : ℕ) (instants : List ℕ) (sets : List (List Element)) → All (NamesAreThere names) sets → NamesAreThere names (set_of t instants sets)
set_named names t [] sets all = λ x there. absurd (false≢true there)
set_named names t (u ∷ instants) [] all = λ x there. absurd (false≢true there)
set_named names t (u ∷ instants) (set ∷ sets) all = by (set_named names t instants sets (All-tail (NamesAreThere names) set sets all)) (u == t)
  where
    by : NamesAreThere names (set_of t instants sets) → (b : Bool) → NamesAreThere names (cond b set (set_of t instants sets))
    by more true = All-head (NamesAreThere names) set sets all
    by more false = more

pub named_for : (names : ℕ) (instants : List ℕ) (sets : List (List Element)) (times : List ℕ) → All (NamesAreThere names) sets → All (NamesAreThere names) (sets_for instants sets times)
named_for names instants sets times all =
    All-map (NamesAreThere names) (λ t. set_of t instants sets) times (λ k d lt. set_named names (get_or times k d) instants sets all)
