-- What an expression chooses hangs on the graphs as of its instants alone.
use Rattle.std.proofs.Common.{◌≡◌, inl, inr, ℕ, ◌||◌, Bool, true, false, not, ◌&&◌, List, [], ◌∷◌, cond, filter, length, map, refl, sym, ◌∙◌, ap, subst, arith}
use Rattle.std.specs.Prelude.{Err, IfOk, Ok, Result, nat_eq}
use Rattle.std.specs.List.{All, list_all, list_any}
use Rattle.std.proofs.lemmas.Bool.{and_parts, eq-eqb, false≢true, not-false, or_cases, or_parts}
use Rattle.std.proofs.lemmas.List.Elements.{All-head, All-tail}
use Rattle.dg_expr.proofs.Expressions.{selected_is}
use Rattle.dg_expr.specs.declared.expression.Word.{Word}
use Rattle.dg_expr.specs.Chosen.{all_of, chosen, holds}
use Rattle.dg_expr.specs.Expressions.{distinct, instants_of}
use Rattle.dg_graph.specs.declared.element.Element.{Element}
use Rattle.dg_graph.specs.Elements.{has}
use Rattle.dg_graph.proofs.Sets.{has-unioned}
use Rattle.dg_retrieval.proofs.PutElements.{of_filtered}
use Rattle.dg_retrieval.specs.NamesThere.{HasNamesThere, NamesAreThere}

-- ---- by the graphs as of its instants

-- what is chosen of graphs that are the same at these
pub chosen_same : (ws : List Word) (f g : ℕ → List Element) → map f (instants_of ws) ≡ map g (instants_of ws) → chosen ws f ≡ chosen ws g
chosen_same ws f g same = sym (selected_is ws f (map f (instants_of ws)) refl) ∙ selected_is ws g (map f (instants_of ws)) same

-- at each of these that pass
pub same_at_each : (pass : ℕ → Bool) (f g : ℕ → List Element) (times : List ℕ) → ((t : ℕ) → pass t ≡ true → f t ≡ g t) → list_all pass times ≡ true → map f times ≡ map g times
same_at_each pass f g [] each all = refl
same_at_each pass f g (t ∷ times) each all =
    let parts = and_parts (pass t) (list_all pass times) all in
    λ i. each t parts.0 i ∷ same_at_each pass f g times each parts.1 i

-- where what passes one test passes another, and none fails the one, none fails the other
pub none_fails : (p q : ℕ → Bool) (times : List ℕ) → ((t : ℕ) → p t ≡ true → q t ≡ true) → list_any (λ t. not (p t)) times ≡ false → list_any (λ t. not (q t)) times ≡ false
none_fails p q [] each none = refl
none_fails p q (t ∷ times) each none =
    let parts = or_parts (not (p t)) (list_any (λ u. not (p u)) times) none in
    λ i. not (each t (not-false (p t) parts.0) i) || none_fails p q times each parts.1 i

-- where none fails all pass
pub all_pass : (p : ℕ → Bool) (times : List ℕ) → list_any (λ t. not (p t)) times ≡ false → list_all p times ≡ true
all_pass p [] none = refl
all_pass p (t ∷ times) none = by (p t) (all_pass p times) none
  where
    by : (b : Bool) → (list_any (λ u. not (p u)) times ≡ false → list_all p times ≡ true) → (not b || list_any (λ u. not (p u)) times) ≡ false → (b && list_all p times) ≡ true
    by true rest e = rest e
    by false rest e = absurd (false≢true (sym e))

-- ---- graphs by their instants

-- the set beside the instant, and none where it is not among these
abbrev pub beside : List ℕ → List (List Element) → ℕ → List Element
beside [] sets t = []
beside (u ∷ times) [] t = []
beside (u ∷ times) (set ∷ sets) t = cond (nat_eq t u) set (beside times sets t)

-- none of these is this one
abbrev IsApart : ℕ → List ℕ → Type 0
IsApart t [] = Unit {0}
IsApart t (u ∷ times) = (nat_eq u t ≡ false) × IsApart t times

-- no two are the same
abbrev AreApart : List ℕ → Type 0
AreApart [] = Unit {0}
AreApart (t ∷ times) = IsApart t times × AreApart times

apart_left : (t : ℕ) (p : ℕ → Bool) (times : List ℕ) → IsApart t times → IsApart t (filter p times)
apart_left t p [] h = tt
apart_left t p (u ∷ times) h = by (p u) (apart_left t p times h.1)
  where
    by : (b : Bool) → IsApart t (filter p times) → IsApart t (cond b (u ∷ filter p times) (filter p times))
    by true rest = (h.0, rest)
    by false rest = rest

all_left : (p : ℕ → Bool) (times : List ℕ) → AreApart times → AreApart (filter p times)
all_left p [] h = tt
all_left p (u ∷ times) h = by (p u) (all_left p times h.1)
  where
    by : (b : Bool) → AreApart (filter p times) → AreApart (cond b (u ∷ filter p times) (filter p times))
    by true rest = (apart_left u p times h.0, rest)
    by false rest = rest

without_one : (t : ℕ) (times : List ℕ) → IsApart t (filter (λ u. not (nat_eq u t)) times)
without_one t [] = tt
without_one t (u ∷ times) = by (nat_eq u t) refl (without_one t times)
  where
    by : (b : Bool) → nat_eq u t ≡ b → IsApart t (filter (λ v. not (nat_eq v t)) times) → IsApart t (cond (not b) (u ∷ filter (λ v. not (nat_eq v t)) times) (filter (λ v. not (nat_eq v t)) times))
    by true is rest = rest
    by false is rest = (is, rest)

distinct_apart : (times : List ℕ) → AreApart (distinct times)
distinct_apart [] = tt
distinct_apart (t ∷ times) = (without_one t (distinct times), all_left (λ u. not (nat_eq u t)) (distinct times) (distinct_apart times))

past_first : (t : ℕ) (set : List Element) (times : List ℕ) (sets : List (List Element)) (asked : List ℕ) → IsApart t asked → map (beside (t ∷ times) (set ∷ sets)) asked ≡ map (beside times sets) asked
past_first t set times sets [] h = refl
past_first t set times sets (u ∷ asked) h = λ i. cond (h.0 i) set (beside times sets u) ∷ past_first t set times sets asked h.1 i

each_beside : (times : List ℕ) (sets : List (List Element)) → AreApart times → length sets ≡ length times → sets ≡ map (beside times sets) times
each_beside [] [] h many = refl
each_beside [] (set ∷ sets) h many = absurd (omega (arith, many))
each_beside (t ∷ times) [] h many = absurd (omega (arith, many))
each_beside (t ∷ times) (set ∷ sets) h many =
    let first : nat_eq t t ≡ true = eq-eqb t t refl in
    let rest : sets ≡ map (beside (t ∷ times) (set ∷ sets)) times = each_beside times sets h.1 (omega (arith, many)) ∙ sym (past_first t set times sets times h.0) in
    λ i. sym (ap (λ b. cond b set (beside times sets t)) first) i ∷ rest i

-- sets, one for each instant of an expression, are graphs as of these
pub as_graphs : (ws : List Word) (sets : List (List Element)) → length sets ≡ length (instants_of ws) → sets ≡ map (beside (instants_of ws) sets) (instants_of ws)
as_graphs ws sets many = each_beside (instants_of ws) sets (distinct_apart _) many

-- ---- names

module _ (n : ℕ) where
  all_there : (sets : List (List Element)) → All (NamesAreThere n) sets → NamesAreThere n (all_of sets)
  all_there [] h x there = absurd (false≢true there)
  all_there (set ∷ sets) h x there = elim (or_cases (has set x) (has (all_of sets) x) (sym (has-unioned set (all_of sets) x) ∙ there)) [
    | inl here ↦ All-head (NamesAreThere n) set sets h x here
    | inr later ↦ all_there sets (All-tail (NamesAreThere n) set sets h) x later
  ]

  -- what is chosen of sets has names that these have
  pub there_chosen : (ws : List Word) (sets : List (List Element)) (set : List Element) → length sets ≡ length (instants_of ws) → All (NamesAreThere n) sets
      → ((graph : ℕ → List Element) → sets ≡ map graph (instants_of ws) → set ≡ chosen ws graph) → NamesAreThere n set
  there_chosen ws sets set many h is =
      let graph : ℕ → List Element = beside (instants_of ws) sets in
      let here : sets ≡ map graph (instants_of ws) = as_graphs ws sets many in
      subst (NamesAreThere n) (sym (is graph here))
      (of_filtered (HasNamesThere n) (λ x. holds ws x graph) (all_of (map graph (instants_of ws)))
      (all_there (map graph (instants_of ws)) (subst (λ (l : List (List Element)). All (NamesAreThere n) l) here h)))

-- ---- results

-- what holds of a value where another does
pub if_ok : {A E : Type 0} (r : Result A E) (P Q : A → Type 0) → ((x : A) → P x → Q x) → IfOk r P → IfOk r Q
if_ok (Ok x) P Q f p = f x p
if_ok (Err e) P Q f p = tt
