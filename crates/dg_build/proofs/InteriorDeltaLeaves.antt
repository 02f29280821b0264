-- The new leaves, list after list.
use Rattle.std.proofs.Common.{◌≡◌, ℕ, zero, suc, ◌+◌, ◌-◌, ◌*◌, ◌/◌, ◌<◌, ◌≤◌, List, [], ◌∷◌, ◌++◌, length, map, take, drop, sym, ap, subst, ◌∙◌, arith, take-append-drop, div-mul-le_self, ⊎_elim, ◌⊎◌, inl, inr}
use lib.Seq.{take-append-le}
use Rattle.std.proofs.lemmas.List.{map-append}
use Rattle.dg_graph.specs.declared.element.Element.{Element}
use Rattle.dg_graph.specs.declared.event.Event.{Event}
use Rattle.dg_history.specs.declared.params.Params.{Params}
use Rattle.dg_graph.specs.Composition.{Delta, between}
use Rattle.dg_graph.specs.Elements.{IsSet}
use Rattle.dg_graph.specs.Replay.{replay, replay_from}
use Rattle.dg_index.specs.Hierarchy.{numbers, leaves, set_at}
use Rattle.dg_graph.specs.ExactEvents.{AreChangesOf}
use Rattle.dg_graph.proofs.ExactEvents.{IsSet-replay_from, replay_append}
use Rattle.dg_index.specs.IndexRecords.{closed_list, recent_of, deltas_due}
use Rattle.dg_index.specs.ExactSteps.{steps_at}
use Rattle.dg_index.proofs.HierarchyCounts.{numbers_append}
use Rattle.dg_index.proofs.HierarchySteps.{IsSet-node}
use Rattle.dg_index.proofs.HierarchyStability.{leaf_next, list_cut}
use Rattle.dg_build.specs.InteriorDeltas.{AreNewNodes}
use Rattle.dg_build.specs.GivenDeltas.{IsExactNet, gone_back}
use Rattle.dg_build.specs.OlderSteps.{AreOlderSteps, first_in_time, last_leaf, older_in_time}
use Rattle.dg_net.proofs.ExactEventCuts.{changes_behind, changes_cut, changes_front}
use Rattle.dg_build.proofs.InteriorDeltaHeights.{all_heights}
use Rattle.dg_build.proofs.OlderSteps.{div_one, div_mono}
use Rattle.dg_build.proofs.StepsBack.{back_to_first}

-- the net of a new list is the step to the next leaf
pub leaf_step : (p : Params) (before more : List Event) (i : ℕ) (tail cut : List Event) (d : Delta) → 1 ≤ p.l → tail ≡ recent_of p before ++ more → AreChangesOf [] (before ++ more)
    → cut ≡ take p.l (drop (i * p.l) tail) → IsExactNet cut d
    → d ≡ between (set_at p (before ++ more) 0 (leaves p (length before) + i)) (set_at p (before ++ more) 0 (leaves p (length before) + i + 1))
leaf_step p before more i tail cut d some is_tail changes cut_is net =
    let all : List Event = before ++ more in
    let j : ℕ = leaves p (length before) + i in
    let at : List Element = set_at p all 0 j in
    let is : cut ≡ closed_list p all j = cut_is ∙ (λ x. take p.l (drop (i * p.l) (is_tail x))) ∙ sym (list_cut p before more i (omega (arith, some))) in
    let here : AreChangesOf at (closed_list p all j) = changes_front at p.l (drop (j * p.l) all) (changes_behind [] (j * p.l) all changes) in
    net at (IsSet-node p all 0 j) (subst (AreChangesOf at) (sym is) here) ∙ ap (between at) (ap (replay_from at) is ∙ sym (leaf_next p all j))

-- and that of the first one to the first new leaf
pub leaf_first : (p : Params) (before more : List Event) (tail cut : List Event) (d : Delta) → 1 ≤ p.l → tail ≡ recent_of p before ++ more → AreChangesOf [] (before ++ more)
    → cut ≡ take p.l tail → IsExactNet cut d → d ≡ between (set_at p (before ++ more) 0 (leaves p (length before))) (set_at p (before ++ more) 0 (leaves p (length before) + 1))
leaf_first p before more tail cut d some is_tail changes cut_is net =
    let all : List Event = before ++ more in
    let m : ℕ = leaves p (length before) in
    leaf_step p before more 0 tail cut d some is_tail changes (cut_is ∙ ap (λ n. take p.l (drop n tail)) (let e : 0 ≡ 0 * p.l = omega arith in e)) net
    ∙ ap (λ n. between (set_at p all 0 n) (set_at p all 0 (n + 1))) (let e : m + 0 ≡ m = omega arith in e)

pub record StepsSoFar (p : Params) (all : List Event) (m i : ℕ) (steps : List Delta) : Type 0 where
  pub are : steps ≡ steps_at p all 0 (m + 1) (i - 1)

pub steps_next : (p : Params) (before more : List Event) (i : ℕ) (tail cut : List Event) (d : Delta) (steps steps2 : List Delta) → 1 ≤ p.l → 1 ≤ i → tail ≡ recent_of p before ++ more → AreChangesOf [] (before ++ more)
    → cut ≡ take p.l (drop (i * p.l) tail) → IsExactNet cut d → steps2 ≡ steps ++ d ∷ [] → StepsSoFar p (before ++ more) (leaves p (length before)) i steps → StepsSoFar p (before ++ more) (leaves p (length before)) (i + 1) steps2
steps_next p before more i tail cut d steps steps2 some far is_tail changes cut_is net more_is so =
    let all : List Event = before ++ more in
    let m : ℕ = leaves p (length before) in
    let f = λ (c : ℕ). between (set_at p all 0 c) (set_at p all 0 (c + 1)) in
    let offset : m + i ≡ m + 1 + (i - 1) = omega (arith, far) in
    record {
      are = more_is ∙ (λ x. so.are x ++ (leaf_step p before more i tail cut d some is_tail changes cut_is net ∙ ap f offset) x ∷ [])
          ∙ sym (map-append f (numbers (m + 1) (i - 1)) (numbers (m + 1 + (i - 1)) 1)) ∙ ap (map f) (sym (numbers_append (m + 1) (i - 1) 1)) ∙ ap (steps_at p all 0 (m + 1)) (let e : i - 1 + 1 ≡ i + 1 - 1 = omega (arith, far) in e);
    }

-- ---- the last leaf that was there before

-- the last leaf is as it was
leaf_kept : (p : Params) (before more : List Event) → set_at p (before ++ more) 0 (leaves p (length before)) ≡ last_leaf p before
leaf_kept p before more = ap replay (take-append-le (leaves p (length before) * p.l) before more (div-mul-le_self (length before) p.l))

-- from there the current graph is led back to where the deltas from the root start
pub base_back : (p : Params) (before more recent : List Event) (after : ℕ) (steps : List Delta) (now base : List Element) → 1 ≤ p.l → recent ≡ recent_of p before → now ≡ replay before → AreChangesOf [] (before ++ more) → AreOlderSteps p before after steps
    → ((set : List Element) → IsSet set → AreChangesOf set recent → now ≡ replay_from set recent → base ≡ gone_back steps set) → base ≡ first_in_time p before after
base_back p before more recent after steps now base some recent_is now_is changes are leads =
    let n : ℕ = leaves p (length before) * p.l in
    let at : List Element = last_leaf p before in
    let here : AreChangesOf at recent = subst (AreChangesOf at) (sym recent_is) (changes_behind [] n before (changes_cut [] before more changes).0) in
    let all : now ≡ replay_from at recent = now_is ∙ ap replay (sym (take-append-drop n before)) ∙ replay_append [] (take n before) (drop n before) ∙ ap (replay_from at) (sym recent_is) in
    let set : IsSet at = IsSet-replay_from (take n before) [] tt in
    leads at set here all ∙ ap (λ (l : List Delta). gone_back l at) are ∙ back_to_first p before (older_in_time p.k (leaves p (length before)) after) at set

-- the new leaves up to those that the batch has
pub new_up_to : (p : Params) (before more : List Event) (m after : ℕ) (up : Delta) (steps : List Delta) → leaves p (length before) ≡ m → m < after
    → AreNewNodes p (before ++ more) 0 (leaves p (length before)) (leaves p (length before) + (after - m)) (set_at p (before ++ more) 0 (leaves p (length before))) up steps
    → AreNewNodes p (before ++ more) 0 m after (last_leaf p before) up steps
new_up_to p before more m after up steps em lt new =
    let all : List Event = before ++ more in
    let n : ℕ = leaves p (length before) in
    let end : n + (after - m) ≡ after = omega (arith, em, lt) in
    subst (λ x. AreNewNodes p all 0 x after (last_leaf p before) up steps) em
    (subst (λ x. AreNewNodes p all 0 n x (last_leaf p before) up steps) end (subst (λ (s : List Element). AreNewNodes p all 0 n (n + (after - m)) s up steps) (leaf_kept p before more) new))

-- ---- where none is due

pub none_at_all : (k m after : ℕ) → 2 ≤ k → after / k ≤ m / k → deltas_due k m after ≡ []
none_at_all k m after two le = sym (all_heights k m after m after 0 two (sym (div_one m k)) (sym (div_one after k)) (omega arith) le)

pub more_there : (k m after : ℕ) → 2 ≤ k → m / k < after / k → m < after
more_there k m after two lt = by m after (λ le. div_mono after m k two le) lt
  where
    by : (a b : ℕ) → (b ≤ a → b / k ≤ a / k) → a / k < b / k → a < b
    by a b mono lt = ⊎_elim (λ (l : a < b). l) (λ (g : b ≤ a). absurd (omega (arith, lt, mono g))) (compared a b)
      where
        compared : (a b : ℕ) → (a < b) ⊎ (b ≤ a)
        compared zero zero = inr (omega arith)
        compared zero (suc b) = inl (omega arith)
        compared (suc a) zero = inr (omega arith)
        compared (suc a) (suc b) = ⊎_elim (λ (l : a < b). inl (let r : suc a < suc b = omega (arith, l) in r)) (λ (g : b ≤ a). inr (let r : suc b ≤ suc a = omega (arith, g) in r)) (compared a b)
