-- From one node of a tree to another: what is kept of its steps comes to the exact step between them.
use Rattle.std.proofs.Common.{◌≡◌, ◌⊎◌, inl, inr, ◌<◌, ◌+◌, ◌-◌, Bool, true, false, cond, ℕ, List, [], ◌∷◌, ◌++◌, length, get_or, map, take, refl, sym, ap, subst, ◌∙◌, arith, reverse, suc, drop, None, slice_get}
use Rattle.std.proofs.lemmas.Bool.{cases_eq}
use Rattle.std.specs.Global.{Vec}
use Rattle.std.specs.List.{All}
use Rattle.std.proofs.lemmas.List.{append-nil, map-append, reverse-append, take_more, get_or_append_left, get_or_push, length_push}
use Rattle.std.proofs.lemmas.List.Elements.{All-weaker}
use Rattle.dg_fold.specs.declared.part.Part.{Part}
use Rattle.dg_fold.specs.Steps.{PartedStep, names_record, paired}
use Rattle.dg_graph.specs.Composition.{Delta, nothing}
use Rattle.dg_history.specs.declared.node.NodeId.{NodeId}
use Rattle.dg_history.specs.declared.node.NodeId.TheVariants.{Root}
use Rattle.dg_plan.specs.declared.edge.Edge.{Edge}
use Rattle.dg_steps.specs.declared.crossing.Crossing.{Crossing}
use Rattle.dg_steps.specs.TreeSteps.{AreStepsBetween, IsStepBetween, way_back}
use Rattle.dg_steps.specs.TreeStepWalks.{AreKept, GoesBackOver, IsOver, backs, is_own, ons, own_steps}
use Rattle.dg_steps.proofs.CrossingSteps.{Has, backs_both, come_to_both, ons_both}
use Rattle.dg_steps.proofs.SharedPaths.{edges_in, go_apart}

-- ---- the deltas of a node's own steps

module _ (n m i : ℕ) (kept : List Crossing) (c : Crossing) (h : i < length kept) (here : c ≡ get_or kept i c) where
  grown : take (i + 1) kept ≡ take i kept ++ c ∷ []
  grown = take_more kept i c h ∙ ap (λ x. take i kept ++ x ∷ []) (sym here)

  pub ons_more : {A : Type 0} (f : A → Delta) (old new : List A) (x : A) → map f old ≡ ons n m (take i kept) → is_own m n c.takes.items ≡ true → f x ≡ c.on → new ≡ old ++ x ∷ []
      → map f new ≡ ons n m (take (i + 1) kept)
  ons_more f old new x known own same is =
      ap (map f) is ∙ map-append f old (x ∷ []) ∙ (λ j. known j ++ same j ∷ [])
      ∙ sym (ap (ons n m) grown ∙ ons_both n m (take i kept) (c ∷ []) ∙ ap (λ b. ons n m (take i kept) ++ cond b (c.on ∷ []) []) own)

  pub ons_still : (deltas : List Delta) → deltas ≡ ons n m (take i kept) → is_own m n c.takes.items ≡ false → deltas ≡ ons n m (take (i + 1) kept)
  ons_still deltas known own =
      known ∙ sym (ap (ons n m) grown ∙ ons_both n m (take i kept) (c ∷ []) ∙ ap (λ b. ons n m (take i kept) ++ cond b (c.on ∷ []) []) own ∙ append-nil (ons n m (take i kept)))

  pub backs_more : {A : Type 0} (f : A → Delta) (old new : List A) (x : A) → map f (reverse old) ≡ backs n m (take i kept) → is_own n m c.takes.items ≡ true → f x ≡ c.back → new ≡ old ++ x ∷ []
      → map f (reverse new) ≡ backs n m (take (i + 1) kept)
  backs_more f old new x known own same is =
      ap (λ l. map f l) (ap reverse is ∙ reverse-append old (x ∷ [])) ∙ (λ j. same j ∷ known j)
      ∙ sym (ap (backs n m) grown ∙ backs_both n m (take i kept) (c ∷ []) ∙ ap (λ b. cond b (c.back ∷ []) [] ++ backs n m (take i kept)) own)

  pub backs_still : (deltas : List Delta) → deltas ≡ backs n m (take i kept) → is_own n m c.takes.items ≡ false → deltas ≡ backs n m (take (i + 1) kept)
  backs_still deltas known own =
      known ∙ sym (ap (backs n m) grown ∙ backs_both n m (take i kept) (c ∷ []) ∙ ap (λ b. cond b (c.back ∷ []) [] ++ backs n m (take i kept)) own)

-- ---- steps from each of so many nodes to the next one

-- What is known when there are so many steps.
pub record Stepped (kept : List Crossing) (n : ℕ) (steps : List Delta) : Type 0 where
  pub count : length steps ≡ n
  pub each : (k : ℕ) → k < n → IsOver k (k + 1) kept (get_or steps k nothing)

pub stepped_none : (kept : List Crossing) (steps : List Delta) → steps ≡ [] → Stepped kept 0 steps
stepped_none kept steps none = record {
  count = ap length none;
  each = λ k less. absurd (omega arith);
}

pub stepped_on : (kept : List Crossing) (n : ℕ) (steps new : List Delta) (d : Delta) → Stepped kept n steps → IsOver n (n + 1) kept d → new ≡ steps ++ d ∷ [] → Stepped kept (n + 1) new
stepped_on kept n steps new d s is grown = record {
  count = ap length grown ∙ length_push steps d ∙ ap (λ k. k + 1) s.count;
  each = λ k less. subst (λ l. IsOver k (k + 1) kept (get_or l k nothing)) (sym grown) (by k (below k less (cases_eq k n)));
}
  where
    below : (k : ℕ) → k < n + 1 → (k ≡ n) ⊎ (k ≡ n → ⊥) → (k < n) ⊎ (k ≡ n)
    below k less (inl same) = inr same
    below k less (inr apart) = inl (grind arith)

    by : (k : ℕ) → (k < n) ⊎ (k ≡ n) → IsOver k (k + 1) kept (get_or (steps ++ d ∷ []) k nothing)
    by k (inl less) = subst (IsOver k (k + 1) kept) (sym (get_or_append_left steps (d ∷ []) nothing k (let c = s.count in omega arith))) (s.each k less)
    by k (inr same) =
        subst (IsOver k (k + 1) kept) (sym (get_or_push steps d nothing k (let c = s.count in omega arith)))
        (subst (λ a. IsOver a (a + 1) kept d) (sym same) is)

-- ---- between the nodes of a tree

paired_edges : (edges : List Edge) (parts : List Part) → edges_in (paired edges parts) ≡ edges
paired_edges [] parts = refl
paired_edges (e ∷ edges) parts = by (names_record e.via) (paired_edges edges)
  where
    by : (b : Bool) → ((rest : List Part) → edges_in (paired edges rest) ≡ edges) → edges_in (cond b ((e, slice_get parts 0) ∷ paired edges (drop 1 parts)) ((e, None) ∷ paired edges parts)) ≡ e ∷ edges
    by true again = ap (λ l. e ∷ l) (again (drop 1 parts))
    by false again = ap (λ l. e ∷ l) (again parts)

step_between : (names : ℕ) (all : List PartedStep) (takes : List (Vec Bool)) (kept : List Crossing) (n m : ℕ) (u v : NodeId)
    → GoesBackOver n u (edges_in all) takes Root → GoesBackOver m v (edges_in all) takes Root → AreKept names n m all takes kept → AreKept names m n all takes kept
    → (d : Delta) → IsOver n m kept d → IsStepBetween names all u v d
step_between names all takes kept n m u v g h there here d o =
    let to_u = own_steps n m all takes in
    let to_v = own_steps m n all takes in
    let on = come_to_both names (way_back to_u) to_v (backs n m kept) (ons n m kept) there.0 there.1 in
    let back = come_to_both names (way_back to_v) to_u (backs m n kept) (ons m n kept) here.0 here.1 in
    record {
      to_u = to_u;
      to_v = to_v;
      apart = go_apart n m u v all takes g h;
      on = o.0;
      back = o.1;
      on_is = o.2;
      back_is = o.3;
      leads_on = (on.0, on.1, λ x. o.4 x ∙ on.2 x);
      leads_back = (back.0, back.1, λ x. o.5 x ∙ back.2 x);
      exact = o.6;
    }

in_turn : (names : ℕ) (all : List PartedStep) (nodes : List NodeId) (steps : List Delta) → length steps ≡ length nodes - 1
    → ((k : ℕ) → suc k < length nodes → IsStepBetween names all (get_or nodes k Root) (get_or nodes (suc k) Root) (get_or steps k nothing))
    → AreStepsBetween names all nodes steps
in_turn names all [] [] count each = tt
in_turn names all [] (d ∷ steps) count each = absurd (omega arith)
in_turn names all (u ∷ []) [] count each = tt
in_turn names all (u ∷ []) (d ∷ steps) count each = absurd (omega arith)
in_turn names all (u ∷ v ∷ nodes) [] count each = absurd (omega arith)
in_turn names all (u ∷ v ∷ nodes) (d ∷ steps) count each =
    (each 0 (omega arith), in_turn names all (v ∷ nodes) steps (omega arith) (λ k less. each (suc k) (omega arith)))

pub are_between : (names : ℕ) (edges : List Edge) (parts : List Part) (nodes : List NodeId) (paths : List (Vec Bool)) (kept : List Crossing) (steps : List Delta)
    → ((n : ℕ) → n < length nodes → GoesBackOver n (get_or nodes n Root) edges (reverse paths) Root)
    → All (λ (f : Vec Bool). length f.items ≡ length nodes) paths
    → ((n m : ℕ) → All (Has n m) paths → AreKept names n m (paired edges parts) (reverse paths) kept)
    → length steps ≡ length nodes - 1 → ((n : ℕ) → n + 1 < length nodes → IsOver n (n + 1) kept (get_or steps n nothing))
    → AreStepsBetween names (paired edges parts) nodes steps
are_between names edges parts nodes paths kept steps back every known count each =
    let all = paired edges parts in
    in_turn names all nodes steps count
    (λ k less.
    let next : k + 1 ≡ suc k = omega arith in
    step_between names all (reverse paths) kept k (suc k) (get_or nodes k Root) (get_or nodes (suc k) Root)
    (path k (omega arith)) (path (suc k) less) (keeps k (suc k) (omega arith) less) (keeps (suc k) k less (omega arith))
    (get_or steps k nothing) (subst (λ j. IsOver k j kept (get_or steps k nothing)) next (each k (omega arith))))
  where
    path : (n : ℕ) → n < length nodes → GoesBackOver n (get_or nodes n Root) (edges_in (paired edges parts)) (reverse paths) Root
    path n less = subst (λ l. GoesBackOver n (get_or nodes n Root) l (reverse paths) Root) (sym (paired_edges edges parts)) (back n less)

    keeps : (n m : ℕ) → n < length nodes → m < length nodes → AreKept names n m (paired edges parts) (reverse paths) kept
    keeps n m less small =
        known n m (All-weaker (λ (f : Vec Bool). length f.items ≡ length nodes) (Has n m) (λ f long. (omega arith, omega arith)) paths every)
