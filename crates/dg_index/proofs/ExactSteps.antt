-- Chains of exact deltas from node to node.
use Rattle.std.proofs.Common.{◌≡◌, List, [], ◌∷◌, map, refl, ap, ◌∙◌}
use Rattle.dg_graph.specs.declared.element.Element.{Element}
use Rattle.dg_graph.specs.Composition.{Delta, between, chained}
use Rattle.dg_graph.specs.Elements.{IsSet}
use Rattle.dg_index.specs.ExactSteps.{ways_on, downs}
use Rattle.dg_graph.proofs.DifferentialFunctionDeltas.{AreSets, chained_between}

-- the exact deltas from each set to the next one
abbrev pub steps_between : List Element → List (List Element) → List Delta
steps_between s [] = []
steps_between s (t ∷ ts) = between s t ∷ steps_between t ts

pub ways_are : (s t : List Element) (ts : List (List Element)) → IsSet s → AreSets (t ∷ ts) → ways_on (between s t) (steps_between t ts) ≡ map (λ (r : List Element). between s r) ts
ways_are s t [] is all = refl
ways_are s t (u ∷ ts) is all =
    let one = chained_between s t u is all.0 all.1.0 in
    (λ i. one i ∷ ways_on (one i) (steps_between u ts)) ∙ ap (λ (l : List Delta). between s u ∷ l) (ways_are s u ts is all.1)

-- from the interior node to its children
pub downs_are : (c s : List Element) (rest : List (List Element)) → IsSet c → IsSet s → AreSets rest
    → downs (between s c) (map (λ (r : List Element). between s r) rest) ≡ map (λ (r : List Element). between c r) (s ∷ rest)
downs_are c s rest ic is all = ap (λ (l : List Delta). between c s ∷ l) (by rest all)
  where
    by : (rest : List (List Element)) → AreSets rest → map (λ (d : Delta). chained (between c s) d) (map (λ (r : List Element). between s r) rest) ≡ map (λ (r : List Element). between c r) rest
    by [] all = refl
    by (r ∷ rest) all = λ i. chained_between c s r ic is all.0 i ∷ by rest all.1 i
