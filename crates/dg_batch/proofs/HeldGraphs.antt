-- The names of graphs stay there when names come.
use Rattle.std.proofs.Common.{ℕ, ◌≤◌, List, [], ◌∷◌, arith}
use Rattle.std.specs.List.{All}
use Rattle.std.proofs.lemmas.List.Elements.{All-cons, All-head, All-nil, All-tail}
use Rattle.dg_graph.specs.declared.element.Element.{Element}
use Rattle.dg_graph.specs.declared.element.Element.TheVariants as element
use Rattle.dg_retrieval.specs.NamesThere.{HasNamesThere, NamesAreThere}

has_more : (n m : ℕ) → n ≤ m → (x : Element) → HasNamesThere n x → HasNamesThere m x
has_more n m le (element.Node id) h = tt
has_more n m le (element.Edge directed id src dst) h = tt
has_more n m le (element.NodeAttr id key value) h = (omega (arith, le, h.0), omega (arith, le, h.1))
has_more n m le (element.EdgeAttr id key value) h = (omega (arith, le, h.0), omega (arith, le, h.1))
has_more n m le (element.Message src dst value) h = omega (arith, le, h)

pub names_more : (n m : ℕ) → n ≤ m → (sets : List (List Element)) → All (NamesAreThere n) sets → All (NamesAreThere m) sets
names_more n m le [] h = All-nil (NamesAreThere m)
names_more n m le (set ∷ sets) h =
    All-cons (NamesAreThere m) set sets (λ x has. has_more n m le x (All-head (NamesAreThere n) set sets h x has)) (names_more n m le sets (All-tail (NamesAreThere n) set sets h))
