-- What the graph of an index is made of.
use Rattle.std.specs.Prelude.{ℕ, ◌/◌, Bool, List, map}
use Rattle.std.specs.List.{All, Contains}
use Rattle.dg_graph.specs.declared.element.Columns.{Columns}
use Rattle.dg_history.specs.declared.node.Key.{Key}
use Rattle.dg_history.specs.declared.node.NodeId.{NodeId}
use Rattle.dg_plan.specs.IndexGraph.{Ground, nodes_of}
use Rattle.dg_catalogue.specs.declared.shape.Shape.{Shape}
use Rattle.dg_catalogue.specs.Entries.{Holdings}
use Rattle.dg_planner.specs.declared.build.Base.{Base}
use Rattle.dg_planner.specs.AskedLengths.{asked_length_of}

abbrev pub base_of : Base → ℕ × NodeId
base_of b = (b.handle, b.node)

abbrev pub ground_with : ℕ → ℕ → Bool → List Base → (Key → ℕ) → Ground
ground_with leaves arity memory bases weight = record { leaves = leaves; arity = arity; bases = map base_of bases; memory = memory; weight = weight }

-- by the shape of the index, and each record by the bytes of its asked columns
abbrev pub ground_of : Shape → Holdings → Columns → List Base → Bool → Ground
ground_of shape catalogue cols bases memory =
    record { leaves = shape.events / shape.l; arity = shape.k; bases = map base_of bases; memory = memory; weight = asked_length_of catalogue cols }

-- each of these bases is the graph of one of the nodes
abbrev pub AreBasesAmong : List NodeId → List (ℕ × NodeId) → Type 0
AreBasesAmong nodes bases = All (λ (b : ℕ × NodeId). Contains nodes b.1) bases

abbrev pub HasBases : Ground → Type 0
HasBases g = AreBasesAmong (nodes_of g) g.bases
