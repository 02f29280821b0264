-- The records that the steps of a walk enter.
use Rattle.std.specs.Bool.{⊤}
use Rattle.std.specs.Prelude.{◌≡◌, ℕ, ◌+◌, ◌-◌, ◌/◌, ◌<◌, ◌⊎◌, length, Some, slice_get, slice_index, List as ListOf}
use Rattle.dg_history.specs.declared.node.NodeId.{NodeId}
use Rattle.dg_history.specs.declared.node.NodeId.TheVariants as node
use Rattle.dg_history.specs.declared.node.Key.{Key}
use Rattle.dg_history.specs.declared.node.Key.TheVariants.{List, Piece, Top, Down}
use Rattle.dg_plan.specs.declared.edge.Edge.{Edge}
use Rattle.dg_plan.specs.declared.edge.Via.{Via}
use Rattle.dg_plan.specs.declared.edge.Via.TheVariants.{Paid}
use Rattle.dg_plan.specs.declared.edge.Way.{Way}
use Rattle.dg_plan.specs.IndexGraph.{level_node}

-- an edge that enters a record joins the two nodes of this record, or enters the list; none enters a piece
abbrev pub Joins : ℕ → Key → NodeId → NodeId → Type 0
Joins arity (List i) from to = to ≡ node.List i
Joins arity (Piece s) from to = ⊥
Joins arity (Top h) from to = to ≡ node.Inner h 1
Joins arity (Down h c) from to =
    ((from ≡ node.Inner h ((c - 1) / arity + 1)) × (to ≡ level_node (h - 1) c))
    ⊎ ((from ≡ level_node (h - 1) c) × (to ≡ node.Inner h ((c - 1) / arity + 1)))

abbrev pub JoinsAs : ℕ → Edge → Via → Type 0
JoinsAs arity e (Paid key way) = Joins arity key e.from e.to
JoinsAs arity e _ = ⊤

-- the edge enters the record
abbrev pub Enters : Edge → Key → Type 0
Enters e key = (way : Way) × (e.via ≡ Paid key way)

-- no two of the steps enter one record
abbrev pub EntersOnce : ListOf Edge → ListOf ℕ → Type 0
EntersOnce edges steps =
    (i j : ℕ) (a b : Edge) (k : Key) → i < j → j < length steps → slice_get edges (slice_index steps i) ≡ Some a → slice_get edges (slice_index steps j) ≡ Some b → Enters a k → Enters b k → ⊥
