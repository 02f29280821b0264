-- An edge by the indices of its ends.
use Rattle.std.specs.Prelude.{ℕ, Bool}
use Rattle.dg_plan.specs.declared.edge.Edge.{Edge}
use Rattle.dg_path.specs.declared.search.Link.{Link}
use Rattle.dg_planner.specs.Order.{node_index_in}

abbrev pub link_in : ℕ → ℕ → Bool → Edge → Link
link_in leaves arity memory e = record { tail = node_index_in leaves arity memory e.from; head = node_index_in leaves arity memory e.to; weight = e.weight }
