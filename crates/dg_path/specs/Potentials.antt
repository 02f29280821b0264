-- The potential of a node, where potentials are kept by node.
use Rattle.std.specs.Prelude.{ℕ, unwrap_or}
use Rattle.std.specs.Map.{lookup}
use Rattle.dg_history.specs.declared.node.NodeId.{NodeId}
use Rattle.dg_plan.specs.InstantPoint.{same_node}
use Rattle.dg_path.specs.declared.potentials.Potentials.{Potentials}

-- what is written of it, or else the one of the other nodes
abbrev pub potential_at : Potentials → NodeId → ℕ
potential_at p node = unwrap_or (lookup (same_node node) p.written.entries) p.other
