use Rattle.std.proofs.Common.{◌≡◌, drop}
use Rattle.std.specs.Map.{lookup}
use Rattle.std.specs.Option.{unwrap_or}
use Rattle.dg_history.specs.declared.node.NodeId.{NodeId}
use Rattle.dg_plan.specs.CertificateLines.{potential_in}
use Rattle.dg_plan.specs.InstantPoint.{same_node}
use Rattle.dg_path.proofs.potentials.Potentials.new.Given as goal

abbrev pub invariant-loop-i : goal.invariant-loop-i
invariant-loop-i l = (node : NodeId) → unwrap_or (lookup (same_node node) l.written.entries) l.other ≡ potential_in l.other (drop l.i l.potentials) node
