use Rattle.std.proofs.Common.{◌≡◌, map, take}
use Rattle.dg_machine.specs.Planning.{bases_in}
use Rattle.dg_planner.specs.Bases.{base_of as node_of}
use Rattle.dg_handles.proofs.entries.bases.Given as goal

abbrev pub invariant-loop-entry : goal.invariant-loop-entry
invariant-loop-entry l = map node_of l.bases.items ≡ bases_in l.cols (map (λ e. (e.handle, e.stands)) (take l.entry-index l.entries))
