use Rattle.std.proofs.Common.{◌≡◌, drop, map}
use Rattle.dg_machine.specs.MachineState.{dependent_on}
use Rattle.dg_handles.proofs.entries.dependent.Given as goal

abbrev pub invariant-loop-entry : goal.invariant-loop-entry
invariant-loop-entry l = dependent_on l.handle (map (λ e. (e.handle, e.stands)) (drop l.entry-index l.entries)) ≡ dependent_on l.handle (map (λ e. (e.handle, e.stands)) l.entries)
