use Rattle.std.proofs.Common.{◌≡◌, ◌++◌, drop}
use Rattle.std.specs.Map.{keys_of}
use Rattle.dg_current.specs.HeldSet.{lost_at, gained_at, listed}
use Rattle.dg_current.proofs.held_set.changes.Given as goal

abbrev pub invariant-loop-index : goal.invariant-loop-index
invariant-loop-index l = record {
  lost : l.all_lost.items ++ listed (lost_at l.base l.elements.entries) (drop l.index (keys_of l.elements.entries)) ≡ listed (lost_at l.base l.elements.entries) (keys_of l.elements.entries);
  gained : l.all_gained.items ++ listed (gained_at l.base l.elements.entries) (drop l.index (keys_of l.elements.entries)) ≡ listed (gained_at l.base l.elements.entries) (keys_of l.elements.entries);
}
