-- What becomes of the handles where a batch is added, or is not.
use Rattle.std.specs.Prelude.{◌≡◌, Result, Err}
use Rattle.dg_append.specs.declared.batch.AddedBatch.{AddedBatch}
use Rattle.dg_append.specs.declared.fault.BatchFault.{BatchFault}
use Rattle.dg_append.specs.declared.fault.BatchFault.TheVariants as fault
use Rattle.dg_handles.specs.Handles.{HandlesState}

-- The handles are as they were; after a failure of a write or sync nothing is said.
abbrev pub HandlesStay : Result AddedBatch BatchFault → HandlesState → HandlesState → Type 0
HandlesStay (Err fault.Store) old new = Unit {0}
HandlesStay r old new = new ≡ old
