-- What a call that may put a batch into the file leaves of the disk, and what a crash leaves of it.
use Rattle.std.specs.Prelude.{◌≡◌, ℕ, List, Result, IfErr, OnOk}
use Rattle.dg_append.specs.declared.fault.BatchFault.{BatchFault}
use Rattle.dg_append.specs.declared.fault.BatchFault.TheVariants as fault
use Rattle.dg_append.specs.Faults.{HasCause}
use Rattle.dg_disk.specs.Calls.{IsOnDevice, LeftByCrash, ReadsDisk, UsesDisk}
use Rattle.dg_disk.specs.declared.disk.Disk.{Ghosts}
use Rattle.dg_file.specs.TidyImages.{StaysTidy}

-- The disk is used, and counted why the call failed. All is on the device once the batch is there, and an image that was
-- just the bytes in use is just those in use then; where the call failed, and no write or sync did, the disk was only read.
-- A crash at any moment of the call leaves bytes that have P.
pub record LeavesDisk {A D : Type 0} (g : Ghosts D) (P : List ℕ → List ℕ → Type 0) (old new : D) (r : Result A BatchFault) : Type 0 where
  pub used : UsesDisk g old new
  pub causes : IfErr r (λ f. HasCause g f old new)
  pub settled : OnOk r (IsOnDevice g new)
  pub exact : OnOk r (StaysTidy (g.image old) (g.image new))
  pub unwritten : IfErr r (λ f. (f ≡ fault.Store → ⊥) → ReadsDisk g old new)
  pub crash : LeftByCrash g old new P
