-- The bytes of the file at the end of a run, where at its start they were just those of a history.
use Rattle.std.proofs.Common.{◌≡◌, ℕ, List, Option, Some, None, IfSome, sym, subst}
use Rattle.std.specs.Prelude.{◌≢◌}
use Rattle.dg_file.proofs.TidyWrites.{just_tidy, same_tidy, tidy_just}
use Rattle.dg_file.specs.TidyImages.{IsJustFile, IsTidy, StaysTidy}
use Rattle.dg_history.specs.History.{History}
use Rattle.dg_index.specs.ImageOfHistory.{StandsAs}
use Rattle.dg_machine.specs.declared.limits.Limits.{Limits}
use Rattle.dg_machine.specs.MachineState.{MachineState, machine_at}
use Rattle.dg_machine.specs.Run.{last_state}
use Rattle.dg_machine.specs.Script.{Entry}
use Rattle.dg_run.proofs.ServedRuns.{at_some, if_some}
use Rattle.dg_run.specs.declared.status.Status.{Status}
use Rattle.dg_run.specs.declared.status.Status.TheVariants as status
use Rattle.dg_run.specs.Outside.{Outside}
use Rattle.dg_run.specs.Promised.{LeavesJustFile}
use Rattle.dg_run.specs.Served.{Cut_off, Kept, Remains, Served}

-- what remains of an image without a failure of the disk, and is just the bytes in use, is just the file
remains_just : (s : Status) (m : MachineState) (more : Option (List Entry)) (start now : Outside) (image : List ℕ) → s ≢ status.DiskFault → IsTidy image → Remains s m more start now image → IsJustFile m.index image
remains_just s m more start now image other tidy (Kept stands failed) = tidy_just m.index image stands tidy
remains_just s m more start now image other tidy (Cut_off e rest before failed first stands unmade cut) = absurd (other failed)

ends_just : (s : Status) (m : MachineState) (more : Option (List Entry)) (start now : Outside) (o : Option (List ℕ)) → s ≢ status.DiskFault → IfSome o IsTidy → IfSome o (λ image. Remains s m more start now image) → IfSome o (IsJustFile m.index)
ends_just s m more start now None other tidy remains = tt
ends_just s m more start now (Some image) other tidy remains = remains_just s m more start now image other tidy remains

-- a run that leaves the bytes in use, where the image was just those, leaves just the file
pub leaves_just : (limits : Limits) (s : Status) (start now : Outside) (crashes : (List ℕ → List ℕ → Type 0) → Type 0) → s ≢ status.DiskFault → StaysTidy start.image now.image → LeavesJustFile limits s start now crashes
leaves_just limits s start now crashes other stays =
    if_some start.image (λ image. (index : Option History) → StandsAs index image → (x : Served (machine_at limits index) s start now crashes) → IfSome start.image (IsJustFile index)
    → IfSome now.image (IsJustFile (last_state (machine_at limits index) x.answers).index))
    (λ image here index stands x just.
    let first : IsTidy image = just_tidy index image stands (at_some start.image (IsJustFile index) image just here) in
    let last : IfSome now.image IsTidy = stays (subst (λ (o : Option (List ℕ)). IfSome o IsTidy) (sym here) first) in
    ends_just s (last_state (machine_at limits index) x.answers) x.more start now now.image other last x.stands)

-- so does one that leaves the image
pub same_just : (limits : Limits) (s : Status) (start now : Outside) (crashes : (List ℕ → List ℕ → Type 0) → Type 0) → s ≢ status.DiskFault → now.image ≡ start.image → LeavesJustFile limits s start now crashes
same_just limits s start now crashes other same = leaves_just limits s start now crashes other (same_tidy start.image now.image same)
