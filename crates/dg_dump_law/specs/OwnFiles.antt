-- The index files that runs of the program alone have written, and that what is dumped of one makes it again.
use Rattle.std.specs.Prelude.{◌≡◌, ◌≢◌, ℕ, Bool, true, List, [], Option, Some, IfSome}
use Rattle.dg_disk.specs.Calls.{LeftByCrash}
use Rattle.dg_disk.specs.declared.disk.Disk as disk
use Rattle.dg_dump.specs.DumpLaws.{IsRemade, in_second_form}
use Rattle.dg_dumping.specs.Dumped.{Dumped}
use Rattle.dg_dumping.specs.declared.status.DumpStatus.TheVariants as dump_status
use Rattle.dg_file.specs.TidyImages.{IsJustFile}
use Rattle.dg_history.specs.History.{History}
use Rattle.dg_index.specs.ImageOfHistory.{StandsAs, is_blank}
use Rattle.dg_io.specs.declared.sink.Sink as sink
use Rattle.dg_machine.specs.declared.limits.Limits.{Limits}
use Rattle.dg_machine.specs.Answer.{Answered}
use Rattle.dg_machine.specs.MachineState.{IsWithin}
use Rattle.dg_run.specs.declared.status.Status.{Status}
use Rattle.dg_run.specs.declared.status.Status.TheVariants as status
use Rattle.dg_run.specs.Outside.{Outside}
use Rattle.dg_run.specs.Promised.{Promised}
use Rattle.dg_dump_law.specs.ScriptLoads.{ComesTo, IsBlank, IsMade}

-- The image is told. It is just the bytes of a legal history's file and a closed gate of 0, and the script of that history
-- makes it again within these limits; or it is no index.
pub record IsOwnFile (limits : Limits) (told : Option (List ℕ)) : Type 0 where
  pub index : Option History
  pub bytes : List ℕ
  pub image : told ≡ Some bytes
  pub just : IsJustFile index bytes
  pub stands : StandsAs index bytes
  pub remade : IfSome index (IsRemade limits)

-- A blank index file is such a one, and each run keeps it so, whatever the script, unless the disk failed.
pub record RunsKeepOwnFiles {D : Type 0} (d : disk.Ghosts D) : Type 0 where
  pub blank : (limits : Limits) (bytes : List ℕ) → is_blank bytes ≡ true → IsOwnFile limits (Some bytes)
  pub run : (limits : Limits) → IsWithin limits → (are_written are_checked : Bool) (s : Status) (start now : Outside) (before after : D)
      → Promised limits are_written are_checked s start now (LeftByCrash d before after)
      → (text : List ℕ) → start.left ≡ Some text → IsOwnFile limits start.image → s ≢ status.DiskFault → IsOwnFile limits now.image

-- A run that ended so comes to the history of a dumped image. Where it has made the history, its index file has the same bytes.
pub record Returns (limits : Limits) (are_written : Bool) (dumped : Option (List ℕ)) (s : Status) (start now : Outside) : Type 0 where
  pub history : History
  pub comes : ComesTo limits are_written history s start now
  pub same : (answers : List Answered) → IsMade (in_second_form history) answers now → now.image ≡ dumped

-- What was dumped of such a file into an empty sink, a run over a blank index file makes again, byte for byte.
abbrev pub OwnFilesReturn : {C K D : Type 0} → disk.Ghosts C → sink.Ghosts K → disk.Ghosts D → Type 0
OwnFilesReturn {C} {K} {D} c k d =
    (checked : Bool) (old_disk now_disk : C) (old_sink now_sink : K) → Dumped c k checked dump_status.Done old_disk now_disk old_sink now_sink
    → k.written old_sink ≡ Some [] → (limits : Limits) → IsOwnFile limits (c.image old_disk)
    → (are_written are_checked : Bool) (s : Status) (start now : Outside) (before after : D)
    → Promised limits are_written are_checked s start now (LeftByCrash d before after)
    → IsBlank start → start.left ≡ k.written now_sink → Returns limits are_written (c.image old_disk) s start now
