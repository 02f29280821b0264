-- The promise of the program, on one page.
use Rattle.std.specs.Prelude.{◌≡◌, ◌≢◌, ℕ, ◌<◌, ◌≤◌, ◌⊎◌, Bool, true, false, List, length, IfSome, Option, Err, is_some}
use Rattle.dg_columns.specs.ColumnLaws.{AreBytes}
use Rattle.dg_disk.specs.Counts.{Rose as DiskRose}
use Rattle.dg_session.specs.declared.session_fault.SessionFault.{SessionFault}
use Rattle.dg_session.specs.declared.session_fault.SessionFault.TheVariants as session_fault
use Rattle.dg_session.specs.SessionStart.{Begins, IsStanding}
use Rattle.dg_start.specs.declared.fault.StartFault.TheVariants as start_fault
use Rattle.dg_history.specs.History.{History}
use Rattle.dg_file.specs.TidyImages.{IsJustFile}
use Rattle.dg_fold.specs.BytesRead.{Takes}
use Rattle.dg_index.specs.ImageOfHistory.{IsImageOf, StandsAs}
use Rattle.dg_index.specs.OpenedIndex.{opened_of}
use Rattle.dg_start.specs.SessionStart.{PlansLastLeaf, start_bytes}
use Rattle.dg_io.specs.Told.{Gives, CountRose}
use Rattle.dg_machine.specs.declared.limits.Limits.{Limits}
use Rattle.dg_machine.specs.MachineState.{machine_at}
use Rattle.dg_machine.specs.Run.{last_state}
use Rattle.dg_run.specs.declared.status.Status.{Status}
use Rattle.dg_run.specs.declared.status.Status.TheVariants as status
use Rattle.dg_run.specs.Outside.{Outside, IsUntouched}
use Rattle.dg_run.specs.GainedReplies.{GainsReplies, names_told}
use Rattle.dg_run.specs.RunWeights.{OpensBy, ReadsNoMore}
use Rattle.dg_run.specs.Served.{HasNoEntry, Served}
use Rattle.dg_run.specs.Statuses.{is_unbegun}

-- the fact holds of each history, or none, that the image stands for, where it is told
abbrev pub WhereItStands : Option (List ℕ) → (Option History → Type 0) → Type 0
WhereItStands image P = IfSome image (λ bytes. (index : Option History) → StandsAs index bytes → P index)

-- Where the image is just the file of the history for which it stands and a closed gate, or there is no index, it is so at
-- the end, of the history that the run came to: histories with the same parameters, batches and events are the same bytes.
abbrev pub LeavesJustFile : Limits → Status → Outside → Outside → ((List ℕ → List ℕ → Type 0) → Type 0) → Type 0
LeavesJustFile limits s start now crashes =
    WhereItStands start.image (λ index. (x : Served (machine_at limits index) s start now crashes)
    → IfSome start.image (IsJustFile index) → IfSome now.image (IsJustFile (last_state (machine_at limits index) x.answers).index))

-- no call of source, sink or disk failed
pub record NoneFailed (start now : Outside) : Type 0 where
  pub source : CountRose start.source_faults now.source_faults → ⊥
  pub sink : CountRose start.sink_faults now.sink_faults → ⊥
  pub disk : DiskRose start.disk_faults now.disk_faults → ⊥
  pub writes : DiskRose start.write_faults now.write_faults → ⊥

-- The script is answered to its end exactly where it has fewer bytes than the limit; want of memory before
-- the first command is free.
pub record Completes (limits : Limits) (s : Status) (script : List ℕ) : Type 0 where
  pub short : length script < limits.script_bytes → (s ≡ status.Done) ⊎ (s ≡ status.NoMemory)
  pub long : limits.script_bytes ≤ length script → (s ≡ status.ScriptLimit) ⊎ (s ≡ status.NoMemory)

-- What a run within these limits promises that ended so, over source, sink and disk as they were at its
-- start; the words on its command line were of the written form, or were not, and said `--checked`, or did not.
-- `crashes P` says that a crash at any moment of the run leaves an index file that has P of the one at the start, where
-- that one was on the device.
pub record Promised (limits : Limits) (are_written are_checked : Bool) (s : Status) (start now : Outside) (crashes : (List ℕ → List ℕ → Type 0) → Type 0) : Type 0 where
  -- The headline. Where the image stands for a history or for no index, the sink gained the texts of the
  -- replies of a run of the machine that keeps only the events and a table of handles, and the image stands
  -- for what that run came to. `Served` has field by field what is owed then. No more bytes were read of the file than
  -- `ReadsNoMore` says of that run.
  pub served : WhereItStands start.image (λ index. (x : Served (machine_at limits index) s start now crashes) × ReadsNoMore (OpensBy are_checked index start.image) x)
  -- The bytes of the file, to the last: where at the start they are the file of its history and a closed gate of 0, or there
  -- is no index, they are at the end just the file of the history that the run of `served` came to and such a gate, unless
  -- the disk failed.
  pub exact : s ≢ status.DiskFault → LeavesJustFile limits s start now crashes
  -- With `--checked` no premise on the image is left but that it is one of bytes: it stands for a history or for no
  -- index, so that the headline holds over it, or the run did not begin.
  pub checked : are_checked ≡ true
      → IfSome start.image (λ image. AreBytes image → IsStanding image ⊎ (IsUntouched start now × ((is_unbegun s ≡ true) ⊎ (s ≡ status.DiskFault))))
  -- Whatever the image is, what is written is texts of replies. Their names begin with those that the directories of the
  -- index file had at the start, and are only ever added to.
  pub replies : GainsReplies s (names_told start.image) start.written now.written
  -- Whether the disk tells its image stays the same.
  pub told : is_some now.image ≡ is_some start.image
  -- Status 2 comes only where the words are not of the written form; such words end with it, or with want of memory to
  -- read them, and nothing is called.
  pub words : s ≡ status.Words → are_written ≡ false
  pub wrong_words : are_written ≡ false → (s ≡ status.Words) ⊎ (s ≡ status.NoMemory)
  pub words_untouched : are_written ≡ false → now ≡ start
  -- With statuses 2, 6 and 7 source, sink and image are as they were.
  pub unbegun : is_unbegun s ≡ true → IsUntouched start now
  -- Status 0 comes only where the script has fewer bytes than the limit.
  pub done : s ≡ status.Done → IfSome start.left (λ script. length script < limits.script_bytes)
  -- Status 3 comes only where a read of the source failed.
  pub source_fault : s ≡ status.SourceFault → CountRose start.source_faults now.source_faults
  -- Status 4 comes only where a write of the sink failed.
  pub sink_fault : s ≡ status.SinkFault → CountRose start.sink_faults now.sink_faults
  -- Status 5 comes only where a write or a sync of the disk failed, or, with nothing else touched, a read.
  pub disk_fault : s ≡ status.DiskFault
      → DiskRose start.write_faults now.write_faults ⊎ (DiskRose start.disk_faults now.disk_faults × IsUntouched start now)
  -- Status 9 comes only where as many bytes of the script as the limit were taken.
  pub script_limit : s ≡ status.ScriptLimit → (taken : List ℕ) × Gives start.left taken now.left × (length taken ≡ limits.script_bytes)
  -- Status 7 comes only for what the image is refused for, and never where it stands for a history or for no
  -- index; and an image that is refused gives it, unless the disk failed or memory lacked.
  pub refused : (fault : SessionFault) → s ≡ status.Refused fault
      → (fault ≢ session_fault.Start start_fault.Disk) × (fault ≢ session_fault.Start start_fault.Memory)
      × IfSome start.image (λ image. Begins are_checked image (Err fault))
  pub never_refused : WhereItStands start.image (λ index. (fault : SessionFault) → s ≡ status.Refused fault → ⊥)
  pub refuses : are_written ≡ true → (DiskRose start.disk_faults now.disk_faults → ⊥)
      → IfSome start.image (λ image. (fault : SessionFault) → Begins are_checked image (Err fault) → (s ≡ status.Refused fault) ⊎ (s ≡ status.NoMemory))
  -- Where the image stands for a history, a run without `--checked` over a script without an entry has read of the disk
  -- what its start reads: all that is in use but the columns, the recent pieces, and the records along the plan of the
  -- last leaf.
  pub start_reads : are_checked ≡ false → s ≡ status.Done → HasNoEntry start.left → IfSome start.image (λ image. (z : History) → IsImageOf z image
      → (steps : List ℕ) → PlansLastLeaf (opened_of z).index steps → Takes (start_bytes (opened_of z).index steps) start.bytes_read now.bytes_read)
  -- Where the words are of the written form, the image stands for a history or for no index and nothing
  -- failed, the script is answered to its end or to the limit.
  pub completes : are_written ≡ true → NoneFailed start now
      → WhereItStands start.image (λ index. IfSome start.left (λ script. Completes limits s script))
