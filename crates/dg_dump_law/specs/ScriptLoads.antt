-- What a run of the program comes to over a blank index file and the script of a history.
use Rattle.std.specs.Prelude.{◌≡◌, ◌⊎◌, ℕ, ◌≤◌, Bool, true, false, List, [], ◌∷◌, ◌++◌, Some, None}
use Rattle.std.specs.List.{All}
use Rattle.dg_disk.specs.Calls.{LeftByCrash}
use Rattle.dg_disk.specs.Counts.{Rose as DiskRose}
use Rattle.dg_disk.specs.declared.disk.Disk as disk
use Rattle.dg_dump.specs.DumpLaws.{HaveRoom, in_second_form}
use Rattle.dg_dump.specs.NamesOfLines.{NamesAreOfLines}
use Rattle.dg_dump.specs.ScriptOfHistory.{script_of}
use Rattle.dg_dumping.specs.Dumped.{Dumped}
use Rattle.dg_dumping.specs.declared.status.DumpStatus.TheVariants as dump_status
use Rattle.dg_history.specs.declared.form.Form.TheVariants as form
use Rattle.dg_history.specs.History.{History, empty_history}
use Rattle.dg_history.specs.LegalHistory.{IsLegal}
use Rattle.dg_index.specs.FileOfHistory.{file}
use Rattle.dg_index.specs.ImageOfHistory.{IsImageOf, is_blank}
use Rattle.dg_io.specs.declared.sink.Sink as sink
use Rattle.dg_io.specs.Told.{grown}
use Rattle.dg_machine.specs.declared.limits.Limits.{Limits}
use Rattle.dg_machine.specs.declared.limits.TheConstants.{SCRIPT_BYTES_MAX}
use Rattle.dg_machine.specs.Answer.{Answered, is_refusal, no_memory, store_read}
use Rattle.dg_machine.specs.MachineState.{machine_at}
use Rattle.dg_machine.specs.Run.{Run, texts_of}
use Rattle.dg_machine.specs.Script.{script}
use Rattle.dg_run.specs.declared.status.Status.{Status}
use Rattle.dg_run.specs.declared.status.Status.TheVariants as status
use Rattle.dg_run.specs.Outside.{Outside}
use Rattle.dg_run.specs.Promised.{NoneFailed, Promised}

-- the disk tells an image that is no index
pub record IsBlank (start : Outside) : Type 0 where
  pub image : List ℕ
  pub told : start.image ≡ Some image
  pub blank : is_blank image ≡ true

-- no reply says want of memory
abbrev pub NoneLacksMemory : List Answered → Type 0
NoneLacksMemory answers = All (λ (a : Answered). a.reply ≡ no_memory → ⊥) answers

-- no reply says that a read of the index file failed
abbrev pub NoneFailsToRead : List Answered → Type 0
NoneFailsToRead answers = All (λ (a : Answered). a.reply ≡ store_read → ⊥) answers

-- The history was made: no reply refuses, and the index file is just the bytes of the history's file and a closed gate of 0,
-- so that it stands for the history.
pub record IsMade (z : History) (answers : List Answered) (now : Outside) : Type 0 where
  pub ok : All (λ (a : Answered). is_refusal a.reply ≡ false) answers
  pub image : now.image ≡ Some (file z ++ 0 ∷ [])
  pub stands : IsImageOf z (file z ++ 0 ∷ [])

-- The sink gained the texts of the replies of a run of the machine over the script of z. Where none says want of memory or
-- a failed read, the run has made z, in the second form. A failed read is said only where a call of the disk failed.
pub record Loads (limits : Limits) (z : History) (start now : Outside) : Type 0 where
  pub answers : List Answered
  pub run : Run (machine_at limits None) (script (script_of z)) answers
  pub gained : now.written ≡ grown start.written (texts_of answers)
  pub read : (DiskRose start.disk_faults now.disk_faults → ⊥) → NoneFailsToRead answers
  pub made : NoneLacksMemory answers → NoneFailsToRead answers → IsMade (in_second_form z) answers now

-- What a run comes to that ended so, over a blank index file and the script of z. Where the words are of the written form,
-- nothing failed and the limit of the script is not below the standard one, it is answered to its end, but for want of memory.
pub record ComesTo (limits : Limits) (are_written : Bool) (z : History) (s : Status) (start now : Outside) : Type 0 where
  pub done : s ≡ status.Done → Loads limits z start now
  pub ends : are_written ≡ true → SCRIPT_BYTES_MAX ≤ limits.script_bytes → NoneFailed start now → (s ≡ status.Done) ⊎ (s ≡ status.NoMemory)

-- A run over a blank index file and the script of a legal history, whose names are those of its lines and for which the
-- limits have room, makes this history. It is told as the clause of `serve_with` tells it, over what source, sink and disk
-- tell at its start and at its end.
abbrev pub ScriptsLoad : {D : Type 0} → disk.Ghosts D → Type 0
ScriptsLoad {D} d =
    (limits : Limits) (are_written are_checked : Bool) (s : Status) (start now : Outside) (before after : D)
    → Promised limits are_written are_checked s start now (LeftByCrash d before after)
    → (z : History) → IsLegal z → NamesAreOfLines z → HaveRoom limits (empty_history form.Two z.params) z.batches
    → IsBlank start → start.left ≡ Some (script_of z) → ComesTo limits are_written z s start now

-- What was dumped of an index into an empty sink, with a check or without, a run over a blank index file makes again: the
-- same history, in the second form.
abbrev pub DumpsLoadBack : {C K D : Type 0} → disk.Ghosts C → sink.Ghosts K → disk.Ghosts D → Type 0
DumpsLoadBack {C} {K} {D} c k d =
    (checked : Bool) (old_disk now_disk : C) (old_sink now_sink : K) → Dumped c k checked dump_status.Done old_disk now_disk old_sink now_sink
    → k.written old_sink ≡ Some [] → (z : History) (image : List ℕ) → c.image old_disk ≡ Some image → IsImageOf z image
    → (limits : Limits) → NamesAreOfLines z → HaveRoom limits (empty_history form.Two z.params) z.batches
    → (are_written are_checked : Bool) (s : Status) (start now : Outside) (before after : D)
    → Promised limits are_written are_checked s start now (LeftByCrash d before after)
    → IsBlank start → start.left ≡ k.written now_sink → ComesTo limits are_written z s start now
