-- What carrying out a command comes to: what a reply owes, what a stop owes, and what the methods of the commands say
-- together. Each word takes the ghost members of the source and of the disk as one argument, and then the lines, the
-- source, the session and the disk before the step and after it.
use Rattle.std.specs.Prelude.{◌≡◌, ◌≢◌, true, false, List, None, Result, Err, IfErr, IfOk, OnOk, length}
use Rattle.dg_append.specs.Faults.{OnlyReadFailed}
use Rattle.dg_ask.specs.ReplyNames.{ReplyNamesAreThere}
use Rattle.dg_batch.specs.declared.halt.Halt.{Halt}
use Rattle.dg_batch.specs.declared.halt.Halt.TheVariants as halt
use Rattle.dg_batch.specs.declared.stop.Stop.{Stop}
use Rattle.dg_batch.specs.declared.stop.Stop.TheVariants as stop
use Rattle.dg_cuts.specs.TakenLines.{CutsWithin, TakesBehind}
use Rattle.dg_disk.specs.Calls.{FailsToWrite, LeftByCrash, ReadsDisk, StaysOnDevice, UsesDisk}
use Rattle.dg_disk.specs.declared.disk.Disk as disk
use Rattle.dg_file.specs.TidyImages.{StaysTidy}
use Rattle.dg_text.specs.Lines.{ScriptLine}
use Rattle.dg_io.specs.Calls.{FailsToRead}
use Rattle.dg_io.specs.declared.source.Source as source
use Rattle.dg_io.specs.LinesState.{LinesState}
use Rattle.dg_machine.specs.Answer.{is_refusal}
use Rattle.dg_machine.specs.declared.command.Command.{Command}
use Rattle.dg_machine.specs.declared.reply.Refusal.TheVariants as refusal
use Rattle.dg_machine.specs.declared.reply.Reply.{Reply}
use Rattle.dg_machine.specs.Needs.{following, is_writing}
use Rattle.dg_machine.specs.Run.{is_store_read}
use Rattle.dg_session.specs.Damage.{DamageIn, DamageIs, MeetsNone, reads_for}
use Rattle.dg_session.specs.Parts.{Parts}
use Rattle.dg_session.specs.Reads.{Reads, ReadsIn, ReadsToStop}
use Rattle.dg_session.specs.ReplyNames.{BeginWith}
use Rattle.dg_session.specs.Session.{ComesTo, HoldsImage, IsAsBefore, LeavesCommand, Steps, Stops, TakesLines}
use Rattle.dg_session.specs.SessionState.{SessionState}
use Rattle.dg_session.specs.Sweeps.{SweepsNothing, SweepsPool}
use Rattle.dg_session.specs.Verified.{VerifiesFile}

-- these lines were taken behind the command
abbrev pub TakesFollowing : {S : Type 0} → source.Ghosts S → Command → LinesState → S → LinesState → S → List ScriptLine → Type 0
TakesFollowing s command lines from then_lines then_from = TakesBehind (following command) lines (s.left from) then_lines (s.left then_from)

-- the script was cut within the lines that follow the command
abbrev pub CutsFollowing : {S : Type 0} → source.Ghosts S → Command → LinesState → S → LinesState → S → Type 0
CutsFollowing s command lines from then_lines then_from = CutsWithin (following command) lines (s.left from) then_lines (s.left then_from)

-- What a command that may write does to the disk: where it comes to no reply, and is not stopped for the file, the disk was
-- only read; and where it is answered, what the disk holds stays on the device, and an image that was just the bytes in use
-- is just those in use then.
pub record TreatsDisk {D : Type 0} (d : disk.Ghosts D) (before after : D) (result : Result Reply Halt) : Type 0 where
  pub used : UsesDisk d before after
  pub unwritten : IfErr result (λ h. (h ≡ halt.Stop stop.Store → ⊥) → ReadsDisk d before after)
  pub settled : OnOk result (StaysOnDevice d before after)
  pub exact : OnOk result (StaysTidy (d.image before) (d.image after))

-- The command is answered with this reply.
pub record AnswersCommand {S D : Type 0} (s : source.Ghosts S) (d : disk.Ghosts D) (command : Command) (lines : LinesState) (from : S) (then_lines : LinesState) (then_from : S)
    (old : SessionState) (before : D) (new : SessionState) (after : D) (reply : Reply) : Type 0 where
  -- The machine may give the reply, from every state that the session stands for, and go on to one that it then stands for.
  -- A crash at any moment of the step leaves the history of the one or of the other.
  pub step : Steps command (TakesFollowing s command lines from then_lines then_from) old.parts (d.image before) new.parts (d.image after) reply (LeftByCrash d before after)
  -- The session holds the image.
  pub held : HoldsImage new.parts (d.image after)
  -- A refusal leaves what the session keeps and the image.
  pub refused : is_refusal reply ≡ true → IsAsBefore old.parts (d.image before) new.parts (d.image after)
  -- Each name in the reply is there.
  pub named : ReplyNamesAreThere (length new.parts.names) reply
  -- No name is gone or has another number, whatever the image is.
  pub keeps_names : BeginWith old.parts.names new.parts.names
  -- Where there is no index behind it, there was none, and the image is as it was.
  pub no_index : new.parts.index ≡ None → (old.parts.index ≡ None) × (d.image after ≡ d.image before)
  -- It says that a read failed only where one did, and no write and no sync.
  pub store_read : is_store_read reply ≡ true → OnlyReadFailed d before after
  -- It says that a column is damaged only where what is read for the command meets that damage first.
  pub damaged : DamageIs command old.parts (d.image before) reply
  -- Where it is no refusal, what is read for the command meets no damage.
  pub undamaged : is_refusal reply ≡ false → MeetsNone (reads_for command) old.parts (d.image before)
  -- What it says of the file is what the file's own events determine.
  pub verified : VerifiesFile command old.parts (d.image before) reply
  -- The pool is swept as the command says.
  pub swept : SweepsPool command old.pool new.pool reply
  -- As many bytes were read as such a reply owes.
  pub reads : Reads command old.parts (d.image before) reply (d.taken before) (d.taken after)
  -- Where what the disk held was on the device, what it holds is.
  pub settled : StaysOnDevice d before after
  -- Where the image was just the bytes in use, it is just those in use now: the gate that closes them is 0, and no byte
  -- stands behind it.
  pub exact : StaysTidy (d.image before) (d.image after)
  -- Where it is refused, the disk was only read.
  pub unwritten : is_refusal reply ≡ true → ReadsDisk d before after

-- A command, or a turn over a script, is stopped for this reason. `short` is what holds where a line could not be had, and
-- `cut` where the file could not be written.
pub record IsStopped {S D : Type 0} (s : source.Ghosts S) (d : disk.Ghosts D) (from : S) (old : Parts) (before : D) (then_lines : LinesState) (then_from : S) (new : Parts) (after : D)
    (short cut : Type 0) (why : Stop) : Type 0 where
  -- Unless the file could not be written, session and image are as they were.
  pub as_before : why ≢ stop.Store → IsAsBefore old (d.image before) new (d.image after)
  -- A read of the source failed; or the limit was reached. Then another byte is needed.
  pub read : why ≡ stop.Read → FailsToRead s from then_from
  pub limit : why ≡ stop.Limit → then_lines.taken ≡ then_lines.limit
  pub lines : why ≢ stop.Store → short
  -- Then nothing was read of the disk.
  pub unread : why ≢ stop.Store → d.taken after ≡ d.taken before
  -- A write or a sync of the disk failed.
  pub store : why ≡ stop.Store → cut
  pub store_cause : why ≡ stop.Store → FailsToWrite d before after

-- The command is not answered, for this reason.
pub record StopsCommand {S D : Type 0} (s : source.Ghosts S) (d : disk.Ghosts D) (command : Command) (lines : LinesState) (from : S) (then_lines : LinesState) (then_from : S)
    (old : SessionState) (before : D) (new : SessionState) (after : D) (why : Stop) : Type 0 where
  -- Where a line could not be had, the script was cut within the lines that follow the command. Where the file could not be
  -- written, the command is not refused by what the session keeps, and the image is what it may leave where the disk
  -- failed; so is what a crash at any moment leaves.
  pub stopped : IsStopped s d from old.parts before then_lines then_from new.parts after
      (CutsFollowing s command lines from then_lines then_from) (Stops command (TakesFollowing s command lines from then_lines then_from) old.parts (d.image before) (d.image after) (LeftByCrash d before after)) why
  -- It is one that writes.
  pub store_command : why ≡ stop.Store → is_writing command ≡ true
  -- Nothing was read of the disk, or no more than the older children of the batch.
  pub reads : ReadsToStop command old.parts (d.image before) why (d.taken before) (d.taken after)
  -- Unless the file could not be written, the disk was only read.
  pub unwritten : why ≢ stop.Store → ReadsDisk d before after

-- What the command reads of the file, and what it says of that, where it comes to this.
pub record ReadsFile {D : Type 0} (d : disk.Ghosts D) (command : Command) (old : Parts) (before after : D) (result : Result Reply Halt) : Type 0 where
  -- A refusal names a damage only where what is read for the command meets it first; and nothing is damaged in what is
  -- read for one that is not refused.
  pub damaged : DamageIn command old (d.image before) result
  pub undamaged : OnOk result (MeetsNone (reads_for command) old (d.image before))
  -- As many bytes were read as such a reply owes.
  pub reads : ReadsIn command old (d.image before) result (d.taken before) (d.taken after)

-- Where the command is stopped, or refused for a read, this is why.
pub record HaltsByCause {S D : Type 0} (s : source.Ghosts S) (d : disk.Ghosts D) (from : S) (before : D) (then_lines : LinesState) (then_from : S) (after : D) (result : Result Reply Halt) : Type 0 where
  pub store : result ≡ Err (halt.Stop stop.Store) → FailsToWrite d before after
  pub read : result ≡ Err (halt.Stop stop.Read) → FailsToRead s from then_from
  pub limit : result ≡ Err (halt.Stop stop.Limit) → then_lines.taken ≡ then_lines.limit
  pub store_read : result ≡ Err (halt.Refusal refusal.StoreRead) → OnlyReadFailed d before after

-- The command comes to this: it is answered by no refusal, or refused, or stopped.
pub record CarriesOut {S D : Type 0} (s : source.Ghosts S) (d : disk.Ghosts D) (command : Command) (lines : LinesState) (from : S) (then_lines : LinesState) (then_from : S)
    (old : SessionState) (before : D) (new : SessionState) (after : D) (result : Result Reply Halt) : Type 0 where
  pub comes : (got : List ScriptLine)
      × TakesLines (TakesFollowing s command lines from then_lines then_from) (CutsFollowing s command lines from then_lines then_from) got result
      × ComesTo command got old.parts (d.image before) new.parts (d.image after) result
      × LeftByCrash d before after (LeavesCommand command got old.parts result)
  -- why it is stopped, or refused for a read
  pub causes : HaltsByCause s d from before then_lines then_from after result
  -- what is read of the file
  pub file : ReadsFile d command old.parts before after result
  -- what is said of the file, and what is swept, where it is no refusal
  pub verified : IfOk result (λ reply. VerifiesFile command old.parts (d.image before) reply)
  pub swept : IfOk result (λ reply. SweepsPool command old.pool new.pool reply)
  -- a command that sweeps is answered
  pub unswept : IfErr result (λ halt. SweepsNothing command)
  -- a command that does not write only reads the disk, and so does one that is not carried out, unless a write failed
  pub reads_only : is_writing command ≡ false → ReadsDisk d before after
  pub unwritten : IfErr result (λ h. (h ≡ halt.Stop stop.Store → ⊥) → ReadsDisk d before after)
  -- what is on the device stays there
  pub settled : OnOk result (StaysOnDevice d before after)
  -- an image that was just the bytes in use is just those in use now
  pub exact : OnOk result (StaysTidy (d.image before) (d.image after))
