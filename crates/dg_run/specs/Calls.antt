-- What the session does at an entry of the script, over the ghost members of the disk, and the session and the disk before
-- it and after it.
use Rattle.std.specs.Prelude.{◌≡◌, true, None, length, refl}
use Rattle.dg_ask.specs.ReplyNames.{ReplyNamesAreThere}
use Rattle.dg_disk.specs.Calls.{Fails, FailsToWrite, LeftByCrash, ReadsDisk, StaysOnDevice, UsesDisk}
use Rattle.dg_disk.specs.declared.disk.Disk as disk
use Rattle.dg_disk.proofs.FrameLemmas.{reads_none}
use Rattle.dg_file.specs.TidyImages.{StaysTidy}
use Rattle.dg_machine.specs.declared.reply.Reply.{Reply}
use Rattle.dg_machine.specs.Run.{is_store_read}
use Rattle.dg_machine.specs.Script.{Entry}
use Rattle.dg_session.specs.Parts.{Parts}
use Rattle.dg_session.specs.ReplyNames.{BeginWith}
use Rattle.dg_session.specs.Session.{WhereBothTold}
use Rattle.dg_run.specs.Turns.{CutsEntry, LeavesTurn, ReadsBroken, ReadsTurn, Replies}

-- The entry is given this reply.
pub record AnswersEntry {D : Type 0} (d : disk.Ghosts D) (e : Entry) (old : Parts) (before : D) (new : Parts) (after : D) (reply : Reply) : Type 0 where
  -- The machine may give it, from every state that the session stands for, and go on to one that it then stands for.
  pub moves : WhereBothTold (d.image before) (d.image after) (λ x y. Replies e old x new y reply)
  -- A crash within it leaves this.
  pub crash : LeftByCrash d before after (LeavesTurn e old reply)
  -- As many bytes were read as such a reply owes.
  pub reads : ReadsTurn e old (d.image before) reply (d.taken before) (d.taken after)
  -- Where there is no index behind it, there was none, and the image is as it was.
  pub no_index : new.index ≡ None → (old.index ≡ None) × (d.image after ≡ d.image before)
  -- It says that a read failed only where a call of the disk did.
  pub store_read : is_store_read reply ≡ true → Fails d before after
  -- The names in the reply are among those of the session.
  pub named : ReplyNamesAreThere (length new.names) reply
  -- None of the names that the session had is gone or has another number.
  pub keeps_names : BeginWith old.names new.names
  -- Where what the disk held was on the device, what it holds is.
  pub settled : StaysOnDevice d before after
  -- Where the image was just the bytes in use, it is just those in use now.
  pub exact : StaysTidy (d.image before) (d.image after)
  pub used : UsesDisk d before after

-- The disk failed within the entry, and the image is that of a cut, as is what a crash leaves.
pub record BreaksEntry {D : Type 0} (d : disk.Ghosts D) (e : Entry) (old : Parts) (before after : D) : Type 0 where
  pub cut : WhereBothTold (d.image before) (d.image after) (λ x y. CutsEntry e old x y)
  pub crash : LeftByCrash d before after (λ first left. CutsEntry e old first left)
  pub reads : ReadsBroken e old (d.image before) (d.taken before) (d.taken after)
  -- A write or a sync of the disk failed.
  pub cause : FailsToWrite d before after
  pub used : UsesDisk d before after

-- The session is as it was, and nothing was read of the disk.
pub record StaysSo {D : Type 0} (d : disk.Ghosts D) (old : Parts) (before : D) (new : Parts) (after : D) : Type 0 where
  pub same : new ≡ old
  pub asked : ReadsDisk d before after
  pub unread : d.taken after ≡ d.taken before

-- so it is where nothing was asked of it
pub stays_as_it_is : {D : Type 0} {d : disk.Ghosts D} (session : Parts) (at : D) → StaysSo d session at session at
stays_as_it_is session at = record { same = refl; asked = reads_none; unread = refl }
