-- What the machine of parts answers, over its ghost members.
use Rattle.std.specs.Prelude.{◌≡◌, ◌⊎◌, ℕ, List, [], Option, Some, None, true}
use Rattle.dg_disk.specs.declared.disk.Disk as disk
use Rattle.dg_graph.specs.declared.element.Element.{Element}
use Rattle.dg_history.specs.History.{History}
use Rattle.dg_machine.specs.Answer.{headed, no_memory}
use Rattle.dg_machine.specs.declared.command.Command.{Command}
use Rattle.dg_machine.specs.declared.limits.Limits.{Limits}
use Rattle.dg_machine.specs.declared.reply.Head.TheVariants as head
use Rattle.dg_machine.specs.declared.reply.Refusal.TheVariants as refusal
use Rattle.dg_machine.specs.declared.reply.Reply.{Reply}
use Rattle.dg_machine.specs.declared.reply.Reply.TheVariants as replied
use Rattle.dg_machine.specs.Run.{is_store_read}
use Rattle.dg_machine.specs.Script.{Asked}
use Rattle.dg_text.specs.Lines.{ScriptLine}
use Rattle.dg_part_runs.specs.declared.sessions.PartSessions.{PartSessions}
use Rattle.dg_part_runs.specs.Disks.{ReadsAll, SomeRose, faults_of, images_of}
use Rattle.dg_part_runs.specs.HeldParts.{AreParts, AreStanding}
use Rattle.dg_part_runs.specs.PartDamage.{TellsDamage}
use Rattle.dg_part_runs.specs.PartsMachine.{PartsState, PartsStep, listing, set_at, union_shown}

-- the state of the machine, where its sessions stand for these histories
abbrev pub state_over : Limits → PartSessions → List History → PartsState
state_over limits s parts = record { limits = limits; parts = parts; table = s.handles.sets; next = s.handles.next }

-- a listing of this set, or want of memory; a handle that is not live is refused
abbrev pub ListsBy : Option (List Element) → ℕ → Reply → Type 0
ListsBy None handle reply = reply ≡ replied.Refused (refusal.UnknownHandle handle)
ListsBy (Some set) handle reply = (reply ≡ listing handle set) ⊎ (reply ≡ no_memory)

abbrev pub ListsSet : List (ℕ × List Element) → ℕ → Reply → Type 0
ListsSet table handle reply = ListsBy (set_at handle table) handle reply

-- the reply where a handle is given up
abbrev pub released_by : Option (List Element) → ℕ → Reply
released_by None handle = replied.Refused (refusal.UnknownHandle handle)
released_by (Some set) handle = headed (head.Released handle)

abbrev pub release_reply : List (ℕ × List Element) → ℕ → Reply
release_reply table handle = released_by (set_at handle table) handle

-- Between two commands: each session holds what its disk tells, and the names of no part are none.
pub record AreReady {D : Type 0} (d : disk.Ghosts D) (s : PartSessions) (disks : List D) : Type 0 where
  pub limits : Limits
  pub parts : AreParts limits s.sessions.items (images_of d disks)
  pub nameless : s.nameless ≡ []

-- The command is answered so. Where the sessions stand for histories, it is a step of the machine of parts. The disks are only
-- read. A reply says that a read failed only where a call of a disk did, and names no damage but the first one of the first part
-- that meets one.
pub record AnswersPart {D : Type 0} (d : disk.Ghosts D) (c : Command) (got : List ScriptLine) (old : PartSessions) (before : List D) (new : PartSessions) (after : List D) (reply : Reply) : Type 0 where
  pub none : got ≡ []
  pub steps : (limits : Limits) (parts : List History) → AreStanding limits old.sessions.items (images_of d before) parts
      → PartsStep (union_shown parts) (state_over limits old parts) (Asked c []) reply (state_over limits new parts)
  pub sessions : new.sessions.items ≡ old.sessions.items
  pub nameless : new.nameless ≡ old.nameless
  pub reads : ReadsAll d before after
  pub store_read : is_store_read reply ≡ true → SomeRose (faults_of d before) (faults_of d after)
  pub damage : TellsDamage c old.sessions.items (images_of d before) reply
