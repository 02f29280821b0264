-- The machine over several histories, the parts of one: it keeps them and a table of sets, and answers three commands.
use Rattle.std.specs.Prelude.{◌≡◌, ℕ, ◌+◌, ◌==◌, true, false, not, List, [], ◌∷◌, ◌++◌, Option, Some, None, if◌then◌else◌, is_some, length, map, nat_lt, sum}
use Rattle.std.specs.List.{AllZip, count_by, flat_map}
use Rattle.dg_graph.specs.declared.element.Columns.{Columns}
use Rattle.dg_graph.specs.declared.element.Element.{Element}
use Rattle.dg_graph.specs.DifferentialFunction.{all_of}
use Rattle.dg_history.specs.History.{History, events_of, in_range, names_of}
use Rattle.dg_line.specs.PartGrammar.{part_command_of}
use Rattle.dg_machine.specs.Answer.{headed, no_memory, store_read}
use Rattle.dg_machine.specs.CommandGrammar.{IsColumnBy}
use Rattle.dg_machine.specs.declared.command.Command.{Command}
use Rattle.dg_machine.specs.declared.command.Command.TheVariants as command
use Rattle.dg_machine.specs.declared.limits.Limits.{Limits}
use Rattle.dg_machine.specs.declared.limits.TheConstants.{HANDLE_MAX, LIVE_HANDLES_MAX}
use Rattle.dg_machine.specs.declared.query.Query.TheVariants as query
use Rattle.dg_machine.specs.declared.query.QueryHead.TheVariants as told
use Rattle.dg_machine.specs.declared.reply.BodyLine.TheVariants as line
use Rattle.dg_machine.specs.declared.reply.Head.TheVariants as head
use Rattle.dg_machine.specs.declared.reply.Refusal.{Refusal}
use Rattle.dg_machine.specs.declared.reply.Refusal.TheVariants as refusal
use Rattle.dg_machine.specs.declared.reply.Reply.{Reply}
use Rattle.dg_machine.specs.declared.reply.Reply.TheVariants as replied
use Rattle.dg_machine.specs.MachineState.{machine_at}
use Rattle.dg_machine.specs.Needs.{earliest, needs, when}
use Rattle.dg_machine.specs.ReplyText.{text}
use Rattle.dg_machine.specs.Run.{is_store_read}
use Rattle.dg_machine.specs.Script.{Entry, Asked, No_command, Long_line}
use Rattle.dg_partition.specs.PartRanges.{shown_within}
use Rattle.dg_part_runs.specs.PartTimes.{ends_of, ends_of_parts, time_within}
use Rattle.dg_session.specs.Gathering.{WeighsAlone}

-- The limits; the histories, of which no command changes one; the live handles with their sets, the oldest first; and the
-- number of the next handle.
pub record PartsState : Type 0 where
  pub limits : Limits
  pub parts : List History
  pub table : List (ℕ × List Element)
  pub next : ℕ

-- the machine before its first command
abbrev pub parts_at : Limits → List History → PartsState
parts_at limits parts = record { limits = limits; parts = parts; table = []; next = limits.first_handle }

-- the names of the first part that has an event; none where none has one
abbrev pub names_of_parts : List History → List (List ℕ)
names_of_parts [] = []
names_of_parts (z ∷ parts) = if is_some (ends_of z) then names_of z else names_of_parts parts

-- ---- the table

-- the set of a handle, where it is live
abbrev pub set_at : ℕ → List (ℕ × List Element) → Option (List Element)
set_at handle [] = None
set_at handle (entry ∷ table) = if entry.0 == handle then Some entry.1 else set_at handle table

abbrev pub without_set : ℕ → List (ℕ × List Element) → List (ℕ × List Element)
without_set handle [] = []
without_set handle (entry ∷ table) = if entry.0 == handle then table else entry ∷ without_set handle table

-- the state with a new handle for this set
abbrev pub with_set : PartsState → List Element → PartsState
with_set m set = record m { table = m.table ++ (m.next, set) ∷ []; next = m.next + 1 }

-- ---- what is shown

-- what all parts together show as of the instant, each within its own range
abbrev pub union_shown : List History → ℕ → Columns → List Element
union_shown parts t cols = all_of (map (λ z. shown_within (events_of z) t cols) parts)

-- a part that is not asked weighs nothing, and one that is asked what a retrieval as of this instant weighs
abbrev pub WeighsAt : Limits → Columns → History → Option ℕ → ℕ → Type 0
WeighsAt limits cols z None weight = weight ≡ 0
WeighsAt limits cols z (Some t) weight = WeighsAlone (machine_at limits (Some z)) t cols weight

abbrev pub WeighsWithin : Limits → ℕ → Columns → History → ℕ → Type 0
WeighsWithin limits t cols z weight = WeighsAt limits cols z (time_within (ends_of z) t) weight

-- the parts together weigh so much: the sum of what each weighs
abbrev pub WeighsTogether : Limits → List History → ℕ → Columns → ℕ → Type 0
WeighsTogether limits parts t cols weight =
    (weights : List ℕ) × AllZip (WeighsWithin limits t cols) parts weights × (weight ≡ sum weights)

-- ---- the commands

-- the three commands; what is shown has no messages
abbrev pub IsOfParts : Command → Type 0
IsOfParts (command.At t cols) = cols.transient ≡ false
IsOfParts (command.Ask handle query.List) = Unit {0}
IsOfParts (command.Release handle) = Unit {0}
IsOfParts c = ⊥

-- the handle is not live
abbrev pub unknown : List (ℕ × List Element) → ℕ → List Refusal
unknown table handle = when (not (is_some (set_at handle table))) (refusal.UnknownHandle handle)

-- Why no new handle is given for this instant, where the parts have this range, so many handles live, and the next has this
-- number: the instant is out of the range, too many would live, or the number would be too great.
abbrev pub without_handle : Option (ℕ × ℕ) → ℕ → ℕ → ℕ → List Refusal
without_handle ends t live next =
    when (not (in_range ends t)) (refusal.OutOfRange ends)
    ++ (when (nat_lt LIVE_HANDLES_MAX (live + 1)) (refusal.PoolFull live 1)
    ++ when (nat_lt (HANDLE_MAX + 1) (next + 1)) refusal.HandlesSpent)

-- why a command is refused before anything is read, if it is
abbrev pub refused_of_parts : PartsState → Command → Option Refusal
refused_of_parts m (command.At t cols) = earliest (without_handle (ends_of_parts m.parts) t (length m.table) m.next)
refused_of_parts m (command.Ask handle q) = earliest (unknown m.table handle)
refused_of_parts m (command.Release handle) = earliest (unknown m.table handle)
refused_of_parts m c = None

-- a line for each element of the set of a handle
abbrev pub listing : ℕ → List Element → Reply
listing handle set = replied.Answered (head.Asked handle (told.List (length set))) (map (λ x. line.Element x) set)

-- From the state m the machine may give the entry this reply, and go on in the new state. As of an instant, in columns, the
-- parts together show what `shows` says.
pub data PartsStep (shows : ℕ → Columns → List Element) (m : PartsState) : Entry → Reply → PartsState → Type 0 where
  Gives : (t : ℕ) (cols : Columns) (weight : ℕ) → cols.transient ≡ false → refused_of_parts m (command.At t cols) ≡ None
      → WeighsTogether m.limits m.parts t cols weight
      → PartsStep shows m (Asked (command.At t cols) []) (headed (head.At m.next weight)) (with_set m (shows t cols))
  Lists : (handle : ℕ) (set : List Element) → set_at handle m.table ≡ Some set
      → PartsStep shows m (Asked (command.Ask handle query.List) []) (listing handle set) m
  Releases : (handle : ℕ) → is_some (set_at handle m.table) ≡ true
      → PartsStep shows m (Asked (command.Release handle) []) (headed (head.Released handle)) (record m { table = without_set handle m.table })
  Refuses : (c : Command) (r : Refusal) → refused_of_parts m c ≡ Some r → PartsStep shows m (Asked c []) (replied.Refused r) m
  Lacks_memory : (c : Command) → (needs c).memory ≡ true → refused_of_parts m c ≡ None → PartsStep shows m (Asked c []) no_memory m
  Fails_to_read : (t : ℕ) (cols : Columns) → refused_of_parts m (command.At t cols) ≡ None → PartsStep shows m (Asked (command.At t cols) []) store_read m
  Leaves_grammar : (line : List ℕ) (column : ℕ) → IsColumnBy part_command_of line column
      → PartsStep shows m (No_command line) (replied.Refused (refusal.Syntax column)) m
  Too_long : PartsStep shows m Long_line (replied.Refused refusal.LineLong) m

-- ---- runs

pub record PartsAnswered : Type 0 where
  pub reply : Reply
  pub state : PartsState

-- A run from m: to each entry a reply, with the state after it.
abbrev pub PartsRun : (ℕ → Columns → List Element) → PartsState → List Entry → List PartsAnswered → Type 0
PartsRun shows m [] [] = Unit {0}
PartsRun shows m (e ∷ entries) (a ∷ answers) = PartsStep shows m e a.reply a.state × PartsRun shows a.state entries answers
PartsRun shows m [] (a ∷ answers) = ⊥
PartsRun shows m (e ∷ entries) [] = ⊥

-- the texts of the replies, one after another, by these names
abbrev pub texts_by : List (List ℕ) → List PartsAnswered → List ℕ
texts_by names answers = flat_map (λ (a : PartsAnswered). text names a.reply) answers

-- how many of the replies say that a read of a part failed
abbrev pub failed_reads_in : List PartsAnswered → ℕ
failed_reads_in answers = count_by (λ (a : PartsAnswered). is_store_read a.reply) answers
