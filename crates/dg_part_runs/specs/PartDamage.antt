-- Which damage a reply over parts names, whatever their images are: the first one of the first part that meets one.
use Rattle.std.specs.Prelude.{◌≡◌, ◌⊎◌, ℕ, false, List, [], ◌∷◌, ◌++◌, Option, None, Some, Result, Ok, Err, IfSome}
use Rattle.std.specs.List.{AllZip, flat_map}
use Rattle.std.specs.Option.{option_map}
use Rattle.dg_graph.specs.declared.element.Column.{Column}
use Rattle.dg_graph.specs.declared.element.Columns.{Columns}
use Rattle.dg_history.specs.declared.node.Key.{Key}
use Rattle.dg_line.specs.PartGrammar.{part_command_of}
use Rattle.dg_machine.specs.Answer.{is_refusal, refusal_of}
use Rattle.dg_machine.specs.declared.command.Command.{Command}
use Rattle.dg_machine.specs.declared.command.Command.TheVariants as command
use Rattle.dg_machine.specs.declared.limits.Limits.{Limits}
use Rattle.dg_machine.specs.declared.reply.Reply.{Reply}
use Rattle.dg_machine.specs.ReplyText.{text}
use Rattle.dg_machine.specs.Script.{Asked, Entry, Long_line, No_command, script_by}
use Rattle.dg_records.specs.declared.fault.RecordFault.{RecordFault}
use Rattle.dg_records.specs.declared.fault.RecordFault.TheVariants as fault
use Rattle.dg_session.specs.Damage.{IsMetBy, MeetsNone, Nothing_read, ReadsFor, Reads_along, damage_told, graph_readings}
use Rattle.dg_session.specs.SessionStart.{Begins, IsNew}
use Rattle.dg_session.specs.SessionState.{SessionState}
use Rattle.dg_start.specs.SessionStart.{started_with}
use Rattle.dg_turns.specs.declared.end.End.{End}
use Rattle.dg_turns.specs.Ends.{GainsFor}
use Rattle.dg_part_runs.specs.declared.status.PartsStatus.{PartsStatus}
use Rattle.dg_part_runs.specs.declared.status.PartsStatus.TheVariants as status
use Rattle.dg_part_runs.specs.HeldParts.{names_kept, span_kept}
use Rattle.dg_part_runs.specs.PartsOutside.{PartsOutside}
use Rattle.dg_part_runs.specs.PartsStatuses.{status_of}
use Rattle.dg_part_runs.specs.PartTimes.{time_within}

-- Two at the same place of the lists have the first fact, and each two before them the other.
abbrev pub FirstZip : {A B : Type 0} → (A → B → Type 0) → (A → B → Type 0) → List A → List B → Type 0
FirstZip P Q (x ∷ xs) (y ∷ ys) = P x y ⊎ (Q x y × FirstZip P Q xs ys)
FirstZip P Q xs ys = ⊥

-- ---- one part

-- what is read of a part: the graph as of its own instant, in these columns; and of a part that is not asked, nothing
abbrev pub reads_at : Option ℕ → Columns → ReadsFor
reads_at None cols = Nothing_read
reads_at (Some t) cols = Reads_along (graph_readings (t ∷ []) cols)

-- what is read of the part of a session as of an instant of the whole
abbrev pub reads_within : ℕ → Columns → SessionState → ReadsFor
reads_within t cols s = reads_at (time_within (span_kept s) t) cols

-- the part meets this damage, the first in what is read of it; and it meets none
abbrev pub MeetsDamage : ℕ → Columns → Key → Column → SessionState → Option (List ℕ) → Type 0
MeetsDamage t cols key col s told = IsMetBy (reads_within t cols s) s.parts told key col

abbrev pub IsWhole : ℕ → Columns → SessionState → Option (List ℕ) → Type 0
IsWhole t cols s told = MeetsNone (reads_within t cols s) s.parts told

-- a fault that is damage names what the part meets
abbrev pub NamesMet : ℕ → Columns → SessionState → Option (List ℕ) → RecordFault → Type 0
NamesMet t cols s told fault.Disk = Unit {0}
NamesMet t cols s told fault.Memory = Unit {0}
NamesMet t cols s told (fault.Damaged key col) = MeetsDamage t cols key col s told

-- what is gathered of a part tells so of damage: where something is, the part meets none
abbrev pub TellsMet : {A : Type 0} → ℕ → Columns → SessionState → Option (List ℕ) → Result A RecordFault → Type 0
TellsMet t cols s told (Ok g) = IsWhole t cols s told
TellsMet t cols s told (Err f) = NamesMet t cols s told f

-- ---- all of them

abbrev pub AreWhole : ℕ → Columns → List SessionState → List (Option (List ℕ)) → Type 0
AreWhole t cols sessions told = AllZip (IsWhole t cols) sessions told

-- a part meets this damage first, and each before it meets none
abbrev pub MeetFirst : ℕ → Columns → Key → Column → List SessionState → List (Option (List ℕ)) → Type 0
MeetFirst t cols key col sessions told = FirstZip (MeetsDamage t cols key col) (IsWhole t cols) sessions told

abbrev pub NamesFirst : ℕ → Columns → List SessionState → List (Option (List ℕ)) → RecordFault → Type 0
NamesFirst t cols sessions told fault.Disk = Unit {0}
NamesFirst t cols sessions told fault.Memory = Unit {0}
NamesFirst t cols sessions told (fault.Damaged key col) = MeetFirst t cols key col sessions told

-- what is read of the parts tells so of damage: where something is, no part meets any
abbrev pub TellsFirst : {A : Type 0} → ℕ → Columns → List SessionState → List (Option (List ℕ)) → Result A RecordFault → Type 0
TellsFirst t cols sessions told (Ok r) = AreWhole t cols sessions told
TellsFirst t cols sessions told (Err f) = NamesFirst t cols sessions told f

-- ---- replies

-- the damage that the reply says was met
abbrev pub damage_in : Reply → Option (Key × Column)
damage_in reply = damage_told (refusal_of reply)

-- the command reads of the parts, and this damage is the first one of the first that meets one; and none meets any
abbrev pub IsFirstFor : Command → List SessionState → List (Option (List ℕ)) → Key × Column → Type 0
IsFirstFor (command.At t cols) sessions told damage = MeetFirst t cols damage.0 damage.1 sessions told
IsFirstFor c sessions told damage = ⊥

abbrev pub AreWholeFor : Command → List SessionState → List (Option (List ℕ)) → Type 0
AreWholeFor (command.At t cols) sessions told = AreWhole t cols sessions told
AreWholeFor c sessions told = Unit {0}

-- What a reply says of damage: it names the first one of the first part that meets one; and where it is no refusal, no part
-- meets any in what is read for the command.
pub record TellsDamage (c : Command) (sessions : List SessionState) (told : List (Option (List ℕ))) (reply : Reply) : Type 0 where
  pub damaged : IfSome (damage_in reply) (IsFirstFor c sessions told)
  pub whole : is_refusal reply ≡ false → AreWholeFor c sessions told

-- the same of the reply to an entry: to a line that is no command it says nothing of damage
abbrev pub NamesDamage : List SessionState → List (Option (List ℕ)) → Entry → Reply → Type 0
NamesDamage sessions told (Asked c got) reply = TellsDamage c sessions told reply
NamesDamage sessions told (No_command line) reply = damage_in reply ≡ None
NamesDamage sessions told Long_line reply = damage_in reply ≡ None

-- ---- runs

-- the image begins with what the session keeps of it, without a check
abbrev pub BeginsWith : SessionState → List ℕ → Type 0
BeginsWith s image = Begins false image (Ok (started_with s.parts.index s.parts.names s.parts.graph s.parts.recent))

-- the session was begun over the image, where the disk tells it, and has carried out no command
pub record IsBegunOver (limits : Limits) (session : SessionState) (told : Option (List ℕ)) : Type 0 where
  pub new : IsNew limits session.parts
  pub began : IfSome told (BeginsWith session)

-- Whatever the images are: what the sink gained is the texts of replies to the first entries of the script, with `Done` to all
-- of them. Sessions that were begun over the images say what each part meets as of an instant: a reply that a column is damaged
-- names the first damage of the first part that meets one.
pub record DamageIsNamed (limits : Limits) (s : PartsStatus) (start now : PartsOutside) : Type 0 where
  pub sessions : List SessionState
  pub begun : AllZip (IsBegunOver limits) sessions start.images
  pub ending : End
  pub ended : s ≡ status_of ending
  pub entries : List Entry
  pub replies : List Reply
  pub named : AllZip (NamesDamage sessions start.images) entries replies
  pub more : Option (List Entry)
  pub front : option_map (script_by part_command_of) start.left ≡ option_map (λ rest. entries ++ rest) more
  pub whole : s ≡ status.Done → IfSome more (λ rest. rest ≡ [])
  pub gained : GainsFor ending start.written (flat_map (text (names_kept [] sessions)) replies) now.written
