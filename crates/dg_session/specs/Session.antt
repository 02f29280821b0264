-- How the steps of a session are steps of the machine.
use Rattle.std.specs.Prelude.{◌≡◌, ◌⊎◌, ℕ, ◌+◌, ◌*◌, Bool, true, false, ◌&&◌, ◌||◌, not, List, [], ◌∷◌, Option, Some, None, Result, Ok, Err, IfSome, is_some, length, map, nat_lt}
use Rattle.std.specs.List.{All}
use Rattle.dg_aux.specs.Turns.{said_over}
use Rattle.dg_graph.specs.declared.element.Column.{Column}
use Rattle.dg_text.specs.declared.limits.TheConstants.{NAMES_MAX}
use Rattle.dg_text.specs.Lines.{ScriptLine}
use Rattle.dg_history.specs.declared.node.Key.{Key}
use Rattle.dg_history.specs.declared.node.NodeId.{NodeId}
use Rattle.dg_history.specs.declared.params.Params.{Params}
use Rattle.dg_graph.specs.declared.event.Event.{Event}
use Rattle.dg_history.specs.History.{History, events_of, span_of, in_range, is_wide}
use Rattle.dg_index.specs.ImageOfHistory.{StandsAs}
use Rattle.dg_index.specs.OpenedIndex.{Opening}
use Rattle.dg_machine.specs.declared.command.Command.{Command}
use Rattle.dg_machine.specs.declared.reply.Refusal.{Refusal}
use Rattle.dg_machine.specs.declared.reply.Refusal.TheVariants as refusal
use Rattle.dg_machine.specs.declared.reply.Reply.{Reply}
use Rattle.dg_machine.specs.declared.reply.Reply.TheVariants as replied
use Rattle.dg_machine.specs.declared.stands.Stands.{Stands}
use Rattle.dg_machine.specs.declared.stands.Shown.{Shown}
use Rattle.dg_machine.specs.declared.stands.Shown.TheVariants.{Overlay, Base, Selected}
use Rattle.dg_machine.specs.Answer.{is_refusal, refusal_of}
use Rattle.dg_machine.specs.CutImage.{IsCut}
use Rattle.dg_machine.specs.MachineState.{MachineState, base_node, graphs_of, history_in}
use Rattle.dg_machine.specs.Needs.{Needs, Seen, can_be_held, earliest, end_asked, instants_asked, is_followed, is_out_of_range, is_writing, needs, nothing_more, refusals_seen}
use Rattle.dg_machine.specs.Run.{Step, is_failed_read}
use Rattle.dg_machine.specs.Script.{Asked}
use Rattle.dg_machine.specs.ValueIndex.{is_among}
use Rattle.dg_text.specs.Names.{number_of}
use Rattle.dg_batch.specs.declared.halt.Halt.{Halt}
use Rattle.dg_batch.specs.declared.halt.Halt.TheVariants as halt
use Rattle.dg_batch.specs.declared.stop.Stop.TheVariants as stop
use Rattle.dg_session.specs.Crashes.{IsFirstByte, is_created}
use Rattle.dg_session.specs.Decided.{Fits, is_late}
use Rattle.dg_session.specs.Parts.{Parts}
use Rattle.dg_session.specs.ValuesSaid.{IndexKept, said_of}
use Rattle.dg_session.specs.ReplyNames.{BeginWith}
use Rattle.dg_ask.specs.HeldIndex.{events_held, has_node_held, span_held}
use Rattle.dg_ask.specs.ReplyNames.{ReplyNamesAreThere}
use Rattle.dg_stored.specs.StoredHistory.{IsHeldBy, KeepsHistory}

-- the handle stands for a node of the index, with which plans may begin
abbrev pub is_of_node : Stands → Bool
is_of_node stands = is_some (base_node stands.what)

-- The instants of what is shown are among those of the events, and what it ends before is there or next, or the index of the
-- events has the node, so that no later event changes it.
abbrev pub is_within : Params → List Event → Shown → Bool
is_within p events (Overlay t on) = in_range (span_of events) t
is_within p events (Base node) = can_be_held p (length events) node
is_within p events (Selected what) = not (is_out_of_range (span_of events) (instants_asked what) (end_asked what))

-- the history reaches what the handle stands for
abbrev pub is_reached : History → Stands → Bool
is_reached z stands = is_within z.params (events_of z) stands.what

-- the session stands for this state of the machine, over the image
pub record StandsFor (session : Parts) (image : List ℕ) (m : MachineState) : Type 0 where
  pub image_stands : StandsAs m.index image
  pub kept : KeepsHistory m.index session.index session.names session.graph session.recent
  pub limits : session.limits ≡ m.limits
  pub table : session.table ≡ m.table
  pub graphs : session.graphs ≡ graphs_of m
  pub reached : All (λ (e : ℕ × Stands). is_reached (history_in m.index) e.1 ≡ true) m.table
  pub next : session.next ≡ m.next
  pub indexes : map said_of session.indexes ≡ map (said_over (events_of (history_in m.index))) m.indexes
  pub no_handles : m.index ≡ None → m.table ≡ []

-- the session holds the image, where the disk tells it: it is as the last call left it
abbrev pub HoldsImage : Parts → Option (List ℕ) → Type 0
HoldsImage session image = IfSome image (λ bytes. IsHeldBy session.index session.names bytes)

-- the fact holds of the two images, where the disk tells them
abbrev pub WhereBothTold : Option (List ℕ) → Option (List ℕ) → (List ℕ → List ℕ → Type 0) → Type 0
WhereBothTold a b P = (x y : List ℕ) → a ≡ Some x → b ≡ Some y → P x y

-- from every state that the session stands for, the machine may give the reply and go on to one that
-- it then stands for
abbrev pub Moves : Command → List ScriptLine → Parts → List ℕ → Parts → List ℕ → Reply → Type 0
Moves command got old before new after reply =
    (m : MachineState) → StandsFor old before m → (k : MachineState) × Step m (Asked command got) reply k × StandsFor new after k

-- the image is what the command may leave where the disk failed, from every state that the session
-- stands for
abbrev pub CutsOff : Command → List ScriptLine → Parts → List ℕ → List ℕ → Type 0
CutsOff command got old before after = (m : MachineState) → StandsFor old before m → IsCut m (Asked command got) before after

-- What a crash may leave of a command with these lines that is answered so: from every state that the session stood for
-- over the image, the bytes stand for its history, or for that of the state to which the machine goes with this reply; or
-- an index was made where there was none, over a file that has just the bytes of a header, of which the first may be
-- any.
abbrev pub LeavesAnswered : Command → List ScriptLine → Parts → Reply → List ℕ → List ℕ → Type 0
LeavesAnswered command got old reply before left =
    (m : MachineState) → StandsFor old before m
    → StandsAs m.index left
    ⊎ ((k : MachineState) × Step m (Asked command got) reply k × StandsAs k.index left)
    ⊎ ((is_created reply ≡ true) × (m.index ≡ None) × IsFirstByte before left)

-- the file goes on in the second form; without an index it would be made in that
abbrev pub is_wide_held : Option Opening → Bool
is_wide_held None = true
is_wide_held (Some o) = is_wide o.form

-- so many more events, or the names that so many lines may bring, are too many
abbrev pub is_too_full : Parts → ℕ → Bool
is_too_full p count = nat_lt p.limits.events (events_held p.index + count) || nat_lt NAMES_MAX (length p.names + 2 * count)

-- the indexed keys, by their numbers among the names
abbrev pub indexed_keys : Parts → List ℕ
indexed_keys p = map (λ (kept : IndexKept). kept.key) p.indexes

-- the key of this text is indexed
abbrev pub is_indexed_by : Parts → List ℕ → Bool
is_indexed_by p text = is_among (indexed_keys p) (number_of p.names text)

-- What is seen of what a session keeps; and of whether there is an index, which is said by itself.
abbrev pub seen_by : Bool → Parts → Seen
seen_by there p = record {
  index = there;
  wide = is_wide_held p.index;
  span = span_held p.index;
  events = events_held p.index;
  is_full = is_too_full p;
  has_node = has_node_held p.index;
  is_name = λ text. is_some (number_of p.names text);
  is_indexed = is_indexed_by p;
  indexes = length p.indexes;
  table = p.table;
  next = p.next;
}

-- The refusals of a command that needs this and is followed by so many lines, by what a session keeps.
abbrev pub refusals_by : Bool → Parts → ℕ → Needs → List Refusal
refusals_by there p read n = refusals_seen (seen_by there p) read n

-- the first of them that holds
abbrev pub refused_by : Parts → ℕ → Needs → Option Refusal
refused_by p read n = earliest (refusals_by (is_some p.index) p read n)

-- the damage that the refusal tells
abbrev pub damage_of : Refusal → Option (Key × Column)
damage_of (refusal.Damaged key col) = Some (key, col)
damage_of r = None

-- the refusal tells of a read of the index file: it failed, or gave a column that is in no spelling
abbrev pub is_of_read : Refusal → Bool
is_of_read r = is_failed_read r || is_some (damage_of r)

-- commands of this kind neither read nor write
abbrev pub is_quiet : Command → Bool
is_quiet c = not (needs c).reads && not (needs c).writes

-- nor does a line follow them
abbrev pub is_at_hand : Command → Bool
is_at_hand c = is_quiet c && not (is_followed c)

-- The command is not refused by what the session keeps, whatever the image is, and it reads records.
abbrev pub MayRead : Command → List ScriptLine → Parts → Type 0
MayRead command got old = ((needs command).reads ≡ true) × (refused_by old (length got) (needs command) ≡ None)

-- The refusal is the first that follows from what the session keeps; or none does, and it comes of a change, of the file or
-- of memory, where the command needs them; or memory lacks for a command that lines follow.
abbrev pub IsDecided : Command → List ScriptLine → Parts → Refusal → Type 0
IsDecided command got old r =
    (refused_by old (length got) (needs command) ≡ Some r)
    ⊎ ((is_late (needs command) r ≡ true) × (refused_by old (length got) (needs command) ≡ None))
    ⊎ ((r ≡ refusal.OutOfMemory) × (is_followed command ≡ true))

-- Whatever the image is: a reply that is no refusal fits the command, which the session does not refuse by what it
-- keeps; a refusal is decided.
abbrev pub Decides : Command → List ScriptLine → Parts → Reply → Option Refusal → Type 0
Decides command got old reply None = (refused_by old (length got) (needs command) ≡ None) × Fits command reply
Decides command got old reply (Some r) = IsDecided command got old r

-- The command and the lines that follow it make such a step, where the disk tells its image. Whatever the image is, a reply
-- that tells of a read takes the index of no refusal by what the session keeps, and the reply is decided by that. And
-- `crashes` holds of what a crash may leave: it says that a crash at any moment of the step leaves that.
abbrev pub Steps : Command → (List ScriptLine → Type 0) → Parts → Option (List ℕ) → Parts → Option (List ℕ) → Reply → ((List ℕ → List ℕ → Type 0) → Type 0) → Type 0
Steps command AreTaken old before new after reply crashes =
    (got : List ScriptLine) × AreTaken got
    × WhereBothTold before after (λ image then_image. Moves command got old image new then_image reply)
    × ((r : Refusal) → reply ≡ replied.Refused r → is_of_read r ≡ true → MayRead command got old)
    × Decides command got old reply (refusal_of reply)
    × crashes (LeavesAnswered command got old reply)

-- The command and the lines that follow it were cut off so, where the disk tells its image. The command is not refused by
-- what the session keeps, whatever the image is. And `crashes` holds of what a crash may leave, the same that a failure may.
abbrev pub Stops : Command → (List ScriptLine → Type 0) → Parts → Option (List ℕ) → Option (List ℕ) → ((List ℕ → List ℕ → Type 0) → Type 0) → Type 0
Stops command AreTaken old before after crashes =
    (got : List ScriptLine) × AreTaken got
    × (refused_by old (length got) (needs command) ≡ None)
    × WhereBothTold before after (λ image then_image. CutsOff command got old image then_image)
    × crashes (λ image left. CutsOff command got old image left)

-- what a retrieval of these instants needs, as so many handles
abbrev pub retrieval_needs : List ℕ → ℕ → Needs
retrieval_needs instants handles = record nothing_more { index = true; instants = instants; handles = handles }

-- what is needed to make an index of the key of this text, and to find something in one
abbrev pub index_needs : List ℕ → Needs
index_needs text = record nothing_more { index = true; unindexed = Some text }

abbrev pub find_needs : ℕ → List ℕ → Needs
find_needs t text = record nothing_more { index = true; instants = t ∷ []; indexed = Some text }

-- what is needed of two instants, between which something is added, as one handle
abbrev pub interval_needs : ℕ → ℕ → Needs
interval_needs from until = record nothing_more { index = true; instants = from ∷ []; until = Some until; handles = 1 }

-- what the holding of a node needs, as one handle
abbrev pub node_needs : NodeId → Needs
node_needs node = record nothing_more { index = true; node = Some node; handles = 1 }

-- The command and these lines are answered so, by no refusal.
pub record Accepts (command : Command) (got : List ScriptLine) (old : Parts) (before : Option (List ℕ)) (new : Parts) (after : Option (List ℕ)) (reply : Reply) : Type 0 where
  pub moves : WhereBothTold before after (λ image then_image. Moves command got old image new then_image reply)
  pub accepted : is_refusal reply ≡ false
  pub free : refused_by old (length got) (needs command) ≡ None
  pub fits : Fits command reply
  pub held : HoldsImage old before → HoldsImage new after
  pub no_index : new.index ≡ None → (old.index ≡ None) × (after ≡ before)
  pub quiet : is_writing command ≡ false → after ≡ before
  pub named : ReplyNamesAreThere (length new.names) reply
  pub keeps_names : BeginWith old.names new.names

-- neither the session nor the image has changed
pub record IsAsBefore (old : Parts) (before : Option (List ℕ)) (new : Parts) (after : Option (List ℕ)) : Type 0 where
  pub same : new ≡ old
  pub same_image : after ≡ before

-- The command and these lines are refused so.
pub record Denies (command : Command) (got : List ScriptLine) (old : Parts) (before : Option (List ℕ)) (new : Parts) (after : Option (List ℕ)) (r : Refusal) : Type 0 where
  pub moves : WhereBothTold before after (λ image then_image. Moves command got old image new then_image (replied.Refused r))
  pub as_before : IsAsBefore old before new after
  pub reads : is_of_read r ≡ true → MayRead command got old
  pub decided : IsDecided command got old r

-- what the command and these lines come to
abbrev pub ComesTo : Command → List ScriptLine → Parts → Option (List ℕ) → Parts → Option (List ℕ) → Result Reply Halt → Type 0
ComesTo command got old before new after (Ok reply) = Accepts command got old before new after reply
ComesTo command got old before new after (Err (halt.Refusal r)) = Denies command got old before new after r
ComesTo command got old before new after (Err (halt.Stop stop.Read)) = IsAsBefore old before new after
ComesTo command got old before new after (Err (halt.Stop stop.Limit)) = IsAsBefore old before new after
ComesTo command got old before new after (Err (halt.Stop stop.Store)) =
    (is_writing command ≡ true) × (refused_by old (length got) (needs command) ≡ None)
    × WhereBothTold before after (λ image then_image. CutsOff command got old image then_image)

-- What a crash may leave of the command and these lines, by what they come to: a refusal, and a stop for the lines, leave the
-- image alone.
abbrev pub LeavesCommand : Command → List ScriptLine → Parts → Result Reply Halt → List ℕ → List ℕ → Type 0
LeavesCommand command got old (Ok reply) = LeavesAnswered command got old reply
LeavesCommand command got old (Err (halt.Refusal r)) = λ before left. left ≡ before
LeavesCommand command got old (Err (halt.Stop stop.Read)) = λ before left. left ≡ before
LeavesCommand command got old (Err (halt.Stop stop.Limit)) = λ before left. left ≡ before
LeavesCommand command got old (Err (halt.Stop stop.Store)) = λ before left. CutsOff command got old before left

-- these are the lines that were taken; or the script was cut within them
abbrev pub TakesLines : {A : Type 0} → (List ScriptLine → Type 0) → Type 0 → List ScriptLine → Result A Halt → Type 0
TakesLines AreTaken IsCut got (Ok reply) = AreTaken got
TakesLines AreTaken IsCut got (Err (halt.Refusal r)) = AreTaken got
TakesLines AreTaken IsCut got (Err (halt.Stop stop.Read)) = IsCut
TakesLines AreTaken IsCut got (Err (halt.Stop stop.Limit)) = IsCut
TakesLines AreTaken IsCut got (Err (halt.Stop stop.Store)) = AreTaken got
