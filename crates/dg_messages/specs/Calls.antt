-- What the calls answer: over whatever image, and over that of a history.
use Rattle.std.specs.Prelude.{◌≡◌, ℕ, ◌+◌, true, List, Option, Result, Ok, Err, IfErr, IfOk, IfSome, length, map}
use Rattle.std.specs.List.{All, sum}
use Rattle.dg_graph.specs.declared.element.Column.TheVariants.{Transient}
use Rattle.dg_graph.specs.declared.element.Columns.{Columns}
use Rattle.dg_graph.specs.declared.element.Element.{Element}
use Rattle.dg_graph.specs.declared.event.Event.{Event}
use Rattle.dg_graph.specs.Elements.{IsSet}
use Rattle.dg_heard.specs.Heard.{heard_bytes, heard_events, with_heard_bytes}
use Rattle.dg_records.specs.ColumnReads.{Takes, TakesAtMost}
use Rattle.dg_history.specs.declared.node.Key.TheVariants as key
use Rattle.dg_history.specs.History.{History}
use Rattle.dg_index.specs.OpenedIndex.{Opening}
use Rattle.dg_messages.specs.Told.{AreToldIn, TellBehind, shown_with_messages}
use Rattle.dg_retrieval.specs.Beginnings.{GraphLead, begun_with, leads_in, led_to}
use Rattle.dg_records.specs.declared.fault.RecordFault.{RecordFault}
use Rattle.dg_records.specs.declared.fault.RecordFault.TheVariants as fault
use Rattle.dg_records.specs.EventNames.{EventNamesAreThere}
use Rattle.dg_retrieval.specs.declared.retrieval.Retrieved.{Retrieved}
use Rattle.dg_retrieval.specs.NamesThere.{NamesAreThere}
use Rattle.dg_retrieval.specs.Retrieval.{IsNoDamage, graphs_at}

-- The fault names the first list, by its number, whose column of messages is in no spelling, of those that are heard for
-- the instants; or a read failed, or memory ran out.
abbrev pub IsFirstMessageDamage : ℕ → List ℕ → Opening → List ℕ → RecordFault → Type 0
IsFirstMessageDamage name_count image o times fault.Disk = Unit {0}
IsFirstMessageDamage name_count image o times fault.Memory = Unit {0}
IsFirstMessageDamage name_count image o times (fault.Damaged k col) =
    (i : ℕ) × (heard_events name_count image o times ≡ Err i) × (k ≡ key.List i) × (col ≡ Transient)

-- no column that is heard for the instants is damaged
abbrev pub AreHeard : ℕ → List ℕ → Opening → List ℕ → Type 0
AreHeard name_count image o times = (events : List Event) × (heard_events name_count image o times ≡ Ok events)

-- What a call tells of damage in this image.
abbrev pub TellsMessageDamage : {A : Type 0} → ℕ → Opening → List ℕ → List ℕ → Result A RecordFault → Type 0
TellsMessageDamage name_count o times image (Ok r) = AreHeard name_count image o times
TellsMessageDamage name_count o times image (Err f) = IsFirstMessageDamage name_count image o times f

-- as many bytes are read as the columns have that are heard for the instants, and no more where the call fails
pub record TakesHeard {A : Type 0} (o : Opening) (times : List ℕ) (before after : ℕ) (result : Result A RecordFault) : Type 0 where
  pub takes : IfOk result (λ r. Takes (heard_bytes o times) before after)
  pub most : TakesAtMost (heard_bytes o times) before after

-- What was retrieved, with the messages of the instants: each lead puts them in behind the rest, each weight has the bytes
-- that are heard for it, and the names that the messages have are there, where those of the recent events are.
pub record HasMessages (name_count : ℕ) (o : Opening) (image : Option (List ℕ)) (recent : List Event) (times : List ℕ) (old new : Retrieved) : Type 0 where
  pub sets : List (List Element)
  pub told : IfSome image (λ bytes. AreToldIn name_count bytes o recent times sets)
  pub behind : TellBehind (leads_in old.leads) (leads_in new.leads) sets
  pub count : length (leads_in new.leads) ≡ length times
  pub weight : new.weight ≡ old.weight + heard_bytes o times
  pub singles : new.singles.items ≡ with_heard_bytes o times old.singles.items
  pub sum : new.sum ≡ sum new.singles.items
  pub named : EventNamesAreThere name_count recent → All (λ (l : GraphLead). NamesAreThere name_count l.delta.plus) (leads_in old.leads)
      → All (λ (l : GraphLead). NamesAreThere name_count l.delta.plus) (leads_in new.leads)

-- With the image, the index and the memory of a history: where the leads came to the graphs as of the instants, they come
-- to them with the messages of these; and no damage is met.
pub record HearsOver (z : History) (times : List ℕ) (old : Retrieved) (result : Result Retrieved RecordFault) : Type 0 where
  pub graphs : IfOk result (λ r. (now : List Element) (held : ℕ → List Element) (cols : Columns) → cols.transient ≡ true
      → All (λ (l : GraphLead). IsSet (begun_with now held l.begins)) (leads_in old.leads)
      → map (led_to now held cols) (leads_in old.leads) ≡ graphs_at z times cols
      → map (led_to now held cols) (leads_in r.leads) ≡ shown_with_messages z times cols)
  pub never : IfErr result IsNoDamage
