-- What the columns of node attributes of the lists are read as, each within the times of its list.
use Rattle.std.specs.Prelude.{◌≡◌, ℕ, Bool, false, ◌&&◌, List as ListOf, [], ◌∷◌, ◌++◌, Option, Some, None, Result, Ok, Err, IfSome, if◌then◌else◌, map, nat_le}
use Rattle.std.specs.Global.{Vec}
use Rattle.std.specs.List.{list_all}
use Rattle.dg_aux.specs.Turns.{AreAlike, AuxState, turns_of}
use Rattle.dg_aux.specs.declared.turns.Turn.{Turn}
use Rattle.dg_graph.specs.declared.element.Column.{Column}
use Rattle.dg_graph.specs.declared.element.Column.TheVariants.{NodeAttr}
use Rattle.dg_graph.specs.declared.event.Event.{Event}
use Rattle.dg_heard.specs.Heard.{list_total}
use Rattle.dg_history.specs.declared.node.Key.TheVariants as key
use Rattle.dg_index.specs.declared.entry.Ends.{Ends}
use Rattle.dg_index.specs.Hierarchy.{numbers}
use Rattle.dg_index.specs.OpenedIndex.{Opening, entry_at}
use Rattle.dg_range.specs.ColumnRuns.{before_more}
use Rattle.dg_heard.specs.ListColumns.{events_at}
use Rattle.dg_records.specs.declared.fault.RecordFault.{RecordFault}
use Rattle.dg_records.specs.declared.fault.RecordFault.TheVariants as fault

-- the event is within these times, where there are any
abbrev pub lies_in : Option Ends → Event → Bool
lies_in None e = false
lies_in (Some ends) e = nat_le ends.first e.time && nat_le e.time ends.last

-- the events of a list, where all of them are within its times; or damage, named by the number of the list
abbrev pub in_time : ℕ → Option Ends → Result (ListOf Event) ℕ → Result (ListOf Event) ℕ
in_time i ends (Ok events) = if list_all (lies_in ends) events then Ok events else Err i
in_time i ends (Err n) = Err n

-- what the column of a list is read as in an image, with so many names
abbrev pub values_at : ℕ → ListOf ℕ → Opening → ℕ → Result (ListOf Event) ℕ
values_at names image o i = in_time i (entry_at o (key.List i)).ends (events_at names image o i NodeAttr)

-- those of lists, one behind another; or the first column that is damaged
abbrev pub values_of_lists : ℕ → ListOf ℕ → Opening → ListOf ℕ → Result (ListOf Event) (ℕ × Column)
values_of_lists names image o [] = Ok []
values_of_lists names image o (i ∷ lists) = before_more (i, NodeAttr) (values_at names image o i) (values_of_lists names image o lists)

-- those of all lists that the index keeps
abbrev pub values_along : ℕ → ListOf ℕ → Opening → Result (ListOf Event) (ℕ × Column)
values_along names image o = values_of_lists names image o (numbers 0 (list_total o))

-- ---- the columns of node attributes

-- those of lists
abbrev pub node_columns : ListOf ℕ → ListOf (ℕ × Column)
node_columns lists = map (λ (i : ℕ). (i, NodeAttr)) lists

-- those of all lists that the index keeps
abbrev pub all_node_columns : Opening → ListOf (ℕ × Column)
all_node_columns o = node_columns (numbers 0 (list_total o))

-- ---- what a call answers that reads them

-- What was read of a list in this image: its values, or that they are damaged. Of a read that failed and of want of memory
-- nothing is said.
abbrev pub IsListRead : ℕ → ListOf ℕ → Opening → ℕ → Result (Vec Event) RecordFault → Type 0
IsListRead names image o i (Ok events) = values_at names image o i ≡ Ok events.items
IsListRead names image o i (Err fault.Disk) = Unit {0}
IsListRead names image o i (Err fault.Memory) = Unit {0}
IsListRead names image o i (Err (fault.Damaged k c)) = (values_at names image o i ≡ Err i) × (k ≡ key.List i) × (c ≡ NodeAttr)

-- The fault names the first of the columns that is damaged; or a read failed, or memory ran out.
abbrev pub IsFirstValueDamage : ℕ → ListOf ℕ → Opening → RecordFault → Type 0
IsFirstValueDamage names image o fault.Disk = Unit {0}
IsFirstValueDamage names image o fault.Memory = Unit {0}
IsFirstValueDamage names image o (fault.Damaged k col) = (p : ℕ × Column) × (values_along names image o ≡ Err p) × (k ≡ key.List p.0) × (col ≡ p.1)

-- What a call tells of damage in this image: none where it answers.
abbrev pub TellsValueDamage : {A : Type 0} → ℕ → Opening → ListOf ℕ → Result A RecordFault → Type 0
TellsValueDamage names o image (Ok r) = (events : ListOf Event) × (values_along names image o ≡ Ok events)
TellsValueDamage names o image (Err f) = IsFirstValueDamage names image o f

-- behind the turns that were there are those of the events that these columns are read as in the image
pub record AreTurnsIn (names : ℕ) (image : Option (ListOf ℕ)) (o : Opening) (name : ℕ) (old new : ListOf Turn) : Type 0 where
  pub events : ListOf Event
  pub read : IfSome image (λ bytes. values_along names bytes o ≡ Ok events)
  pub turns : new ≡ old ++ turns_of name events

-- The index says of each value of its key what those events say, with the recent ones behind them.
abbrev pub SaysValuesOf : ℕ → ListOf ℕ → Opening → ListOf Event → AuxState → Type 0
SaysValuesOf names image o recent aux = (events : ListOf Event) × (values_along names image o ≡ Ok events) × AreAlike (turns_of aux.key (events ++ recent)) aux.turns
