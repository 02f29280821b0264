-- What is read of a column of a list.
use Rattle.std.specs.Prelude.{◌≡◌, ℕ, List, Result, Ok, Err, IfOk, map}
use Rattle.std.specs.Global.{Vec}
use Rattle.dg_catalogue.specs.Entries.{column_length_in}
use Rattle.dg_graph.specs.ColumnGrammar.{events_in}
use Rattle.dg_graph.specs.declared.element.Column.{Column}
use Rattle.dg_graph.specs.declared.event.Event.{Event}
use Rattle.dg_graph.specs.declared.placed.Placed.{Placed}
use Rattle.dg_records.specs.ColumnReads.{Takes, TakesAtMost}
use Rattle.dg_history.specs.declared.node.Key.TheVariants as key
use Rattle.dg_index.specs.OpenedIndex.{Opening, column_at, entry_at}
use Rattle.dg_records.specs.declared.fault.RecordFault.{RecordFault}
use Rattle.dg_records.specs.declared.fault.RecordFault.TheVariants as fault

-- the events without their positions; damage is named by the number of the list
abbrev pub events_or : ℕ → Result (List Placed) ℕ → Result (List Event) ℕ
events_or i (Err offset) = Err i
events_or i (Ok placed) = Ok (map (λ (p : Placed). p.event) placed)

-- what a column of a list is read as in an image, with so many names; damage is named by the number of the list
abbrev pub events_at : ℕ → List ℕ → Opening → ℕ → Column → Result (List Event) ℕ
events_at names image o i col = events_or i (events_in col names (column_at image (entry_at o (key.List i)) col))

-- the bytes of a column of a list
abbrev pub bytes_at : Opening → ℕ → Column → ℕ
bytes_at o i col = column_length_in (entry_at o (key.List i)) col

-- What was read of a column of a list in this image: the events that it spells, or that it is in no spelling. Of a read
-- that failed and of want of memory nothing is said.
abbrev pub IsColumnRead : ℕ → List ℕ → Opening → ℕ → Column → Result (Vec Event) RecordFault → Type 0
IsColumnRead names image o i col (Ok events) = events_at names image o i col ≡ Ok events.items
IsColumnRead names image o i col (Err fault.Disk) = Unit {0}
IsColumnRead names image o i col (Err fault.Memory) = Unit {0}
IsColumnRead names image o i col (Err (fault.Damaged k c)) = (events_at names image o i col ≡ Err i) × (k ≡ key.List i) × (c ≡ col)

-- as many bytes are read as the column has, and no more where the call fails
pub record TakesColumn {A : Type 0} (o : Opening) (i : ℕ) (col : Column) (before after : ℕ) (result : Result A RecordFault) : Type 0 where
  pub takes : IfOk result (λ r. Takes (bytes_at o i col) before after)
  pub most : TakesAtMost (bytes_at o i col) before after
