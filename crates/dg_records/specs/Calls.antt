-- What the calls that read records answer, and what they leave.
use Rattle.std.specs.Prelude.{◌≡◌, ℕ, List, Result, Ok, Err, IsErrOf}
use Rattle.std.specs.Global.{Vec}
use Rattle.dg_disk.specs.Calls.{Fails, ReadsDisk}
use Rattle.dg_disk.specs.declared.disk.Disk.{Ghosts}
use Rattle.dg_graph.specs.ColumnGrammar.{events_in}
use Rattle.dg_graph.specs.declared.element.Column.{Column}
use Rattle.dg_graph.specs.declared.placed.Placed.{Placed}
use Rattle.dg_history.specs.declared.node.Key.{Key}
use Rattle.dg_index.specs.OpenedIndex.{Opening, column_at, entry_at}
use Rattle.dg_records.specs.declared.fault.RecordFault.{RecordFault}
use Rattle.dg_records.specs.declared.fault.RecordFault.TheVariants as fault

-- The image is as it was, and where the call says that a read failed, one did.
pub record ReadsRecords {A D : Type 0} (g : Ghosts D) (old new : D) (result : Result A RecordFault) : Type 0 where
  pub disk : ReadsDisk g old new
  pub cause : IsErrOf result fault.Disk → Fails g old new

-- what a column of a record is read as in an image, with so many names; or the offset of the damage
abbrev pub placed_in : ℕ → List ℕ → Opening → Key → Column → Result (List Placed) ℕ
placed_in names image o key col = events_in col names (column_at image (entry_at o key) col)

-- What was read of the column in this image: the events that it spells with their positions, or that it is in no spelling.
-- Of a read that failed and of want of memory nothing is said.
abbrev pub IsPlacedRead : ℕ → List ℕ → Opening → Key → Column → Result (Vec Placed) RecordFault → Type 0
IsPlacedRead names image o key col (Ok placed) = placed_in names image o key col ≡ Ok placed.items
IsPlacedRead names image o key col (Err fault.Disk) = Unit {0}
IsPlacedRead names image o key col (Err fault.Memory) = Unit {0}
IsPlacedRead names image o key col (Err (fault.Damaged k c)) = (offset : ℕ) × (placed_in names image o key col ≡ Err offset) × (k ≡ key) × (c ≡ col)
