-- What is said of the events of a file that are not read.
use Rattle.std.specs.Prelude.{◌≡◌, Result, Err}
use Rattle.dg_graph.specs.declared.element.Column.{Column}
use Rattle.dg_history.specs.declared.node.Key.{Key}
use Rattle.dg_records.specs.declared.fault.RecordFault.{RecordFault}
use Rattle.dg_records.specs.declared.fault.RecordFault.TheVariants as fault

-- What a fault says of a result: the record is the first that is not right, and the column its first such. Of a failure and
-- of want of memory nothing is said.
abbrev pub IsFirstWrong : {A : Type 0} → RecordFault → Result A (Key × Column) → Type 0
IsFirstWrong (fault.Damaged k col) due = due ≡ Err (k, col)
IsFirstWrong fault.Disk due = Unit {0}
IsFirstWrong fault.Memory due = Unit {0}
