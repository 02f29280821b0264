-- What columns of lists have, read one after another, each named by its list and itself.
use Rattle.std.specs.Prelude.{◌≡◌, ℕ, List as ListOf, [], ◌∷◌, ◌++◌, Result, Ok, Err, IfOk}
use Rattle.std.specs.List.{sum_by}
use Rattle.dg_records.specs.ColumnReads.{Takes, TakesAtMost}
use Rattle.dg_graph.specs.declared.element.Column.{Column}
use Rattle.dg_graph.specs.declared.event.Event.{Event}
use Rattle.dg_heard.specs.ListColumns.{bytes_at, events_at}
use Rattle.dg_history.specs.declared.node.Key.TheVariants as key
use Rattle.dg_heard.specs.ListColumns.{bytes_at, events_at}
use Rattle.dg_index.specs.OpenedIndex.{Opening}
use Rattle.dg_records.specs.declared.fault.RecordFault.{RecordFault}
use Rattle.dg_records.specs.declared.fault.RecordFault.TheVariants as fault

-- the first events and then the others, unless these have damage
abbrev pub and_more : ListOf Event → Result (ListOf Event) (ℕ × Column) → Result (ListOf Event) (ℕ × Column)
and_more events (Err p) = Err p
and_more events (Ok more) = Ok (events ++ more)

-- what one column is read as and then the others; its damage is named by its list and itself
abbrev pub before_more : ℕ × Column → Result (ListOf Event) ℕ → Result (ListOf Event) (ℕ × Column) → Result (ListOf Event) (ℕ × Column)
before_more p (Err i) more = Err p
before_more p (Ok events) more = and_more events more

-- the events of these columns, one behind another; or the first column that is in no spelling
abbrev pub events_along : ℕ → ListOf ℕ → Opening → ListOf (ℕ × Column) → Result (ListOf Event) (ℕ × Column)
events_along names image o [] = Ok []
events_along names image o (p ∷ ps) = before_more p (events_at names image o p.0 p.1) (events_along names image o ps)

-- the bytes that they have together
abbrev pub bytes_along : Opening → ListOf (ℕ × Column) → ℕ
bytes_along o ps = sum_by (λ (p : ℕ × Column). bytes_at o p.0 p.1) ps

-- ---- what a call answers that reads them

-- as many bytes are read as the columns have together, and no more where the call fails
pub record TakesColumns {A : Type 0} (o : Opening) (ps : ListOf (ℕ × Column)) (before after : ℕ) (result : Result A RecordFault) : Type 0 where
  pub takes : IfOk result (λ r. Takes (bytes_along o ps) before after)
  pub most : TakesAtMost (bytes_along o ps) before after

-- The fault names the first of the columns that is in no spelling; or a read failed, or memory ran out.
abbrev pub IsFirstDamage : ℕ → ListOf ℕ → Opening → ListOf (ℕ × Column) → RecordFault → Type 0
IsFirstDamage names image o ps fault.Disk = Unit {0}
IsFirstDamage names image o ps fault.Memory = Unit {0}
IsFirstDamage names image o ps (fault.Damaged k col) = (p : ℕ × Column) × (events_along names image o ps ≡ Err p) × (k ≡ key.List p.0) × (col ≡ p.1)

-- What a call tells of damage in this image: none where it answers.
abbrev pub TellsColumnDamage : {A : Type 0} → ℕ → Opening → ListOf (ℕ × Column) → ListOf ℕ → Result A RecordFault → Type 0
TellsColumnDamage names o ps image (Ok r) = (events : ListOf Event) × (events_along names image o ps ≡ Ok events)
TellsColumnDamage names o ps image (Err f) = IsFirstDamage names image o ps f
