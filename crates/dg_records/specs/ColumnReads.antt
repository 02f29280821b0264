-- What is read of the columns of records, and how many bytes.
use Rattle.std.specs.Prelude.{◌≡◌, ◌≤◌, ℕ, Bool, true, false, List, [], ◌∷◌, length, Result, Ok, Err, if◌then◌else◌, sum_by}
use Rattle.dg_columns.specs.Fronts.{front_of}
use Rattle.dg_disk.specs.Counts.{raised_by}
use Rattle.dg_graph.specs.declared.element.Column.{Column}
use Rattle.dg_graph.specs.declared.element.Column.TheVariants.{Structure, NodeAttr, EdgeAttr, Transient}
use Rattle.dg_graph.specs.declared.element.Columns.{Columns}
use Rattle.dg_graph.specs.Elements.{asks}
use Rattle.dg_history.specs.declared.node.Key.{Key}
use Rattle.dg_history.specs.declared.node.Key.TheVariants as key
use Rattle.dg_index.specs.OpenedIndex.{Opening, column_at, entry_at}
use Rattle.dg_records.specs.DeltaFronts.{read_of_delta}

-- ---- what is read

-- the record's key names events
abbrev pub is_events : Key → Bool
is_events (key.List n) = true
is_events (key.Piece s) = true
is_events (key.Top h) = false
is_events (key.Down h c) = false

-- the bytes of each column of each record
abbrev pub ColumnBytes : Type 0
ColumnBytes = Key → Column → List ℕ

-- What is read of a column: of one of events the front, which is all of it where it can be read as events; of one of a
-- delta all where its counts fit its length.
abbrev pub read_of : Key → List ℕ → List ℕ
read_of key bytes = if is_events key then front_of bytes else read_of_delta bytes

-- those that are read of what an index keeps in an image
abbrev pub kept_in : List ℕ → Opening → ColumnBytes
kept_in image o key col = read_of key (column_at image (entry_at o key) col)

-- of these the columns that are asked for; another one has no bytes
abbrev pub asked_column : ColumnBytes → Columns → Key → Column → List ℕ
asked_column bytes cols key col = if asks cols col then bytes key col else []

-- the bytes of the asked columns of a record
abbrev pub asked_length : ColumnBytes → Columns → Key → ℕ
asked_length bytes cols key =
    sum_by (λ col. length (asked_column bytes cols key col)) (Structure ∷ NodeAttr ∷ EdgeAttr ∷ Transient ∷ [])

-- ---- how many bytes are read

-- The count of bytes read rose by n; each stands at the last value of a u64 once it is there.
abbrev pub Takes : ℕ → ℕ → ℕ → Type 0
Takes n before after = raised_by 0 after ≡ raised_by n before

-- it rose by n or less
abbrev pub TakesAtMost : ℕ → ℕ → ℕ → Type 0
TakesAtMost n before after = raised_by 0 after ≤ raised_by n before

-- The call reads so many bytes, and no more where it fails.
abbrev pub TakesOrFails : {A E : Type 0} → Result A E → ℕ → ℕ → ℕ → Type 0
TakesOrFails (Ok x) n before after = Takes n before after
TakesOrFails (Err fault) n before after = TakesAtMost n before after
