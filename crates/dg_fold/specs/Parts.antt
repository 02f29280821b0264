-- The parts of a plan: the bytes of records, and what they spell.
use Rattle.std.specs.Prelude.{◌≡◌, ◌<◌, ◌≤◌, ◌^◌, length, ℕ, Bool, true, false, List, [], ◌∷◌, ◌++◌, map, Option, Result, Ok, Err, if◌then◌else◌}
use Rattle.dg_graph.specs.declared.element.Column.{Column}
use Rattle.dg_graph.specs.declared.element.Column.TheVariants.{Structure, NodeAttr, EdgeAttr, Transient}
use Rattle.dg_graph.specs.declared.element.Columns.{Columns}
use Rattle.dg_graph.specs.declared.element.Element.{Element}
use Rattle.dg_history.specs.declared.node.Key.{Key}
use Rattle.dg_graph.specs.declared.placed.Placed.{Placed}
use Rattle.dg_graph.specs.Composition.{Delta, IsDelta, Composes, Says, As_it_was, composition}
use Rattle.dg_graph.specs.Elements.{asks, column_of}
use Rattle.dg_delta.specs.Deltas.{joined}
use Rattle.dg_columns.specs.ColumnLaws.{HasNoMessage}
use Rattle.dg_columns.specs.Ranges.{EventsFit, ElementsFit}
use Rattle.dg_columns.specs.ReadFits.{IsIn}
use Rattle.dg_graph.specs.ColumnGrammar.{events_in, delta_in}
use Rattle.dg_columns.specs.declared.fault.ReadFault.{ReadFault}
use Rattle.dg_columns.specs.declared.fault.ReadFault.TheVariants as read
pub use Rattle.dg_records.specs.ColumnReads.{is_events}
use Rattle.dg_fold.specs.declared.part.Bytes.{Bytes}
use Rattle.dg_fold.specs.declared.part.Part.{Part}
use Rattle.dg_fold.specs.declared.fault.FoldFault.{FoldFault}
use Rattle.dg_fold.specs.declared.fault.FoldFault.TheVariants as fault
use Rattle.dg_plan.specs.declared.edge.Way.{Way}
use Rattle.dg_index.specs.IndexRecords.{Record, Events, Exact, column_of_record}
use Rattle.dg_fold.specs.PathIndependence.{taken}

-- the first result, and then what follows from it
abbrev pub and_then : {A B F : Type 0} → Result A F → (A → Result B F) → Result B F
and_then (Ok x) next = next x
and_then (Err f) next = Err f

-- the fault named otherwise
abbrev pub fault_named : {A F G : Type 0} → (F → G) → Result A F → Result A G
fault_named f (Ok x) = Ok x
fault_named f (Err e) = Err (f e)

-- the bytes of a column; messages are not read
abbrev pub bytes_in : Bytes → Column → List ℕ
bytes_in b Structure = b.structure.items
bytes_in b NodeAttr = b.node_attr.items
bytes_in b EdgeAttr = b.edge_attr.items
bytes_in b Transient = []

-- what a column of the record is read as
abbrev pub record_in : ℕ → Bool → Column → List ℕ → Result Record ℕ
record_in names true col bytes = and_then (events_in col names bytes) (λ (placed : List Placed). Ok (Events (map (λ (p : Placed). p.event) placed)))
record_in names false col bytes = and_then (delta_in col names bytes) (λ (d : Delta). Ok (Exact d))

-- the deltas of one column of the part; or the key and the column of the damage
abbrev pub part_column_in : ℕ → Part → Column → Result (List Delta) (Key × Column)
part_column_in names p col =
    fault_named (λ (offset : ℕ). (p.key, col))
    (and_then (record_in names (is_events p.key) col (bytes_in p.bytes col)) (λ (r : Record). Ok (taken p.way p.until r)))

-- both, one after the other; or the fault of the first that has one
abbrev pub beside : {F : Type 0} → Result (List Delta) F → Result (List Delta) F → Result (List Delta) F
beside a b = and_then a (λ (xs : List Delta). and_then b (λ (ys : List Delta). Ok (xs ++ ys)))

-- the deltas of a part, column by column
abbrev pub deltas_in_part : ℕ → Part → Result (List Delta) (Key × Column)
deltas_in_part names p = beside (part_column_in names p Structure) (beside (part_column_in names p NodeAttr) (part_column_in names p EdgeAttr))

-- the deltas of all parts, one after another; or the key and the column of the first damage
abbrev pub parts_in : ℕ → List Part → Result (List Delta) (Key × Column)
parts_in names [] = Ok []
parts_in names (p ∷ parts) = beside (deltas_in_part names p) (parts_in names parts)

-- what was returned is the composition of these deltas, or the first damage; unless memory ran out
abbrev pub Folds : Result Delta FoldFault → Result (List Delta) (Key × Column) → Type 0
Folds (Ok d) due = (list : List Delta) × (due ≡ Ok list) × Composes d list
Folds (Err (fault.Damaged k col)) due = due ≡ Err (k, col)
Folds (Err fault.Memory) due = Unit {0}

-- the composition of these deltas stands behind what stood there
abbrev pub StandsOnTop : Result (List Delta) (Key × Column) → Delta → Delta → Type 0
StandsOnTop due old new = (d : Delta) × IsDelta d × Folds (Ok d) due × (new ≡ joined old d)

-- a column of the part, which is one delta in its way, stands behind what stood there
abbrev pub ColumnStandsOnTop : ℕ → Part → Column → Delta → Delta → Type 0
ColumnStandsOnTop names p col old new = (d : Delta) × IsDelta d × IsIn col d × (part_column_in names p col ≡ Ok (d ∷ [])) × (new ≡ joined old d)

-- the fault of a column, as one of the parts
abbrev pub fault_at : Key → Column → ReadFault → FoldFault
fault_at k col (read.Damaged offset) = fault.Damaged k col
fault_at k col read.Memory = fault.Memory

-- of the columns those in which graphs have elements: a walk reads no others
abbrev pub graph_columns : Columns → Columns
graph_columns cols = record cols { transient = false }

-- the record's key names events
abbrev pub are_events : Record → Bool
are_events (Events events) = true
are_events (Exact d) = false

-- The part's bytes are the record's columns, of those of graphs that are asked for; a column that is not has none.
pub record PartHasRecord (cols : Columns) (r : Record) (p : Part) : Type 0 where
  pub kind : is_events p.key ≡ are_events r
  pub bytes : (col : Column) → bytes_in p.bytes col ≡ (if asks (graph_columns cols) col then column_of_record col r else [])

-- what can be spelled, with so many names; no delta has a message
abbrev pub RecordFits : ℕ → Record → Type 0
RecordFits names (Events events) = (length events ≤ 65536) × EventsFit names 0 events
RecordFits names (Exact d) = IsDelta d × (length d.minus < 2 ^ 32) × (length d.plus < 2 ^ 32) × ElementsFit names d.minus × ElementsFit names d.plus × HasNoMessage d

-- the word, where its element's column is asked for
abbrev pub word_in : Columns → Element → Says → Says
word_in cols x w = if asks cols (column_of x) then w else As_it_was

-- The deltas of a part that holds a record say what the record says in the way taken, of the elements in the
-- columns that are asked for, and nothing of others.
abbrev pub PartsAreRead : Type 0
PartsAreRead = (names : ℕ) → names < 2 ^ 32 → (cols : Columns) (r : Record) → RecordFits names r → (p : Part) → PartHasRecord cols r p
    → (list : List Delta) × (deltas_in_part names p ≡ Ok list)
    × ((x : Element) → composition list x ≡ word_in cols x (composition (taken p.way p.until r) x))

-- the part, taken in this way
abbrev pub taken_as : Part → Way → Option ℕ → Part
taken_as p way until = record p { way = way; until = until }
