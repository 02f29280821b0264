-- A segment of the index file as one text: the directory, and the columns of lists, deltas and the piece.
use Rattle.std.specs.Prelude.{codes, ℕ, ◌+◌, ◌-◌, Bool, true, false, List, [], ◌∷◌, ◌++◌, map, length, take, drop}
use Rattle.std.specs.Borrow.{Bor}
use Rattle.std.specs.List.{flat_map}
use Rattle.dg_graph.specs.declared.element.Column.TheVariants as column
use Rattle.dg_graph.specs.declared.event.Event.{Event}
use Rattle.dg_history.specs.declared.params.Params.{Params}
use Rattle.dg_history.specs.declared.form.Form.{Form}
use Rattle.dg_history.specs.declared.form.Form.TheVariants as form
use Rattle.dg_graph.specs.declared.function.Function.{Function}
use Rattle.dg_graph.specs.declared.function.Function.TheVariants.{Intersection, Union, Balanced, Skewed}
use Rattle.dg_graph.specs.Columns.{two, four, eight}
use Rattle.dg_history.specs.History.{first_time_of, History, Batch, last_time_from}
use Rattle.dg_index.specs.declared.per_column.PerColumn.{PerColumn}
use Rattle.dg_index.specs.Hierarchy.{numbers, leaves}
use Rattle.dg_index.specs.IndexRecords.{Record, Events, deltas_due, closed_list, piece_of, record_among, column_of_record}

abbrev pub function_byte : Function → ℕ
function_byte Intersection = 1
function_byte Union = 2
function_byte Balanced = 3
function_byte (Skewed r) = 4

-- the share of a skewed function, and 0 of every other
abbrev pub share_of : Function → ℕ
share_of Intersection = 0
share_of Union = 0
share_of Balanced = 0
share_of (Skewed r) = r

-- the header of either form, its gate open
abbrev pub header_one : Params → List ℕ
header_one params = 1 ∷ (codes "DGRAPH1" ++ (four params.l ++ (four params.k ++ function_byte params.function ∷ [])))

abbrev pub header_two : Params → List ℕ
header_two params =
    1 ∷ (codes "DGRAPH2" ++ (four params.l ++ (two (share_of params.function) ++ (two params.k ++ function_byte params.function ∷ []))))

-- a file that is upgraded keeps its header
abbrev pub header : Form → Params → List ℕ
header form.One params = header_one params
header (form.Upgraded b) params = header_one params
header form.Two params = header_two params

-- a name behind its length
abbrev pub name_bytes : List ℕ → List ℕ
name_bytes text = two (length text) ++ text

-- the columns of a record
abbrev pub Stored : Type 0
Stored = PerColumn (List ℕ)

-- a closed list, with the times of its first and of its last event
pub record StoredList : Type 0 where
  pub first : ℕ
  pub last : ℕ
  pub columns : Stored

-- What a segment is of: how many events its batch has, its first and its last time, the texts of its new
-- names, and the columns of its closed lists, of its deltas and of its piece.
pub record Segment : Type 0 where
  pub events : ℕ
  pub first : ℕ
  pub last : ℕ
  pub names : List (List ℕ)
  pub lists : List StoredList
  pub deltas : List Stored
  pub piece : Stored

-- the columns that are lent
abbrev pub lent : PerColumn (Bor (List ℕ)) → Stored
lent c = record {
  structure = c.structure.now;
  node_attrs = c.node_attrs.now;
  edge_attrs = c.edge_attrs.now;
  transient = c.transient.now;
}

abbrev pub bytes_of : Stored → List ℕ
bytes_of s = s.structure ++ (s.node_attrs ++ (s.edge_attrs ++ s.transient))

-- the lengths of the columns, as they stand in a directory: in the second form the messages are among them
abbrev pub lengths_bytes : Bool → Stored → List ℕ
lengths_bytes false s = eight (length s.structure) ++ (eight (length s.node_attrs) ++ eight (length s.edge_attrs))
lengths_bytes true s =
    eight (length s.structure) ++ (eight (length s.node_attrs) ++ (eight (length s.edge_attrs) ++ eight (length s.transient)))

abbrev pub list_bytes : Bool → StoredList → List ℕ
list_bytes wide x = eight x.first ++ (eight x.last ++ lengths_bytes wide x.columns)

-- the directory, in the second form or in the first
abbrev pub directory : Bool → Segment → List ℕ
directory wide s =
    eight s.events ++ (eight s.first ++ (eight s.last
    ++ (four (length s.names) ++ (flat_map name_bytes s.names
    ++ (four (length s.lists) ++ (flat_map (list_bytes wide) s.lists
    ++ (four (length s.deltas) ++ (flat_map (lengths_bytes wide) s.deltas
    ++ lengths_bytes wide s.piece))))))))

-- the columns of all records, in the order of the directory
abbrev pub stored_in : Segment → List Stored
stored_in s = map (λ (x : StoredList). x.columns) s.lists ++ (s.deltas ++ s.piece ∷ [])

abbrev pub blobs : Segment → List ℕ
blobs s = flat_map bytes_of (stored_in s)

-- a segment in front of its columns: the lengths of the directory and of the columns, and the directory
abbrev pub head_of : Bool → Segment → List ℕ
head_of wide s = eight (length (directory wide s)) ++ (eight (length (blobs s)) ++ directory wide s)

-- the columns of lists, one record behind another
abbrev pub list_blobs : List StoredList → List ℕ
list_blobs lists = flat_map (λ (x : StoredList). bytes_of x.columns) lists

-- the columns of deltas, one record behind another
abbrev pub delta_blobs : List Stored → List ℕ
delta_blobs deltas = flat_map bytes_of deltas

-- a segment as its bytes, without the gates
abbrev pub segment_bytes : Bool → Segment → List ℕ
segment_bytes wide s = eight (length (directory wide s)) ++ (eight (length (blobs s)) ++ (directory wide s ++ blobs s))

-- The segment behind which a file goes on in the second form: a directory of one number, no event, and no columns.
abbrev pub marker : List ℕ
marker = eight 8 ++ (eight 0 ++ eight 0)

-- ---- the segment of a batch behind these events

abbrev pub stored : Record → Stored
stored r = record {
  structure = column_of_record column.Structure r;
  node_attrs = column_of_record column.NodeAttr r;
  edge_attrs = column_of_record column.EdgeAttr r;
  transient = column_of_record column.Transient r;
}

abbrev pub stored_list : Params → List Event → ℕ → StoredList
stored_list p events i = record {
  first = first_time_of (closed_list p events i);
  last = last_time_from 0 (closed_list p events i);
  columns = stored (Events (closed_list p events i));
}

abbrev pub segment_of : Params → List Event → Batch → Segment
segment_of p before b =
    let all = before ++ b.events in
    let m = leaves p (length before) in
    let after = leaves p (length before + length b.events) in
    record {
      events = length b.events;
      first = first_time_of b.events;
      last = last_time_from 0 b.events;
      names = b.names;
      lists = map (stored_list p all) (numbers m (after - m));
      deltas = map (λ k. stored (record_among p all [] k)) (deltas_due p.k m after);
      piece = stored (Events (piece_of p before b));
    }

-- the segments of batches behind these events, each behind an open gate
abbrev pub segments_from : Bool → Params → List Event → List Batch → List ℕ
segments_from wide p before [] = []
segments_from wide p before (b ∷ batches) =
    1 ∷ (segment_bytes wide (segment_of p before b) ++ segments_from wide p (before ++ b.events) batches)

-- the segments of all batches, and the marker behind those that are in the first form
abbrev pub segments_in : Form → Params → List Batch → List ℕ
segments_in form.One p batches = segments_from false p [] batches
segments_in (form.Upgraded b) p batches =
    segments_from false p [] (take b batches)
    ++ (1 ∷ (marker ++ segments_from true p (flat_map (λ (b : Batch). b.events) (take b batches)) (drop b batches)))
segments_in form.Two p batches = segments_from true p [] batches

abbrev pub file : History → List ℕ
file z = header z.form z.params ++ segments_in z.form z.params z.batches

-- the bytes of the file, with the closed gate behind it
abbrev pub size : History → ℕ
size z = length (file z) + 1
