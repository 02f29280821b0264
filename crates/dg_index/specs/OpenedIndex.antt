-- What an image of the index file is opened as, by its header and the directories of its segments.
use Rattle.std.specs.Prelude.{◌≡◌, ◌<◌, ◌^◌, ℕ, zero, suc, ◌+◌, ◌-◌, ◌*◌, Bool, true, false, ◌&&◌, ◌==◌, not, List, [], ◌∷◌, ◌++◌, Option, Some, None, Result, Ok, Err, if◌then◌else◌, length, map, take, drop, nat_le, nat_lt, option_and_then, slice_index, sum_by}
use Rattle.std.specs.List.{flat_map, list_all}
use Rattle.std.specs.Map.{lookup}
use Rattle.dg_graph.specs.declared.element.Column.{Column}
use Rattle.dg_graph.specs.declared.element.Column.TheVariants as column
use Rattle.dg_graph.specs.declared.event.Event.{Event}
use Rattle.dg_graph.specs.declared.limits.TheConstants.{TIME_MAX}
use Rattle.dg_text.specs.declared.limits.TheConstants.{NAMES_MAX}
use Rattle.dg_history.specs.declared.limits.TheConstants.{BATCH_LINES_MAX, EVENTS_MAX}
use Rattle.dg_history.specs.declared.node.Key.{Key}
use Rattle.dg_history.specs.declared.node.Key.TheVariants as key
use Rattle.dg_history.specs.declared.params.Params.{Params}
use Rattle.dg_history.specs.declared.form.Form.{Form}
use Rattle.dg_history.specs.declared.form.Form.TheVariants as form
use Rattle.dg_history.specs.History.{History, Batch, is_wide}
use Rattle.dg_history.specs.Keys.{same_key}
use Rattle.dg_index.specs.ImageOfHistory.{is_blank}
use Rattle.dg_text.specs.Names.{are_new}
use Rattle.dg_index.specs.ImageText.{four_at, eight_at, names_at, gate_behind, is_within, Header, header_in, is_marker}
use Rattle.dg_index.specs.declared.entry.Ends.{Ends}
use Rattle.dg_index.specs.declared.entry.Entry.{Entry}
use Rattle.dg_index.specs.declared.entry.Row.{Row}
use Rattle.dg_index.specs.declared.entry.BatchEntry.{BatchEntry}
use Rattle.dg_index.specs.declared.per_column.PerColumn.{PerColumn}
use Rattle.dg_index.specs.Hierarchy.{leaves}
use Rattle.dg_index.specs.IndexRecords.{lists_due, deltas_due}
use Rattle.dg_index.specs.FileOfHistory.{Stored, StoredList, Segment, directory, marker, segment_bytes, segment_of, size, stored_in}

-- why an image is not opened
pub data Unopened : Type 0 where
  No_index : Unopened
  Not_ours : Unopened
  Damaged_at : ℕ → Unopened

-- What an index keeps of an image: the parameters, the form, the batches, the records in the order of the file,
-- and the offset behind the gate that closes it.
pub record Opening : Type 0 where
  pub params : Params
  pub form : Form
  pub batches : List BatchEntry
  pub records : List (Key × Entry)
  pub used : ℕ

-- what an image is opened as: an index, and the names of the history
pub record Opened : Type 0 where
  pub index : Opening
  pub names : List (List ℕ)

-- what a directory says of its segment: the batch, its names, its lists, its deltas and its piece
pub record Directory : Type 0 where
  pub batch : BatchEntry
  pub names : List (List ℕ)
  pub lists : List Row
  pub deltas : List Row
  pub piece : Row

-- ---- what stands before a segment

abbrev pub event_total : List BatchEntry → ℕ
event_total batches = sum_by (λ (b : BatchEntry). b.events) batches

-- the earliest time that the next batch may begin with, where without these it is this one
abbrev pub earliest_in : ℕ → List BatchEntry → ℕ
earliest_in t [] = t
earliest_in t (b ∷ more) = earliest_in (b.ends.last + 1) more

abbrev pub last_or : ℕ → Option Ends → ℕ
last_or t None = t
last_or t (Some e) = e.last

-- the last time of the last list among the records, where without one it is this
abbrev pub last_list : ℕ → List (Key × Entry) → ℕ
last_list t [] = t
last_list t (r ∷ more) = last_list (last_or t r.1.ends) more

abbrev pub first_in : ℕ → List BatchEntry → ℕ
first_in t [] = t
first_in t (b ∷ more) = b.ends.first

-- the last time of the last of the batches, where without one it is this
abbrev pub last_end : ℕ → List BatchEntry → ℕ
last_end t [] = t
last_end t (b ∷ more) = last_end b.ends.last more

-- the first and the last time of the batches, where there is one
abbrev pub span_in : List BatchEntry → Option Ends
span_in [] = None
span_in (b ∷ batches) = Some (record { first = b.ends.first; last = last_end b.ends.last batches })

-- the numbers of lists and of deltas that a batch of so many events gives
abbrev pub list_count : Opening → ℕ → ℕ
list_count o events = leaves o.params (event_total o.batches + events) - leaves o.params (event_total o.batches)

abbrev pub delta_count : Opening → ℕ → ℕ
delta_count o events = length (deltas_due o.params.k (leaves o.params (event_total o.batches)) (leaves o.params (event_total o.batches + events)))

-- the keys of the records of such a batch's segment, in the order of the file
abbrev pub keys_next : Opening → ℕ → List Key
keys_next o events =
    lists_due o.params (event_total o.batches) (event_total o.batches + events)
    ++ (deltas_due o.params.k (leaves o.params (event_total o.batches)) (leaves o.params (event_total o.batches + events))
    ++ key.Piece (length o.batches) ∷ [])

-- ---- reading a directory

-- the bytes of the lengths of a record, and of the row of a list
abbrev pub lengths_size : Bool → ℕ
lengths_size false = 24
lengths_size true = 32

abbrev pub list_size : Bool → ℕ
list_size false = 40
list_size true = 48

-- the lengths of the columns; in the first form there are no messages
abbrev pub lengths_at : Bool → List ℕ → ℕ → PerColumn ℕ
lengths_at wide bytes at = record {
  structure = eight_at bytes at;
  node_attrs = eight_at bytes (at + 8);
  edge_attrs = eight_at bytes (at + 16);
  transient = if wide then eight_at bytes (at + 24) else 0;
}

abbrev pub list_at : Bool → List ℕ → ℕ → Row
list_at wide bytes at = record { ends = Some (record { first = eight_at bytes at; last = eight_at bytes (at + 8) }); lengths = lengths_at wide bytes (at + 16) }

abbrev pub record_at : Bool → List ℕ → ℕ → Row
record_at wide bytes at = record { ends = None; lengths = lengths_at wide bytes at }

-- so many rows of so many bytes, one behind another from the offset on
abbrev pub rows_at : (List ℕ → ℕ → Row) → ℕ → ℕ → List ℕ → ℕ → List Row
rows_at row size zero bytes at = []
rows_at row size (suc count) bytes at = row bytes at ∷ rows_at row size count bytes (at + size)

-- What a directory says that has so many lists and deltas: behind the names, their number and a row for each.
abbrev pub directory_with : Bool → ℕ → ℕ → List ℕ → List (List ℕ) × ℕ → Option Directory
directory_with wide lists deltas bytes names =
    if length bytes == names.1 + 8 + list_size wide * lists + lengths_size wide * deltas + lengths_size wide
    && (four_at bytes names.1 == lists && four_at bytes (names.1 + 4 + list_size wide * lists) == deltas)
    then Some (record {
      batch = record {
        events = eight_at bytes 0;
        ends = record { first = eight_at bytes 8; last = eight_at bytes 16 };
        names = length names.0;
      };
      names = names.0;
      lists = rows_at (list_at wide) (list_size wide) lists bytes (names.1 + 4);
      deltas = rows_at (record_at wide) (lengths_size wide) deltas bytes (names.1 + 8 + list_size wide * lists);
      piece = record_at wide bytes (names.1 + 8 + list_size wide * lists + lengths_size wide * deltas);
    })
    else None

-- what the bytes of a directory say behind what is opened so far, where each field fits in them and none is left
abbrev pub directory_in : Opening → List ℕ → Option Directory
directory_in o bytes =
    if nat_lt (length bytes) 28 then None
    else option_and_then (directory_with (is_wide o.form) (list_count o (eight_at bytes 0)) (delta_count o (eight_at bytes 0)) bytes) (names_at (four_at bytes 24) bytes 28)

abbrev pub total : PerColumn ℕ → ℕ
total lengths = lengths.structure + lengths.node_attrs + lengths.edge_attrs + lengths.transient

abbrev pub rows_in : Directory → List Row
rows_in d = d.lists ++ (d.deltas ++ d.piece ∷ [])

-- a batch of so many events may follow so many events, from the earliest time on
abbrev pub may_follow : ℕ → ℕ → BatchEntry → Bool
may_follow count earliest b =
    nat_le 1 b.events
    && (nat_le b.events BATCH_LINES_MAX
    && (nat_le (count + b.events) EVENTS_MAX
    && (nat_le earliest b.ends.first && (nat_le b.ends.first b.ends.last && nat_le b.ends.last TIME_MAX))))

-- the row of a list is in these times
abbrev pub within : ℕ → ℕ → Option Ends → Bool
within first last None = true
within first last (Some e) = nat_le first e.first && (nat_le e.first e.last && nat_le e.last last)

-- The lists begin at the first time or later and end at the last or earlier, each not before the one before it. Their columns
-- may have any lengths: an image whose list is longer than any spelling of its events is opened.
abbrev pub may_be_listed : ℕ → ℕ → List Row → Bool
may_be_listed first last [] = true
may_be_listed first last (r ∷ rows) = within first last r.ends && may_be_listed (last_or first r.ends) last rows

-- these new names may follow the names
abbrev pub may_be_named : List (List ℕ) → List (List ℕ) → Bool
may_be_named names new = are_new names new && nat_le (length names + length new) NAMES_MAX

-- no delta has messages
abbrev pub are_unheard : List Row → Bool
are_unheard deltas = list_all (λ (r : Row). r.lengths.transient == 0) deltas

-- the directory may stand behind what is opened so far, before so many bytes of columns
abbrev pub may_stand : Opened → ℕ → Directory → Bool
may_stand x columns d =
    sum_by (λ (r : Row). total r.lengths) (rows_in d) == columns
    && (may_follow (event_total x.index.batches) (earliest_in 0 x.index.batches) d.batch
    && (may_be_named x.names d.names
    && (may_be_listed (last_list (first_in d.batch.ends.first x.index.batches) x.index.records) d.batch.ends.last d.lists
    && are_unheard d.deltas)))

abbrev pub if_it_may : Bool → Directory → Option Directory
if_it_may may d = if may then Some d else None

-- the directory of the segment behind what is opened so far, where it is one that may stand there
abbrev pub directory_next : Opened → List ℕ → Option Directory
directory_next x image =
    let at = x.index.used in
    if not (is_within image at) then None
    else option_and_then
    (λ d. if_it_may (may_stand x (eight_at image (at + 8)) d) d)
    (directory_in x.index (take (eight_at image at) (drop (at + 16) image)))

-- ---- what is opened

-- the records whose columns stand one behind another from the offset on
abbrev pub laid : ℕ → List Key → List Row → List (Key × Entry)
laid offset [] rows = []
laid offset (k ∷ keys) [] = []
laid offset (k ∷ keys) (r ∷ rows) =
    (k, record { lengths = r.lengths; offset = offset; ends = r.ends }) ∷ laid (offset + total r.lengths) keys rows

-- with one segment more, whose columns begin at the offset, and behind whose closed gate is the other offset
abbrev pub with_directory : Opened → Directory → ℕ → ℕ → Opened
with_directory x d offset used = record {
  index = record {
    params = x.index.params;
    form = x.index.form;
    batches = x.index.batches ++ d.batch ∷ [];
    records = x.index.records ++ laid offset (keys_next x.index d.batch.events) (rows_in d);
    used = used;
  };
  names = x.names ++ d.names;
}

-- with the marker, and behind its closed gate
abbrev pub with_marker : Opened → Opened
with_marker x = record {
  index = record {
    params = x.index.params;
    form = form.Upgraded (length x.index.batches);
    batches = x.index.batches;
    records = x.index.records;
    used = x.index.used + length marker + 1;
  };
  names = x.names;
}

-- a marker stands behind what is opened so far, and may stand there: the first form still holds
abbrev pub is_marked : Opened → List ℕ → Bool
is_marked x image = not (is_wide x.index.form) && (is_within image x.index.used && is_marker image x.index.used)

abbrev pub go_on_with : List ℕ → Opened → (Opened → Result Opened ℕ) → Option Directory → Result Opened ℕ
go_on_with image x more None = Err x.index.used
go_on_with image x more (Some d) =
    more (with_directory x d (x.index.used + 16 + eight_at image x.index.used) (gate_behind image x.index.used + 1))

-- What is opened with the segments behind it, each behind an open gate, or the offset of the first one that
-- breaks a rule. The number only bounds the recursion: each segment takes a byte.
abbrev pub read_on : ℕ → List ℕ → Opened → Result Opened ℕ
read_on zero image x = Ok x
read_on (suc k) image x =
    if not (slice_index image (x.index.used - 1) == 1) then Ok x
    else (if is_marked x image then read_on k image (with_marker x)
    else go_on_with image x (read_on k image) (directory_next x image))

-- an index without a batch
abbrev pub bare : Form → Params → Opened
bare form params = record { index = record { params = params; form = form; batches = []; records = []; used = 18 }; names = [] }

abbrev pub opened_or : Result Opened ℕ → Result Opened Unopened
opened_or (Ok x) = Ok x
opened_or (Err offset) = Err (Damaged_at offset)

abbrev pub opened_by : List ℕ → Option Header → Result Opened Unopened
opened_by image None = Err Not_ours
opened_by image (Some h) = opened_or (read_on (length image) image (bare h.form h.params))

-- what the image is opened as, or why it is not
abbrev pub opening : List ℕ → Result Opened Unopened
opening image = if is_blank image then Err No_index else opened_by image (header_in image)

-- ---- what a history is opened as

abbrev pub lengths_of : Stored → PerColumn ℕ
lengths_of s = record {
  structure = length s.structure;
  node_attrs = length s.node_attrs;
  edge_attrs = length s.edge_attrs;
  transient = length s.transient;
}

abbrev pub list_row : StoredList → Row
list_row x = record { ends = Some (record { first = x.first; last = x.last }); lengths = lengths_of x.columns }

abbrev pub record_row : Stored → Row
record_row s = record { ends = None; lengths = lengths_of s }

-- what the directory of a segment says
abbrev pub directory_of : Segment → Directory
directory_of s = record {
  batch = record { events = s.events; ends = record { first = s.first; last = s.last }; names = length s.names };
  names = s.names;
  lists = map list_row s.lists;
  deltas = map record_row s.deltas;
  piece = record_row s.piece;
}

-- what is opened with the segment behind it
abbrev pub with_segment : Opened → Segment → Opened
with_segment x s =
    with_directory x (directory_of s) (x.index.used + 16 + length (directory (is_wide x.index.form) s)) (x.index.used + length (segment_bytes (is_wide x.index.form) s) + 1)

abbrev pub opened_onto : Params → Opened → List Event → List Batch → Opened
opened_onto p x before [] = x
opened_onto p x before (b ∷ batches) = opened_onto p (with_segment x (segment_of p before b)) (before ++ b.events) batches

-- what is opened with all batches, and with the marker behind those that are in the first form
abbrev pub opened_in : Form → Params → List Batch → Opened
opened_in form.One p batches = opened_onto p (bare form.One p) [] batches
opened_in (form.Upgraded b) p batches =
    opened_onto p (with_marker (opened_onto p (bare form.One p) [] (take b batches))) (flat_map (λ (b : Batch). b.events) (take b batches)) (drop b batches)
opened_in form.Two p batches = opened_onto p (bare form.Two p) [] batches

-- what an image of the history is opened as
abbrev pub opened_of : History → Opened
opened_of z = opened_in z.form z.params z.batches

-- the bytes of a column, by what an index keeps of its record
abbrev pub column_at : List ℕ → Entry → Column → List ℕ
column_at image e column.Structure = take e.lengths.structure (drop e.offset image)
column_at image e column.NodeAttr = take e.lengths.node_attrs (drop (e.offset + e.lengths.structure) image)
column_at image e column.EdgeAttr = take e.lengths.edge_attrs (drop (e.offset + e.lengths.structure + e.lengths.node_attrs) image)
column_at image e column.Transient =
    take e.lengths.transient (drop (e.offset + e.lengths.structure + e.lengths.node_attrs + e.lengths.edge_attrs) image)

abbrev pub entry_or_none : Option Entry → Entry
entry_or_none (Some e) = e
entry_or_none None = record {
  lengths = record { structure = 0; node_attrs = 0; edge_attrs = 0; transient = 0 };
  offset = 0;
  ends = None;
}

-- what the index keeps of a record
abbrev pub entry_at : Opening → Key → Entry
entry_at o k = entry_or_none (lookup (same_key k) o.records)

-- none of the records has messages
abbrev pub AreUnheard : List Stored → Type 0
AreUnheard [] = Unit {0}
AreUnheard (s ∷ more) = (s.transient ≡ []) × AreUnheard more

-- a segment that may stand behind what is opened so far
pub record MayStand (x : Opened) (s : Segment) : Type 0 where
  pub lists : length s.lists ≡ list_count x.index s.events
  pub deltas : length s.deltas ≡ delta_count x.index s.events
  pub few_lists : length s.lists < 2 ^ 32
  pub few_deltas : length s.deltas < 2 ^ 32
  pub follows : may_follow (event_total x.index.batches) (earliest_in 0 x.index.batches) (directory_of s).batch ≡ true
  pub named : may_be_named x.names s.names ≡ true
  pub listed : may_be_listed (last_list (first_in s.first x.index.batches) x.index.records) s.last (map list_row s.lists) ≡ true
  pub deltas_unheard : AreUnheard s.deltas
  pub unheard : is_wide x.index.form ≡ false → AreUnheard (stored_in s)
