-- How many bytes a segment has.
use Rattle.std.proofs.Common.{◌≡◌, ℕ, ◌+◌, ◌*◌, ◌≤◌, ◌<◌, ◌^◌, Bool, true, false, List, [], ◌∷◌, ◌++◌, Option, None, length, map, refl, sym, ap, ◌∙◌, append-nil, arith, length-append}
use Rattle.std.specs.List.{flat_map}
use Rattle.std.proofs.lemmas.List.{length-map, map-append}
use Rattle.std.proofs.lemmas.List.Concat.{flat_map-append}
use Rattle.std.proofs.lemmas.List.Folds.{flat_map-map}
use Rattle.dg_graph.specs.Columns.{four}
use Rattle.dg_index.specs.OpenedIndex.{AreUnheard, lengths_of, lengths_size, list_size, record_row}
use Rattle.dg_index.specs.declared.entry.Ends.{Ends}
use Rattle.dg_index.specs.declared.entry.Row.{Row}
use Rattle.dg_index.specs.declared.per_column.PerColumn.{PerColumn}
use Rattle.dg_index.specs.FileOfHistory.{name_bytes, Segment, Stored, StoredList, blobs, bytes_of, delta_blobs, directory, lengths_bytes, list_blobs, list_bytes, segment_bytes}
use Rattle.dg_segment.specs.PackedRecords.{StoredRecord, stored_bytes, stored_row}
use Rattle.dg_segment.specs.SegmentParts.{delta_of, list_of, segment_in}
use Rattle.dg_segment.specs.declared.segment.Segment.TheInside.{Inside}

-- flat text of pieces of one length
sized : {X : Type 0} (f : X → List ℕ) (size : ℕ) → ((x : X) → length (f x) ≡ size) → (xs : List X) → length (flat_map f xs) ≡ size * length xs
sized f size each [] = omega arith
sized f size each (x ∷ xs) = omega (arith, each x, sized f size each xs, length-append (f x) (flat_map f xs))

pub directory_size : (wide : Bool) (s : Segment) → length (directory wide s) ≡ 36 + length (flat_map name_bytes s.names) + list_size wide * length s.lists + lengths_size wide * length s.deltas + lengths_size wide
directory_size false s =
    let names = flat_map name_bytes s.names in
    let lists = flat_map (list_bytes false) s.lists in
    let deltas = flat_map (lengths_bytes false) s.deltas in
    let piece = lengths_bytes false s.piece in
    omega (arith, sized (list_bytes false) 40 (λ x. refl) s.lists, sized (lengths_bytes false) 24 (λ x. refl) s.deltas, length-append names (four (length s.lists) ++ (lists ++ (four (length s.deltas) ++ (deltas ++ piece)))), length-append lists (four (length s.deltas) ++ (deltas ++ piece)), length-append deltas piece)
directory_size true s =
    let names = flat_map name_bytes s.names in
    let lists = flat_map (list_bytes true) s.lists in
    let deltas = flat_map (lengths_bytes true) s.deltas in
    let piece = lengths_bytes true s.piece in
    omega (arith, sized (list_bytes true) 48 (λ x. refl) s.lists, sized (lengths_bytes true) 32 (λ x. refl) s.deltas, length-append names (four (length s.lists) ++ (lists ++ (four (length s.deltas) ++ (deltas ++ piece)))), length-append lists (four (length s.deltas) ++ (deltas ++ piece)), length-append deltas piece)

map_blobs : (lists : List StoredList) → flat_map bytes_of (map (λ (x : StoredList). x.columns) lists) ≡ list_blobs lists
map_blobs [] = refl
map_blobs (x ∷ lists) = ap (λ (l : List ℕ). bytes_of x.columns ++ l) (map_blobs lists)

pub blobs_are : (s : Segment) → blobs s ≡ list_blobs s.lists ++ (delta_blobs s.deltas ++ bytes_of s.piece)
blobs_are s =
    flat_map-append bytes_of (map (λ (x : StoredList). x.columns) s.lists) (s.deltas ++ s.piece ∷ [])
    ∙ (λ i. map_blobs s.lists i ++ (flat_map-append bytes_of s.deltas (s.piece ∷ []) ∙ ap (λ (l : List ℕ). delta_blobs s.deltas ++ l) (append-nil (bytes_of s.piece))) i)

pub blobs_size : (s : Segment) → length (blobs s) ≡ length (list_blobs s.lists) + length (delta_blobs s.deltas) + length (bytes_of s.piece)
blobs_size s =
    ap length (blobs_are s) ∙ omega (arith, length-append (list_blobs s.lists) (delta_blobs s.deltas ++ bytes_of s.piece), length-append (delta_blobs s.deltas) (bytes_of s.piece))

pub segment_size : (wide : Bool) (s : Segment) → length (segment_bytes wide s) ≡ 16 + length (directory wide s) + length (blobs s)
segment_size wide s = omega (arith, length-append (directory wide s) (blobs s))

-- ---- by the parts of a new segment

pub list_columns : (lists : List StoredRecord) → list_blobs (map list_of lists) ≡ stored_bytes lists
list_columns lists = flat_map-map (λ (x : StoredList). bytes_of x.columns) list_of lists

pub delta_columns : (deltas : List StoredRecord) → delta_blobs (map delta_of deltas) ≡ stored_bytes deltas
delta_columns deltas = flat_map-map bytes_of delta_of deltas

pub parts_directory : (wide : Bool) (s : Inside)
    → length (directory wide (segment_in s)) ≡ 36 + length (flat_map name_bytes s.names) + list_size wide * length s.lists + lengths_size wide * length s.deltas + lengths_size wide
parts_directory wide s =
    directory_size wide (segment_in s)
    ∙ (λ i. 36 + length (flat_map name_bytes s.names) + list_size wide * length-map s.lists list_of i + lengths_size wide * length-map s.deltas delta_of i + lengths_size wide)

pub parts_blobs : (s : Inside) → length (blobs (segment_in s)) ≡ length (stored_bytes s.lists) + length (stored_bytes s.deltas) + length (bytes_of s.piece)
parts_blobs s = blobs_size (segment_in s) ∙ omega (arith, ap length (list_columns s.lists), ap length (delta_columns s.deltas))

pub parts_size : (wide : Bool) (s : Inside)
    → length (segment_bytes wide (segment_in s)) ≡ 52 + length (flat_map name_bytes s.names) + list_size wide * length s.lists + lengths_size wide * length s.deltas + lengths_size wide + length (stored_bytes s.lists) + length (stored_bytes s.deltas) + length (bytes_of s.piece)
parts_size wide s = segment_size wide (segment_in s) ∙ omega (arith, parts_directory wide s, parts_blobs s)

-- the second form has the most bytes
pub parts_most : (wide : Bool) (s : Inside) → length (segment_bytes wide (segment_in s)) ≤ length (segment_bytes true (segment_in s))
parts_most false s = omega (arith, parts_size false s, parts_size true s)
parts_most true s = omega arith

-- one delta more without messages
pub unheard_more : (deltas : List Stored) (s : Stored) → AreUnheard deltas → s.transient ≡ [] → AreUnheard (deltas ++ s ∷ [])
unheard_more [] s h none = (none, tt)
unheard_more (x ∷ deltas) s h none = (h.0, unheard_more deltas s h.1 none)

-- ---- one delta more, which is no list

row_of : Option Ends → PerColumn ℕ → Row
row_of ends lengths = record { ends = ends; lengths = lengths }

pub rows_more : (old : List StoredRecord) (r : StoredRecord) → r.ends ≡ None → map stored_row old ≡ map record_row (map delta_of old)
    → map stored_row (old ++ r ∷ []) ≡ map record_row (map delta_of (old ++ r ∷ []))
unfolding row_of
rows_more old r none same =
    map-append stored_row old (r ∷ []) ∙ (λ i. same i ++ row_of (none i) (lengths_of r.columns) ∷ [])
    ∙ sym (ap (map record_row) (map-append delta_of old (r ∷ [])) ∙ map-append record_row (map delta_of old) (r.columns ∷ []))

pub small_more : (s t : Inside) (r : StoredRecord) (more : ℕ) → t.names ≡ s.names → t.lists ≡ s.lists → t.piece ≡ s.piece → t.deltas ≡ s.deltas ++ r ∷ []
    → 32 + length (bytes_of r.columns) ≤ more → length (segment_bytes true (segment_in s)) + 1 + more < 2 ^ 63 → length (segment_bytes true (segment_in t)) + 1 < 2 ^ 63
small_more s t r more names lists piece deltas fits less =
    omega (arith, parts_size true s, parts_size true t, ap (λ (l : List (List ℕ)). length (flat_map name_bytes l)) names, ap (λ (l : List StoredRecord). length l) lists, ap (λ (l : List StoredRecord). length (stored_bytes l)) lists, ap (λ (p : Stored). length (bytes_of p)) piece, ap (λ (l : List StoredRecord). length l) deltas, length-append s.deltas (r ∷ []), ap (λ (l : List StoredRecord). length (stored_bytes l)) deltas, ap length (flat_map-append (λ (r : StoredRecord). bytes_of r.columns) s.deltas (r ∷ [])), length-append (stored_bytes s.deltas) (bytes_of r.columns ++ []), ap length (append-nil (bytes_of r.columns)), fits, less)
