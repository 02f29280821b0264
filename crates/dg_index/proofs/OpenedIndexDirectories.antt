-- The directory of a segment is read back, and the segment is what is opened.
use Rattle.std.proofs.Common.{◌≡◌, ℕ, zero, suc, ◌+◌, ◌-◌, ◌*◌, ◌^◌, ◌<◌, ◌≤◌, Bool, true, false, cond, not, List, [], ◌∷◌, ◌++◌, length, get_or, take, drop, map, Option, Some, None, Ok, refl, sym, ap, ◌∙◌, append_assoc, append-nil, arith, length-append, length-drop}
use Rattle.std.specs.Prelude.{◌&&◌, ◌==◌, nat_le, option_and_then, sum_by}
use Rattle.std.specs.List.{flat_map}
use Rattle.std.proofs.lemmas.Bool.{and_from, leb-true, le-leb, eq-eqb, le-ltb, and_parts, ne_eqb}
use Rattle.std.proofs.lemmas.List.{take_at}
use Rattle.std.proofs.lemmas.List.Sums.{sum_by-cons}
use Rattle.dg_graph.specs.declared.limits.TheConstants.{TIME_MAX}
use Rattle.dg_text.specs.declared.limits.TheConstants.{NAMES_MAX}
use Rattle.dg_history.specs.declared.limits.TheConstants.{BATCH_LINES_MAX, EVENTS_MAX, FILE_BYTES_MAX}
use Rattle.dg_graph.specs.Columns.{four, eight}
use Rattle.dg_index.specs.FileOfHistory.{name_bytes, Stored, StoredList, Segment, bytes_of, lengths_bytes, list_bytes, directory, blobs, stored_in, segment_bytes, marker}
use Rattle.dg_text.specs.Names.{are_new}
use Rattle.dg_index.specs.ImageText.{four_at, eight_at, names_at, gate_behind, is_within, is_marker}
use Rattle.dg_index.specs.OpenedIndex.{may_be_named, Opened, Directory, lengths_at, list_at, record_at, rows_at, rows_in, total, lengths_of, list_row, record_row, directory_of, directory_with, directory_in, list_count, delta_count, may_follow, may_be_listed, within, may_stand, if_it_may, directory_next, event_total, earliest_in, last_list, first_in, read_on, go_on_with, with_directory, with_segment, MayStand, AreUnheard, is_marked, lengths_size, list_size, with_marker}
use Rattle.dg_history.specs.History.{is_wide}
use Rattle.dg_index.specs.declared.entry.BatchEntry.{BatchEntry}
use Rattle.dg_index.specs.declared.entry.Row.{Row}
use Rattle.dg_index.proofs.ImageTextRanges.{eight_read, four_read, behind}
use Rattle.dg_index.proofs.ImageTextNames.{AreShort, names_read, new_short}
use Rattle.dg_index.proofs.UnheardRecords.{unheard_parts, unheard_rows}
use Rattle.dg_index.specs.declared.per_column.PerColumn.{PerColumn}

-- ---- rows of a table

eight_step : (image : List ℕ) (at next n : ℕ) (more : List ℕ) → n < 2 ^ 64 → at + 8 ≡ next → drop at image ≡ eight n ++ more → (eight_at image at ≡ n) × (drop next image ≡ more)
eight_step image at next n more lt e is = (eight_read image at n more lt is, behind image (eight n) more at next e is)

four_step : (image : List ℕ) (at next n : ℕ) (more : List ℕ) → n < 2 ^ 32 → at + 4 ≡ next → drop at image ≡ four n ++ more → (four_at image at ≡ n) × (drop next image ≡ more)
four_step image at next n more lt e is = (four_read image at n more lt is, behind image (four n) more at next e is)

abbrev pub IsSmall : Stored → Type 0
IsSmall s = (length s.structure < 2 ^ 64) × (length s.node_attrs < 2 ^ 64) × (length s.edge_attrs < 2 ^ 64) × (length s.transient < 2 ^ 64)

abbrev pub IsSmallList : StoredList → Type 0
IsSmallList x = (x.first < 2 ^ 64) × (x.last < 2 ^ 64) × IsSmall x.columns

lengths_read : (wide : Bool) (s : Stored) (bytes rest : List ℕ) (at : ℕ) → IsSmall s → (wide ≡ false → s.transient ≡ []) → drop at bytes ≡ lengths_bytes wide s ++ rest → lengths_at wide bytes at ≡ lengths_of s
lengths_read false s bytes rest at small unheard is =
    let l0 = length s.structure in
    let l1 = length s.node_attrs in
    let l2 = length s.edge_attrs in
    let e0 = eight_step bytes at (at + 8) l0 (eight l1 ++ (eight l2 ++ rest)) small.0 refl is in
    let e1 = eight_step bytes (at + 8) (at + 16) l1 (eight l2 ++ rest) small.1 (omega arith) e0.1 in
    let e2 = eight_read bytes (at + 16) l2 rest small.2 e1.1 in
    let none : 0 ≡ length s.transient = sym (ap (λ (l : List ℕ). length l) (unheard refl)) in
    λ i. record { structure = e0.0 i; node_attrs = e1.0 i; edge_attrs = e2 i; transient = none i }
lengths_read true s bytes rest at small unheard is =
    let l0 = length s.structure in
    let l1 = length s.node_attrs in
    let l2 = length s.edge_attrs in
    let l3 = length s.transient in
    let e0 = eight_step bytes at (at + 8) l0 (eight l1 ++ (eight l2 ++ (eight l3 ++ rest))) small.0 refl is in
    let e1 = eight_step bytes (at + 8) (at + 16) l1 (eight l2 ++ (eight l3 ++ rest)) small.1 (omega arith) e0.1 in
    let e2 = eight_step bytes (at + 16) (at + 24) l2 (eight l3 ++ rest) small.2 (omega arith) e1.1 in
    let e3 = eight_read bytes (at + 24) l3 rest small.3 e2.1 in
    λ i. record { structure = e0.0 i; node_attrs = e1.0 i; edge_attrs = e2.0 i; transient = e3 i }

record_read : (wide : Bool) (s : Stored) (bytes rest : List ℕ) (at : ℕ) → IsSmall s → (wide ≡ false → s.transient ≡ []) → drop at bytes ≡ lengths_bytes wide s ++ rest → record_at wide bytes at ≡ record_row s
record_read wide s bytes rest at small unheard is = ap (λ (l : PerColumn ℕ). record { ends = None; lengths = l }) (lengths_read wide s bytes rest at small unheard is)

list_read : (wide : Bool) (x : StoredList) (bytes rest : List ℕ) (at : ℕ) → IsSmallList x → (wide ≡ false → x.columns.transient ≡ []) → drop at bytes ≡ list_bytes wide x ++ rest → list_at wide bytes at ≡ list_row x
list_read wide x bytes rest at small unheard is =
    let e0 = eight_step bytes at (at + 8) x.first (eight x.last ++ (lengths_bytes wide x.columns ++ rest)) small.0 refl is in
    let e1 = eight_step bytes (at + 8) (at + 16) x.last (lengths_bytes wide x.columns ++ rest) small.1 (omega arith) e0.1 in
    let e2 = lengths_read wide x.columns bytes rest (at + 16) small.2 unheard e1.1 in
    λ i. record { ends = Some (record { first = e0.0 i; last = e1.0 i }); lengths = e2 i }

abbrev pub AreSmall : List Stored → Type 0
AreSmall [] = Unit {0}
AreSmall (s ∷ more) = IsSmall s × AreSmall more

abbrev pub AreSmallLists : List StoredList → Type 0
AreSmallLists [] = Unit {0}
AreSmallLists (x ∷ more) = IsSmallList x × AreSmallLists more

-- the bytes of a row
row_long : (wide : Bool) (s : Stored) → length (lengths_bytes wide s) ≡ lengths_size wide
row_long false s = refl
row_long true s = refl

list_long : (wide : Bool) (x : StoredList) → length (list_bytes wide x) ≡ list_size wide
list_long false x = refl
list_long true x = refl

no_rows : (wide : Bool) → lengths_size wide * 0 ≡ 0
no_rows false = omega arith
no_rows true = omega arith

no_lists : (wide : Bool) → list_size wide * 0 ≡ 0
no_lists false = omega arith
no_lists true = omega arith

row_more : (wide : Bool) (n : ℕ) → lengths_size wide * suc n ≡ lengths_size wide + lengths_size wide * n
row_more false n = omega arith
row_more true n = omega arith

list_more : (wide : Bool) (n : ℕ) → list_size wide * suc n ≡ list_size wide + list_size wide * n
list_more false n = omega arith
list_more true n = omega arith

pub records_read : (wide : Bool) (all : List Stored) (bytes rest : List ℕ) (at : ℕ) → AreSmall all → (wide ≡ false → AreUnheard all) → drop at bytes ≡ flat_map (lengths_bytes wide) all ++ rest
    → (rows_at (record_at wide) (lengths_size wide) (length all) bytes at ≡ map record_row all) × (drop (at + lengths_size wide * length all) bytes ≡ rest)
records_read wide [] bytes rest at small unheard is = (refl, ap (λ n. drop n bytes) (let e : at + lengths_size wide * 0 ≡ at = omega (arith, no_rows wide) in e) ∙ is)
records_read wide (s ∷ all) bytes rest at small unheard is =
    let w : ℕ = lengths_size wide in
    let here : drop at bytes ≡ lengths_bytes wide s ++ (flat_map (lengths_bytes wide) all ++ rest) = is ∙ append_assoc (lengths_bytes wide s) (flat_map (lengths_bytes wide) all) rest in
    let one = record_read wide s bytes (flat_map (lengths_bytes wide) all ++ rest) at small.0 (λ n. (unheard n).0) here in
    let next = behind bytes (lengths_bytes wide s) (flat_map (lengths_bytes wide) all ++ rest) at (at + w) (ap (λ n. at + n) (row_long wide s)) here in
    let more = records_read wide all bytes rest (at + w) small.1 (λ n. (unheard n).1) next in
    ((λ i. one i ∷ more.0 i), ap (λ n. drop n bytes) (let e : at + lengths_size wide * suc (length all) ≡ at + lengths_size wide + lengths_size wide * length all = omega (arith, row_more wide (length all)) in e) ∙ more.1)

pub lists_read : (wide : Bool) (all : List StoredList) (bytes rest : List ℕ) (at : ℕ) → AreSmallLists all → (wide ≡ false → AreUnheard (map (λ (x : StoredList). x.columns) all)) → drop at bytes ≡ flat_map (list_bytes wide) all ++ rest
    → (rows_at (list_at wide) (list_size wide) (length all) bytes at ≡ map list_row all) × (drop (at + list_size wide * length all) bytes ≡ rest)
lists_read wide [] bytes rest at small unheard is = (refl, ap (λ n. drop n bytes) (let e : at + list_size wide * 0 ≡ at = omega (arith, no_lists wide) in e) ∙ is)
lists_read wide (x ∷ all) bytes rest at small unheard is =
    let w : ℕ = list_size wide in
    let here : drop at bytes ≡ list_bytes wide x ++ (flat_map (list_bytes wide) all ++ rest) = is ∙ append_assoc (list_bytes wide x) (flat_map (list_bytes wide) all) rest in
    let one = list_read wide x bytes (flat_map (list_bytes wide) all ++ rest) at small.0 (λ n. (unheard n).0) here in
    let next = behind bytes (list_bytes wide x) (flat_map (list_bytes wide) all ++ rest) at (at + w) (ap (λ n. at + n) (list_long wide x)) here in
    let more = lists_read wide all bytes rest (at + w) small.1 (λ n. (unheard n).1) next in
    ((λ i. one i ∷ more.0 i), ap (λ n. drop n bytes) (let e : at + list_size wide * suc (length all) ≡ at + list_size wide + list_size wide * length all = omega (arith, list_more wide (length all)) in e) ∙ more.1)

records_long : (wide : Bool) (all : List Stored) → length (flat_map (lengths_bytes wide) all) ≡ lengths_size wide * length all
records_long wide [] = sym (no_rows wide)
records_long wide (s ∷ all) = omega (arith, records_long wide all, row_long wide s, row_more wide (length all), length-append (lengths_bytes wide s) (flat_map (lengths_bytes wide) all))

lists_long : (wide : Bool) (all : List StoredList) → length (flat_map (list_bytes wide) all) ≡ list_size wide * length all
lists_long wide [] = sym (no_lists wide)
lists_long wide (x ∷ all) = omega (arith, lists_long wide all, list_long wide x, list_more wide (length all), length-append (list_bytes wide x) (flat_map (list_bytes wide) all))

-- ---- the columns of a segment are small where the segment is

total_is : (s : Stored) → total (lengths_of s) ≡ length (bytes_of s)
total_is s = omega (arith, length-append s.structure (s.node_attrs ++ (s.edge_attrs ++ s.transient)), length-append s.node_attrs (s.edge_attrs ++ s.transient), length-append s.edge_attrs s.transient)

small_from : (s : Stored) → length (bytes_of s) < 2 ^ 64 → IsSmall s
small_from s lt =
    let e = total_is s in
    (omega (arith, e, lt), omega (arith, e, lt), omega (arith, e, lt), omega (arith, e, lt))

pub all_small : (all : List Stored) → length (flat_map bytes_of all) < 2 ^ 64 → AreSmall all
all_small [] lt = tt
all_small (s ∷ all) lt =
    let e = length-append (bytes_of s) (flat_map bytes_of all) in
    (small_from s (omega (arith, e, lt)), all_small all (omega (arith, e, lt)))

pub small_parts : (xs ys : List Stored) → AreSmall (xs ++ ys) → AreSmall xs × AreSmall ys
small_parts [] ys all = (tt, all)
small_parts (x ∷ xs) ys all =
    let more = small_parts xs ys all.1 in
    ((all.0, more.0), more.1)

-- the lists with times that are small
abbrev pub AreTimed : List StoredList → Type 0
AreTimed [] = Unit {0}
AreTimed (x ∷ more) = (x.first < 2 ^ 64) × (x.last < 2 ^ 64) × AreTimed more

pub lists_small : (all : List StoredList) → AreTimed all → AreSmall (map (λ (x : StoredList). x.columns) all) → AreSmallLists all
lists_small [] timed small = tt
lists_small (x ∷ all) timed small = ((timed.0, timed.1, small.0), lists_small all timed.2 small.1)

pub timed : (first last : ℕ) (all : List StoredList) → last ≤ TIME_MAX → may_be_listed first last (map list_row all) ≡ true → AreTimed all
timed first last [] le e = tt
timed first last (x ∷ all) le e =
    let a = and_parts (within first last (Some (record { first = x.first; last = x.last }))) _ e in
    let b = and_parts (nat_le first x.first) _ a.0 in
    let c = and_parts (nat_le x.first x.last) _ b.1 in
    let in_turn : x.first ≤ x.last = leb-true _ _ c.0 in
    let ends : x.last ≤ last = leb-true _ _ c.1 in
    (omega (arith, in_turn, ends, le), omega (arith, ends, le), timed x.last last all le a.1)

-- the rows tell the bytes of all columns
rows_total : (all : List Stored) → sum_by (λ (r : Row). total r.lengths) (map record_row all) ≡ length (flat_map bytes_of all)
rows_total [] = refl
rows_total (s ∷ all) = omega (arith, sum_by-cons (λ (r : Row). total r.lengths) (record_row s) (map record_row all), total_is s, rows_total all, length-append (bytes_of s) (flat_map bytes_of all))

measured_with : (lists : List StoredList) (others : List Stored)
    → sum_by (λ (r : Row). total r.lengths) (map list_row lists ++ map record_row others) ≡ length (flat_map bytes_of (map (λ (x : StoredList). x.columns) lists ++ others))
measured_with [] others = rows_total others
measured_with (x ∷ lists) others =
    omega (arith, sum_by-cons (λ (r : Row). total r.lengths) (list_row x) (map list_row lists ++ map record_row others), total_is x.columns, measured_with lists others, length-append (bytes_of x.columns) (flat_map bytes_of (map (λ (x : StoredList). x.columns) lists ++ others)))

pub map_last : (deltas : List Stored) (piece : Stored) → map record_row deltas ++ record_row piece ∷ [] ≡ map record_row (deltas ++ piece ∷ [])
map_last [] piece = refl
map_last (d ∷ deltas) piece = ap (λ (l : List Row). record_row d ∷ l) (map_last deltas piece)

pub measures : (s : Segment) → sum_by (λ (r : Row). total r.lengths) (rows_in (directory_of s)) ≡ length (blobs s)
measures s =
    ap (λ (l : List Row). sum_by (λ (r : Row). total r.lengths) (map list_row s.lists ++ l)) (map_last s.deltas s.piece)
    ∙ measured_with s.lists (s.deltas ++ s.piece ∷ [])

-- ---- a directory

-- the directory behind the names
abbrev back : Bool → Segment → List ℕ
back wide s = four (length s.lists) ++ (flat_map (list_bytes wide) s.lists ++ (four (length s.deltas) ++ (flat_map (lengths_bytes wide) s.deltas ++ lengths_bytes wide s.piece)))

abbrev named_bytes : Segment → List ℕ
named_bytes s = flat_map name_bytes s.names

pub directory_long : (wide : Bool) (s : Segment) → length (directory wide s) ≡ 36 + length (named_bytes s) + list_size wide * length s.lists + lengths_size wide * length s.deltas + lengths_size wide
directory_long wide s =
    let lists : List ℕ = flat_map (list_bytes wide) s.lists in
    let deltas : List ℕ = flat_map (lengths_bytes wide) s.deltas in
    omega (arith, length-append (named_bytes s) (back wide s), length-append lists (four (length s.deltas) ++ (deltas ++ lengths_bytes wide s.piece)), length-append deltas (lengths_bytes wide s.piece), lists_long wide s.lists, records_long wide s.deltas, row_long wide s.piece)

-- what the test of a batch behind others says
record Follows (events first last : ℕ) : Type 0 where
  few : events ≤ BATCH_LINES_MAX
  rises : first ≤ last
  in_time : last ≤ TIME_MAX

follows_from : (count earliest : ℕ) (b : BatchEntry) → may_follow count earliest b ≡ true → Follows b.events b.ends.first b.ends.last
follows_from count earliest b e =
    let a = and_parts (nat_le 1 b.events) _ e in
    let c = and_parts (nat_le b.events BATCH_LINES_MAX) _ a.1 in
    let d = and_parts (nat_le (count + b.events) EVENTS_MAX) _ c.1 in
    let f = and_parts (nat_le earliest b.ends.first) _ d.1 in
    let g = and_parts (nat_le b.ends.first b.ends.last) _ f.1 in
    record { few = leb-true _ _ c.0; rises = leb-true _ _ g.0; in_time = leb-true _ _ g.1 }

module _ (x : Opened) (s : Segment) (may : MayStand x s) (few : length (blobs s) < 2 ^ 64) where
  -- the bytes of its directory say what it is
  pub directory_read : directory_in x.index (directory (is_wide x.index.form) s) ≡ Some (directory_of s)
  directory_read =
      let f = follows_from (event_total x.index.batches) (earliest_in 0 x.index.batches) (directory_of s).batch may.follows in
      let wide : Bool = is_wide x.index.form in
      let b : List ℕ = directory wide s in
      let n = length s.lists in
      let k = length s.deltas in
      let names : List ℕ = named_bytes s in
      let lists : List ℕ = flat_map (list_bytes wide) s.lists in
      let deltas : List ℕ = flat_map (lengths_bytes wide) s.deltas in
      let lw : ℕ = list_size wide in
      let w : ℕ = lengths_size wide in
      let end : ℕ = 28 + length names in
      let few_names : length s.names ≤ NAMES_MAX = omega (arith, leb-true (length x.names + length s.names) NAMES_MAX (and_parts (are_new x.names s.names) _ may.named).1) in
      let short : AreShort s.names = new_short x.names s.names (and_parts (are_new x.names s.names) _ may.named).0 in
      let small = all_small (stored_in s) few in
      let parts = small_parts (map (λ (x : StoredList). x.columns) s.lists) (s.deltas ++ s.piece ∷ []) small in
      let others = small_parts s.deltas (s.piece ∷ []) parts.1 in
      let unheard_lists : wide ≡ false → AreUnheard (map (λ (x : StoredList). x.columns) s.lists) = λ h. (unheard_parts (map (λ (x : StoredList). x.columns) s.lists) (s.deltas ++ s.piece ∷ []) (may.unheard h)).0 in
      let unheard_piece : wide ≡ false → s.piece.transient ≡ [] = λ h. (unheard_parts s.deltas (s.piece ∷ []) (unheard_parts (map (λ (x : StoredList). x.columns) s.lists) (s.deltas ++ s.piece ∷ []) (may.unheard h)).1).1.0 in
      let in_times = timed (last_list (first_in s.first x.index.batches) x.index.records) s.last s.lists f.in_time may.listed in
      let e0 = eight_step b 0 8 s.events (eight s.first ++ (eight s.last ++ (four (length s.names) ++ (names ++ back wide s)))) (omega (arith, f.few)) refl refl in
      let e1 = eight_step b 8 16 s.first (eight s.last ++ (four (length s.names) ++ (names ++ back wide s))) (omega (arith, f.rises, f.in_time)) refl e0.1 in
      let e2 = eight_step b 16 24 s.last (four (length s.names) ++ (names ++ back wide s)) (omega (arith, f.in_time)) refl e1.1 in
      let e3 = four_step b 24 28 (length s.names) (names ++ back wide s) (omega (arith, few_names)) refl e2.1 in
      let texts = names_read s.names b (back wide s) 28 short e3.1 in
      let e4 = behind b names (back wide s) 28 end refl e3.1 in
      let e5 = four_step b end (end + 4) n (lists ++ (four k ++ (deltas ++ lengths_bytes wide s.piece))) may.few_lists refl e4 in
      let e6 = lists_read wide s.lists b (four k ++ (deltas ++ lengths_bytes wide s.piece)) (end + 4) (lists_small s.lists in_times parts.0) unheard_lists e5.1 in
      let e7 = four_step b (end + 4 + lw * n) (end + 8 + lw * n) k (deltas ++ lengths_bytes wide s.piece) may.few_deltas (omega arith) e6.1 in
      let e8 = records_read wide s.deltas b (lengths_bytes wide s.piece) (end + 8 + lw * n) others.0 (λ h. may.deltas_unheard) e7.1 in
      let e9 = record_read wide s.piece b [] (end + 8 + lw * n + w * k) others.1.0 unheard_piece (e8.1 ∙ sym (append-nil (lengths_bytes wide s.piece))) in
      let long = directory_long wide s in
      let ends : (length b == end + 8 + lw * n + w * k + w && (four_at b end == n && four_at b (end + 4 + lw * n) == k)) ≡ true =
      and_from (length b == end + 8 + lw * n + w * k + w) _ (eq-eqb (length b) (end + 8 + lw * n + w * k + w) (omega (arith, long))) (and_from (four_at b end == n) _ (eq-eqb (four_at b end) n e5.0) (eq-eqb (four_at b (end + 4 + lw * n)) k e7.0)) in
      let read : names_at (four_at b 24) b 28 ≡ Some (s.names, end) = ap (λ n. names_at n b 28) e3.0 ∙ texts in
      let told : Directory = record {
        batch = record { events = eight_at b 0; ends = record { first = eight_at b 8; last = eight_at b 16 }; names = length s.names };
        names = s.names;
        lists = rows_at (list_at wide) lw n b (end + 4);
        deltas = rows_at (record_at wide) w k b (end + 8 + lw * n);
        piece = record_at wide b (end + 8 + lw * n + w * k);
      } in
      let is : told ≡ directory_of s = λ i. record {
        batch = record { events = e0.0 i; ends = record { first = e1.0 i; last = e2.0 i }; names = length s.names };
        names = s.names;
        lists = e6.0 i;
        deltas = e8.0 i;
        piece = e9 i;
      } in
      let with : directory_with wide n k b (s.names, end) ≡ Some (directory_of s) = ap (λ (c : Bool). cond c (Some told) None) ends ∙ ap (λ (d : Directory). Some d) is in
      let counts : (list_count x.index (eight_at b 0) ≡ n) × (delta_count x.index (eight_at b 0) ≡ k) = (ap (list_count x.index) e0.0 ∙ sym may.lists, ap (delta_count x.index) e0.0 ∙ sym may.deltas) in
      (λ i. cond (le-ltb (length b) 28 (omega (arith, long)) i) None (option_and_then (directory_with wide (counts.0 i) (counts.1 i) b) (read i))) ∙ with

-- ---- a segment behind what is opened

-- a segment as it stands in an image, behind what is opened so far and with `rest` behind it
pub record StandsNext (x : Opened) (s : Segment) (image rest : List ℕ) : Type 0 where
  pub size : eight_at image x.index.used ≡ length (directory (is_wide x.index.form) s)
  pub gate : gate_behind image x.index.used ≡ x.index.used + length (segment_bytes (is_wide x.index.form) s)
  pub plain : is_marked x image ≡ false
  pub stands : directory_next x image ≡ Some (directory_of s)
  pub behind : drop (x.index.used + length (segment_bytes (is_wide x.index.form) s)) image ≡ rest

then_by : (within : Bool) (o : Option Directory) (f : Directory → Option Directory) (d : Directory) → within ≡ true → o ≡ Some d → cond (not within) None (option_and_then f o) ≡ f d
then_by within o f d w is = λ i. cond (not (w i)) None (option_and_then f (is i))

pub no_marker : (a b c d : Bool) → c ≡ false → (a && (b && (c && d))) ≡ false
no_marker true true c d e = ap (λ b. b && d) e
no_marker true false c d e = refl
no_marker false b c d e = refl

pub stands_next : (x : Opened) (s : Segment) (image rest : List ℕ) → MayStand x s → drop x.index.used image ≡ segment_bytes (is_wide x.index.form) s ++ rest → 1 ≤ length rest
    → x.index.used + length (segment_bytes (is_wide x.index.form) s) + 1 ≤ FILE_BYTES_MAX → StandsNext x s image rest
stands_next x s image rest may is some fits =
    let at : ℕ = x.index.used in
    let wide : Bool = is_wide x.index.form in
    let b : List ℕ = directory wide s in
    let columns : List ℕ = blobs s in
    let d : ℕ = length b in
    let c : ℕ = length columns in
    let all : length (segment_bytes (is_wide x.index.form) s) ≡ 16 + d + c = omega (arith, length-append b columns) in
    let here : drop at image ≡ eight d ++ (eight c ++ (b ++ (columns ++ rest))) = is ∙ ap (λ (l : List ℕ). eight d ++ (eight c ++ l)) (append_assoc b columns rest) in
    let e0 = eight_step image at (at + 8) d (eight c ++ (b ++ (columns ++ rest))) (omega (arith, all, fits)) refl here in
    let e1 = eight_step image (at + 8) (at + 16) c (b ++ (columns ++ rest)) (omega (arith, all, fits)) (omega arith) e0.1 in
    let text : take (eight_at image at) (drop (at + 16) image) ≡ b = (λ i. take (e0.0 i) (e1.1 i)) ∙ take_at b (columns ++ rest) d refl in
    let e2 = behind image b (columns ++ rest) (at + 16) (at + 16 + d) refl e1.1 in
    let e3 = behind image columns rest (at + 16 + d) (at + 16 + d + c) refl e2 in
    let gate : gate_behind image at ≡ at + length (segment_bytes (is_wide x.index.form) s) = omega (arith, e0.0, e1.0, all) in
    let last : drop (at + length (segment_bytes (is_wide x.index.form) s)) image ≡ rest = ap (λ n. drop n image) (let e : at + length (segment_bytes (is_wide x.index.form) s) ≡ at + 16 + d + c = omega (arith, all) in e) ∙ e3 in
    let long : at + length (segment_bytes (is_wide x.index.form) s) + 1 ≤ length image = omega (arith, length-drop (at + length (segment_bytes (is_wide x.index.form) s)) image, ap length last, some) in
    let in_it : is_within image at ≡ true = and_from (nat_le (at + 16) (length image)) _ (le-leb _ _ (omega (arith, long, all)))
    (and_from (nat_le (gate_behind image at + 1) (length image)) _ (le-leb _ _ (omega (arith, gate, long))) (le-leb _ _ (omega (arith, gate, fits)))) in
    let due : directory_in x.index (take (eight_at image at) (drop (at + 16) image)) ≡ Some (directory_of s) = ap (directory_in x.index) text ∙ directory_read x s may (omega (arith, all, fits)) in
    let stands : may_stand x (eight_at image (at + 8)) (directory_of s) ≡ true =
    and_from (sum_by (λ (r : Row). total r.lengths) (rows_in (directory_of s)) == eight_at image (at + 8)) _ (eq-eqb _ _ (omega (arith, measures s, e1.0)))
    (and_from (may_follow (event_total x.index.batches) (earliest_in 0 x.index.batches) (directory_of s).batch) _ may.follows (and_from (may_be_named x.names s.names) _ may.named (and_from (may_be_listed (last_list (first_in s.first x.index.batches) x.index.records) s.last (map list_row s.lists)) _ may.listed (unheard_rows s.deltas may.deltas_unheard)))) in
    record {
      size = e0.0;
      gate = gate;
      plain = no_marker (not wide) (is_within image at) (eight_at image at == 8) _ (ne_eqb (eight_at image at) 8 (λ e. absurd (omega (arith, e, e0.0, directory_long wide s))));
      stands = then_by (is_within image at) (directory_in x.index (take (eight_at image at) (drop (at + 16) image))) (λ d. if_it_may (may_stand x (eight_at image (at + 8)) d) d) (directory_of s) in_it due
          ∙ ap (λ b. if_it_may b (directory_of s)) stands;
      behind = last;
    }

-- reading goes on behind it
pub read_next : (k : ℕ) (x : Opened) (s : Segment) (image rest : List ℕ) → StandsNext x s image rest → get_or image (x.index.used - 1) 0 ≡ 1 → read_on (suc k) image x ≡ read_on k image (with_segment x s)
read_next k x s image rest n opens =
    let offsets : (x.index.used + 16 + eight_at image x.index.used ≡ x.index.used + 16 + length (directory (is_wide x.index.form) s)) × (gate_behind image x.index.used + 1 ≡ x.index.used + length (segment_bytes (is_wide x.index.form) s) + 1) = (ap (λ m. x.index.used + 16 + m) n.size, ap (λ m. m + 1) n.gate) in
    ap (λ b. cond (not b) (Ok x) (cond (is_marked x image) (read_on k image (with_marker x)) (go_on_with image x (read_on k image) (directory_next x image)))) (eq-eqb (get_or image (x.index.used - 1) 0) 1 opens)
    ∙ ap (λ b. cond b (read_on k image (with_marker x)) (go_on_with image x (read_on k image) (directory_next x image))) n.plain
    ∙ ap (go_on_with image x (read_on k image)) n.stands
    ∙ (λ i. read_on k image (with_directory x (directory_of s) (offsets.0 i) (offsets.1 i)))

pub read_end : (k : ℕ) (x : Opened) (image : List ℕ) → (get_or image (x.index.used - 1) 0 == 1) ≡ false → read_on k image x ≡ Ok x
read_end zero x image closed = refl
read_end (suc k) x image closed = ap (λ b. cond (not b) (Ok x) (cond (is_marked x image) (read_on k image (with_marker x)) (go_on_with image x (read_on k image) (directory_next x image)))) closed

-- reading goes on behind a marker
pub read_marked : (k : ℕ) (x : Opened) (image : List ℕ) → is_marked x image ≡ true → get_or image (x.index.used - 1) 0 ≡ 1 → read_on (suc k) image x ≡ read_on k image (with_marker x)
read_marked k x image marked opens =
    ap (λ b. cond (not b) (Ok x) (cond (is_marked x image) (read_on k image (with_marker x)) (go_on_with image x (read_on k image) (directory_next x image)))) (eq-eqb (get_or image (x.index.used - 1) 0) 1 opens)
    ∙ ap (λ b. cond b (read_on k image (with_marker x)) (go_on_with image x (read_on k image) (directory_next x image))) marked

-- a marker that stands in an image behind what is opened so far, with `rest` behind it
pub marker_next : (x : Opened) (image rest : List ℕ) → is_wide x.index.form ≡ false → drop x.index.used image ≡ marker ++ rest → 1 ≤ length rest → x.index.used + 25 ≤ FILE_BYTES_MAX
    → (is_marked x image ≡ true) × (drop (x.index.used + 24) image ≡ rest)
marker_next x image rest narrow is some fits =
    let at : ℕ = x.index.used in
    let e0 = eight_step image at (at + 8) 8 (eight 0 ++ (eight 0 ++ rest)) (omega arith) refl is in
    let e1 = eight_step image (at + 8) (at + 16) 0 (eight 0 ++ rest) (omega arith) (omega arith) e0.1 in
    let e2 = eight_step image (at + 16) (at + 24) 0 rest (omega arith) (omega arith) e1.1 in
    let gate : gate_behind image at ≡ at + 24 = omega (arith, e0.0, e1.0) in
    let long : at + 25 ≤ length image = omega (arith, length-drop (at + 24) image, ap length e2.1, some) in
    let in_it : is_within image at ≡ true = and_from (nat_le (at + 16) (length image)) _ (le-leb _ _ (omega (arith, long)))
    (and_from (nat_le (gate_behind image at + 1) (length image)) _ (le-leb _ _ (omega (arith, gate, long))) (le-leb _ _ (omega (arith, gate, fits)))) in
    let there : is_marker image at ≡ true = and_from (eight_at image at == 8) _ (eq-eqb (eight_at image at) 8 e0.0) (and_from (eight_at image (at + 8) == 0) _ (eq-eqb (eight_at image (at + 8)) 0 e1.0) (eq-eqb (eight_at image (at + 16)) 0 e2.0)) in
    (ap (λ b. not b && (is_within image at && is_marker image at)) narrow ∙ and_from (is_within image at) _ in_it there, e2.1)
