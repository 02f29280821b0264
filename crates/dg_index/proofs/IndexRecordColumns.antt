-- The columns of an image of a history are those of its records.
use Rattle.std.proofs.Common.{◌≡◌, ℕ, zero, suc, ◌+◌, ◌-◌, ◌*◌, ◌/◌, ◌<◌, ◌≤◌, ◌^◌, Bool, true, false, cond, List, [], ◌∷◌, ◌++◌, length, take, drop, map, Some, None, Option, refl, sym, ap, subst, ◌∙◌, append_assoc, append-nil, arith, length-append, length-drop, add-mul, mul-pos, pow-suc, div-mul-le_self, div-mul-le_self, take-append-drop}
use lib.Seq.{take-append-le, drop-append-le}
use native.Mathlib.Nat.{pow-zero}
use Rattle.std.specs.Prelude.{◌==◌}
use Rattle.std.specs.List.{flat_map}
use Rattle.std.proofs.lemmas.Bool.{eqb-true, false≢true, and_parts}
use Rattle.std.specs.Map.{lookup}
use Rattle.dg_history.specs.Keys.{same_key}
use Rattle.dg_index.specs.ImageOfHistory.{IsImageOf}
use Rattle.dg_index.proofs.OpenedIndexHistories.{large_parameters, behind_header}
use Rattle.std.proofs.lemmas.List.Concat.{flat_map-append}
use Rattle.std.proofs.lemmas.List.Sums.{sum_by_push}
use Rattle.dg_graph.specs.Columns.{eight}
use Rattle.std.proofs.lemmas.List.{take_at}
use Rattle.std.proofs.lemmas.Nat.{div-mul-add}
use Rattle.dg_graph.specs.declared.element.Column.{Column}
use Rattle.dg_graph.specs.declared.element.Column.TheVariants as column
use Rattle.dg_graph.specs.declared.event.Event.{Event}
use Rattle.dg_history.specs.declared.node.Key.{Key}
use Rattle.dg_history.specs.declared.node.Key.TheVariants as key
use Rattle.dg_history.specs.declared.params.Params.{Params}
use Rattle.dg_graph.specs.Composition.{between}
use Rattle.dg_index.specs.FileOfHistory.{header, Stored, StoredList, Segment, bytes_of, directory, stored_in, blobs, segment_bytes, segment_of, segments_from, stored_list, stored, file, marker, segments_in}
use Rattle.dg_history.specs.History.{History, Batch, events_of, is_wide}
use Rattle.dg_history.proofs.LegalHistories.{events_among}
use Rattle.dg_history.specs.declared.form.Form.{Form}
use Rattle.dg_history.specs.declared.form.Form.TheVariants as form
use Rattle.dg_index.specs.Hierarchy.{numbers, leaves, children, parent, set_at}
use Rattle.dg_index.specs.IndexRecords.{Record, Events, Exact, closed_list, piece_of, piece_at, record_among, column_of_record, column_in, deltas_of, inner_due, deltas_due_at, deltas_due, lists_due}
use Rattle.dg_index.specs.declared.entry.Entry.{Entry}
use Rattle.dg_index.specs.declared.entry.Row.{Row}
use Rattle.dg_index.specs.declared.entry.BatchEntry.{BatchEntry}
use Rattle.dg_index.specs.OpenedIndex.{Opened, bare, opened_in, opened_of, opened_onto, with_marker, with_segment, directory_of, rows_in, list_row, record_row, lengths_of, laid, total, keys_next, event_total, column_at}
use Rattle.dg_index.proofs.HierarchyCounts.{due_to}
use Rattle.dg_index.proofs.HierarchyStability.{child_within, stable, leaves_more}
use Rattle.dg_index.proofs.ImageTextRanges.{behind}
use Rattle.dg_index.specs.declared.per_column.PerColumn.{PerColumn}

pub power_some : (k h : ℕ) → 0 < k → 0 < k ^ h
power_some k zero pos = omega (arith, pow-zero k)
power_some k (suc h) pos = subst (λ n. 0 < n) (sym (pow-suc k h)) (mul-pos (power_some k h pos) pos)

-- ---- facts of each of a list

abbrev pub Each : {A : Type 0} → (A → Type 0) → List A → Type 0
Each P [] = Unit {0}
Each P (x ∷ xs) = P x × Each P xs

pub each_append : {A : Type 0} (P : A → Type 0) (xs ys : List A) → Each P xs → Each P ys → Each P (xs ++ ys)
each_append P [] ys a b = b
each_append P (x ∷ xs) ys a b = (a.0, each_append P xs ys a.1 b)

pub each_flat : {A B : Type 0} (P : B → Type 0) (f : A → List B) (xs : List A) → Each (λ x. Each P (f x)) xs → Each P (flat_map f xs)
each_flat P f [] all = tt
each_flat P f (x ∷ xs) all = each_append P (f x) (flat_map f xs) all.0 (each_flat P f xs all.1)

pub each_number : (P : ℕ → Type 0) (a n : ℕ) → ((c : ℕ) → a ≤ c → c < a + n → P c) → Each P (numbers a n)
each_number P a zero f = tt
each_number P a (suc n) f = (f a (omega arith) (omega arith), each_number P (a + 1) n (λ c le lt. f c (omega (arith, le)) (omega (arith, lt))))

pub each_map : {A B : Type 0} (P : B → Type 0) (f : A → B) (xs : List A) → Each (λ x. P (f x)) xs → Each P (map f xs)
each_map P f [] all = tt
each_map P f (x ∷ xs) all = (all.0, each_map P f xs all.1)

-- ---- columns that stand one behind another

abbrev pub part_of : Stored → Column → List ℕ
part_of s column.Structure = s.structure
part_of s column.NodeAttr = s.node_attrs
part_of s column.EdgeAttr = s.edge_attrs
part_of s column.Transient = s.transient

entry_for : Stored → ℕ → Row → Entry
entry_for s offset r = record { lengths = lengths_of s; offset = offset; ends = r.ends }

pub one_read : (s : Stored) (image rest : List ℕ) (e : Entry) (col : Column) → e.lengths ≡ lengths_of s → drop e.offset image ≡ bytes_of s ++ rest → column_at image e col ≡ part_of s col
one_read s image rest e col is text =
    let tail : List ℕ = s.edge_attrs ++ (s.transient ++ rest) in
    let here : drop e.offset image ≡ s.structure ++ (s.node_attrs ++ tail) =
    text ∙ append_assoc s.structure (s.node_attrs ++ (s.edge_attrs ++ s.transient)) rest
    ∙ ap (λ (l : List ℕ). s.structure ++ l) (append_assoc s.node_attrs (s.edge_attrs ++ s.transient) rest ∙ ap (λ (l : List ℕ). s.node_attrs ++ l) (append_assoc s.edge_attrs s.transient rest)) in
    let l0 : e.lengths.structure ≡ length s.structure = ap (λ (l : PerColumn ℕ). l.structure) is in
    let l1 : e.lengths.node_attrs ≡ length s.node_attrs = ap (λ (l : PerColumn ℕ). l.node_attrs) is in
    let l2 : e.lengths.edge_attrs ≡ length s.edge_attrs = ap (λ (l : PerColumn ℕ). l.edge_attrs) is in
    let l3 : e.lengths.transient ≡ length s.transient = ap (λ (l : PerColumn ℕ). l.transient) is in
    let o1 : ℕ = e.offset + e.lengths.structure in
    let o2 : ℕ = e.offset + e.lengths.structure + e.lengths.node_attrs in
    let o3 : ℕ = e.offset + e.lengths.structure + e.lengths.node_attrs + e.lengths.edge_attrs in
    let next = behind image s.structure (s.node_attrs ++ tail) e.offset o1 (omega (arith, l0)) here in
    let after = behind image s.node_attrs tail o1 o2 (omega (arith, l1)) next in
    let last = behind image s.edge_attrs (s.transient ++ rest) o2 o3 (omega (arith, l2)) after in
    by col here next after last l0 l1 l2 l3
  where
    by : (col : Column) → drop e.offset image ≡ s.structure ++ (s.node_attrs ++ (s.edge_attrs ++ (s.transient ++ rest))) → drop (e.offset + e.lengths.structure) image ≡ s.node_attrs ++ (s.edge_attrs ++ (s.transient ++ rest))
        → drop (e.offset + e.lengths.structure + e.lengths.node_attrs) image ≡ s.edge_attrs ++ (s.transient ++ rest)
        → drop (e.offset + e.lengths.structure + e.lengths.node_attrs + e.lengths.edge_attrs) image ≡ s.transient ++ rest
        → e.lengths.structure ≡ length s.structure → e.lengths.node_attrs ≡ length s.node_attrs → e.lengths.edge_attrs ≡ length s.edge_attrs → e.lengths.transient ≡ length s.transient → column_at image e col ≡ part_of s col
    by column.Structure a b c d l0 l1 l2 l3 = (λ i. take (l0 i) (a i)) ∙ take_at s.structure (s.node_attrs ++ (s.edge_attrs ++ (s.transient ++ rest))) (length s.structure) refl
    by column.NodeAttr a b c d l0 l1 l2 l3 = (λ i. take (l1 i) (b i)) ∙ take_at s.node_attrs (s.edge_attrs ++ (s.transient ++ rest)) (length s.node_attrs) refl
    by column.EdgeAttr a b c d l0 l1 l2 l3 = (λ i. take (l2 i) (c i)) ∙ take_at s.edge_attrs (s.transient ++ rest) (length s.edge_attrs) refl
    by column.Transient a b c d l0 l1 l2 l3 = (λ i. take (l3 i) (d i)) ∙ take_at s.transient rest (length s.transient) refl

-- what is stored at each key is the record of the history
abbrev pub Match : History → List Key → List Stored → Type 0
Match z [] all = Unit {0}
Match z (k ∷ keys) [] = Unit {0}
Match z (k ∷ keys) (s ∷ all) = ((col : Column) → part_of s col ≡ column_in z k col) × Match z keys all

-- the rows tell the lengths of what is stored
abbrev pub Tell : List Row → List Stored → Type 0
Tell [] all = Unit {0}
Tell (r ∷ rows) [] = ⊥
Tell (r ∷ rows) (s ∷ all) = (r.lengths ≡ lengths_of s) × Tell rows all

abbrev pub IsKept : History → List ℕ → Key × Entry → Type 0
IsKept z image r = (col : Column) → column_at image r.1 col ≡ column_in z r.0 col

total_is : (s : Stored) → total (lengths_of s) ≡ length (bytes_of s)
total_is s = omega (arith, length-append s.structure (s.node_attrs ++ (s.edge_attrs ++ s.transient)), length-append s.node_attrs (s.edge_attrs ++ s.transient), length-append s.edge_attrs s.transient)

pub laid_kept : (z : History) (image rest : List ℕ) (offset : ℕ) (keys : List Key) (rows : List Row) (all : List Stored) → Match z keys all → Tell rows all → drop offset image ≡ flat_map bytes_of all ++ rest
    → Each (IsKept z image) (laid offset keys rows)
laid_kept z image rest offset [] rows all m t text = tt
laid_kept z image rest offset (k ∷ keys) [] all m t text = tt
laid_kept z image rest offset (k ∷ keys) (r ∷ rows) [] m t text = absurd t
laid_kept z image rest offset (k ∷ keys) (r ∷ rows) (s ∷ all) m t text =
    let here : drop offset image ≡ bytes_of s ++ (flat_map bytes_of all ++ rest) = text ∙ append_assoc (bytes_of s) (flat_map bytes_of all) rest in
    let next = behind image (bytes_of s) (flat_map bytes_of all ++ rest) offset (offset + total r.lengths) (omega (arith, total_is s, ap total t.0)) here in (
      λ col. one_read s image (flat_map bytes_of all ++ rest) (record { lengths = r.lengths; offset = offset; ends = r.ends }) col t.0 here ∙ m.0 col,
      laid_kept z image rest (offset + total r.lengths) keys rows all m.1 t.1 next,
    )

tell_records : (all : List Stored) → Tell (map record_row all) all
tell_records [] = tt
tell_records (s ∷ all) = (refl, tell_records all)

tell_last : (deltas : List Stored) (piece : Stored) → Tell (map record_row deltas ++ record_row piece ∷ []) (deltas ++ piece ∷ [])
tell_last [] piece = (refl, tt)
tell_last (d ∷ deltas) piece = (refl, tell_last deltas piece)

tell_lists : (lists : List StoredList) (deltas : List Stored) (piece : Stored) → Tell (map list_row lists ++ (map record_row deltas ++ record_row piece ∷ [])) (map (λ (x : StoredList). x.columns) lists ++ (deltas ++ piece ∷ []))
tell_lists [] deltas piece = tell_last deltas piece
tell_lists (x ∷ lists) deltas piece = (refl, tell_lists lists deltas piece)

pub tell : (s : Segment) → Tell (rows_in (directory_of s)) (stored_in s)
tell s = tell_lists s.lists s.deltas s.piece

-- ---- what a batch's segment holds is what the history's records are

part_is : (r : Record) (col : Column) → part_of (stored r) col ≡ column_of_record col r
part_is r column.Structure = refl
part_is r column.NodeAttr = refl
part_is r column.EdgeAttr = refl
part_is r column.Transient = refl

-- the record of a key among these events is that of the history
abbrev Right : History → List Event → Key → Type 0
Right z all k = record_among z.params all [] k ≡ record_among z.params (events_of z) z.batches k

match_map : (z : History) (all : List Event) (keys others : List Key) (more : List Stored) → Each (Right z all) keys → Match z others more
    → Match z (keys ++ others) (map (λ k. stored (record_among z.params all [] k)) keys ++ more)
match_map z all [] others more each m = m
match_map z all (k ∷ keys) others more each m =
    (λ col. part_is (record_among z.params all [] k) col ∙ ap (column_of_record col) each.0, match_map z all keys others more each.1 m)

pub parent_is : (k j c : ℕ) → 0 < k → 1 ≤ j → (j - 1) * k + 1 ≤ c → c < (j - 1) * k + 1 + k → parent k c ≡ j
parent_is k j c pos some from to =
    let r : ℕ = c - 1 - (j - 1) * k in
    let e : c - 1 ≡ (j - 1) * k + r = omega (arith, from) in
    let q : (c - 1) / k ≡ j - 1 = ap (λ n. n / k) e ∙ div-mul-add (j - 1) k r (omega (arith, from, to)) in
    omega (arith, q, some)

module _ (z : History) (all later : List Event) (pos : 0 < z.params.l) (wide : 0 < z.params.k) (is : events_of z ≡ all ++ later) where
  pub list_right : (i : ℕ) → (i + 1) * z.params.l ≤ length all → closed_list z.params all i ≡ closed_list z.params (events_of z) i
  list_right i le =
      let l : ℕ = z.params.l in
      let sum : (i + 1) * l ≡ i * l + l = omega (arith, add-mul i 1 l) in
      let front : drop (i * l) (all ++ later) ≡ drop (i * l) all ++ later = drop-append-le (i * l) all later (omega (arith, le, sum)) in
      sym (ap (λ (e : List Event). take l (drop (i * l) e)) is ∙ ap (take l) front ∙ take-append-le l (drop (i * l) all) later (omega (arith, le, sum, length-drop (i * l) all)))

  set_right : (h j : ℕ) → 1 ≤ j → j * z.params.k ^ h ≤ leaves z.params (length all) → set_at z.params all h j ≡ set_at z.params (events_of z) h j
  set_right h j some le = sym (ap (λ (e : List Event). set_at z.params e h j) is ∙ stable z.params all later pos h j some le)

  -- the deltas of a node that is there
  node_right : (h j : ℕ) → 1 ≤ j → j * z.params.k ^ suc h ≤ leaves z.params (length all) → Each (Right z all) (deltas_of z.params.k (suc h) j)
  node_right h j some le =
      let k : ℕ = z.params.k in
      each_append (Right z all) (cond (j == 1) (key.Top (suc h) ∷ []) []) (map (λ c. key.Down (suc h) c) (children k j)) (top (j == 1) refl)
      (each_map (Right z all) (λ c. key.Down (suc h) c) (children k j) (each_number (λ c. Right z all (key.Down (suc h) c)) ((j - 1) * k + 1) k
      (λ c from to.
      let parent_here : parent k c ≡ j = parent_is k j c wide some from to in
      let inner : set_at z.params all (suc h) (parent k c) ≡ set_at z.params (events_of z) (suc h) (parent k c) = subst (λ n. set_at z.params all (suc h) n ≡ set_at z.params (events_of z) (suc h) n) (sym parent_here) (set_right (suc h) j some le) in
      let child : set_at z.params all (suc h - 1) c ≡ set_at z.params (events_of z) (suc h - 1) c = subst (λ n. set_at z.params all n c ≡ set_at z.params (events_of z) n c) (let e : h ≡ suc h - 1 = omega arith in e) (set_right h c (omega (arith, from)) (child_within k h j c (k ^ h) (leaves z.params (length all)) some to refl le)) in
      λ i. Exact (between (inner i) (child i)))))
    where
      top : (b : Bool) → (j == 1) ≡ b → Each (Right z all) (cond b (key.Top (suc h) ∷ []) [])
      top false e = tt
      top true e =
          let one : j ≡ 1 = eqb-true j 1 e in
          ((λ i. Exact (between [] (set_right (suc h) 1 (omega arith) (subst (λ n. n * z.params.k ^ suc h ≤ leaves z.params (length all)) one le) i))), tt)

  deltas_right : (m : ℕ) → Each (Right z all) (deltas_due z.params.k m (leaves z.params (length all)))
  deltas_right m =
      let k : ℕ = z.params.k in
      let after : ℕ = leaves z.params (length all) in
      each_flat (Right z all) (deltas_due_at k m after) (numbers 1 after) (each_number (λ h. Each (Right z all) (deltas_due_at k m after h)) 1 after (λ h from to. at h from))
    where
      at : (h : ℕ) → 1 ≤ h → Each (Right z all) (deltas_due_at z.params.k m (leaves z.params (length all)) h)
      at zero from = absurd (omega (arith, from))
      at (suc h) from =
          let k : ℕ = z.params.k in
          let after : ℕ = leaves z.params (length all) in
          each_flat (Right z all) (deltas_of k (suc h)) (inner_due k m after (suc h)) (each_number (λ j. Each (Right z all) (deltas_of k (suc h) j)) (m / k ^ suc h + 1) (after / k ^ suc h - m / k ^ suc h)
          (λ j low high. node_right h j (omega (arith, low)) (due_to k m after (suc h) j (power_some k (suc h) wide) low (omega (arith, low, high))).1))

lists_match : (z : History) (all : List Event) (later : List Event) (pos : 0 < z.params.l) (is : events_of z ≡ all ++ later) (i n : ℕ) (others : List Key) (more : List Stored) → (i + n) * z.params.l ≤ length all → Match z others more
    → Match z (map (λ i. key.List i) (numbers i n) ++ others) (map (λ (x : StoredList). x.columns) (map (stored_list z.params all) (numbers i n)) ++ more)
lists_match z all later pos is i zero others more le m = m
lists_match z all later pos is i (suc n) others more le m =
    let l : ℕ = z.params.l in
    let sum : (i + suc n) * l ≡ (i + 1) * l + n * l = omega (arith, add-mul i (suc n) l, add-mul i 1 l, add-mul n 1 l) in
    let here = list_right_at z all later is i (omega (arith, le, sum)) in (
      λ col. part_is (Events (closed_list z.params all i)) col ∙ ap (λ (e : List Event). column_of_record col (Events e)) here,
      lists_match z all later pos is (i + 1) n others more (subst (λ c. c * l ≤ length all) (let e : i + suc n ≡ i + 1 + n = omega arith in e) le) m,
    )
  where
    list_right_at : (z : History) (all later : List Event) → events_of z ≡ all ++ later → (i : ℕ) → (i + 1) * z.params.l ≤ length all → closed_list z.params all i ≡ closed_list z.params (events_of z) i
    list_right_at z all later is i le =
        let l : ℕ = z.params.l in
        let sum : (i + 1) * l ≡ i * l + l = omega (arith, add-mul i 1 l) in
        let front : drop (i * l) (all ++ later) ≡ drop (i * l) all ++ later = drop-append-le (i * l) all later (omega (arith, le, sum)) in
        sym (ap (λ (e : List Event). take l (drop (i * l) e)) is ∙ ap (take l) front ∙ take-append-le l (drop (i * l) all) later (omega (arith, le, sum, length-drop (i * l) all)))

-- the piece of a batch behind others
pub piece_there : (p : Params) (before : List Event) (front : List Batch) (b : Batch) (more : List Batch) → piece_at p before (front ++ b ∷ more) (length front) ≡ piece_of p (before ++ events_among front) b
piece_there p before [] b more = ap (λ (l : List Event). piece_of p l b) (sym (append-nil before))
piece_there p before (c ∷ front) b more = piece_there p (before ++ c.events) front b more ∙ ap (λ (l : List Event). piece_of p l b) (append_assoc before c.events (events_among front))

-- what is known of what is opened so far
pub record IsSoFar (z : History) (image : List ℕ) (x : Opened) (front : List Batch) : Type 0 where
  pub params : x.index.params ≡ z.params
  pub count : event_total x.index.batches ≡ length (events_among front)
  pub number : length x.index.batches ≡ length front
  pub kept : Each (IsKept z image) x.index.records

module _ (z : History) (image : List ℕ) (pos : 0 < z.params.l) (wide : 0 < z.params.k) where
  pub segment_matches : (front : List Batch) (b : Batch) (more : List Batch) → z.batches ≡ front ++ b ∷ more → (x : Opened) → IsSoFar z image x front
      → Match z (keys_next x.index (length b.events)) (stored_in (segment_of z.params (events_among front) b))
  segment_matches front b more is x so =
      let before : List Event = events_among front in
      let p : Params = z.params in
      let all : List Event = before ++ b.events in
      let m : ℕ = leaves p (length before) in
      let after : ℕ = leaves p (length before + length b.events) in
      let whole : events_of z ≡ all ++ events_among more = ap events_among is ∙ flat_map-append (λ (b : Batch). b.events) front (b ∷ more) ∙ sym (append_assoc before b.events (events_among more)) in
      let long : after ≡ leaves p (length all) = ap (leaves p) (sym (length-append before b.events)) in
      let keys_are : keys_next x.index (length b.events) ≡ map (λ i. key.List i) (numbers m (after - m)) ++ (deltas_due p.k m after ++ key.Piece (length front) ∷ []) =
      λ i. lists_due (so.params i) (so.count i) (so.count i + length b.events) ++ (deltas_due (so.params i).k (leaves (so.params i) (so.count i)) (leaves (so.params i) (so.count i + length b.events)) ++ key.Piece (so.number i) ∷ []) in
      let piece : Record = Events (piece_of p before b) in
      let piece_is : piece_of p before b ≡ piece_at p [] z.batches (length front) = sym (ap (λ (l : List Batch). piece_at p [] l (length front)) is ∙ piece_there p [] front b more) in
      let last : Match z (key.Piece (length front) ∷ []) (stored piece ∷ []) = (λ col. part_is piece col ∙ ap (λ (e : List Event). column_of_record col (Events e)) piece_is, tt) in
      let deltas = match_map z all (deltas_due p.k m after) (key.Piece (length front) ∷ []) (stored piece ∷ []) (subst (λ c. Each (Right z all) (deltas_due p.k m c)) (sym long) (deltas_right z all (events_among more) pos wide whole m)) last in
      let upto : (m + (after - m)) * p.l ≤ length all =
      subst (λ c. c * p.l ≤ length all) (let e : after ≡ m + (after - m) = omega (arith, leaves_more p.l (length before) (length b.events) pos) in e) (subst (λ c. c * p.l ≤ length all) (sym long) (div-mul-le_self (length all) p.l)) in
      subst (λ (l : List Key). Match z l (stored_in (segment_of p before b))) (sym keys_are)
      (lists_match z all (events_among more) pos whole m (after - m) (deltas_due p.k m after ++ key.Piece (length front) ∷ []) (map (λ k. stored (record_among p all [] k)) (deltas_due p.k m after) ++ stored piece ∷ []) upto deltas)

  pub all_kept : (front batches later : List Batch) (rest : List ℕ) (x : Opened) → z.batches ≡ front ++ (batches ++ later) → IsSoFar z image x front → 1 ≤ x.index.used
      → drop (x.index.used - 1) image ≡ segments_from (is_wide x.index.form) z.params (events_among front) batches ++ rest
      → IsSoFar z image (opened_onto z.params x (events_among front) batches) (front ++ batches) × (drop ((opened_onto z.params x (events_among front) batches).index.used - 1) image ≡ rest) × (1 ≤ (opened_onto z.params x (events_among front) batches).index.used)
  all_kept front [] later rest x is so some text = (subst (IsSoFar z image x) (sym (append-nil front)) so, text, some)
  all_kept front (b ∷ more) later rest x is so some text =
      let p : Params = z.params in
      let wide : Bool = is_wide x.index.form in
      let before : List Event = events_among front in
      let s : Segment = segment_of p before b in
      let others : List ℕ = segments_from wide p (before ++ b.events) more in
      let d : ℕ = length (directory wide s) in
      let used : ℕ = x.index.used in
      let bytes : drop used image ≡ segment_bytes wide s ++ (others ++ rest) = behind image (1 ∷ []) ((segment_bytes wide s ++ others) ++ rest) (used - 1) used (omega (arith, some)) text ∙ append_assoc (segment_bytes wide s) others rest in
      let next : drop (used + length (segment_bytes wide s)) image ≡ others ++ rest = behind image (segment_bytes wide s) (others ++ rest) used (used + length (segment_bytes wide s)) refl bytes in
      let inside : drop used image ≡ (eight d ++ (eight (length (blobs s)) ++ directory wide s)) ++ (blobs s ++ (others ++ rest)) =
      bytes ∙ ap (λ (l : List ℕ). eight d ++ (eight (length (blobs s)) ++ l)) (append_assoc (directory wide s) (blobs s) (others ++ rest)) in
      let columns : drop (used + 16 + d) image ≡ blobs s ++ (others ++ rest) = behind image (eight d ++ (eight (length (blobs s)) ++ directory wide s)) (blobs s ++ (others ++ rest)) used (used + 16 + d) (omega arith) inside in
      let new : Each (IsKept z image) (laid (used + 16 + d) (keys_next x.index (length b.events)) (rows_in (directory_of s))) =
      laid_kept z image (others ++ rest) (used + 16 + d) (keys_next x.index (length b.events)) (rows_in (directory_of s)) (stored_in s) (segment_matches front b (more ++ later) is x so) (tell s) columns in
      let events_are : events_among (front ++ b ∷ []) ≡ before ++ b.events = flat_map-append (λ (b : Batch). b.events) front (b ∷ []) ∙ ap (λ (l : List Event). before ++ l) (append-nil b.events) in
      let so_next : IsSoFar z image (with_segment x s) (front ++ b ∷ []) = record {
        params = so.params;
        count = sum_by_push (λ (b : BatchEntry). b.events) x.index.batches (directory_of s).batch ∙ ap (λ c. c + length b.events) so.count ∙ sym (length-append before b.events) ∙ ap length (sym events_are);
        number = length-append x.index.batches ((directory_of s).batch ∷ []) ∙ ap (λ c. c + 1) so.number ∙ sym (length-append front (b ∷ []));
        kept = each_append (IsKept z image) x.index.records (laid (used + 16 + d) (keys_next x.index (length b.events)) (rows_in (directory_of s))) so.kept new;
      } in
      let more_text : drop (used + length (segment_bytes wide s) + 1 - 1) image ≡ segments_from wide p (events_among (front ++ b ∷ [])) more ++ rest =
      ap (λ n. drop n image) (let e : used + length (segment_bytes wide s) + 1 - 1 ≡ used + length (segment_bytes wide s) = omega arith in e) ∙ next ∙ ap (λ (l : List Event). segments_from wide p l more ++ rest) (sym events_are) in
      let result = all_kept (front ++ b ∷ []) more later rest (with_segment x s) (is ∙ sym (append_assoc front (b ∷ []) (more ++ later))) so_next (omega arith) more_text in
      subst (λ (l : List Event). IsSoFar z image (opened_onto p (with_segment x s) l more) (front ++ b ∷ more) × (drop ((opened_onto p (with_segment x s) l more).index.used - 1) image ≡ rest) × (1 ≤ (opened_onto p (with_segment x s) l more).index.used)) events_are
      (subst (λ (l : List Batch). IsSoFar z image (opened_onto p (with_segment x s) (events_among (front ++ b ∷ [])) more) l) (append_assoc front (b ∷ []) more) result.0, result.1, result.2)

  -- all records are kept, whatever the form
  form_kept : (f : Form) (rest : List ℕ) → drop 17 image ≡ segments_in f z.params z.batches ++ rest → Each (IsKept z image) (opened_in f z.params z.batches).index.records
  form_kept form.One rest text = (all_kept [] z.batches [] rest (bare form.One z.params) (sym (append-nil z.batches)) (record { params = refl; count = refl; number = refl; kept = tt }) (omega arith) text).0.kept
  form_kept form.Two rest text = (all_kept [] z.batches [] rest (bare form.Two z.params) (sym (append-nil z.batches)) (record { params = refl; count = refl; number = refl; kept = tt }) (omega arith) text).0.kept
  form_kept (form.Upgraded n) rest text =
      let p : Params = z.params in
      let xs : List Batch = take n z.batches in
      let ys : List Batch = drop n z.batches in
      let whole : z.batches ≡ xs ++ ys = sym (take-append-drop n z.batches) in
      let first : List ℕ = segments_from false p [] xs in
      let second : List ℕ = segments_from true p (events_among xs) ys in
      let one = all_kept [] xs ys (1 ∷ (marker ++ (second ++ rest))) (bare form.One p) whole (record { params = refl; count = refl; number = refl; kept = tt }) (omega arith) (text ∙ append_assoc first (1 ∷ (marker ++ second)) rest) in
      let y : Opened = opened_onto p (bare form.One p) [] xs in
      let at : drop (y.index.used + 24) image ≡ second ++ rest = behind image (1 ∷ marker) (second ++ rest) (y.index.used - 1) (y.index.used + 24) (omega (arith, one.2)) one.1 in
      let so = one.0 in
      (all_kept xs ys [] rest (with_marker y) (whole ∙ ap (λ (l : List Batch). xs ++ l) (sym (append-nil ys))) (record { params = so.params; count = so.count; number = so.number; kept = so.kept }) (omega arith)
      (ap (λ n. drop n image) (let e : y.index.used + 24 + 1 - 1 ≡ y.index.used + 24 = omega arith in e) ∙ at)).0.kept

-- ---- what is held at a key

pub same_key_exact : (x y : Key) → same_key x y ≡ true → x ≡ y
same_key_exact (key.List m) (key.List n) e = ap key.List (eqb-true m n e)
same_key_exact (key.Piece m) (key.Piece n) e = ap key.Piece (eqb-true m n e)
same_key_exact (key.Top m) (key.Top n) e = ap key.Top (eqb-true m n e)
same_key_exact (key.Down m c) (key.Down n d) e =
    let a = and_parts (m == n) (c == d) e in
    λ i. key.Down (eqb-true m n a.0 i) (eqb-true c d a.1 i)
same_key_exact (key.List m) (key.Piece n) e = absurd (false≢true e)
same_key_exact (key.List m) (key.Top n) e = absurd (false≢true e)
same_key_exact (key.List m) (key.Down n d) e = absurd (false≢true e)
same_key_exact (key.Piece m) (key.List n) e = absurd (false≢true e)
same_key_exact (key.Piece m) (key.Top n) e = absurd (false≢true e)
same_key_exact (key.Piece m) (key.Down n d) e = absurd (false≢true e)
same_key_exact (key.Top m) (key.List n) e = absurd (false≢true e)
same_key_exact (key.Top m) (key.Piece n) e = absurd (false≢true e)
same_key_exact (key.Top m) (key.Down n d) e = absurd (false≢true e)
same_key_exact (key.Down m c) (key.List n) e = absurd (false≢true e)
same_key_exact (key.Down m c) (key.Piece n) e = absurd (false≢true e)
same_key_exact (key.Down m c) (key.Top n) e = absurd (false≢true e)

abbrev entry_or : Entry → Option Entry → Entry
entry_or e None = e
entry_or e (Some x) = x

-- what holds of each record holds of the one at a key
pub at_key : (P : Key × Entry → Type 0) (k : Key) (e : Entry) (records : List (Key × Entry)) → Each P records → lookup (same_key k) records ≡ Some e → P (k, e)
at_key P k e [] all is = absurd cc
at_key P k e (r ∷ records) all is = by (at_key P k e records all.1) (same_key k r.0) refl is
  where
    by : (lookup (same_key k) records ≡ Some e → P (k, e)) → (b : Bool) → same_key k r.0 ≡ b → cond b (Some r.1) (lookup (same_key k) records) ≡ Some e → P (k, e)
    by more true there is =
        let here : r.1 ≡ e = ap (entry_or e) is in
        subst (λ (k : Key). P (k, e)) (sym (same_key_exact k r.0 there)) (subst (λ (e : Entry). P (r.0, e)) here all.0)
    by more false there is = more is

-- of an image of a history, the column of a record that is held is that of the history
pub columns_are_kept : (z : History) (image : List ℕ) → IsImageOf z image → (k : Key) (e : Entry) → lookup (same_key k) (opened_of z).index.records ≡ Some e → (col : Column) → column_at image e col ≡ column_in z k col
columns_are_kept z image h k e found =
    let body : List ℕ = segments_in z.form z.params z.batches in
    let rest : List ℕ = drop (length (file z)) image in
    let large = large_parameters z.params.l z.params.k h.legal.parameters in
    let n = length (file z) in
    let is : image ≡ file z ++ rest = sym (take-append-drop n image) ∙ ap (λ (l : List ℕ). l ++ rest) h.begins in
    let text : drop 17 image ≡ body ++ rest = ap (drop 17) (is ∙ append_assoc (header z.form z.params) body rest) ∙ behind_header z.form z.params (body ++ rest) in
    let kept = form_kept z image (omega (arith, large.0)) (omega (arith, large.1)) z.form rest text in
    at_key (IsKept z image) k e (opened_of z).index.records kept found
