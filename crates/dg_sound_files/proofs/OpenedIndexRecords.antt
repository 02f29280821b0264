-- What an image of a history holds: its parameters, form, names and batches, and the columns and times of each record.
use Rattle.std.proofs.Common.{◌≡◌, ℕ, ◌<◌, ◌≤◌, true, not, List, [], ◌∷◌, ◌++◌, length, take, drop, is_some, sym, ◌∙◌, ap, arith, append_assoc, append-nil}
use Rattle.std.specs.Map.{lookup}
use Rattle.std.specs.List.{flat_map}
use Rattle.std.proofs.lemmas.Bool.{and_parts, leb-true}
use Rattle.std.proofs.lemmas.List.{length-map, length-take-le, take-append-drop}
use Rattle.std.proofs.lemmas.List.Concat.{flat_map-append}
use Rattle.dg_graph.specs.declared.element.Column.{Column}
use Rattle.dg_graph.specs.declared.event.Event.{Event}
use Rattle.dg_history.specs.declared.node.Key.{Key}
use Rattle.dg_history.specs.declared.node.Key.TheVariants as key
use Rattle.dg_history.specs.declared.form.Form.{Form}
use Rattle.dg_history.specs.declared.form.Form.TheVariants as form
use Rattle.dg_history.specs.declared.params.Params.{Params}
use Rattle.dg_history.specs.Keys.{same_key}
use Rattle.dg_history.specs.History.{History, Batch, events_of, is_form, is_skewed, names_of}
use Rattle.dg_history.specs.LegalHistory.{IsLegal}
use Rattle.dg_history.proofs.LegalHistories.{events_among, names_among}
use Rattle.dg_index.specs.declared.entry.Entry.{Entry}
use Rattle.dg_index.specs.FileOfHistory.{segment_of}
use Rattle.dg_index.specs.FileLaws.{ColumnsAreKept}
use Rattle.dg_index.specs.ImageOfHistory.{IsImageOf}
use Rattle.dg_index.specs.IndexRecords.{column_in}
use Rattle.dg_index.specs.OpenedIndex.{Opened, bare, column_at, entry_at, event_total, opened_in, opened_of, opened_onto, with_marker, with_segment}
use Rattle.dg_index.proofs.HeldRecords.{IsHeld, held_at, known, piece_held}
use Rattle.dg_index.proofs.OpenedIndexHistories.{form_onto}
use Rattle.dg_index.proofs.RecentEventPieces.{batches_of, noted}

-- ---- the records of the index

pub params_are : (z : History) → (opened_of z).index.params ≡ z.params
params_are z = (known z).params

pub count_is : (z : History) → event_total (opened_of z).index.batches ≡ length (events_of z)
count_is z = (known z).count

names_onto : (p : Params) (batches : List Batch) (x : Opened) (before : List Event) → (opened_onto p x before batches).names ≡ x.names ++ flat_map (λ (b : Batch). b.names) batches
names_onto p [] x before = sym (append-nil x.names)
names_onto p (b ∷ batches) x before =
    names_onto p batches (with_segment x (segment_of p before b)) (before ++ b.events) ∙ append_assoc x.names b.names (flat_map (λ (b : Batch). b.names) batches)

names_in : (f : Form) (p : Params) (batches : List Batch) → (opened_in f p batches).names ≡ names_among batches
names_in form.One p batches = names_onto p batches (bare form.One p) []
names_in form.Two p batches = names_onto p batches (bare form.Two p) []
names_in (form.Upgraded n) p batches =
    let xs : List Batch = take n batches in
    let ys : List Batch = drop n batches in
    let x : Opened = opened_onto p (bare form.One p) [] xs in
    names_onto p ys (with_marker x) (events_among xs) ∙ ap (λ (l : List (List ℕ)). l ++ names_among ys) (names_onto p xs (bare form.One p) [])
    ∙ sym (flat_map-append (λ (b : Batch). b.names) xs ys) ∙ ap names_among (take-append-drop n batches)

pub names_are : (z : History) → (opened_of z).names ≡ names_of z
names_are z = names_in z.form z.params z.batches

form_in : (f : Form) (p : Params) (batches : List Batch) → is_form f p.function (length batches) ≡ true → (opened_in f p batches).index.form ≡ f
form_in form.One p batches is = form_onto p (bare form.One p) [] batches
form_in form.Two p batches is = form_onto p (bare form.Two p) [] batches
form_in (form.Upgraded n) p batches is =
    let xs : List Batch = take n batches in
    let x : Opened = opened_onto p (bare form.One p) [] xs in
    let within : n ≤ length batches = leb-true n (length batches) (and_parts (not (is_skewed p.function)) _ is).1 in
    let count : length x.index.batches ≡ n = ap length (batches_of (record { params = p; form = form.One; batches = xs })) ∙ length-map xs noted ∙ length-take-le n batches within in
    form_onto p (with_marker x) (events_among xs) (drop n batches) ∙ ap form.Upgraded count

pub form_is : (z : History) → IsLegal z → (opened_of z).index.form ≡ z.form
form_is z legal = form_in z.form z.params z.batches legal.form

-- ---- what is held

-- the piece of each batch is held
pub own_piece_held : (z : History) (i : ℕ) → i < length z.batches → is_some (lookup (same_key (key.Piece i)) (opened_of z).index.records) ≡ true
own_piece_held z i lt =
    let batches : length (opened_of z).index.batches ≡ length z.batches = ap length (batches_of z) ∙ length-map z.batches noted in
    piece_held (opened_of z).index i (known z).kept (omega (arith, batches, lt))

-- the columns of a record that is held are those of the history's record
pub columns_there : ColumnsAreKept → (z : History) (image : List ℕ) → IsImageOf z image → (k : Key) → is_some (lookup (same_key k) (opened_of z).index.records) ≡ true
    → (col : Column) → column_at image (entry_at (opened_of z).index k) col ≡ column_in z k col
columns_there kept z image h k held col =
    let e : IsHeld (opened_of z).index k = held_at (opened_of z).index k held in
    ap (λ (x : Entry). column_at image x col) e.is ∙ kept z image h k e.entry e.found col
