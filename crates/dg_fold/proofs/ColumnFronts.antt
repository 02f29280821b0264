-- A column of a history is read to its end: one of events is no longer than events can be, and the counts of a delta's fit
-- its length.
use Rattle.std.proofs.Common.{◌≡◌, ℕ, ◌+◌, ◌*◌, ◌<◌, ◌≤◌, ◌^◌, Bool, true, false, cond, List, [], ◌∷◌, length, filter, Option, Some, None, Result, Ok, Err, refl, sym, ap, ◌∙◌, arith, length-append}
use Rattle.std.specs.List.{flat_map}
use Rattle.std.proofs.lemmas.List.{take_all}
use Rattle.dg_columns.specs.declared.layout.TheConstants.{EVENTS_FRONT}
use Rattle.dg_columns.specs.Fronts.{front_of}
use Rattle.dg_columns.proofs.ColumnLawDeltas.{deltas_back}
use Rattle.dg_graph.specs.ColumnGrammar.{delta_in}
use Rattle.dg_graph.specs.Composition.{Delta}
use Rattle.dg_graph.specs.declared.element.Column.{Column}
use Rattle.dg_graph.specs.declared.event.Body.{Body}
use Rattle.dg_graph.specs.declared.event.Body.TheVariants as body
use Rattle.dg_graph.specs.declared.event.Event.{Event}
use Rattle.dg_graph.specs.declared.placed.Placed.{Placed}
use Rattle.dg_graph.specs.Columns.{body_bytes, column_of_body, counted, events_column, placed_bytes, placed_from, placed_in, same_column, value_bytes}
use Rattle.dg_history.specs.declared.node.Key.{Key}
use Rattle.dg_history.specs.declared.node.Key.TheVariants as key
use Rattle.dg_history.specs.History.{History, events_of, names_of}
use Rattle.dg_history.specs.LegalHistory.{IsLegal}
use Rattle.dg_index.specs.IndexRecords.{Exact, closed_list, column_in, exact_column, piece_at, record_among}
use Rattle.dg_fold.specs.Parts.{RecordFits}
use Rattle.dg_records.specs.DeltaFronts.{IsToldByRead, read_of_delta}
use Rattle.dg_records.proofs.DeltaFronts.{deltas_are_told}
use Rattle.dg_fold.proofs.PartColumns.{spelled}
use Rattle.dg_fold.proofs.LegalHistories.{legal_is_indexed}
use Rattle.dg_fold.proofs.RecordFits.{records_fit}
use Rattle.dg_records.specs.ColumnReads.{read_of}

value_long : (v : Option ℕ) → length (value_bytes v) ≡ 4
value_long None = refl
value_long (Some n) = refl

body_short : (b : Body) → length (body_bytes b) ≤ 26
body_short (body.NodeAdded id) = omega arith
body_short (body.NodeRemoved id) = omega arith
body_short (body.EdgeAdded directed id src dst) = omega arith
body_short (body.EdgeRemoved directed id src dst) = omega arith
body_short (body.NodeAttr key id old new) = omega (arith, value_long old, value_long new, length-append (value_bytes old) (value_bytes new))
body_short (body.EdgeAttr key id old new) = omega (arith, value_long old, value_long new, length-append (value_bytes old) (value_bytes new))
body_short (body.Message src dst value) = omega arith

placed_short : (p : Placed) → length (placed_bytes p) ≤ 36
placed_short p = omega (arith, body_short p.event.body)

some_short : (keep : Placed → Bool) (placed : List Placed) → length (flat_map placed_bytes (filter keep placed)) ≤ 36 * length placed
some_short keep [] = omega arith
some_short keep (p ∷ placed) =
    let more = some_short keep placed in
    let one = placed_short p in
    elim (keep p) as (λ b. length (flat_map placed_bytes (cond b (p ∷ filter keep placed) (filter keep placed))) ≤ 36 * length (p ∷ placed)) [
      | true ↦ omega (arith, more, one, length-append (placed_bytes p) (flat_map placed_bytes (filter keep placed)))
      | false ↦ omega (arith, more)
    ]

counted_short : (placed : List Placed) → length (counted placed) ≤ 4 + length (flat_map placed_bytes placed)
counted_short [] = omega arith
counted_short (p ∷ placed) = omega arith

placed_long : (n : ℕ) (events : List Event) → length (placed_from n events) ≡ length events
placed_long n [] = refl
placed_long n (e ∷ events) = omega (arith, placed_long (n + 1) events)

events_short : (col : Column) (events : List Event) → length events ≤ 65536 → length (events_column col events) ≤ EVENTS_FRONT
events_short col events few = omega (arith, few, counted_short (placed_in col events), some_short (λ (p : Placed). same_column (column_of_body p.event.body) col) (placed_from 0 events), placed_long 0 events)

all_read : (col : Column) (events : List Event) → length events ≤ 65536 → front_of (events_column col events) ≡ events_column col events
all_read col events few = take_all EVENTS_FRONT (events_column col events) (events_short col events few)

-- what is read is the whole, where the whole can be decoded
whole_read : {A : Type 0} (decoded : List ℕ → Result A ℕ) (read whole : List ℕ) → IsToldByRead decoded read whole → (x : A) → decoded whole ≡ Ok x → read ≡ whole
whole_read decoded read whole told x e = by (decoded read) refl
  where
    by : (r : Result _ ℕ) → decoded read ≡ r → read ≡ whole
    by (Ok y) is = told.all y is
    by (Err m) is = let f = told.damaged m is in absurd (let clash : Ok x ≡ Err f.0 = sym e ∙ f.1 in cc)

delta_read : (names : ℕ) (col : Column) (d : Delta) → names < 2 ^ 32 → RecordFits names (Exact d) → read_of_delta (exact_column col d) ≡ exact_column col d
delta_read names col d few fits =
    whole_read (delta_in col names) (read_of_delta (exact_column col d)) (exact_column col d) (deltas_are_told col names (exact_column col d)) _
    (ap (delta_in col names) (spelled col d fits.5) ∙ deltas_back col names d few fits.0 fits.1 fits.2 fits.3 fits.4 fits.5)

-- what is read of a column of a record of a history is the column
pub history_read : (z : History) → IsLegal z → (k : Key) (col : Column) → read_of k (column_in z k col) ≡ column_in z k col
history_read z legal k col = by k
  where
    few : length (names_of z) < 2 ^ 32
    few = (legal_is_indexed z legal).0.names_fit

    fit : (k : Key) → RecordFits (length (names_of z)) (record_among z.params (events_of z) z.batches k)
    fit k = let indexed = legal_is_indexed z legal in records_fit (length (names_of z)) z indexed.0.fits indexed.0.few indexed.0.lists indexed.0.short k

    by : (k : Key) → read_of k (column_in z k col) ≡ column_in z k col
    by (key.List i) = all_read col (closed_list z.params (events_of z) i) (fit (key.List i)).0
    by (key.Piece s) = all_read col (piece_at z.params [] z.batches s) (fit (key.Piece s)).0
    by (key.Top h) = delta_read (length (names_of z)) col _ few (fit (key.Top h))
    by (key.Down h c) = delta_read (length (names_of z)) col _ few (fit (key.Down h c))
