-- The columns of a record that is read as events are those of these events.
use Rattle.std.proofs.Common.{◌≡◌, ℕ, suc, ◌+◌, ◌≤◌, ◌<◌, Bool, true, false, cond, List, [], ◌∷◌, ◌++◌, length, drop, filter, map, Option, Some, None, Result, Ok, Err, refl, ap, ◌∙◌, arith}
use Rattle.std.specs.Prelude.{◌==◌, option_and_then}
use Rattle.std.proofs.lemmas.Bool.{eqb-true}
use Rattle.std.proofs.lemmas.List.Elements.{All-take, All-drop}
use Rattle.dg_graph.specs.declared.element.Column.{Column}
use Rattle.dg_graph.specs.declared.element.Column.TheVariants as column
use Rattle.dg_graph.specs.declared.event.Body.{Body}
use Rattle.dg_graph.specs.declared.event.Body.TheVariants as body
use Rattle.dg_graph.specs.declared.event.Event.{Event}
use Rattle.dg_graph.specs.declared.placed.Placed.{Placed}
use Rattle.dg_graph.specs.ColumnGrammar.{events_in as read_as_events}
use Rattle.dg_graph.specs.ColumnMerge.{at_positions, if_never_fall, merged, never_fall}
use Rattle.dg_graph.specs.Columns.{counted, events_column, placed_in}
use Rattle.dg_history.specs.LegalHistory.{FitsBody, FitsEvent}
use Rattle.dg_history.specs.declared.node.Key.{Key}
use Rattle.dg_index.specs.OpenedIndex.{Opened, column_at, entry_at}
use Rattle.dg_index.specs.declared.entry.Entry.{Entry}
use Rattle.dg_index.proofs.IndexRecordColumns.{Each}
use Rattle.dg_columns.specs.ColumnLaws.{AreBytes, EventsHaveOneSpelling}
use Rattle.dg_columns.specs.Ranges.{BodyFits, EventsFit}
use Rattle.dg_columns.specs.ReadFits.{EventsThatAreReadFit, PlacedFit}
use Rattle.dg_sound.specs.OwnEvents.{and_own, spelled_or, placed_in_column, merged_or, events_of_record}
use Rattle.dg_sound_files.proofs.ImageTextNames.{then_is, some_is}
use Rattle.dg_sound_files.proofs.ColumnMergeEvents.{stands_in, unmerged}

-- ---- results

pub ok_same : {A E : Type 0} (x y : A) → (let r : Result A E = Ok x in r) ≡ Ok y → x ≡ y
ok_same x y e = cc

pub and_then_is : {A B E : Type 0} (r : Result A E) (next : A → Result B E) (y : B) → and_own r next ≡ Ok y → (x : A) × (r ≡ Ok x) × (next x ≡ Ok y)
and_then_is (Ok x) next y e = (x, refl, e)
and_then_is (Err f) next y e = absurd cc

spelled_is : (col : Column) (r : Result (List Placed) ℕ) (placed : List Placed) → spelled_or col r ≡ Ok placed → r ≡ Ok placed
spelled_is col (Ok xs) placed e = ap (λ (l : List Placed). Ok l) (ok_same xs placed e)
spelled_is col (Err offset) placed e = absurd cc

merged_is : (o : Option (List Event)) (events : List Event) → merged_or o ≡ Ok events → o ≡ Some events
merged_is (Some xs) events e = ap (λ (l : List Event). Some l) (ok_same xs events e)
merged_is None events e = absurd cc

-- ---- what fits

fits_body : (names : ℕ) (b : Body) → BodyFits names b → FitsBody names b
fits_body names (body.NodeAdded id) h = h
fits_body names (body.NodeRemoved id) h = h
fits_body names (body.EdgeAdded directed id src dst) h = h
fits_body names (body.EdgeRemoved directed id src dst) h = h
fits_body names (body.NodeAttr key id old new) h = (h.id_fits, h.key_fits, h.old_fits, h.new_fits)
fits_body names (body.EdgeAttr key id old new) h = (h.id_fits, h.key_fits, h.old_fits, h.new_fits)
fits_body names (body.Message src dst value) h = h

fits_each : (names earliest : ℕ) (placed : List Placed) → EventsFit names earliest (map (λ (p : Placed). p.event) placed) → Each (λ (p : Placed). FitsEvent names p.event) placed
fits_each names earliest [] h = tt
fits_each names earliest (p ∷ placed) h = ((h.0.not_after, fits_body names p.event.body h.0.fits), fits_each names p.event.time placed h.1)

passing_few : (q : Placed → Bool) (xs : List Placed) → length (filter q xs) ≤ length xs
passing_few q [] = omega arith
passing_few q (x ∷ xs) = by (passing_few q xs) (q x)
  where
    by : length (filter q xs) ≤ length xs → (b : Bool) → length (cond b (x ∷ filter q xs) (filter q xs)) ≤ suc (length xs)
    by more true = omega (arith, more)
    by more false = omega (arith, more)

all_pass : (q : Placed → Bool) (xs : List Placed) → filter q xs ≡ xs → Each (λ (p : Placed). q p ≡ true) xs
all_pass q [] e = tt
all_pass q (x ∷ xs) e = by (λ e. all_pass q xs e) (q x) refl e
  where
    by : (filter q xs ≡ xs → Each (λ (p : Placed). q p ≡ true) xs) → (b : Bool) → q x ≡ b → cond b (x ∷ filter q xs) (filter q xs) ≡ x ∷ xs → (q x ≡ true) × Each (λ (p : Placed). q p ≡ true) xs
    by more true is e = (is, more (let rest : filter q xs ≡ xs = cc in rest))
    by more false is e = absurd (omega (arith, ap length e, passing_few q xs))

-- ---- a record

pub column_bytes : (image : List ℕ) (e : Entry) (col : Column) → AreBytes image → AreBytes (column_at image e col)
column_bytes image e column.Structure all = All-take (λ b. b < 256) e.lengths.structure (drop e.offset image) (All-drop (λ b. b < 256) e.offset image all)
column_bytes image e column.NodeAttr all =
    All-take (λ b. b < 256) e.lengths.node_attrs (drop (e.offset + e.lengths.structure) image) (All-drop (λ b. b < 256) (e.offset + e.lengths.structure) image all)
column_bytes image e column.EdgeAttr all =
    All-take (λ b. b < 256) e.lengths.edge_attrs (drop (e.offset + e.lengths.structure + e.lengths.node_attrs) image) (All-drop (λ b. b < 256) (e.offset + e.lengths.structure + e.lengths.node_attrs) image all)
column_bytes image e column.Transient all =
    All-take (λ b. b < 256) e.lengths.transient (drop (e.offset + e.lengths.structure + e.lengths.node_attrs + e.lengths.edge_attrs) image)
    (All-drop (λ b. b < 256) (e.offset + e.lengths.structure + e.lengths.node_attrs + e.lengths.edge_attrs) image all)

-- what is known of the events that a record is read as
pub record AreOf (image : List ℕ) (x : Opened) (k : Key) (size : ℕ) (events : List Event) : Type 0 where
  pub columns : (col : Column) → column_at image (entry_at x.index k) col ≡ events_column col events
  pub count : length events ≡ size
  pub fit : Each (FitsEvent (length x.names)) events

if_same : {A : Type 0} (b : Bool) (o : Option A) (y : A) → cond b o None ≡ Some y → (b ≡ true) × (o ≡ Some y)
if_same true o y e = (refl, e)
if_same false o y e = absurd cc

in_time : (xs events : List Event) → if_never_fall xs ≡ Some events → xs ≡ events
in_time xs events e = some_is xs events (if_same (never_fall 0 xs) (Some xs) events e).1

turned : (o : Option (List Event)) (xs events : List Event) → o ≡ Some xs → xs ≡ events → o ≡ Some events
turned o xs events e is = e ∙ ap (λ (l : List Event). Some l) is

counted_as : (bytes : List ℕ) (placed others : List Placed) → bytes ≡ counted placed → placed ≡ others → bytes ≡ counted others
counted_as bytes placed others e is = e ∙ ap counted is

module _ (spelled : EventsHaveOneSpelling) (fit : EventsThatAreReadFit) (image : List ℕ) (x : Opened) (all : AreBytes image) where
  record ColumnRead (k : Key) (col : Column) (placed : List Placed) : Type 0 where
    text : column_at image (entry_at x.index k) col ≡ counted placed
    fits : PlacedFit col (length x.names) 0 0 placed

  column_read : (k : Key) (col : Column) (placed : List Placed) → placed_in_column image x k col ≡ Ok placed → ColumnRead k col placed
  column_read k col placed e =
      let bytes = column_bytes image (entry_at x.index k) col all in
      let read = spelled_is col (read_as_events col (length x.names) (column_at image (entry_at x.index k) col)) placed e in
      record {
        text = spelled col (length x.names) (column_at image (entry_at x.index k) col) placed bytes read;
        fits = fit col (length x.names) (column_at image (entry_at x.index k) col) placed bytes read;
      }

  -- the four columns by what each is
  abbrev by_column : List Placed → List Placed → List Placed → List Placed → Column → List Placed
  by_column a b c d column.Structure = a
  by_column a b c d column.NodeAttr = b
  by_column a b c d column.EdgeAttr = c
  by_column a b c d column.Transient = d

  pub events_are_of : (k : Key) (count : ℕ) (events : List Event) → events_of_record image x k count ≡ Ok events → AreOf image x k count events
  events_are_of k count events e =
      let a = and_then_is (placed_in_column image x k column.Structure) (λ a. and_own (placed_in_column image x k column.NodeAttr) (λ b. and_own (placed_in_column image x k column.EdgeAttr) (λ c. and_own (placed_in_column image x k column.Transient) (λ d. merged_or (merged a b c d count))))) events e in
      let b = and_then_is (placed_in_column image x k column.NodeAttr) (λ b. and_own (placed_in_column image x k column.EdgeAttr) (λ c. and_own (placed_in_column image x k column.Transient) (λ d. merged_or (merged a.0 b c d count)))) events a.2 in
      let c = and_then_is (placed_in_column image x k column.EdgeAttr) (λ c. and_own (placed_in_column image x k column.Transient) (λ d. merged_or (merged a.0 b.0 c d count))) events b.2 in
      let d = and_then_is (placed_in_column image x k column.Transient) (λ d. merged_or (merged a.0 b.0 c.0 d count)) events c.2 in
      let parts : Column → List Placed = by_column a.0 b.0 c.0 d.0 in
      let read : (col : Column) → ColumnRead k col (by_column a.0 b.0 c.0 d.0 col) = reads k a.0 b.0 c.0 d.0 a.1 b.1 c.1 d.1 in
      let all : List Placed = a.0 ++ b.0 ++ c.0 ++ d.0 in
      let m = if_same (length all == count) (option_and_then if_never_fall (at_positions count 0 all)) events (merged_is (merged a.0 b.0 c.0 d.0 count) events d.2) in
      let f = then_is if_never_fall (at_positions count 0 all) events m.1 in
      let found = turned (at_positions count 0 all) f.0 events f.1 (in_time f.0 events f.2) in
      let u = unmerged (FitsEvent (length x.names)) count 0 parts events (eqb-true (length all) count m.0) (λ col. (read col).fits.positions)
      (λ col. all_pass (stands_in col) (parts col) (read col).fits.inside) (λ col. fits_each (length x.names) 0 (parts col) (read col).fits.events) found in
      record { columns = λ col. counted_as (column_at image (entry_at x.index k) col) (parts col) (placed_in col events) (read col).text (u.0.columns col); count = u.1; fit = u.0.each }
    where
      reads : (k : Key) (a b c d : List Placed) → placed_in_column image x k column.Structure ≡ Ok a → placed_in_column image x k column.NodeAttr ≡ Ok b → placed_in_column image x k column.EdgeAttr ≡ Ok c → placed_in_column image x k column.Transient ≡ Ok d
          → (col : Column) → ColumnRead k col (by_column a b c d col)
      reads k a b c d ra rb rc rd column.Structure = column_read k column.Structure a ra
      reads k a b c d ra rb rc rd column.NodeAttr = column_read k column.NodeAttr b rb
      reads k a b c d ra rb rc rd column.EdgeAttr = column_read k column.EdgeAttr c rc
      reads k a b c d ra rb rc rd column.Transient = column_read k column.Transient d rd
