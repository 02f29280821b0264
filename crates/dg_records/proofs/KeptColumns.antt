-- What is read of a column that an index keeps, and how many bytes.
use Rattle.std.proofs.Common.{◌≡◌, ℕ, ◌+◌, ◌≤◌, true, false, cond, List, length, drop, take, Option, Some, None, Result, Ok, Err, refl, sym, ap, ◌∙◌, subst, arith}
use Rattle.std.specs.Prelude.{IfSome, IsErr, IsErrAnd, is_some}
use Rattle.std.specs.Map.{lookup}
use Rattle.std.specs.Option.{ForSome}
use Rattle.std.proofs.lemmas.Bool.{false≢true}
use Rattle.std.proofs.lemmas.List.{length-drop, length-take, length-take-le}
use Rattle.dg_catalogue.specs.Entries.{column_length_in}
use Rattle.dg_columns.specs.declared.layout.TheConstants.{EVENTS_FRONT}
use Rattle.dg_columns.specs.Fronts.{IsToldByFront, front_of}
use Rattle.dg_file.specs.Images.{IsOpenedAs}
use Rattle.dg_file.proofs.ImageColumns.{record_there}
use Rattle.dg_graph.specs.ColumnGrammar.{events_in}
use Rattle.dg_graph.specs.declared.element.Column.{Column}
use Rattle.dg_graph.specs.declared.element.Column.TheVariants.{Structure, NodeAttr, EdgeAttr, Transient}
use Rattle.dg_graph.specs.declared.placed.Placed.{Placed}
use Rattle.dg_history.specs.declared.node.Key.{Key}
use Rattle.dg_history.specs.Keys.{same_key}
use Rattle.dg_index.specs.declared.entry.Entry.{Entry}
use Rattle.dg_index.specs.OpenedIndex.{Opening, column_at, entry_at, entry_or_none, total}
use Rattle.dg_records.specs.DeltaFronts.{counts_fit, read_of_delta}
use Rattle.dg_records.proofs.DeltaFronts.{events_are_told}
use Rattle.dg_records.specs.ColumnReads.{Takes, TakesAtMost, TakesOrFails, is_events, kept_in, read_of}

-- ---- the events of a column

-- What was read tells what the whole column is read as: of one of events its front does.
module _ (names : ℕ) (k : Key) (col : Column) (bytes whole : List ℕ) (kept : bytes ≡ read_of k whole) (tells : bytes ≡ front_of whole → IsToldByFront col names bytes whole) where
  pub is_whole : (placed : List Placed) → events_in col names bytes ≡ Ok placed → bytes ≡ whole
  is_whole placed read =
      elim (is_events k) as (λ b. bytes ≡ cond b (front_of whole) (read_of_delta whole) → bytes ≡ whole) [
        | true ↦ λ is. (tells is).all placed read
        | false ↦ λ is. is ∙ (events_are_told col names whole).all placed (ap (events_in col names) (sym is) ∙ read)
      ] kept

  pub whole_read : (placed : List Placed) → events_in col names bytes ≡ Ok placed → events_in col names whole ≡ Ok placed
  whole_read placed read = ap (events_in col names) (sym (is_whole placed read)) ∙ read

  pub whole_damaged : (n : ℕ) → events_in col names bytes ≡ Err n → (m : ℕ) × (events_in col names whole ≡ Err m)
  whole_damaged n read =
      elim (is_events k) as (λ b. bytes ≡ cond b (front_of whole) (read_of_delta whole) → (m : ℕ) × (events_in col names whole ≡ Err m)) [
        | true ↦ λ is. (tells is).damaged n read
        | false ↦ λ is. (events_are_told col names whole).damaged n (ap (events_in col names) (sym is) ∙ read)
      ] kept

-- ---- how long a column is

-- what holds of the entry of a record that is held
pub at_entry : (o : Opening) (k : Key) (P : Entry → Type 0) → is_some (lookup (same_key k) o.records) ≡ true → IfSome (lookup (same_key k) o.records) P → P (entry_at o k)
at_entry o k P held h = by (lookup (same_key k) o.records) held h
  where
    by : (e : Option Entry) → is_some e ≡ true → IfSome e P → P (entry_or_none e)
    by None some h = absurd (false≢true some)
    by (Some e) some h = h

-- a column of a record that ends within the image is as long as the record tells
column_fits : (col : Column) (e : Entry) (image : List ℕ) → e.offset + total e.lengths ≤ length image → length (column_at image e col) ≡ column_length_in e col
column_fits Structure e image within =
    let offset : ℕ = e.offset in
    length-take-le e.lengths.structure (drop offset image) (omega (arith, within, length-drop offset image))
column_fits NodeAttr e image within =
    let offset : ℕ = e.offset + e.lengths.structure in
    length-take-le e.lengths.node_attrs (drop offset image) (omega (arith, within, length-drop offset image))
column_fits EdgeAttr e image within =
    let offset : ℕ = e.offset + e.lengths.structure + e.lengths.node_attrs in
    length-take-le e.lengths.edge_attrs (drop offset image) (omega (arith, within, length-drop offset image))
column_fits Transient e image within =
    let offset : ℕ = e.offset + e.lengths.structure + e.lengths.node_attrs + e.lengths.edge_attrs in
    length-take-le e.lengths.transient (drop offset image) (omega (arith, within, length-drop offset image))

-- a column of a record that is held is as long as the index tells
pub column_long : (o : Opening) (k : Key) (col : Column) (image : List ℕ) → is_some (lookup (same_key k) o.records) ≡ true → IsOpenedAs image o → length (column_at image (entry_at o k) col) ≡ column_length_in (entry_at o k) col
column_long o k col image held opened = by (lookup (same_key k) o.records) refl held
  where
    by : (e : Option Entry) → lookup (same_key k) o.records ≡ e → is_some e ≡ true → length (column_at image (entry_or_none e) col) ≡ column_length_in (entry_or_none e) col
    by None is some = absurd (false≢true some)
    by (Some e) is some = column_fits col e image (record_there image o k e opened is)

-- no more is read of a column than it has
pub read_short : (k : Key) (whole : List ℕ) → length (read_of k whole) ≤ length whole
read_short k whole =
    elim (is_events k) as (λ b. length (cond b (front_of whole) (read_of_delta whole)) ≤ length whole) [
      | true ↦ omega (arith, length-take EVENTS_FRONT whole)
      | false ↦
          elim (counts_fit (take 8 whole) (length whole)) as (λ b. length (cond b whole (take 8 whole)) ≤ length whole) [ true ↦ omega arith | false ↦ omega (arith, length-take 8 whole) ]
    ]

-- what is known of the image that a disk tells
pub in_image : (told : Option (List ℕ)) (P : List ℕ → Type 0) → IfSome told P → ForSome told P
in_image told P h image is = subst (λ (t : Option (List ℕ)). IfSome t P) is h

-- ---- how many bytes are read

-- what a call hands on is its fault
abbrev pub HandsOn : {A E : Type 0} → Result A E → E → Type 0
HandsOn r fault = IsErr r × IsErrAnd r (λ y. y ≡ fault)

pub fails_with : {A E : Type 0} (r : Result A E) (fault : E) (n before after : ℕ) → HandsOn r fault → TakesAtMost n before after → TakesOrFails r n before after
fails_with (Ok x) fault n before after given f = absurd given.1
fails_with (Err e) fault n before after given f = f

module _ (o : Opening) (k : Key) (col : Column) (image : List ℕ) (held : is_some (lookup (same_key k) o.records) ≡ true) (opened : IsOpenedAs image o) (before after : ℕ) where
  -- no more than the index tells
  pub most_taken : TakesAtMost (length (kept_in image o k col)) before after → TakesAtMost (column_length_in (entry_at o k) col) before after
  most_taken some = omega (arith, some, read_short k (column_at image (entry_at o k) col), column_long o k col image held opened)

  -- as many as it tells, where what is read is the column
  pub all_taken : kept_in image o k col ≡ column_at image (entry_at o k) col → Takes (length (kept_in image o k col)) before after → Takes (column_length_in (entry_at o k) col) before after
  all_taken is some = subst (λ n. Takes n before after) (ap length is ∙ column_long o k col image held opened) some
