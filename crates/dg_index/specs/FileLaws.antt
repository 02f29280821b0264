-- The laws of images and of segments.
use Rattle.std.specs.Prelude.{◌≡◌, List, ℕ, true, Ok, Some, ◌∷◌, ◌++◌, length}
use Rattle.std.specs.Map.{lookup}
use Rattle.dg_history.specs.Keys.{same_key}
use Rattle.dg_history.specs.declared.node.Key.{Key}
use Rattle.dg_graph.specs.declared.element.Column.{Column}
use Rattle.dg_index.specs.IndexRecords.{column_in}
use Rattle.dg_history.specs.History.{History, Batch, with_batch, with_upgrade, events_of, is_form, is_wide}
use Rattle.dg_history.specs.declared.form.Form.TheVariants as form
use Rattle.dg_index.specs.ImageOfHistory.{IsImageOf}
use Rattle.dg_index.specs.declared.entry.Entry.{Entry}
use Rattle.dg_index.specs.OpenedIndex.{column_at, opening, opened_of, with_marker, with_segment}
use Rattle.dg_index.specs.FileOfHistory.{file, marker, segment_bytes, segment_of}

abbrev pub ImagesAreOpened : Type 0
ImagesAreOpened = (z : History) (image : List ℕ) → IsImageOf z image → opening image ≡ Ok (opened_of z)

abbrev pub BatchesAreAdded : Type 0
BatchesAreAdded =
    (z : History) (b : Batch) → is_form z.form z.params.function (length z.batches) ≡ true
    → opened_of (with_batch z b) ≡ with_segment (opened_of z) (segment_of z.params (events_of z) b)

abbrev pub UpgradesAreAdded : Type 0
UpgradesAreAdded = (z : History) → z.form ≡ form.One → opened_of (with_upgrade z) ≡ with_marker (opened_of z)

abbrev pub FilesGrow : Type 0
FilesGrow =
    (z : History) (b : Batch) → is_form z.form z.params.function (length z.batches) ≡ true
    → file (with_batch z b) ≡ file z ++ (1 ∷ segment_bytes (is_wide z.form) (segment_of z.params (events_of z) b))

abbrev pub FilesUpgrade : Type 0
FilesUpgrade = (z : History) → z.form ≡ form.One → file (with_upgrade z) ≡ file z ++ (1 ∷ marker)

abbrev pub ColumnsAreKept : Type 0
ColumnsAreKept =
    (z : History) (image : List ℕ) → IsImageOf z image → (k : Key) (e : Entry) → lookup (same_key k) (opened_of z).index.records ≡ Some e
    → (col : Column) → column_at image e col ≡ column_in z k col
