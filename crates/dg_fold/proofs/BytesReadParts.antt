-- The parts of an image of a history hold the columns of the history's records.
use Rattle.std.proofs.Common.{◌≡◌, true, cond, List, [], ◌∷◌, Option, Some, None, is_some, refl, ap, ◌∙◌, ℕ}
use Rattle.std.specs.List.{All}
use Rattle.std.specs.Map.{lookup}
use Rattle.std.proofs.lemmas.List.Elements.{All-head, All-tail}
use Rattle.dg_graph.specs.declared.element.Column.{Column}
use Rattle.dg_graph.specs.declared.element.Columns.{Columns}
use Rattle.dg_graph.specs.Elements.{asks}
use Rattle.dg_history.specs.declared.node.Key.{Key}
use Rattle.dg_history.specs.History.{History}
use Rattle.dg_history.specs.Keys.{same_key}
use Rattle.dg_index.specs.declared.entry.Entry.{Entry}
use Rattle.dg_index.specs.ImageOfHistory.{IsImageOf}
use Rattle.dg_index.specs.IndexRecords.{column_in}
use Rattle.dg_index.specs.OpenedIndex.{column_at, entry_or_none, opened_of}
use Rattle.dg_index.proofs.IndexRecordColumns.{columns_are_kept}
use Rattle.dg_plan.specs.declared.edge.Way.{Way}
use Rattle.dg_fold.specs.declared.part.Part.{Part}
use Rattle.dg_fold.specs.BytesRead.{AreParts}
use Rattle.dg_fold.specs.Parts.{graph_columns}
use Rattle.dg_fold.specs.HistoryTrees.{KeepsKey, KeptPartsAreTheRecords}
use Rattle.dg_fold.proofs.ColumnFronts.{history_read}
use Rattle.dg_records.specs.ColumnReads.{ColumnBytes, kept_in, read_of}

-- parts of some bytes are parts of others that are the same at these keys
pub parts_alike : (a b : ColumnBytes) (cols : Columns) (named : List (Key × Way)) → All (λ (n : Key × Way). (col : Column) → a n.0 col ≡ b n.0 col) named
    → (parts : List Part) → AreParts a cols named parts → AreParts b cols named parts
parts_alike a b cols [] same [] are = tt
parts_alike a b cols [] same (p ∷ parts) are = absurd are
parts_alike a b cols (n ∷ named) same [] are = absurd are
parts_alike a b cols (n ∷ named) same (p ∷ parts) are =
    let Same = λ (n : Key × Way). (col : Column) → a n.0 col ≡ b n.0 col in
    let here = All-head Same n named same in (
      record {
        key = are.0.key;
        way = are.0.way;
        until = are.0.until;
        columns = λ col. are.0.columns col ∙ ap (λ l. cond (asks (graph_columns cols) col) l []) (here col);
      },
      parts_alike a b cols named (All-tail Same n named same) parts are.1,
    )

module _ (z : History) (image : List ℕ) (is : IsImageOf z image) where
  kept_at : (key : Key) (o : Option Entry) → lookup (same_key key) (opened_of z).index.records ≡ o → is_some o ≡ true
      → (col : Column) → column_at image (entry_or_none o) col ≡ column_in z key col
  kept_at key None there some col = cc
  kept_at key (Some e) there some col = columns_are_kept z image is key e there col

  pub kept_is : (key : Key) → KeepsKey (opened_of z).index key → (col : Column) → kept_in image (opened_of z).index key col ≡ column_in z key col
  kept_is key some col = ap (read_of key) (kept_at key (lookup (same_key key) (opened_of z).index.records) refl some col) ∙ history_read z is.legal key col

  all_kept : (named : List (Key × Way)) → All (λ (n : Key × Way). KeepsKey (opened_of z).index n.0) named
      → All (λ (n : Key × Way). (col : Column) → kept_in image (opened_of z).index n.0 col ≡ column_in z n.0 col) named
  all_kept named keeps k d within = kept_is _ (keeps k d within)

pub kept_parts_are_the_records : KeptPartsAreTheRecords
kept_parts_are_the_records z image is = (
  kept_is z image is,
  λ cols named keeps parts are.
      parts_alike (λ key col. kept_in image (opened_of z).index key col) (λ key col. column_in z key col) cols named (all_kept z image is named keeps) parts are,
)
