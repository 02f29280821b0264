use Rattle.std.proofs.Common.{◌≡◌, ℕ, Bool, List, ◌++◌, length, map, ap, ◌∙◌}
use Rattle.std.specs.List.{flat_map}
use Rattle.dg_graph.specs.Columns.{four}
use Rattle.dg_index.specs.declared.entry.Row.{Row}
use Rattle.dg_index.specs.FileOfHistory.{Segment, Stored, StoredList, lengths_bytes, list_bytes}
use Rattle.dg_segment.specs.DirectoryParts.{records_text}
use Rattle.dg_segment.specs.RowTexts.{row_text}
use Rattle.dg_segment.specs.SegmentParts.{delta_of, list_of}
use Rattle.dg_segment.proofs.DirectoryPartTexts.{delta_table, list_table, pairs_put, piece_row}
use Rattle.dg_segment.proofs.segment.Segment.put_records.Goals as goal

table : Bool → List Row → List ℕ
table wide rows = four (length rows) ++ flat_map (row_text wide) rows

pub returns : goal.returns
unfolding table
returns c =
    let o : List ℕ = c.args.into.now.items in
    let w = c.args.wide in
    let lists : List StoredList = map list_of c.self.inside.lists in
    let deltas : List Stored = map delta_of c.self.inside.deltas in
    let list_part : table w c.rows.result.now ≡ four (length lists) ++ flat_map (list_bytes w) lists = ap (table w) (c.rows.ensures.rows ∙ c.self.invariant.lists) ∙ list_table w lists in
    let delta_part : table w c.rows-2.result.now ≡ four (length deltas) ++ flat_map (lengths_bytes w) deltas = ap (table w) (c.rows-2.ensures.rows ∙ c.self.invariant.deltas) ∙ delta_table w deltas in
    c.in_ok-put_row.ensures
    ∙ (λ i. (c.in_ok-put_table-2.ensures ∙ (λ j. (c.in_ok-put_table.ensures ∙ ap (λ (l : List ℕ). o ++ l) list_part) j ++ delta_part j)) i ++ (ap (row_text w) c.row.ensures ∙ piece_row w c.self.inside.piece) i)
    ∙ pairs_put o (four (length lists)) (flat_map (list_bytes w) lists) (four (length deltas)) (flat_map (lengths_bytes w) deltas) (lengths_bytes w c.self.inside.piece)
    ∙ ap (λ (v : Segment). o ++ records_text w v) c.self.view_is
