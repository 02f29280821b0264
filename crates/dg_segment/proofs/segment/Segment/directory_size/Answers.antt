use Rattle.std.proofs.Common.{◌≡◌, ◌+◌, ◌*◌, length, ap, ◌∙◌, arith}
use Rattle.std.proofs.lemmas.List.{length-map}
use Rattle.dg_index.specs.FileOfHistory.{Segment, blobs, directory}
use Rattle.dg_index.specs.OpenedIndex.{lengths_size, list_size}
use Rattle.dg_segment.specs.PackedRecords.{stored_row}
use Rattle.dg_segment.specs.SegmentParts.{segment_in}
use Rattle.dg_segment.proofs.SegmentPartSizes.{parts_directory, parts_most, segment_size}
use Rattle.dg_segment.proofs.segment.Segment.directory_size.Goals as goal

pub returns-clause-size : goal.returns-clause-size
returns-clause-size c =
    let w = c.args.wide in
    let s = c.self.inside in
    let rows : c.rows_size.result ≡ list_size w * length s.lists + lengths_size w * length s.deltas + lengths_size w =
    c.rows_size.ensures.size
    ∙ (λ i. list_size w * (ap length c.rows.ensures.rows ∙ length-map s.lists stored_row) i + lengths_size w * (ap length c.rows-2.ensures.rows ∙ length-map s.deltas stored_row) i + lengths_size w) in
    omega (arith, parts_directory w s, ap (λ (v : Segment). length (directory w v)) c.self.view_is, ap length c.bytes.ensures, rows)

pub returns-clause-small : goal.returns-clause-small
returns-clause-small c =
    let w = c.args.wide in
    let s = c.self.inside in
    let rows : c.rows_size.result ≡ list_size w * length s.lists + lengths_size w * length s.deltas + lengths_size w =
    c.rows_size.ensures.size
    ∙ (λ i. list_size w * (ap length c.rows.ensures.rows ∙ length-map s.lists stored_row) i + lengths_size w * (ap length c.rows-2.ensures.rows ∙ length-map s.deltas stored_row) i + lengths_size w) in
    omega (arith, c.self.invariant.small, parts_most w s, segment_size w (segment_in s), parts_directory w s, ap (λ (v : Segment). length (blobs v)) c.self.view_is, ap length c.bytes.ensures, rows)
