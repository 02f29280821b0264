use Rattle.std.proofs.Common.{true, length, ap, arith}
use Rattle.dg_index.specs.FileOfHistory.{Segment, blobs}
use Rattle.dg_segment.proofs.SegmentPartSizes.{parts_blobs, parts_size}
use Rattle.dg_segment.proofs.segment.Segment.columns_size.Goals as goal

pub overflow_add-result-2 : goal.overflow_add-result-2
overflow_add-result-2 c =
    omega (arith, c.self.invariant.small, parts_size true c.self.inside, ap length c.columns.ensures, ap length c.columns-2.ensures, ap length c.columns-3.ensures)

pub returns : goal.returns
returns c =
    omega (arith, parts_blobs c.self.inside, ap (λ (v : Segment). length (blobs v)) c.self.view_is, ap length c.columns.ensures, ap length c.columns-2.ensures, ap length c.columns-3.ensures)
