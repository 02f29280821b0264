use Rattle.std.proofs.Common.{sym, ap, ◌∙◌}
use Rattle.dg_index.specs.FileOfHistory.{Segment, delta_blobs}
use Rattle.dg_segment.proofs.SegmentPartSizes.{delta_columns}
use Rattle.dg_segment.proofs.segment.Segment.delta_columns.Goals as goal

pub returns : goal.returns
returns c =
    c.columns.ensures ∙ sym (delta_columns c.self.inside.deltas) ∙ ap (λ (v : Segment). delta_blobs v.deltas) c.self.view_is
