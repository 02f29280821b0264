use Rattle.std.proofs.Common.{sym, ap, ◌∙◌}
use Rattle.dg_index.specs.FileOfHistory.{Segment, list_blobs}
use Rattle.dg_segment.proofs.SegmentPartSizes.{list_columns}
use Rattle.dg_segment.proofs.segment.Segment.list_columns.Goals as goal

pub returns : goal.returns
returns c =
    c.columns.ensures ∙ sym (list_columns c.self.inside.lists) ∙ ap (λ (v : Segment). list_blobs v.lists) c.self.view_is
