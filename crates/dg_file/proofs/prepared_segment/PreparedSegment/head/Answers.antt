use Rattle.std.proofs.Common.{ap, ◌∙◌}
use Rattle.dg_index.specs.FileOfHistory.{head_of}
use Rattle.dg_file.specs.Index.{Prepared}
use Rattle.dg_file.proofs.prepared_segment.PreparedSegment.head.Goals as goal

pub returns : goal.returns
returns c = c.deref.ensures.value ∙ c.self.invariant.1 ∙ ap (λ (v : Prepared). head_of v.wide v.segment) c.self.view_is
