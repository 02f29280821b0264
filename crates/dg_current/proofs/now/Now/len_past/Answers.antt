use Rattle.std.proofs.Common.{length, ap, ◌∙◌}
use Rattle.dg_graph.specs.Replay.{replay_from}
use Rattle.dg_current.specs.Now.{NowState}
use Rattle.dg_current.proofs.now.Now.len_past.Goals as goal

pub returns : goal.returns
returns c =
    c.len.ensures ∙ ap length c.self.invariant.comes ∙ ap (λ (s : NowState). length (replay_from s.graph s.pending)) c.self.view_is
