use Rattle.std.proofs.Common.{ap, sym, ◌∙◌}
use Rattle.dg_session.proofs.SessionIntervalStep.{bytes_of_interval}
use Rattle.dg_session.specs.SessionState.{SessionState}
use Rattle.dg_stored.specs.StoredHistory.{index_opening}
use Rattle.dg_session.proofs.session.Session.interval_bytes.Goals as goal

pub returns : goal.returns
returns c =
    let o = c.in-Some.index.opening in
    bytes_of_interval c.args.self.now.parts o c.args.from c.args.until c.args.cols (sym (ap (λ (x : SessionState). x.parts.index) c.self.view_is) ∙ ap index_opening c.in-Some.is)
    _ c.lists_bytes.result c.lists_between-low.ensures.met c.lists_bytes.ensures.along
