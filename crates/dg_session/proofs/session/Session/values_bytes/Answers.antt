use Rattle.std.proofs.Common.{ap, sym, ◌∙◌}
use Rattle.dg_session.proofs.SessionIndexStep.{bytes_are}
use Rattle.dg_session.specs.SessionState.{SessionState}
use Rattle.dg_stored.specs.StoredHistory.{index_opening}
use Rattle.dg_session.proofs.session.Session.values_bytes.Goals as goal

pub returns : goal.returns
returns c =
    λ image m s. c.values_bytes.ensures
    ∙ bytes_are c.law_images_have_values.ensures c.args.self.now.parts c.in-Some.index.opening (sym (ap (λ (x : SessionState). x.parts.index) c.self.view_is) ∙ ap index_opening c.in-Some.is) image m s
