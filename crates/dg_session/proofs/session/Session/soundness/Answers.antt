use Rattle.std.proofs.Common.{◌∙◌, sym, ap}
use Rattle.dg_session.specs.SessionState.{SessionState}
use Rattle.dg_session.proofs.VerifiedStep.{sound_over}
use Rattle.dg_session.proofs.session.Session.soundness.Goals as goal
use Rattle.dg_stored.specs.StoredHistory.{index_opening}

pub returns-clause-sound : goal.returns-clause-sound
returns-clause-sound g c =
    sound_over c.args.self.now.parts c.in-Some.index.opening c.self.inside.held.live.history.names (g.D.Disk.image c.args.disk.now) c.verify.result
    (ap (λ (x : SessionState). x.parts.index) (sym c.self.view_is) ∙ ap index_opening c.in-Some.is) (ap (λ (x : SessionState). x.parts.names) c.self.view_is) c.verify.ensures.sound

pub returns-clause-takes : goal.returns-clause-takes
returns-clause-takes g c =
    (c.in-Some.index.opening, ap (λ (x : SessionState). x.parts.index) (sym c.self.view_is) ∙ ap index_opening c.in-Some.is, c.verify.ensures.takes)
