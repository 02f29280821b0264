use Rattle.std.proofs.Common.{◌∷◌, length, ◌∙◌, ap}
use Rattle.dg_machine.specs.MachineState.{union_of_sets}
use Rattle.dg_session.specs.SessionState.{SessionState}
use Rattle.dg_session.proofs.SessionPoolStep.{pool_answers}
use Rattle.dg_session.proofs.session.Session.pool_size.Goals as goal

pub returns : goal.returns
returns c = record {
  comes = λ image.
      let live = c.live-live.ensures.live ∙ ap (λ (x : SessionState). length x.parts.table) c.self.view_is in
      let size = c.union_len-size.ensures ∙ ap (λ (x : SessionState). length (union_of_sets (x.parts.graph ∷ x.parts.graphs))) c.self.view_is in
      pool_answers c.args.self.now.parts c.live-live.result c.union_len-size.result image c.headed.result live size c.headed.ensures;
}
