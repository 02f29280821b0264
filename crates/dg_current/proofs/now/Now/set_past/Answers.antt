use Rattle.std.proofs.Common.{◌≡◌, ◌∙◌, List, ap, subst}
use Rattle.std.specs.Result.{IfOk}
use Rattle.dg_graph.specs.declared.element.Element.{Element}
use Rattle.dg_graph.specs.Replay.{replay_from}
use Rattle.dg_current.specs.Now.{NowState}
use Rattle.dg_current.proofs.now.Now.set_past.Goals as goal

pub returns : goal.returns
returns c =
    subst (λ (s : List Element). IfOk c.set.result (λ set. set ≡ s))
    (c.self.invariant.comes ∙ ap (λ (s : NowState). replay_from s.graph s.pending) c.self.view_is) c.set.ensures
