use Rattle.std.proofs.Common.{sym, ap, ◌∙◌}
use Rattle.dg_graph.specs.Elements.{has}
use Rattle.dg_delta.proofs.Deltas.{apart_between}
use Rattle.dg_delta.proofs.delta.Delta.between.Goals as goal

pub of-requires : goal.of-requires
of-requires c x e =
    ap (λ s. has s x) c.in_ok-minus.ensures.second
    ∙ apart_between c.args.a.now c.args.b.now x (sym (ap (λ s. has s x) c.in_ok-minus.ensures.first) ∙ e)
