use Rattle.std.proofs.Common.{map, subst, ◌∙◌}
use Rattle.std.specs.List.{All}
use Rattle.dg_graph.specs.Composition.{Composes, IsDelta}
use Rattle.dg_fold.specs.Writings.{written_for}
use Rattle.dg_fold.proofs.WritingCompositions.{composed_is}
use Rattle.dg_fold.proofs.composing.compose_for.Goals as goal

pub returns : goal.returns
returns c =
    composed_is c.in_ok-delta.delta (written_for c.args.target c.args.writings.now) c.minus.ensures.delta
    (subst (All IsDelta) c.in_ok-deltas.ensures.deltas c.in_ok-deltas.ensures.each)
    (subst (Composes c.in_ok-delta.delta) ((λ i. map (λ e. e.now) (c.deref.ensures.value i)) ∙ c.in_ok-deltas.ensures.deltas) c.in_ok-delta.ensures)
