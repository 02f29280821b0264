use Rattle.std.proofs.Common.{◌≡◌, sym, ap, ◌∙◌}
use Rattle.dg_graph.specs.Elements.{has}
use Rattle.dg_graph.specs.Sets.{unioned, without_all}
use Rattle.dg_graph.specs.Composition.{Delta, chained}
use Rattle.dg_delta.proofs.Deltas.{apart_chained}
use Rattle.dg_delta.proofs.delta.Delta.chain.Goals as goal

pub of-requires : goal.of-requires
of-requires c x e =
    let a : Delta = record { minus = c.self.inside.minus; plus = c.self.inside.plus } in
    let b : Delta = record { minus = c.later.inside.minus; plus = c.later.inside.plus } in
    let minus : c.in_ok-minus.minus ≡ (chained a b).minus = c.in_ok-minus.ensures.value ∙ ap (unioned (without_all a.minus b.plus)) c.in_ok-new_minus.ensures.value in
    let plus : c.in_ok-plus.plus ≡ (chained a b).plus = c.in_ok-plus.ensures.value ∙ ap (unioned (without_all a.plus b.minus)) c.in_ok-new_plus.ensures.value in
    ap (λ s. has s x) plus ∙ apart_chained a b c.self.invariant.apart c.later.invariant.apart x (sym (ap (λ s. has s x) minus) ∙ e)
