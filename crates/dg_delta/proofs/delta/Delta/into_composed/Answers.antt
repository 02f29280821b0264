use Rattle.std.proofs.Common.{◌≡◌, sym, ap, ◌∙◌}
use Rattle.dg_graph.specs.Elements.{has}
use Rattle.dg_graph.specs.Composition.{Delta}
use Rattle.dg_delta.specs.Deltas.{composed}
use Rattle.dg_delta.proofs.Deltas.{apart_composed, composes_by}
use Rattle.dg_delta.proofs.delta.Delta.into_composed.Goals as goal

pub of-requires : goal.of-requires
of-requires c x e =
    let a : Delta = record { minus = c.self.inside.minus; plus = c.self.inside.plus } in
    let b : Delta = record { minus = c.later.inside.minus; plus = c.later.inside.plus } in
    ap (λ s. has s x) c.in_ok-plus.ensures
    ∙ apart_composed a b c.self.invariant.apart c.later.invariant.apart x (sym (ap (λ s. has s x) c.in_ok-minus.ensures) ∙ e)

pub returns-clause-composes : goal.returns-clause-composes
returns-clause-composes c =
    let minus = c.in_ok-minus.ensures in
    let plus = c.in_ok-plus.ensures in
    let d : Delta = c.of.result in
    let is : d ≡ composed c.args.self c.args.later.now =
    c.of.ensures ∙ (λ i. record { minus = minus i; plus = plus i }) ∙ (λ i. composed (c.self.view_is i) (c.later.view_is i)) in
    composes_by d c.args.self c.args.later.now is
