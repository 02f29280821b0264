use Rattle.std.proofs.Common.{subst, sym, ap, ◌∙◌}
use Rattle.dg_graph.specs.Elements.{IsSet, has}
use Rattle.dg_graph.specs.Sets.{met}
use Rattle.dg_graph.proofs.Sets.{has-met, IsSet-met}
use Rattle.dg_set.proofs.set.Set.meet.Goals as goal

pub invariant_of-result : goal.invariant_of-result
invariant_of-result c =
    let left = c.deref.result.now in
    let right = c.deref-2.result.now in
    let left_set = subst IsSet (sym c.deref.ensures.value) c.self.invariant in
    subst IsSet (sym c.in_ok-items.ensures) (IsSet-met left right left_set)

pub returns-clause-members : goal.returns-clause-members
returns-clause-members c x =
    let left = c.deref.ensures.value ∙ c.self.view_is in
    let right = c.deref-2.ensures.value ∙ c.other.view_is in
    ap (λ l. has l x) (c.in_ok-items.ensures ∙ (λ i. met (left i) (right i)))
    ∙ has-met c.args.self.now c.args.other.now x
