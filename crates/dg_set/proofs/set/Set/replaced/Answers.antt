use Rattle.std.proofs.Common.{subst, sym, ap, ◌∙◌, ◌||◌}
use Rattle.dg_graph.specs.Elements.{IsSet, has}
use Rattle.dg_graph.specs.Sets.{unioned, without_all}
use Rattle.dg_graph.proofs.Sets.{has-unioned, has-without_all, IsSet-unioned, IsSet-without_all}
use Rattle.dg_set.proofs.set.Set.replaced.Goals as goal

pub invariant_of-result : goal.invariant_of-result
invariant_of-result c =
    let set = c.deref.result.now in
    let lost = c.deref-2.result.now in
    let gained = c.deref-3.result.now in
    let set_ok = subst IsSet (sym c.deref.ensures.value) c.self.invariant in
    subst IsSet (sym c.in_ok-items.ensures) (IsSet-unioned (without_all set lost) gained (IsSet-without_all set lost set_ok))

pub returns-clause-members : goal.returns-clause-members
returns-clause-members c x =
    let set = c.args.self.now in
    let lost = c.args.out.now in
    let gained = c.args.into.now in
    let was = c.deref.ensures.value ∙ c.self.view_is in
    let out = c.deref-2.ensures.value ∙ c.out.view_is in
    let into = c.deref-3.ensures.value ∙ c.into.view_is in
    ap (λ l. has l x) (c.in_ok-items.ensures ∙ (λ i. unioned (without_all (was i) (out i)) (into i)))
    ∙ has-unioned (without_all set lost) gained x
    ∙ ap (λ t. t || has gained x) (has-without_all set lost x)
