use Rattle.std.proofs.Common.{◌-◌, take, sym, ap, ◌∙◌, subst, arith}
use Rattle.std.proofs.lemmas.List.{take_at}
use Rattle.dg_graph.specs.Elements.{IsSet}
use Rattle.dg_graph.proofs.Sets.{IsSet-unioned, IsSet-without_all}
use Rattle.dg_set.proofs.set.Set.into_replaced.Goals as goal

pub invariant_of-result : goal.invariant_of-result
invariant_of-result c =
    let left = c.len-left.result - 0 in
    let were = ap (take left) c.in_ok-extend_from_slice.ensures.items ∙ take_at c.self.inside.items.items _ left (omega arith) in
    let kept = IsSet-without_all _ c.deref-2.result.now (subst IsSet (sym were) c.self.invariant) in
    subst IsSet (sym c.replace_within.ensures) (IsSet-unioned _ c.deref-3.result.now kept)
