use Rattle.std.proofs.Common.{sym, subst}
use Rattle.std.specs.List.Sorted.{IsPermutation, IsSortedBy}
use Rattle.std.proofs.lemmas.Result.{IfOk-weaker}
use Rattle.dg_graph.specs.Elements.{before}
use Rattle.dg_net.proofs.ExactEventNets.{exact_is}
use Rattle.dg_net.proofs.exact.exact_net.Goals as goal

pub returns : goal.returns
returns c =
    let both = c.in_ok-removed in
    let out = c.deref.result.now in
    let into = c.deref-2.result.now in
    IfOk-weaker c.net_of_sorted.result _ _
    (λ d is. exact_is d c.args.events.now both.removed.items both.added.items out into both.ensures.out both.ensures.into
    (subst (IsPermutation both.removed.items) (sym c.deref.ensures.value) c.sort.ensures.same)
    (subst (IsSortedBy before) (sym c.deref.ensures.value) c.sort.ensures.sorted)
    (subst (IsPermutation both.added.items) (sym c.deref-2.ensures.value) c.sort-2.ensures.same)
    (subst (IsSortedBy before) (sym c.deref-2.ensures.value) c.sort-2.ensures.sorted) is)
    c.net_of_sorted.ensures
