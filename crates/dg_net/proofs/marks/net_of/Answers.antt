use Rattle.std.proofs.Common.{sym, subst}
use Rattle.std.proofs.lemmas.Result.{IfOk-weaker}
use Rattle.std.specs.List.Sorted.{IsSortedBy, IsStableBy}
use Rattle.dg_net.specs.EventMarks.{earlier}
use Rattle.dg_net.proofs.EventMarks.{net_is}
use Rattle.dg_net.proofs.marks.net_of.Goals as goal

pub returns : goal.returns
returns c =
    let marks = c.deref.result.now in
    IfOk-weaker c.net_of_sorted.result _ _
    (λ d is. net_is d c.args.marks.items marks (subst (IsSortedBy earlier) (sym c.deref.ensures.value) c.in_ok-sort.ensures.sorted)
    (subst (IsStableBy earlier c.args.marks.items) (sym c.deref.ensures.value) c.sort.ensures.stable) is)
    c.net_of_sorted.ensures
