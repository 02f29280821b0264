use Rattle.std.proofs.Common.{◌∙◌, sym, subst}
use Rattle.dg_graph.specs.Elements.{IsSet}
use Rattle.dg_set.specs.Apart.{AreApart}
use Rattle.dg_net.proofs.EventMarks.{rises_sorted, lasts_keep}
use Rattle.dg_net.proofs.marks.net_of_sorted.Goals as goal

pub from_rising-requires : goal.from_rising-requires
from_rising-requires c =
    subst IsSet (sym c.in_ok-minus.ensures.out) (lasts_keep c.args.marks.now (rises_sorted c.args.marks.now c.requires)).out

pub from_rising-requires-2 : goal.from_rising-requires-2
from_rising-requires-2 c =
    subst IsSet (sym c.in_ok-minus.ensures.into) (lasts_keep c.args.marks.now (rises_sorted c.args.marks.now c.requires)).into

pub of-requires : goal.of-requires
of-requires c =
    let k = lasts_keep c.args.marks.now (rises_sorted c.args.marks.now c.requires) in
    let minus = c.from_rising.ensures ∙ c.in_ok-minus.ensures.out in
    let plus = c.from_rising-2.ensures ∙ c.in_ok-minus.ensures.into in
    subst (λ s. AreApart s c.from_rising-2.result) (sym minus) (subst (AreApart _) (sym plus) k.apart)
