use Rattle.std.proofs.Common.{◌∙◌, sym, subst}
use Rattle.dg_graph.specs.Elements.{IsSet}
use Rattle.dg_set.specs.Apart.{AreApart}
use Rattle.dg_net.proofs.SortedSurplus.{climbs_sorted, IsSet-surplus, surplus_apart}
use Rattle.dg_net.proofs.exact.net_of_sorted.Goals as goal

pub from_rising-requires : goal.from_rising-requires
from_rising-requires c =
    let removed = c.args.removed.now in
    subst IsSet (sym c.in_ok-minus.ensures.first) (IsSet-surplus removed c.args.added.now (climbs_sorted removed c.requires.removed))

pub from_rising-requires-2 : goal.from_rising-requires-2
from_rising-requires-2 c =
    let added = c.args.added.now in
    subst IsSet (sym c.in_ok-minus.ensures.second) (IsSet-surplus added c.args.removed.now (climbs_sorted added c.requires.added))

pub of-requires : goal.of-requires
of-requires c =
    let removed = c.args.removed.now in
    let added = c.args.added.now in
    let apart = surplus_apart removed added (climbs_sorted removed c.requires.removed) (climbs_sorted added c.requires.added) in
    let minus = c.from_rising.ensures ∙ c.in_ok-minus.ensures.first in
    let plus = c.from_rising-2.ensures ∙ c.in_ok-minus.ensures.second in
    subst (λ s. AreApart s c.from_rising-2.result) (sym minus) (subst (AreApart _) (sym plus) apart)
