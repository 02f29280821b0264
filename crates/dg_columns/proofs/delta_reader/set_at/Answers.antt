use Rattle.std.proofs.Common.{sym, subst, None}
use Rattle.dg_set.specs.Apart.{AreApart}
use Rattle.dg_columns.proofs.FieldElements.{elements_keep}
use Rattle.dg_columns.proofs.delta_reader.set_at.Goals as goal

pub from_rising-requires : goal.from_rising-requires
from_rising-requires c =
    (elements_keep c.args.count c.args.col c.args.name_count c.args.bytes.now c.args.others.now c.args.start None c.in_ok-items.items.items c.in_ok-items.end c.in_ok-items.ensures.elements).set

pub returns-clause-apart : goal.returns-clause-apart
returns-clause-apart c =
    let kept = elements_keep c.args.count c.args.col c.args.name_count c.args.bytes.now c.args.others.now c.args.start None c.in_ok-items.items.items c.in_ok-items.end c.in_ok-items.ensures.elements in
    subst (AreApart c.args.others.now) (sym c.from_rising.ensures) kept.apart
