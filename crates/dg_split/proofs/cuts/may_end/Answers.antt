use Rattle.std.proofs.Common.{arith}
use Rattle.dg_split.proofs.CutEvents.{may_end_at}
use Rattle.dg_split.proofs.cuts.may_end.Goals as goal

pub returns-else-count-events : goal.returns-else-count-events
returns-else-count-events c = may_end_at c.args.events.now c.args.count _ c.requires.some (omega (arith, c.requires.within, c.if-count-events.false))
