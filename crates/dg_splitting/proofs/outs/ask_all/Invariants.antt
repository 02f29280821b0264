use Rattle.dg_splitting.proofs.OutLists.{IsUpTo}
use Rattle.dg_splitting.proofs.OutsAsked.{Asked}
use Rattle.dg_splitting.proofs.outs.ask_all.Given as goal

abbrev pub invariant-loop-number : goal.invariant-loop-number
invariant-loop-number g l = IsUpTo (Asked g.D.Disk) l.fn.outs l.outs l.number
