use Rattle.std.proofs.Common.{length}
use Rattle.dg_messages.proofs.MessagesBehind.{ToldBack}
use Rattle.dg_messages.proofs.hearing.told_behind.Given as goal

abbrev pub invariant-loop-set : goal.invariant-loop-set
invariant-loop-set l = ToldBack l.fn.leads.writings.items l.fn.heard.instants.items l.fn.heard.sets.items l.rest.items l.times l.writings.items

abbrev pub decreases-loop-set : goal.decreases-loop-set
decreases-loop-set l = length l.rest.items
