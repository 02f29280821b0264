use Rattle.std.proofs.Common.{◌≡◌, ◌*◌, ◌^◌}
use Rattle.dg_ask.proofs.plans.have_leaves.Given as goal

abbrev pub invariant-loop : goal.invariant-loop
invariant-loop l = l.width ≡ l.count * l.arity ^ l.counter
