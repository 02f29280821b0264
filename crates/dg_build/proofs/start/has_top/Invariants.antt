use Rattle.std.proofs.Common.{◌↔◌}
use Rattle.dg_build.specs.OlderSteps.{IsTopDue}
use Rattle.dg_build.proofs.start.has_top.Given as goal

abbrev pub decreases-loop-end : goal.decreases-loop-end
decreases-loop-end l = l.end

abbrev pub invariant-loop-end : goal.invariant-loop-end
invariant-loop-end l = IsTopDue l.k l.m l.after ↔ IsTopDue l.k l.q l.end
