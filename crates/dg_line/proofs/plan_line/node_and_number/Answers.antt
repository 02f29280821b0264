use Rattle.std.proofs.Common.{sym, ◌∙◌}
use Rattle.dg_line.proofs.plan_line.node_and_number.Goals as goal

pub returns-in-None : goal.returns-in-None
returns-in-None c = λ make.
    sym (c.in-None.ensures make)

pub returns-in-None-only_time : goal.returns-in-None-only_time
returns-in-None-only_time c = λ make.
    c.in-None-only_time.ensures (make c.in-Some.found) ∙ sym (c.in-Some.ensures make)

pub returns : goal.returns
returns c = λ make. c.in-Some-only_time.ensures (make c.in-Some.found) ∙ sym (c.in-Some.ensures make)
