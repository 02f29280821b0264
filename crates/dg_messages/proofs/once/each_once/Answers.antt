use Rattle.std.proofs.Common.{arith, ◌+◌, ◌≤◌, ap, drop, length, sym, ◌∙◌}
use Rattle.std.proofs.lemmas.List.{drop_all, drop_more}
use Rattle.dg_messages.specs.Once.{once_behind}
use Rattle.dg_messages.proofs.once.each_once.Goals as goal

pub loop-n-preserved : goal.loop-n-preserved
loop-n-preserved c =
    let times = c.args.times.now in
    ap (λ l. once_behind l (drop (c.loop-n.n + 1) times)) c.in_ok-add_once.ensures
    ∙ sym (ap (once_behind c.loop-n.instants.items) (drop_more times c.loop-n.n 0 c.loop-n-test.true)) ∙ c.loop-n.invariant

pub returns : goal.returns
returns c =
    let times = c.args.times.now in
    let past : length times ≤ c.loop-n.n = omega (arith, c.loop-n-test.false) in
    sym (ap (once_behind c.loop-n.instants.items) (drop_all c.loop-n.n times past)) ∙ c.loop-n.invariant
