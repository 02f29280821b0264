use Rattle.std.proofs.Common.{Ok, get_or, subst, sym}
use Rattle.dg_fold.specs.Ends.{last_in}
use Rattle.dg_fold.specs.Parts.{Folds}
use Rattle.dg_fold.proofs.WritingLasts.{written_all, written_fails, written_next, written_none}
use Rattle.dg_fold.proofs.writing.write_lasts.Goals as goal

pub loop-n-init : goal.loop-n-init
loop-n-init g c =
    written_none c.args.name_count c.args.recent.now c.args.parts.now c.args.branches.now c.args.times.now c.in_ok-writings.writings.items c.in_ok-writings.ensures.items

pub returns-in-Err-clause-err : goal.returns-in-Err-clause-err
returns-in-Err-clause-err g c =
    written_fails c.args.name_count c.args.recent.now c.args.parts.now c.args.branches.now c.args.times.now c.loop-n.n c.loop-n.writings.items c.index-branches-n.result 0
    c.requires.times c.loop-n-test.true c.loop-n.invariant c.in-Err.fault c.in-Err.ensures

pub loop-n-preserved : goal.loop-n-preserved
loop-n-preserved g c =
    written_next c.args.name_count c.args.recent.now c.args.parts.now c.args.branches.now c.args.times.now c.loop-n.n c.loop-n.writings.items c.index-branches-n.result 0
    c.requires.times c.loop-n-test.true c.loop-n.invariant c.in_ok-write_for.field-0 c.push.new.self.items c.in_ok-write_for.ensures.targets
    (subst (λ d. Folds (Ok d) (last_in c.args.name_count c.args.recent.now c.args.parts.now (get_or c.args.branches.now c.loop-n.n c.index-branches-n.result).to (get_or c.args.times.now c.loop-n.n 0)))
    (sym c.in_ok-write_for.ensures.delta) c.in-Ok.ensures) c.in_ok-push.ensures.items

pub returns-clause-ok : goal.returns-clause-ok
returns-clause-ok g c =
    written_all c.args.name_count c.args.recent.now c.args.parts.now c.args.branches.now c.args.times.now c.loop-n.n c.loop-n.writings.items c.requires.times c.loop-n-test.false c.loop-n.invariant
