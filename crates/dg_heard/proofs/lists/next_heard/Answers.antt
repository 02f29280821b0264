use Rattle.std.proofs.Common.{◌≤◌, refl, arith}
use Rattle.dg_heard.specs.Heard.{list_total}
use Rattle.dg_heard.proofs.HeardLists.{heard_for_none, heard_or_next}
use Rattle.dg_heard.proofs.lists.next_heard.Goals as goal

pub returns-then-total-from : goal.returns-then-total-from
returns-then-total-from c =
    let few : list_total c.args.index.now.opening ≤ c.args.from = omega (arith, c.list_total-total.ensures, c.if-total-from.true) in
    record {
      some = tt;
      none = λ k low high. absurd (omega arith);
    }

pub loop-t-init : goal.loop-t-init
loop-t-init c = record {
  begun = omega arith;
  few = omega arith;
  heard = λ less. absurd (omega arith);
  before = λ k low high. refl;
}

pub loop-t-preserved : goal.loop-t-preserved
loop-t-preserved c =
    let o = c.args.index.now.opening in
    let lists = c.catalogue-lists.result.now in
    let same = c.catalogue-lists.ensures.entries in
    let times = c.args.times.now in
    let n = c.loop-t.t-index in
    let found = c.next_between-next.ensures in
    record {
      begun = found.reached.0;
      few = omega (arith, found.reached.1, c.loop-t.invariant.few);
      heard = heard_or_next o lists same times n _ c.loop-t-test.true refl c.loop-t.next c.next_between-next.result c.list_total-total.result found.reached.1 c.loop-t.invariant.heard found.between;
      before = λ k low high. heard_for_none o lists same times n _ c.loop-t-test.true refl k (c.loop-t.invariant.before k low (omega arith)) (found.before k low high);
    }
