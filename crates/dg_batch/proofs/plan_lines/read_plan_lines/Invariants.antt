use Rattle.std.proofs.Common.{◌≡◌, ◌-◌, ◌≤◌}
use Rattle.dg_io.specs.LinesState.{NeedsByte}
use Rattle.dg_io.specs.Calls.{TakesFrom}
use Rattle.dg_batch.proofs.PlanLineCollection.{Gathering}
use Rattle.dg_batch.proofs.LinesTaken.{Taken}
use Rattle.dg_batch.proofs.plan_lines.read_plan_lines.Given as goal

abbrev pub invariant-loop-read : goal.invariant-loop-read
invariant-loop-read g l = record {
  gathering : Gathering (Taken l.fn.lines (g.S.Source.left l.fn.source) l.lines (g.S.Source.left l.source)) l.read l.is_whole l.said.items;
  advances : TakesFrom g.S.Source l.fn.lines l.fn.source l.lines l.source;
  begins : l.read ≡ 0 → l.lines ≡ l.fn.lines;
  undue : l.fn.lines.taken ≡ l.fn.lines.limit → NeedsByte l.fn.lines → l.read ≡ 0;
  most : l.read ≤ l.count;
}

abbrev pub decreases-loop-read : goal.decreases-loop-read
decreases-loop-read g l = l.count - l.read
