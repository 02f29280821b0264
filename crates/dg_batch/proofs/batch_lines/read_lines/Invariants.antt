use Rattle.std.proofs.Common.{◌≡◌, ◌-◌, ◌+◌, ◌*◌, ◌≤◌, vec_len, length, take}
use Rattle.dg_io.specs.LinesState.{NeedsByte}
use Rattle.dg_text.specs.declared.limits.TheConstants.{NAMES_MAX}
use Rattle.dg_append.specs.declared.front.Front.TheVariants.{Whole}
use Rattle.dg_io.specs.Calls.{TakesFrom}
use Rattle.dg_batch.proofs.BatchLineCollection.{Gathering}
use Rattle.dg_batch.proofs.LinesTaken.{Taken}
use Rattle.dg_batch.proofs.batch_lines.read_lines.Given as goal

abbrev pub invariant-loop-read : goal.invariant-loop-read
invariant-loop-read g l = record {
  gathering : Gathering (Taken l.fn.lines (g.S.Source.left l.fn.source) l.lines (g.S.Source.left l.source)) l.read l.front l.fn.names l.names l.changes.items;
  advances : TakesFrom g.S.Source l.fn.lines l.fn.source l.lines l.source;
  begins : l.read ≡ 0 → l.lines ≡ l.fn.lines;
  undue : l.fn.lines.taken ≡ l.fn.lines.limit → NeedsByte l.fn.lines → l.read ≡ 0;
  bound : vec_len l.changes ≤ l.read;
  most : l.read ≤ l.count;
  kept : take (length l.fn.names) l.names ≡ l.fn.names;
  room : l.front ≡ Whole → length l.names + 2 * (l.count - l.read) ≤ NAMES_MAX;
}

abbrev pub decreases-loop-read : goal.decreases-loop-read
decreases-loop-read g l = l.count - l.read
