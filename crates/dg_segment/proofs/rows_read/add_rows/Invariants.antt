use Rattle.std.proofs.Common.{◌≡◌, ◌+◌, ◌*◌, ◌-◌, ◌≤◌, ◌++◌, length}
use Rattle.dg_index.specs.OpenedIndex.{rows_at}
use Rattle.dg_segment.specs.RowKinds.{row_at, row_size}
use Rattle.dg_segment.proofs.rows_read.add_rows.Given as goal

abbrev pub invariant-loop : goal.invariant-loop
invariant-loop l = record {
  within : l.offset + row_size l.kind l.wide * (l.count - l.counter) ≤ length l.bytes;
  is : l.out.items ++ rows_at (row_at l.kind l.wide) (row_size l.kind l.wide) (l.count - l.counter) l.bytes l.offset ≡ l.fn.out.items ++ rows_at (row_at l.kind l.wide) (row_size l.kind l.wide) l.count l.bytes l.at;
}
