use Rattle.std.proofs.Common.{◌≡◌, ◌+◌, ◌*◌, ◌≤◌, ◌++◌, length, take, drop}
use Rattle.dg_graph.specs.Elements.{IsSet}
use Rattle.dg_graph.specs.Sets.{unioned}
use Rattle.dg_set.proofs.replace.merge_behind.Given as goal

abbrev pub invariant-loop-j : goal.invariant-loop-j
invariant-loop-j l = record {
  merged : unioned (take l.kept l.cells) (take l.j l.gained) ++ drop l.free l.cells ≡ unioned (take l.left l.fn.cells) l.gained;
  rises : IsSet (take l.kept l.cells);
  gained_in : l.j ≤ length l.gained;
  room : l.kept + l.j ≤ l.free;
  within : l.free ≤ length l.cells;
  long : length l.cells ≡ length l.fn.cells;
  idle : l.idle ≤ 8;
}

abbrev pub decreases-loop-j : goal.decreases-loop-j
decreases-loop-j l = 9 * l.j + l.idle
