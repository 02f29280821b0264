use Rattle.std.proofs.Common.{◌≡◌, ◌+◌, ◌-◌, ◌*◌, ◌≤◌, ◌++◌, length, take, drop}
use Rattle.dg_graph.specs.Elements.{IsSet}
use Rattle.dg_graph.specs.Sets.{without_all}
use Rattle.dg_set.proofs.replace.thin.Given as goal

abbrev pub invariant-loop-k : goal.invariant-loop-k
invariant-loop-k l = record {
  left : take l.place l.cells ++ without_all (drop l.next l.cells) (drop l.k l.lost) ≡ without_all l.fn.cells l.lost;
  rises : IsSet (drop l.next l.cells);
  lost_in : l.k ≤ length l.lost;
  order : l.place ≤ l.next;
  within : l.next ≤ length l.cells;
  long : length l.cells ≡ length l.fn.cells;
  idle : l.idle ≤ 8;
}

abbrev pub decreases-loop-k : goal.decreases-loop-k
decreases-loop-k l = 9 * (length l.lost - l.k) + l.idle
