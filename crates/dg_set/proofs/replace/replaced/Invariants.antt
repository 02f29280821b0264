use Rattle.std.proofs.Common.{◌≡◌, ◌+◌, ◌-◌, ◌*◌, ◌≤◌, ◌++◌, length, vec_len, vec_capacity}
use Rattle.dg_graph.specs.Sets.{unioned, without_all}
use Rattle.dg_set.proofs.SetReplacements.{to_replace}
use Rattle.dg_set.proofs.replace.replaced.Given as goal

abbrev pub invariant-loop-i : goal.invariant-loop-i
invariant-loop-i l = record {
  merged : l.out.items ++ to_replace l.set l.lost l.gained l.i l.j l.k ≡ unioned (without_all l.set l.lost) l.gained;
  set_in : l.i ≤ length l.set;
  gained_in : l.j ≤ length l.gained;
  lost_in : l.k ≤ length l.lost;
  room : vec_len l.out + ((length l.set - l.i) + (length l.gained - l.j)) ≤ vec_capacity l.out;
  idle : l.idle ≤ 8;
}

abbrev pub decreases-loop-i : goal.decreases-loop-i
decreases-loop-i l = 9 * ((length l.gained - l.j) + (length l.lost - l.k)) + l.idle
