use Rattle.std.proofs.Common.{◌≡◌, ◌++◌, length, take}
use Rattle.std.specs.List.{AllByRecursion}
use Rattle.dg_graph.specs.Elements.{IsSet}
use Rattle.dg_expr.specs.Rests.{is_chosen, selected, left_in}
use Rattle.dg_expr.proofs.selection.select_rests.Given as goal

abbrev pub invariant-loop-x : goal.invariant-loop-x
invariant-loop-x l = record {
  selected : l.out.items ++ selected l.words l.rests ≡ selected l.words l.fn.rests;
  known : l.known.holds ≡ is_chosen l.words (take l.count l.known.there);
  same : length l.rests ≡ l.count;
  sets : AllByRecursion IsSet l.rests;
}

abbrev pub decreases-loop-x : goal.decreases-loop-x
decreases-loop-x l = left_in l.rests
