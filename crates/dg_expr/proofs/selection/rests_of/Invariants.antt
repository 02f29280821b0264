use Rattle.std.proofs.Common.{◌≡◌, take}
use Rattle.std.specs.List.{AllByRecursion}
use Rattle.dg_graph.specs.Elements.{IsSet}
use Rattle.dg_expr.proofs.selection.rests_of.Given as goal

abbrev pub invariant-loop-set : goal.invariant-loop-set
invariant-loop-set l = record {
  value : l.rests.items ≡ take l.set-index l.sets;
  sets : AllByRecursion IsSet l.rests.items;
}
