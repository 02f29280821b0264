use Rattle.std.proofs.Common.{◌≡◌, ◌-◌, ◌++◌, map}
use Rattle.dg_history.specs.declared.node.Key.TheVariants as key
use Rattle.dg_index.specs.Hierarchy.{numbers}
use Rattle.dg_catalogue.proofs.segment_keys.add_lists.Given as goal

abbrev pub invariant-loop-i : goal.invariant-loop-i
invariant-loop-i l = l.out.items ++ map (λ i. key.List i) (numbers l.i (l.until - l.i)) ≡ l.fn.out.items ++ map (λ i. key.List i) (numbers l.from (l.until - l.from))
