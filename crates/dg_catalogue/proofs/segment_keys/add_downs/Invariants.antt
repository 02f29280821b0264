use Rattle.std.proofs.Common.{◌≡◌, ◌-◌, ◌++◌, map}
use Rattle.dg_history.specs.declared.node.Key.TheVariants as key
use Rattle.dg_index.specs.Hierarchy.{numbers}
use Rattle.dg_catalogue.proofs.segment_keys.add_downs.Given as goal

abbrev pub invariant-loop-c : goal.invariant-loop-c
invariant-loop-c l = l.out.items ++ map (λ c. key.Down l.height c) (numbers l.c (l.until - l.c)) ≡ l.fn.out.items ++ map (λ c. key.Down l.height c) (numbers l.from (l.until - l.from))
