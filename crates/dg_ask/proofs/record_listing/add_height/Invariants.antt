use Rattle.std.proofs.Common.{◌≡◌, ◌++◌, map}
use Rattle.dg_history.specs.declared.node.Key.TheVariants as key
use Rattle.dg_index.specs.Hierarchy.{numbers}
use Rattle.dg_ask.specs.RecordListing.{held_line}
use Rattle.dg_ask.proofs.record_listing.add_height.Given as goal

abbrev pub invariant-loop-child : goal.invariant-loop-child
invariant-loop-child l = l.lines.items ≡ l.fn.lines.items ++ map (held_line l.catalogue.entries) (map (λ c. key.Down l.height c) (numbers 1 l.child))
