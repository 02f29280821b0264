use Rattle.std.proofs.Common.{◌≡◌, ◌++◌, map}
use Rattle.dg_history.specs.declared.node.Key.TheVariants as key
use Rattle.dg_index.specs.Hierarchy.{numbers}
use Rattle.dg_ask.specs.RecordListing.{held_line}
use Rattle.dg_ask.proofs.record_listing.add_lists.Given as goal

abbrev pub invariant-loop-list : goal.invariant-loop-list
invariant-loop-list l = l.lines.items ≡ l.fn.lines.items ++ map (held_line l.catalogue.entries) (map (λ i. key.List i) (numbers 0 l.list))
