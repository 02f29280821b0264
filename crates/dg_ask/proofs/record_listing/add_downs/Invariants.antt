use Rattle.std.proofs.Common.{◌≡◌, ◌++◌, ◌+◌, ◌-◌, ◌^◌, ◌≤◌, map}
use Rattle.std.specs.Prelude.{filter, nat_le}
use Rattle.std.specs.List.{flat_map}
use Rattle.dg_index.specs.Hierarchy.{numbers}
use Rattle.dg_ask.specs.RecordListing.{down_keys, held_line}
use Rattle.dg_ask.proofs.record_listing.add_downs.Given as goal

abbrev pub invariant-loop-width : goal.invariant-loop-width
invariant-loop-width l =
    (l.width ≡ l.arity ^ (l.below + 1))
    × (l.below ≤ l.leaves)
    × (l.lines.items ≡ l.fn.lines.items ++ map (held_line l.catalogue.entries) (flat_map (down_keys l.arity l.leaves) (filter (λ h. nat_le (l.arity ^ h) l.leaves) (numbers 1 l.below))))

abbrev pub decreases-loop-width : goal.decreases-loop-width
decreases-loop-width l = l.leaves + 1 - l.width
