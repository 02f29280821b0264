use Rattle.std.proofs.Common.{◌+◌, ◌∷◌, [], ◌++◌, ◌∙◌, arith}
use Rattle.dg_history.specs.declared.node.Key.TheVariants as key
use Rattle.dg_ask.specs.RecordListing.{held_line}
use Rattle.dg_ask.proofs.RecordListingLines.{numbered_more}
use Rattle.dg_ask.proofs.record_listing.add_height.Goals as goal

pub loop-child-preserved : goal.loop-child-preserved
loop-child-preserved c =
    let f = held_line c.args.catalogue.now.entries in
    c.in_ok-push.ensures.items ∙ ((λ i. c.loop-child.invariant i ++ c.record_line.ensures i ∷ []) ∙ numbered_more f (λ n. key.Down c.args.height n) c.args.lines.now.items 1 c.loop-child.child (c.loop-child.child + 1) (omega arith))
