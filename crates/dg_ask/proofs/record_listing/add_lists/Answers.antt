use Rattle.std.proofs.Common.{◌∷◌, [], ◌++◌, ◌∙◌, arith}
use Rattle.dg_history.specs.declared.node.Key.TheVariants as key
use Rattle.dg_ask.specs.RecordListing.{held_line}
use Rattle.dg_ask.proofs.RecordListingLines.{numbered_more}
use Rattle.dg_ask.proofs.record_listing.add_lists.Goals as goal

pub loop-list-preserved : goal.loop-list-preserved
loop-list-preserved c =
    let f = held_line c.args.catalogue.now.entries in
    c.in_ok-push.ensures.items ∙ ((λ i. c.loop-list.invariant i ++ c.record_line.ensures i ∷ []) ∙ numbered_more f (λ i. key.List i) c.args.lines.now.items 0 c.loop-list.list c.loop-list.list (omega arith))
