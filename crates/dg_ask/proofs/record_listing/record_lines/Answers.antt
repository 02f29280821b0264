use Rattle.dg_catalogue.specs.Shapes.{made_with}
use Rattle.dg_ask.specs.RecordListing.{held_line}
use Rattle.dg_ask.proofs.RecordListingLines.{all_listed}
use Rattle.dg_ask.proofs.record_listing.record_lines.Goals as goal

pub returns : goal.returns
returns c = λ f.
    all_listed (held_line c.args.catalogue.now.entries) (made_with f c.args.shape) c.args.shape.events c.leaves-leaves.result
    c.in_ok-lines.lines.items c.add_lists.new.lines.items c.add_tops.new.lines.items c.add_downs.new.lines.items
    (c.leaves-leaves.ensures.leaves f) c.in_ok-lines.ensures.items c.in_ok-add_lists.ensures c.in_ok-add_tops.ensures c.in_ok-add_downs.ensures
