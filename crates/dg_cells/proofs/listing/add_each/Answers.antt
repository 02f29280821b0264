use Rattle.std.proofs.Common.{◌+◌}
use Rattle.dg_graph.specs.declared.element.Element.TheVariants as kind
use Rattle.dg_cells.specs.Rows.{AreAmong, Reuses}
use Rattle.dg_cells.proofs.RowGrowth.{grows_then, reuses_then, among_more, has_whole}
use Rattle.dg_cells.proofs.RowNumbers.{numbered_more}
use Rattle.dg_cells.proofs.listing.add_each.Goals as goal
use Rattle.dg_cells.proofs.listing.add_each.Goals.{After-add}

-- what came with the next element too is among all of them
whole : (c : After-add) → AreAmong c.args.rows.now.items c.add.new.rows.items c.args.items.now
whole c n r e f =
    has_whole c.args.items.now (c.loop-x.x-index + 1) r.element
    (among_more c.args.rows.now.items c.loop-x.rows.items c.add.new.rows.items c.args.items.now c.loop-x.x-index (kind.Node 0) c.loop-x-test.true c.add.ensures.grows c.loop-x.invariant.among c.add.ensures.fresh n r e f)

pub returns-in_err-behind-clause-among : goal.returns-in_err-behind-clause-among
returns-in_err-behind-clause-among c = whole (goal.at.returns-in_err-behind-clause-among c).After-add

pub returns-in_err-push-clause-among : goal.returns-in_err-push-clause-among
returns-in_err-push-clause-among c = whole (goal.at.returns-in_err-push-clause-among c).After-add

-- the vacant cells were used first, with the next element too
reuses : (c : After-add) → Reuses c.args.rows.now.items c.add.new.rows.items
reuses c = reuses_then c.args.rows.now.items c.loop-x.rows.items c.add.new.rows.items c.add.ensures.grows c.loop-x.invariant.reuses c.add.ensures.reuses

pub returns-in_err-behind-clause-reuses : goal.returns-in_err-behind-clause-reuses
returns-in_err-behind-clause-reuses c = reuses (goal.at.returns-in_err-behind-clause-reuses c).After-add

pub returns-in_err-push-clause-reuses : goal.returns-in_err-push-clause-reuses
returns-in_err-push-clause-reuses c = reuses (goal.at.returns-in_err-push-clause-reuses c).After-add

pub loop-x-preserved : goal.loop-x-preserved
loop-x-preserved c =
    let first = c.args.rows.now.items in
    let old = c.loop-x.rows.items in
    let new = c.add.new.rows.items in
    let items = c.args.items.now in
    let i = c.loop-x.x-index in
    let inv = c.loop-x.invariant in
    record {
      listed = c.add.ensures.listed;
      grows = grows_then first old new inv.grows c.add.ensures.grows;
      reuses = reuses_then first old new c.add.ensures.grows inv.reuses c.add.ensures.reuses;
      numbered = numbered_more old new items c.loop-x.x-index c.loop-x.numbers.items c.push.new.self.items c.in_ok-behind.number (kind.Node 0) c.loop-x-test.true c.add.ensures.grows c.in_ok-behind.ensures.there c.in_ok-push.ensures.items inv.numbered;
      among = among_more first old new items i (kind.Node 0) c.loop-x-test.true c.add.ensures.grows inv.among c.add.ensures.fresh;
    }

pub returns-clause-among : goal.returns-clause-among
returns-clause-among c = λ n r e f.
    has_whole c.args.items.now c.loop-x.x-index r.element (c.loop-x.invariant.among n r e f)
