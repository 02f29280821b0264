use Rattle.std.proofs.Common.{sym, ◌∙◌}
use Rattle.dg_current.specs.Sorted.{least}
use Rattle.dg_current.proofs.SortedSearches.{before_more, first_here, not_before_here}
use Rattle.dg_current.proofs.search.next_from.Goals as goal

pub returns-then-not-is_before : goal.returns-then-not-is_before
returns-then-not-is_before c =
    let x = least c.args.id in
    let xs = c.args.items.now in
    let i = c.loop-index.index in
    let less = c.loop-index-test.true in
    first_here x xs c.requires.set i less c.loop-index.invariant (not_before_here x xs i less (sym c.is_before.ensures ∙ c.if-not-is_before.true))

pub loop-index-preserved : goal.loop-index-preserved
loop-index-preserved c =
    before_more (least c.args.id) c.args.items.now c.loop-index.index c.loop-index-test.true (sym c.is_before.ensures ∙ c.if-not-is_before.false) c.loop-index.invariant
