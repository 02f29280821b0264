use Rattle.std.proofs.Common.{true, ◌≡◌, ◌+◌, Some, subst, arith}
use Rattle.std.specs.Prelude.{slice_get, slice_index_or}
use Rattle.std.specs.BinaryHeap.{heap_items}
use Rattle.std.proofs.lemmas.List.{get_or_default}
use Rattle.std.proofs.lemmas.Option.{slice_get-get_or}
use Rattle.dg_path.specs.declared.search.Link.{Link}
use Rattle.dg_path.specs.declared.search.TheConstants.{UNREACHED}
use Rattle.dg_path.specs.Search.{IsNext}
use Rattle.dg_path.proofs.SearchLinks.{one_more, next_here}
use Rattle.dg_path.proofs.search.relax.Goals as goal

abbrev none : Link
none = record { tail = 0; head = 0; weight = 0 }

pub loop-edge-preserved : goal.loop-edge-preserved
loop-edge-preserved c =
    let links = c.args.links.now in
    let at = c.loop-edge.edge in
    let link = slice_index_or links at none in
    let there : slice_get links at ≡ Some link = slice_get-get_or links at none c.loop-edge-test.true in
    let leaves : link.tail ≡ c.args.node = c.loop-edge.invariant.1.there link there in
    let next : IsNext true links c.args.node (at + 1) (slice_index_or c.args.next.now at 0) =
    subst (λ n. IsNext true links n (at + 1) (slice_index_or c.args.next.now at 0)) leaves (c.requires.adjacent.next_is at link (omega arith) there) in (
      get_or_default c.args.costs.now c.args.node _ UNREACHED c.requires.node,
      next_here true links c.args.node (at + 1) _ next,
      one_more links c.args.node at (slice_index_or c.args.next.now at 0) link c.args.costs.now c.loop-edge.costs c.lower.new.costs (heap_items c.args.queue.now) (heap_items c.loop-edge.queue) (heap_items c.lower.new.queue)
          c.loop-edge.invariant.2 there leaves c.requires.links c.requires.node next _ c.loop-edge.invariant.0 c.in_ok-lower.ensures.lowers,
    )
