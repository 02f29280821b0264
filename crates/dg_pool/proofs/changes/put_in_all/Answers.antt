use Rattle.std.proofs.Common.{◌+◌, List, [], ◌∷◌, take, get_or, true, subst}
use Rattle.std.proofs.lemmas.List.{take_more, take_all}
use Rattle.dg_graph.specs.declared.element.Element.{Element}
use Rattle.dg_graph.specs.declared.element.Element.TheVariants as kind
use Rattle.dg_cells.specs.Rows.{Holds}
use Rattle.dg_pool.specs.Changes.{WritesDelta, one_sided, numbers_of}
use Rattle.dg_pool.proofs.ChangeGraphs.{more_sided}
use Rattle.dg_pool.proofs.ChangeCells.{writes_start, writes_then, written_holds}
use Rattle.dg_pool.proofs.changes.put_in_all.Goals as goal
use Rattle.dg_pool.proofs.changes.put_in_all.Goals.{In-loop-index}

-- the cell of the element
holds : (c : In-loop-index) → Holds c.loop-index.cells (get_or c.args.items.now c.loop-index.index (kind.Node 0)) (get_or c.args.numbers.now c.loop-index.index 0)
holds c =
    written_holds c.args.targets.now.states.now (numbers_of c.args.targets.now.slots.now) (one_sided true (take c.loop-index.index c.args.items.now)) c.args.cells.now c.loop-index.cells c.loop-index.invariant.writes
    (get_or c.args.items.now c.loop-index.index (kind.Node 0)) (get_or c.args.numbers.now c.loop-index.index 0) (c.requires.numbers.hold c.loop-index.index c.loop-index-test.true (kind.Node 0))

pub loop-index-init : goal.loop-index-init
loop-index-init c = record {
  writes = writes_start c.args.targets.now.states.now (numbers_of c.args.targets.now.slots.now) true c.args.cells.now c.facts.ensures;
  counted = c.requires.counted;
}

pub write_cell-requires-clause-holds : goal.write_cell-requires-clause-holds
write_cell-requires-clause-holds c = holds (goal.at.write_cell-requires-clause-holds c).In-loop-index

pub loop-index-preserved : goal.loop-index-preserved
loop-index-preserved c =
    let items = c.args.items.now in
    let i = c.loop-index.index in
    let x : Element = get_or items i (kind.Node 0) in
    record {
      writes = writes_then c.args.targets.now.states.now (numbers_of c.args.targets.now.slots.now) (one_sided true (take i items)) (one_sided true (x ∷ [])) (one_sided true (take (i + 1) items))
          (more_sided true (take i items) (take (i + 1) items) x (take_more items i (kind.Node 0) c.loop-index-test.true))
          c.args.cells.now c.loop-index.cells c.write_cell.new.cells c.loop-index.invariant.writes c.write_cell.ensures.writes;
      counted = c.write_cell.ensures.counted;
    }

pub returns-clause-writes : goal.returns-clause-writes
returns-clause-writes c =
    subst (λ (l : List Element). WritesDelta c.args.targets.now.states.now (numbers_of c.args.targets.now.slots.now) (one_sided true l) c.args.cells.now c.loop-index.cells)
    (take_all c.loop-index.index c.args.items.now c.loop-index-test.false) c.loop-index.invariant.writes
