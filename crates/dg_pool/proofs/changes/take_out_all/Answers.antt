use Rattle.std.proofs.Common.{◌+◌, List, [], ◌∷◌, take, get_or, false, subst}
use Rattle.std.proofs.lemmas.List.{take_more, take_all}
use Rattle.dg_graph.specs.declared.element.Element.{Element}
use Rattle.dg_graph.specs.declared.element.Element.TheVariants as kind
use Rattle.dg_pool.specs.Changes.{WritesDelta, one_sided, numbers_of}
use Rattle.dg_pool.proofs.ChangeGraphs.{more_sided}
use Rattle.dg_pool.proofs.ChangeCells.{writes_start, writes_then}
use Rattle.dg_pool.proofs.changes.take_out_all.Goals as goal

pub loop-element-init : goal.loop-element-init
loop-element-init c = record {
  writes = writes_start c.args.targets.now.states.now (numbers_of c.args.targets.now.slots.now) false c.args.cells.now c.facts.ensures;
  counted = c.requires.counted;
}

pub loop-element-preserved : goal.loop-element-preserved
loop-element-preserved c =
    let items = c.args.items.now in
    let i = c.loop-element.element-index in
    let x : Element = get_or items i (kind.Node 0) in
    record {
      writes = writes_then c.args.targets.now.states.now (numbers_of c.args.targets.now.slots.now) (one_sided false (take i items)) (one_sided false (x ∷ [])) (one_sided false (take (i + 1) items))
          (more_sided false (take i items) (take (i + 1) items) x (take_more items i (kind.Node 0) c.loop-element-test.true))
          c.args.cells.now c.loop-element.cells c.take_out-near.new.cells c.loop-element.invariant.writes c.take_out-near.ensures.writes;
      counted = c.take_out-near.ensures.counted;
    }

pub returns-clause-writes : goal.returns-clause-writes
returns-clause-writes c =
    subst (λ (l : List Element). WritesDelta c.args.targets.now.states.now (numbers_of c.args.targets.now.slots.now) (one_sided false l) c.args.cells.now c.loop-element.cells)
    (take_all c.loop-element.element-index c.args.items.now c.loop-element-test.false) c.loop-element.invariant.writes
