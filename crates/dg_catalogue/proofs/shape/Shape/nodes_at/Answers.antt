use Rattle.std.proofs.Common.{◌≡◌, ◌/◌, sym, ◌∙◌, arith}
use Rattle.dg_graph.specs.declared.function.Function.TheVariants.{Intersection}
use Rattle.dg_catalogue.proofs.HierarchyRecords.{higher_up}
use Rattle.dg_catalogue.proofs.ShapeNodes.{none_higher, height_zero}
use Rattle.dg_catalogue.proofs.shape.Shape.nodes_at.Goals as goal

pub loop-below-init : goal.loop-below-init
loop-below-init c = record {
  nodes = c.leaves-nodes.ensures.leaves Intersection ∙ (let s = c.args.self.now in height_zero (s.events / s.l) s.k);
  within = omega arith;
}

pub loop-below-preserved : goal.loop-below-preserved
loop-below-preserved c = record {
  nodes = let s = c.args.self.now in higher_up (s.events / s.l) s.k c.loop-below.below c.loop-below.nodes c.loop-below.invariant.nodes;
  within = omega arith;
}

pub returns-else-nodes-gt0 : goal.returns-else-nodes-gt0
returns-else-nodes-gt0 c =
    let s = c.args.self.now in
    let none : c.loop-below.nodes ≡ 0 = omega (arith, c.if-nodes-gt0.false) in
    none ∙ sym (none_higher (s.events / s.l) s.k c.loop-below.below c.args.height c.loop-below.invariant.within (sym c.loop-below.invariant.nodes ∙ none))
