use Rattle.std.proofs.Common.{sym, ◌∙◌, arith}
use Rattle.dg_graph.specs.declared.function.Function.TheVariants.{Intersection}
use Rattle.dg_catalogue.specs.Shapes.{made_with}
use Rattle.dg_catalogue.proofs.ShapeNodes.{arity_two, inner_there, no_child, inner_child}
use Rattle.dg_catalogue.proofs.shape.Shape.child.Goals as goal

pub returns-then-not-exists : goal.returns-then-not-exists
returns-then-not-exists c = λ f.
    let s = c.args.self.now in
    sym (no_child (made_with f s) s.events c.args.node c.args.number (sym (c.exists.ensures f) ∙ c.if-not-exists.true))

pub child_at-requires-clause-height : goal.child_at-requires-clause-height
child_at-requires-clause-height c =
    let s = c.args.self.now in
    (inner_there (made_with Intersection s) s.events c.args.node c.in-Inner.height c.in-Inner.above c.in-Inner.is (arity_two s.l s.k c.requires.parameters) (sym (c.exists.ensures Intersection) ∙ c.if-not-exists.false)).height

pub child_at-requires-clause-above : goal.child_at-requires-clause-above
child_at-requires-clause-above c =
    let s = c.args.self.now in
    (inner_there (made_with Intersection s) s.events c.args.node c.in-Inner.height c.in-Inner.above c.in-Inner.is (arity_two s.l s.k c.requires.parameters) (sym (c.exists.ensures Intersection) ∙ c.if-not-exists.false)).number

pub child_at-requires-clause-few : goal.child_at-requires-clause-few
child_at-requires-clause-few c =
    let s = c.args.self.now in
    let there = inner_there (made_with Intersection s) s.events c.args.node c.in-Inner.height c.in-Inner.above c.in-Inner.is (arity_two s.l s.k c.requires.parameters) (sym (c.exists.ensures Intersection) ∙ c.if-not-exists.false) in
    omega (arith, there.few, c.requires.few)

pub returns-in-Inner : goal.returns-in-Inner
returns-in-Inner c = λ f.
    let s = c.args.self.now in
    inner_child (made_with f s) s.events c.args.node c.in-Inner.height c.in-Inner.above c.args.number c.child_at.result c.in-Inner.is (sym (c.exists.ensures f) ∙ c.if-not-exists.false) c.child_at.ensures
