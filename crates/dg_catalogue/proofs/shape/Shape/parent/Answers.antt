use Rattle.std.proofs.Common.{sym, ◌∙◌, arith}
use Rattle.dg_graph.specs.declared.function.Function.TheVariants.{Intersection}
use Rattle.dg_catalogue.specs.Shapes.{made_with}
use Rattle.dg_catalogue.proofs.ShapeNodes.{arity_two, leaf_some, inner_there, no_parent, leaf_parent, inner_parent}
use Rattle.dg_catalogue.proofs.shape.Shape.parent.Goals as goal

pub returns-then-not-exists : goal.returns-then-not-exists
returns-then-not-exists c = λ f.
    let s = c.args.self.now in
    sym (no_parent (made_with f s) s.events c.args.node (sym (c.exists.ensures f) ∙ c.if-not-exists.true))

pub number_above-requires-clause-some : goal.number_above-requires-clause-some
number_above-requires-clause-some c =
    let s = c.args.self.now in
    leaf_some (made_with Intersection s) s.events c.args.node c.in-Leaf.leaf c.in-Leaf.is (sym (c.exists.ensures Intersection) ∙ c.if-not-exists.false)

pub overflow_add-height : goal.overflow_add-height
overflow_add-height c =
    let s = c.args.self.now in
    let there = inner_there (made_with Intersection s) s.events c.args.node c.in-Inner.height c.in-Inner.number c.in-Inner.is (arity_two s.l s.k c.requires.parameters) (sym (c.exists.ensures Intersection) ∙ c.if-not-exists.false) in
    omega (arith, there.low, c.requires.few)

pub number_above-requires-in-Inner-clause-some : goal.number_above-requires-in-Inner-clause-some
number_above-requires-in-Inner-clause-some c =
    let s = c.args.self.now in
    let there = inner_there (made_with Intersection s) s.events c.args.node c.in-Inner.height c.in-Inner.number c.in-Inner.is (arity_two s.l s.k c.requires.parameters) (sym (c.exists.ensures Intersection) ∙ c.if-not-exists.false) in
    there.number

pub returns-in-Leaf : goal.returns-in-Leaf
returns-in-Leaf c = λ f.
    let s = c.args.self.now in
    leaf_parent (made_with f s) s.events c.args.node c.in-Leaf.leaf c.number_above.result c.if_exists.result c.in-Leaf.is (sym (c.exists.ensures f) ∙ c.if-not-exists.false) c.number_above.ensures (c.if_exists.ensures f)

pub returns-in-Inner : goal.returns-in-Inner
returns-in-Inner c = λ f.
    let s = c.args.self.now in
    inner_parent (made_with f s) s.events c.args.node c.in-Inner.height c.in-Inner.number c.number_above-in-Inner.result c.if_exists-in-Inner.result c.in-Inner.is (sym (c.exists.ensures f) ∙ c.if-not-exists.false) c.number_above-in-Inner.ensures (c.if_exists-in-Inner.ensures f)
