use Rattle.std.proofs.Common.{◌&&◌, sym, ap, ◌∙◌}
use Rattle.std.proofs.lemmas.Bool.{le-leb}
use Rattle.std.specs.Prelude.{nat_le, nat_lt}
use Rattle.dg_index.specs.Hierarchy.{exists, leaves}
use Rattle.dg_catalogue.specs.Shapes.{made_with}
use Rattle.dg_catalogue.proofs.shape.Shape.exists.Goals as goal

pub returns-then-leaf-ge1 : goal.returns-then-leaf-ge1
returns-then-leaf-ge1 c = λ f.
    let s = c.args.self.now in
    ap (nat_le c.in-Leaf.leaf) (c.leaves.ensures.leaves f) ∙ ap (λ b. b && nat_le c.in-Leaf.leaf (leaves (made_with f s) s.events)) (sym (le-leb 1 c.in-Leaf.leaf c.if-leaf-ge1.true))
    ∙ ap (exists (made_with f s) s.events) (sym c.in-Leaf.is)

pub returns-in-List : goal.returns-in-List
returns-in-List c = λ f.
    let s = c.args.self.now in
    ap (nat_lt c.in-List.list) (c.leaves-in-List.ensures.leaves f) ∙ ap (exists (made_with f s) s.events) (sym c.in-List.is)
