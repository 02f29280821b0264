use Rattle.std.proofs.Common.{◌*◌, ◌/◌, ◌^◌, ◌&&◌, sym, ap, ◌∙◌}
use Rattle.std.proofs.lemmas.Bool.{le-leb}
use Rattle.std.specs.Prelude.{nat_le}
use Rattle.dg_catalogue.proofs.ShapeNodes.{arity_two, at_height}
use Rattle.dg_catalogue.proofs.shape.Shape.has_at.Goals as goal

pub returns-then-number-ge1 : goal.returns-then-number-ge1
returns-then-number-ge1 c =
    let s = c.args.self.now in
    at_height (s.events / s.l) s.k c.args.height c.args.number c.nodes_at.result (arity_two s.l s.k c.requires.parameters) c.nodes_at.ensures
    ∙ ap (λ b. b && nat_le (c.args.number * s.k ^ c.args.height) (s.events / s.l)) (sym (le-leb 1 c.args.number c.if-number-ge1.true))
