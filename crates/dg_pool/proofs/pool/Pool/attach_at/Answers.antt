use Rattle.std.proofs.Common.{Bool, ◌||◌, false, List, Some, refl, sym, ap, ◌∙◌}
use Rattle.std.proofs.lemmas.Bool.{eq-eqb}
use Rattle.std.specs.Option.{option_map}
use Rattle.dg_graph.specs.declared.element.Element.{Element}
use Rattle.dg_graph.specs.Composition.{applied}
use Rattle.dg_graph.specs.Elements.{shown}
use Rattle.dg_cells.specs.Rows.{cell_at}
use Rattle.dg_pool.specs.Graphs.{pair_at}
use Rattle.dg_pool.specs.Slots.{base_members}
use Rattle.dg_pool.specs.Changes.{graph_after, names}
use Rattle.dg_pool.proofs.ChangeGraphs.{after_shown}
use Rattle.dg_pool.proofs.NewSlots.{IsSet-base, base_same}
use Rattle.dg_pool.proofs.pool.Pool.attach_at.Goals as goal

pub returns-clause-slot : goal.returns-clause-slot
returns-clause-slot c =
    let d = c.args.delta.now in
    let b = c.args.base in
    let grown = c.make_numbered.new.self in
    c.write.ensures.changes.changed c.args.slot (ap (λ t. t || false) (eq-eqb c.args.slot c.args.slot refl))
    ∙ ap (option_map (graph_after d)) c.make_live.ensures.slot
    ∙ ap (λ (l : List Element). Some (record { base = b; cols = c.args.cols; members = l }))
    (after_shown d (base_members grown b) c.args.cols (IsSet-base grown b)
    ∙ ap (λ (l : List Element). shown (applied d l) c.args.cols) (base_same c.args.self.now grown c.make_numbered.ensures.graphs b))

pub returns-clause-explicit : goal.returns-clause-explicit
returns-clause-explicit c = λ n r e h.
    let none = ap (λ l. pair_at c.args.slot (cell_at l n)) c.make_live.ensures.cells ∙ c.make_live.ensures.bits n in
    ap (λ (p : Bool × Bool). p.0 || names c.args.delta.now r.element) (sym none)
    ∙ c.write.ensures.explicit c.args.slot n r c.requires.free.low e h
