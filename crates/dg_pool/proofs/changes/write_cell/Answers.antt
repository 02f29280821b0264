use Rattle.std.proofs.Common.{◌≡◌, [], ◌∷◌, true, ap, subst, ◌∙◌, arith}
use Rattle.dg_graph.specs.declared.element.Element.{Element}
use Rattle.dg_cells.specs.Rows.{Row}
use Rattle.dg_pool.specs.Changes.{SetsPairs, WritesDelta, one_sided, numbers_of}
use Rattle.dg_pool.proofs.CurrentGraph.{one_row}
use Rattle.dg_pool.proofs.ChangeCells.{writes_one, counted_one, fits_cell}
use Rattle.dg_pool.proofs.changes.write_cell.Goals as goal

pub recount-requires-clause-fit : goal.recount-requires-clause-fit
recount-requires-clause-fit c = λ r e.
    fits_cell c.args.targets.now.states.now (numbers_of c.args.targets.now.slots.now) c.args.own c.args.cells.now c.args.n r c.args.counts.now
    c.requires.targets.can c.requires.counted c.facts.ensures e (omega arith)

pub returns-clause-writes : goal.returns-clause-writes
returns-clause-writes c =
    let t = c.args.targets.now in
    let numbers = numbers_of t.slots.now in
    let old = c.args.cells.now in
    let w = c.set_pairs.ensures in
    let h = c.requires.holds in
    let is : w.before.element ≡ c.args.element.now = ap (λ (r : Row). r.element) (one_row old c.args.n w.before h.row w.was h.there) ∙ h.element in
    subst (λ (y : Element). WritesDelta t.states.now numbers (one_sided c.args.own (y ∷ [])) old c.set_pairs.new.cells) is
    (writes_one t.states.now numbers c.requires.targets.can c.args.own old c.set_pairs.new.cells c.args.n (SetsPairs numbers (true, c.args.own)) w w.how c.facts.ensures)

pub returns-clause-counted : goal.returns-clause-counted
returns-clause-counted c =
    let t = c.args.targets.now in
    let numbers = numbers_of t.slots.now in
    let w = c.set_pairs.ensures in
    counted_one t.states.now numbers c.requires.targets.can c.args.own c.args.cells.now c.set_pairs.new.cells c.args.n (SetsPairs numbers (true, c.args.own)) w w.how c.facts.ensures
    c.args.counts.now c.recount.new.counts c.requires.counted c.recount.ensures.len (c.recount.ensures.counts w.before w.was)
