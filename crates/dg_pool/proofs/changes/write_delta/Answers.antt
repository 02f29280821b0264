use Rattle.std.proofs.Common.{◌∙◌, List, Option, true, false, sym, subst}
use Rattle.dg_graph.specs.declared.element.Element.{Element}
use Rattle.dg_graph.specs.Composition.{Delta}
use Rattle.dg_cells.specs.Rows.{Row, AreNumbers}
use Rattle.dg_pool.specs.declared.slots.Slot.{Slot}
use Rattle.dg_pool.specs.declared.slots.SlotState.{SlotState}
use Rattle.dg_pool.specs.Changes.{WritesDelta, AreGraphCounts, numbers_of, one_sided}
use Rattle.dg_pool.proofs.ChangeGraphs.{both_sides}
use Rattle.dg_pool.proofs.ChangeCells.{writes_then, written_numbers}
use Rattle.dg_pool.proofs.changes.write_delta.Goals as goal
use Rattle.dg_pool.proofs.changes.write_delta.Goals.{After-take_out_all}

-- what is written for the targets is written for the slots
for_slots : (c : After-take_out_all) (d : Delta) (old new : List (Option Row)) → WritesDelta c.targets_of-targets.result.states.now (numbers_of c.targets_of-targets.result.slots.now) d old new → WritesDelta c.args.states.now (numbers_of c.args.slots.now) d old new
for_slots c d old new w =
    subst (λ (l : List SlotState). WritesDelta l (numbers_of c.args.slots.now) d old new) c.targets_of-targets.ensures.states
    (subst (λ (l : List Slot). WritesDelta c.targets_of-targets.result.states.now (numbers_of l) d old new) c.targets_of-targets.ensures.slots w)

out : (c : After-take_out_all) → WritesDelta c.args.states.now (numbers_of c.args.slots.now) (one_sided false c.args.delta.now.minus) c.args.cells.now c.take_out_all.new.cells
out c =
    subst (λ (l : List Element). WritesDelta c.args.states.now (numbers_of c.args.slots.now) (one_sided false l) c.args.cells.now c.take_out_all.new.cells) (c.items.ensures.value ∙ c.minus.ensures.value)
    (for_slots c (one_sided false c.items.result.now) c.args.cells.now c.take_out_all.new.cells c.take_out_all.ensures.writes)

pub put_in_all-requires-clause-numbers : goal.put_in_all-requires-clause-numbers
put_in_all-requires-clause-numbers c =
    let a = (goal.at.put_in_all-requires-clause-numbers c).After-take_out_all in
    subst (λ (l : List Element). AreNumbers c.take_out_all.new.cells l c.args.numbers.now) (sym (c.items-2.ensures.value ∙ c.plus.ensures.value))
    (written_numbers c.args.states.now (numbers_of c.args.slots.now) (one_sided false c.args.delta.now.minus) c.args.cells.now c.take_out_all.new.cells (out a) c.args.delta.now.plus c.args.numbers.now c.requires.numbers)

pub returns-clause-writes : goal.returns-clause-writes
returns-clause-writes c =
    let a = (goal.at.returns-clause-writes c).After-take_out_all in
    let d = c.args.delta.now in
    writes_then c.args.states.now (numbers_of c.args.slots.now) (one_sided false d.minus) (one_sided true d.plus) d (both_sides d)
    c.args.cells.now c.take_out_all.new.cells c.put_in_all.new.cells (out a)
    (subst (λ (l : List Element). WritesDelta c.args.states.now (numbers_of c.args.slots.now) (one_sided true l) c.take_out_all.new.cells c.put_in_all.new.cells) (c.items-2.ensures.value ∙ c.plus.ensures.value)
    (for_slots a (one_sided true c.items-2.result.now) c.take_out_all.new.cells c.put_in_all.new.cells c.put_in_all.ensures.writes))

pub returns-clause-counted : goal.returns-clause-counted
returns-clause-counted c =
    subst (λ (l : List SlotState). AreGraphCounts l c.put_in_all.new.cells c.put_in_all.new.counts) c.targets_of-targets.ensures.states c.put_in_all.ensures.counted
