use Rattle.std.proofs.Common.{◌≡◌, ◌<◌, [], length, Some, refl, sym, subst, arith}
use Rattle.std.specs.Prelude.{slice_get, slice_index_or}
use Rattle.std.specs.BinaryHeap.{heap_items}
use Rattle.std.proofs.lemmas.List.{take_all}
use Rattle.std.proofs.lemmas.Option.{slice_get-get_or}
use Rattle.dg_plan.specs.Walks.{entered}
use Rattle.dg_path.specs.Search.{arcs, WithStarts}
use Rattle.dg_path.proofs.SearchStarts.{table_after, known_after, on_ok_from, on_ok_of, falls_after, more_planted, entered_more}
use Rattle.dg_path.proofs.table.grow.Goals as goal

pub loop-step-preserved : goal.loop-step-preserved
loop-step-preserved c =
    let i = c.loop-step.step-index in
    let within : i < length c.args.steps.now = (let h = c.loop-step-test.true in omega arith) in
    let step = slice_index_or c.args.steps.now i 0 in
    let link = slice_index_or c.args.links.now step (record { tail = 0; head = 0; weight = 0 }) in
    let there : slice_get c.args.links.now step ≡ Some link = slice_get-get_or c.args.links.now step (record { tail = 0; head = 0; weight = 0 }) (c.requires.steps i 0 within) in
    subst (λ more. WithStarts more c.args.costs.now [] c.add_start.new.costs (heap_items c.add_start.new.queue)) (sym (entered_more c.args.links.now c.args.steps.now i step link within refl there))
    (more_planted _ _ _ _ _ _ _ _ c.loop-step.invariant c.in_ok-add_start.ensures.added)

whole : (c : goal.After-drop-queue-2) → WithStarts (entered (arcs c.args.links.now) c.args.steps.now) c.args.costs.now [] c.loop-step.costs (heap_items c.loop-step.queue)
whole c =
    subst (λ steps. WithStarts (entered (arcs c.args.links.now) steps) c.args.costs.now [] c.loop-step.costs (heap_items c.loop-step.queue))
    (take_all c.loop-step.step-index c.args.steps.now (let h = c.loop-step-test.false in omega arith)) c.loop-step.invariant

pub settle-requires-clause-waits : goal.settle-requires-clause-waits
settle-requires-clause-waits c = known_after (arcs c.args.links.now) _ _ _ _ _ c.requires.settled c.loop-step.invariant

pub returns-clause-table : goal.returns-clause-table
returns-clause-table c =
    on_ok_from c.settle.result _ _ _ _ c.settle.ensures.settled c.settle.ensures.falls c.settle.ensures.walks
    (λ settled falls walks starts t. table_after (arcs c.args.links.now) starts _ c.args.costs.now c.loop-step.costs c.settle.new.costs _ _ t (whole c) settled falls walks)

pub returns-clause-falls : goal.returns-clause-falls
returns-clause-falls c = on_ok_of c.settle.result _ _ c.settle.ensures.falls (λ falls. falls_after _ c.args.costs.now c.loop-step.costs c.settle.new.costs _ _ (whole c) falls)
