use Rattle.std.proofs.Common.{◌≡◌, ℕ, ◌+◌, ◌-◌, ◌≤◌, ◌∙◌, List, length, get_or, take, drop, arith, length-drop, length-take-le, ap, subst}
use Rattle.std.proofs.lemmas.Result.{err_from_is_err_and}
use Rattle.dg_graph.specs.Composition.{Delta, chained}
use Rattle.dg_index.specs.ExactSteps.{downs}
use Rattle.dg_build.proofs.InteriorDeltaWays.{first_and_rest, ways_length}
use Rattle.dg_build.proofs.SpelledRecordDeltas.{below_end, below_more, downs_memory}
use Rattle.dg_build.proofs.InteriorDeltaNodes.{deltas_length, differs_by}
use Rattle.dg_build.proofs.InteriorDeltaGroups.{made_length, next_is, next_made, rest_is}
use Rattle.dg_build.specs.InteriorDeltas.{downs_by, last_way}
use Rattle.dg_build.specs.SpelledRecords.{IsFaultOfDeltas}
use Rattle.dg_build.proofs.GivenDeltas.{added_by}
use Rattle.dg_build.proofs.climb.next_node.Goals as goal

pub add_downs-requires : goal.add_downs-requires
add_downs-requires c =
    let row : List Delta = drop 1 c.args.row.now.items in
    let long : c.args.params.k - 1 ≤ length row = omega (arith, c.requires.there, length-drop 1 c.args.row.now.items) in
    omega (arith, c.requires.arity, ap (λ (l : List Delta). length l) c.in_ok-step.ensures.ways, ways_length (take (c.args.params.k - 1) row), length-take-le (c.args.params.k - 1) row long)

pub returns-clause-rest : goal.returns-clause-rest
returns-clause-rest c =
    let row : List Delta = c.args.row.now.items in
    let first : Delta = get_or row 0 c.args.last in
    rest_is c.args.params.k first row (drop 1 row) c.linked_node.new.row.items c.requires.arity (first_and_rest row c.args.last (omega (arith, c.requires.arity, c.requires.there))) c.in_ok-step.ensures.rest

pub returns-clause-frame : goal.returns-clause-frame
returns-clause-frame c = differs_by c.args.segment.now c.add_downs.new.segment _ c.in_ok-down.ensures.ok

pub returns-clause-adds : goal.returns-clause-adds
returns-clause-adds c =
    let row : List Delta = drop 1 c.args.row.now.items in
    let inner : Delta = c.in_ok-step.node.inner in
    let made : List Delta = downs inner c.in_ok-step.node.ways.items in
    let long : c.args.params.k - 1 ≤ length row = omega (arith, c.requires.there, length-drop 1 c.args.row.now.items) in
    omega (arith, deltas_length c.args.segment.now c.add_downs.new.segment made c.in_ok-down.ensures.ok, made_length c.args.params.k row made inner c.requires.arity long (ap (λ (l : List Delta). downs inner l) c.in_ok-step.ensures.ways))

pub returns-clause-is : goal.returns-clause-is
returns-clause-is c events h j more some behind =
    let row : List Delta = c.args.row.now.items in
    let first : Delta = get_or row 0 c.args.last in
    let inner : Delta = c.in_ok-step.node.inner in
    next_is c.args.params events h j more c.args.last first row (drop 1 row) c.linked_node.new.row.items inner c.in_ok-step.step c.in_ok-down.down
    (downs inner c.in_ok-step.node.ways.items) c.args.segment.now c.add_downs.new.segment c.requires.arity some behind (first_and_rest row c.args.last (omega (arith, c.requires.arity, c.requires.there))) c.in_ok-step.ensures.rest c.in_ok-step.ensures.inner
    c.in_ok-step.ensures.step (ap (λ (l : List Delta). downs inner l) c.in_ok-step.ensures.ways) c.in_ok-down.ensures.last c.in_ok-down.ensures.ok

pub returns-in_err-down-clause-fault : goal.returns-in_err-down-clause-fault
returns-in_err-down-clause-fault c =
    let failed = err_from_is_err_and c.from_residual-in_err-down.result c.from_residual-in_err-down.ensures.1 in
    let row : List Delta = c.args.row.now.items in
    let first : Delta = get_or row 0 c.args.last in
    let inner : Delta = c.in_ok-step.node.inner in
    let made : List Delta = downs inner c.in_ok-step.node.ways.items in
    rw (failed.1, failed.2) (λ events h j more some behind few.
    downs_memory c.args.params events few h (j + 1) (length c.args.segment.now.deltas) made c.in_err-down.field-0.0
    (next_made c.args.params events h j more c.args.last first row (drop 1 row) inner made c.requires.arity some behind (first_and_rest row c.args.last (omega (arith, c.requires.arity, c.requires.there))) c.in_ok-step.ensures.inner
    (ap (λ (l : List Delta). downs inner l) c.in_ok-step.ensures.ways)) c.in_err-down.ensures.fault)

pub returns-in_err-down-clause-wide : goal.returns-in_err-down-clause-wide
returns-in_err-down-clause-wide c =
    let failed = err_from_is_err_and c.from_residual-in_err-down.result c.from_residual-in_err-down.ensures.1 in
    let row : List Delta = drop 1 c.args.row.now.items in
    let inner : Delta = c.in_ok-step.node.inner in
    let made : List Delta = downs inner c.in_ok-step.node.ways.items in
    let old : ℕ = length c.args.segment.now.deltas in
    let long : c.args.params.k - 1 ≤ length row = omega (arith, c.requires.there, length-drop 1 c.args.row.now.items) in
    rw (failed.1, failed.2)
    (below_more (old + length made) (old + c.args.params.k) c.in_err-down.field-0.0 (omega (arith, made_length c.args.params.k row made inner c.requires.arity long (ap (λ (l : List Delta). downs inner l) c.in_ok-step.ensures.ways)))
    (below_end old made c.in_err-down.field-0.0 c.in_err-down.ensures.fault))

pub returns-clause-step : goal.returns-clause-step
returns-clause-step c = c.in_ok-step.ensures.step ∙ ap (chained (chained c.args.last (get_or c.args.row.now.items 0 c.args.last))) c.in_ok-step.ensures.inner

pub returns-clause-last : goal.returns-clause-last
returns-clause-last c = c.in_ok-down.ensures.last ∙ (λ i. last_way (downs (c.in_ok-step.ensures.inner i) (c.in_ok-step.ensures.ways i)))

pub returns-clause-given : goal.returns-clause-given
returns-clause-given c =
    added_by (downs c.in_ok-step.node.inner c.in_ok-step.node.ways.items) (downs_by c.args.params (drop 1 c.args.row.now.items)) c.args.segment.now c.add_downs.new.segment c.in_ok-down.ensures.ok
    (λ i. downs (c.in_ok-step.ensures.inner i) (c.in_ok-step.ensures.ways i)) c.in_ok-down.ensures.narrow

pub returns-in_err-down-clause-first : goal.returns-in_err-down-clause-first
returns-in_err-down-clause-first c =
    let failed = err_from_is_err_and c.from_residual-in_err-down.result c.from_residual-in_err-down.ensures.1 in
    let made_is : downs c.in_ok-step.node.inner c.in_ok-step.node.ways.items ≡ downs_by c.args.params (drop 1 c.args.row.now.items) = (λ i. downs (c.in_ok-step.ensures.inner i) (c.in_ok-step.ensures.ways i)) in
    rw (failed.1, failed.2) (subst (λ (l : List Delta). IsFaultOfDeltas (length c.args.segment.now.deltas) l c.in_err-down.field-0.0) made_is c.in_err-down.ensures.fault)
