-- The steps are those of the tree that is read.
use Rattle.std.proofs.lemmas.Option.{IfSome_then}
use Rattle.dg_plan.specs.HistoryGraph.{all_columns}
use Rattle.dg_fold.specs.Faults.{of_fold}
use Rattle.dg_retrieval.proofs.CallRecords.{damage_told, no_damage_told, of_both}
use Rattle.dg_steps.proofs.NodeStepCalls.{alone, damage_of, exact_of_history, led_of, never_of, reached, steps_failed, steps_many, whole_of}
use Rattle.dg_steps.proofs.record_steps.node_steps.Goals as goal

pub read_tree-requires-clause-over : goal.read_tree-requires-clause-over
read_tree-requires-clause-over g c = record { image = c.requires.over.image; edges = alone c.args.from.now.index.now.opening c.args.from.now.planner.now.edges c.requires.over.edges }

pub tree_steps-requires-clause-reached : goal.tree_steps-requires-clause-reached
tree_steps-requires-clause-reached g c =
    let done = c.in_ok-branches.ensures.done in
    reached done.walk c.deref.ensures.value c.deref-2.ensures.value c.args.nodes.now c.requires.nodes

pub returns-in_err-branches-clause-over : goal.returns-in_err-branches-clause-over
returns-in_err-branches-clause-over g c =
    IfSome_then (g.D.Disk.image c.args.disk.now) (c.in_err-branches.ensures.over c.args.from.now.name_count)
    (λ im at z over. steps_failed c.from_residual.result c.in_err-branches.field-0.0 c.from_residual.ensures (at z over).shared c.in_err-branches.ensures.never)

pub returns-in_err-branches-clause-damage : goal.returns-in_err-branches-clause-damage
returns-in_err-branches-clause-damage g c =
    no_damage_told c.args.from.now.name_count c.args.from.now.planner.now.edges c.args.from.now.index.now.opening all_columns c.args.targets.now (g.D.Disk.image c.args.disk.now) c.from_residual.result
    c.in_err-branches.field-0.0 c.from_residual.ensures c.in_err-branches.ensures.never

pub returns-in_err-tree_steps-clause-over : goal.returns-in_err-tree_steps-clause-over
returns-in_err-tree_steps-clause-over g c =
    let image = g.D.Disk.image c.args.disk.now in
    let done = c.in_ok-branches.ensures.done in
    of_both image (c.in_ok-branches.ensures.over c.args.from.now.name_count)
    (never_of done.walk c.deref.ensures.value c.deref-2.ensures.value c.args.from.now.index.now.opening image done.parts c.args.from.now.name_count c.requires.over.edges c.in_err-tree_steps.field-0.0 c.in_err-tree_steps.ensures.err)
    (λ im at none z over. steps_failed c.from_residual-in_err-tree_steps.result (of_fold c.in_err-tree_steps.field-0.0) c.from_residual-in_err-tree_steps.ensures (at z over).shared (none z over))

pub returns-in_err-tree_steps-clause-damage : goal.returns-in_err-tree_steps-clause-damage
returns-in_err-tree_steps-clause-damage g c =
    let image = g.D.Disk.image c.args.disk.now in
    let done = c.in_ok-branches.ensures.done in
    damage_told c.args.from.now.name_count c.args.from.now.planner.now.edges c.args.from.now.index.now.opening all_columns c.args.targets.now image c.from_residual-in_err-tree_steps.result
    (of_fold c.in_err-tree_steps.field-0.0) c.from_residual-in_err-tree_steps.ensures
    (damage_of done.walk c.deref.ensures.value c.deref-2.ensures.value c.args.from.now.index.now.opening image done.parts c.args.from.now.name_count c.in_err-tree_steps.field-0.0 c.in_err-tree_steps.ensures.err)

pub returns-clause-count : goal.returns-clause-count
returns-clause-count g c = steps_many c.args.from.now.name_count _ c.args.nodes.now _ c.in_ok-tree_steps.ensures.ok

pub returns-clause-led : goal.returns-clause-led
returns-clause-led g c =
    let done = c.in_ok-branches.ensures.done in
    led_of done.walk c.deref.ensures.value c.deref-2.ensures.value c.args.from.now.index.now.opening (g.D.Disk.image c.args.disk.now) done.parts c.args.from.now.name_count c.requires.over.edges c.args.nodes.now _ c.in_ok-tree_steps.ensures.ok

pub returns-clause-damage : goal.returns-clause-damage
returns-clause-damage g c =
    let done = c.in_ok-branches.ensures.done in
    whole_of done.walk c.deref.ensures.value c.deref-2.ensures.value c.args.from.now.index.now.opening (g.D.Disk.image c.args.disk.now) done.parts c.args.from.now.name_count c.in_ok-tree_steps.ensures.read.0 c.in_ok-tree_steps.ensures.read.1

pub returns-clause-over : goal.returns-clause-over
returns-clause-over g c =
    let image = g.D.Disk.image c.args.disk.now in
    let done = c.in_ok-branches.ensures.done in
    of_both image
    (exact_of_history done.walk c.deref.ensures.value c.deref-2.ensures.value c.args.from.now.index.now.opening image done.parts c.args.from.now.name_count c.requires.over.edges c.args.nodes.now _ c.in_ok-tree_steps.ensures.ok)
    (c.in_ok-branches.ensures.over c.args.from.now.name_count) (λ im exact at z over. record { steps = exact z over; most = (at z over).shared; never = tt })
