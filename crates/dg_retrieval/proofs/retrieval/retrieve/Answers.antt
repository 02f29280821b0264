-- What is written along the tree leads to each target as its path does, and so to the graphs.
use Rattle.std.proofs.Common.{[], ◌∷◌}
use Rattle.std.proofs.lemmas.Option.{IfSome_then}
use Rattle.dg_fold.specs.Faults.{of_fold}
use Rattle.dg_history.specs.declared.node.NodeId.TheVariants.{Root}
use Rattle.dg_plan.specs.IndexGraph.{arcs_of}
use Rattle.dg_planner.specs.Trees.{grafts_in}
use Rattle.dg_records.specs.declared.fault.RecordFault.TheVariants as fault
use Rattle.dg_retrieval.specs.Beginnings.{leads_from}
use Rattle.dg_retrieval.proofs.CallRecords.{damage_told, memory_is_none, no_damage_told, no_graphs, of_both, retrieve_failed}
use Rattle.dg_retrieval.proofs.RetrievalGraphs.{index_over, leads_come, singles_many}
use Rattle.dg_retrieval.proofs.TreeLeadReads.{damage_of, never_of, whole_of, written_along}
use Rattle.dg_retrieval.proofs.retrieval.retrieve.Goals as goal

-- ---- where the tree is not read

pub returns-in_err-tree-clause-damage : goal.returns-in_err-tree-clause-damage
returns-in_err-tree-clause-damage g c =
    no_damage_told c.args.from.now.name_count c.args.from.now.planner.now.edges c.args.from.now.index.now.opening c.args.from.now.cols c.args.targets.now (g.D.Disk.image c.args.disk.now) c.from_residual.result c.in_err-tree.field-0.0 c.from_residual.ensures c.in_err-tree.ensures.never

pub returns-in_err-tree-clause-takes : goal.returns-in_err-tree-clause-takes
returns-in_err-tree-clause-takes g c =
    IfSome_then (g.D.Disk.image c.args.disk.now) (c.in_err-tree.ensures.over c.args.from.now.name_count)
    (λ im at z over. retrieve_failed c.from_residual.result c.in_err-tree.field-0.0 c.from_residual.ensures (at z over) c.in_err-tree.ensures.never)

pub returns-in_err-tree-clause-over : goal.returns-in_err-tree-clause-over
returns-in_err-tree-clause-over g c =
    IfSome_then (g.D.Disk.image c.args.disk.now) (returns-in_err-tree-clause-takes g c) (λ im at z now over. no_graphs c.from_residual.result c.from_residual.ensures.0 (at z (index_over over)))

-- ---- where it is not written

pub returns-in_err-writings-clause-damage : goal.returns-in_err-writings-clause-damage
returns-in_err-writings-clause-damage g c =
    let image = g.D.Disk.image c.args.disk.now in
    let done = c.in_ok-tree.ensures.done in
    damage_told c.args.from.now.name_count c.args.from.now.planner.now.edges c.args.from.now.index.now.opening c.args.from.now.cols c.args.targets.now image c.from_residual-in_err-writings.result (of_fold c.in_err-writings.field-0.0) c.from_residual-in_err-writings.ensures
    (damage_of done.walk c.deref.ensures.value c.deref-2.ensures.value c.args.from.now.index.now.opening c.args.from.now.cols image done.parts c.args.from.now.name_count c.args.from.now.recent.now c.args.times.now
    c.in_err-writings.field-0.0 c.in_err-writings.ensures.err)

pub returns-in_err-writings-clause-takes : goal.returns-in_err-writings-clause-takes
returns-in_err-writings-clause-takes g c =
    let image = g.D.Disk.image c.args.disk.now in
    let done = c.in_ok-tree.ensures.done in
    of_both image (c.in_ok-tree.ensures.over c.args.from.now.name_count)
    (never_of done.walk c.deref.ensures.value c.deref-2.ensures.value c.args.from.now.index.now.opening c.args.from.now.cols image done.parts c.args.from.now.name_count c.args.from.now.recent.now c.args.times.now
    c.requires.over.edges c.in_err-writings.field-0.0 c.in_err-writings.ensures.err)
    (λ im at none z over. retrieve_failed c.from_residual-in_err-writings.result (of_fold c.in_err-writings.field-0.0) c.from_residual-in_err-writings.ensures (at z over) (none z over))

pub returns-in_err-writings-clause-over : goal.returns-in_err-writings-clause-over
returns-in_err-writings-clause-over g c =
    IfSome_then (g.D.Disk.image c.args.disk.now) (returns-in_err-writings-clause-takes g c)
    (λ im at z now over. no_graphs c.from_residual-in_err-writings.result c.from_residual-in_err-writings.ensures.0 (at z (index_over over)))

-- ---- where its beginnings are not given

pub returns-in_err-begins-clause-damage : goal.returns-in_err-begins-clause-damage
returns-in_err-begins-clause-damage g c =
    no_damage_told c.args.from.now.name_count c.args.from.now.planner.now.edges c.args.from.now.index.now.opening c.args.from.now.cols c.args.targets.now (g.D.Disk.image c.args.disk.now) c.from_residual-in_err-begins.result fault.Memory c.from_residual-in_err-begins.ensures memory_is_none

pub returns-in_err-begins-clause-takes : goal.returns-in_err-begins-clause-takes
returns-in_err-begins-clause-takes g c =
    IfSome_then (g.D.Disk.image c.args.disk.now) (c.in_ok-tree.ensures.over c.args.from.now.name_count)
    (λ im at z over. retrieve_failed c.from_residual-in_err-begins.result fault.Memory c.from_residual-in_err-begins.ensures (at z over) memory_is_none)

pub returns-in_err-begins-clause-over : goal.returns-in_err-begins-clause-over
returns-in_err-begins-clause-over g c =
    IfSome_then (g.D.Disk.image c.args.disk.now) (returns-in_err-begins-clause-takes g c)
    (λ im at z now over. no_graphs c.from_residual-in_err-begins.result c.from_residual-in_err-begins.ensures.0 (at z (index_over over)))

-- ---- where all is given

pub returns-clause-damage : goal.returns-clause-damage
returns-clause-damage g c =
    let done = c.in_ok-tree.ensures.done in
    whole_of done.walk c.deref.ensures.value c.deref-2.ensures.value c.args.from.now.index.now.opening c.args.from.now.cols (g.D.Disk.image c.args.disk.now) done.parts c.args.from.now.name_count
    c.args.from.now.recent.now c.args.times.now c.in_ok-writings.ensures.read.0 c.in_ok-writings.ensures.read.1

pub returns-clause-takes : goal.returns-clause-takes
returns-clause-takes g c =
    IfSome_then (g.D.Disk.image c.args.disk.now) (c.in_ok-tree.ensures.over c.args.from.now.name_count) (λ im at z over.
    let a = at z over in
    record { takes = a.takes; most = a.most; shared = a.shared; never = tt })

pub returns-clause-done : goal.returns-clause-done
returns-clause-done g c =
    let done = c.in_ok-tree.ensures.done in
    let led =
    written_along done.walk c.deref.ensures.value c.deref-2.ensures.value c.args.from.now.index.now.opening c.args.from.now.cols (g.D.Disk.image c.args.disk.now) done.parts c.args.from.now.name_count
    c.args.from.now.recent.now c.args.times.now c.requires.over.edges c.in_ok-writings.writings.items c.in_ok-writings.ensures.ok c.deref-3.result.now c.deref-3.ensures.value c.in_ok-begins.begins.items c.in_ok-begins.ensures in
    record {
      count = led.0.count;
      singles_count = singles_many (arcs_of c.args.from.now.planner.now.edges) (Root ∷ []) c.args.targets.now c.in_ok-tree.field-0.tree.singles.items done.singles;
      tree = (grafts_in c.in_ok-tree.field-0.tree, done.walk.tree, done.weight, led.0.bases);
      singles = done.singles;
      sum = done.sum;
      light = done.light;
      light_sum = done.light_sum;
      offered = led.0.offered;
      named = led.1;
    }

pub returns-clause-led : goal.returns-clause-led
returns-clause-led g c =
    let done = c.in_ok-tree.ensures.done in
    let led =
    written_along done.walk c.deref.ensures.value c.deref-2.ensures.value c.args.from.now.index.now.opening c.args.from.now.cols (g.D.Disk.image c.args.disk.now) done.parts c.args.from.now.name_count
    c.args.from.now.recent.now c.args.times.now c.requires.over.edges c.in_ok-writings.writings.items c.in_ok-writings.ensures.ok c.deref-3.result.now c.deref-3.ensures.value c.in_ok-begins.begins.items c.in_ok-begins.ensures in
    IfSome_then (g.D.Disk.image c.args.disk.now) led.0.there
    (λ im there. record { grafts = grafts_in c.in_ok-tree.field-0.tree; tree = done.walk.tree; weight = done.weight; led = there })

pub returns-clause-over : goal.returns-clause-over
returns-clause-over g c =
    let image = g.D.Disk.image c.args.disk.now in
    let leads = leads_from 0 c.in_ok-begins.begins.items c.in_ok-writings.writings.items in
    of_both image (returns-clause-led g c) (returns-clause-takes g c) (λ im led at z now over.
    let a = at z (index_over over) in
    record {
      graphs = λ held are_held points.
          leads_come c.args.from.now.index.now.opening c.args.from.now.cols c.args.from.now.planner.now.edges c.requires.over.edges c.args.targets.now led.grafts c.args.from.now.name_count
          c.args.from.now.recent.now c.args.times.now leads im led.led z now held over are_held points;
      takes = a.takes;
      most = a.most;
      never = tt;
    })
