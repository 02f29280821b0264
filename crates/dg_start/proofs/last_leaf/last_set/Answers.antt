use Rattle.std.proofs.Common.{List, Ok, refl, subst, sym}
use Rattle.std.specs.Prelude.{IfSome}
use Rattle.std.specs.List.{Contains}
use Rattle.dg_history.specs.declared.node.NodeId.{NodeId}
use Rattle.dg_index.specs.OpenedIndex.{Opening}
use Rattle.dg_retrieval.specs.NodeSets.{IsLedByPlan}
use Rattle.dg_start.specs.declared.fault.StartFault.{StartFault}
use Rattle.dg_start.specs.declared.fault.StartFault.TheVariants as fault
use Rattle.dg_start.specs.Calls.{plan_bytes}
use Rattle.dg_start.specs.Faults.{start_fault_of}
use Rattle.dg_start.specs.Refusals.{RefusesPlan}
use Rattle.dg_start.specs.SessionStart.{last_leaf}
use Rattle.dg_start.proofs.SessionStartSets.{leaf_there, plan_unread, refused_so, set_fails, set_taken}
use Rattle.dg_start.proofs.EventSourceOutcomes.{err_is}
use Rattle.dg_start.proofs.last_leaf.last_set.Goals as goal

pub plan_set-requires-clause-node : goal.plan_set-requires-clause-node
plan_set-requires-clause-node g c κs within =
    let o : Opening = c.args.index.now.opening in
    subst (λ (n : NodeId). Contains c.in_ok-planner.planner.nodes n) (sym c.last_leaf-leaf.ensures)
    (subst (λ (ns : List NodeId). Contains ns (last_leaf o)) (sym c.in_ok-planner.ensures.nodes) (leaf_there o))

pub returns-in_err-planner-clause-takes : goal.returns-in_err-planner-clause-takes
returns-in_err-planner-clause-takes g c =
    let o : Opening = c.args.index.now.opening in
    plan_unread (g.D.Disk.image c.args.disk.now) c.from_residual.result fault.Memory (plan_bytes o) o c.args.names (g.D.Disk.taken c.args.disk.now) (g.D.Disk.taken c.args.disk.now) c.from_residual.ensures refl

pub returns-in_err-set-clause-refused : goal.returns-in_err-set-clause-refused
returns-in_err-set-clause-refused g c =
    let o : Opening = c.args.index.now.opening in
    err_is c.from_residual-in_err-set.result (start_fault_of c.in_err-set.field-0.0) (λ (f : StartFault). IfSome (g.D.Disk.image c.args.disk.now) (λ image. RefusesPlan c.args.names image o f))
    c.from_residual-in_err-set.ensures
    (refused_so (g.D.Disk.image c.args.disk.now) c.args.names o c.last_leaf-leaf.result c.in_err-set.field-0.0 c.last_leaf-leaf.ensures c.in_err-set.ensures.led)

pub returns-in_err-set-clause-takes : goal.returns-in_err-set-clause-takes
returns-in_err-set-clause-takes g c =
    let o : Opening = c.args.index.now.opening in
    set_fails (g.D.Disk.image c.args.disk.now) o c.args.names c.in_ok-planner.planner.edges c.last_leaf-leaf.result (g.D.Disk.taken c.args.disk.now) (g.D.Disk.taken c.plan_set.new.disk)
    c.in_ok-planner.ensures.edges c.last_leaf-leaf.ensures c.from_residual-in_err-set.result (start_fault_of c.in_err-set.field-0.0) c.in_err-set.field-0.0 c.from_residual-in_err-set.ensures c.in_err-set.ensures.over

pub returns-clause-led : goal.returns-clause-led
returns-clause-led g c =
    subst (λ (n : NodeId). IfSome (g.D.Disk.image c.args.disk.now) (λ image. IsLedByPlan c.args.names image c.args.index.now.opening n (Ok c.in_ok-set.set))) c.last_leaf-leaf.ensures
    c.in_ok-set.ensures.led

pub returns-clause-takes : goal.returns-clause-takes
returns-clause-takes g c =
    let o : Opening = c.args.index.now.opening in
    set_taken (g.D.Disk.image c.args.disk.now) o c.args.names c.in_ok-planner.planner.edges c.last_leaf-leaf.result (g.D.Disk.taken c.args.disk.now) (g.D.Disk.taken c.plan_set.new.disk)
    c.in_ok-planner.ensures.edges c.last_leaf-leaf.ensures c.in_ok-set.set c.in_ok-set.ensures.over
