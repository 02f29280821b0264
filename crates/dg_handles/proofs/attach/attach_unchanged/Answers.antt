use Rattle.std.proofs.Common.{List, IfOk, ap, subst, ◌∙◌}
use Rattle.dg_graph.specs.Composition.{Delta, applied}
use Rattle.dg_graph.specs.declared.element.Element.{Element}
use Rattle.dg_graph.specs.Elements.{shown}
use Rattle.dg_handles.specs.Attached.{IsAttached}
use Rattle.dg_handles.proofs.WrittenSlots.{applied_nothing}
use Rattle.dg_pool.specs.Slots.{base_members}
use Rattle.dg_handles.proofs.attach.attach_unchanged.Goals as goal

pub returns-clause-slot : goal.returns-clause-slot
returns-clause-slot c =
    let set : List Element = base_members c.args.pool.now c.args.base in
    subst (λ (m : List Element). IfOk c.attach-2.result (λ s. IsAttached c.args.pool.now c.attach-2.new.pool s.0 (record { base = c.args.base; cols = c.args.cols; members = shown m c.args.cols })))
    (ap (λ (d : Delta). applied d set) c.new.ensures ∙ applied_nothing set) c.attach-2.ensures.slot
