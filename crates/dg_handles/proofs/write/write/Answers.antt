use Rattle.std.proofs.Common.{ℕ, List, sym, subst}
use Rattle.dg_handles.proofs.WrittenSlots.{can_some}
use Rattle.dg_pool.specs.Changes.{CanChange, numbers_of}
use Rattle.dg_pool.specs.declared.slots.Slot.{Slot}
use Rattle.dg_handles.proofs.write.write.Goals as goal

pub change-requires : goal.change-requires
change-requires c =
    subst (λ (l : List Slot). CanChange (numbers_of l) c.args.pool.now) (sym c.deref.ensures.value)
    (subst (λ (l : List ℕ). CanChange l c.args.pool.now) (sym c.in_ok-chosen.ensures)
    (can_some c.args.writing.now 0 (numbers_of c.args.slots.now) c.args.pool.now c.requires))
