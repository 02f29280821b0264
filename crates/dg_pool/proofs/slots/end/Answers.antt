use Rattle.std.proofs.Common.{arith, ◌≡◌, ℕ, ◌+◌, ◌<◌, ap, sym, ◌∙◌, set, ◌⊎◌, inl, inr}
use Rattle.std.proofs.lemmas.Bool.{cases_eq}
use Rattle.std.proofs.lemmas.List.{get_or-set_same, get_or-set_other, length-set}
use Rattle.dg_pool.specs.declared.slots.SlotState.TheVariants as state
use Rattle.dg_pool.specs.Graphs.{slot_at}
use Rattle.dg_pool.specs.Sweeps.{ended}
use Rattle.dg_pool.proofs.slots.end.Goals as goal

pub loop-slot-preserved : goal.loop-slot-preserved
loop-slot-preserved c = record {
  count = length-set c.loop-slot.slots c.loop-slot.slot c.ended.result ∙ c.loop-slot.invariant.count;
  done = λ s h. at s h (cases_eq s c.loop-slot.slot);
  rest = λ s h. get_or-set_other c.loop-slot.slots c.loop-slot.slot s c.ended.result state.Free (λ e. omega arith) ∙ c.loop-slot.invariant.rest s (omega arith);
}
  where
    at : (s : ℕ) → s < c.loop-slot.slot + 1 → ((s ≡ c.loop-slot.slot) ⊎ (s ≡ c.loop-slot.slot → ⊥)) → slot_at (set c.loop-slot.slots c.loop-slot.slot c.ended.result) s ≡ ended (slot_at c.args.slots.now s)
    at s h (inl e) =
        ap (slot_at (set c.loop-slot.slots c.loop-slot.slot c.ended.result)) e ∙ get_or-set_same c.loop-slot.slots c.loop-slot.slot c.ended.result state.Free (omega arith) ∙ c.ended.ensures
        ∙ ap ended (c.loop-slot.invariant.rest c.loop-slot.slot (omega arith)) ∙ ap (λ n. ended (slot_at c.args.slots.now n)) (sym e)
    at s h (inr d) = get_or-set_other c.loop-slot.slots c.loop-slot.slot s c.ended.result state.Free d ∙ c.loop-slot.invariant.done s (omega arith)
