use Rattle.std.proofs.Common.{◌+◌, ℕ, ◌<◌, take, get_or, List, subst, sym, ◌∙◌}
use Rattle.std.proofs.lemmas.List.{take_more, take_all}
use Rattle.dg_pool.specs.declared.slots.Slot.{Slot}
use Rattle.dg_pool.specs.Changes.{IsMarked, numbers_of}
use Rattle.dg_pool.specs.Changes.{base_has}
use Rattle.dg_pool.proofs.ChangeMasks.{listed_at, listed_high}
use Rattle.dg_pool.proofs.MovedSlots.{marked_put, marked_skip}
use Rattle.dg_pool.proofs.targets.bases_each.Goals as goal
use Rattle.dg_pool.proofs.targets.bases_each.Goals.{In-loop-slot, then-base_has, else-base_has}

abbrev none : Slot
none = record { 0 = 0 }

abbrev number : In-loop-slot → ℕ
number c = (get_or c.args.slots.now c.loop-slot.slot-index none).0

high : (c : In-loop-slot) → number c < 128
high c = listed_high c.args.states.now (numbers_of c.args.slots.now) c.requires.can (number c) (listed_at c.args.slots.now c.loop-slot.slot-index none c.loop-slot-test.true)

pub bounds-states-slot : goal.bounds-states-slot
bounds-states-slot c = high (goal.at.bounds-states-slot c).In-loop-slot

pub loop-slot-preserved : goal.loop-slot-preserved
loop-slot-preserved c = λ r there.
    let states = c.args.states.now in
    let slots = c.args.slots.now in
    let i = c.loop-slot.slot-index in
    let t = get_or slots i none in
    let more = take_more slots i none c.loop-slot-test.true in
    let before = c.loop-slot.invariant r there in
    let is = sym (c.base_has.ensures r there) in
    elim c.if-base_has.branch [
      | then-base_has w ↦ subst (IsMarked (base_has r) states (numbers_of (take (i + 1) slots))) (sym w.mask-is)
          (marked_put (base_has r) states (take i slots) (take (i + 1) slots) t more c.loop-slot.mask w.put_bit.new.mask before w.put_bit.ensures.len w.put_bit.ensures.bits (is ∙ w.if-base_has.true))
      | else-base_has w ↦ subst (IsMarked (base_has r) states (numbers_of (take (i + 1) slots))) (sym w.mask-is)
          (marked_skip (base_has r) states (take i slots) (take (i + 1) slots) t more c.loop-slot.mask before (is ∙ w.if-base_has.false))
    ]

pub returns : goal.returns
returns c = λ r there.
    let slots = c.args.slots.now in
    let i = c.loop-slot.slot-index in
    subst (λ (l : List Slot). IsMarked (base_has r) c.args.states.now (numbers_of l) c.loop-slot.mask) (take_all i slots c.loop-slot-test.false) (c.loop-slot.invariant r there)
