use Rattle.std.proofs.Common.{◌≡◌, ◌+◌, ℕ, true, false, take, get_or, List, subst, sym, ◌∙◌}
use Rattle.std.proofs.lemmas.List.{take_more, take_all}
use Rattle.dg_pool.specs.declared.slots.Slot.{Slot}
use Rattle.dg_pool.specs.Graphs.{is_listed, slot_at}
use Rattle.dg_pool.specs.Changes.{numbers_of, is_on_slot}
use Rattle.dg_pool.proofs.ChangeMasks.{listed_at, listed_high}
use Rattle.dg_pool.proofs.MovedSlots.{fails_more}
use Rattle.dg_pool.proofs.targets.any_on_slot.Goals as goal
use Rattle.dg_pool.proofs.targets.any_on_slot.Goals.{In-loop-slot}

abbrev none : Slot
none = record { 0 = 0 }

pub bounds-states-slot : goal.bounds-states-slot
bounds-states-slot c =
    let l = (goal.at.bounds-states-slot c).In-loop-slot in
    listed_high l.args.states.now (numbers_of l.args.slots.now) l.requires (get_or l.args.slots.now l.loop-slot.slot-index none).0 (listed_at l.args.slots.now l.loop-slot.slot-index none l.loop-slot-test.true)

pub loop-slot-preserved : goal.loop-slot-preserved
loop-slot-preserved c =
    let slots = c.args.slots.now in
    let i = c.loop-slot.slot-index in
    fails_more is_on_slot c.args.states.now (take i slots) (take (i + 1) slots) (get_or slots i none) (take_more slots i none c.loop-slot-test.true) c.loop-slot.invariant (sym c.is_on_slot.ensures ∙ c.if-is_on_slot.false)

pub returns : goal.returns
returns c = λ _.
    subst (λ (l : List Slot). (s : ℕ) → is_listed (numbers_of l) s ≡ true → is_on_slot (slot_at c.args.states.now s) ≡ false) (take_all c.loop-slot.slot-index c.args.slots.now c.loop-slot-test.false) c.loop-slot.invariant
