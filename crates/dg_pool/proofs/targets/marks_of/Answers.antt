use Rattle.std.proofs.Common.{◌+◌, ℕ, ◌<◌, take, get_or, List, subst, arith}
use Rattle.std.proofs.lemmas.List.{take_more, take_all}
use Rattle.dg_pool.specs.declared.slots.Slot.{Slot}
use Rattle.dg_pool.specs.Changes.{AreMarks, numbers_of}
use Rattle.dg_pool.proofs.ChangeMasks.{listed_at, listed_high, marks_more}
use Rattle.dg_pool.proofs.targets.marks_of.Goals as goal
use Rattle.dg_pool.proofs.targets.marks_of.Goals.{In-loop-slot}

abbrev none : Slot
none = record { 0 = 0 }

abbrev number : In-loop-slot → ℕ
number c = (get_or c.args.slots.now c.loop-slot.slot-index none).0

high : (c : In-loop-slot) → number c < 128
high c = listed_high c.args.states.now (numbers_of c.args.slots.now) c.requires (number c) (listed_at c.args.slots.now c.loop-slot.slot-index none c.loop-slot-test.true)

pub overflow_mul-slot : goal.overflow_mul-slot
overflow_mul-slot c = let b = high (goal.at.overflow_mul-slot c).In-loop-slot in omega arith

pub overflow_mul-slot-in-loop-slot : goal.overflow_mul-slot-in-loop-slot
overflow_mul-slot-in-loop-slot c = let b = high (goal.at.overflow_mul-slot-in-loop-slot c).In-loop-slot in omega arith

pub overflow_mul-slot-in-loop-slot-2 : goal.overflow_mul-slot-in-loop-slot-2
overflow_mul-slot-in-loop-slot-2 c = let b = high (goal.at.overflow_mul-slot-in-loop-slot-2 c).In-loop-slot in omega arith

pub overflow_add-slot : goal.overflow_add-slot
overflow_add-slot c = let b = high (goal.at.overflow_add-slot c).In-loop-slot in omega arith

pub loop-slot-preserved : goal.loop-slot-preserved
loop-slot-preserved c =
    let slots = c.args.slots.now in
    let i = c.loop-slot.slot-index in
    marks_more (take i slots) (take (i + 1) slots) (get_or slots i none) (take_more slots i none c.loop-slot-test.true)
    c.loop-slot.explicit c.loop-slot.both c.put_bit.new.mask c.put_bit-in-loop-slot.new.mask c.put_bit-in-loop-slot-2.new.mask c.loop-slot.invariant c.put_bit.ensures.len c.put_bit-in-loop-slot-2.ensures.len
    c.put_bit.ensures.bits c.put_bit-in-loop-slot.ensures.bits c.put_bit-in-loop-slot-2.ensures.bits

pub returns : goal.returns
returns c =
    let slots = c.args.slots.now in
    let i = c.loop-slot.slot-index in
    subst (λ (l : List Slot). AreMarks (numbers_of l) c.loop-slot.explicit c.loop-slot.both) (take_all i slots c.loop-slot-test.false) c.loop-slot.invariant
