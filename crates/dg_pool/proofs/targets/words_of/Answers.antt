use Rattle.std.proofs.Common.{arith, ◌+◌, ℕ, ◌<◌, take, get_or, List, subst}
use Rattle.std.proofs.lemmas.List.{take_more, take_all}
use Rattle.dg_pool.specs.declared.slots.Slot.{Slot}
use Rattle.dg_pool.specs.Changes.{AreWithin, numbers_of}
use Rattle.dg_pool.proofs.ChangeMasks.{listed_at, listed_high}
use Rattle.dg_pool.proofs.WordSlots.{within_more}
use Rattle.dg_pool.proofs.targets.words_of.Goals as goal
use Rattle.dg_pool.proofs.targets.words_of.Goals.{In-loop-slot}

abbrev none : Slot
none = record { 0 = 0 }

abbrev number : In-loop-slot → ℕ
number c = (get_or c.args.slots.now c.loop-slot.slot-index none).0

high : (c : In-loop-slot) → number c < 128
high c = listed_high c.args.states.now (numbers_of c.args.slots.now) c.requires (number c) (listed_at c.args.slots.now c.loop-slot.slot-index none c.loop-slot-test.true)

pub loop-slot-preserved : goal.loop-slot-preserved
loop-slot-preserved c =
    let slots = c.args.slots.now in
    let i = c.loop-slot.slot-index in
    let b = high (goal.at.loop-slot-preserved c).In-loop-slot in
    let few = c.loop-slot.invariant.few in
    within_more (take i slots) (take (i + 1) slots) (get_or slots i none) (take_more slots i none c.loop-slot-test.true) c.loop-slot.first c.loop-slot.end c.min-first.result c.max-end.result c.loop-slot.invariant
    (omega arith) (omega arith) (omega arith) (omega arith) (omega arith)

pub returns : goal.returns
returns c =
    subst (λ (l : List Slot). AreWithin (numbers_of l) c.loop-slot.first c.loop-slot.end) (take_all c.loop-slot.slot-index c.args.slots.now c.loop-slot-test.false) c.loop-slot.invariant
