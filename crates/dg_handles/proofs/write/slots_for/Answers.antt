use Rattle.std.proofs.Common.{arith, ℕ, ◌+◌, ◌++◌, List, drop, sym, ap, ◌∙◌, vec_capacity, vec_len}
use Rattle.dg_handles.specs.Written.{slots_for}
use Rattle.dg_handles.proofs.WrittenSlots.{chosen_more, chosen_past}
use Rattle.dg_pool.specs.Changes.{numbers_of}
use Rattle.dg_handles.proofs.write.slots_for.Goals as goal
use Rattle.dg_handles.proofs.write.slots_for.Goals.{then-is_for, else-is_for}

pub loop-i-preserved : goal.loop-i-preserved
loop-i-preserved c =
    let w = c.args.writing.now in
    let slots = c.args.slots.now in
    let i = c.loop-i.i in
    let inv = c.loop-i.invariant in
    let later : List ℕ = slots_for (i + 1) w (drop (i + 1) (numbers_of slots)) in
    elim c.if-is_for.branch [
      | then-is_for b ↦ record {
        chosen = ap (λ v. numbers_of v.items ++ later) b.chosen-is
            ∙ chosen_more w slots i _ c.loop-i-test.true c.loop-i.chosen.items b.push_reserved.new.self.items (sym c.is_for.ensures ∙ b.if-is_for.true) b.push_reserved.ensures.items inv.chosen;
        len = omega (arith, ap (λ v. vec_len v) b.chosen-is, b.push_reserved.ensures.len, inv.len);
        room = omega (arith, ap (λ v. vec_capacity v) b.chosen-is, b.push_reserved.ensures.capacity, inv.room);
      }
      | else-is_for b ↦ record {
        chosen = ap (λ v. numbers_of v.items ++ later) b.chosen-is
            ∙ chosen_past w slots i (record { 0 = 0 }) c.loop-i-test.true c.loop-i.chosen.items (sym c.is_for.ensures ∙ b.if-is_for.false) inv.chosen;
        len = omega (arith, ap (λ v. vec_len v) b.chosen-is, inv.len);
        room = omega (arith, ap (λ v. vec_capacity v) b.chosen-is, inv.room);
      }
    ]
