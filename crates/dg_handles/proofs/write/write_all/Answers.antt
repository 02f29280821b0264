use Rattle.std.proofs.Common.{◌≡◌, ◌+◌, List, [], ◌∷◌, ◌++◌, take, refl, sym, ap, subst, ◌∙◌}
use Rattle.std.proofs.lemmas.List.{take_more}
use Rattle.dg_fold.specs.declared.writing.Writing.{Writing}
use Rattle.dg_handles.specs.Written.{AreWritten, slots_for}
use Rattle.dg_handles.proofs.WrittenSlots.{can_after_change, others_some, written_more, written_none}
use Rattle.dg_pool.specs.Changes.{ChangesSlots, numbers_of}
use Rattle.dg_handles.proofs.write.write_all.Goals as goal

pub loop-writing-init : goal.loop-writing-init
loop-writing-init c = record {
  written = written_none 0 (numbers_of c.args.slots.now) c.args.pool.now;
  others = λ s e. refl;
  now = refl;
  can = c.requires;
}

pub loop-writing-preserved : goal.loop-writing-preserved
loop-writing-preserved c =
    let slots = numbers_of c.args.slots.now in
    let old = c.args.pool.now in
    let mid = c.loop-writing.pool in
    let new = c.write.new.pool in
    let w = c.writing-item.result in
    let so_far = c.loop-writing.invariant in
    let changes : ChangesSlots (slots_for 0 w slots) w.delta mid new = c.in_ok-write.ensures.changes in
    let more : take (c.loop-writing.writing-index + 1) c.args.writings.now ≡ take c.loop-writing.writing-index c.args.writings.now ++ w ∷ [] =
    take_more c.args.writings.now c.loop-writing.writing-index w c.loop-writing-test.true ∙ ap (λ (x : Writing). take c.loop-writing.writing-index c.args.writings.now ++ x ∷ []) (sym c.writing-item.is) in
    record {
      written = subst (λ (ws : List Writing). AreWritten 0 slots ws old new) (sym more) (written_more (take c.loop-writing.writing-index c.args.writings.now) w old mid new slots so_far.can.apart so_far.written changes);
      others = λ s e. others_some w slots mid new changes s e ∙ so_far.others s e;
      now = changes.now ∙ so_far.now;
      can = can_after_change slots (slots_for 0 w slots) w.delta mid new changes so_far.can;
    }
