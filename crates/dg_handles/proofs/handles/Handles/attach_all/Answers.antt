use Rattle.std.proofs.Common.{arith, ◌+◌, ◌<◌, List, length, map, take, ap, sym, subst, ◌∙◌}
use Rattle.std.proofs.Math.ListN.{length-map}
use Rattle.std.proofs.lemmas.List.Elements.{All-take}
use Rattle.dg_graph.specs.Elements.{shown}
use Rattle.dg_handles.specs.Attached.{AreAttached, IsAttached, graph_begun}
use Rattle.dg_handles.specs.Handles.{CanBegin}
use Rattle.dg_handles.proofs.AttachedSlots.{attached_begun, attached_live, attached_still, fits, none_on_new, some_free}
use Rattle.dg_pool.specs.declared.slots.Base.{Base}
use Rattle.dg_pool.specs.declared.slots.Slot.{Slot}
use Rattle.dg_pool.specs.Changes.{numbers_of}
use Rattle.dg_pool.specs.Graphs.{is_listed}
use Rattle.dg_pool.specs.Slots.{BaseFits, base_members}
use Rattle.dg_handles.proofs.handles.Handles.attach_all.Goals as goal
use Rattle.dg_handles.proofs.handles.Handles.attach_all.Goals.{After-base_under, After-deref}

pub attach_unchanged-requires : goal.attach_unchanged-requires
attach_unchanged-requires c =
    let h = c.args.self.now in
    let begins = c.args.begins.now in
    let slots = c.loop-begun.slots.items in
    let graphs = map (graph_begun h c.args.pool.now c.args.cols) (take c.loop-begun.begun-index begins) in
    record {
      room =
          let few : length h.table + length (numbers_of slots) < 127 = omega (arith, length-map slots (λ (s : Slot). s.0), c.loop-begun.slots.ok.0, c.loop-begun.invariant.len, c.loop-begun-test.true, c.requires.room) in
          some_free c.args.pool.now c.loop-begun.pool h c.requires.tied (numbers_of slots) graphs c.loop-begun.invariant.attached few;
      base =
          subst (λ (b : Base). BaseFits c.loop-begun.pool b c.args.cols) (sym c.base_under.ensures)
          (fits c.args.pool.now c.loop-begun.pool h c.requires.tied (numbers_of slots) graphs c.loop-begun.invariant.attached c.args.cols _ (c.requires.bases c.loop-begun.begun-index _ c.loop-begun-test.true));
    }

still : (c : After-deref) → AreAttached c.args.pool.now c.attach_unchanged.new.pool (numbers_of c.loop-begun.slots.items) (map (graph_begun c.args.self.now c.args.pool.now c.args.cols) (take c.loop-begun.begun-index c.args.begins.now))
still c = attached_still c.args.pool.now c.loop-begun.pool (numbers_of c.loop-begun.slots.items) _ c.loop-begun.invariant.attached c.attach_unchanged.new.pool c.in-Err.ensures.err

pub detach_all-requires-clause-live : goal.detach_all-requires-clause-live
detach_all-requires-clause-live c = λ s in'.
    attached_live c.args.pool.now c.attach_unchanged.new.pool (numbers_of c.loop-begun.slots.items) _ (still c) s (ap (λ (l : List Slot). is_listed (numbers_of l) s) (sym c.deref.ensures.value) ∙ in')

pub detach_all-requires-clause-unused : goal.detach_all-requires-clause-unused
detach_all-requires-clause-unused c = λ s in'.
    let h = c.args.self.now in
    let some = take c.loop-begun.begun-index c.args.begins.now in
    none_on_new c.args.pool.now c.attach_unchanged.new.pool h c.requires.tied c.args.cols (numbers_of c.loop-begun.slots.items) some
    (All-take (CanBegin h.table c.args.cols) c.loop-begun.begun-index c.args.begins.now c.requires.bases) (still c) s (ap (λ (l : List Slot). is_listed (numbers_of l) s) (sym c.deref.ensures.value) ∙ in')

pub loop-begun-preserved : goal.loop-begun-preserved
loop-begun-preserved c = record {
  attached =
      let mid = c.loop-begun.pool in
      attached_begun c.args.pool.now mid c.attach_unchanged.new.pool c.args.self.now c.requires.tied c.args.cols c.args.begins.now c.loop-begun.begun-index _ c.loop-begun.slots.items c.push_reserved.new.self.items c.in-Ok.slot
      c.loop-begun-test.true c.requires.bases c.push_reserved.ensures.items c.loop-begun.invariant.attached
      (subst (λ (b : Base). IsAttached mid c.attach_unchanged.new.pool c.in-Ok.slot.0 (record { base = b; cols = c.args.cols; members = shown (base_members mid b) c.args.cols })) c.base_under.ensures c.in-Ok.ensures.slot);
  len = omega (arith, c.push_reserved.ensures.len, c.loop-begun.invariant.len);
  room = omega (arith, c.push_reserved.ensures.capacity, c.loop-begun.invariant.room);
}
