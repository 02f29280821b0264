use Rattle.std.proofs.Common.{arith, ◌+◌, get_or, refl}
use Rattle.dg_handles.proofs.HandleAdditions.{slots_more, table_more}
use Rattle.dg_handles.proofs.entries.enter.Goals as goal

pub loop-i-preserved : goal.loop-i-preserved
loop-i-preserved c =
    let e = c.push_reserved.ensures in
    let i = c.loop-i.i in
    record {
      table = table_more c.args.next c.args.stands.now _ c.args.entries.now.items c.loop-i.entries.items c.push_reserved.new.self.items _ i c.loop-i-test.true refl e.items c.loop-i.invariant.table;
      slots = slots_more c.args.slots.now c.args.entries.now.items c.loop-i.entries.items c.push_reserved.new.self.items _ i _ (omega (arith, c.loop-i-test.true, c.requires.slots)) refl e.items c.loop-i.invariant.slots;
      len = omega (arith, e.len, c.loop-i.invariant.len);
      capacity = omega (arith, e.capacity, c.loop-i.invariant.capacity);
    }
