use Rattle.std.proofs.Common.{arith}
use Rattle.dg_handles.proofs.HandleAdditions.{overlays_more}
use Rattle.dg_handles.proofs.entries.overlays.Goals as goal

pub loop-i-preserved : goal.loop-i-preserved
loop-i-preserved c =
    let e = c.push_reserved.ensures in
    record {
      made = overlays_more c.args.cols c.args.times.now c.args.begins.now _ c.base_of.result c.loop-i.overlays.items c.push_reserved.new.self.items c.loop-i.i c.loop-i-test.true c.requires c.base_of.ensures e.items c.loop-i.invariant.made;
      len = omega (arith, e.len, c.loop-i.invariant.len);
      room = omega (arith, e.capacity, c.loop-i.invariant.room);
    }
