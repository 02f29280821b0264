use Rattle.std.proofs.Common.{refl}
use Rattle.std.specs.BinaryHeap.{heap_items}
use Rattle.dg_path.proofs.SearchStarts.{planted}
use Rattle.dg_path.proofs.table.add_start.Goals as goal

pub returns : goal.returns
returns c = record {
  added = planted c.args.node c.args.costs.now _ (heap_items c.args.queue.now) (heap_items c.push.new.self) c.requires.node c.requires.fits refl c.in_ok-push.ensures.permutation;
}
