use Rattle.std.proofs.Common.{◌<◌, length, arith}
use Rattle.std.specs.Map.{keys_of}
use Rattle.std.proofs.lemmas.Map.Entries.{length-keys_of}
use Rattle.dg_current.specs.HeldSet.{lost_at, gained_at}
use Rattle.dg_current.specs.declared.element_id.ElementId.TheVariants.{Message}
use Rattle.dg_current.proofs.HeldSet.{listed_more}
use Rattle.dg_current.proofs.held_set.changes.Goals as goal

pub loop-index-preserved : goal.loop-index-preserved
loop-index-preserved c =
    let base = c.args.base.now in
    let entries = c.args.elements.now.entries in
    let i = c.loop-index.index in
    let test = c.loop-index-test.true in
    let long = c.len-index-end.ensures.len in
    let less : i < length (keys_of entries) = omega (arith, length-keys_of entries) in
    let change = c.change_at-lost in
    record {
      lost = listed_more (lost_at base entries) (keys_of entries) i Message c.loop-index.all_lost.items c.push.new.elements.items change.result.0
          less (change.ensures.lost Message) c.in_ok-push.ensures c.loop-index.invariant.lost;
      gained = listed_more (gained_at base entries) (keys_of entries) i Message c.loop-index.all_gained.items c.push-in-loop-index.new.elements.items change.result.1
          less (change.ensures.gained Message) c.in_ok-push-2.ensures c.loop-index.invariant.gained;
    }
