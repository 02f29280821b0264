use Rattle.std.proofs.Common.{◌∙◌, ℕ, List, Option, Ok, Err, length, ap}
use Rattle.dg_append.proofs.KeptBatchOutcomes.{err_is}
use Rattle.dg_append.proofs.BatchSegmentHistory.{kept_takes, made_over, steps_given, unmade_over, unread_over}
use Rattle.dg_append.proofs.batch_segment.make_segment.Goals as goal
use Rattle.dg_append.specs.declared.next_batch.NextBatch.{NextBatch}
use Rattle.dg_append.specs.Faults.{of_retrieval}
use Rattle.dg_graph.specs.Composition.{Delta}
use Rattle.dg_index.specs.OpenedIndex.{Opening}

pub segment_of-requires-clause-older : goal.segment_of-requires-clause-older
segment_of-requires-clause-older g c =
    ap (λ (l : List Delta). length l) c.deref.ensures.value ∙ c.in_ok-older.ensures.count

pub returns-in_err-older-clause-fails : goal.returns-in_err-older-clause-fails
returns-in_err-older-clause-fails g c =
    err_is c.from_residual.result (of_retrieval c.in_err-older.field-0.0) _ c.from_residual.ensures
    (unread_over c.args.index.now.opening c.args.next.now c.args.next.now.current.now.graph (g.D.Disk.image c.args.disk.now) (g.D.Disk.taken c.args.disk.now) (g.D.Disk.taken c.older_steps.new.disk) c.in_err-older.field-0.0
    c.in_err-older.ensures.over c.in_err-older.ensures.damage)

pub returns-in_err-older-clause-most : goal.returns-in_err-older-clause-most
returns-in_err-older-clause-most g c =
    kept_takes c.args.index.now.opening c.args.next.now c.args.next.now.current.now.graph (g.D.Disk.image c.args.disk.now) (g.D.Disk.taken c.args.disk.now) (g.D.Disk.taken c.older_steps.new.disk)
    (Err c.in_err-older.field-0.0) c.in_err-older.ensures.over

pub returns-clause-made : goal.returns-clause-made
returns-clause-made g c =
    let told : Option (List ℕ) = g.D.Disk.image c.args.disk.now in
    let o : Opening = c.args.index.now.opening in
    let n : NextBatch = c.args.next.now in
    made_over told o n c.args.next.now.current.now.graph c.in_ok-older.older.items c.deref.result.now
    c.deref.ensures.value c.requires.next
    (steps_given o n c.args.next.now.current.now.graph told (g.D.Disk.taken c.args.disk.now) (g.D.Disk.taken c.older_steps.new.disk) c.in_ok-older.older c.in_ok-older.ensures.over)
    c.in_ok-older.ensures.damage c.in_ok-older.ensures.led c.segment_of.result c.segment_of.ensures.behind c.segment_of.ensures.is

pub returns-clause-fails : goal.returns-clause-fails
returns-clause-fails g c =
    let told : Option (List ℕ) = g.D.Disk.image c.args.disk.now in
    let o : Opening = c.args.index.now.opening in
    let n : NextBatch = c.args.next.now in
    unmade_over told o n c.args.next.now.current.now.graph c.in_ok-older.older.items c.deref.result.now
    c.deref.ensures.value c.requires.next
    (steps_given o n c.args.next.now.current.now.graph told (g.D.Disk.taken c.args.disk.now) (g.D.Disk.taken c.older_steps.new.disk) c.in_ok-older.older c.in_ok-older.ensures.over)
    c.in_ok-older.ensures.damage c.in_ok-older.ensures.led c.segment_of.result c.segment_of.ensures.fails c.segment_of.ensures.never

pub returns-clause-most : goal.returns-clause-most
returns-clause-most g c =
    kept_takes c.args.index.now.opening c.args.next.now c.args.next.now.current.now.graph (g.D.Disk.image c.args.disk.now) (g.D.Disk.taken c.args.disk.now) (g.D.Disk.taken c.older_steps.new.disk)
    (Ok c.in_ok-older.older) c.in_ok-older.ensures.over
