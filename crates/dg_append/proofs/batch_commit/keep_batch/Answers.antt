use Rattle.std.proofs.Common.{inl, Some, Err, take, drop, sym, ap, subst, arith}
use Rattle.dg_append.proofs.BatchCrashes.{cause_made, kept_leaves, not_kept_leaves, reads_leave}
use Rattle.dg_append.proofs.BatchSegmentIndex.{segment_due}
use Rattle.dg_append.proofs.FrontEvents.{may_name_parts}
use Rattle.dg_append.proofs.KeptBatchOutcomes.{err_as, err_is, fits_here, keeps_batch, made_stays, opened_as, stays_kept, stops_kept, stops_made}
use Rattle.dg_append.proofs.Overlays.{goes_past}
use Rattle.dg_append.proofs.batch_commit.keep_batch.Goals as goal
use Rattle.dg_append.specs.BatchSegments.{TakesSinglesOver}
use Rattle.dg_append.specs.declared.fault.BatchFault.{BatchFault}
use Rattle.dg_append.specs.DiskLeft.{LeavesDisk}
use Rattle.dg_append.specs.KeptBatches.{GainsNextOrNot}
use Rattle.dg_append.specs.declared.next_batch.NextBatch.{NextBatch}
use Rattle.dg_append.specs.Overlays.{pool_in}
use Rattle.dg_index.specs.FileOfHistory.{Segment}
use Rattle.dg_index.specs.OpenedIndex.{Opening}
use Rattle.dg_stored.specs.StoredHistory.{IsHeldBy}

pub make_batch-requires-clause-image : goal.make_batch-requires-clause-image
make_batch-requires-clause-image g c =
    opened_as (g.D.Disk.image c.args.disk.now) c.args.index.now.opening (take c.args.next.now.known c.args.next.now.names.now) c.requires.image

pub keep_segment-requires-clause-due : goal.keep_segment-requires-clause-due
keep_segment-requires-clause-due g c =
    let o : Opening = c.args.index.now.opening in
    let n : NextBatch = c.args.next.now in
    let s : Segment = c.in_ok-made.made.segment in
    segment_due o n.recent.now n.events.now c.requires.next.follows (drop n.known n.names.now) s c.in_ok-made.ensures.made.segment.behind
    (omega (arith, may_name_parts (take n.known n.names.now) (drop n.known n.names.now) c.requires.next.named, c.requires.next.counted))

pub keep_segment-requires-clause-image : goal.keep_segment-requires-clause-image
keep_segment-requires-clause-image g c =
    let n : NextBatch = c.args.next.now in
    fits_here (g.D.Disk.image c.args.disk.now) (g.D.Disk.image c.make_batch.new.disk) c.args.index.now.opening (take n.known n.names.now) (drop n.known n.names.now) c.in_ok-made.made.segment
    c.make_batch.ensures.disk.same_image c.requires.image c.requires.next.named c.in_ok-made.ensures.made.segment.behind.names_are

pub returns-in_err-made-clause-fails : goal.returns-in_err-made-clause-fails
returns-in_err-made-clause-fails g c =
    err_is c.from_residual.result c.in_err-made.field-0.0 _ c.from_residual.ensures
    (stops_made c.args.limit c.args.index.now.opening c.args.next.now c.args.next.now.current.now.graph (g.D.Disk.image c.args.disk.now) (g.D.Disk.image c.make_batch.new.disk) c.in_err-made.field-0.0
    c.make_batch.ensures.disk.same_image c.in_err-made.ensures.fails)

pub returns-in_err-made-clause-back : goal.returns-in_err-made-clause-back
returns-in_err-made-clause-back g c =
    err_is c.from_residual.result c.in_err-made.field-0.0 _ c.from_residual.ensures
    (record {
      index = made_stays c.in_err-made.field-0.0 c.args.index.now.opening;
      graphs = c.make_batch.ensures.graphs;
    })

pub returns-in_err-keep_segment-clause-fails : goal.returns-in_err-keep_segment-clause-fails
returns-in_err-keep_segment-clause-fails g c =
    err_is c.from_residual-in_err-keep_segment.result c.in_err-keep_segment.field-0.0 _ c.from_residual-in_err-keep_segment.ensures
    (stops_kept g.D.Disk c.args.limit c.args.index.now.opening c.keep_segment.new.index.opening c.args.next.now c.args.next.now.current.now.graph c.in_ok-made.made.segment c.args.disk.now c.make_batch.new.disk c.keep_segment.new.disk
    c.make_batch.ensures.disk c.in_ok-made.ensures.made.segment c.in_err-keep_segment.field-0.0
    c.in_err-keep_segment.ensures.fails)

pub returns-in_err-keep_segment-clause-back : goal.returns-in_err-keep_segment-clause-back
returns-in_err-keep_segment-clause-back g c =
    err_is c.from_residual-in_err-keep_segment.result c.in_err-keep_segment.field-0.0 _ c.from_residual-in_err-keep_segment.ensures
    (record {
      index = stays_kept g.D.Disk c.args.limit c.args.index.now.opening c.keep_segment.new.index.opening c.args.next.now c.args.next.now.current.now.graph c.in_ok-made.made.segment c.args.disk.now c.make_batch.new.disk c.keep_segment.new.disk
          c.make_batch.ensures.disk c.in_ok-made.ensures.made.segment c.in_err-keep_segment.field-0.0
          c.in_err-keep_segment.ensures.fails;
      graphs = c.make_batch.ensures.graphs;
    })

pub returns-clause-kept : goal.returns-clause-kept
returns-clause-kept g c =
    keeps_batch g.D.Disk c.args.limit c.args.index.now.opening c.keep_segment.new.index.opening c.args.next.now c.args.next.now.current.now.graph c.in_ok-made.made.segment c.args.disk.now c.make_batch.new.disk c.keep_segment.new.disk
    c.make_batch.ensures.disk c.in_ok-made.ensures.made.segment
    c.in_ok-keep_segment.ensures.kept

pub returns-clause-passed : goal.returns-clause-passed
returns-clause-passed g c = record {
  left_is = c.in_ok-made.ensures.made.left;
  past = goes_past c.args.next.now.events.now c.in_ok-made.made.nets (pool_in c.args.pool.now) (pool_in c.make_batch.new.pool) (pool_in c.pass_batch.new.pool)
      c.make_batch.ensures.graphs c.in_ok-made.ensures.made.leads c.pass_batch.ensures;
}

pub returns-in_err-keep_segment-clause-most : goal.returns-in_err-keep_segment-clause-most
returns-in_err-keep_segment-clause-most g c =
    subst (λ n. TakesSinglesOver (g.D.Disk.image c.args.disk.now) c.args.index.now.opening c.args.next.now c.args.next.now.current.now.graph (g.D.Disk.taken c.args.disk.now) n)
    (sym c.keep_segment.ensures.disk.nothing_read) c.make_batch.ensures.most

pub returns-in_err-made-clause-disk : goal.returns-in_err-made-clause-disk
returns-in_err-made-clause-disk g c =
    err_as c.from_residual.result c.in_err-made.field-0.0 (LeavesDisk g.D.Disk (GainsNextOrNot c.args.index.now.opening c.args.next.now c.args.next.now.current.now.graph) c.args.disk.now c.make_batch.new.disk) c.from_residual.ensures
    (reads_leave g.D.Disk c.args.disk.now c.make_batch.new.disk g.met.D.Disk.only_now c.make_batch.ensures.disk
    (IsHeldBy (Some c.args.index.now.opening) (take c.args.next.now.known c.args.next.now.names.now)) (GainsNextOrNot c.args.index.now.opening c.args.next.now c.args.next.now.current.now.graph)
    (λ a held z kept legal. inl kept.0) c.requires.image c.in_err-made.field-0.0
    (cause_made g.D.Disk c.args.disk.now c.make_batch.new.disk c.make_batch.ensures.disk (g.D.Disk.image c.args.disk.now) c.args.index.now.opening c.args.next.now c.args.next.now.current.now.graph c.in_err-made.field-0.0
    c.in_err-made.ensures.fails (λ read. c.in_err-made.ensures.cause (ap (λ (f : BatchFault). Err f) read))))

pub returns-in_err-keep_segment-clause-disk : goal.returns-in_err-keep_segment-clause-disk
returns-in_err-keep_segment-clause-disk g c =
    err_as c.from_residual-in_err-keep_segment.result c.in_err-keep_segment.field-0.0 (LeavesDisk g.D.Disk (GainsNextOrNot c.args.index.now.opening c.args.next.now c.args.next.now.current.now.graph) c.args.disk.now c.keep_segment.new.disk) c.from_residual-in_err-keep_segment.ensures
    (not_kept_leaves g.D.Disk c.args.limit c.args.index.now.opening c.keep_segment.new.index.opening c.args.next.now c.args.next.now.current.now.graph c.in_ok-made.made.segment c.args.disk.now c.make_batch.new.disk c.keep_segment.new.disk
    c.make_batch.ensures.disk c.keep_segment.ensures.disk c.in_ok-made.ensures.made.segment.built c.keep_segment.ensures.crash c.in_err-keep_segment.field-0.0
    c.in_err-keep_segment.ensures.fails)

pub returns-clause-most : goal.returns-clause-most
returns-clause-most g c =
    subst (λ n. TakesSinglesOver (g.D.Disk.image c.args.disk.now) c.args.index.now.opening c.args.next.now c.args.next.now.current.now.graph (g.D.Disk.taken c.args.disk.now) n)
    (sym c.keep_segment.ensures.disk.nothing_read) c.make_batch.ensures.most

pub returns-clause-disk : goal.returns-clause-disk
returns-clause-disk g c =
    kept_leaves g.D.Disk c.args.limit c.args.index.now.opening c.keep_segment.new.index.opening c.args.next.now c.args.next.now.current.now.graph c.in_ok-made.made.segment c.args.disk.now c.make_batch.new.disk c.keep_segment.new.disk
    c.make_batch.ensures.disk c.keep_segment.ensures.disk c.in_ok-made.ensures.made.segment.built c.keep_segment.ensures.crash c.in_ok-made.made.left
    c.in_ok-keep_segment.ensures.kept
