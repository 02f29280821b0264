use Rattle.std.proofs.Common.{◌≡◌, ℕ, ◌+◌, ◌-◌, ◌<◌, Some, Ok, length, slice_get, sym, ◌∙◌, arith}
use Rattle.dg_history.proofs.ParameterRanges.{in_range}
use Rattle.dg_disk.proofs.FrameLemmas.{reads_then}
use Rattle.dg_records.specs.ColumnReads.{TakesAtMost}
use Rattle.dg_history.specs.declared.node.Key.TheVariants as key
use Rattle.dg_index.specs.OpenedIndex.{Opening, entry_at, total}
use Rattle.dg_sound.specs.OwnEvents.{with_piece_events, with_pieces}
use Rattle.dg_start.specs.EventSources.{WhereTold}
use Rattle.dg_start.proofs.EventSourceSources.{batch_there, batch_within, none_left}
use Rattle.dg_start.proofs.EventSourceOutcomes.{err_is, said_before}
use Rattle.dg_verify.specs.declared.stop.Stop.{Stop}
use Rattle.dg_verify.specs.EventTests.{IsStopBehind, tested}
use Rattle.dg_verify.specs.Verification.{opened_with}
use Rattle.dg_verify.proofs.OpenedIndexParameters.{all_count}
use Rattle.dg_verify.proofs.EventTestPieces.{all_counted, all_pieced, one_pieced, piece_stops}
use Rattle.dg_verify.proofs.RecordReads.{all_read, next_read}
use Rattle.dg_verify.proofs.pieces.add_pieces.Goals as goal

pub add_piece-requires-clause-few : goal.add_piece-requires-clause-few
add_piece-requires-clause-few g c =
    let o : Opening = c.args.index.now.opening in
    let there : slice_get o.batches c.loop-batch.number ≡ Some c.in-Some.batch = sym c.batch.ensures ∙ c.in-Some.is in
    batch_within o c.loop-batch.number c.loop-batch.before c.in-Some.batch there c.loop-batch.invariant.so_far.counted

pub returns-in_err-add_piece-clause-stopped : goal.returns-in_err-add_piece-clause-stopped
returns-in_err-add_piece-clause-stopped g c =
    let o : Opening = c.args.index.now.opening in
    let told = g.D.Disk.image c.args.disk.now in
    let x = opened_with o c.args.names.now in
    let s : Stop = c.in_err-add_piece.field-0.0 in
    let there : slice_get o.batches c.loop-batch.number ≡ Some c.in-Some.batch = sym c.batch.ensures ∙ c.in-Some.is in
    err_is c.from_residual.result s
    (λ (s : Stop). WhereTold told (λ image. IsStopBehind c.args.names.now c.add_piece.new.own s (tested c.args.names.now c.args.own.now (with_pieces image x c.args.own.now.events.items 0 0 o.batches))))
    c.from_residual.ensures
    (piece_stops told x c.args.own.now c.loop-batch.number c.loop-batch.before c.loop-batch.own c.in-Some.batch there c.loop-batch.invariant.so_far s c.add_piece.new.own
    (said_before (g.D.Disk.image c.loop-batch.disk) told
    (λ image. IsStopBehind c.args.names.now c.add_piece.new.own s
    (tested c.args.names.now c.loop-batch.own (with_piece_events image (opened_with o c.args.names.now) c.loop-batch.own.events.items c.loop-batch.number c.loop-batch.before c.in-Some.batch)))
    c.loop-batch.invariant.frame.same_image c.in_err-add_piece.ensures.stopped))

pub overflow_add-number : goal.overflow_add-number
overflow_add-number g c =
    let o : Opening = c.args.index.now.opening in
    let there : slice_get o.batches c.loop-batch.number ≡ Some c.in-Some.batch = sym c.batch.ensures ∙ c.in-Some.is in
    let lt = batch_there o.batches c.loop-batch.number c.in-Some.batch there in
    omega (arith, lt, c.facts.ensures.few, c.facts.ensures.events)

pub loop-batch-smaller : goal.loop-batch-smaller
loop-batch-smaller g c =
    let o : Opening = c.args.index.now.opening in
    let there : slice_get o.batches c.loop-batch.number ≡ Some c.in-Some.batch = sym c.batch.ensures ∙ c.in-Some.is in
    let lt = batch_there o.batches c.loop-batch.number c.in-Some.batch there in
    let fewer : length o.batches - (c.loop-batch.number + 1) < length o.batches - c.loop-batch.number = omega (arith, lt) in
    fewer

pub loop-batch-preserved : goal.loop-batch-preserved
loop-batch-preserved g c =
    let o : Opening = c.args.index.now.opening in
    let told = g.D.Disk.image c.args.disk.now in
    let x = opened_with o c.args.names.now in
    let there : slice_get o.batches c.loop-batch.number ≡ Some c.in-Some.batch = sym c.batch.ensures ∙ c.in-Some.is in
    record {
      frame = reads_then c.loop-batch.invariant.frame c.add_piece.ensures.disk;
      read = c.in_ok-add_piece.ensures.read;
      many = c.in_ok-add_piece.ensures.so_far;
      so_far =
          one_pieced told x c.args.own.now c.loop-batch.number c.loop-batch.before c.loop-batch.own c.in-Some.batch there c.loop-batch.invariant.so_far c.add_piece.new.own
          (said_before (g.D.Disk.image c.loop-batch.disk) told
          (λ image. tested c.args.names.now c.loop-batch.own
          (with_piece_events image (opened_with o c.args.names.now) c.loop-batch.own.events.items c.loop-batch.number c.loop-batch.before c.in-Some.batch)
          ≡ tested c.args.names.now c.add_piece.new.own (Ok c.add_piece.new.own.events.items))
          c.loop-batch.invariant.frame.same_image c.in_ok-add_piece.ensures.pieced);
      takes = λ image h.
          let i : ℕ = c.loop-batch.number in
          let a = g.D.Disk.taken c.args.disk.now in
          let b = g.D.Disk.taken c.loop-batch.disk in
          let d = g.D.Disk.taken c.add_piece.new.disk in
          next_read o (λ i. key.Piece i) i a b d (c.loop-batch.invariant.takes image h)
          (said_before (g.D.Disk.image c.loop-batch.disk) told (λ image. TakesAtMost (total (entry_at o (key.Piece i)).lengths) b d)
          c.loop-batch.invariant.frame.same_image c.add_piece.ensures.takes image h);
      numbered = (let lt = batch_there o.batches c.loop-batch.number c.in-Some.batch there in omega (arith, lt));
    }

pub returns-clause-pieced : goal.returns-clause-pieced
returns-clause-pieced g c =
    let o : Opening = c.args.index.now.opening in
    all_pieced (g.D.Disk.image c.args.disk.now) (opened_with o c.args.names.now) c.args.own.now c.loop-batch.number c.loop-batch.before c.loop-batch.own
    (none_left o.batches c.loop-batch.number (sym c.batch.ensures ∙ c.in_default.is)) c.loop-batch.invariant.so_far

pub returns-clause-many : goal.returns-clause-many
returns-clause-many g c =
    let o : Opening = c.args.index.now.opening in
    let range = in_range o.params.l o.params.k c.facts.ensures.parameters in
    all_count o c.loop-batch.before (length c.loop-batch.own.events.items) range.list_some
    (all_counted (g.D.Disk.image c.args.disk.now) (opened_with o c.args.names.now) c.args.own.now c.loop-batch.number c.loop-batch.before c.loop-batch.own
    (none_left o.batches c.loop-batch.number (sym c.batch.ensures ∙ c.in_default.is)) c.loop-batch.invariant.so_far)
    c.loop-batch.invariant.many

pub returns-in_err-add_piece-clause-takes : goal.returns-in_err-add_piece-clause-takes
returns-in_err-add_piece-clause-takes g c image h =
    let o : Opening = c.args.index.now.opening in
    let told = g.D.Disk.image c.args.disk.now in
    let i : ℕ = c.loop-batch.number in
    let a = g.D.Disk.taken c.args.disk.now in
    let b = g.D.Disk.taken c.loop-batch.disk in
    let d = g.D.Disk.taken c.add_piece.new.disk in
    let there : slice_get o.batches i ≡ Some c.in-Some.batch = sym c.batch.ensures ∙ c.in-Some.is in
    let lt = batch_there o.batches i c.in-Some.batch there in
    all_read o (λ i. key.Piece i) (i + 1) (length o.batches) a d (omega (arith, lt))
    (next_read o (λ i. key.Piece i) i a b d (c.loop-batch.invariant.takes image h)
    (said_before (g.D.Disk.image c.loop-batch.disk) told (λ image. TakesAtMost (total (entry_at o (key.Piece i)).lengths) b d)
    c.loop-batch.invariant.frame.same_image c.add_piece.ensures.takes image h))

pub returns-clause-takes : goal.returns-clause-takes
returns-clause-takes g c image h =
    let o : Opening = c.args.index.now.opening in
    all_read o (λ i. key.Piece i) c.loop-batch.number (length o.batches) (g.D.Disk.taken c.args.disk.now) (g.D.Disk.taken c.loop-batch.disk) c.loop-batch.invariant.numbered (c.loop-batch.invariant.takes image h)
