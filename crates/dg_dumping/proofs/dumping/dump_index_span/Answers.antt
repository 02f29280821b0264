use Rattle.std.proofs.Common.{◌≡◌, Result, Ok, Err, ap, ◌∙◌, refl, arith}
use Rattle.std.specs.Prelude.{IfErr}
use Rattle.std.proofs.lemmas.Result.{on_ok_weaker}
use Rattle.dg_disk.proofs.FrameLemmas.{syncs_then_reads}
use Rattle.dg_dumping.specs.declared.status.DumpStatus.{DumpStatus}
use Rattle.dg_dumping.specs.Dumped.{DumpedSpan, GainsSpan}
use Rattle.dg_dumping.specs.SpanText.{span_text}
use Rattle.dg_dumping.proofs.Dumps.{both_of, cut_short, unopened, written}
use Rattle.dg_dumping.proofs.Ends.{none_short, stops_later}
use Rattle.dg_index.specs.OpenedIndex.{Opened}
use Rattle.dg_start.proofs.EventSourceOutcomes.{err_is}
use Rattle.dg_dumping.proofs.dumping.dump_index_span.Goals as goal

pub returns-in_err-index-clause-ended : goal.returns-in_err-index-clause-ended
returns-in_err-index-clause-ended g c =
    let s : DumpStatus = c.in_err-index.field-0.0 in
    err_is c.from_residual.result s
    (λ (s : DumpStatus). DumpedSpan c.args.span g.D.Disk g.K.Sink c.args.checked s c.args.disk.now c.open_index.new.disk c.args.sink.now c.args.sink.now) c.from_residual.ensures
    (unopened GainsSpan (span_text c.args.span) g.D.Disk g.K.Sink c.args.checked c.args.disk.now c.open_index.new.disk c.args.sink.now c.law_standing_files_are_sound.ensures (λ before z. none_short before (span_text c.args.span z)) (λ before z. none_short before (span_text c.args.span z)) s
    c.in_err-index.ensures.unbegun c.in_err-index.ensures.refused (λ e. c.in_err-index.ensures.cause (ap (λ (s : DumpStatus). Err s) e)))

pub returns-clause-done : goal.returns-clause-done
returns-clause-done g c =
    let x : Opened = record { index = c.in_ok-index.index.opening; names = c.open_index.new.names } in
    on_ok_weaker c.write_span.result
    (λ text. written GainsSpan (span_text c.args.span) g.D.Disk g.K.Sink c.args.checked c.args.disk.now c.write_span.new.disk c.args.sink.now x c.in_ok-index.ensures.opened c.in_ok-index.ensures.stands c.write_span.new.sink
    (λ image is. text image (c.open_index.ensures.disk.same_image ∙ is))) c.write_span.ensures.text

pub returns-clause-ended : goal.returns-clause-ended
returns-clause-ended g c =
    let x : Opened = record { index = c.in_ok-index.index.opening; names = c.open_index.new.names } in
    both_of c.write_span.result _ _ _ c.write_span.ensures.part c.write_span.ensures.stopped
    (λ s part stops. cut_short GainsSpan (span_text c.args.span) g.D.Disk g.K.Sink c.args.checked c.args.disk.now c.write_span.new.disk c.args.sink.now x c.in_ok-index.ensures.opened c.in_ok-index.ensures.stands c.write_span.new.sink s
    (λ image is. part image (c.open_index.ensures.disk.same_image ∙ is))
    (stops_later g.D.Disk g.K.Sink x s c.args.disk.now c.open_index.new.disk c.write_span.new.disk c.args.sink.now c.args.sink.now c.write_span.new.sink
    c.open_index.ensures.disk.same_image c.open_index.ensures.disk.counted (omega arith) stops))

pub returns-clause-disk : goal.returns-clause-disk
returns-clause-disk g c = syncs_then_reads c.open_index.ensures.disk c.write_span.ensures.disk
