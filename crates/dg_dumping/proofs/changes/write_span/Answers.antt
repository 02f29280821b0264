use Rattle.std.proofs.Common.{◌≡◌, [], ◌++◌, ap, ◌∙◌, subst}
use Rattle.dg_dumping.specs.declared.status.DumpStatus.{DumpStatus}
use Rattle.dg_dumping.specs.declared.status.DumpStatus.TheVariants as status
use Rattle.dg_dumping.specs.Dumped.{GainsSpan}
use Rattle.dg_dumping.specs.SpanText.{span_text}
use Rattle.dg_dumping.proofs.Batches.{index_of}
use Rattle.dg_dumping.proofs.Pieces.{put_all, put_all_fails, put_same}
use Rattle.dg_dumping.proofs.Spans.{text_is}
use Rattle.dg_index.specs.OpenedIndex.{Opened}
use Rattle.dg_io.specs.Calls.{PutsPart}
use Rattle.dg_io.specs.Told.{grown}
use Rattle.dg_spans.specs.Stretches.{WhereStands}
use Rattle.dg_start.proofs.EventSourceOutcomes.{err_is}
use Rattle.dg_dumping.proofs.changes.write_span.Goals as goal

pub returns-in_err-write_changes-clause-part : goal.returns-in_err-write_changes-clause-part
returns-in_err-write_changes-clause-part g c =
    let x : Opened = record { index = c.args.index.now.opening; names = c.args.names.now } in
    let told = g.D.Disk.image c.args.disk.now in
    let s : DumpStatus = c.in_err-write_changes.field-0.0 in
    err_is c.from_residual.result s
    (λ (s : DumpStatus). WhereStands told (λ z. GainsSpan s (g.K.Sink.written c.args.sink.now) (span_text c.args.span z) (g.K.Sink.written c.write_changes.new.sink))) c.from_residual.ensures
    (λ image is z h. subst (λ bytes. GainsSpan s (g.K.Sink.written c.args.sink.now) bytes (g.K.Sink.written c.write_changes.new.sink))
    (text_is c.args.span z x c.new-text.result.items (index_of told x c.requires.image image is z h) c.new-text.ensures.items)
    (c.in_err-write_changes.ensures.part image is z h))

pub returns-in_err-write_whole-clause-part : goal.returns-in_err-write_whole-clause-part
returns-in_err-write_whole-clause-part g c =
    let x : Opened = record { index = c.args.index.now.opening; names = c.args.names.now } in
    let told = g.D.Disk.image c.args.disk.now in
    err_is c.from_residual-in_err-write_whole.result status.SinkFault
    (λ (s : DumpStatus). WhereStands told (λ z. GainsSpan s (g.K.Sink.written c.args.sink.now) (span_text c.args.span z) (g.K.Sink.written c.write_whole.new.sink))) c.from_residual-in_err-write_whole.ensures
    (λ image is z h. put_all_fails g.K.Sink c.args.sink.now c.write_changes.new.sink c.write_whole.new.sink (span_text c.args.span z) c.write_changes.new.text.items
    (put_same g.K.Sink c.args.sink.now c.write_changes.new.sink _ (span_text c.args.span z) c.write_changes.new.text.items []
    (text_is c.args.span z x c.new-text.result.items (index_of told x c.requires.image image is z h) c.new-text.ensures.items)
    (c.in_ok-write_changes.ensures.put image is z h))
    (subst (λ piece. PutsPart g.K.Sink c.write_changes.new.sink piece c.write_whole.new.sink) c.deref.ensures.value c.in_err-write_whole.ensures.err))

pub returns-clause-text : goal.returns-clause-text
returns-clause-text g c image is z h =
    let x : Opened = record { index = c.args.index.now.opening; names = c.args.names.now } in
    let told = g.D.Disk.image c.args.disk.now in
    put_all g.K.Sink c.args.sink.now c.write_changes.new.sink c.write_whole.new.sink (span_text c.args.span z) c.write_changes.new.text.items
    (put_same g.K.Sink c.args.sink.now c.write_changes.new.sink _ (span_text c.args.span z) c.write_changes.new.text.items []
    (text_is c.args.span z x c.new-text.result.items (index_of told x c.requires.image image is z h) c.new-text.ensures.items)
    (c.in_ok-write_changes.ensures.put image is z h))
    (c.in_ok-write_whole.ensures.ok ∙ ap (grown (g.K.Sink.written c.write_changes.new.sink)) c.deref.ensures.value)
