use Rattle.std.proofs.Common.{◌≡◌, [], ◌∷◌, ◌++◌, ap, ◌∙◌, refl, subst, sym}
use Rattle.dg_disk.proofs.FrameLemmas.{reads_none}
use Rattle.dg_dump.specs.ScriptOfHistory.{batches_lines, create_line, script_of, text_of_lines}
use Rattle.dg_dumping.specs.declared.status.DumpStatus.{DumpStatus}
use Rattle.dg_dumping.specs.declared.status.DumpStatus.TheVariants as status
use Rattle.dg_dumping.specs.Dumped.{GainsPart, Stops}
use Rattle.dg_dumping.proofs.Batches.{index_of, script_text, some_line}
use Rattle.dg_dumping.proofs.Ends.{stops_later, stops_memory, stops_sink}
use Rattle.dg_dumping.proofs.Pieces.{put_all, put_all_fails, put_first, put_same, put_stops}
use Rattle.dg_history.specs.History.{names_of}
use Rattle.dg_history.specs.declared.params.Params.{Params}
use Rattle.dg_index.specs.OpenedIndex.{Opened}
use Rattle.dg_io.specs.Calls.{PutsPart}
use Rattle.dg_io.specs.Told.{grown}
use Rattle.dg_spans.specs.Stretches.{WhereStands}
use Rattle.dg_start.proofs.EventSourceOutcomes.{err_is}
use Rattle.dg_dumping.proofs.script.write_script.Goals as goal

pub returns-in_err-put_creation-clause-part : goal.returns-in_err-put_creation-clause-part
returns-in_err-put_creation-clause-part g c =
    err_is c.from_residual.result status.NoMemory
    (λ (s : DumpStatus). WhereStands (g.D.Disk.image c.args.disk.now) (λ z. GainsPart s (g.K.Sink.written c.args.sink.now) (script_of z) (g.K.Sink.written c.args.sink.now))) c.from_residual.ensures
    (λ image is z h. put_stops g.K.Sink c.args.sink.now c.args.sink.now (script_of z) [] (script_of z)
    (put_first g.K.Sink c.args.sink.now [] (script_of z)) (some_line (create_line z.params) (text_of_lines (batches_lines (names_of z) z.batches))))

pub returns-in_err-put_creation-clause-stopped : goal.returns-in_err-put_creation-clause-stopped
returns-in_err-put_creation-clause-stopped g c =
    let x : Opened = record { index = c.args.index.now.opening; names = c.args.names.now } in
    err_is c.from_residual.result status.NoMemory (λ (s : DumpStatus). Stops g.D.Disk g.K.Sink x s c.args.disk.now c.args.disk.now c.args.sink.now c.args.sink.now) c.from_residual.ensures
    (stops_memory g.D.Disk g.K.Sink x status.NoMemory c.args.disk.now c.args.disk.now c.args.sink.now c.args.sink.now refl)

pub returns-in_err-put_creation-clause-disk : goal.returns-in_err-put_creation-clause-disk
returns-in_err-put_creation-clause-disk g c = reads_none

pub returns-in_err-write_batches-clause-part : goal.returns-in_err-write_batches-clause-part
returns-in_err-write_batches-clause-part g c =
    let x : Opened = record { index = c.args.index.now.opening; names = c.args.names.now } in
    let told = g.D.Disk.image c.args.disk.now in
    let s : DumpStatus = c.in_err-write_batches.field-0.0 in
    err_is c.from_residual-in_err-write_batches.result s
    (λ (s : DumpStatus). WhereStands told (λ z. GainsPart s (g.K.Sink.written c.args.sink.now) (script_of z) (g.K.Sink.written c.write_batches.new.sink))) c.from_residual-in_err-write_batches.ensures
    (λ image is z h. subst (λ bytes. GainsPart s (g.K.Sink.written c.args.sink.now) bytes (g.K.Sink.written c.write_batches.new.sink))
    (script_text z x c.put_creation.new.text.items (index_of told x c.requires.image image is z h)
    (c.in_ok-put_creation.ensures.put ∙ (λ j. c.new-text.ensures.items j ++ (create_line (c.params.ensures j) ++ 10 ∷ []))))
    (c.in_err-write_batches.ensures.part image is z h))

pub returns-in_err-write_whole-clause-part : goal.returns-in_err-write_whole-clause-part
returns-in_err-write_whole-clause-part g c =
    let x : Opened = record { index = c.args.index.now.opening; names = c.args.names.now } in
    let told = g.D.Disk.image c.args.disk.now in
    err_is c.from_residual-in_err-write_whole.result status.SinkFault
    (λ (s : DumpStatus). WhereStands told (λ z. GainsPart s (g.K.Sink.written c.args.sink.now) (script_of z) (g.K.Sink.written c.write_whole.new.sink))) c.from_residual-in_err-write_whole.ensures
    (λ image is z h. put_all_fails g.K.Sink c.args.sink.now c.write_batches.new.sink c.write_whole.new.sink (script_of z) c.write_batches.new.text.items
    (put_same g.K.Sink c.args.sink.now c.write_batches.new.sink _ (script_of z) c.write_batches.new.text.items []
    (script_text z x c.put_creation.new.text.items (index_of told x c.requires.image image is z h)
    (c.in_ok-put_creation.ensures.put ∙ (λ j. c.new-text.ensures.items j ++ (create_line (c.params.ensures j) ++ 10 ∷ []))))
    (c.in_ok-write_batches.ensures.put image is z h))
    (subst (λ piece. PutsPart g.K.Sink c.write_batches.new.sink piece c.write_whole.new.sink) c.deref.ensures.value c.in_err-write_whole.ensures.err))

pub returns-clause-script : goal.returns-clause-script
returns-clause-script g c image is z h =
    let x : Opened = record { index = c.args.index.now.opening; names = c.args.names.now } in
    let told = g.D.Disk.image c.args.disk.now in
    put_all g.K.Sink c.args.sink.now c.write_batches.new.sink c.write_whole.new.sink (script_of z) c.write_batches.new.text.items
    (put_same g.K.Sink c.args.sink.now c.write_batches.new.sink _ (script_of z) c.write_batches.new.text.items []
    (script_text z x c.put_creation.new.text.items (index_of told x c.requires.image image is z h)
    (c.in_ok-put_creation.ensures.put ∙ (λ j. c.new-text.ensures.items j ++ (create_line (c.params.ensures j) ++ 10 ∷ []))))
    (c.in_ok-write_batches.ensures.put image is z h))
    (c.in_ok-write_whole.ensures.ok ∙ ap (grown (g.K.Sink.written c.write_batches.new.sink)) c.deref.ensures.value)
