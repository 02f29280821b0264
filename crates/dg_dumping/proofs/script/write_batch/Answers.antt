use Rattle.std.proofs.Common.{◌≡◌, [], ◌∷◌, ◌++◌, ap, ◌∙◌, refl, subst, arith}
use Rattle.std.proofs.lemmas.Result.{on_ok_weaker, IfErr-weaker}
use Rattle.dg_disk.proofs.FrameLemmas.{reads_none}
use Rattle.dg_dump.specs.ScriptOfHistory.{batch_command}
use Rattle.dg_dumping.specs.declared.status.DumpStatus.{DumpStatus}
use Rattle.dg_dumping.specs.declared.status.DumpStatus.TheVariants as status
use Rattle.dg_dumping.specs.Dumped.{GainsPart, Stops, batch_text, events_at, verb_at}
use Rattle.dg_dumping.specs.PutText.{Puts, events_text}
use Rattle.dg_dumping.proofs.Batches.{some_line, text_more}
use Rattle.dg_dumping.proofs.Ends.{stops_memory}
use Rattle.dg_dumping.proofs.Pieces.{put_first, put_same, put_stops}
use Rattle.dg_index.specs.OpenedIndex.{Opened}
use Rattle.dg_spans.specs.Stretches.{WhereStands}
use Rattle.dg_spans.proofs.Places.{placed_within}
use Rattle.dg_start.proofs.EventSourceOutcomes.{err_is}
use Rattle.dg_dumping.proofs.script.write_batch.Goals as goal

pub overflow_cast-place : goal.overflow_cast-place
overflow_cast-place g c = omega (arith, placed_within c.args.index.now.opening c.args.place c.requires.placed, c.facts.ensures.events)

pub returns-in_err-put_batch_command-clause-part : goal.returns-in_err-put_batch_command-clause-part
returns-in_err-put_batch_command-clause-part g c =
    let names = c.args.names.now in
    let p = c.args.place in
    err_is c.from_residual.result status.NoMemory
    (λ (s : DumpStatus). WhereStands (g.D.Disk.image c.args.disk.now) (λ z. GainsPart s (g.K.Sink.written c.args.sink.now) (c.args.text.now.items ++ batch_text z names p) (g.K.Sink.written c.args.sink.now))) c.from_residual.ensures
    (λ image is z h. put_stops g.K.Sink c.args.sink.now c.args.sink.now (c.args.text.now.items ++ batch_text z names p) c.args.text.now.items (batch_text z names p)
    (put_first g.K.Sink c.args.sink.now c.args.text.now.items (batch_text z names p)) (some_line (batch_command (verb_at p.number) p.batch.events) (events_text names (events_at z p))))

pub returns-in_err-put_batch_command-clause-stopped : goal.returns-in_err-put_batch_command-clause-stopped
returns-in_err-put_batch_command-clause-stopped g c =
    let x : Opened = record { index = c.args.index.now.opening; names = c.args.names.now } in
    err_is c.from_residual.result status.NoMemory (λ (s : DumpStatus). Stops g.D.Disk g.K.Sink x s c.args.disk.now c.args.disk.now c.args.sink.now c.args.sink.now) c.from_residual.ensures
    (stops_memory g.D.Disk g.K.Sink x status.NoMemory c.args.disk.now c.args.disk.now c.args.sink.now c.args.sink.now refl)

pub returns-in_err-put_batch_command-clause-disk : goal.returns-in_err-put_batch_command-clause-disk
returns-in_err-put_batch_command-clause-disk g c = reads_none

pub returns-clause-put : goal.returns-clause-put
returns-clause-put g c =
    let names = c.args.names.now in
    let p = c.args.place in
    let old = c.args.text.now.items in
    let mid = c.put_batch_command.new.text.items in
    let command = batch_command (verb_at p.number) p.batch.events ++ 10 ∷ [] in
    let is : mid ≡ old ++ command = c.in_ok-put_batch_command.ensures.put ∙ ap (λ verb. old ++ (batch_command verb p.batch.events ++ 10 ∷ [])) c.verb_of.ensures in
    on_ok_weaker c.write_batch_events.result
    (λ put image there z h. put_same g.K.Sink c.args.sink.now c.write_batch_events.new.sink (mid ++ events_text names (events_at z p)) (old ++ batch_text z names p) c.write_batch_events.new.text.items []
    (text_more old mid command (events_text names (events_at z p)) is) (put image there z h)) c.write_batch_events.ensures.put

pub returns-clause-part : goal.returns-clause-part
returns-clause-part g c =
    let names = c.args.names.now in
    let p = c.args.place in
    let old = c.args.text.now.items in
    let mid = c.put_batch_command.new.text.items in
    let command = batch_command (verb_at p.number) p.batch.events ++ 10 ∷ [] in
    let is : mid ≡ old ++ command = c.in_ok-put_batch_command.ensures.put ∙ ap (λ verb. old ++ (batch_command verb p.batch.events ++ 10 ∷ [])) c.verb_of.ensures in
    IfErr-weaker c.write_batch_events.result _ _
    (λ s part image there z h. subst (λ bytes. GainsPart s (g.K.Sink.written c.args.sink.now) bytes (g.K.Sink.written c.write_batch_events.new.sink))
    (text_more old mid command (events_text names (events_at z p)) is) (part image there z h)) c.write_batch_events.ensures.part
