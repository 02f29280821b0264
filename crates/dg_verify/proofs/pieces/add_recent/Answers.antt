use Rattle.std.proofs.Common.{◌≡◌, ℕ, true, false, List, Ok, length, sym, ◌∙◌, ap, subst, ◌++◌}
use Rattle.dg_graph.specs.declared.event.Event.{Event}
use Rattle.dg_history.specs.declared.node.Key.TheVariants as key
use Rattle.dg_records.specs.EventNames.{EventNamesAreThere}
use Rattle.dg_sound.specs.OwnEvents.{events_of_record, has_batch_ends, piece_length, with_recent}
use Rattle.dg_start.specs.EventSources.{WhereTold}
use Rattle.dg_index.proofs.HeldRecords.{piece_held}
use Rattle.dg_start.proofs.EventSourceSources.{batch_there}
use Rattle.dg_start.proofs.EventSourceOutcomes.{err_is}
use Rattle.dg_verify.specs.declared.stop.Stop.{Stop}
use Rattle.dg_verify.specs.EventTests.{IsStopBehind, tested}
use Rattle.dg_verify.specs.Verification.{IsStop, keyed, opened_with}
use Rattle.dg_verify.proofs.VerificationRecords.{record_stops}
use Rattle.dg_verify.proofs.EventTestRecords.{read_behind, stops_behind}
use Rattle.dg_verify.proofs.pieces.add_recent.Goals as goal

pub read_events-requires-clause-held : goal.read_events-requires-clause-held
read_events-requires-clause-held g c =
    let o = c.args.index.now.opening in
    piece_held o c.args.number c.facts.ensures.kept (batch_there o.batches c.args.number c.args.batch c.requires.there)

pub returns-in_err-events-clause-stopped : goal.returns-in_err-events-clause-stopped
returns-in_err-events-clause-stopped g c =
    let o = c.args.index.now.opening in
    let x = opened_with o c.args.names.now in
    let k = key.Piece c.args.number in
    let s : Stop = c.in_err-events.field-0.0 in
    let own : List Event = c.args.own.now.events.items in
    err_is c.from_residual.result s
    (λ (s : Stop). WhereTold (g.D.Disk.image c.args.disk.now)
    (λ image. IsStopBehind c.args.names.now c.args.own.now s (tested c.args.names.now c.args.own.now (with_recent image x own c.args.number c.args.before c.args.batch))))
    c.from_residual.ensures
    (λ image h. stops_behind s c.args.names.now c.args.own.now (with_recent image x own c.args.number c.args.before c.args.batch)
    (record_stops s c.args.names.now k (λ events. has_batch_ends c.args.before c.args.batch (own ++ events)) own (events_of_record image x k (piece_length o c.args.before c.args.batch))
    (subst (λ (n : ℕ). IsStop s (keyed k (events_of_record image x k n))) c.span_of-count.ensures.count (c.in_err-events.ensures.stopped image h))))

pub returns-then-not-has_batch_ends-clause-stopped : goal.returns-then-not-has_batch_ends-clause-stopped
returns-then-not-has_batch_ends-clause-stopped g c image h =
    let o = c.args.index.now.opening in
    let x = opened_with o c.args.names.now in
    let k = key.Piece c.args.number in
    let own : List Event = c.args.own.now.events.items in
    read_behind c.args.names.now c.args.own.now c.add.new.self k (λ events. has_batch_ends c.args.before c.args.batch (own ++ events)) c.deref.result.now
    (events_of_record image x k (piece_length o c.args.before c.args.batch)) false
    (subst (λ (n : ℕ). events_of_record image x k n ≡ Ok c.deref.result.now) c.span_of-count.ensures.count (c.in_ok-events.ensures.read image h ∙ ap (λ (es : List Event). Ok es) (sym c.deref.ensures.value)))
    (c.in_ok-add.ensures.behind c.args.names.now (λ events. has_batch_ends c.args.before c.args.batch (own ++ events)))
    (ap (has_batch_ends c.args.before c.args.batch) (sym c.in_ok-add.ensures.added ∙ sym c.deref-2.ensures.value) ∙ sym c.has_batch_ends.ensures ∙ c.if-not-has_batch_ends.true)

pub returns-clause-pieced : goal.returns-clause-pieced
returns-clause-pieced g c image h =
    let o = c.args.index.now.opening in
    let x = opened_with o c.args.names.now in
    let k = key.Piece c.args.number in
    let own : List Event = c.args.own.now.events.items in
    read_behind c.args.names.now c.args.own.now c.add.new.self k (λ events. has_batch_ends c.args.before c.args.batch (own ++ events)) c.deref.result.now
    (events_of_record image x k (piece_length o c.args.before c.args.batch)) true
    (subst (λ (n : ℕ). events_of_record image x k n ≡ Ok c.deref.result.now) c.span_of-count.ensures.count (c.in_ok-events.ensures.read image h ∙ ap (λ (es : List Event). Ok es) (sym c.deref.ensures.value)))
    (c.in_ok-add.ensures.behind c.args.names.now (λ events. has_batch_ends c.args.before c.args.batch (own ++ events)))
    (ap (has_batch_ends c.args.before c.args.batch) (sym c.in_ok-add.ensures.added ∙ sym c.deref-2.ensures.value) ∙ sym c.has_batch_ends.ensures ∙ c.if-not-has_batch_ends.false)

pub returns-clause-read : goal.returns-clause-read
returns-clause-read g c =
    c.in_ok-add.ensures.read (length c.args.names.now) c.requires.read (subst (EventNamesAreThere (length c.args.names.now)) (sym c.deref.ensures.value) c.in_ok-events.ensures.named)
