use Rattle.std.proofs.Common.{subst}
use Rattle.dg_records.specs.EventNames.{EventNamesAreThere}
use Rattle.dg_sound.specs.OwnEvents.{events_of_record}
use Rattle.dg_start.specs.EventSources.{WhereTold}
use Rattle.dg_start.proofs.EventSourceOutcomes.{err_is}
use Rattle.dg_verify.specs.declared.stop.Stop.{Stop}
use Rattle.dg_verify.specs.Stops.{stop_of_record}
use Rattle.dg_verify.specs.Verification.{IsStop, keyed, opened_with}
use Rattle.dg_verify.proofs.RecordReads.{record_read}
use Rattle.dg_verify.proofs.VerificationRecords.{events_are, events_refused}
use Rattle.dg_verify.proofs.records.read_events.Goals as goal

pub returns-in_err-read_record-clause-stopped : goal.returns-in_err-read_record-clause-stopped
returns-in_err-read_record-clause-stopped g c =
    let o = c.args.index.now.opening in
    err_is c.from_residual.result (stop_of_record c.in_err-read_record.field-0.0)
    (λ (s : Stop). WhereTold (g.D.Disk.image c.args.disk.now) (λ image. IsStop s (keyed c.args.key (events_of_record image (opened_with o c.args.names.now) c.args.key c.args.count))))
    c.from_residual.ensures
    (λ image h. events_refused image c.args.names.now o (record { key = c.args.key; count = c.args.count; ends = record { first = 0; last = 0 } }) c.len.result c.len.ensures.len
    c.in_err-read_record.field-0.0 (c.in_err-read_record.ensures.refused image h))

pub returns-clause-read : goal.returns-clause-read
returns-clause-read g c image h =
    events_are image c.args.names.now c.args.index.now.opening (record { key = c.args.key; count = c.args.count; ends = record { first = 0; last = 0 } }) c.len.result c.len.ensures.len
    c.in_ok-read_record.field-0.items (c.in_ok-read_record.ensures.done.read image h)

pub returns-clause-fit : goal.returns-clause-fit
returns-clause-fit g c = c.in_ok-read_record.ensures.done.fit

pub returns-clause-named : goal.returns-clause-named
returns-clause-named g c =
    subst (λ n. EventNamesAreThere n c.in_ok-read_record.field-0.items) c.len.ensures.len c.in_ok-read_record.ensures.done.named

pub returns-clause-timed : goal.returns-clause-timed
returns-clause-timed g c = c.in_ok-read_record.ensures.done.timed

pub returns-clause-many : goal.returns-clause-many
returns-clause-many g c = c.in_ok-read_record.ensures.done.many

pub returns-in_err-read_record-clause-takes : goal.returns-in_err-read_record-clause-takes
returns-in_err-read_record-clause-takes g c image h =
    record_read c.read_record.result image c.args.index.now.opening c.args.key (g.D.Disk.taken c.args.disk.now) (g.D.Disk.taken c.read_record.new.disk) (c.read_record.ensures.takes image h)

pub returns-clause-takes : goal.returns-clause-takes
returns-clause-takes g c image h =
    record_read c.read_record.result image c.args.index.now.opening c.args.key (g.D.Disk.taken c.args.disk.now) (g.D.Disk.taken c.read_record.new.disk) (c.read_record.ensures.takes image h)
