use Rattle.std.proofs.Common.{ℕ, ap, subst}
use Rattle.dg_history.specs.declared.node.Key.{Key}
use Rattle.dg_index.specs.OpenedIndex.{Opened}
use Rattle.dg_plan.specs.HistoryGraph.{all_columns}
use Rattle.dg_records.specs.declared.fault.RecordFault.{RecordFault}
use Rattle.dg_records.specs.ColumnReads.{Takes, TakesAtMost, asked_length, kept_in}
use Rattle.dg_spans.specs.Stretches.{IsOutside, WhereStands, record_of}
use Rattle.dg_spans.proofs.HistoryRecords.{events_own, none_damaged, why_none}
use Rattle.dg_start.specs.EventSources.{WhereTold}
use Rattle.dg_start.specs.Faults.{start_fault_of}
use Rattle.dg_start.specs.RecentEvents.{Source, events_in_source}
use Rattle.dg_start.specs.Refusals.{IsReason}
use Rattle.dg_start.proofs.EventSourceBytes.{fails_with}
use Rattle.dg_start.proofs.EventSourceOutcomes.{err_is}
use Rattle.dg_spans.proofs.stretch.Stretch.read.Goals as goal
use Rattle.std.specs.Prelude.{length}

pub returns-clause-own : goal.returns-clause-own
returns-clause-own g c =
    let x : Opened = record { index = c.args.index.now.opening; names = c.args.names.now } in
    events_own c.law_events_are_read_back.ensures c.law_events_are_merged_back.ensures (g.D.Disk.image c.args.disk.now) x c.requires.image c.args.place c.args.at c.requires.placed c.requires.within
    _ c.record_at-found.ensures.source c.record_at-found.ensures.readable _ c.len.ensures.len _ c.record_at-found.ensures.start _ c.in_ok-events.ensures.done.read

pub returns-clause-takes : goal.returns-clause-takes
returns-clause-takes g c image is =
    subst (λ (k : Key). Takes (asked_length (kept_in image c.args.index.now.opening) all_columns k) (g.D.Disk.taken c.args.disk.now) (g.D.Disk.taken c.read_record.new.disk))
    (ap (λ (s : Source). s.key) c.record_at-found.ensures.source) (c.in_ok-events.ensures.takes image is)

pub returns-in_err-events-clause-never : goal.returns-in_err-events-clause-never
returns-in_err-events-clause-never g c =
    let x : Opened = record { index = c.args.index.now.opening; names = c.args.names.now } in
    let f : RecordFault = c.in_err-events.field-0.0 in
    err_is c.from_residual.result f (λ (f : RecordFault). WhereStands (g.D.Disk.image c.args.disk.now) (λ z. IsOutside f)) c.from_residual.ensures
    (none_damaged c.law_events_are_read_back.ensures c.law_events_are_merged_back.ensures (g.D.Disk.image c.args.disk.now) x c.requires.image c.args.place c.args.at c.requires.placed c.requires.within
    _ c.record_at-found.ensures.source c.record_at-found.ensures.readable _ c.len.ensures.len f c.in_err-events.ensures.refused)

pub returns-in_err-events-clause-refused : goal.returns-in_err-events-clause-refused
returns-in_err-events-clause-refused g c =
    let x : Opened = record { index = c.args.index.now.opening; names = c.args.names.now } in
    let f : RecordFault = c.in_err-events.field-0.0 in
    err_is c.from_residual.result f
    (λ (f : RecordFault). WhereTold (g.D.Disk.image c.args.disk.now)
    (λ image. IsReason (start_fault_of f) (events_in_source image (length c.args.names.now) c.args.index.now.opening (record_of c.args.index.now.opening c.args.place c.args.at)))) c.from_residual.ensures
    (why_none c.law_events_are_read_back.ensures c.law_events_are_merged_back.ensures (g.D.Disk.image c.args.disk.now) x c.requires.image c.args.place c.args.at c.requires.placed c.requires.within
    _ c.record_at-found.ensures.source c.record_at-found.ensures.readable _ c.len.ensures.len (start_fault_of f) c.in_err-events.ensures.refused)

pub returns-in_err-events-clause-takes : goal.returns-in_err-events-clause-takes
returns-in_err-events-clause-takes g c image is =
    let o = c.args.index.now.opening in
    let a = g.D.Disk.taken c.args.disk.now in
    let b = g.D.Disk.taken c.read_record.new.disk in
    fails_with c.from_residual.result c.in_err-events.field-0.0 (asked_length (kept_in image o) all_columns (record_of o c.args.place c.args.at).key) a b c.from_residual.ensures
    (subst (λ (k : Key). TakesAtMost (asked_length (kept_in image o) all_columns k) a b) (ap (λ (s : Source). s.key) c.record_at-found.ensures.source) (c.in_err-events.ensures.takes image is))
