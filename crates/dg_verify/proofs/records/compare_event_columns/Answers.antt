use Rattle.std.specs.Prelude.{bytes_eq, None, Some, if◌then◌else◌}
use Rattle.dg_graph.specs.declared.element.Column.TheVariants.{Transient}
use Rattle.dg_index.specs.FileOfHistory.{lent}
use Rattle.dg_index.specs.OpenedIndex.{column_at, entry_at}
use Rattle.dg_start.specs.EventSources.{WhereTold}
use Rattle.dg_start.proofs.EventSourceOutcomes.{err_is}
use Rattle.dg_verify.specs.declared.stop.Stop.{Stop}
use Rattle.dg_verify.specs.Verification.{IsWrong, keyed_column, unlike, unlike_events}
use Rattle.dg_verify.proofs.VerificationRecords.{columns_stop}
use Rattle.dg_verify.proofs.records.compare_event_columns.Goals as goal

pub returns-in_err-compare_columns-clause-stopped : goal.returns-in_err-compare_columns-clause-stopped
returns-in_err-compare_columns-clause-stopped g c =
    let o = c.args.index.now.opening in
    let s : Stop = c.in_err-compare_columns.field-0.0 in
    err_is c.from_residual.result s
    (λ (s : Stop). WhereTold (g.D.Disk.image c.args.disk.now) (λ image. IsWrong s (keyed_column c.args.key (unlike_events image o c.args.key (lent c.args.due)))))
    c.from_residual.ensures
    (λ image h. columns_stop s c.args.key (unlike image o c.args.key (lent c.args.due))
    (if bytes_eq (column_at image (entry_at o c.args.key) Transient) c.args.due.transient.now then None else Some Transient)
    (c.in_err-compare_columns.ensures.stopped image h))
