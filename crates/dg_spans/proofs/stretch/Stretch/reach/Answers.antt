use Rattle.dg_plan.specs.HistoryGraph.{all_columns}
use Rattle.dg_records.specs.ColumnReads.{asked_length, kept_in}
use Rattle.dg_spans.specs.Stretches.{record_of}
use Rattle.dg_start.proofs.EventSourceBytes.{fails_with}
use Rattle.dg_spans.proofs.stretch.Stretch.reach.Goals as goal

pub returns-in_err-self-clause-takes : goal.returns-in_err-self-clause-takes
returns-in_err-self-clause-takes g c image is other =
    let o = c.args.index.now.opening in
    fails_with c.from_residual.result c.in_err-self.field-0.0 (asked_length (kept_in image o) all_columns (record_of o c.args.place c.args.at).key)
    (g.D.Disk.taken c.args.disk.now) (g.D.Disk.taken c.read.new.disk) c.from_residual.ensures (c.in_err-self.ensures.takes image is)

pub returns-clause-takes : goal.returns-clause-takes
returns-clause-takes g c image is other = c.in_ok-self.ensures.takes image is
