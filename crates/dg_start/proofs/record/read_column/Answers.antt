use Rattle.std.proofs.lemmas.Result.{IfOk-weaker}
use Rattle.dg_start.proofs.ColumnMergeRecords.{placed_read, placed_refused, read_fits}
use Rattle.dg_start.proofs.record.read_column.Goals as goal

pub returns-clause-read : goal.returns-clause-read
returns-clause-read g c = placed_read c.args.names (g.D.Disk.image c.args.disk.now) c.args.index.now.opening c.args.key c.args.col c.read_events.result c.read_events.ensures.read

pub returns-clause-fit : goal.returns-clause-fit
returns-clause-fit g c = IfOk-weaker c.read_events.result _ _ (λ placed fits. read_fits c.args.names 0 placed.items fits.events) c.read_events.ensures.fits

pub returns-clause-refused : goal.returns-clause-refused
returns-clause-refused g c = placed_refused c.args.names (g.D.Disk.image c.args.disk.now) c.args.index.now.opening c.args.key c.args.col c.read_events.result c.read_events.ensures.read
