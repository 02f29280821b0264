use Rattle.std.proofs.Common.{sym, ◌∙◌}
use Rattle.dg_batch.proofs.LinesDue.{is_short}
use Rattle.dg_batch.proofs.batch_lines.read_batch.Goals as goal

pub returns-in-Some-clause-ended : goal.returns-in-Some-clause-ended
returns-in-Some-clause-ended g c other short = c.in-Ok.ensures.ended (is_short c.in-Ok.field-0.read c.args.count c.args.barred c.in-Some.refusal other (sym c.first_refusal.ensures ∙ c.in-Some.is) short)
