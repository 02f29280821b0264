use Rattle.dg_splitting.proofs.OutsAsked.{opened_damaged, opened_foreign, opened_index, opened_none}
use Rattle.dg_splitting.proofs.outs.is_blank.Goals as goal

pub returns-in-Ok-clause-blank : goal.returns-in-Ok-clause-blank
returns-in-Ok-clause-blank g c = opened_index (g.D.Disk.image c.args.out.now) _ c.in-Ok.ensures.opened

pub returns-in-Err-Blank-clause-blank : goal.returns-in-Err-Blank-clause-blank
returns-in-Err-Blank-clause-blank g c = opened_none (g.D.Disk.image c.args.out.now) c.in-Err-Blank.field-0 c.in-Err-Blank.field-0-is c.in-Err-Blank.ensures.refused

pub returns-in-Err-Foreign-clause-blank : goal.returns-in-Err-Foreign-clause-blank
returns-in-Err-Foreign-clause-blank g c = opened_foreign (g.D.Disk.image c.args.out.now) c.in-Err-Foreign.field-0 c.in-Err-Foreign.field-0-is c.in-Err-Foreign.ensures.refused

pub returns-in-Err-Damaged-clause-blank : goal.returns-in-Err-Damaged-clause-blank
returns-in-Err-Damaged-clause-blank g c = opened_damaged (g.D.Disk.image c.args.out.now) c.in-Err-Damaged.field-0 _ c.in-Err-Damaged.field-0-is c.in-Err-Damaged.ensures.refused
