use Rattle.std.proofs.Common.{length, sym, ◌∙◌}
use Rattle.dg_verify.proofs.EventTestRecords.{all_complete}
use Rattle.dg_verify.proofs.verification.read_fit.Goals as goal

pub returns-in-None-clause-follow : goal.returns-in-None-clause-follow
returns-in-None-clause-follow g c =
    all_complete c.args.names.now c.read_all.new.own c.in_default.ensures.read (sym c.in_ok-key.ensures ∙ c.in-None.is)

pub read_all-requires-clause-read : goal.read_all-requires-clause-read
read_all-requires-clause-read g c = c.new-own.ensures.read (length c.args.names.now)
