use Rattle.std.proofs.Common.{◌≡◌, drop}
use Rattle.dg_session.proofs.IndexRuns.{is_key_of}
use Rattle.dg_session.proofs.session.indexes.of_key.Given as goal

abbrev pub invariant-loop-aux : goal.invariant-loop-aux
invariant-loop-aux l = is_key_of l.key l.indexes ≡ is_key_of l.key (drop l.aux-index l.indexes)
