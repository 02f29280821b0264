use Rattle.std.proofs.Common.{◌≡◌, drop}
use Rattle.dg_part_runs.specs.HeldParts.{names_kept}
use Rattle.dg_part_runs.proofs.ends.names_of.Given as goal

abbrev pub invariant-loop-session : goal.invariant-loop-session
invariant-loop-session l = names_kept l.none (drop l.session-index l.sessions) ≡ names_kept l.none l.sessions
