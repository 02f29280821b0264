use Rattle.std.proofs.Common.{◌≡◌, drop}
use Rattle.dg_part_runs.specs.HeldParts.{ends_kept}
use Rattle.dg_part_runs.specs.PartTimes.{joined}
use Rattle.dg_part_runs.proofs.ends.ends_of.Given as goal

abbrev pub invariant-loop-session : goal.invariant-loop-session
invariant-loop-session l = joined l.ends (ends_kept (drop l.session-index l.sessions)) ≡ ends_kept l.sessions
