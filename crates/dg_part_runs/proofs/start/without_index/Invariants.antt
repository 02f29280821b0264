use Rattle.std.proofs.Common.{◌≡◌, ℕ, ◌<◌, Some}
use Rattle.std.specs.Prelude.{slice_get}
use Rattle.dg_session.specs.SessionState.{SessionState}
use Rattle.dg_part_runs.specs.StartedParts.{KeepsIndex}
use Rattle.dg_part_runs.proofs.start.without_index.Given as goal

abbrev pub invariant-loop-part : goal.invariant-loop-part
invariant-loop-part l = (k : ℕ) (s : SessionState) → k < l.part → slice_get l.sessions k ≡ Some s → KeepsIndex s
