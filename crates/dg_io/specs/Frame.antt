-- What a call does to the lines and the source that it takes from, and to the sink that it writes to, whatever it answers.
use Rattle.std.specs.Prelude.{◌≡◌, ℕ, ◌+◌, ◌<◌, ◌≤◌, IsTrue, List, length, Option}
use Rattle.dg_io.specs.Told.{Gives}
use Rattle.dg_io.specs.LinesState.{LinesState, EndsWith, to_come}

-- From the lines, what the source had left and its count of failures, to those after the call: bytes may
-- have been taken from the source, and no more may come than before.
pub record Advances (old : LinesState) (left : Option (List ℕ)) (faults : ℕ) (new : LinesState) (then_left : Option (List ℕ)) (then_faults : ℕ) : Type 0 where
  pub kept : to_come new ≤ to_come old
  pub taken : (bytes : List ℕ) × Gives left bytes then_left × (new.taken ≡ old.taken + length bytes)
  pub at_end : EndsWith old left → EndsWith new then_left
  pub ended : IsTrue old.ended → IsTrue new.ended
  pub within : (IsTrue old.ended → old.taken < old.limit) → IsTrue new.ended → new.taken < new.limit
  pub same_limit : new.limit ≡ old.limit
  pub counted : faults ≤ then_faults

-- the count of a sink's failures has not fallen
abbrev pub CountsOn : ℕ → ℕ → Type 0
CountsOn old new = old ≤ new
