-- Where the generator of a seed stands, and the change that comes next.
use Rattle.std.specs.Prelude.{ℕ, ◌+◌}
use Rattle.dg_changes.specs.ChangeGrammar.{ChangeByText}
use Rattle.dg_changes.specs.GeneratedChanges.{generated_change, next_number}

-- before the change of this index, behind this number
pub record Position : Type 0 where
  pub index : ℕ
  pub number : ℕ

-- before the first change of a seed
abbrev pub first_position : ℕ → Position
first_position seed = record { index = 0; number = seed }

-- before the change behind this one
abbrev pub next_position : Position → Position
next_position position = record { index = position.index + 1; number = next_number position.number }

-- the change that comes next
abbrev pub change_at : Position → ChangeByText
change_at position = generated_change position.index (next_number position.number)
