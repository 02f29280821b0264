-- What holds of each list of names.
use Rattle.std.specs.Prelude.{ℕ, ◌≤◌, List, length}
use Rattle.std.specs.List.{All}
use Rattle.dg_text.specs.declared.limits.TheConstants.{NAMES_MAX, NAME_BYTES_MAX}

-- there are few enough names that each number fits 32 bits
abbrev pub AreFew : List (List ℕ) → Type 0
AreFew names = length names ≤ NAMES_MAX

-- each name is short enough
abbrev pub AreShort : List (List ℕ) → Type 0
AreShort names = All (λ text. length text ≤ NAME_BYTES_MAX) names
