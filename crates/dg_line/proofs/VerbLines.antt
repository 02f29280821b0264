-- How far a line goes along with the verb of a row, and with what comes behind it.
use Rattle.std.proofs.Common.{◌≡◌, ℕ, ◌+◌, ◌<◌, List, [], ◌∷◌, length, get_or, take, drop, refl, arith}
use Rattle.std.specs.List.{Contains}
use Rattle.dg_grammar.specs.Prefixes.{IsLongestPrefix}
use Rattle.dg_grammar.specs.Symbols.{Terminal, One_of}
use Rattle.dg_grammar.proofs.Symbols.{AreWellFormed, row_goes_on, row_stops}
use Rattle.dg_line.specs.declared.table.End.{End}
use Rattle.dg_line.specs.declared.table.End.TheVariants as end
use Rattle.dg_line.specs.Table.{IsEndOf, IsVerbAlone}
use Rattle.dg_line.proofs.LineTails.{then_goes_on, then_stops}

pub verb_stops : (e : End) (verb : List ℕ) (row : List Terminal) (line : List ℕ) (n : ℕ) → AreWellFormed (One_of (verb ∷ []) ∷ row)
    → IsLongestPrefix (Contains (verb ∷ [])) line n
    → ((IsVerbAlone e row → ⊥) → Contains (verb ∷ []) (take n line) → n < length line → get_or line n 0 ≡ 32 → ⊥)
    → IsLongestPrefix (IsEndOf e (One_of (verb ∷ []) ∷ row)) line n
verb_stops (end.Made m) verb row line n e f never =
    row_stops (One_of (verb ∷ [])) row line n e f (λ some taken below is. never (λ none. omega (arith, some, none)) taken below is)
verb_stops (end.Then t) verb row line n e f never = then_stops (One_of (verb ∷ [])) row t line n e f (λ taken below is. never (λ none. none) taken below is)

pub verb_goes_on : (e : End) (verb : List ℕ) (row : List Terminal) (line : List ℕ) (n k : ℕ) → AreWellFormed (One_of (verb ∷ []) ∷ row)
    → (IsVerbAlone e row → ⊥) → IsLongestPrefix (Contains (verb ∷ [])) line n → Contains (verb ∷ []) (take n line) → n < length line → get_or line n 0 ≡ 32
    → IsLongestPrefix (IsEndOf e row) (drop (n + 1) line) k → IsLongestPrefix (IsEndOf e (One_of (verb ∷ []) ∷ row)) line (n + 1 + k)
verb_goes_on (end.Made m) verb row line n k e some f taken below is g = row_goes_on (One_of (verb ∷ [])) row line n k e (not_empty row some) f taken below is g
  where
    not_empty : (row : List Terminal) → (length row ≡ 0 → ⊥) → 0 < length row
    not_empty [] never = absurd (never refl)
    not_empty (t ∷ row) never = omega arith
verb_goes_on (end.Then t) verb row line n k e some f taken below is g = then_goes_on (One_of (verb ∷ [])) row t line n k e f taken below is g
