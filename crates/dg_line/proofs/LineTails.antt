-- How far a line goes along with some words and what comes behind them.
use Rattle.std.proofs.Common.{◌≡◌, ℕ, ◌+◌, ◌*◌, ◌<◌, ◌≤◌, List, [], ◌∷◌, ◌++◌, length, get_or, replicate, take, drop, codes, refl, ap, arith, length-append}
use Rattle.std.proofs.lemmas.List.{length-take-le}
use Rattle.dg_expr.specs.Owing.{start}
use Rattle.dg_expr.proofs.ExpressionTexts.{complete_is, complete_short, is_complete, sample}
use Rattle.dg_grammar.specs.Prefixes.{IsLongestPrefix}
use Rattle.dg_grammar.specs.Symbols.{Terminal, Number, IsLineOf, IsWordOf}
use Rattle.dg_graph.specs.declared.limits.TheConstants.{TIME_MAX}
use Rattle.dg_machine.specs.declared.command.TheConstants.{TIMES_MAX}
use Rattle.dg_grammar.proofs.Prefixes.{goes_on, stops}
use Rattle.dg_grammar.proofs.ListElements.{any_first}
use Rattle.dg_grammar.proofs.Symbols.{AreWellFormed, fine_word, lines_short, parted_at, sample_word, space_is, well_formed_first}
use Rattle.dg_line.specs.declared.tails.Tail.{Tail}
use Rattle.dg_line.specs.declared.tails.Tail.TheVariants as tail
use Rattle.dg_line.specs.Tails.{IsLineThen, IsTail}
use Rattle.dg_line.proofs.TailTexts.{key_parts, value_parts}
use Rattle.dg_line.proofs.Instants.{instants_sample}

-- ---- samples

pub tail_sample : (t : Tail) → (line : List ℕ) × IsTail t line
tail_sample tail.Expression = let s = sample start (omega arith) refl in (s.0, complete_is s.0 s.1)
tail_sample tail.Key = (codes "k", refl)
tail_sample tail.Search = (codes "k ", record { word = codes "k"; after = []; parts = refl; taken = refl; goes_on = refl })
tail_sample tail.Instants = instants_sample

pub then_sample : (row : List Terminal) (t : Tail) → AreWellFormed row → (line : List ℕ) × IsLineThen row (IsTail t) line
then_sample [] t e = tail_sample t
then_sample (s ∷ row) t e =
    let tests = well_formed_first s row e in
    let word = sample_word s tests.0 in
    let rest = then_sample row t tests.1 in
    (word.0 ++ 32 ∷ rest.0, record { word = word.0; after = rest.0; parts = refl; taken = word.1; goes_on = rest.1 })

-- ---- a word of a row, and what comes behind it

pub then_stops : (s : Terminal) (row : List Terminal) (t : Tail) (bytes : List ℕ) (n : ℕ) → AreWellFormed (s ∷ row) → IsLongestPrefix (IsWordOf s) bytes n
    → (IsWordOf s (take n bytes) → n < length bytes → get_or bytes n 0 ≡ 32 → ⊥) → IsLongestPrefix (IsLineThen (s ∷ row) (IsTail t)) bytes n
then_stops s row t bytes n e f never =
    let tests = well_formed_first s row e in
    let rest = then_sample row t tests.1 in
    stops (IsWordOf s) (IsLineThen row (IsTail t)) bytes n f (λ w h. (fine_word s w tests.0 h).plain) rest.0 rest.1 (λ taken v is.
    let at = space_is bytes (take n bytes) v n is (length-take-le n bytes f.within) in
    never taken at.0 at.1)

pub then_goes_on : (s : Terminal) (row : List Terminal) (t : Tail) (bytes : List ℕ) (n k : ℕ) → AreWellFormed (s ∷ row) → IsLongestPrefix (IsWordOf s) bytes n
    → IsWordOf s (take n bytes) → n < length bytes → get_or bytes n 0 ≡ 32 → IsLongestPrefix (IsLineThen row (IsTail t)) (drop (n + 1) bytes) k
    → IsLongestPrefix (IsLineThen (s ∷ row) (IsTail t)) bytes (n + 1 + k)
then_goes_on s row t bytes n k e f taken below is g =
    let tests = well_formed_first s row e in
    let rest = then_sample row t tests.1 in
    goes_on (IsWordOf s) (IsLineThen row (IsTail t)) bytes (take n bytes) (drop (n + 1) bytes) n k (parted_at bytes n below is) (length-take-le n bytes f.within)
    f taken (λ w h. (fine_word s w tests.0 h).plain) rest.0 rest.1 g

-- ---- how long they are

pub tail_short : (t : Tail) (line : List ℕ) → IsTail t line → length line ≤ 1200
tail_short tail.Expression line h = omega (arith, complete_short line (is_complete line h))
tail_short tail.Key line h = let few = (key_parts line h).few in omega arith
tail_short tail.Search line h =
    let key = (key_parts h.word h.taken).few in
    let value = (value_parts h.after h.goes_on).few in
    omega (arith, ap length h.parts, length-append h.word (32 ∷ h.after))
tail_short tail.Instants line h =
    let row = replicate TIMES_MAX (Number 0 TIME_MAX) in
    let short = lines_short (row ∷ []) line TIMES_MAX refl refl (any_first (λ (r : List Terminal). IsLineOf r line) row [] h) in
    omega arith

pub then_short : (row : List Terminal) (t : Tail) (line : List ℕ) → AreWellFormed row → IsLineThen row (IsTail t) line → length line ≤ 21 * length row + 1200
then_short [] t line e h = let short = tail_short t line h in omega arith
then_short (s ∷ row) t line e h =
    let tests = well_formed_first s row e in
    let short = (fine_word s h.word tests.0 h.taken).short in
    omega (arith, ap length h.parts, length-append h.word (32 ∷ h.after), then_short row t h.after tests.1 h.goes_on)
