use Rattle.std.proofs.Common.{◌≡◌, ℕ, ◌+◌, Bool, true, false, not, List, [], ◌∷◌, length, drop, sym, ◌∙◌, subst, arith, rules}
use Rattle.std.proofs.lemmas.Bool.{false≢true, not-false}
use Rattle.std.proofs.lemmas.List.{take_rest}
use Rattle.dg_grammar.specs.declared.grammar.Symbol.{Symbol}
use Rattle.dg_grammar.specs.Prefixes.{IsLongestPrefix}
use Rattle.dg_grammar.specs.Symbols.{row_of, terminal_of}
use Rattle.dg_grammar.proofs.Symbols.{AreWellFormed, well_formed_first}
use Rattle.dg_line.specs.declared.tails.Tail.{Tail}
use Rattle.dg_line.specs.Tails.{IsLineThen, IsTail}
use Rattle.dg_line.proofs.LineTails.{then_goes_on, then_stops}
use Rattle.dg_line.proofs.tails.+then_prefix.Goals as goal

empty_row : (row : List Symbol) (t : Tail) (bytes : List ℕ) (n : ℕ) → length row ≡ 0 → IsLongestPrefix (IsTail t) bytes n → IsLongestPrefix (IsLineThen (row_of row) (IsTail t)) bytes n
empty_row [] t bytes n e f = f
empty_row (s ∷ row) t bytes n e f = absurd (omega arith)

-- the tests of a row whose first symbol is taken off
tests : (row : List Symbol) (s : Symbol) (more : List Symbol) → row ≡ s ∷ more → AreWellFormed (row_of row) → AreWellFormed (terminal_of s ∷ row_of more)
tests row s more e h = subst (λ (r : List Symbol). AreWellFormed (row_of r)) e h

never : (b : Bool) → not b ≡ true → b ≡ true → ⊥
never true e f = false≢true e
never false e f = false≢true f

pub returns-in_default : goal.returns-in_default
returns-in_default t c = empty_row c.args.row.now c.args.tail c.args.line.now c.prefix.result c.in_default.ensures.cases c.prefix.ensures

pub prefix-prefix-requires : goal.prefix-prefix-requires
prefix-prefix-requires t c =
    let row : c.args.row.now ≡ c.in-Some.symbol.now ∷ c.in-Some.more.now = c.in-Some.ensures.cases.0 in
    (well_formed_first (terminal_of c.in-Some.symbol.now) (row_of c.in-Some.more.now) (tests _ _ _ row c.requires)).0

pub then_prefix-requires : goal.then_prefix-requires
then_prefix-requires t c =
    let row : c.args.row.now ≡ c.in-Some.symbol.now ∷ c.in-Some.more.now = c.in-Some.ensures.cases.0 in
    (search rules, (well_formed_first (terminal_of c.in-Some.symbol.now) (row_of c.in-Some.more.now) (tests _ _ _ row c.requires)).1)

pub returns-then-not-prefix : goal.returns-then-not-prefix
returns-then-not-prefix t c =
    let row : c.args.row.now ≡ c.in-Some.symbol.now ∷ c.in-Some.more.now = c.in-Some.ensures.cases.0 in
    subst (λ (s : List Symbol). IsLongestPrefix (IsLineThen (row_of s) (IsTail c.args.tail)) c.args.line.now c.prefix-prefix.result.bytes) (sym row)
    (then_stops (terminal_of c.in-Some.symbol.now) (row_of c.in-Some.more.now) c.args.tail c.args.line.now c.prefix-prefix.result.bytes (tests _ _ _ row c.requires) c.prefix-prefix.ensures.longest
    (λ taken below is. never c.prefix-prefix.result.whole c.if-not-prefix.true (c.prefix-prefix.ensures.whole.1 taken)))

pub returns-then-not-has_space_at : goal.returns-then-not-has_space_at
returns-then-not-has_space_at t c =
    let row : c.args.row.now ≡ c.in-Some.symbol.now ∷ c.in-Some.more.now = c.in-Some.ensures.cases.0 in
    subst (λ (s : List Symbol). IsLongestPrefix (IsLineThen (row_of s) (IsTail c.args.tail)) c.args.line.now c.prefix-prefix.result.bytes) (sym row)
    (then_stops (terminal_of c.in-Some.symbol.now) (row_of c.in-Some.more.now) c.args.tail c.args.line.now c.prefix-prefix.result.bytes (tests _ _ _ row c.requires) c.prefix-prefix.ensures.longest
    (λ taken below is. false≢true (sym c.if-not-has_space_at.true ∙ c.has_space_at.ensures.1 (below, is))))

pub returns : goal.returns
returns t c =
    let row : c.args.row.now ≡ c.in-Some.symbol.now ∷ c.in-Some.more.now = c.in-Some.ensures.cases.0 in
    let more = row_of c.in-Some.more.now in
    let taken = c.prefix-prefix.ensures.whole.0 (not-false c.prefix-prefix.result.whole c.if-not-prefix.false) in
    let space = c.has_space_at.ensures.0 c.if-not-has_space_at.false in
    let rest : IsLongestPrefix (IsLineThen more (IsTail c.args.tail)) (drop (c.prefix-prefix.result.bytes + 1) c.args.line.now) c.then_prefix.result =
    subst (λ (bytes : List ℕ). IsLongestPrefix (IsLineThen more (IsTail c.args.tail)) bytes c.then_prefix.result)
    (take_rest c.args.line.now (c.prefix-prefix.result.bytes + 1)) c.then_prefix.ensures in
    subst (λ (s : List Symbol). IsLongestPrefix (IsLineThen (row_of s) (IsTail c.args.tail)) c.args.line.now (c.prefix-prefix.result.bytes + 1 + c.then_prefix.result)) (sym row)
    (then_goes_on (terminal_of c.in-Some.symbol.now) more c.args.tail c.args.line.now c.prefix-prefix.result.bytes c.then_prefix.result (tests _ _ _ row c.requires)
    c.prefix-prefix.ensures.longest taken space.0 space.1 rest)
