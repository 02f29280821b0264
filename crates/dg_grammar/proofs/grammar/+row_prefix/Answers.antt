use Rattle.std.proofs.Common.{◌≡◌, ℕ, ◌+◌, ◌<◌, Bool, true, false, not, List, [], ◌∷◌, length, drop, sym, ◌∙◌, subst, arith, rules}
use Rattle.std.proofs.lemmas.Bool.{eqb-true, eqb-false, false≢true, not-false}
use Rattle.std.proofs.lemmas.List.{take_rest, length-map}
use Rattle.dg_grammar.specs.declared.grammar.Symbol.{Symbol}
use Rattle.dg_grammar.specs.Prefixes.{IsLongestPrefix}
use Rattle.dg_grammar.specs.Symbols.{IsLineOf, row_of, terminal_of}
use Rattle.dg_grammar.proofs.Symbols.{AreWellFormed, well_formed_first, no_row, row_stops, row_goes_on}
use Rattle.dg_grammar.proofs.grammar.+row_prefix.Goals as goal
use Rattle.dg_grammar.proofs.grammar.+row_prefix.Goals.{then-is_empty-via-then-is_empty, then-is_empty-via-else-is_empty+then-not-prefix, then-is_empty-via-else-is_empty+else-not-prefix+then-not-has_space_at}

empty_row : (row : List Symbol) (bytes : List ℕ) → length row ≡ 0 → IsLongestPrefix (IsLineOf (row_of row)) bytes 0
empty_row [] bytes e = no_row bytes
empty_row (s ∷ row) bytes e = absurd (omega arith)

-- the tests of a row whose first symbol is taken off
tests : (row : List Symbol) (s : Symbol) (more : List Symbol) → row ≡ s ∷ more → AreWellFormed (row_of row) → AreWellFormed (terminal_of s ∷ row_of more)
tests row s more e h = subst (λ (r : List Symbol). AreWellFormed (row_of r)) e h

never : (b : Bool) → not b ≡ true → b ≡ true → ⊥
never true e f = false≢true e
never false e f = false≢true f

pub returns-in_default : goal.returns-in_default
returns-in_default t c = empty_row c.args.row.now c.args.rest.now c.in_default.ensures.cases

pub prefix-prefix-requires : goal.prefix-prefix-requires
prefix-prefix-requires t c =
    let row : c.args.row.now ≡ c.in-Some.symbol.now ∷ c.in-Some.more.now = c.in-Some.ensures.cases.0 in
    (well_formed_first (terminal_of c.in-Some.symbol.now) (row_of c.in-Some.more.now) (tests _ _ _ row c.requires)).0

pub row_prefix-requires : goal.row_prefix-requires
row_prefix-requires t c =
    let row : c.args.row.now ≡ c.in-Some.symbol.now ∷ c.in-Some.more.now = c.in-Some.ensures.cases.0 in
    (search rules, (well_formed_first (terminal_of c.in-Some.symbol.now) (row_of c.in-Some.more.now) (tests _ _ _ row c.requires)).1)

pub returns-then-is_empty : goal.returns-then-is_empty
returns-then-is_empty t c =
    let symbol = terminal_of c.in-Some.symbol.now in
    let more = row_of c.in-Some.more.now in
    let row : c.args.row.now ≡ c.in-Some.symbol.now ∷ c.in-Some.more.now = c.in-Some.ensures.cases.0 in
    let size = length-map c.in-Some.more.now terminal_of in
    subst (λ (s : List Symbol). IsLongestPrefix (IsLineOf (row_of s)) c.args.rest.now c.prefix-prefix.result.bytes) (sym row)
    (row_stops symbol more c.args.rest.now c.prefix-prefix.result.bytes (tests _ _ _ row c.requires) c.prefix-prefix.ensures.longest
    (λ some taken below is. elim c.then-is_empty.branch [
      | then-is_empty-via-then-is_empty w ↦
          omega (arith, eqb-true (length c.in-Some.more.now) 0 (sym (w.if-is_empty.ensures)))
      | then-is_empty-via-else-is_empty+then-not-prefix w ↦
          never c.prefix-prefix.result.whole w.if-not-prefix.true (c.prefix-prefix.ensures.whole.1 taken)
      | then-is_empty-via-else-is_empty+else-not-prefix+then-not-has_space_at w ↦
          false≢true (sym w.if-not-has_space_at.true ∙ w.has_space_at.ensures.1 (below, is))
    ]))

pub returns : goal.returns
returns t c =
    let symbol = terminal_of c.in-Some.symbol.now in
    let more = row_of c.in-Some.more.now in
    let row : c.args.row.now ≡ c.in-Some.symbol.now ∷ c.in-Some.more.now = c.in-Some.ensures.cases.0 in
    let size = length-map c.in-Some.more.now terminal_of in
    let some : 0 < length more = omega (arith, eqb-false (length c.in-Some.more.now) 0 (sym (c.if-is_empty.ensures))) in
    let taken = c.prefix-prefix.ensures.whole.0 (not-false c.prefix-prefix.result.whole c.if-not-prefix.false) in
    let space = c.has_space_at.ensures.0 c.if-not-has_space_at.false in
    let rest : IsLongestPrefix (IsLineOf more) (drop (c.prefix-prefix.result.bytes + 1) c.args.rest.now) c.row_prefix.result =
    subst (λ (bytes : List ℕ). IsLongestPrefix (IsLineOf more) bytes c.row_prefix.result)
    (take_rest c.args.rest.now (c.prefix-prefix.result.bytes + 1)) c.row_prefix.ensures in
    subst (λ (s : List Symbol). IsLongestPrefix (IsLineOf (row_of s)) c.args.rest.now (c.prefix-prefix.result.bytes + 1 + c.row_prefix.result)) (sym row)
    (row_goes_on symbol more c.args.rest.now c.prefix-prefix.result.bytes c.row_prefix.result (tests _ _ _ row c.requires) some
    c.prefix-prefix.ensures.longest taken space.0 space.1 rest)
