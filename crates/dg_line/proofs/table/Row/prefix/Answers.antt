use Rattle.std.proofs.Common.{◌≡◌, ℕ, ◌+◌, Bool, true, false, not, List, [], ◌∷◌, length, nat_le, sym, ◌∙◌, subst}
use Rattle.std.specs.List.{list_all}
use Rattle.std.proofs.lemmas.Bool.{and_parts, false≢true, not-false}
use Rattle.std.proofs.lemmas.List.{take_rest}
use Rattle.dg_grammar.specs.Prefixes.{IsLongestPrefix}
use Rattle.dg_grammar.specs.Symbols.{One_of, is_well_formed, row_of}
use Rattle.dg_grammar.proofs.Symbols.{AreWellFormed}
use Rattle.dg_line.specs.declared.table.Row.{Row}
use Rattle.dg_line.specs.Table.{IsEndOf, is_well_made, reading_of}
use Rattle.dg_line.proofs.VerbLines.{verb_goes_on, verb_stops}
use Rattle.dg_line.proofs.table.Row.prefix.Goals as goal

formed : (r : Row) → is_well_made (reading_of r) ≡ true → AreWellFormed (One_of (r.0.now ∷ []) ∷ row_of r.1.now)
formed r e = (and_parts (nat_le (length (reading_of r).symbols) 5) (list_all is_well_formed (reading_of r).symbols) e).1

never : (b : Bool) → not b ≡ true → b ≡ true → ⊥
never true e f = false≢true e
never false e f = false≢true f

pub prefix_behind-requires : goal.prefix_behind-requires
prefix_behind-requires c = (and_parts (is_well_formed (One_of (c.args.self.0.now ∷ []))) (list_all is_well_formed (row_of c.args.self.1.now)) (formed c.args.self c.requires)).1

pub returns-then-not-verb : goal.returns-then-not-verb
returns-then-not-verb c =
    verb_stops c.args.self.2 c.args.self.0.now (row_of c.args.self.1.now) c.args.line.now c.words_prefix-verb.result.bytes (formed c.args.self c.requires) c.words_prefix-verb.ensures.longest
    (λ more taken below is. never c.words_prefix-verb.result.whole c.if-not-verb.true (c.words_prefix-verb.ensures.whole.1 taken))

pub returns-then-not-has_space_at : goal.returns-then-not-has_space_at
returns-then-not-has_space_at c =
    verb_stops c.args.self.2 c.args.self.0.now (row_of c.args.self.1.now) c.args.line.now c.words_prefix-verb.result.bytes (formed c.args.self c.requires) c.words_prefix-verb.ensures.longest
    (λ more taken below is. false≢true (sym c.if-not-has_space_at.true ∙ c.has_space_at.ensures.1 (below, is)))

pub returns-then-is_verb_alone : goal.returns-then-is_verb_alone
returns-then-is_verb_alone c =
    verb_stops c.args.self.2 c.args.self.0.now (row_of c.args.self.1.now) c.args.line.now c.words_prefix-verb.result.bytes (formed c.args.self c.requires) c.words_prefix-verb.ensures.longest
    (λ more taken below is. more (c.is_verb_alone.ensures.0 c.if-is_verb_alone.true))

pub returns : goal.returns
returns c =
    let row = row_of c.args.self.1.now in
    let verb = c.words_prefix-verb in
    let taken = verb.ensures.whole.0 (not-false verb.result.whole c.if-not-verb.false) in
    let space = c.has_space_at.ensures.0 c.if-not-has_space_at.false in
    verb_goes_on c.args.self.2 c.args.self.0.now row c.args.line.now verb.result.bytes c.prefix_behind.result (formed c.args.self c.requires)
    (λ none. false≢true (sym c.if-is_verb_alone.false ∙ c.is_verb_alone.ensures.1 none)) verb.ensures.longest taken space.0 space.1
    (subst (λ (bytes : List ℕ). IsLongestPrefix (IsEndOf c.args.self.2 row) bytes c.prefix_behind.result) (take_rest c.args.line.now (verb.result.bytes + 1)) c.prefix_behind.ensures)
