use Rattle.std.proofs.Common.{◌≡◌, ◌+◌, ◌<◌, ◌∙◌, Bool, true, false, not, List, drop, take, sym, ap, subst, arith, ℕ}
use Rattle.std.proofs.lemmas.Bool.{false≢true, not-false}
use Rattle.std.proofs.lemmas.List.{take_rest}
use Rattle.dg_grammar.specs.Prefixes.{IsLongestPrefix}
use Rattle.dg_expr.specs.declared.reading.Owing.{Owing}
use Rattle.dg_expr.specs.Owing.{Completes}
use Rattle.dg_expr.proofs.ExpressionTexts.{goes_on_text, last_word, stops_text}
use Rattle.dg_expr.proofs.reading.Owing.+prefix.Goals as goal

never : (b : Bool) → not b ≡ true → b ≡ true → ⊥
never true e f = false≢true e
never false e f = false≢true f

pub returns-then-not-begun : goal.returns-then-not-begun
returns-then-not-begun t c =
    stops_text c.args.self c.args.rest.now c.word_prefix-begun.result.bytes c.requires.owes c.requires.room c.word_prefix-begun.ensures.longest
    (λ taken below is line behind. never c.word_prefix-begun.result.whole c.if-not-begun.true (c.word_prefix-begun.ensures.whole.1 taken))

pub returns-then-not-has_space_at : goal.returns-then-not-has_space_at
returns-then-not-has_space_at t c =
    stops_text c.args.self c.args.rest.now c.word_prefix-begun.result.bytes c.requires.owes c.requires.room c.word_prefix-begun.ensures.longest
    (λ taken below is line behind. false≢true (sym c.if-not-has_space_at.true ∙ c.has_space_at.ensures.1 (below, is)))

pub returns-then-owing-eq0 : goal.returns-then-owing-eq0
returns-then-owing-eq0 t c =
    stops_text c.args.self c.args.rest.now c.word_prefix-begun.result.bytes c.requires.owes c.requires.room c.word_prefix-begun.ensures.longest
    (λ taken below is line behind. last_word c.args.self (take c.word_prefix-begun.result.bytes c.args.rest.now) line
    (λ w e. ap (λ (o : Owing). o.expressions) (sym (c.after_text-owing.ensures w e)) ∙ c.if-owing-eq0.true) behind)

pub returns : goal.returns
returns t c =
    let space = c.has_space_at.ensures.0 c.if-not-has_space_at.false in
    let taken = c.word_prefix-begun.ensures.whole.0 (not-false c.word_prefix-begun.result.whole c.if-not-begun.false) in
    let not_none = c.if-owing-eq0.false in
    let owes : 0 < c.after_text-owing.result.expressions = omega arith in
    let rest : IsLongestPrefix (Completes c.after_text-owing.result) (drop (c.word_prefix-begun.result.bytes + 1) c.args.rest.now) c.prefix.result =
    subst (λ (bytes : List ℕ). IsLongestPrefix (Completes c.after_text-owing.result) bytes c.prefix.result)
    (take_rest c.args.rest.now (c.word_prefix-begun.result.bytes + 1)) c.prefix.ensures in
    goes_on_text c.args.self c.after_text-owing.result c.args.rest.now c.word_prefix-begun.result.bytes c.prefix.result c.requires.owes c.requires.room
    c.word_prefix-begun.ensures.longest taken space.0 space.1 c.after_text-owing.ensures owes rest
