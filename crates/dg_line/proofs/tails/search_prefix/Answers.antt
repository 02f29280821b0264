use Rattle.std.proofs.Common.{ℕ, ◌+◌, ◌<◌, ◌∙◌, List, drop, take, sym, subst, arith}
use Rattle.std.proofs.lemmas.Bool.{false≢true}
use Rattle.std.proofs.lemmas.List.{take_rest}
use Rattle.dg_grammar.specs.Prefixes.{IsLongestPrefix}
use Rattle.dg_line.specs.Tails.{IsKeyText, IsSearchText, IsValueText}
use Rattle.dg_line.proofs.TailTexts.{search_goes_on, search_stops}
use Rattle.dg_line.proofs.tails.search_prefix.Goals as goal

pub returns-then-bytes-eq0 : goal.returns-then-bytes-eq0
returns-then-bytes-eq0 c =
    subst (IsLongestPrefix IsSearchText c.args.rest.now) c.if-bytes-eq0.true
    (search_stops c.args.rest.now c.key_prefix-bytes.result c.key_prefix-bytes.ensures.longest
    (λ taken below is. false≢true (subst (λ (n : ℕ). IsKeyText (take n c.args.rest.now)) c.if-bytes-eq0.true taken)))

pub returns-then-not-has_space_at : goal.returns-then-not-has_space_at
returns-then-not-has_space_at c =
    search_stops c.args.rest.now c.key_prefix-bytes.result c.key_prefix-bytes.ensures.longest
    (λ taken below is. false≢true (sym c.if-not-has_space_at.true ∙ c.has_space_at.ensures.1 (below, is)))

pub returns : goal.returns
returns c =
    let not_none = c.if-bytes-eq0.false in
    let some : 0 < c.key_prefix-bytes.result = omega arith in
    let space = c.has_space_at.ensures.0 c.if-not-has_space_at.false in
    let value : IsLongestPrefix IsValueText (drop (c.key_prefix-bytes.result + 1) c.args.rest.now) c.value_prefix.result =
    subst (λ (bytes : List ℕ). IsLongestPrefix IsValueText bytes c.value_prefix.result) (take_rest c.args.rest.now (c.key_prefix-bytes.result + 1)) c.value_prefix.ensures in
    search_goes_on c.args.rest.now c.key_prefix-bytes.result c.value_prefix.result c.key_prefix-bytes.ensures.longest (c.key_prefix-bytes.ensures.whole some) space.0 space.1 value
