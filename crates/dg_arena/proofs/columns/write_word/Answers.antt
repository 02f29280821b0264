use Rattle.std.proofs.Common.{◌-◌, ℕ, cond, get_or, set, ap, sym, ◌∙◌}
use Rattle.std.specs.Prelude.{bit_and, bit_or}
use Rattle.std.proofs.lemmas.Bool.{eq-eqb, ne_eqb}
use Rattle.std.proofs.lemmas.List.{set-get_or}
use Rattle.dg_arena.proofs.columns.write_word.Goals as goal

pub returns-then-on-off-eq0 : goal.returns-then-on-off-eq0
returns-then-on-off-eq0 c =
    let ws = c.args.words.now in
    let n = c.args.n in
    let w = get_or ws n 0 in
    let put : ℕ = bit_or (bit_and w (18446744073709551615 - c.args.off)) c.args.on in
    sym (ap (λ b. set ws n (cond b w put)) (eq-eqb (bit_or c.args.on c.args.off) 0 c.if-on-off-eq0.true) ∙ set-get_or ws n 0)

pub returns : goal.returns
returns c =
    let ws = c.args.words.now in
    let n = c.args.n in
    let w = get_or ws n 0 in
    let put : ℕ = bit_or (bit_and w (18446744073709551615 - c.args.off)) c.args.on in
    c.set.ensures ∙ ap (λ (v : ℕ). set ws n (bit_or (bit_and v (18446744073709551615 - c.args.off)) c.args.on)) c.word-word.ensures
    ∙ sym (ap (λ b. set ws n (cond b w put)) (ne_eqb (bit_or c.args.on c.args.off) 0 c.if-on-off-eq0.false))
