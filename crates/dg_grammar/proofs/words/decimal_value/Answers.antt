use Rattle.std.proofs.Common.{◌≡◌, ◌<◌, arith, get_or, length, take, refl, sym, ap, ◌∙◌, subst, decimal}
use Rattle.std.specs.Str.Parse.{AllDigits, digits_value}
use Rattle.std.proofs.lemmas.Bool.{eqb-true, eqb-false, false≢true}
use Rattle.std.proofs.lemmas.List.{take_all}
use Rattle.dg_grammar.proofs.WordNumbers.{if_none, not_empty, no_zero_before, text_of_value, more_digits, more_value, stops_at}
use Rattle.dg_grammar.proofs.words.decimal_value.Goals as goal

pub returns-then-is_empty-clause-none : goal.returns-then-is_empty-clause-none
returns-then-is_empty-clause-none c = λ n small e.
    not_empty c.args.word.now n small e (eqb-true (length c.args.word.now) 0 (sym c.if-is_empty.ensures))

pub returns-then-has_leading_zero-clause-none : goal.returns-then-has_leading_zero-clause-none
returns-then-has_leading_zero-clause-none c = λ n small e.
    let zero_first = c.if-has_leading_zero.ensures.0 refl in
    no_zero_before c.args.word.now n small e zero_first.1 zero_first.0

pub returns-in_err-value-clause-none : goal.returns-in_err-value-clause-none
returns-in_err-value-clause-none c =
    if_none _ _ (stops_at c.args.word.now c.loop-byte.byte-index _ c.loop-byte.value (omega arith) refl
    c.loop-byte.invariant.value c.in_err-value.ensures.none)

pub loop-byte-preserved : goal.loop-byte-preserved
loop-byte-preserved c =
    let word = c.args.word.now in
    let i = c.loop-byte.byte-index in
    let step = c.in_ok-value.ensures.some in
    record {
      digits = more_digits word i (get_or word i 0) c.loop-byte.value (omega arith) refl step.0 step.1 c.loop-byte.invariant.digits;
      value = step.2 ∙ more_value word i (get_or word i 0) c.loop-byte.value (omega arith) refl step.0 step.1 c.loop-byte.invariant.value;
      fits = omega arith;
    }

pub returns-clause-some : goal.returns-clause-some
returns-clause-some c =
    let word = c.args.word.now in
    let all : take c.loop-byte.byte-index word ≡ word = take_all c.loop-byte.byte-index word (omega arith) in
    let value : c.loop-byte.value ≡ digits_value 10 word = c.loop-byte.invariant.value ∙ ap (digits_value 10) all in
    let digits : AllDigits 10 word = subst (AllDigits 10) all c.loop-byte.invariant.digits in
    let some : 0 < length word = omega (arith, eqb-false (length word) 0 (sym c.if-is_empty.ensures)) in
    let front : get_or word 0 0 ≡ 48 → length word ≡ 1 = λ zero_first.
    let not_more : 1 < length word → ⊥ = λ more. false≢true (c.if-has_leading_zero.ensures.1 (more, zero_first)) in
    omega arith in
    text_of_value word digits some front (omega arith) ∙ ap decimal (sym value)
