use Rattle.std.proofs.Common.{◌≡◌, ℕ, ◌⊎◌, inl, inr, ◌∙◌, Bool, true, false, ◌<◌, IsTrue, ◌↔◌, length, get_or, take, refl, sym, subst, arith}
use Rattle.std.proofs.lemmas.Bool.{false≢true}
use Rattle.dg_grammar.specs.Prefixes.{IsLongestPrefix}
use Rattle.dg_grammar.specs.Symbols.{Number, IsWordOf}
use Rattle.dg_grammar.proofs.WordNumbers.{more_digits, more_value}
use Rattle.dg_grammar.proofs.SymbolNumbers.{number_stops, number_whole, after_zero, at_no_digit, too_great, too_small, text_more}
use Rattle.dg_grammar.proofs.grammar.number_prefix.Goals as goal
use Rattle.dg_grammar.proofs.grammar.number_prefix.Goals.{else-prefix-via-then-prefix+else-value-eq0, else-prefix-via-else-prefix}

-- a number that goes on is not 0
nonzero : (whole : Bool) (value i : ℕ) → (IsTrue whole ↔ (0 < i)) → ((whole ≡ true) × (value ≡ 0 → ⊥)) ⊎ (whole ≡ false) → 0 < i → value ≡ 0 → ⊥
nonzero whole value i is (inl h) some none = h.1 none
nonzero whole value i is (inr h) some none = false≢true (sym h ∙ is.1 some)

pub returns-then-value-eq0-clause-longest : goal.returns-then-value-eq0-clause-longest
returns-then-value-eq0-clause-longest c =
    let l = c.loop-byte in
    subst (IsLongestPrefix (IsWordOf (Number c.args.least c.args.greatest)) c.args.rest.now) (sym l.invariant.at)
    (number_stops c.args.least c.args.greatest l.value c.args.rest.now l.byte-index (omega arith) (omega arith) l.invariant.text l.invariant.low l.invariant.high
    (λ below n word small low high e in_word same here.
    let some = l.invariant.whole.0 c.if-prefix.true in
    after_zero l.value c.args.rest.now l.byte-index some (omega arith) (l.invariant.text some) n word small e in_word same))

pub returns-in_default-clause-longest : goal.returns-in_default-clause-longest
returns-in_default-clause-longest c =
    let l = c.loop-byte in
    let step = c.in-Some.ensures.some in
    subst (IsLongestPrefix (IsWordOf (Number c.args.least c.args.greatest)) c.args.rest.now) (sym l.invariant.at)
    (number_stops c.args.least c.args.greatest l.value c.args.rest.now l.byte-index (omega arith) (omega arith) l.invariant.text l.invariant.low l.invariant.high
    (λ below n word small low high e in_word same here.
    too_great c.args.greatest l.value _ c.in-Some.next c.args.rest.now l.byte-index refl step.0 step.1 step.2 l.invariant.value (omega arith)
    n word small high e in_word same here))

pub returns-in_default-2-clause-longest : goal.returns-in_default-2-clause-longest
returns-in_default-2-clause-longest c =
    let l = c.loop-byte in
    let step = c.in-Some.ensures.some in
    subst (IsLongestPrefix (IsWordOf (Number c.args.least c.args.greatest)) c.args.rest.now) (sym l.invariant.at)
    (number_stops c.args.least c.args.greatest l.value c.args.rest.now l.byte-index (omega arith) (omega arith) l.invariant.text l.invariant.low l.invariant.high
    (λ below n word small low high e in_word same here.
    too_small c.args.least l.value _ c.in-Some.next c.args.rest.now l.byte-index c.requires refl step.0 step.1 step.2
    (nonzero l.prefix.whole l.value l.byte-index l.invariant.whole c.else-prefix.either) (omega arith) n word small low e in_word here))

pub returns-in_default-3-clause-longest : goal.returns-in_default-3-clause-longest
returns-in_default-3-clause-longest c =
    let l = c.loop-byte in
    subst (IsLongestPrefix (IsWordOf (Number c.args.least c.args.greatest)) c.args.rest.now) (sym l.invariant.at)
    (number_stops c.args.least c.args.greatest l.value c.args.rest.now l.byte-index (omega arith) (omega arith) l.invariant.text l.invariant.low l.invariant.high
    (λ below n word small low high e in_word same here.
    at_no_digit l.value _ c.args.rest.now l.byte-index refl l.invariant.value c.in_default.ensures.none n word small e in_word same here))

pub returns-clause-longest : goal.returns-clause-longest
returns-clause-longest c =
    let l = c.loop-byte in
    subst (IsLongestPrefix (IsWordOf (Number c.args.least c.args.greatest)) c.args.rest.now) (sym l.invariant.at)
    (number_stops c.args.least c.args.greatest l.value c.args.rest.now l.byte-index (omega arith) (omega arith) l.invariant.text l.invariant.low l.invariant.high
    (λ below n word small low high e in_word same here. omega arith))

pub returns-in_default-clause-whole : goal.returns-in_default-clause-whole
returns-in_default-clause-whole c =
    let l = c.loop-byte in
    subst (λ (k : ℕ). IsTrue l.prefix.whole ↔ IsWordOf (Number c.args.least c.args.greatest) (take k c.args.rest.now)) (sym l.invariant.at)
    (number_whole c.args.least c.args.greatest l.value c.args.rest.now l.byte-index l.prefix.whole (omega arith) l.invariant.whole l.invariant.text l.invariant.low l.invariant.high)

pub returns-in_default-3-clause-whole : goal.returns-in_default-3-clause-whole
returns-in_default-3-clause-whole c =
    let l = c.loop-byte in
    subst (λ (k : ℕ). IsTrue l.prefix.whole ↔ IsWordOf (Number c.args.least c.args.greatest) (take k c.args.rest.now)) (sym l.invariant.at)
    (number_whole c.args.least c.args.greatest l.value c.args.rest.now l.byte-index l.prefix.whole (omega arith) l.invariant.whole l.invariant.text l.invariant.low l.invariant.high)

pub returns-clause-whole : goal.returns-clause-whole
returns-clause-whole c =
    let l = c.loop-byte in
    subst (λ (k : ℕ). IsTrue l.prefix.whole ↔ IsWordOf (Number c.args.least c.args.greatest) (take k c.args.rest.now)) (sym l.invariant.at)
    (number_whole c.args.least c.args.greatest l.value c.args.rest.now l.byte-index l.prefix.whole (omega arith) l.invariant.whole l.invariant.text l.invariant.low l.invariant.high)

pub loop-byte-preserved : goal.loop-byte-preserved
loop-byte-preserved c =
    let l = c.loop-byte in
    let rest = c.args.rest.now in
    let i = l.byte-index in
    let step = c.in-Some.ensures.some in
    let below : i < length rest = omega arith in
    record {
      at = omega arith;
      digits = more_digits rest i (get_or rest i 0) l.value below refl step.0 step.1 l.invariant.digits;
      value = step.2 ∙ more_value rest i (get_or rest i 0) l.value below refl step.0 step.1 l.invariant.value;
      fits = omega arith;
      whole = (λ h. omega arith, λ h. refl);
      text = λ some.
          text_more rest i (get_or rest i 0) l.value c.in-Some.next below refl step.0 step.1 step.2 (omega arith) l.invariant.fits
          l.invariant.digits l.invariant.value l.invariant.text (nonzero l.prefix.whole l.value i l.invariant.whole c.else-prefix.either);
      low = λ some. omega arith;
      high = λ some. omega arith;
    }
