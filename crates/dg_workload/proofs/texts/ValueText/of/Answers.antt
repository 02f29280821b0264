-- A number of 64 bits has at most 20 digits, so there is room for a letter.
use Rattle.std.proofs.Common.{◌≡◌, ℕ, ◌+◌, ◌-◌, ◌≤◌, List, ◌∷◌, length, drop, set, sym, ap, ◌∙◌, arith, rules}
use Rattle.std.proofs.lemmas.Fmt.{length-decimal-le}
use Rattle.std.proofs.lemmas.List.{drop-set}
use Rattle.std.specs.Fmt.{decimal}
use Rattle.dg_workload.specs.Request.{with_letter}
use Rattle.dg_workload.proofs.texts.ValueText.of.Goals as goal

put_before : (digits bytes : List ℕ) (start letter : ℕ) → 1 ≤ start → start ≤ length bytes → drop start bytes ≡ digits
    → drop (start - 1) (set bytes (start - 1) letter) ≡ letter ∷ digits
put_before digits bytes start letter some within e =
    let back : start - 1 + 1 ≡ start = omega arith in
    drop-set bytes (start - 1) letter (omega arith) ∙ ap (λ n. letter ∷ drop n bytes) back ∙ ap (λ l. letter ∷ l) e

pub write_digits-start-requires : goal.write_digits-start-requires
write_digits-start-requires c = search (rules, length-decimal-le 20)

pub overflow_sub-bytes : goal.overflow_sub-bytes
overflow_sub-bytes c =
    let digits : length (decimal c.args.number) ≤ 20 = search (rules, length-decimal-le 20) in
    omega (arith, c.write_digits-start.ensures.start, digits)

pub overflow_sub-result : goal.overflow_sub-result
overflow_sub-result c = overflow_sub-bytes c

pub returns : goal.returns
returns c =
    let digits : drop c.write_digits-start.result c.write_digits-start.new.buf ≡ decimal c.args.number = search rules in
    let within : c.write_digits-start.result ≤ length c.write_digits-start.new.buf = search rules in
    put_before (decimal c.args.number) c.write_digits-start.new.buf c.write_digits-start.result c.in-Some.letter (overflow_sub-bytes c) within digits
    ∙ ap (λ o. with_letter o (decimal c.args.number)) (sym c.in-Some.is ∙ c.letter.ensures)
