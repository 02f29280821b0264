use Rattle.std.proofs.Common.{arith, ◌≡◌, ◌-◌, ap, sym, subst, string_bytes, length, ◌∙◌, IfOk, Option}
use Rattle.std.proofs.lemmas.List.{length-drop}
use Rattle.std.specs.Option.{option_map}
use Rattle.dg_dump_words.specs.WrittenForm.{Said, is_flag, said_of, with_bound}
use Rattle.dg_dump_words.proofs.OptionsBefore.{bound_first, flag_first}
use Rattle.dg_dump_words.proofs.+read_behind.Goals as goal

pub returns-in-Some : goal.returns-in-Some
returns-in-Some t c =
    let words = c.args.words.now in
    let flag = ap is_flag (sym c.deref-in-len2-up.ensures) ∙ sym c.is_flag.ensures ∙ c.if-is_flag.true in
    let same = flag_first string_bytes c.args.options c.in-Some.more words c.option-item.result (length words - 1) c.in-len2-up.len_at_least c.option-item.is flag (sym c.with_checked.ensures ∙ c.in-Some.is) (omega (arith, length-drop 1 words)) in
    subst (λ (s : Option Said). IfOk c.read_behind.result (λ read. option_map said_of read ≡ s)) same c.read_behind.ensures

pub returns-in-Some-with_bound : goal.returns-in-Some-with_bound
returns-in-Some-with_bound t c =
    let words = c.args.words.now in
    let flag = ap is_flag (sym c.deref-in-len2-up.ensures) ∙ sym c.is_flag.ensures ∙ c.if-is_flag.false in
    let bound = (λ i. with_bound c.args.options (sym c.deref-else-is_flag.ensures i) (sym c.deref-else-is_flag-2.ensures i)) ∙ sym c.with_bound.ensures ∙ c.in-Some-with_bound.is in
    let same = bound_first string_bytes c.args.options c.in-Some-with_bound.more words c.option-item.result c.value-item.result (length words - 2) c.in-len2-up.len_at_least c.option-item.is c.value-item.is flag bound (omega (arith, length-drop 2 words)) in
    subst (λ (s : Option Said). IfOk c.read_behind-in-Some-with_bound.result (λ read. option_map said_of read ≡ s)) same c.read_behind-in-Some-with_bound.ensures
