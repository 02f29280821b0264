-- The entries that have all of their lines are the first ones, whatever lines follow.
use Rattle.std.proofs.Common.{◌≡◌, ℕ, zero, suc, ◌≤◌, inl, inr, List, [], ◌∷◌, ◌++◌, length, take, drop, refl, sym, ap, ◌∙◌, arith, append_assoc, length-drop}
use Rattle.std.specs.Prelude.{nat_lt}
use Rattle.std.proofs.lemmas.Bool.{cases_Bool, cond-true, cond-false, ltb-false}
use Rattle.dg_cuts.specs.WholeEntries.{wanted, whole_within_by}
use Rattle.dg_text.specs.Lines.{ScriptLine}
use Rattle.dg_machine.specs.CommandGrammar.{Grammar}
use Rattle.dg_machine.specs.Needs.{following}
use Rattle.dg_machine.specs.Script.{Entry, Asked, Meaning, Skipped, Command_is, Other, entries_of_by, first_entry, meaning_by}
use Rattle.dg_machine.proofs.ScriptEntries.{entries_step}

take_front : (n : ℕ) (rest more : List ScriptLine) → n ≤ length rest → take n (rest ++ more) ≡ take n rest
take_front zero rest more few = refl
take_front (suc n) [] more few = absurd (omega arith)
take_front (suc n) (x ∷ rest) more few = ap (λ xs. x ∷ xs) (take_front n rest more (omega arith))

drop_front : (n : ℕ) (rest more : List ScriptLine) → n ≤ length rest → drop n (rest ++ more) ≡ drop n rest ++ more
drop_front zero rest more few = refl
drop_front (suc n) [] more few = absurd (omega arith)
drop_front (suc n) (x ∷ rest) more few = drop_front n rest more (omega arith)

-- where all lines that are wanted are there, more lines change nothing of the first entry
same_entry : (m : Meaning) (rest more : List ScriptLine) → wanted m ≤ length rest → (first_entry m (rest ++ more)).0 ≡ (first_entry m rest).0
same_entry Skipped rest more few = refl
same_entry (Command_is c) rest more few = ap (λ lines. Asked c lines ∷ []) (take_front (following c) rest more few)
same_entry (Other e) rest more few = refl

same_others : (m : Meaning) (rest more : List ScriptLine) → wanted m ≤ length rest → (first_entry m (rest ++ more)).1 ≡ (first_entry m rest).1 ++ more
same_others Skipped rest more few = refl
same_others (Command_is c) rest more few = drop_front (following c) rest more few
same_others (Other e) rest more few = refl

fewer_left : (m : Meaning) (rest : List ScriptLine) → length (first_entry m rest).1 ≤ length rest
fewer_left Skipped rest = omega arith
fewer_left (Command_is c) rest = omega (arith, length-drop (following c) rest)
fewer_left (Other e) rest = omega arith

pub whole_front : (read : Grammar) (k : ℕ) (lines more : List ScriptLine) → length lines ≤ k → (later : List Entry) × (entries_of_by read (lines ++ more) ≡ whole_within_by read k lines ++ later)
whole_front read zero [] more few = (entries_of_by read more, refl)
whole_front read zero (line ∷ rest) more few = absurd (omega arith)
whole_front read (suc k) [] more few = (entries_of_by read more, refl)
whole_front read (suc k) (line ∷ rest) more few =
    elim (cases_Bool (nat_lt (length rest) (wanted (meaning_by read line)))) [
      | inl short ↦ (entries_of_by read (line ∷ rest ++ more), ap (λ es. es ++ entries_of_by read (line ∷ rest ++ more)) (sym (cond-true _ _ _ short)))
      | inr there ↦
          let m = meaning_by read line in
          let all : wanted m ≤ length rest = ltb-false (length rest) (wanted m) there in
          let first = first_entry m rest in
          let next = whole_front read k first.1 more (omega (arith, few, fewer_left m rest)) in (
            next.0,
            entries_step read line (rest ++ more) ∙ ap (λ es. es ++ entries_of_by read (first_entry m (rest ++ more)).1) (same_entry m rest more all)
                ∙ ap (λ ls. first.0 ++ entries_of_by read ls) (same_others m rest more all) ∙ ap (λ es. first.0 ++ es) next.1 ∙ sym (append_assoc first.0 (whole_within_by read k first.1) next.0)
                ∙ ap (λ es. es ++ next.0) (sym (cond-false _ _ _ there)),
          )
    ]
