-- How the lines of new handles are gathered, one at a time.
use Rattle.std.proofs.Common.{◌≡◌, ℕ, ◌+◌, ◌<◌, ◌≤◌, List, [], ◌∷◌, ◌++◌, length, drop, get_or, refl, sym, ◌∙◌, ap, arith, append_assoc}
use Rattle.std.proofs.lemmas.List.{append-nil, drop_all, drop_more}
use Rattle.dg_machine.specs.declared.reply.BodyLine.{BodyLine}
use Rattle.dg_machine.specs.declared.reply.BodyLine.TheVariants as line
use Rattle.dg_machine.specs.Answer.{handle_lines}

abbrev pub LinesSoFar : ℕ → List ℕ → List ℕ → List BodyLine → ℕ → Type 0
LinesSoFar next times singles now i = now ++ handle_lines (next + i) (drop i times) (drop i singles) ≡ handle_lines next times singles

pub line_more : (next : ℕ) (times singles : List ℕ) (now after : List BodyLine) (i : ℕ) → i < length times → i < length singles → LinesSoFar next times singles now i
    → after ≡ now ++ line.Handle (next + i) (get_or times i 0) (get_or singles i 0) ∷ [] → LinesSoFar next times singles after (i + 1)
line_more next times singles now after i lt lt' so_far is =
    let one : BodyLine = line.Handle (next + i) (get_or times i 0) (get_or singles i 0) in
    let number : next + (i + 1) ≡ next + i + 1 = omega arith in
    ap (λ l. l ++ handle_lines (next + (i + 1)) (drop (i + 1) times) (drop (i + 1) singles)) is
    ∙ append_assoc now (one ∷ []) (handle_lines (next + (i + 1)) (drop (i + 1) times) (drop (i + 1) singles))
    ∙ ap (λ n. now ++ one ∷ handle_lines n (drop (i + 1) times) (drop (i + 1) singles)) number
    ∙ (λ k. now ++ handle_lines (next + i) (sym (drop_more times i 0 lt) k) (sym (drop_more singles i 0 lt') k)) ∙ so_far

none_right : (next : ℕ) (times : List ℕ) → handle_lines next times [] ≡ []
none_right next [] = refl
none_right next (t ∷ times) = refl

pub times_done : (next : ℕ) (times singles : List ℕ) (now : List BodyLine) (i : ℕ) → length times ≤ i → LinesSoFar next times singles now i → now ≡ handle_lines next times singles
times_done next times singles now i past so_far = sym (append-nil now) ∙ ap (λ xs. now ++ handle_lines (next + i) xs (drop i singles)) (sym (drop_all i times past)) ∙ so_far

pub singles_done : (next : ℕ) (times singles : List ℕ) (now : List BodyLine) (i : ℕ) → length singles ≤ i → LinesSoFar next times singles now i → now ≡ handle_lines next times singles
singles_done next times singles now i past so_far =
    sym (append-nil now) ∙ ap (λ xs. now ++ xs) (sym (none_right (next + i) (drop i times))) ∙ ap (λ xs. now ++ handle_lines (next + i) (drop i times) xs) (sym (drop_all i singles past)) ∙ so_far

pub none_left : {A : Type 0} (xs : List A) → length xs ≡ 0 → xs ≡ []
none_left [] h = refl
none_left (x ∷ xs) h = absurd (omega (arith, h))
