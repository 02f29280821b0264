-- What the words say is what they say behind one option more, which is the first of them.
use Rattle.std.proofs.Common.{arith, ◌≡◌, ℕ, ◌≤◌, true, false, List, [], ◌∷◌, length, map, take, drop, get_or, Some, sym, ap, ◌∙◌, if◌then◌else◌, option_and_then}
use Rattle.std.proofs.lemmas.List.{take_all}
use Rattle.dg_dump_words.specs.declared.Options.{Options}
use Rattle.dg_dump_words.specs.WrittenForm.{is_flag, with_bound, with_checked, words_behind}

-- the words are given as something else, by a function, and the rest as a front of enough length
pub flag_first : {S : Type 0} (f : S → List ℕ) (o p : Options) (ws : List S) (v : S) (n : ℕ) → 2 ≤ length ws → v ≡ get_or ws 0 v
    → is_flag (f v) ≡ true → with_checked o ≡ Some p → length (drop 1 ws) ≤ n
    → words_behind p (map f (take n (drop 1 ws))) ≡ words_behind o (map f ws)
flag_first f o p [] v n two at flag is long = absurd (omega (arith, two))
flag_first f o p (x ∷ []) v n two at flag is long = absurd (omega (arith, two))
flag_first f o p (x ∷ y ∷ more) v n two at flag is long =
    let here : is_flag (f x) ≡ true = ap (λ z. is_flag (f z)) (sym at) ∙ flag in
    ap (λ l. words_behind p (map f l)) (take_all n (y ∷ more) long)
    ∙ sym (λ i. if here i then option_and_then (λ q. words_behind q (f y ∷ map f more)) (is i) else option_and_then (λ q. words_behind q (map f more)) (with_bound o (f x) (f y)))

pub bound_first : {S : Type 0} (f : S → List ℕ) (o p : Options) (ws : List S) (v w : S) (n : ℕ) → 2 ≤ length ws → v ≡ get_or ws 0 v → w ≡ get_or ws 1 w
    → is_flag (f v) ≡ false → with_bound o (f v) (f w) ≡ Some p → length (drop 2 ws) ≤ n
    → words_behind p (map f (take n (drop 2 ws))) ≡ words_behind o (map f ws)
bound_first f o p [] v w n two at next flag is long = absurd (omega (arith, two))
bound_first f o p (x ∷ []) v w n two at next flag is long = absurd (omega (arith, two))
bound_first f o p (x ∷ y ∷ more) v w n two at next flag is long =
    let here : is_flag (f x) ≡ false = ap (λ z. is_flag (f z)) (sym at) ∙ flag in
    let bound : with_bound o (f x) (f y) ≡ Some p = (λ i. with_bound o (f (sym at i)) (f (sym next i))) ∙ is in
    ap (λ l. words_behind p (map f l)) (take_all n more long)
    ∙ sym (λ i. if here i then option_and_then (λ q. words_behind q (f y ∷ map f more)) (with_checked o) else option_and_then (λ q. words_behind q (map f more)) (bound i))
