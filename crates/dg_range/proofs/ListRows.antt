-- The numbers that pass a test which holds from one on and before another.
use Rattle.std.proofs.Common.{◌≡◌, ℕ, zero, suc, ◌+◌, ◌-◌, ◌<◌, ◌≤◌, Bool, true, false, cond, ◌&&◌, List as ListOf, [], ◌∷◌, filter, refl, sym, ap, ◌∙◌, arith}
use Rattle.std.specs.Prelude.{nat_le, nat_lt}
use Rattle.std.proofs.lemmas.Bool.{le-leb, lt-leb, lt-ltb, le-ltb, ltb-true, ltb-false}
use Rattle.dg_index.specs.Hierarchy.{numbers}

none_pass : (p : ℕ → Bool) (from n : ℕ) → ((k : ℕ) → from ≤ k → k < from + n → p k ≡ false) → filter p (numbers from n) ≡ []
none_pass p from zero none = refl
none_pass p from (suc n) none =
    ap (λ b. cond b (from ∷ filter p (numbers (from + 1) n)) (filter p (numbers (from + 1) n))) (none from (omega arith) (omega arith))
    ∙ none_pass p (from + 1) n (λ k low high. none k (omega arith) (omega arith))

and_none : (a b : Bool) → b ≡ false → (a && b) ≡ false
and_none true b e = e
and_none false b e = refl

both : (a b : Bool) → a ≡ true → b ≡ true → (a && b) ≡ true
both a b e f = λ i. e i && f i

pub numbers_between : (p : ℕ → Bool) (n first low high : ℕ) → first ≤ low → low ≤ high → high ≤ first + n
    → ((i : ℕ) → first ≤ i → i < first + n → p i ≡ (nat_le low i && nat_lt i high)) → filter p (numbers first n) ≡ numbers low (high - low)
numbers_between p zero first low high a b c is =
    let none : high - low ≡ zero = omega arith in
    sym (ap (numbers low) none)
numbers_between p (suc n) first low high a b c is =
    by (nat_lt first low) (nat_lt low high) refl refl
    (λ later. numbers_between p n (first + 1) low high later b (omega arith) (λ i from to. is i (omega arith) (omega arith)))
    (λ here more. numbers_between p n (first + 1) (low + 1) high (omega arith) more (omega arith) (λ i from to.
    is i (omega arith) (omega arith)
    ∙ ap (λ s. s && nat_lt i high) (le-leb low i (omega arith) ∙ sym (le-leb (low + 1) i (omega arith)))))
  where
    rest : ListOf ℕ
    rest = filter p (numbers (first + 1) n)

    by : (early some : Bool) → nat_lt first low ≡ early → nat_lt low high ≡ some
        → (first + 1 ≤ low → filter p (numbers (first + 1) n) ≡ numbers low (high - low))
        → (first ≡ low → low + 1 ≤ high → filter p (numbers (first + 1) n) ≡ numbers (low + 1) (high - (low + 1)))
        → filter p (numbers first (suc n)) ≡ numbers low (high - low)
    by true some e f later here =
        let below : first < low = ltb-true first low e in
        let no : p first ≡ false = is first (omega arith) (omega arith) ∙ ap (λ s. s && nat_lt first high) (lt-leb low first below) in
        ap (λ s. cond s (first ∷ filter p (numbers (first + 1) n)) (filter p (numbers (first + 1) n))) no ∙ later (omega arith)
    by false true e f later here =
        let some : low < high = ltb-true low high f in
        let up : low ≤ first = ltb-false first low e in
        let at : first ≡ low = omega arith in
        let yes : p first ≡ true = is first (omega arith) (omega arith) ∙ both (nat_le low first) (nat_lt first high) (le-leb low first up) (lt-ltb first high (omega arith)) in
        let left : high - low ≡ suc (high - (low + 1)) = omega arith in
        ap (λ s. cond s (first ∷ filter p (numbers (first + 1) n)) (filter p (numbers (first + 1) n))) yes
        ∙ (λ j. at j ∷ here at (omega arith) j)
        ∙ sym (ap (numbers low) left)
    by false false e f later here =
        let none : high - low ≡ zero = (let h = ltb-false low high f in omega arith) in
        none_pass p first (suc n) (λ k from to.
        is k from (omega arith) ∙ and_none (nat_le low k) (nat_lt k high) (let h = ltb-false low high f in let g = ltb-false first low e in le-ltb k high (omega arith)))
        ∙ sym (ap (numbers low) none)
