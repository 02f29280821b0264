-- Lists of numbers, and what is added for each.
use Rattle.std.proofs.Common.{◌≡◌, ℕ, zero, suc, ◌+◌, ◌-◌, ◌*◌, ◌/◌, ◌^◌, ◌≤◌, ◌<◌, Bool, true, false, cond, List as ListOf, [], ◌∷◌, ◌++◌, refl, sym, ap, subst, ◌∙◌, arith, append_assoc, add-one}
use Rattle.std.specs.Prelude.{map, filter, nat_le}
use Rattle.std.specs.List.{flat_map}
use Rattle.std.proofs.lemmas.Bool.{leb-true, le-leb}
use Rattle.std.proofs.lemmas.List.{append-nil, map-append}
use Rattle.std.proofs.lemmas.List.Concat.{flat_map-append}
use Rattle.std.proofs.lemmas.List.Elements.{filter-append}
use Rattle.std.proofs.lemmas.Nat.{pow_pos}
use Rattle.std.proofs.lemmas.Grind.{pow_more}
use Rattle.std.proofs.Math.Nat.{pow-zero, mul-le-mul_left, pow-le-pow_right, pow-le-pow_left}
use Rattle.dg_plan.specs.declared.edge.Edge.{Edge}
use Rattle.dg_history.specs.declared.node.Key.{Key}
use Rattle.dg_index.specs.Hierarchy.{numbers}
use Rattle.dg_index.specs.IndexRecords.{heights}
use Rattle.dg_plan.specs.IndexGraph.{inner_edges, level_edges, kept}

pub numbers_split : (first n m : ℕ) → numbers first (n + m) ≡ numbers first n ++ numbers (first + n) m
numbers_split first zero m = ap (λ k. numbers first k) (omega arith) ∙ ap (λ k. numbers k m) (omega arith)
numbers_split first (suc n) m =
    let e : suc n + m ≡ suc (n + m) = omega arith in
    ap (numbers first) e ∙ ap (λ t. first ∷ t) (numbers_split (first + 1) n m ∙ ap (λ k. numbers (first + 1) n ++ numbers k m) (omega arith))

pub numbers_more : (first n : ℕ) → numbers first (n + 1) ≡ numbers first n ++ (first + n) ∷ []
numbers_more first n = numbers_split first n 1

-- what is added for one more number
pub added_more : (f : ℕ → ListOf Edge) (old : ListOf Edge) (first n k : ℕ) → k ≡ first + n → (old ++ kept (flat_map f (numbers first n))) ++ kept (f k) ≡ old ++ kept (flat_map f (numbers first (n + 1)))
added_more f old first n k is =
    append_assoc old (kept (flat_map f (numbers first n))) (kept (f k))
    ∙ ap (λ t. old ++ t) (sym (filter-append _ (flat_map f (numbers first n)) (f k))
    ∙ ap kept (ap (λ t. flat_map f (numbers first n) ++ t) (sym (append-nil (f k))) ∙ (sym (flat_map-append f (numbers first n) (k ∷ [])) ∙ ap (flat_map f) (ap (λ x. numbers first n ++ x ∷ []) is ∙ sym (numbers_more first n)))))

-- ---- heights

pub below_pow : (n : ℕ) → n < 2 ^ n
below_pow zero = pow_pos 0
below_pow (suc n) = let h = below_pow n in let e : 2 ^ (n + 1) ≡ 2 ^ n * 2 = pow_more 2 n in let s : suc n ≡ n + 1 = sym (add-one n) in subst (λ k. k < 2 ^ k) (sym s) (omega arith)

-- a power of at least 2 is above its exponent
pub above_exponent : (arity n : ℕ) → 2 ≤ arity → n < arity ^ n
above_exponent arity n low = let a = below_pow n in let b = pow-le-pow_left low n in omega arith

none_pass : (leaves arity : ℕ) → 2 ≤ arity → (first n : ℕ) → leaves < arity ^ first → filter (λ h. nat_le (arity ^ h) leaves) (numbers first n) ≡ []
none_pass leaves arity low first zero past = refl
none_pass leaves arity low first (suc n) past =
    ap (λ t. cond t (first ∷ filter (λ h. nat_le (arity ^ h) leaves) (numbers (first + 1) n)) (filter (λ h. nat_le (arity ^ h) leaves) (numbers (first + 1) n))) (fails (nat_le (arity ^ first) leaves) refl)
    ∙ none_pass leaves arity low (first + 1) n (let up : arity ^ first ≤ arity ^ (first + 1) = pow-le-pow_right (omega arith) (omega arith) in omega arith)
  where
    fails : (b : Bool) → nat_le (arity ^ first) leaves ≡ b → nat_le (arity ^ first) leaves ≡ false
    fails true e = absurd (let h = leb-true _ _ e in omega arith)
    fails false e = e

-- once a power is past the leaves, no greater height passes
pub all_heights : (leaves arity below : ℕ) → 2 ≤ arity → below ≤ leaves → leaves < arity ^ (below + 1) → filter (λ h. nat_le (arity ^ h) leaves) (numbers 1 below) ≡ heights arity leaves
all_heights leaves arity below low within past =
    let test : ℕ → Bool = λ h. nat_le (arity ^ h) leaves in
    let e : numbers 1 leaves ≡ numbers 1 below ++ numbers (1 + below) (leaves - below) = ap (numbers 1) (let h : leaves ≡ below + (leaves - below) = omega arith in h) ∙ numbers_split 1 below (leaves - below) in
    let f : filter test (numbers 1 leaves) ≡ filter test (numbers 1 below) ++ filter test (numbers (1 + below) (leaves - below)) = ap (filter test) e ∙ filter-append test (numbers 1 below) (numbers (1 + below) (leaves - below)) in
    let g : filter test (numbers (1 + below) (leaves - below)) ≡ [] = none_pass leaves arity low (1 + below) (leaves - below) (subst (λ k. leaves < arity ^ k) (omega arith) past) in
    sym (f ∙ (ap (λ t. filter test (numbers 1 below) ++ t) g ∙ append-nil (filter test (numbers 1 below))))

-- one more height passes
pub height_more : (leaves arity below : ℕ) → arity ^ (below + 1) ≤ leaves → filter (λ h. nat_le (arity ^ h) leaves) (numbers 1 (below + 1)) ≡ filter (λ h. nat_le (arity ^ h) leaves) (numbers 1 below) ++ (below + 1) ∷ []
height_more leaves arity below le =
    let test : ℕ → Bool = λ h. nat_le (arity ^ h) leaves in
    let k : 1 + below ≡ below + 1 = omega arith in
    let passes : test (below + 1) ≡ true = le-leb _ _ le in
    ap (filter test) (numbers_more 1 below ∙ ap (λ x. numbers 1 below ++ x ∷ []) k) ∙ (filter-append test (numbers 1 below) ((below + 1) ∷ []) ∙ ap (λ t. filter test (numbers 1 below) ++ cond t ((below + 1) ∷ []) []) passes)

-- what is added for one more height
pub level_more : (f : ℕ → ListOf Edge) (old : ListOf Edge) (hs more : ListOf ℕ) (h : ℕ) → more ≡ hs ++ h ∷ [] → (old ++ kept (flat_map f hs)) ++ kept (f h) ≡ old ++ kept (flat_map f more)
level_more f old hs more h is =
    append_assoc old (kept (flat_map f hs)) (kept (f h))
    ∙ ap (λ t. old ++ t) (sym (filter-append _ (flat_map f hs) (f h)) ∙ ap kept (ap (λ t. flat_map f hs ++ t) (sym (append-nil (f h))) ∙ (sym (flat_map-append f hs (h ∷ [])) ∙ ap (flat_map f) (sym is))))

pub is_level : (weigh : Key → ℕ) (leaves arity below width : ℕ) → width ≡ arity ^ (below + 1) → flat_map (inner_edges weigh arity below) (numbers 1 (leaves / width)) ≡ level_edges weigh leaves arity (below + 1)
is_level weigh leaves arity below width is =
    ap (λ w. flat_map (inner_edges weigh arity below) (numbers 1 (leaves / w))) is
    ∙ ap (λ b. flat_map (inner_edges weigh arity b) (numbers 1 (leaves / arity ^ (below + 1)))) (let h : below ≡ below + 1 - 1 = omega arith in h)

pub power_one : (n : ℕ) → n ^ 1 ≡ n
power_one n = let z : n ^ 0 ≡ 1 = pow-zero n in let m : n ^ (0 + 1) ≡ n ^ 0 * n = pow_more n 0 in m ∙ (ap (λ k. k * n) z ∙ omega arith)

pub grows_more : (width arity : ℕ) → 0 < width → 2 ≤ arity → width < width * arity
grows_more width arity p low = let m = mul-le-mul_left width low in omega arith

pub top_more : (f : ℕ → Edge) (old : ListOf Edge) (hs more : ListOf ℕ) (h : ℕ) → more ≡ hs ++ h ∷ [] → (old ++ kept (map f hs)) ++ kept (f h ∷ []) ≡ old ++ kept (map f more)
top_more f old hs more h is =
    append_assoc old (kept (map f hs)) (kept (f h ∷ []))
    ∙ ap (λ t. old ++ t) (sym (filter-append _ (map f hs) (f h ∷ [])) ∙ ap kept (sym (map-append f hs (h ∷ [])) ∙ ap (map f) (sym is)))
