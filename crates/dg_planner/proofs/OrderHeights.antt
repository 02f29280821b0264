-- The number of interior nodes below each height.
use Rattle.std.proofs.Common.{◌≡◌, ℕ, ◌+◌, ◌-◌, ◌*◌, ◌/◌, ◌^◌, ◌≤◌, ◌<◌, List as ListOf, [], ◌∷◌, ◌++◌, length, refl, sym, ap, ◌∙◌, arith, inl, inr}
use Rattle.std.specs.Prelude.{slice_index, filter, nat_le, ◌⊎◌}
use Rattle.std.specs.List.{sum_by}
use Rattle.std.proofs.lemmas.Bool.{cases_order, cases_lt}
use Rattle.std.proofs.lemmas.List.{length_push, get_or_append_left, get_or_push, get_or_past}
use Rattle.std.proofs.lemmas.List.Sums.{sum_by_push}
use Rattle.std.proofs.lemmas.Grind.{pow_more}
use Rattle.std.proofs.Math.Nat.{div-le_self, div-mul-le_self, le-div_iff_mul-le, one-le-pow, mul_assoc, mul_comm, mul-le-mul_left, pow-le-pow_right}
use Rattle.dg_index.specs.Hierarchy.{numbers}
use Rattle.dg_index.specs.IndexRecords.{heights}
use Rattle.dg_plan.specs.IndexGraph.{inners_at}
use Rattle.dg_planner.specs.Order.{inners_below, AreStarts}
use Rattle.dg_plan.proofs.IndexGraphNumbers.{above_exponent, all_heights, height_more, power_one}

pub record Starting (leaves arity : ℕ) (starts : ListOf ℕ) (width total : ℕ) : Type 0 where
  pub width_is : width ≡ arity ^ (length starts + 1)
  pub are : (h : ℕ) → h < length starts → slice_index starts h ≡ inners_below leaves arity (h + 1)
  pub total_is : total ≡ inners_below leaves arity (length starts + 1)
  pub room : total + leaves / arity ^ length starts ≤ leaves
  pub low : (h : ℕ) → slice_index starts h ≤ leaves
  pub short : length starts ≤ leaves

pub none_started : (leaves arity : ℕ) → Starting leaves arity [] arity 0
none_started leaves arity = record {
  width_is = sym (power_one arity);
  are = λ h within. absurd (omega arith);
  total_is = refl;
  room = (let d = div-le_self leaves (arity ^ 0) in omega arith);
  low = λ h. omega arith;
  short = omega arith;
}

-- what is counted at a height leaves room for as much again
pub halves : (leaves arity n : ℕ) → 2 ≤ arity → leaves / arity ^ (n + 1) + leaves / arity ^ (n + 1) ≤ leaves / arity ^ n
halves leaves arity n some =
    let q : ℕ = leaves / arity ^ (n + 1) in
    let power : arity ^ (n + 1) ≡ arity * arity ^ n = pow_more arity n ∙ mul_comm (arity ^ n) arity in
    let below : q * arity ^ (n + 1) ≤ leaves = div-mul-le_self leaves (arity ^ (n + 1)) in
    let regroup : q * arity * arity ^ n ≡ q * arity ^ (n + 1) = mul_assoc q arity (arity ^ n) ∙ ap (λ x. q * x) (sym power) in
    let times : q * arity ≤ leaves / arity ^ n = (le-div_iff_mul-le (one-le-pow n arity (omega arith))).1 (omega arith) in
    let twice : q * 2 ≤ q * arity = mul-le-mul_left q some in
    omega arith

pub one_started : (leaves arity : ℕ) (starts : ListOf ℕ) (width total : ℕ) → 2 ≤ arity → width ≤ leaves → Starting leaves arity starts width total
    → Starting leaves arity (starts ++ total ∷ []) (width * arity) (total + leaves / width)
one_started leaves arity starts width total some le s = record {
  width_is = ap (λ w. w * arity) s.width_is ∙ (sym (pow_more arity (length starts + 1)) ∙ ap (λ n. arity ^ (n + 1)) (sym len));
  are = λ h within. at h (cases_order h (length starts)) (let l = length_push starts total in omega arith);
  total_is = (ap (λ x. x + leaves / width) s.total_is ∙ ap (λ w. inners_below leaves arity (length starts + 1) + leaves / w) s.width_is) ∙ more;
  room = (let d = halves leaves arity (length starts) some in let e : leaves / width ≡ leaves / arity ^ (length starts + 1) = ap (λ w. leaves / w) s.width_is in
      let f : leaves / arity ^ length (starts ++ total ∷ []) ≡ leaves / arity ^ (length starts + 1) = ap (λ n. leaves / arity ^ n) len in let r = s.room in omega arith);
  low = λ h. low_at h (cases_order h (length starts));
  short = (let l = length_push starts total in let a = above_exponent arity (length starts + 1) some in let w = s.width_is in omega arith);
}
  where
    len : length (starts ++ total ∷ []) ≡ length starts + 1
    len = length_push starts total

    at : (h : ℕ) → (h ≡ length starts) ⊎ ((h < length starts) ⊎ (length starts < h)) → h < length starts + 1 → slice_index (starts ++ total ∷ []) h ≡ inners_below leaves arity (h + 1)
    at h (inl e) within = get_or_push starts total 0 h (sym e) ∙ (s.total_is ∙ ap (λ n. inners_below leaves arity (n + 1)) (sym e))
    at h (inr (inl below)) within = get_or_append_left starts (total ∷ []) 0 h below ∙ s.are h below
    at h (inr (inr above)) within = absurd (omega arith)

    low_at : (h : ℕ) → (h ≡ length starts) ⊎ ((h < length starts) ⊎ (length starts < h)) → slice_index (starts ++ total ∷ []) h ≤ leaves
    low_at h (inl e) = let x : slice_index (starts ++ total ∷ []) h ≡ total = get_or_push starts total 0 h (sym e) in let r = s.room in omega arith
    low_at h (inr (inl below)) = let x : slice_index (starts ++ total ∷ []) h ≡ slice_index starts h = get_or_append_left starts (total ∷ []) 0 h below in let l = s.low h in omega arith
    low_at h (inr (inr above)) = let x : slice_index (starts ++ total ∷ []) h ≡ 0 = get_or_past (starts ++ total ∷ []) h 0 (let l = length_push starts total in omega arith) in omega arith

    more : inners_below leaves arity (length starts + 1) + leaves / arity ^ (length starts + 1) ≡ inners_below leaves arity (length (starts ++ total ∷ []) + 1)
    more =
        let n : ℕ = length starts in
        let power : arity ^ (n + 1) ≤ leaves = (let w = s.width_is in omega arith) in
        let a : inners_below leaves arity (n + 1) ≡ sum_by (inners_at leaves arity) (filter (λ x. nat_le (arity ^ x) leaves) (numbers 1 n)) =
        ap (λ k. sum_by (inners_at leaves arity) (filter (λ x. nat_le (arity ^ x) leaves) (numbers 1 k))) (let h : n + 1 - 1 ≡ n = omega arith in h) in
        let b : inners_below leaves arity (n + 1 + 1) ≡ sum_by (inners_at leaves arity) (filter (λ x. nat_le (arity ^ x) leaves) (numbers 1 (n + 1))) =
        ap (λ k. sum_by (inners_at leaves arity) (filter (λ x. nat_le (arity ^ x) leaves) (numbers 1 k))) (let h : n + 1 + 1 - 1 ≡ n + 1 = omega arith in h) in
        let c = ap (sum_by (inners_at leaves arity)) (height_more leaves arity n power) ∙ sum_by_push (inners_at leaves arity) (filter (λ x. nat_le (arity ^ x) leaves) (numbers 1 n)) (n + 1) in
        ap (λ x. x + leaves / arity ^ (n + 1)) a ∙ (sym c ∙ (sym b ∙ ap (λ k. inners_below leaves arity (k + 1)) (sym len)))

pub all_started : (leaves arity : ℕ) (starts : ListOf ℕ) (width total : ℕ) → 2 ≤ arity → length starts ≤ leaves → leaves < width → Starting leaves arity starts width total → AreStarts leaves arity (starts ++ total ∷ [])
all_started leaves arity starts width total some short past s = record {
  there = λ h one le. (let l = length_push starts total in let x = there h one le (cases_lt (h - 1) (length starts)) in omega arith);
  are = λ h one le. (let x = there h one le (cases_lt (h - 1) (length starts)) in get_or_append_left starts (total ∷ []) 0 (h - 1) x ∙ (s.are (h - 1) x ∙ ap (inners_below leaves arity) (let k : h - 1 + 1 ≡ h = omega arith in k)));
  low = λ h. low_at h (cases_order h (length starts));
  some = (let l = length_push starts total in omega arith);
  whole = ap (slice_index (starts ++ total ∷ [])) (let l = length_push starts total in let k : length (starts ++ total ∷ []) - 1 ≡ length starts = omega arith in k)
      ∙ (get_or_push starts total 0 (length starts) refl ∙ (s.total_is ∙ all));
}
  where
    there : (h : ℕ) → 1 ≤ h → arity ^ h ≤ leaves → (h - 1 < length starts) ⊎ (length starts ≤ h - 1) → h - 1 < length starts
    there h one le (inl below) = below
    there h one le (inr above) = absurd (let p : arity ^ (length starts + 1) ≤ arity ^ h = pow-le-pow_right (omega arith) (omega arith) in let w = s.width_is in omega arith)

    low_at : (h : ℕ) → (h ≡ length starts) ⊎ ((h < length starts) ⊎ (length starts < h)) → slice_index (starts ++ total ∷ []) h ≤ leaves
    low_at h (inl e) = let x : slice_index (starts ++ total ∷ []) h ≡ total = get_or_push starts total 0 h (sym e) in let r = s.room in omega arith
    low_at h (inr (inl below)) = let x : slice_index (starts ++ total ∷ []) h ≡ slice_index starts h = get_or_append_left starts (total ∷ []) 0 h below in let l = s.low h in omega arith
    low_at h (inr (inr above)) = let x : slice_index (starts ++ total ∷ []) h ≡ 0 = get_or_past (starts ++ total ∷ []) h 0 (let l = length_push starts total in omega arith) in omega arith

    all : inners_below leaves arity (length starts + 1) ≡ sum_by (inners_at leaves arity) (heights arity leaves)
    all = ap (λ k. sum_by (inners_at leaves arity) (filter (λ x. nat_le (arity ^ x) leaves) (numbers 1 k))) (let h : length starts + 1 - 1 ≡ length starts = omega arith in h)
        ∙ ap (sum_by (inners_at leaves arity)) (all_heights leaves arity (length starts) some short (let w = s.width_is in omega arith))

pub width_positive : (leaves arity : ℕ) (starts : ListOf ℕ) (width total : ℕ) → 2 ≤ arity → Starting leaves arity starts width total → 0 < width
width_positive leaves arity starts width total some s = let p = one-le-pow (length starts + 1) arity (omega arith) in let w = s.width_is in omega arith
