-- What is heard of each instant comes to the weight of its single retrieval.
use Rattle.std.proofs.Common.{arith, ◌≡◌, ◌<◌, ◌≤◌, ◌+◌, ◌*◌, ℕ, List, [], ◌∷◌, ◌++◌, length, drop, get_or, append_assoc, sym, ap, ◌∙◌}
use Rattle.std.specs.List.{sum}
use Rattle.std.proofs.lemmas.List.{append-nil, drop_all, drop_more}
use Rattle.std.proofs.lemmas.List.Sums.{sum_by-drop_more, sum_by_push}
use Rattle.dg_heard.specs.Heard.{heard_bytes, with_heard_bytes}
use Rattle.dg_history.specs.declared.limits.TheConstants.{FILE_BYTES_MAX}
use Rattle.dg_index.specs.OpenedIndex.{Opening}

-- What is known when so many have been weighed.
pub record Weighed (o : Opening) (times singles : List ℕ) (n : ℕ) (weights : List ℕ) (total : ℕ) : Type 0 where
  pub parted : weights ++ with_heard_bytes o (drop n times) (drop n singles) ≡ with_heard_bytes o times singles
  pub total_is : total ≡ sum weights
  pub light : total + sum (drop n singles) ≤ sum singles + n * FILE_BYTES_MAX

pub weighed_none : (o : Opening) (times singles weights : List ℕ) → weights ≡ [] → Weighed o times singles 0 weights 0
weighed_none o times singles weights none = record {
  parted = ap (λ w. w ++ with_heard_bytes o times singles) none;
  total_is = sym (ap sum none);
  light = omega arith;
}

module _ (o : Opening) (times singles : List ℕ) (same : length singles ≡ length times) (n : ℕ) (h : n < length times) (weights : List ℕ) (total : ℕ) (w : Weighed o times singles n weights total) where
  time : ℕ
  time = get_or times n 0

  single : ℕ
  single = get_or singles n 0

  -- the next is what is left of the sum
  rest : sum (drop n singles) ≡ single + sum (drop (n + 1) singles)
  unfolding single
  rest = sum_by-drop_more (λ x. x) singles n 0 (omega (arith, same, h))

  pub single_light : get_or singles n 0 + total ≤ sum singles + n * FILE_BYTES_MAX
  unfolding single
  single_light = omega (arith, rest, w.light)

  pub weighed_next : (weight : ℕ) (after : List ℕ) (more : ℕ) → weight ≡ get_or singles n 0 + heard_bytes o (get_or times n 0 ∷ []) → heard_bytes o (get_or times n 0 ∷ []) ≤ FILE_BYTES_MAX
      → after ≡ weights ++ weight ∷ [] → more ≡ total + weight → Weighed o times singles (n + 1) after more
  unfolding single time
  weighed_next weight after more is few pushed added = record {
    parted =
        ap (λ l. l ++ with_heard_bytes o (drop (n + 1) times) (drop (n + 1) singles)) pushed
        ∙ append_assoc weights (weight ∷ []) (with_heard_bytes o (drop (n + 1) times) (drop (n + 1) singles))
        ∙ ap (λ x. weights ++ x ∷ with_heard_bytes o (drop (n + 1) times) (drop (n + 1) singles)) is
        ∙ sym (λ i. weights ++ with_heard_bytes o (drop_more times n 0 h i) (drop_more singles n 0 (let x : n < length singles = omega (arith, same, h) in x) i))
        ∙ w.parted;
    total_is = added ∙ ap (λ t. t + weight) w.total_is ∙ sym (ap sum pushed ∙ sum_by_push (λ x. x) weights weight);
    light = (let l = w.light in let r = rest in let one : (n + 1) * FILE_BYTES_MAX ≡ n * FILE_BYTES_MAX + FILE_BYTES_MAX = omega arith in omega arith);
  }

pub weighed_all : (o : Opening) (times singles weights : List ℕ) (n total : ℕ) → length times ≤ n → Weighed o times singles n weights total → weights ≡ with_heard_bytes o times singles
weighed_all o times singles weights n total end w =
    sym (append-nil weights) ∙ sym (ap (λ l. weights ++ with_heard_bytes o l (drop n singles)) (drop_all n times end)) ∙ w.parted
