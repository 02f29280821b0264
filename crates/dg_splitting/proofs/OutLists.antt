-- The outs, one after another.
--     at_told, each_told      what holds of an image that is told
--     IsUpTo      the first outs have been gone through, and the others are as they were
--     each_then, each_new      what holds of the outs behind two rounds, and behind one
use Rattle.std.proofs.Common.{◌≡◌, ◌⊎◌, inl, inr, ℕ, ◌+◌, ◌<◌, ◌≤◌, List, Option, Some, None, get_or, length, refl, sym, ap, subst, ◌∙◌, arith}
use Rattle.std.specs.Prelude.{IfSome, slice_get}
use Rattle.std.proofs.Math.ListN.{set}
use Rattle.std.proofs.lemmas.List.{get_or-set_other, get_or-set_same, length-set}
use Rattle.std.proofs.lemmas.Option.{get_or_from_slice_get, same_Some, slice_get-get_or, slice_get_past, slice_get_within}
use Rattle.dg_partition.proofs.PartCuts.{split}
use Rattle.dg_splitting.specs.Outs.{EachOut, EachPair}

-- ---- what is told

pub at_told : {X : Type 0} (told : Option X) (P : X → Type 0) → IfSome told P → (x : X) → told ≡ Some x → P x
at_told told P h x is = subst (λ o. IfSome o P) is h

pub each_told : {X : Type 0} (told : Option X) (P : X → Type 0) → ((x : X) → told ≡ Some x → P x) → IfSome told P
each_told None P f = tt
each_told (Some x) P f = f x refl

-- ---- one out is another

module _ {D : Type 0} where
  get_same : (xs : List D) (i : ℕ) (y : D) → i < length xs → slice_get (set xs i y) i ≡ Some y
  get_same xs i y lt =
      let within : i < length (set xs i y) = omega (arith, lt, length-set xs i y) in
      slice_get-get_or (set xs i y) i y within ∙ ap (λ (x : D). Some x) (get_or-set_same xs i y y lt)

  get_other : (xs : List D) (i j : ℕ) (y : D) → (j ≡ i → ⊥) → slice_get (set xs i y) j ≡ slice_get xs j
  get_other xs i j y other = by (split (length xs) j)
    where
      by : (length xs ≤ j) ⊎ (j < length xs) → slice_get (set xs i y) j ≡ slice_get xs j
      by (inl past) = slice_get_past (set xs i y) j (omega (arith, past, length-set xs i y)) ∙ sym (slice_get_past xs j past)
      by (inr lt) =
          let within : j < length (set xs i y) = omega (arith, lt, length-set xs i y) in
          slice_get-get_or (set xs i y) j y within ∙ ap (λ (x : D). Some x) (get_or-set_other xs i j y y other) ∙ sym (slice_get-get_or xs j y lt)

  -- another list of the same length has an element there
  pub other_there : (xs ys : List D) (i : ℕ) (x : D) → length ys ≡ length xs → slice_get xs i ≡ Some x → (y : D) × (slice_get ys i ≡ Some y)
  other_there xs ys i x long there =
      let lt = slice_get_within xs i x there in
      (get_or ys i x, slice_get-get_or ys i x (omega (arith, lt, long)))

  pub one_there : (xs : List D) (i : ℕ) (x y : D) → slice_get xs i ≡ Some x → slice_get xs i ≡ Some y → x ≡ y
  one_there xs i x y a b = same_Some x y (sym a ∙ b)

  -- ---- one after another

  -- the fact holds of each of the first so many outs before and after, and the others are as they were
  pub record IsUpTo (P : ℕ → D → D → Type 0) (outs left : List D) (n : ℕ) : Type 0 where
    pub front : (number : ℕ) (old new : D) → number < n → slice_get outs number ≡ Some old → slice_get left number ≡ Some new → P number old new
    pub rest : (number : ℕ) → n ≤ number → slice_get left number ≡ slice_get outs number

  pub none_yet : (P : ℕ → D → D → Type 0) (outs : List D) → IsUpTo P outs outs 0
  none_yet P outs = record { front = λ number old new lt. absurd (omega (arith, lt)); rest = λ number le. refl }

  -- the next one is as it was
  pub next_there : (P : ℕ → D → D → Type 0) (outs left : List D) (n : ℕ) (d : D) → IsUpTo P outs left n → n < length left → slice_get outs n ≡ Some (get_or left n d)
  next_there P outs left n d u lt = sym (u.rest n (omega arith)) ∙ slice_get-get_or left n d lt

  -- any out behind a step at the next one
  pub each_step : (P Q : ℕ → D → D → Type 0) (outs left : List D) (n : ℕ) (old new : D) → IsUpTo P outs left n → n < length left → slice_get outs n ≡ Some old
      → ((number : ℕ) (a b : D) → P number a b → Q number a b) → Q n old new → ((number : ℕ) (a : D) → n < number → slice_get outs number ≡ Some a → Q number a a)
      → EachPair Q outs (set left n new)
  each_step P Q outs left n old new u lt was weak here same number a b at there = by (split number n)
    where
      late : n ≤ number → (number ≡ n → ⊥) → Q number a b
      late le other =
          let is : slice_get outs number ≡ Some b = sym (u.rest number le) ∙ sym (get_other left n number new other) ∙ there in
          subst (λ (x : D). Q number a x) (one_there outs number a b at is) (same number a (omega (arith, le, other)) at)

      now : number ≡ n → Q number a b
      now is =
          let first : old ≡ a = one_there outs n old a was (ap (slice_get outs) (sym is) ∙ at) in
          let second : new ≡ b = same_Some new b (sym (get_same left n new lt) ∙ ap (slice_get (set left n new)) (sym is) ∙ there) in
          subst (λ (x : D). Q number x b) first (subst (λ (y : D). Q number old y) second (subst (λ k. Q k old new) (sym is) here))

      at_most : (n ≤ number) ⊎ (number < n) → number ≤ n → Q number a b
      at_most (inl ge) le = now (omega (arith, ge, le))
      at_most (inr early) le =
          weak number a b (u.front number a b early at (sym (get_other left n number new (λ is. absurd (omega (arith, is, early)))) ∙ there))

      by : (number ≤ n) ⊎ (n < number) → Q number a b
      by (inl le) = at_most (split n number) le
      by (inr lt) = late (omega (arith, lt)) (λ is. absurd (omega (arith, is, lt)))

  pub one_more : (P : ℕ → D → D → Type 0) (outs left : List D) (n : ℕ) (old new : D) → IsUpTo P outs left n → n < length left → slice_get outs n ≡ Some old → P n old new
      → IsUpTo P outs (set left n new) (n + 1)
  one_more P outs left n old new u lt was here = record {
    front = λ number a b early at there. each_step P (λ k x y. k < n + 1 → P k x y) outs left n old new u lt was (λ k x y h le. h) (λ le. here)
        (λ k x late at le. absurd (omega (arith, late, le))) number a b at there early;
    rest = λ number le. get_other left n number new (λ is. absurd (omega (arith, is, le))) ∙ u.rest number (omega (arith, le));
  }

  -- all of them
  pub all_up_to : (P : ℕ → D → D → Type 0) (outs left : List D) (n : ℕ) → IsUpTo P outs left n → length outs ≤ n → EachPair P outs left
  all_up_to P outs left n u all number old new at there = u.front number old new (omega (arith, all, slice_get_within outs number old at)) at there

  -- ---- rounds

  -- two rounds, one behind the other
  pub each_then : (P Q R : ℕ → D → D → Type 0) (outs mid left : List D) → length mid ≡ length outs → EachPair P outs mid → EachPair Q mid left
      → ((number : ℕ) (a b c : D) → slice_get mid number ≡ Some b → P number a b → Q number b c → R number a c) → EachPair R outs left
  each_then P Q R outs mid left long one two both number a c at there =
      let b = other_there outs mid number a long at in
      both number a b.0 c b.1 (one number a b.0 at b.1) (two number b.0 c b.1 there)

  -- what holds of the outs before a round, as of those behind it
  pub each_new : (P : ℕ → D → D → Type 0) (Q R : ℕ → D → Type 0) (outs left : List D) → length left ≡ length outs → EachPair P outs left → EachOut Q outs
      → ((number : ℕ) (a b : D) → P number a b → Q number a → R number b) → EachOut R left
  each_new P Q R outs left long pairs each both number b there =
      let a = other_there left outs number b (sym long) there in
      both number a.0 b (pairs number a.0 b a.1 there) (each number a.0 a.1)

  -- what holds of each out as it was and as it is, with what holds of each as it is
  pub each_same : (Q : ℕ → D → D → Type 0) (outs : List D) → ((number : ℕ) (a : D) → slice_get outs number ≡ Some a → Q number a a) → EachPair Q outs outs
  each_same Q outs same number a b at there = subst (λ (x : D). Q number a x) (one_there outs number a b at there) (same number a at)
