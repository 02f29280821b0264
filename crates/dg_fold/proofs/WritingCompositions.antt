-- What the deltas that are written for a target come to as one.
use Rattle.std.proofs.Common.{◌≡◌, ◌<◌, ◌≤◌, ◌+◌, Bool, true, false, cond, ℕ, List, [], ◌∷◌, ◌++◌, length, get_or, map, take, Some, slice_get, refl, sym, ap, subst, ◌∙◌, arith}
use Rattle.std.specs.List.{All}
use Rattle.std.proofs.lemmas.List.{append-nil, map-append, take_more}
use Rattle.std.proofs.lemmas.List.Elements.{All-head, All-push, All-tail}
use Rattle.dg_graph.specs.Composition.{Delta, IsDelta, Composes, composition, says, then_says}
use Rattle.dg_delta.proofs.Deltas.{IsDelta-composed, can_be_cut, say_the_same_are_equal, says-composed}
use Rattle.dg_net.proofs.ReplayNets.{composes_halves}
use Rattle.dg_fold.specs.declared.writing.Writing.{Writing}
use Rattle.dg_fold.specs.Writings.{composed_all, is_for, written_for}

-- ---- deltas as one

pub composes_all : (list : List Delta) → Composes (composed_all list) list
composes_all [] x = refl
composes_all (d ∷ later) x = says-composed d (composed_all later) x ∙ ap (then_says (says d x)) (composes_all later x)

-- as one, or with all but the last as one
pub composes_last : (list : List Delta) (last : Delta) → Composes (composed_all (list ++ last ∷ [])) (composed_all list ∷ last ∷ [])
composes_last list last x =
    composes_all (list ++ last ∷ []) x ∙ can_be_cut list (last ∷ []) x
    ∙ ap (λ w. then_says w (composition (last ∷ []) x)) (sym (composes_all list x))

is_delta_all : (list : List Delta) → All IsDelta list → IsDelta (composed_all list)
is_delta_all [] each = record { minus = tt; plus = tt; apart = λ x h. refl }
is_delta_all (d ∷ later) each =
    IsDelta-composed d (composed_all later) (All-head IsDelta d later each) (is_delta_all later (All-tail IsDelta d later each))

-- a delta that the list composes to is what it comes to as one
pub composed_is : (d : Delta) (list : List Delta) → IsDelta d → All IsDelta list → Composes d list → d ≡ composed_all list
composed_is d list delta each composes =
    say_the_same_are_equal d (composed_all list) delta (is_delta_all list each) (λ x. composes x ∙ sym (composes_all list x))

-- ---- deltas of other things, as those that borrows lead to

module _ {A : Type 0} (f : A → Delta) where
  -- one alone
  pub composes_one : (d : Delta) (xs : List A) (x : A) → d ≡ f x → length xs ≤ 1 → Some x ≡ slice_get xs 0 → Composes d (map f xs)
  composes_one d [] x one few is = absurd cc
  composes_one d (y ∷ []) x one few is = let same : x ≡ y = cc in λ e. ap (λ z. says z e) (one ∙ ap f same)
  composes_one d (y ∷ z ∷ xs) x one few is = absurd (omega arith)

  composes_first : (xs : List A) (x : A) → length xs ≡ 1 → x ≡ get_or xs 0 x → Composes (f x) (map f xs)
  composes_first [] x many is = absurd (omega arith)
  composes_first (y ∷ []) x many is = λ e. ap (λ z. says (f z) e) is
  composes_first (y ∷ z ∷ xs) x many is = absurd (omega arith)

  -- two parts, wherever they are cut
  pub composes_parts : (d first then : Delta) (left right whole : List A) → whole ≡ left ++ right → Composes first (map f left) → Composes then (map f right)
      → Composes d (first ∷ then ∷ []) → Composes d (map f whole)
  composes_parts d first then left right whole cut front back both =
      composes_halves d first then (map f left) (map f right) (map f whole) both front back (ap (map f) cut ∙ map-append f left right)

  pub composes_behind_first : (d then : Delta) (left right whole : List A) (x : A) → whole ≡ left ++ right → length left ≡ 1 → x ≡ get_or left 0 x → Composes then (map f right)
      → Composes d (f x ∷ then ∷ []) → Composes d (map f whole)
  composes_behind_first d then left right whole x cut many is back both =
      composes_parts d (f x) then left right whole cut (composes_first left x many is) back both

-- ---- what is written for a target

pub written_cut : (n : ℕ) (xs ys : List Writing) → written_for n (xs ++ ys) ≡ written_for n xs ++ written_for n ys
written_cut n [] ys = refl
written_cut n (w ∷ xs) ys = by (is_for n w) (written_cut n xs ys)
  where
    by : (b : Bool) → written_for n (xs ++ ys) ≡ written_for n xs ++ written_for n ys
        → cond b (w.delta ∷ written_for n (xs ++ ys)) (written_for n (xs ++ ys)) ≡ cond b (w.delta ∷ written_for n xs) (written_for n xs) ++ written_for n ys
    by true again = ap (λ l. w.delta ∷ l) again
    by false again = again

-- What is known when so many writings have been looked at for the target.
pub record Gathered (n i : ℕ) (writings : List Writing) (deltas : List Delta) : Type 0 where
  pub written : deltas ≡ written_for n (take i writings)
  pub each : All IsDelta deltas

module _ (n i : ℕ) (writings : List Writing) (w : Writing) (h : i < length writings) (here : w ≡ get_or writings i w) where
  one_more : written_for n (take (i + 1) writings) ≡ written_for n (take i writings) ++ cond (is_for n w) (w.delta ∷ []) []
  one_more =
      ap (written_for n) (take_more writings i w h ∙ ap (λ v. take i writings ++ v ∷ []) (sym here)) ∙ written_cut n (take i writings) (w ∷ [])

  pub gathered_more : {A : Type 0} (f : A → Delta) (old new : List A) (x : A) → Gathered n i writings (map f old) → is_for n w ≡ true → IsDelta w.delta → f x ≡ w.delta → new ≡ old ++ x ∷ []
      → Gathered n (i + 1) writings (map f new)
  gathered_more f old new x g for delta same grown =
      let is = ap (map f) grown ∙ map-append f old (x ∷ []) ∙ (λ j. map f old ++ same j ∷ []) in
      record {
        written = is ∙ ap (λ l. l ++ w.delta ∷ []) g.written ∙ sym (one_more ∙ ap (λ b. written_for n (take i writings) ++ cond b (w.delta ∷ []) []) for);
        each = subst (All IsDelta) (sym is) (All-push IsDelta (map f old) w.delta g.each delta);
      }

  pub gathered_still : (deltas : List Delta) → Gathered n i writings deltas → is_for n w ≡ false → Gathered n (i + 1) writings deltas
  gathered_still deltas g other = record {
    written = g.written ∙ sym (one_more ∙ ap (λ b. written_for n (take i writings) ++ cond b (w.delta ∷ []) []) other ∙ append-nil (written_for n (take i writings)));
    each = g.each;
  }
