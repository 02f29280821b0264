-- The lines of bytes that end with a line feed stay the first lines, whatever bytes follow.
use Rattle.std.proofs.Common.{◌≡◌, ℕ, zero, suc, ◌≤◌, Bool, true, false, ◌||◌, inl, inr, List, [], ◌∷◌, ◌++◌, length, refl, sym, ap, ◌∙◌, arith, append_assoc, length-append}
use Rattle.std.specs.Str.Lines.{strip_carriage_return}
use Rattle.std.proofs.lemmas.Bool.{cases_Bool, cond-true, cond-false}
use Rattle.std.proofs.lemmas.List.Folds.{list_any-append}
use Rattle.dg_cuts.specs.WholeEntries.{up_to_feed}
use Rattle.dg_text.specs.Lines.{lines_of, script_line}
use Rattle.dg_io.specs.Feed.{has_feed, is_feed}
use Rattle.dg_io.proofs.FeedLemmas.{feed_cases, lines_of-feed}

or_true : (x : Bool) → x || true ≡ true
or_true true = refl
or_true false = refl

feed_behind : (front rest : List ℕ) → has_feed (front ++ 10 ∷ rest) ≡ true
feed_behind front rest = list_any-append is_feed front (10 ∷ rest) ∙ or_true (has_feed front)

-- the bytes up to the last line feed begin with those up to the first
up_to_later : (front rest : List ℕ) → up_to_feed (front ++ 10 ∷ rest) ≡ front ++ 10 ∷ up_to_feed rest
up_to_later [] rest = refl
up_to_later (b ∷ bs) rest =
    cond-true _ _ _ (ap (λ (x : Bool). is_feed b || x) (feed_behind bs rest) ∙ or_true (is_feed b)) ∙ ap (λ (xs : List ℕ). b ∷ xs) (up_to_later bs rest)

up_to_none : (bytes : List ℕ) → has_feed bytes ≡ false → up_to_feed bytes ≡ []
up_to_none [] none = refl
up_to_none (b ∷ bs) none = cond-false _ _ _ none

-- the bytes are those up to the last line feed, and others
pub and_others : (bytes : List ℕ) → (rest : List ℕ) × (bytes ≡ up_to_feed bytes ++ rest)
and_others [] = ([], refl)
and_others (b ∷ bs) =
    elim (cases_Bool (is_feed b || has_feed bs)) [
      | inl some ↦
          let more = and_others bs in
          (more.0, ap (λ (xs : List ℕ). b ∷ xs) more.1 ∙ ap (λ (xs : List ℕ). xs ++ more.0) (sym (cond-true _ _ _ some)))
      | inr none ↦ (b ∷ bs, ap (λ (xs : List ℕ). xs ++ b ∷ bs) (sym (cond-false _ _ _ none)))
    ]

pub whole_lines : (n : ℕ) (bytes more : List ℕ) → length bytes ≤ n → lines_of (up_to_feed bytes ++ more) ≡ lines_of (up_to_feed bytes) ++ lines_of more
whole_lines zero [] more few = refl
whole_lines zero (b ∷ bs) more few = absurd (omega arith)
whole_lines (suc n) bytes more few =
    elim (feed_cases bytes) [
      | inl none ↦ ap (λ (xs : List ℕ). lines_of (xs ++ more)) (up_to_none bytes none) ∙ ap (λ (xs : List ℕ). lines_of xs ++ lines_of more) (sym (up_to_none bytes none))
      | inr h ↦
          let upto : up_to_feed bytes ≡ h.front ++ 10 ∷ up_to_feed h.rest = ap up_to_feed h.is ∙ up_to_later h.front h.rest in
          let line = script_line (strip_carriage_return h.front) in
          let long = length-append h.front (10 ∷ h.rest) in
          ap (λ (xs : List ℕ). lines_of (xs ++ more)) upto ∙ ap lines_of (append_assoc h.front (10 ∷ up_to_feed h.rest) more)
          ∙ lines_of-feed h.front (up_to_feed h.rest ++ more) h.before
          ∙ ap (λ ls. line ∷ ls) (whole_lines n h.rest more (omega (arith, few, ap length h.is, long)))
          ∙ ap (λ ls. ls ++ lines_of more) (sym (lines_of-feed h.front (up_to_feed h.rest) h.before))
          ∙ ap (λ (xs : List ℕ). lines_of xs ++ lines_of more) (sym upto)
    ]
