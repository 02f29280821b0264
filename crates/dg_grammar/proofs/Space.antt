-- The first word of a line, and what comes after it.
use Rattle.std.proofs.Common.{◌≡◌, ℕ, ◌+◌, ◌<◌, ◌≤◌, Bool, true, false, cond, List, [], ◌∷◌, length, take, drop, Some, None, refl, sym, ap, ◌∙◌, subst, arith, ltb}
use Rattle.std.specs.List.{position, position_or_len, join_with_byte}
use Rattle.std.proofs.lemmas.Bool.{ltb-true, ltb-false}
use Rattle.std.proofs.lemmas.List.Sums.{fails_before_first}
use Rattle.std.proofs.lemmas.List.Splits.{slice_split_first, slice_split_none, length-slice_split, join_with_byte-slice_split}
use Rattle.dg_text.specs.Words.{words}
use Rattle.dg_grammar.specs.Space.{is_space, rest_of}

some_of : (b : Bool) (n at : ℕ) → cond b (Some n) None ≡ Some at → (b ≡ true) × (n ≡ at)
some_of true n at e = (refl, cc)
some_of false n at e = cc

none_of : (b : Bool) (n : ℕ) → cond b (Some n) None ≡ None → b ≡ false
none_of true n e = cc
none_of false n e = refl

-- where a space is, the line is a word and the words after the space
pub first_word : (line : List ℕ) (at : ℕ) → position is_space line ≡ Some at
    → words line ≡ take at line ∷ words (drop (at + 1) line)
first_word line at e =
    let n = position_or_len is_space line in
    let h = some_of (ltb n (length line)) n at e in
    subst (λ (k : ℕ). words line ≡ take k line ∷ words (drop (k + 1) line)) h.1
    (slice_split_first is_space line 0 (ltb-true n (length line) h.0))

-- a line without a space is one word
pub last_word : (line : List ℕ) → position is_space line ≡ None → words line ≡ line ∷ []
last_word line e =
    let n = position_or_len is_space line in
    let past : length line ≤ n = ltb-false n (length line) (none_of (ltb n (length line)) n e) in
    slice_split_none is_space line (λ k d below. fails_before_first is_space line k d (omega arith))

joined : (ws : List (List ℕ)) → 0 < length ws → rest_of ws ≡ Some (join_with_byte 32 ws)
joined [] some = absurd (omega arith)
joined (w ∷ ws) some = refl

-- the words of a line, put together again, are the line
pub whole_rest : (line : List ℕ) → Some line ≡ rest_of (words line)
whole_rest line =
    sym (joined (words line) (omega (arith, length-slice_split is_space line)) ∙ ap Some (join_with_byte-slice_split 32 line))
