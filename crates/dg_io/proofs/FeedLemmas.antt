-- Line feeds in a list of bytes, and the lines of bytes that have one or none.
use Rattle.std.proofs.Common.{◌≡◌, ℕ, ◌+◌, ◌-◌, ◌<◌, ◌≤◌, false, cond, ◌⊎◌, inl, inr, List, [], ◌∷◌, ◌++◌, length, get_or, take, drop, map, suc, refl, sym, ap, ◌∙◌, arith, append_assoc, append-nil, take-append-drop, length-take, length-drop, length-append, not, ◌==◌}
use Rattle.std.specs.List.{All, slice_split, onto_first, position_or_len}
use Rattle.std.specs.Str.Lines.{lines_of_parts, strip_carriage_return}
use Rattle.std.proofs.lemmas.List.Folds.{list_any-append, list_any_at, list_any_none}
use Rattle.std.proofs.lemmas.List.Splits.{slice_split_at, slice_split_none}
use Rattle.std.proofs.lemmas.List.{drop_more, length-take-le, get_or-take, get_or-drop, get_or_default}
use Rattle.std.proofs.Math.Seq.{take-add}
use Rattle.std.proofs.lemmas.Bool.{cases_Bool, cond-true, cond-false, false_from_ne_true, both_ways, or_from, or_parts, cond_both, le-leb, lt-leb, eqb-true, ne_eqb}
use Rattle.dg_text.specs.declared.limits.TheConstants.{LINE_BYTES_MAX}
use Rattle.dg_text.specs.Lines.{Text, Long, script_line, lines_of}
use Rattle.dg_io.specs.Feed.{is_feed, has_feed, past_feed, IsFirstFeed}

pub no_feed-append : (xs ys : List ℕ) → has_feed xs ≡ false → has_feed ys ≡ false → has_feed (xs ++ ys) ≡ false
no_feed-append xs ys p q = list_any-append is_feed xs ys ∙ or_from _ _ p q

each_no_feed : (xs : List ℕ) → has_feed xs ≡ false → All (λ b. is_feed b ≡ false) xs
each_no_feed xs p k d below = false_from_ne_true _ (λ q. both_ways _ p (list_any_at is_feed xs k d below q))

-- the bytes have no line feed, or a first one between two parts
pub record HasFirst (bytes : List ℕ) : Type 0 where
  pub front : List ℕ
  pub rest : List ℕ
  pub is : bytes ≡ front ++ 10 ∷ rest
  pub before : has_feed front ≡ false

first_more : (b : ℕ) (bs : List ℕ) → is_feed b ≡ false → HasFirst bs → HasFirst (b ∷ bs)
first_more b bs clear h = record {
  front = b ∷ h.front;
  rest = h.rest;
  is = ap (λ l. b ∷ l) h.is;
  before = or_from _ _ clear h.before;
}

pub feed_cases : (bytes : List ℕ) → (has_feed bytes ≡ false) ⊎ HasFirst bytes
feed_cases [] = inl refl
feed_cases (b ∷ bs) =
    elim (cases_Bool (is_feed b)) [
      | inl yes_feed ↦ inr record { front = []; rest = bs; is = ap (λ (x : ℕ). x ∷ bs) (eqb-true b 10 yes_feed); before = refl }
      | inr clear ↦ elim (feed_cases bs) [ inl none ↦ inl (or_from _ _ clear none) | inr h ↦ inr (first_more b bs clear h) ]
    ]

past_feed-cons : (b : ℕ) (bs : List ℕ) → is_feed b ≡ false → past_feed (b ∷ bs) ≡ past_feed bs
past_feed-cons b bs clear =
    let n = position_or_len is_feed bs in
    let one_more : (1 + n) + 1 ≡ suc (n + 1) = omega arith in
    ap (λ t. drop (cond (not t) (1 + n) 0 + 1) (b ∷ bs)) clear ∙ ap (λ k. drop k (b ∷ bs)) one_more

-- what is past the first line feed is past it behind bytes that have none
pub past_feed-append : (front rest : List ℕ) → has_feed front ≡ false → past_feed (front ++ rest) ≡ past_feed rest
past_feed-append [] rest p = refl
past_feed-append (b ∷ bs) rest p =
    let parts = or_parts _ _ p in
    past_feed-cons b (bs ++ rest) parts.0 ∙ past_feed-append bs rest parts.1

pub past_feed_at : (front rest : List ℕ) → has_feed front ≡ false → past_feed (front ++ 10 ∷ rest) ≡ rest
past_feed_at front rest p = past_feed-append front (10 ∷ rest) p

pub past_feed_none : (bytes : List ℕ) → has_feed bytes ≡ false → past_feed bytes ≡ []
past_feed_none bytes p = sym (ap past_feed (append-nil bytes)) ∙ past_feed-append bytes [] p

-- the bytes up to their first line feed, and what comes after it
pub split_at_feed : (bytes : List ℕ) (index : ℕ) → IsFirstFeed bytes index → bytes ≡ take index bytes ++ 10 ∷ drop (index + 1) bytes
split_at_feed bytes index f =
    sym (take-append-drop index bytes)
    ∙ ap (λ l. take index bytes ++ l) (drop_more bytes index 0 f.within ∙ ap (λ (x : ℕ). x ∷ drop (index + 1) bytes) f.here)

-- the first line feed behind bytes that have none
pub first_behind : (bytes : List ℕ) (scanned index : ℕ) → scanned ≤ length bytes → has_feed (take scanned bytes) ≡ false → IsFirstFeed (drop scanned bytes) index → IsFirstFeed bytes (scanned + index)
first_behind bytes scanned index within none f = record {
  within = omega (arith, f.within, length-drop scanned bytes);
  here = sym (get_or-drop scanned bytes index 0) ∙ f.here;
  before = ap has_feed (take-add scanned index bytes) ∙ no_feed-append (take scanned bytes) (take index (drop scanned bytes)) none f.before;
}

pub none_behind : (bytes : List ℕ) (scanned : ℕ) → has_feed (take scanned bytes) ≡ false → has_feed (drop scanned bytes) ≡ false → has_feed bytes ≡ false
none_behind bytes scanned p q = sym (ap has_feed (take-append-drop scanned bytes)) ∙ no_feed-append (take scanned bytes) (drop scanned bytes) p q

-- bytes of which none below an index is a line feed
pub no_feed_below : (bytes : List ℕ) (index : ℕ) → index ≤ length bytes → ((k : ℕ) → k < index → is_feed (get_or bytes k 0) ≡ false) → has_feed (take index bytes) ≡ false
no_feed_below bytes index within each =
    list_any_none is_feed (take index bytes) (λ k d below.
    let low : k < index = omega (arith, below, length-take-le index bytes within) in
    let inside : k < length bytes = omega arith in
    ap is_feed (get_or-take index bytes k d low ∙ get_or_default bytes k d 0 inside) ∙ each k low)

-- ---- lines

record HasPart (parts : List (List ℕ)) : Type 0 where
  first : List ℕ
  more : List (List ℕ)
  is : parts ≡ first ∷ more

onto_part : (b : ℕ) (parts : List (List ℕ)) → HasPart parts → HasPart (onto_first b parts)
onto_part b parts h = record { first = b ∷ h.first; more = h.more; is = ap (onto_first b) h.is }

has_part : (bytes : List ℕ) → HasPart (slice_split is_feed bytes)
has_part [] = record { first = []; more = []; is = refl }
has_part (b ∷ bs) =
    cond_both (is_feed b) _ _ HasPart (λ _. record { first = []; more = slice_split is_feed bs; is = refl }) (λ _. onto_part b _ (has_part bs))

-- a line that ends before a line feed, and the lines after it
pub lines_of-feed : (front rest : List ℕ) → has_feed front ≡ false → lines_of (front ++ 10 ∷ rest) ≡ script_line (strip_carriage_return front) ∷ lines_of rest
lines_of-feed front rest p =
    let h = has_part rest in
    let of = λ (parts : List (List ℕ)). map script_line (lines_of_parts parts) in
    let first = script_line (strip_carriage_return front) in
    ap of (slice_split_at is_feed front 10 rest (each_no_feed front p) refl ∙ ap (λ ps. front ∷ ps) h.is)
    ∙ sym (ap (λ ps. first ∷ of ps) h.is)

-- a last line
pub lines_of_last : (bytes : List ℕ) → has_feed bytes ≡ false → 0 < length bytes → lines_of bytes ≡ script_line bytes ∷ []
lines_of_last bytes p some =
    let nonempty : length bytes ≡ 0 → ⊥ = λ e. omega arith in
    ap (λ parts. map script_line (lines_of_parts parts)) (slice_split_none is_feed bytes (each_no_feed bytes p))
    ∙ ap (map script_line) (cond-false _ _ _ (ne_eqb (length bytes) 0 nonempty))

pub script_line_fits : (bytes : List ℕ) → length bytes ≤ LINE_BYTES_MAX → script_line bytes ≡ Text bytes
script_line_fits bytes h = cond-true _ _ _ (le-leb (length bytes) LINE_BYTES_MAX h)

pub script_line_long : (bytes : List ℕ) → LINE_BYTES_MAX < length bytes → script_line bytes ≡ Long
script_line_long bytes h = cond-false _ _ _ (lt-leb (length bytes) LINE_BYTES_MAX h)

pub length-strip : (bytes : List ℕ) → length bytes ≤ length (strip_carriage_return bytes) + 1
length-strip bytes =
    cond_both (get_or bytes (length bytes - 1) 0 == 13) _ _ (λ v. length bytes ≤ length v + 1)
    (λ _. omega (arith, length-take (length bytes - 1) bytes)) (λ _. omega arith)

-- more bytes than a longest line and its carriage return, and none a line feed: the line is too long, however it goes on
pub lines_of_long : (bytes left : List ℕ) → has_feed bytes ≡ false → LINE_BYTES_MAX + 1 < length bytes → lines_of (bytes ++ left) ≡ Long ∷ lines_of (past_feed left)
lines_of_long bytes left p many =
    elim (feed_cases left) [
      | inl none ↦
          let whole = length-append bytes left in
          let long : LINE_BYTES_MAX < length (bytes ++ left) = omega arith in
          lines_of_last (bytes ++ left) (no_feed-append bytes left p none) (omega arith)
          ∙ ap (λ l. l ∷ []) (script_line_long (bytes ++ left) long)
          ∙ sym (ap (λ b. Long ∷ lines_of b) (past_feed_none left none))
      | inr h ↦
          let front = bytes ++ h.front in
          let whole = length-append bytes h.front in
          let kept = length-strip front in
          let long : LINE_BYTES_MAX < length (strip_carriage_return front) = omega arith in
          ap (λ b. lines_of (bytes ++ b)) h.is
          ∙ sym (ap lines_of (append_assoc bytes h.front (10 ∷ h.rest)))
          ∙ lines_of-feed front h.rest (no_feed-append bytes h.front p h.before)
          ∙ ap (λ l. l ∷ lines_of h.rest) (script_line_long _ long)
          ∙ sym (ap (λ b. Long ∷ lines_of b) (ap past_feed h.is ∙ past_feed_at h.front h.rest h.before))
    ]
