-- The numbers of texts in a list of names, and the names of a list of keys that own their texts.
use Rattle.std.proofs.Common.{◌≡◌, ◌≢◌, ℕ, zero, suc, ◌+◌, ◌<◌, ◌≤◌, Bool, true, false, not, cond, List, [], ◌∷◌, ◌++◌, length, get_or, map, take, slice_get, position, Option, Some, None, is_some, if◌then◌else◌, refl, sym, ap, subst, ◌∙◌, ltb, arith}
use borrow.Author.Tests.{ltb-false, lt-ltb}
use Rattle.std.proofs.lemmas.Bool.{false≢true}
use Rattle.std.proofs.lemmas.List.{length-map, map-append, take-map, length-take, length-append}
use Rattle.std.proofs.lemmas.List.Elements.{All-take, All-push}
use Rattle.std.proofs.lemmas.List.Folds.{list_any_at, list_any_none}
use Rattle.std.proofs.lemmas.List.Quantifiers.{position-Some}
use Rattle.std.proofs.lemmas.List.Sums.{fails_before_first, position_or_len_is, prefix_len-le-length}
use Rattle.std.proofs.lemmas.Map.Made.{AllPairs-from_IsDistinct}
use Rattle.std.proofs.lemmas.Option.{slice_get_within, slice_get-get_or, slice_get-map, get_or_from_slice_get, none-some}
use Rattle.std.proofs.lemmas.Slice.Eq.{bytes_eq-Decides}
use Rattle.std.specs.List.{IsDistinct, AllByRecursion, All, Contains, list_any, position_or_len}
use Rattle.std.specs.Option.{unwrap_or, option_map}
use Rattle.std.specs.Str.{bytes_eq}
use Rattle.dg_text.specs.Names.{number_of, added}
use Rattle.dg_names.specs.NameLimits.{AreFew, AreShort}
use Rattle.dg_text.specs.declared.limits.TheConstants.{NAMES_MAX, NAME_BYTES_MAX}

-- ---- the first index that passes a test

module _ {X : Type 0} (p : X → Bool) where
  pub position_at : (xs : List X) (i : ℕ) (d : X) → i < length xs → ((k : ℕ) → k < i → p (get_or xs k d) ≡ false) → p (get_or xs i d) ≡ true → position p xs ≡ Some i
  position_at xs i d within before at =
      let first = position_or_len_is p xs i d (omega (arith, within)) before (λ _. at) in
      ap (λ n. cond (ltb n (length xs)) (Some n) None) first ∙ ap (λ b. cond b (Some i) None) (lt-ltb i (length xs) within)

  -- where none passes, it is past the end
  pub position_none_len : (xs : List X) → position p xs ≡ None → length xs ≤ position_or_len p xs
  position_none_len xs e = by (ltb (position_or_len p xs) (length xs)) refl
    where
      by : (b : Bool) → ltb (position_or_len p xs) (length xs) ≡ b → length xs ≤ position_or_len p xs
      by true t = absurd (none-some (position_or_len p xs) (sym e ∙ ap (λ b. cond b (Some (position_or_len p xs)) None) t))
      by false f = ltb-false (position_or_len p xs) (length xs) f

  pub position_none_fails : (xs : List X) → position p xs ≡ None → All (λ x. p x ≡ false) xs
  position_none_fails xs e k d lt =
      let past = position_none_len xs e in
      fails_before_first p xs k d (omega (arith, past, lt))

module _ {X Y : Type 0} (p : Y → Bool) (v : X → Y) where
  pub position_or_len-map : (xs : List X) → position_or_len p (map v xs) ≡ position_or_len (λ x. p (v x)) xs
  position_or_len-map [] = refl
  position_or_len-map (x ∷ xs) = ap (λ n. cond (not (p (v x))) (1 + n) 0) (position_or_len-map xs)

  pub position-map : (xs : List X) → position p (map v xs) ≡ position (λ x. p (v x)) xs
  position-map xs j = cond (ltb (position_or_len-map xs j) (length-map xs v j)) (Some (position_or_len-map xs j)) None

-- ---- numbers

same_text : (s t : List ℕ) → bytes_eq s t ≡ true → t ≡ s
same_text s t e = sym ((bytes_eq-Decides s t).0 e)

is_itself : (t : List ℕ) → bytes_eq t t ≡ true
is_itself t = (bytes_eq-Decides t t).1 refl

other_text : (s t : List ℕ) → s ≢ t → bytes_eq s t ≡ false
other_text s t ne = by (bytes_eq s t) refl
  where
    by : (b : Bool) → bytes_eq s t ≡ b → bytes_eq s t ≡ false
    by true e = absurd (ne ((bytes_eq-Decides s t).0 e))
    by false e = e

-- what has a number stands there
pub number_stands : (names : List (List ℕ)) (text : List ℕ) (n : ℕ) → number_of names text ≡ Some n → slice_get names n ≡ Some text
number_stands names text n e =
    let found = position-Some (bytes_eq text) names n text e in
    slice_get-get_or names n text found.0 ∙ ap Some (same_text text (get_or names n text) found.1)

-- what has none stands nowhere
pub no_number : (names : List (List ℕ)) (text : List ℕ) → number_of names text ≡ None → Contains names text → ⊥
no_number names text e has =
    let fails = position_none_fails (bytes_eq text) names e has.0 text has.1 in
    false≢true (sym fails ∙ ap (bytes_eq text) has.2 ∙ is_itself text)

-- each text of distinct names has its own index for its number
pub number_here : (names : List (List ℕ)) → IsDistinct bytes_eq names → (n : ℕ) (text : List ℕ) → slice_get names n ≡ Some text → number_of names text ≡ Some n
number_here names distinct n text e =
    let within = slice_get_within names n text e in
    let here = get_or_from_slice_get names n text text e in
    let apart = AllPairs-from_IsDistinct bytes_eq-Decides names distinct in
    position_at (bytes_eq text) names n text within
    (λ k lt. other_text text (get_or names k text) (λ same. apart k n text lt within (sym same ∙ sym here)))
    (ap (bytes_eq text) here ∙ is_itself text)

pub one_number : (names : List (List ℕ)) → IsDistinct bytes_eq names → (m n : ℕ) (text : List ℕ) → slice_get names m ≡ Some text → slice_get names n ≡ Some text → m ≡ n
one_number names distinct m n text at_m at_n =
    ap (λ o. unwrap_or o m) (sym (number_here names distinct m text at_m) ∙ number_here names distinct n text at_n)

-- ---- keys that own their texts

module _ {K : Type 0} (v : K → List ℕ) where
  -- a look-up among the keys gives the number among the names
  pub number-map : (keys : List K) (text : List ℕ) (names : List (List ℕ)) → map v keys ≡ names → position (λ k. bytes_eq text (v k)) keys ≡ number_of names text
  number-map keys text names e = sym (position-map (bytes_eq text) v keys) ∙ ap (λ l. number_of l text) e

  pub names_cut : (keys cut_keys : List K) (n : ℕ) (names : List (List ℕ)) → map v keys ≡ names → cut_keys ≡ take n keys → map v cut_keys ≡ take n names
  names_cut keys cut_keys n names e cut = ap (map v) cut ∙ sym (take-map v n keys) ∙ ap (take n) e

  apart-map : (t : List ℕ) (keys : List K) → AllByRecursion (λ k. bytes_eq t (v k) ≡ false) keys → AllByRecursion (λ s. bytes_eq t s ≡ false) (map v keys)
  apart-map t [] h = tt
  apart-map t (k ∷ keys) h = (h.0, apart-map t keys h.1)

  pub distinct-map : (keys : List K) → IsDistinct (λ a b. bytes_eq (v a) (v b)) keys → IsDistinct bytes_eq (map v keys)
  unfolding IsDistinct
  distinct-map [] d = tt
  distinct-map (k ∷ keys) d = (apart-map (v k) keys d.0, distinct-map keys d.1)

  -- a key that was not there goes last
  pub grown : (keys new_keys : List K) (k : K) (text : List ℕ) (names : List (List ℕ)) → map v keys ≡ names → v k ≡ text → number_of names text ≡ None
      → new_keys ≡ (if list_any (λ q. bytes_eq (v k) (v q)) keys then keys else keys ++ k ∷ []) → map v new_keys ≡ names ++ text ∷ []
  grown keys new_keys k text names view is none e =
      let none_key : position (λ q. bytes_eq (v k) (v q)) keys ≡ None = number-map keys (v k) names view ∙ ap (number_of names) is ∙ none in
      let new = list_any_none (λ q. bytes_eq (v k) (v q)) keys (position_none_fails _ keys none_key) in
      ap (map v) (e ∙ ap (λ b. if b then keys else keys ++ k ∷ []) new) ∙ map-append v keys (k ∷ []) ∙ (λ j. view j ++ is j ∷ [])

  -- a key that stands for the text is there where the text is among the names
  pub has_key : (keys : List K) (k : K) (text : List ℕ) (names : List (List ℕ)) → map v keys ≡ names → v k ≡ text → list_any (λ q. bytes_eq (v k) (v q)) keys ≡ is_some (number_of names text)
  has_key keys k text names view is = by (number_of names text) (number-map keys (v k) names view ∙ ap (number_of names) is)
    where
      by : (o : Option ℕ) → position (λ q. bytes_eq (v k) (v q)) keys ≡ o → list_any (λ q. bytes_eq (v k) (v q)) keys ≡ is_some o
      by None e = list_any_none (λ q. bytes_eq (v k) (v q)) keys (position_none_fails _ keys e)
      by (Some n) e =
          let found = position-Some (λ q. bytes_eq (v k) (v q)) keys n k e in
          list_any_at (λ q. bytes_eq (v k) (v q)) keys n k found.0 found.1

  -- with it the names are those with the text
  pub with_key : (keys new_keys : List K) (k : K) (text : List ℕ) (names : List (List ℕ)) → map v keys ≡ names → v k ≡ text
      → new_keys ≡ (if list_any (λ q. bytes_eq (v k) (v q)) keys then keys else keys ++ k ∷ []) → map v new_keys ≡ added names text
  with_key keys new_keys k text names view is e =
      ap (map v) (e ∙ ap (λ b. if b then keys else keys ++ k ∷ []) (has_key keys k text names view is)) ∙ by (is_some (number_of names text))
    where
      by : (b : Bool) → map v (if b then keys else keys ++ k ∷ []) ≡ (if b then names else names ++ text ∷ [])
      by true = view
      by false = map-append v keys (k ∷ []) ∙ (λ j. view j ++ is j ∷ [])

  -- and its index is the length
  pub grown_index : (keys : List K) (k : K) (text : List ℕ) (names : List (List ℕ)) → map v keys ≡ names → v k ≡ text → number_of names text ≡ None
      → position_or_len (λ q. bytes_eq (v k) (v q)) keys ≡ length names
  grown_index keys k text names view is none =
      let none_key : position (λ q. bytes_eq (v k) (v q)) keys ≡ None = number-map keys (v k) names view ∙ ap (number_of names) is ∙ none in
      let past = position_none_len _ keys none_key in
      let within = prefix_len-le-length (λ q. not (bytes_eq (v k) (v q))) keys in
      let same : length names ≡ length keys = ap length (sym view) ∙ length-map keys v in
      omega (arith, past, within, same)

  -- a key that is equal to another stands for the other's text
  pub key_stands : (keys : List K) (x k : K) (n : ℕ) (text : List ℕ) → slice_get keys n ≡ Some x → v k ≡ text → bytes_eq (v k) (v x) ≡ true → slice_get (map v keys) n ≡ Some text
  key_stands keys x k n text at is same = slice_get-map v keys n ∙ ap (option_map v) at ∙ ap Some (same_text (v k) (v x) same ∙ is)

  -- a key's text is short, as each of the names is
  pub short_key : (keys : List K) (k : K) (n : ℕ) → Some k ≡ slice_get keys n → AreShort (map v keys) → length (v k) ≤ NAME_BYTES_MAX
  short_key keys k n at short =
      let here : slice_get (map v keys) n ≡ Some (v k) = slice_get-map v keys n ∙ ap (option_map v) (sym at) in
      subst (λ t. length t ≤ NAME_BYTES_MAX) (get_or_from_slice_get (map v keys) n (v k) (v k) here) (short n (v k) (slice_get_within (map v keys) n (v k) here))

-- the list with the text is then the list and the text
pub added_last : (names : List (List ℕ)) (text : List ℕ) → number_of names text ≡ None → added names text ≡ names ++ text ∷ []
added_last names text none = ap (λ o. if is_some o then names else names ++ text ∷ []) none

-- the names before it keep their numbers
pub stays : (names new : List (List ℕ)) (text : List ℕ) → new ≡ names ++ text ∷ [] → (n : ℕ) (earlier : List ℕ) → slice_get names n ≡ Some earlier → slice_get new n ≡ Some earlier
stays names new text e n earlier at = ap (λ l. slice_get l n) e ∙ in_front names n at
  where
    in_front : (xs : List (List ℕ)) (i : ℕ) → slice_get xs i ≡ Some earlier → slice_get (xs ++ text ∷ []) i ≡ Some earlier
    in_front [] i h = absurd (none-some earlier h)
    in_front (x ∷ xs) zero h = h
    in_front (x ∷ xs) (suc i) h = in_front xs i h

-- ---- the bounds

pub fits_cut : (names cut : List (List ℕ)) (n : ℕ) → cut ≡ take n names → AreFew names × AreShort names → AreFew cut × AreShort cut
fits_cut names cut n e fits =
    let fewer = length-take n names in
    subst (λ l. AreFew l × AreShort l) (sym e) (omega (arith, fewer, fits.0), All-take (λ t. length t ≤ NAME_BYTES_MAX) n names fits.1)

pub fits_grown : (names new : List (List ℕ)) (text : List ℕ) → new ≡ names ++ text ∷ [] → AreFew names × AreShort names → length names < NAMES_MAX → length text ≤ NAME_BYTES_MAX → AreFew new × AreShort new
fits_grown names new text e fits room short =
    let longer = length-append names (text ∷ []) in
    subst (λ l. AreFew l × AreShort l) (sym e) (omega (arith, longer, room), All-push (λ t. length t ≤ NAME_BYTES_MAX) names text fits.1 short)

pub fits_added : (names new : List (List ℕ)) (text : List ℕ) → new ≡ added names text → AreFew names × AreShort names → length names < NAMES_MAX → length text ≤ NAME_BYTES_MAX → AreFew new × AreShort new
fits_added names new text e fits room short = by (is_some (number_of names text)) e
  where
    by : (b : Bool) → new ≡ (if b then names else names ++ text ∷ []) → AreFew new × AreShort new
    by true e = subst (λ l. AreFew l × AreShort l) (sym e) fits
    by false e = fits_grown names new text e fits room short
