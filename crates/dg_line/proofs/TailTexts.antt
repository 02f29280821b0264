-- Keys and values at the end of a line: how far bytes go along with them, and how a command keeps them.
use Rattle.std.proofs.Common.{◌≡◌, ℕ, zero, suc, ◌+◌, ◌<◌, ◌≤◌, Bool, true, false, cond, not, ◌&&◌, ◌||◌, ◌==◌, nat_le, nat_lt, List, [], ◌∷◌, ◌++◌, length, get_or, take, drop, replicate, Some, None, ◌-◌, refl, sym, ap, ◌∙◌, subst, arith, append-nil, length-append, get_or-take}
use Rattle.std.specs.List.{list_all, list_any}
use Rattle.std.proofs.Math.ListN.{get_or-append}
use Rattle.std.proofs.lemmas.Bool.{and_parts, false≢true, leb-true, le-leb, ltb-true, lt-ltb, ne_eqb}
use Rattle.std.specs.Option.{option_map}
use Rattle.std.proofs.lemmas.List.{drop-replicate, length-take-le}
use Rattle.dg_machine.specs.CommandGrammar.{key_word}
use Rattle.dg_machine.specs.ValueIndex.{key_of, value_of}
use Rattle.dg_machine.specs.declared.texts.KeyText.{KeyText}
use Rattle.dg_machine.specs.declared.texts.ValueText.{ValueText}
use Rattle.dg_text.specs.declared.limits.TheConstants.{KEY_BYTES_MAX, NAME_BYTES_MAX}
use Rattle.dg_grammar.specs.Prefixes.{IsLongestPrefix}
use Rattle.dg_grammar.proofs.ListElements.{passes_at}
use Rattle.dg_grammar.proofs.Prefixes.{Plain, goes_on, stops}
use Rattle.dg_grammar.proofs.Symbols.{parted_at, space_is}
use Rattle.dg_line.specs.Tails.{IsKeyText, IsSearchText, IsValueText}

-- ---- texts of few bytes that all pass

-- a text goes along with bytes as far as they pass and are not too many
pub counted : (P Pass : List ℕ → Type 0) (most : ℕ) (rest : List ℕ) (n : ℕ)
    → ((text : List ℕ) → P text → length text ≤ most) → ((text : List ℕ) (k : ℕ) → P text → k < length text → Pass (get_or text k 0 ∷ []))
    → n ≤ length rest → (0 < n → P (take n rest)) → (n < length rest → n < most → Pass (get_or rest n 0 ∷ []) → ⊥)
    → IsLongestPrefix P rest n
counted P Pass most rest n few each within whole past = record {
  within = within;
  begins = λ some. ([], subst P (sym (append-nil (take n rest))) (whole some));
  longest = λ a b e h.
      let not_more : n < length a → ⊥ = λ more.
      let longer : n < length (a ++ h.0) = omega (arith, length-append a h.0) in
      let same : get_or (a ++ h.0) n 0 ≡ get_or rest n 0 =
      get_or-append a h.0 0 n more ∙ sym (get_or-append a b 0 n more) ∙ ap (λ (x : List ℕ). get_or x n 0) e in
      past (omega (arith, ap length e, length-append a b)) (omega (arith, few (a ++ h.0) h.1)) (subst (λ (x : ℕ). Pass (x ∷ [])) same (each (a ++ h.0) n h.1 longer)) in
      omega arith;
}

all_by : (p : ℕ → Bool) (xs : List ℕ) → ((k : ℕ) → k < length xs → p (get_or xs k 0) ≡ true) → list_all p xs ≡ true
all_by p [] each = refl
all_by p (x ∷ xs) each = ap (λ b. b && list_all p xs) (each 0 (omega arith)) ∙ all_by p xs (λ k below. each (suc k) (omega arith))

none_by : (p : ℕ → Bool) (xs : List ℕ) → ((k : ℕ) → k < length xs → p (get_or xs k 0) ≡ false) → list_any p xs ≡ false
none_by p [] each = refl
none_by p (x ∷ xs) each = ap (λ b. b || list_any p xs) (each 0 (omega arith)) ∙ none_by p xs (λ k below. each (suc k) (omega arith))

none_at : (p : ℕ → Bool) (xs : List ℕ) (k : ℕ) → list_any p xs ≡ false → k < length xs → p (get_or xs k 0) ≡ false
none_at p [] k e below = absurd (omega arith)
none_at p (x ∷ xs) zero e below = first (p x) e
  where
    first : (b : Bool) → (b || list_any p xs) ≡ false → b ≡ false
    first true e = absurd (false≢true (sym e))
    first false e = refl
none_at p (x ∷ xs) (suc k) e below = none_at p xs k (second (p x) e) (omega arith)
  where
    second : (b : Bool) → (b || list_any p xs) ≡ false → list_any p xs ≡ false
    second true e = absurd (false≢true (sym e))
    second false e = e

pub record KeyParts (text : List ℕ) : Type 0 where
  pub some : 1 ≤ length text
  pub few : length text ≤ KEY_BYTES_MAX
  pub each : (k : ℕ) → k < length text → 32 < get_or text k 0

pub key_parts : (text : List ℕ) → IsKeyText text → KeyParts text
key_parts text h =
    let first = and_parts (nat_le 1 (length text)) (nat_le (length text) KEY_BYTES_MAX && list_all (λ b. nat_lt 32 b) text) h in
    let second = and_parts (nat_le (length text) KEY_BYTES_MAX) (list_all (λ b. nat_lt 32 b) text) first.1 in
    record { some = leb-true _ _ first.0; few = leb-true _ _ second.0; each = λ k below. ltb-true _ _ (passes_at (λ b. nat_lt 32 b) text k 0 second.1 below) }

pub key_by : (text : List ℕ) → KeyParts text → IsKeyText text
key_by text k =
    ap (λ b. b && (nat_le (length text) KEY_BYTES_MAX && list_all (λ b. nat_lt 32 b) text)) (le-leb _ _ k.some)
    ∙ ap (λ b. b && list_all (λ b. nat_lt 32 b) text) (le-leb _ _ k.few) ∙ all_by (λ b. nat_lt 32 b) text (λ i below. lt-ltb _ _ (k.each i below))

abbrev pub ends : ℕ → Bool
ends b = b == 10 || b == 13

pub record ValueParts (text : List ℕ) : Type 0 where
  pub few : length text ≤ NAME_BYTES_MAX
  pub each : (k : ℕ) → k < length text → ends (get_or text k 0) ≡ false

not_false : (b : Bool) → not b ≡ true → b ≡ false
not_false true e = absurd (false≢true e)
not_false false e = refl

pub value_parts : (text : List ℕ) → IsValueText text → ValueParts text
value_parts text h =
    let both = and_parts (nat_le (length text) NAME_BYTES_MAX) (not (list_any ends text)) h in
    record { few = leb-true _ _ both.0; each = λ k below. none_at ends text k (not_false _ both.1) below }

pub value_by : (text : List ℕ) → ValueParts text → IsValueText text
value_by text v = ap (λ b. b && not (list_any ends text)) (le-leb _ _ v.few) ∙ ap not (none_by ends text v.each)

-- the front of bytes that pass is a key
pub front_key : (rest : List ℕ) (n : ℕ) → n ≤ length rest → n ≤ KEY_BYTES_MAX → ((k : ℕ) → k < n → 32 < get_or rest k 0) → 0 < n → IsKeyText (take n rest)
front_key rest n within few each some =
    let size : length (take n rest) ≡ n = length-take-le n rest within in
    key_by (take n rest) (record {
      some = omega arith;
      few = omega arith;
      each = λ k below. let in' : k < n = omega arith in let h = each k in' in subst (λ (b : ℕ). 32 < b) (sym (get_or-take n rest k 0 in')) h;
    })

pub key_longest : (rest : List ℕ) (n : ℕ) → n ≤ length rest → n ≤ KEY_BYTES_MAX → ((k : ℕ) → k < n → 32 < get_or rest k 0)
    → (n < length rest → n < KEY_BYTES_MAX → 32 < get_or rest n 0 → ⊥) → IsLongestPrefix IsKeyText rest n
key_longest rest n within few each past =
    counted IsKeyText (λ l. 32 < get_or l 0 0) KEY_BYTES_MAX rest n (λ text h. (key_parts text h).few) (λ text k h below. (key_parts text h).each k below)
    within (front_key rest n within few each) past

pub value_longest : (rest : List ℕ) (n : ℕ) → n ≤ length rest → n ≤ NAME_BYTES_MAX → ((k : ℕ) → k < n → ends (get_or rest k 0) ≡ false)
    → (n < length rest → n < NAME_BYTES_MAX → ends (get_or rest n 0) ≡ false → ⊥) → IsLongestPrefix IsValueText rest n
value_longest rest n within few each past =
    counted IsValueText (λ l. ends (get_or l 0 0) ≡ false) NAME_BYTES_MAX rest n (λ text h. (value_parts text h).few) (λ text k h below. (value_parts text h).each k below)
    within whole past
  where
    size : length (take n rest) ≡ n
    size = length-take-le n rest within

    whole : 0 < n → IsValueText (take n rest)
    whole some = value_by (take n rest) (record {
      few = omega (arith, size);
      each = λ k below. let in' : k < n = omega (arith, size) in ap ends (get_or-take n rest k 0 in') ∙ each k in';
    })

-- a key has no space
pub plain_key : (text : List ℕ) → IsKeyText text → Plain text
plain_key text h = λ k d below.
    let first = and_parts (nat_le 1 (length text)) (nat_le (length text) KEY_BYTES_MAX && list_all (λ b. nat_lt 32 b) text) h in
    let second = and_parts (nat_le (length text) KEY_BYTES_MAX) (list_all (λ b. nat_lt 32 b) text) first.1 in
    let above = ltb-true 32 (get_or text k d) (passes_at (λ b. nat_lt 32 b) text k d second.1 below) in
    ne_eqb (get_or text k d) 32 (λ e. absurd (omega arith))

-- ---- a key, a space and a value

pub search_stops : (bytes : List ℕ) (n : ℕ) → IsLongestPrefix IsKeyText bytes n → (IsKeyText (take n bytes) → n < length bytes → get_or bytes n 0 ≡ 32 → ⊥)
    → IsLongestPrefix IsSearchText bytes n
search_stops bytes n f never =
    stops IsKeyText IsValueText bytes n f plain_key [] refl (λ taken v is.
    let at = space_is bytes (take n bytes) v n is (length-take-le n bytes f.within) in
    never taken at.0 at.1)

pub search_goes_on : (bytes : List ℕ) (n k : ℕ) → IsLongestPrefix IsKeyText bytes n → IsKeyText (take n bytes) → n < length bytes → get_or bytes n 0 ≡ 32
    → IsLongestPrefix IsValueText (drop (n + 1) bytes) k → IsLongestPrefix IsSearchText bytes (n + 1 + k)
search_goes_on bytes n k f taken below is g =
    goes_on IsKeyText IsValueText bytes (take n bytes) (drop (n + 1) bytes) n k (parted_at bytes n below is) (length-take-le n bytes f.within) f taken plain_key [] refl g

-- ---- texts as a command keeps them

abbrev pub kept_key : List ℕ → ℕ → KeyText
kept_key bytes n = record { bytes = bytes; count = n }

pub key_made : (text bytes : List ℕ) (n : ℕ) → IsKeyText text → bytes ≡ text ++ drop (length text) (replicate KEY_BYTES_MAX 0) → n ≡ length text
    → Some (kept_key bytes n) ≡ key_word text
key_made text bytes n h e count =
    ap (λ (l : List ℕ). Some (kept_key l n)) (e ∙ ap (λ (l : List ℕ). text ++ l) (drop-replicate (length text) KEY_BYTES_MAX 0))
    ∙ ap (λ (k : ℕ). Some (kept_key (text ++ replicate (KEY_BYTES_MAX - length text) 0) k)) count
    ∙ sym (ap (λ b. option_map key_of (cond b (Some text) None)) h)

pub value_made : (text bytes : List ℕ) (n : ℕ) → bytes ≡ text ++ drop (length text) (replicate NAME_BYTES_MAX 0) → n ≡ length text
    → ◌≡◌ {A = ValueText} (record { bytes = bytes; count = n }) (value_of text)
value_made text bytes n e count =
    ap (λ (l : List ℕ). record { bytes = l; count = n }) (e ∙ ap (λ (l : List ℕ). text ++ l) (drop-replicate (length text) NAME_BYTES_MAX 0))
    ∙ ap (λ (k : ℕ). record { bytes = text ++ replicate (NAME_BYTES_MAX - length text) 0; count = k }) count
