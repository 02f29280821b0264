-- The numbers of texts in a front of the names of a history.
use Rattle.std.proofs.Common.{◌≡◌, ℕ, zero, suc, Bool, true, false, not, List, [], ◌∷◌, ◌++◌, Option, Some, None, if◌then◌else◌, length, get_or, slice_get, is_some, refl, sym, ◌∙◌, ap, subst, append_assoc}
use Rattle.std.specs.List.{Contains}
use Rattle.std.proofs.lemmas.Bool.{and_parts, not-true}
use Rattle.std.proofs.lemmas.List.{append-nil}
use Rattle.std.proofs.lemmas.List.Elements.{Contains-get_or}
use Rattle.std.proofs.lemmas.Option.{slice_get_within, get_or_from_slice_get, same_Some}
use Rattle.dg_names.proofs.NameLimitNumbers.{number_stands, no_number}
use Rattle.dg_text.specs.Names.{added, are_new, is_name, name_text, number_in, number_of, number_or}

-- the list goes on
abbrev pub IsFront : List (List ℕ) → List (List ℕ) → Type 0
IsFront old new = (more : List (List ℕ)) × (new ≡ old ++ more)

pub front_itself : (names : List (List ℕ)) → IsFront names names
front_itself names = ([], sym (append-nil names))

pub front_both : (a b c : List (List ℕ)) → IsFront a b → IsFront b c → IsFront a c
front_both a b c f g = (f.0 ++ g.0, g.1 ∙ ap (λ (ns : List (List ℕ)). ns ++ g.0) f.1 ∙ append_assoc a f.0 g.0)

pub added_front : (names : List (List ℕ)) (text : List ℕ) → IsFront names (added names text)
added_front names text = by (is_some (number_of names text))
  where
    by : (b : Bool) → IsFront names (if b then names else names ++ text ∷ [])
    by true = front_itself names
    by false = (text ∷ [], refl)

-- the text stands in the list
abbrev pub Has : List (List ℕ) → List ℕ → Type 0
Has names text = (n : ℕ) × (slice_get names n ≡ Some text)

stays : (xs ys : List (List ℕ)) (n : ℕ) (x : List ℕ) → slice_get xs n ≡ Some x → slice_get (xs ++ ys) n ≡ Some x
stays [] ys n x h = cc
stays (y ∷ xs) ys zero x h = h
stays (y ∷ xs) ys (suc n) x h = stays xs ys n x h

pub stays_in : (old new : List (List ℕ)) (n : ℕ) (text : List ℕ) → IsFront old new → slice_get old n ≡ Some text → slice_get new n ≡ Some text
stays_in old new n text f h = ap (λ (ns : List (List ℕ)). slice_get ns n) f.1 ∙ stays old f.0 n text h

pub has_more : (old new : List (List ℕ)) (text : List ℕ) → IsFront old new → Has old text → Has new text
has_more old new text f h = (h.0, stays_in old new h.0 text f h.1)

at_end : (names : List (List ℕ)) (text : List ℕ) → slice_get (names ++ text ∷ []) (length names) ≡ Some text
at_end [] text = refl
at_end (x ∷ names) text = at_end names text

pub added_has : (names : List (List ℕ)) (text : List ℕ) → Has (added names text) text
added_has names text = by (number_of names text) refl
  where
    by : (o : Option ℕ) → number_of names text ≡ o → Has (if is_some o then names else names ++ text ∷ []) text
    by (Some n) e = (n, number_stands names text n e)
    by None e = (length names, at_end names text)

-- a text that has no number stands nowhere
stands_not : (names : List (List ℕ)) (text : List ℕ) → number_of names text ≡ None → Has names text → ⊥
stands_not names text e h =
    let here : get_or names h.0 text ≡ text = get_or_from_slice_get names h.0 text text h.1 in
    no_number names text e (subst (λ (t : List ℕ). Contains names t) here (Contains-get_or names h.0 text (slice_get_within names h.0 text h.1)))

number_is : (names : List (List ℕ)) (text : List ℕ) → Has names text → slice_get names (number_in names text) ≡ Some text
number_is names text h = by (number_of names text) refl
  where
    by : (o : Option ℕ) → number_of names text ≡ o → slice_get names (number_or o (length names)) ≡ Some text
    by (Some n) e = number_stands names text n e
    by None e = absurd (stands_not names text e h)

none_of : (o : Option ℕ) → is_some o ≡ false → o ≡ None
none_of None e = refl
none_of (Some n) e = absurd cc

-- a new text does not stand among those before it
fresh : (old names : List (List ℕ)) → are_new old names ≡ true → (n : ℕ) (text : List ℕ) → slice_get names n ≡ Some text → Has old text → ⊥
fresh old [] new n text e h = absurd cc
fresh old (x ∷ names) new zero text e h =
    let parts = and_parts (not (is_some (number_of old x))) _ (and_parts (is_name x) _ new).1 in
    let none = none_of (number_of old x) (not-true (is_some (number_of old x)) parts.0) in
    stands_not old x none (subst (Has old) (sym (same_Some x text e)) h)
fresh old (x ∷ names) new (suc n) text e h =
    let parts = and_parts (not (is_some (number_of old x))) _ (and_parts (is_name x) _ new).1 in
    fresh (old ++ x ∷ []) names parts.1 n text e (has_more old (old ++ x ∷ []) text (x ∷ [], refl) h)

-- each text stands once
pub once : (old names : List (List ℕ)) → are_new old names ≡ true → (m n : ℕ) (text : List ℕ) → slice_get names m ≡ Some text → slice_get names n ≡ Some text → m ≡ n
once old [] new m n text e f = absurd cc
once old (x ∷ names) new zero zero text e f = refl
once old (x ∷ names) new zero (suc n) text e f =
    let parts = and_parts (not (is_some (number_of old x))) _ (and_parts (is_name x) _ new).1 in
    absurd (fresh (old ++ x ∷ []) names parts.1 n text f (length old, at_end old x ∙ e))
once old (x ∷ names) new (suc m) zero text e f =
    let parts = and_parts (not (is_some (number_of old x))) _ (and_parts (is_name x) _ new).1 in
    absurd (fresh (old ++ x ∷ []) names parts.1 m text e (length old, at_end old x ∙ f))
once old (x ∷ names) new (suc m) (suc n) text e f =
    let parts = and_parts (not (is_some (number_of old x))) _ (and_parts (is_name x) _ new).1 in
    ap (λ k. suc k) (once (old ++ x ∷ []) names parts.1 m n text e f)

-- The number of a text in a front that has it is its number in all names.
pub number_in_front : (now names : List (List ℕ)) (text : List ℕ) (n : ℕ) → are_new [] names ≡ true → IsFront now names → Has now text
    → slice_get names n ≡ Some text → number_in now text ≡ n
number_in_front now names text n new f h at =
    once [] names new (number_in now text) n text (stays_in now names (number_in now text) text f (number_is now text h)) at

-- each new text may be a name
pub new_is_name : (old names : List (List ℕ)) → are_new old names ≡ true → (n : ℕ) (text : List ℕ) → slice_get names n ≡ Some text → is_name text ≡ true
new_is_name old [] new n text e = absurd cc
new_is_name old (x ∷ names) new zero text e = ap is_name (sym (same_Some x text e)) ∙ (and_parts (is_name x) _ new).0
new_is_name old (x ∷ names) new (suc n) text e =
    let parts = and_parts (not (is_some (number_of old x))) _ (and_parts (is_name x) _ new).1 in
    new_is_name (old ++ x ∷ []) names parts.1 n text e

-- the text of the number that a text of a front has
pub text_in_front : (now names : List (List ℕ)) (text : List ℕ) → IsFront now names → Has now text → name_text names (number_in now text) ≡ text
text_in_front now names text f h =
    get_or_from_slice_get names (number_in now text) text [] (stays_in now names (number_in now text) text f (number_is now text h))
