-- The names of a directory: read at their offsets, one behind another.
use Rattle.std.proofs.Common.{◌≡◌, ℕ, suc, ◌+◌, ◌≤◌, Bool, true, false, not, cond, List, [], ◌∷◌, ◌++◌, length, take, drop, Option, Some, None, is_some, refl, sym, ap, ◌∙◌, append_assoc, append-nil, arith, length-append, length-drop}
use Rattle.std.specs.Prelude.{◌&&◌, nat_le, nat_lt, option_and_then}
use Rattle.std.specs.Int.{from_be_bytes, w16}
use Rattle.std.specs.List.{flat_map}
use Rattle.std.specs.Option.{option_map}
use Rattle.std.proofs.lemmas.Bool.{leb-true, le-ltb, and_parts}
use Rattle.std.proofs.lemmas.List.{take_at}
use Rattle.std.proofs.lemmas.Nat.{from_be_bytes-to_be_bytes_2}
use Rattle.dg_text.specs.declared.limits.TheConstants.{NAME_BYTES_MAX}
use Rattle.dg_graph.specs.Columns.{two}
use Rattle.dg_index.specs.FileOfHistory.{name_bytes}
use Rattle.dg_text.specs.Names.{number_of, is_name, are_new}
use Rattle.dg_index.specs.ImageText.{two_at, name_at, names_at}
use Rattle.dg_index.proofs.ImageTextRanges.{behind}

-- ---- one name

-- a text at an offset, behind a number that says its length
abbrev pub name_with : ℕ → ℕ → ℕ → List ℕ → Option (List ℕ × ℕ)
name_with long at len rest =
    cond (nat_lt long (at + 2)) None (cond (nat_lt long (at + 2 + len)) None (Some (take len rest, at + 2 + len)))

name_is : (bytes : List ℕ) (at : ℕ) → name_at bytes at ≡ name_with (length bytes) at (two_at bytes at) (drop (at + 2) bytes)
name_is bytes at = refl

pub with_room : (long at len : ℕ) (rest : List ℕ) → at + 2 + len ≤ long → name_with long at len rest ≡ Some (take len rest, at + 2 + len)
with_room long at len rest le =
    λ i. cond (le-ltb long (at + 2) (omega (arith, le)) i) None (cond (le-ltb long (at + 2 + len) le i) None (Some (take len rest, at + 2 + len)))

pub name_read : (bytes text rest : List ℕ) (at : ℕ) → length text ≤ NAME_BYTES_MAX → drop at bytes ≡ name_bytes text ++ rest → name_at bytes at ≡ Some (text, at + 2 + length text)
name_read bytes text rest at short is =
    let here : drop at bytes ≡ two (length text) ++ (text ++ rest) = is ∙ append_assoc (two (length text)) text rest in
    let len : two_at bytes at ≡ length text = ap (λ (l : List ℕ). from_be_bytes w16 (take 2 l)) here ∙ ap (from_be_bytes w16) (take_at (two (length text)) (text ++ rest) 2 refl) ∙ from_be_bytes-to_be_bytes_2 (length text) (omega (arith, short)) in
    let next : drop (at + 2) bytes ≡ text ++ rest = behind bytes (two (length text)) (text ++ rest) at (at + 2) refl here in
    let long : at + 2 + length text ≤ length bytes = omega (arith, ap length here, length-drop at bytes, length-append text rest) in
    name_is bytes at ∙ (λ i. name_with (length bytes) at (len i) (next i)) ∙ with_room (length bytes) at (length text) (text ++ rest) long
    ∙ ap (λ (l : List ℕ). Some (l, at + 2 + length text)) (take_at text rest (length text) refl)

-- ---- several names

-- names that are read after one, in front of those
abbrev pub in_front_of : List ℕ → Option (List (List ℕ) × ℕ) → Option (List (List ℕ) × ℕ)
in_front_of text more = option_map (λ (more : List (List ℕ) × ℕ). (text ∷ more.0, more.1)) more

pub names_more : (k : ℕ) (bytes : List ℕ) (at : ℕ) (text : List ℕ) (end : ℕ) → name_at bytes at ≡ Some (text, end) → names_at (suc k) bytes at ≡ in_front_of text (names_at k bytes end)
names_more k bytes at text end e =
    ap (option_and_then (λ (n : List ℕ × ℕ). option_map (λ (more : List (List ℕ) × ℕ). (n.0 ∷ more.0, more.1)) (names_at k bytes n.1))) e

pub names_none : (k : ℕ) (bytes : List ℕ) (at : ℕ) → name_at bytes at ≡ None → names_at (suc k) bytes at ≡ None
names_none k bytes at e =
    ap (option_and_then (λ (n : List ℕ × ℕ). option_map (λ (more : List (List ℕ) × ℕ). (n.0 ∷ more.0, more.1)) (names_at k bytes n.1))) e

abbrev pub AreShort : List (List ℕ) → Type 0
AreShort [] = Unit {0}
AreShort (text ∷ texts) = (length text ≤ NAME_BYTES_MAX) × AreShort texts

pub names_read : (names : List (List ℕ)) (bytes rest : List ℕ) (at : ℕ) → AreShort names → drop at bytes ≡ flat_map name_bytes names ++ rest → names_at (length names) bytes at ≡ Some (names, at + length (flat_map name_bytes names))
names_read [] bytes rest at short is = ap (λ (n : ℕ). Some ([], n)) (omega arith)
names_read (text ∷ names) bytes rest at short is =
    let here : drop at bytes ≡ name_bytes text ++ (flat_map name_bytes names ++ rest) = is ∙ append_assoc (name_bytes text) (flat_map name_bytes names) rest in
    let one = name_read bytes text (flat_map name_bytes names ++ rest) at short.0 here in
    let next : drop (at + 2 + length text) bytes ≡ flat_map name_bytes names ++ rest = behind bytes (name_bytes text) (flat_map name_bytes names ++ rest) at (at + 2 + length text) (omega arith) here in
    let more = names_read names bytes rest (at + 2 + length text) short.1 next in
    let end : at + 2 + length text + length (flat_map name_bytes names) ≡ at + length (flat_map name_bytes (text ∷ names)) = omega (arith, length-append (name_bytes text) (flat_map name_bytes names)) in
    names_more (length names) bytes at text (at + 2 + length text) one ∙ ap (in_front_of text) more ∙ ap (λ (n : ℕ). Some (text ∷ names, n)) end

-- the text may be a name, and is not in the list
abbrev pub is_fresh : List (List ℕ) → List ℕ → Bool
is_fresh names text = is_name text && not (is_some (number_of names text))

-- ---- names that are new

and_assoc : (a b c : Bool) → (a && (b && c)) ≡ ((a && b) && c)
and_assoc true b c = refl
and_assoc false b c = refl

pub new_first : (names : List (List ℕ)) (text : List ℕ) (texts : List (List ℕ)) → are_new names (text ∷ texts) ≡ (is_fresh names text && are_new (names ++ text ∷ []) texts)
new_first names text texts = and_assoc (is_name text) (not (is_some (number_of names text))) (are_new (names ++ text ∷ []) texts)

pub new_append : (names xs ys : List (List ℕ)) → are_new names (xs ++ ys) ≡ (are_new names xs && are_new (names ++ xs) ys)
new_append names [] ys = ap (λ (l : List (List ℕ)). are_new l ys) (sym (append-nil names))
new_append names (x ∷ xs) ys =
    new_first names x (xs ++ ys)
    ∙ ap (λ b. is_fresh names x && b) (new_append (names ++ x ∷ []) xs ys ∙ ap (λ (l : List (List ℕ)). are_new (names ++ x ∷ []) xs && are_new l ys) (append_assoc names (x ∷ []) xs))
    ∙ and_assoc (is_fresh names x) (are_new (names ++ x ∷ []) xs) (are_new (names ++ x ∷ xs) ys)
    ∙ ap (λ b. b && are_new (names ++ x ∷ xs) ys) (sym (new_first names x xs))

pub new_parts : (names xs ys : List (List ℕ)) → are_new names (xs ++ ys) ≡ true → (are_new names xs ≡ true) × (are_new (names ++ xs) ys ≡ true)
new_parts names xs ys e = and_parts (are_new names xs) (are_new (names ++ xs) ys) (sym (new_append names xs ys) ∙ e)

pub new_short : (names texts : List (List ℕ)) → are_new names texts ≡ true → AreShort texts
new_short names [] e = tt
new_short names (text ∷ texts) e =
    let parts = and_parts (is_fresh names text) _ (sym (new_first names text texts) ∙ e) in
    let name = and_parts (is_name text) _ parts.0 in
    let short = and_parts (nat_le (length text) NAME_BYTES_MAX) _ name.0 in
    (leb-true (length text) NAME_BYTES_MAX short.0, new_short (names ++ text ∷ []) texts parts.1)
