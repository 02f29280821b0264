-- The list of names of a history, as a list of texts.
use Rattle.std.specs.Prelude.{ℕ, Bool, true, ◌&&◌, not, List, [], ◌∷◌, ◌++◌, Option, Some, None, is_some, length, position, if◌then◌else◌, nat_le, nat_lt, slice_index_or, ◌==◌, ◌||◌}
use Rattle.std.specs.List.{list_any, list_all}
use Rattle.std.specs.Str.{bytes_eq}
use Rattle.dg_text.specs.declared.limits.TheConstants.{KEY_BYTES_MAX, NAME_BYTES_MAX}

-- the number of a text: the first index in the list that has it
abbrev pub number_of : List (List ℕ) → List ℕ → Option ℕ
number_of names text = position (bytes_eq text) names

-- the list with the text: the same list where it has the text, and else the text last
abbrev pub added : List (List ℕ) → List ℕ → List (List ℕ)
added names text = if is_some (number_of names text) then names else names ++ text ∷ []

abbrev pub number_or : Option ℕ → ℕ → ℕ
number_or None n = n
number_or (Some m) n = m

-- the number of a text in the list with it
abbrev pub number_in : List (List ℕ) → List ℕ → ℕ
number_in names text = number_or (number_of names text) (length names)

-- the text of a name by its number
abbrev pub name_text : List (List ℕ) → ℕ → List ℕ
name_text names n = slice_index_or names n []

-- a text may be a name: it is short, and of one line
abbrev pub is_name : List ℕ → Bool
is_name text = nat_le (length text) NAME_BYTES_MAX && not (list_any (λ b. b == 10 || b == 13) text)

-- a text may be a key: it has a byte, and few, none of them a space or below
abbrev pub is_key : List ℕ → Bool
is_key text = nat_le 1 (length text) && (nat_le (length text) KEY_BYTES_MAX && list_all (λ b. nat_lt 32 b) text)

-- each text may be a name, and is neither in the list nor earlier among them
abbrev pub are_new : List (List ℕ) → List (List ℕ) → Bool
are_new names [] = true
are_new names (text ∷ texts) = is_name text && (not (is_some (number_of names text)) && are_new (names ++ text ∷ []) texts)
