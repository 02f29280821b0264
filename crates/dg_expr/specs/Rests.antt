-- What is left of sets that one walk goes through together.
use Rattle.std.specs.Prelude.{ℕ, ◌≡◌, Bool, true, false, List, [], ◌∷◌, ◌+◌, ◌++◌, map, filter, if◌then◌else◌, length, IsTrue, get_or, Option, Some, None, nat_eq, suc}
use Rattle.std.specs.List.{list_any, AllByRecursion}
use Rattle.dg_graph.specs.declared.element.Element.{Element}
use Rattle.dg_graph.specs.Elements.{has, same, before}
use Rattle.dg_expr.specs.declared.expression.Word.{Word}
use Rattle.dg_expr.specs.declared.expression.Word.TheVariants as word
use Rattle.dg_expr.specs.Chosen.{all_of, truths, first_of}

-- the set begins with the element
abbrev pub begins : Element → List Element → Bool
begins x [] = false
begins x (y ∷ set) = same x y

-- the set without its first element, where that is this one
abbrev pub past : Element → List Element → List Element
past x [] = []
past x (y ∷ set) = if same x y then set else y ∷ set

-- the element is not behind the first one of the set
abbrev pub IsNotPast : Element → List Element → Type 0
IsNotPast x [] = Unit {0}
IsNotPast x (y ∷ set) = before y x ≡ false

-- the first element of the set
abbrev pub first_in : List Element → Option Element
first_in [] = None
first_in (x ∷ set) = Some x

-- the lesser of two elements, where there are such
abbrev pub lesser : Option Element → Option Element → Option Element
lesser None b = b
lesser (Some x) None = Some x
lesser (Some x) (Some y) = if before y x then Some y else Some x

-- the least of the first elements of the sets; where there is none, all are empty
abbrev pub IsLeast : Option Element → List (List Element) → Type 0
IsLeast None sets = AllByRecursion (λ set. set ≡ []) sets
IsLeast (Some x) sets = AllByRecursion (IsNotPast x) sets × (list_any (begins x) sets ≡ true)

-- what is true at a place
abbrev pub true_at : List Bool → ℕ → Bool
true_at there i = get_or there i false

-- the instants with the first of these behind them, unless there is none or it is among them
abbrev pub added : List ℕ → List ℕ → List ℕ
added old [] = old
added old (t ∷ ts) = if list_any (λ u. nat_eq u t) old then old else old ++ t ∷ []

-- the first place of the number among these, or one past their end
abbrev pub place_of : ℕ → List ℕ → ℕ
place_of t [] = 0
place_of t (u ∷ ts) = if nat_eq u t then 0 else suc (place_of t ts)

-- the word with the place of its instant among these in the instant's stead
abbrev pub placed_word : List ℕ → Word → Word
placed_word ts (word.Time t) = word.Time (place_of t ts)
placed_word ts word.Not = word.Not
placed_word ts word.And = word.And
placed_word ts word.Or = word.Or

-- what the words hold of an element that is, or is not, in the set of each place
abbrev pub is_chosen : List Word → List Bool → Bool
is_chosen ws there = first_of (truths (true_at there) ws)

-- the elements of any of the sets, of which the words over places hold
abbrev pub selected : List Word → List (List Element) → List Element
selected ws sets = filter (λ x. is_chosen ws (map (λ set. has set x) sets)) (all_of sets)

-- how many elements are left
abbrev pub left_in : List (List Element) → ℕ
left_in [] = 0
left_in (set ∷ sets) = length set + left_in sets
