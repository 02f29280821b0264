-- What one sorted list of elements has more often than another.
use Rattle.std.specs.Prelude.{Bool, false, List, [], ◌∷◌, ◌++◌, if◌then◌else◌}
use Rattle.dg_graph.specs.declared.element.Element.{Element}
use Rattle.dg_graph.specs.Elements.{before, same}

-- the list begins with the element
abbrev pub stands_first : Element → List Element → Bool
stands_first x [] = false
stands_first x (y ∷ ys) = same x y

-- the element, where the rest of a sorted list does not have it once more
abbrev pub last_of : Element → List Element → List Element
last_of x rest = if stands_first x rest then [] else x ∷ []

-- each element of a sorted list, once
abbrev pub each_once : List Element → List Element
each_once [] = []
each_once (x ∷ xs) = last_of x xs ++ each_once xs

-- Each element that stands in the first list more often than in the second, once. Both lists are sorted:
-- one element of each list that are the same are left out together.
abbrev pub surplus : List Element → List Element → List Element
surplus [] ys = []
surplus (x ∷ xs) [] = each_once (x ∷ xs)
surplus (x ∷ xs) (y ∷ ys) =
    if before x y then last_of x xs ++ surplus xs (y ∷ ys) else (if same x y then surplus xs ys else surplus (x ∷ xs) ys)
