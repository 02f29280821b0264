-- The algebra of sets of elements.
use Rattle.std.specs.Prelude.{List, [], ◌∷◌, not, filter}
use Rattle.dg_graph.specs.declared.element.Element.{Element}
use Rattle.dg_graph.specs.Elements.{has, put}

-- the elements of either set
abbrev pub unioned : List Element → List Element → List Element
unioned a [] = a
unioned a (x ∷ b) = put x (unioned a b)

-- the elements of both sets
abbrev pub met : List Element → List Element → List Element
met a b = filter (λ x. has b x) a

-- the elements of the first set that are not in the second
abbrev pub without_all : List Element → List Element → List Element
without_all a b = filter (λ x. not (has b x)) a
