-- What an expression holds of, and the elements that it chooses.
use Rattle.std.specs.Prelude.{ℕ, Bool, true, false, not, ◌&&◌, ◌||◌, List, [], ◌∷◌, map, filter}
use Rattle.dg_graph.specs.declared.element.Element.{Element}
use Rattle.dg_graph.specs.Elements.{has}
use Rattle.dg_graph.specs.Sets.{unioned}
use Rattle.dg_expr.specs.declared.expression.Word.{Word}
use Rattle.dg_expr.specs.declared.expression.Word.TheVariants as word
use Rattle.dg_expr.specs.Expressions.{instants_of}

-- the first truth turned over
abbrev pub negated : List Bool → List Bool
negated [] = []
negated (a ∷ truths) = not a ∷ truths

-- the first two truths joined to one
abbrev pub joined : (Bool → Bool → Bool) → List Bool → List Bool
joined f [] = []
joined f (a ∷ []) = []
joined f (a ∷ b ∷ truths) = f a b ∷ truths

-- the truths of the expressions that the words are, one after another, by what is true at an instant
abbrev pub truths : (ℕ → Bool) → List Word → List Bool
truths at [] = []
truths at (word.Time t ∷ ws) = at t ∷ truths at ws
truths at (word.Not ∷ ws) = negated (truths at ws)
truths at (word.And ∷ ws) = joined (λ a b. a && b) (truths at ws)
truths at (word.Or ∷ ws) = joined (λ a b. a || b) (truths at ws)

abbrev pub first_of : List Bool → Bool
first_of [] = false
first_of (a ∷ truths) = a

-- the expression holds of the element, with an instant true where its graph has the element
abbrev pub holds : List Word → Element → (ℕ → List Element) → Bool
holds ws x graph = first_of (truths (λ t. has (graph t) x) ws)

-- the elements of any of the sets
abbrev pub all_of : List (List Element) → List Element
all_of [] = []
all_of (set ∷ sets) = unioned set (all_of sets)

-- the elements that are in the graph of some instant of the expression, and for which it holds
abbrev pub chosen : List Word → (ℕ → List Element) → List Element
chosen ws graph = filter (λ x. holds ws x graph) (all_of (map graph (instants_of ws)))
