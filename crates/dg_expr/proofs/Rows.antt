-- Worked rows, computed by the definitions.
use Rattle.std.proofs.Common.{◌≡◌, ℕ, true, false, cond, List, [], ◌∷◌, Some, None, codes, refl, nat_eq}
use Rattle.std.specs.Fmt.{digits}
use Rattle.dg_graph.specs.declared.element.Element.{Element}
use Rattle.dg_graph.specs.declared.element.Element.TheVariants as element
use Rattle.dg_expr.specs.declared.expression.Word.{Word}
use Rattle.dg_expr.specs.declared.expression.Word.TheVariants as word
use Rattle.dg_expr.specs.Chosen.{chosen}
use Rattle.dg_expr.specs.Expressions.{instants_of, is_expression}
use Rattle.dg_expr.specs.ExpressionGrammar.{expression_of}

-- two nodes as of 20, and an edge between them as of 30
abbrev graph : ℕ → List Element
graph t = cond (nat_eq t 20) (element.Node 1 ∷ element.Node 2 ∷ []) (element.Node 1 ∷ element.Node 2 ∷ element.Edge true 5 1 2 ∷ [])

edge_came_in : chosen (word.And ∷ word.Time 30 ∷ word.Not ∷ word.Time 20 ∷ []) graph ≡ element.Edge true 5 1 2 ∷ []
edge_came_in = refl

nothing_by_not_alone : chosen (word.Not ∷ word.Time 20 ∷ []) graph ≡ []
nothing_by_not_alone = refl

instants_once : instants_of (word.And ∷ word.Time 30 ∷ word.Or ∷ word.Time 20 ∷ word.Time 30 ∷ []) ≡ 30 ∷ 20 ∷ []
instants_once = refl

is_read : expression_of (codes "and 30 not 20") ≡ Some (word.And ∷ word.Time 30 ∷ word.Not ∷ word.Time 20 ∷ [])
unfolding digits
is_read = refl

lacks_one : expression_of (codes "and 20") ≡ None
unfolding digits
lacks_one = refl

has_one_more : expression_of (codes "20 30") ≡ None
unfolding digits
has_one_more = refl

-- nine instants are too many
too_many : expression_of (codes "or 1 or 2 or 3 or 4 or 5 or 6 or 7 or 8 9") ≡ None
unfolding digits
too_many = refl
