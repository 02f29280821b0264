-- What is shown of expressions.
use Rattle.std.specs.Prelude.{◌≡◌, ℕ, List}
use Rattle.dg_graph.specs.declared.element.Columns.{Columns}
use Rattle.dg_graph.specs.declared.element.Element.{Element}
use Rattle.dg_graph.specs.Elements.{IsSet, shown}
use Rattle.dg_expr.specs.declared.expression.Word.{Word}
use Rattle.dg_expr.specs.Chosen.{chosen}

-- no element is chosen that is in none of the graphs: so what is chosen of graphs in some columns is in these columns
abbrev pub ChosenAreShown : Type 0
ChosenAreShown =
    (ws : List Word) (graph : ℕ → List Element) (cols : Columns) → ((t : ℕ) → IsSet (graph t)) → ((t : ℕ) → shown (graph t) cols ≡ graph t)
    → shown (chosen ws graph) cols ≡ chosen ws graph
