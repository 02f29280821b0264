-- The cells of the elements that events add.
use Rattle.std.proofs.Common.{ℕ, ◌+◌, ◌<◌, List, [], ◌∷◌, ◌++◌, Option, Some, None, IfSome, length, get_or, take, sym, subst}
use Rattle.std.proofs.lemmas.List.{take_more}
use Rattle.dg_graph.specs.declared.element.Element.{Element}
use Rattle.dg_graph.specs.declared.event.Event.{Event}
use Rattle.dg_graph.specs.Effect.{added_by}
use Rattle.dg_cells.specs.Rows.{Row, CellsGrow, HasCell}
use Rattle.dg_pool.specs.Graphs.{HaveCells}
use Rattle.dg_pool.proofs.GrownCells.{has_grown}

some_grown : (a b : List (Option Row)) → CellsGrow a b → (o : Option Element) → IfSome o (HasCell a) → IfSome o (HasCell b)
some_grown a b g None h = h
some_grown a b g (Some x) h = has_grown a b g x h

-- one more event's element has a cell
have_push : (a b : List (Option Row)) → CellsGrow a b → (events : List Event) (e : Event) → HaveCells a events → IfSome (added_by e.body) (HasCell b) → HaveCells b (events ++ e ∷ [])
have_push a b g [] e h there = (there, tt)
have_push a b g (f ∷ events) e h there = (some_grown a b g (added_by f.body) h.0, have_push a b g events e h.1 there)

pub have_next : (a b : List (Option Row)) (events : List Event) (i : ℕ) (d : Event) → i < length events → CellsGrow a b → HaveCells a (take i events) → IfSome (added_by (get_or events i d).body) (HasCell b)
    → HaveCells b (take (i + 1) events)
have_next a b events i d h g have there = subst (HaveCells b) (sym (take_more events i d h)) (have_push a b g (take i events) (get_or events i d) have there)
