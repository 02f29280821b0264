-- The changes of a batch that are kept, beside the lines that they were read from.
use Rattle.std.specs.Prelude.{◌≡◌, ℕ, List, ◌∷◌, ◌++◌, Option, Some, None, Result, map}
use Rattle.dg_append.specs.declared.batch.Batch.{Batch}
use Rattle.dg_append.specs.declared.front.Front.{Front}
use Rattle.dg_append.specs.declared.front.Front.TheVariants.{Whole, Form, Unkept}
use Rattle.dg_graph.specs.CompletedChanges.{completed}
use Rattle.dg_graph.specs.declared.element.Element.{Element}
use Rattle.dg_graph.specs.declared.event.Change.{Change}
use Rattle.dg_graph.specs.declared.event.Event.{Event}
use Rattle.dg_index.specs.OpenedIndex.{Opening, earliest_in}

-- the changes as lines that are changes
abbrev pub lines : List Change → List (Option Change)
lines changes = map (λ (c : Change). Some c) changes

-- these lines are the changes, or begin with them and then a line that is no change
abbrev pub IsFront : Front → List Change → List (Option Change) → Type 0
IsFront Whole changes all = all ≡ lines changes
IsFront Form changes all = (rest : List (Option Change)) × (all ≡ lines changes ++ None ∷ rest)
IsFront Unkept changes all = Unit {0}

-- what the lines come to as the batch behind an index with this current graph, all those that begin with the changes
abbrev pub ComeTo : Opening → List Element → Batch → Result (List Event) (ℕ × ℕ) → Type 0
ComeTo o graph batch due =
    (all : List (Option Change)) → IsFront batch.front batch.changes.items all → completed 1 (earliest_in 0 o.batches) graph all ≡ due
