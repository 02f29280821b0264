-- The changes of `workload`: numbers after a seed, and what each change asks for by its number.
use Rattle.std.specs.Prelude.{ℕ, zero, suc, ◌+◌, ◌*◌, ◌/◌, ◌%◌, ◌^◌, ◌==◌, List, [], ◌∷◌, ◌++◌, Option, Some, Result, if◌then◌else◌, codes, decimal, drop, length}
use Rattle.dg_graph.specs.declared.event.Event.{Event}
use Rattle.dg_graph.specs.declared.event.What.TheVariants.{AddNode, AddEdge, RemoveEdge}
use Rattle.dg_graph.specs.CompletedChanges.{completed, on_value}
use Rattle.dg_graph.specs.Replay.{replay}
use Rattle.dg_changes.specs.Batch.{changes_after, names_after}
use Rattle.dg_changes.specs.ChangeGrammar.{ChangeByText, WhatByText, Plain, Sets_node, Unsets_node, Sets_edge, Unsets_edge}
use Rattle.dg_history.specs.History.{History, Batch, earliest_next, events_of, names_of, span_of}

-- the number behind a number, of 64 bits
abbrev pub next_number : ℕ → ℕ
next_number x = (x * 6364136223846793005 + 1442695040888963407) % 2 ^ 64

-- the part of a number that a change goes by
abbrev pub part_of : ℕ → ℕ
part_of x = x / 2 ^ 33

-- a letter and a number
abbrev pub lettered : List ℕ → ℕ → List ℕ
lettered letter n = letter ++ decimal n

-- What the change of this kind asks for in the group g of eight changes, by the part r of its number. A group adds the
-- nodes 2g + 1 and 2g + 2 and an edge from the first of them to a node that is there, sets values of nodes and of this
-- edge, and takes a value away; an odd group takes its edge away.
abbrev pub generated_what : ℕ → ℕ → ℕ → WhatByText
generated_what kind g r =
    if kind == 0 then Plain (AddNode (2 * g + 1))
    else (if kind == 1 then Plain (AddNode (2 * g + 2))
    else (if kind == 2 then Plain (AddEdge (r % 2 == 0) (g + 1) (2 * g + 1) (r % (2 * g + 2) + 1))
    else (if kind == 3 then Sets_node (2 * g + 1) (codes "kind") (lettered (codes "v") (r % 5))
    else (if kind == 4 then Sets_node (r % (2 * g + 2) + 1) (codes "kind") (lettered (codes "v") (r % 5))
    else (if kind == 5 then Sets_edge (g + 1) (codes "w") (decimal (r % 100))
    else (if kind == 6
    then (if g % 2 == 0 then Unsets_node (2 * g + 1) (codes "kind") else Unsets_edge (g + 1) (codes "w"))
    else (if g % 2 == 0 then Sets_node (2 * g + 2) (codes "name") (lettered (codes "n") g) else Plain (RemoveEdge (g + 1)))))))))

-- the change number i, from 0, by its number x
abbrev pub generated_change : ℕ → ℕ → ChangeByText
generated_change i x = record { time = 1000 + i / 2; asked = generated_what (i % 8) (i / 8) (part_of x) }

-- so many changes from number i on, behind the number x
abbrev pub generated_from : ℕ → ℕ → ℕ → List (Option ChangeByText)
generated_from zero i x = []
generated_from (suc count) i x = Some (generated_change i (next_number x)) ∷ generated_from count (i + 1) (next_number x)

-- the first changes of a seed
abbrev pub generated : ℕ → ℕ → List (Option ChangeByText)
generated seed count = generated_from count 0 seed

-- what these changes come to as the next batch of the history
abbrev pub batch_of_changes : History → List (Option ChangeByText) → Result Batch (ℕ × ℕ)
batch_of_changes z changes =
    on_value (λ (events : List Event). record { names = drop (length (names_of z)) (names_after (names_of z) changes); events = events })
    (completed 1 (earliest_next (span_of (events_of z))) (replay (events_of z)) (changes_after (names_of z) changes))
