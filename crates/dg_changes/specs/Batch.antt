-- What the lines of a batch come to: events and names, or the least line that has a reason.
use Rattle.std.specs.Prelude.{ℕ, List, [], ◌∷◌, Option, Some, None, Result, map, drop, length}
use Rattle.dg_graph.specs.declared.event.Event.{Event}
use Rattle.dg_graph.specs.declared.event.Change.{Change}
use Rattle.dg_changes.specs.ChangeGrammar.{ChangeByText, change_by_text_in, named, change_with}
use Rattle.dg_history.specs.History.{History, Batch, events_of, names_of, span_of, earliest_next}
use Rattle.dg_text.specs.Lines.{ScriptLine}
use Rattle.dg_graph.specs.Replay.{replay}
use Rattle.dg_graph.specs.CompletedChanges.{on_value, completed}

-- the list of names with those of the lines, each line after those before it
abbrev pub names_after : List (List ℕ) → List (Option ChangeByText) → List (List ℕ)
names_after names [] = names
names_after names (None ∷ lines) = names_after names lines
names_after names (Some said ∷ lines) = names_after (named names said.asked) lines

-- the change of each line by the numbers of its names, each line after those before it
abbrev pub changes_after : List (List ℕ) → List (Option ChangeByText) → List (Option Change)
changes_after names [] = []
changes_after names (None ∷ lines) = None ∷ changes_after names lines
changes_after names (Some said ∷ lines) = Some (change_with names said) ∷ changes_after (named names said.asked) lines

-- what these lines come to as the next batch of the history
abbrev pub batch_of : History → List ScriptLine → Result Batch (ℕ × ℕ)
batch_of z lines =
    on_value (λ (events : List Event). record { names = drop (length (names_of z)) (names_after (names_of z) (map change_by_text_in lines)); events = events })
    (completed 1 (earliest_next (span_of (events_of z))) (replay (events_of z)) (changes_after (names_of z) (map change_by_text_in lines)))
