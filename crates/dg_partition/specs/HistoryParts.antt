-- The parts of a history: each is a history of its own.
use Rattle.std.specs.Prelude.{ℕ, List, [], ◌∷◌, length}
use Rattle.dg_graph.specs.declared.event.Event.{Event}
use Rattle.dg_history.specs.History.{Batch, History, events_of, names_of}
use Rattle.dg_history.specs.declared.form.Form.TheVariants as form
use Rattle.dg_partition.specs.Owners.{events_of_part}
use Rattle.dg_partition.specs.Cuts.{cut}

-- batches of these events, of which the first brings the names
abbrev pub batches_of : List (List ℕ) → List (List Event) → List Batch
batches_of names [] = []
batches_of names (events ∷ more) = record { names = names; events = events } ∷ batches_of [] more

-- the batches of these events, cut greedily
abbrev pub cut_batches : List (List ℕ) → List Event → List Batch
cut_batches names events = batches_of names (cut (length events) events)

-- Part i of p of a history: its parameters, the second form, the events that belong to the part, in their order, and all
-- names in the first batch. Without an event it has no batch and no name.
abbrev pub part_of : History → ℕ → ℕ → History
part_of z i p = record {
  params = z.params;
  form = form.Two;
  batches = cut_batches (names_of z) (events_of_part p i (events_of z));
}
