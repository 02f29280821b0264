-- The recent events of an index: those of the pieces of the last segment that has a list and of all later ones.
use Rattle.std.specs.Prelude.{ℕ, ◌+◌, ◌-◌, ◌*◌, ◌==◌, List, [], ◌∷◌, ◌++◌, length, if◌then◌else◌}
use Rattle.dg_graph.specs.declared.event.Event.{Event}
use Rattle.dg_history.specs.declared.params.Params.{Params}
use Rattle.dg_history.specs.History.{Batch}
use Rattle.dg_index.specs.declared.entry.BatchEntry.{BatchEntry}
use Rattle.dg_index.specs.Hierarchy.{leaves}
use Rattle.dg_index.specs.IndexRecords.{piece_of}

-- the pieces of these batches on top of those kept so far: a batch that closes a list leaves no earlier one
abbrev pub recent_pieces : Params → List Event → List (List Event) → List Batch → List (List Event)
recent_pieces p before kept [] = kept
recent_pieces p before kept (b ∷ batches) =
    recent_pieces p (before ++ b.events)
    ((if leaves p (length before + length b.events) == leaves p (length before) then kept else []) ++ piece_of p before b ∷ []) batches

-- a piece that is recent: the number of its segment, how many events it has, and its batch
pub record RecentPiece : Type 0 where
  pub number : ℕ
  pub count : ℕ
  pub batch : BatchEntry

-- the same, by what an index keeps of its batches
abbrev pub pieces_ahead : Params → ℕ → ℕ → List RecentPiece → List BatchEntry → List RecentPiece
pieces_ahead p number count kept [] = kept
pieces_ahead p number count kept (b ∷ batches) =
    let after = leaves p (count + b.events) in
    pieces_ahead p (number + 1) (count + b.events)
    ((if after == leaves p count then kept else [])
    ++ record { number = number; count = b.events - (after * p.l - count); batch = b } ∷ []) batches
