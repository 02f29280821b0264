-- The segment of a batch, as it is owed to the index of a history.
use Rattle.std.specs.Prelude.{◌≡◌, ℕ, zero, suc, ◌+◌, ◌-◌, ◌/◌, ◌^◌, ◌*◌, List, [], length, drop, map, min}
use Rattle.std.specs.List.{flat_map}
use Rattle.dg_graph.specs.declared.element.Element.{Element}
use Rattle.dg_graph.specs.declared.event.Event.{Event}
use Rattle.dg_history.specs.declared.node.NodeId.{NodeId}
use Rattle.dg_history.specs.declared.node.NodeId.TheVariants as node
use Rattle.dg_history.specs.declared.params.Params.{Params}
use Rattle.dg_history.specs.History.{History, events_of, names_of}
use Rattle.dg_graph.specs.Replay.{replay}
use Rattle.dg_index.specs.Hierarchy.{numbers, leaves, set_of}
use Rattle.dg_index.specs.IndexRecords.{recent_of}
use Rattle.dg_index.specs.FileOfHistory.{Segment, segment_of}
use Rattle.dg_index.specs.OpenedIndex.{Opening, opened_of}
use Rattle.dg_index.specs.ImageOfHistory.{IsImageOf}

abbrev pub node_at : ℕ → ℕ → NodeId
node_at zero j = node.Leaf j
node_at (suc h) j = node.Inner (suc h) j

-- The older children of the interior nodes of a height that are due between m and `after` leaves: the children of
-- the first of them that were there before.
abbrev pub older_at : ℕ → ℕ → ℕ → ℕ → List NodeId
older_at k m after zero = []
older_at k m after (suc h) =
    map (node_at h) (numbers (m / k ^ suc h * k + 1) (min (after / k ^ suc h - m / k ^ suc h) 1 * (m / k ^ h - m / k ^ suc h * k)))

-- those of all heights, by height and child
abbrev pub older : ℕ → ℕ → ℕ → List NodeId
older k m after = flat_map (older_at k m after) (numbers 1 after)

-- of each history that the image stands for, whose recent events and current graph these are: the segment is that
-- of the batch of these events, which brings the names behind those of the history
abbrev pub BuildsFor : List ℕ → Opening → List Event → List Element → List Event → List (List ℕ) → Segment → Type 0
BuildsFor image index recent now events names s =
    (z : History) → IsImageOf z image → index ≡ (opened_of z).index → recent ≡ recent_of z.params (events_of z) → now ≡ replay (events_of z)
    → s ≡ segment_of z.params (events_of z) (record { names = drop (length (names_of z)) names; events = events })

-- the sets are those of the older children
abbrev pub AreOlder : Params → List Event → ℕ → List (List Element) → Type 0
AreOlder p before after sets = sets ≡ map (set_of p before) (older p.k (leaves p (length before)) after)
