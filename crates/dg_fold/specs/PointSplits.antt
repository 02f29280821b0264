-- Where the point of an instant splits the events of a history.
use Rattle.std.specs.Prelude.{◌≡◌, ◌<◌, ℕ, true, List as ListOf, [], ◌++◌, nat_le}
use Rattle.std.specs.List.{All}
use Rattle.dg_graph.specs.declared.event.Event.{Event}
use Rattle.dg_graph.specs.ColumnMerge.{never_fall}
use Rattle.dg_graph.specs.Replay.{replay}
use Rattle.dg_history.specs.declared.node.NodeId.{NodeId}
use Rattle.dg_history.specs.declared.node.NodeId.TheVariants.{Root, Now, Recent, Leaf, List, Inner}
use Rattle.dg_history.specs.History.{History, events_of}
use Rattle.dg_index.specs.Hierarchy.{set_of}
use Rattle.dg_index.specs.IndexRecords.{closed_list, recent_of}
use Rattle.dg_plan.specs.InstantPoint.{point}

-- the events that lead on from a node of the index, where it has any of its own
abbrev pub next_of : History → NodeId → ListOf Event
next_of z Root = []
next_of z Now = []
next_of z Recent = recent_of z.params (events_of z)
next_of z (Leaf j) = []
next_of z (List i) = closed_list z.params (events_of z) i
next_of z (Inner h j) = []

-- The events of the history are some up to the instant, whose replay is the set of the node; then these; and
-- then some that are later than the instant.
pub record SplitsAt (z : History) (t : ℕ) (v : NodeId) (next : ListOf Event) : Type 0 where
  pub first : ListOf Event
  pub last : ListOf Event
  pub set : set_of z.params (events_of z) v ≡ replay first
  pub up_to : All (λ e. nat_le e.time t ≡ true) first
  pub later : All (λ e. t < e.time) last
  pub whole : first ++ (next ++ last) ≡ events_of z

-- at its point an instant splits the events, with those of the point between
abbrev pub PointsSplit : Type 0
PointsSplit = (z : History) (t : ℕ) → never_fall 0 (events_of z) ≡ true → 0 < z.params.l
    → SplitsAt z t (point z.params (events_of z) t) (next_of z (point z.params (events_of z) t))
