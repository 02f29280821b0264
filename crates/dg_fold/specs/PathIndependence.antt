-- Path independence: whatever the walk through an index, the records along it lead to the set where it ends.
use Rattle.std.specs.Prelude.{◌≡◌, ◌≢◌, ◌<◌, ◌≤◌, ◌+◌, ℕ, Bool, true, false, List, [], ◌∷◌, ◌++◌, map, filter, reverse, length, take, drop, nat_le, Option, Some, None, if◌then◌else◌}
use Rattle.std.specs.List.{All, flat_map}
use Rattle.dg_graph.specs.declared.element.Element.{Element}
use Rattle.dg_graph.specs.declared.element.Columns.{Columns}
use Rattle.dg_graph.specs.declared.event.Event.{Event}
use Rattle.dg_graph.specs.ColumnMerge.{never_fall}
use Rattle.dg_graph.specs.Composition.{Delta, applied, between, reversed, says, composition}
use Rattle.dg_graph.specs.Elements.{IsSet, shown, column_of, asks}
use Rattle.dg_graph.specs.ExactEvents.{effect_of, AreChangesOf}
use Rattle.dg_graph.specs.Replay.{events_until, replay, replay_at}
use Rattle.dg_history.specs.declared.node.Key.{Key}
use Rattle.dg_history.specs.declared.node.NodeId.{NodeId}
use Rattle.dg_history.specs.declared.node.NodeId.TheVariants.{Root}
use Rattle.dg_history.specs.History.{History, events_of}
use Rattle.dg_index.specs.Hierarchy.{leaves, set_of}
use Rattle.dg_index.specs.IndexRecords.{Record, Events, Exact, record_among, recent_of}
use Rattle.dg_delta.specs.Deltas.{applied_in_turn}
use Rattle.dg_net.specs.Lists.{counts}
use Rattle.dg_plan.specs.declared.edge.Edge.{Edge}
use Rattle.dg_plan.specs.declared.edge.Via.{Via}
use Rattle.dg_plan.specs.declared.edge.Via.TheVariants as via
use Rattle.dg_plan.specs.declared.edge.Way.{Way}
use Rattle.dg_plan.specs.declared.edge.Way.TheVariants.{Same, Forward, Back}
use Rattle.dg_plan.specs.IndexGraph.{Ground, arcs_of, edges_of}
use Rattle.dg_plan.specs.TreePaths.{edges_at}
use Rattle.dg_plan.specs.Walks.{Leads}

-- ---- what a record does

-- what leads on over the record; events after the instant do not count, where there is one
abbrev pub forward : Option ℕ → Record → List Delta
forward until (Events events) = map effect_of (filter (counts until) events)
forward until (Exact d) = d ∷ []

-- what leads back over the record
abbrev pub back : Record → List Delta
back (Events events) = map (λ e. reversed (effect_of e)) (reverse events)
back (Exact d) = reversed d ∷ []

-- what a record does to a set, taken in one of three ways, as deltas one after another
abbrev pub taken : Way → Option ℕ → Record → List Delta
taken Same until r = []
taken Forward until r = forward until r
taken Back until r = back r

-- The delta is the composition of the list in the columns that are asked for.
abbrev pub ComposesIn : Columns → Delta → List Delta → Type 0
ComposesIn cols d list = (x : Element) → asks cols (column_of x) ≡ true → says d x ≡ composition list x

-- the deltas, one after another, lead from one set to another
abbrev pub DeltasLead : List Delta → List Element → List Element → Type 0
DeltasLead deltas from to = applied_in_turn deltas from ≡ to

-- ---- what the edges of an index do

-- What the nodes and the keys of an index stand for: a set for each node, a record for each key, and the
-- events after the last list.
pub record Contents : Type 0 where
  pub set : NodeId → List Element
  pub record_of : Key → Record
  pub recent : List Event

-- what the nodes and keys of the index of a history stand for
abbrev pub contents : History → Contents
contents z = record {
  set = set_of z.params (events_of z);
  record_of = record_among z.params (events_of z) z.batches;
  recent = recent_of z.params (events_of z);
}

-- what an edge does, as deltas one after another
abbrev pub via_deltas : Contents → Via → List Delta
via_deltas x via.Now = []
via_deltas x (via.Base handle) = []
via_deltas x (via.Paid key way) = taken way None (x.record_of key)
via_deltas x (via.Held key way) = taken way None (x.record_of key)
via_deltas x (via.Recent way) = taken way None (Events x.recent)

abbrev pub walk_deltas : Contents → List Edge → List Delta
walk_deltas x walk = flat_map (λ e. via_deltas x e.via) walk

-- the edge enters a set that is held whole: the current graph, or a base
abbrev pub enters_held : Via → Bool
enters_held via.Now = true
enters_held (via.Base handle) = true
enters_held (via.Paid key way) = false
enters_held (via.Held key way) = false
enters_held (via.Recent way) = false

-- An edge is sound where its record leads from the set of its tail to the set of its head. One that enters a
-- set that is held whole leaves Root; none enters Root.
pub record IsSoundEdge (x : Contents) (e : Edge) : Type 0 where
  pub leads : enters_held e.via ≡ false → DeltasLead (via_deltas x e.via) (x.set e.from) (x.set e.to)
  pub begins : enters_held e.via ≡ true → e.from ≡ Root
  pub on : e.to ≢ Root

-- ---- walks

-- each step leaves the node that the one before it entered
abbrev pub IsWalk : NodeId → List Edge → NodeId → Type 0
IsWalk u [] v = u ≡ v
IsWalk u (e ∷ walk) v = (e.from ≡ u) × IsWalk e.to walk v

-- the node with whose set a walk begins: where its first step enters a set that is held whole, that one
abbrev pub begun_at : NodeId → List Edge → NodeId
begun_at u [] = u
begun_at u (e ∷ walk) = if enters_held e.via then e.to else u

-- ---- the laws, as they are proved

-- The composition of the records along a walk, in the columns that are asked for, leads from the set with
-- which the walk begins to the set where it ends, as shown in these columns. The set that it is applied to
-- may have more columns.
abbrev pub WalksLead : Type 0
WalksLead = (x : Contents) → ((n : NodeId) → IsSet (x.set n))
    → (walk : List Edge) → All (IsSoundEdge x) walk → (u v : NodeId) → IsWalk u walk v
    → (cols : Columns) (d : Delta) → ComposesIn cols d (walk_deltas x walk)
    → (set : List Element) → IsSet set → shown set cols ≡ shown (x.set (begun_at u walk)) cols
    → shown (applied d set) cols ≡ shown (x.set v) cols

-- The same for an instant: the walk ends at a node whose set is the replay of the first events, and the
-- composition goes on with those of the next events that are up to the instant. All before them are up to
-- it, and all after them are later.
abbrev pub InstantsAreReached : Type 0
InstantsAreReached = (x : Contents) → ((n : NodeId) → IsSet (x.set n))
    → (walk : List Edge) → All (IsSoundEdge x) walk → (u v : NodeId) → IsWalk u walk v
    → (first next last : List Event) (t : ℕ) → x.set v ≡ replay first
    → All (λ e. nat_le e.time t ≡ true) first → All (λ e. t < e.time) last
    → (cols : Columns) (d : Delta) → ComposesIn cols d (walk_deltas x walk ++ forward (Some t) (Events next))
    → (set : List Element) → IsSet set → shown set cols ≡ shown (x.set (begun_at u walk)) cols
    → shown (applied d set) cols ≡ shown (replay_at (first ++ (next ++ last)) t) cols

-- the exact delta leads on from its first set and back from its second
pub record ExactLeads (a b : List Element) : Type 0 where
  pub on : DeltasLead (taken Forward None (Exact (between a b))) a b
  pub back : DeltasLead (taken Back None (Exact (between a b))) b a

-- the events behind the first so many, taken so many at a time, lead from one replay to the next, and back
pub record SliceLeads (events : List Event) (from count : ℕ) : Type 0 where
  pub on : DeltasLead (taken Forward None (Events (take count (drop from events)))) (replay (take from events)) (replay (take (from + count) events))
  pub back : DeltasLead (taken Back None (Events (take count (drop from events)))) (replay (take (from + count) events)) (replay (take from events))

-- exact deltas and slices of a history lead on and back, and a record that is not applied changes nothing
abbrev pub RecordsLead : Type 0
RecordsLead =
    ((a b : List Element) → IsSet a → IsSet b → ExactLeads a b)
    × ((events : List Event) (from count : ℕ) → AreChangesOf [] events → SliceLeads events from count)
    × ((r : Record) (set : List Element) → DeltasLead (taken Same None r) set set)

-- each edge of the graph of an index is sound, whatever its bases and weights and whether the graph after all
-- events is in memory
abbrev pub EdgesAreSound : Type 0
EdgesAreSound = (z : History) (g : Ground) → 1 ≤ z.params.k → AreChangesOf [] (events_of z)
    → g.leaves ≡ leaves z.params (length (events_of z)) → g.arity ≡ z.params.k → All (IsSoundEdge (contents z)) (edges_of g)

-- steps by the numbers of edges are a walk of these edges, which are sound where all are
abbrev pub StepsAreWalks : Type 0
StepsAreWalks = (edges : List Edge) (steps : List ℕ) (a b : NodeId) → Leads (arcs_of edges) a steps b
    → IsWalk a (edges_at edges steps) b × ((x : Contents) → All (IsSoundEdge x) edges → All (IsSoundEdge x) (edges_at edges steps))

-- Of events whose times do not fall, the first so many are up to an instant, and the others are later.
abbrev pub InstantsPart : Type 0
InstantsPart = (events : List Event) (t n : ℕ) → never_fall 0 events ≡ true
    → (n ≤ length (events_until events t) → All (λ e. nat_le e.time t ≡ true) (take n events))
    × (length (events_until events t) ≤ n → All (λ e. t < e.time) (drop n events))
