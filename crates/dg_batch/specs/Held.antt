-- What a session lives on: a history, the pool in which graphs are overlaid on its current one, and the handles on these.
use Rattle.std.specs.Prelude.{ℕ, List, length}
use Rattle.std.specs.List.{All}
use Rattle.dg_append.specs.LiveHistories.{IsLiveHistory}
use Rattle.dg_append.specs.Overlays.{pool_of}
use Rattle.dg_ask.specs.HeldIndex.{HasNodes}
use Rattle.dg_ask.specs.KeptAdjacency.{KeepsAdjacency}
use Rattle.dg_batch.specs.declared.held.Held.{Held}
use Rattle.dg_graph.specs.declared.element.Element.{Element}
use Rattle.dg_handles.specs.Handles.{IsTied, slot_graphs}
use Rattle.dg_retrieval.specs.NamesThere.{NamesAreThere}
use Rattle.dg_stored.specs.StoredHistory.{index_opening}

-- the graphs of the live handles, in their order
abbrev pub graphs_held : Held → List (List Element)
graphs_held h = slot_graphs (pool_of h.live.pool) h.handles.slots

-- Each live handle has a slot of the pool, and no other slot is live; the names of its graph are among the first so many;
-- the nodes that handles hold are those of the index; and the adjacencies that are kept are those of the handles' graphs.
pub record HoldsHandles (name_count : ℕ) (h : Held) : Type 0 where
  pub tied : IsTied (pool_of h.live.pool) h.handles
  pub nodes : HasNodes (index_opening h.live.history.index) h.handles.table
  pub adjacency : KeepsAdjacency h.handles.table (graphs_held h) h.adjacency
  pub named : All (NamesAreThere name_count) (graphs_held h)

-- The history is sound, with its current graph in the pool where there is one, and the handles are held over it.
pub record IsHeld (h : Held) : Type 0 where
  pub live : IsLiveHistory h.live
  pub handles : HoldsHandles (length h.live.history.names) h
