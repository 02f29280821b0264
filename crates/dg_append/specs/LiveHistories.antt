-- A history that is kept beside its index, with the pool in which graphs are overlaid on its current one.
use Rattle.std.specs.Prelude.{◌≡◌, ℕ, None}
use Rattle.dg_append.specs.declared.live.Live.{Live}
use Rattle.dg_append.specs.Overlays.{IsOverlayOf, pool_in, pool_of}
use Rattle.dg_pool.specs.Graphs.{slot_graph}
use Rattle.dg_stored.specs.StoredHistory.{IsSoundHistory, index_opening}

-- What is kept of the history is sound, and where there is a pool its current graph is that of the history.
pub record IsLiveHistory (l : Live) : Type 0 where
  pub sound : IsSoundHistory (index_opening l.history.index) l.history.names l.history.now l.history.recent.items
  pub pool : IsOverlayOf l.history.now.graph (pool_in l.pool)

-- There is no index, and no slot of the pool has a graph.
pub record IsForgotten (l : Live) : Type 0 where
  pub index : index_opening l.history.index ≡ None
  pub slots : (s : ℕ) → slot_graph (pool_of l.pool) s ≡ None
