-- The pool in which graphs are overlaid on the current one, where there is one.
use Rattle.std.specs.Prelude.{◌≡◌, ℕ, List, [], Option, Some, None, Box}
use Rattle.dg_graph.specs.declared.element.Element.{Element}
use Rattle.dg_pool.specs.Graphs.{PoolState, SameGraphs, graph_now, slot_graph}

-- the pool in its box
abbrev pub pool_in : {Z : Type 0} → Option (Box PoolState Z) → Option PoolState
pool_in None = None
pool_in (Some b) = Some b.value

-- a pool without a cell and without a live slot
abbrev pub bare : PoolState
bare = record { rows = []; slots = []; sweep_index = 0 }

-- the pool with its slots; where there is none, no slot is live
abbrev pub overlaid : Option PoolState → PoolState
overlaid None = bare
overlaid (Some pool) = pool

-- the same of the pool in its box
abbrev pub pool_of : {Z : Type 0} → Option (Box PoolState Z) → PoolState
pool_of pool = overlaid (pool_in pool)

-- its current graph is this, where there is a pool
abbrev pub IsOverlayOf : List Element → Option PoolState → Type 0
IsOverlayOf graph None = Unit {0}
IsOverlayOf graph (Some pool) = graph_now pool ≡ graph

-- each slot has the graph that it had
abbrev pub SameSlots : Option PoolState → Option PoolState → Type 0
SameSlots old new = (s : ℕ) → slot_graph (overlaid new) s ≡ slot_graph (overlaid old) s

-- there is a pool where there was one, and no graph of it has changed
abbrev pub SameOverlay : Option PoolState → Option PoolState → Type 0
SameOverlay None None = Unit {0}
SameOverlay None (Some new) = ⊥
SameOverlay (Some old) None = ⊥
SameOverlay (Some old) (Some new) = SameGraphs old new
