-- The pool in which graphs are overlaid on the current one, where there is one, and what becomes of it.
use Rattle.std.proofs.Common.{◌≡◌, ◌∙◌, List, Option, Some, None, refl, ap}
use Rattle.std.specs.Prelude.{IfSome, is_some}
use Rattle.dg_append.specs.BatchNets.{led_by}
use Rattle.dg_append.specs.KeptBatches.{GoesOnBy, GoesPast, LeadPast}
use Rattle.dg_append.specs.Overlays.{IsOverlayOf, SameOverlay, SameSlots}
use Rattle.dg_append.specs.declared.nets.Nets.{Nets}
use Rattle.dg_cells.specs.Rows.{is_current}
use Rattle.dg_graph.specs.declared.element.Element.{Element}
use Rattle.dg_graph.specs.declared.event.Event.{Event}
use Rattle.dg_graph.specs.Replay.{replay_from}
use Rattle.dg_pool.proofs.GraphSets.{picked_set}
use Rattle.dg_pool.specs.Graphs.{PoolState, graph_now}

-- ---- no graph has changed

pub same_itself : (pool : Option PoolState) → SameOverlay pool pool
same_itself None = tt
same_itself (Some pool) = record { now = refl; slots = λ s. refl }

-- then no slot's has
pub same_slots : (old new : Option PoolState) → SameOverlay old new → SameSlots old new
same_slots None None same = λ s. refl
same_slots None (Some new) same = absurd same
same_slots (Some old) None same = absurd same
same_slots (Some old) (Some new) same = same.slots

-- and the pool is one over the same graph
pub overlay_stays : (graph : List Element) (old new : Option PoolState) → IsOverlayOf graph old → SameOverlay old new → IsOverlayOf graph new
overlay_stays graph None None is same = tt
overlay_stays graph None (Some new) is same = absurd same
overlay_stays graph (Some old) None is same = absurd same
overlay_stays graph (Some old) (Some new) is same = same.now ∙ is

-- ---- the current graph goes on

-- nets that lead past events take the pool past them
pub goes_past : (events : List Event) (nets : Option Nets) (old middle new : Option PoolState) → SameOverlay old middle → IfSome nets (λ n. LeadPast n events) → GoesOnBy nets middle new → GoesPast events old new
goes_past events None None None None same leads on = tt
goes_past events None None None (Some new) same leads on = absurd on
goes_past events None None (Some middle) new same leads on = absurd same
goes_past events None (Some old) None new same leads on = absurd same
goes_past events None (Some old) (Some middle) None same leads on = absurd on
goes_past events None (Some old) (Some middle) (Some new) same leads on = absurd on
goes_past events (Some nets) None None None same leads on = absurd on
goes_past events (Some nets) None None (Some new) same leads on = absurd on
goes_past events (Some nets) None (Some middle) new same leads on = absurd same
goes_past events (Some nets) (Some old) None new same leads on = absurd same
goes_past events (Some nets) (Some old) (Some middle) None same leads on = absurd on
goes_past events (Some nets) (Some old) (Some middle) (Some new) same leads on = (
  on.0 ∙ ap (λ (set : List Element). led_by nets.earlier nets.later set) same.now ∙ leads (graph_now old) (picked_set is_current old.rows),
  λ s. on.1 s ∙ same.slots s,
)

-- a pool over a graph that goes past events is one over the graph past them, and its slots stay
pub overlay_past : (events : List Event) (graph : List Element) (old new : Option PoolState) → IsOverlayOf graph old → GoesPast events old new → IsOverlayOf (replay_from graph events) new
overlay_past events graph None None is past = tt
overlay_past events graph None (Some new) is past = absurd past
overlay_past events graph (Some old) None is past = absurd past
overlay_past events graph (Some old) (Some new) is past = past.0 ∙ ap (λ (set : List Element). replay_from set events) is

pub slots_past : (events : List Event) (old new : Option PoolState) → GoesPast events old new → SameSlots old new
slots_past events None None past = λ s. refl
slots_past events None (Some new) past = absurd past
slots_past events (Some old) None past = absurd past
slots_past events (Some old) (Some new) past = past.1

-- and there is a pool where there was one
pub pool_past : (events : List Event) (old new : Option PoolState) → GoesPast events old new → is_some new ≡ is_some old
pool_past events None None past = refl
pool_past events None (Some new) past = absurd past
pool_past events (Some old) None past = absurd past
pool_past events (Some old) (Some new) past = refl
