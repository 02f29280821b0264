-- Slots that are given to new graphs.
use Rattle.std.specs.Prelude.{◌≡◌, ℕ, true, false, List, Some, None, map}
use Rattle.dg_graph.specs.declared.element.Columns.{Columns}
use Rattle.dg_graph.specs.Elements.{shown}
use Rattle.dg_handles.specs.Handles.{HandlesState, at_slot, slot_graphs, held_by, slot_of}
use Rattle.dg_pool.specs.declared.slots.Base.{Base}
use Rattle.dg_pool.specs.declared.slots.Base.TheVariants as base
use Rattle.dg_pool.specs.Changes.{AreDistinct}
use Rattle.dg_pool.specs.Graphs.{PoolState, SlotGraph, graph_now, is_listed, slot_graph}
use Rattle.dg_retrieval.specs.Beginnings.{GraphLead, begun_with, led_to}
use Rattle.dg_retrieval.specs.declared.graph_lead.Beginning.{Beginning}
use Rattle.dg_retrieval.specs.declared.graph_lead.Beginning.TheVariants as begins

-- what a graph rests on that begins so: the current graph, or the slot of the handle
abbrev pub resting : HandlesState → Beginning → Base
resting h begins.Nothing = base.Nothing
resting h begins.Now = base.Now
resting h (begins.Base handle) = at_slot (slot_of handle h.table h.slots)

-- the graph that begins so, cut to the columns, with what it rests on
abbrev pub graph_begun : HandlesState → PoolState → Columns → Beginning → SlotGraph
graph_begun h p cols begins = record {
  base = resting h begins;
  cols = cols;
  members = shown (begun_with (graph_now p) (held_by h.table (slot_graphs p h.slots)) begins) cols;
}

-- the graph to which the lead comes, with what it rests on
abbrev pub graph_led : HandlesState → PoolState → Columns → GraphLead → SlotGraph
graph_led h p cols lead = record {
  base = resting h lead.begins;
  cols = cols;
  members = led_to (graph_now p) (held_by h.table (slot_graphs p h.slots)) cols lead;
}

-- a slot that was not live has this graph, and no other graph has changed
pub record IsAttached (old new : PoolState) (s : ℕ) (graph : SlotGraph) : Type 0 where
  pub fresh : slot_graph old s ≡ None
  pub holds : slot_graph new s ≡ Some graph
  pub others : (t : ℕ) → (t ≡ s → ⊥) → slot_graph new t ≡ slot_graph old t
  pub now : graph_now new ≡ graph_now old

-- slots that were not live have these graphs, and no other graph has changed
pub record AreAttached (old new : PoolState) (slots : List ℕ) (graphs : List SlotGraph) : Type 0 where
  pub fresh : (s : ℕ) → is_listed slots s ≡ true → slot_graph old s ≡ None
  pub apart : AreDistinct slots
  pub hold : map (slot_graph new) slots ≡ map (λ g. Some g) graphs
  pub others : (s : ℕ) → is_listed slots s ≡ false → slot_graph new s ≡ slot_graph old s
  pub now : graph_now new ≡ graph_now old
