-- How counts of elements go on, and the counts that a pool keeps.
use Rattle.std.specs.Prelude.{◌≡◌, ℕ, ◌+◌, ◌-◌, List, Some, length, slice_index_or, if◌then◌else◌}
use Rattle.dg_graph.specs.declared.element.Columns.{Columns}
use Rattle.dg_graph.specs.declared.element.Element.{Element}
use Rattle.dg_graph.specs.declared.element.Element.TheVariants.{Node, Edge, NodeAttr, EdgeAttr, Message}
use Rattle.dg_query.specs.declared.answers.Counts.{Counts}
use Rattle.dg_query.specs.Queries.{counts_of}
use Rattle.dg_pool.specs.declared.slots.Base.{Base}
use Rattle.dg_pool.specs.declared.slots.Base.TheVariants as base
use Rattle.dg_pool.specs.Graphs.{PoolState, IsPool, SlotGraph, slot_graph, graph_now}

-- how many there are of the element's kind
abbrev pub kind_count : Counts → Element → ℕ
kind_count c (Node id) = c.nodes
kind_count c (Edge directed id src dst) = c.edges
kind_count c (NodeAttr id key value) = c.node_attrs
kind_count c (EdgeAttr id key value) = c.edge_attrs
kind_count c (Message src dst value) = c.messages

-- one more of the element's kind
abbrev pub one_more : Counts → Element → Counts
one_more c (Node id) = record c { nodes = c.nodes + 1 }
one_more c (Edge directed id src dst) = record c { edges = c.edges + 1 }
one_more c (NodeAttr id key value) = record c { node_attrs = c.node_attrs + 1 }
one_more c (EdgeAttr id key value) = record c { edge_attrs = c.edge_attrs + 1 }
one_more c (Message src dst value) = record c { messages = c.messages + 1 }

-- one less
abbrev pub one_less : Counts → Element → Counts
one_less c (Node id) = record c { nodes = c.nodes - 1 }
one_less c (Edge directed id src dst) = record c { edges = c.edges - 1 }
one_less c (NodeAttr id key value) = record c { node_attrs = c.node_attrs - 1 }
one_less c (EdgeAttr id key value) = record c { edge_attrs = c.edge_attrs - 1 }
one_less c (Message src dst value) = record c { messages = c.messages - 1 }

abbrev pub no_elements : Counts
no_elements = record { nodes = 0; edges = 0; node_attrs = 0; edge_attrs = 0; messages = 0 }

-- the counts of a graph that is cut to the columns
abbrev pub counts_shown : Counts → Columns → Counts
counts_shown c cols = record {
  nodes = c.nodes;
  edges = c.edges;
  node_attrs = if cols.nodes_attr then c.node_attrs else 0;
  edge_attrs = if cols.edges_attr then c.edge_attrs else 0;
  messages = if cols.transient then c.messages else 0;
}

-- the counts with this number
abbrev pub counts_at : List Counts → ℕ → Counts
counts_at counts s = slice_index_or counts s no_elements

-- the counts that are kept of a base
abbrev pub base_counts : List Counts → Base → Counts
base_counts counts base.Nothing = no_elements
base_counts counts base.Now = counts_at counts 0
base_counts counts (base.Slot b) = counts_at counts b.0

-- The first counts are those of the current graph, and those with a live slot's number are those of its
-- members.
pub record AreCountsOf (p : PoolState) (counts : List Counts) : Type 0 where
  pub len : length counts ≡ 128
  pub now : counts_at counts 0 ≡ counts_of (graph_now p)
  pub slots : (s : ℕ) (g : SlotGraph) → slot_graph p s ≡ Some g → counts_at counts s ≡ counts_of g.members

-- what a pool keeps true
pub record IsCountedPool (p : PoolState) (counts : List Counts) : Type 0 where
  pub pool : IsPool p
  pub counted : AreCountsOf p counts
