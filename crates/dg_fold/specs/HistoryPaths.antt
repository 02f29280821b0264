-- Path independence over the index of a history.
use Rattle.std.specs.Prelude.{◌≡◌, ◌<◌, ◌≤◌, ◌^◌, ℕ, List, [], Ok, length}
use Rattle.dg_graph.specs.declared.element.Columns.{Columns}
use Rattle.dg_graph.specs.declared.element.Element.{Element}
use Rattle.dg_graph.specs.Composition.{Delta, Composes, applied}
use Rattle.dg_graph.specs.Elements.{IsSet, shown}
use Rattle.dg_graph.specs.ExactEvents.{AreChangesOf}
use Rattle.dg_columns.specs.Ranges.{EventsFit}
use Rattle.dg_history.specs.declared.node.NodeId.{NodeId}
use Rattle.dg_history.specs.History.{History, events_of}
use Rattle.dg_index.specs.Hierarchy.{leaves, set_of}
use Rattle.dg_index.specs.IndexRecords.{column_in, recent_of}
use Rattle.dg_plan.specs.IndexGraph.{Ground, arcs_of, edges_of}
use Rattle.dg_plan.specs.Walks.{Leads}
use Rattle.dg_fold.specs.declared.part.Part.{Part}
use Rattle.dg_fold.specs.BytesRead.{AreParts, named_along}
use Rattle.dg_fold.specs.PathIndependence.{begun_at}
use Rattle.dg_plan.specs.TreePaths.{edges_at}
use Rattle.dg_fold.specs.Steps.{paired, steps_in}

-- A history whose events are changes, one after another, and can be spelled with so many names, with its index.
pub record IsIndexed (names : ℕ) (z : History) : Type 0 where
  pub names_fit : names < 2 ^ 32
  pub lists : 0 < z.params.l
  pub short : z.params.l ≤ 65536
  pub arity : 1 ≤ z.params.k
  pub few : length (events_of z) ≤ 2 ^ 28
  pub fits : EventsFit names 0 (events_of z)
  pub changes : AreChangesOf [] (events_of z)

-- The graph is that of the index, with any bases, weights, and with the current graph or without.
pub record IsGraphOf (z : History) (g : Ground) : Type 0 where
  pub leaves : g.leaves ≡ leaves z.params (length (events_of z))
  pub arity : g.arity ≡ z.params.k

-- Whatever the walk of the index graph from one node to another, its parts, which hold the columns of the
-- history's records, are in no way damaged, and what they compose to leads from what is shown of the set with
-- which the walk begins to what is shown of the set of its last node.
abbrev pub HistoryPathsLead : Type 0
HistoryPathsLead = (names : ℕ) (z : History) → IsIndexed names z → (g : Ground) → IsGraphOf z g → (cols : Columns)
    → (a b : NodeId) (steps : List ℕ) → Leads (arcs_of (edges_of g)) a steps b
    → (parts : List Part) → AreParts (λ key col. column_in z key col) cols (named_along (edges_at (edges_of g) steps)) parts
    → (list : List Delta) × (steps_in names (recent_of z.params (events_of z)) (paired (edges_at (edges_of g) steps) parts) ≡ Ok list)
    × ((d : Delta) → Composes d list → (set : List Element) → IsSet set
    → shown set cols ≡ shown (set_of z.params (events_of z) (begun_at a (edges_at (edges_of g) steps))) cols
    → shown (applied d set) cols ≡ shown (set_of z.params (events_of z) b) cols)
