-- Path independence over the index of a history, along the paths of a tree and on to an instant.
use Rattle.std.specs.Prelude.{◌≡◌, ◌≢◌, ℕ, true, List as ListOf, Ok, length, is_some}
use Rattle.std.specs.List.{All, Contains}
use Rattle.std.specs.Map.{lookup}
use Rattle.dg_graph.specs.declared.element.Column.{Column}
use Rattle.dg_graph.specs.declared.element.Columns.{Columns}
use Rattle.dg_graph.specs.declared.element.Element.{Element}
use Rattle.dg_graph.specs.ColumnMerge.{never_fall}
use Rattle.dg_graph.specs.Composition.{Delta, applied}
use Rattle.dg_graph.specs.Elements.{IsSet, shown}
use Rattle.dg_graph.specs.Replay.{replay_at}
use Rattle.dg_history.specs.declared.node.Key.{Key}
use Rattle.dg_history.specs.declared.node.NodeId.{NodeId}
use Rattle.dg_history.specs.declared.node.NodeId.TheVariants.{List}
use Rattle.dg_history.specs.History.{History, events_of, names_of}
use Rattle.dg_history.specs.Keys.{same_key}
use Rattle.dg_history.specs.LegalHistory.{IsLegal}
use Rattle.dg_index.specs.Hierarchy.{set_of}
use Rattle.dg_index.specs.ImageOfHistory.{IsImageOf}
use Rattle.dg_index.specs.IndexRecords.{column_in, recent_of}
use Rattle.dg_index.specs.OpenedIndex.{Opening, opened_of}
use Rattle.dg_plan.specs.declared.edge.Edge.{Edge}
use Rattle.dg_plan.specs.declared.edge.Way.{Way}
use Rattle.dg_plan.specs.IndexGraph.{Ground, edges_of}
use Rattle.dg_plan.specs.InstantPoint.{point}
use Rattle.dg_fold.specs.declared.part.Part.{Part}
use Rattle.dg_fold.specs.BytesRead.{AreParts, named_along}
use Rattle.dg_fold.specs.Ends.{LeadsUntil, last_in}
use Rattle.dg_fold.specs.HistoryPaths.{IsIndexed, IsGraphOf}
use Rattle.dg_fold.specs.Steps.{paired, steps_in}
use Rattle.dg_records.specs.ColumnReads.{kept_in}

-- ---- histories

-- The events of a legal history are changes, one after another, and can be spelled with its names; their times do
-- not fall.
abbrev pub LegalIsIndexed : Type 0
LegalIsIndexed = (z : History) → IsLegal z → IsIndexed (length (names_of z)) z × (never_fall 0 (events_of z) ≡ true)

-- ---- trees

-- no base holds the graph of a list
abbrev pub HoldsNoList : Ground → Type 0
HoldsNoList g = All (λ b. (i : ℕ) → b.1 ≢ List i) g.bases

-- What some edges of the graph of an index come to with parts that hold the columns of the history's records:
-- nothing is damaged, neither along the edges nor of a node's own events. And the tree's path to the point of an
-- instant, with the point's own events up to it, leads from what is shown of the set with which the path begins to
-- what is shown of the graph as of the instant. A path that ends in a list has to read it, hence no base may
-- hold its graph.
pub record TreeReaches (names : ℕ) (z : History) (g : Ground) (cols : Columns) (walk : ListOf Edge) (parts : ListOf Part) : Type 0 where
  pub whole : (list : ListOf Delta) × (steps_in names (recent_of z.params (events_of z)) (paired walk parts) ≡ Ok list)
  pub ends : (v : NodeId) (t : ℕ) → (list : ListOf Delta) × (last_in names (recent_of z.params (events_of z)) parts v t ≡ Ok list)
  pub reached : HoldsNoList g → (t : ℕ) (begun : NodeId) (d : Delta)
      → LeadsUntil names (recent_of z.params (events_of z)) parts (paired walk parts) (point z.params (events_of z) t) t begun d
      → (set : ListOf Element) → IsSet set → shown set cols ≡ shown (set_of z.params (events_of z) begun) cols
      → shown (applied d set) cols ≡ shown (replay_at (events_of z) t) cols

-- Whatever the edges, of the graph of the index of a history whose times do not fall.
abbrev pub HistoryTreesReach : Type 0
HistoryTreesReach = (names : ℕ) (z : History) → IsIndexed names z → never_fall 0 (events_of z) ≡ true → (g : Ground) → IsGraphOf z g → (cols : Columns)
    → (walk : ListOf Edge) → All (Contains (edges_of g)) walk → (parts : ListOf Part) → AreParts (λ key col. column_in z key col) cols (named_along walk) parts
    → TreeReaches names z g cols walk parts

-- ---- images

-- the index keeps the record of this key
abbrev pub KeepsKey : Opening → Key → Type 0
KeepsKey o key = is_some (lookup (same_key key) o.records) ≡ true

-- What an image of a history keeps are the columns of the history's records; so parts of what it keeps are
-- parts of these.
abbrev pub KeptPartsAreTheRecords : Type 0
KeptPartsAreTheRecords = (z : History) (image : ListOf ℕ) → IsImageOf z image
    → ((key : Key) → KeepsKey (opened_of z).index key → (col : Column) → kept_in image (opened_of z).index key col ≡ column_in z key col)
    × ((cols : Columns) (named : ListOf (Key × Way)) → All (λ n. KeepsKey (opened_of z).index n.0) named
    → (parts : ListOf Part) → AreParts (kept_in image (opened_of z).index) cols named parts → AreParts (λ key col. column_in z key col) cols named parts)
