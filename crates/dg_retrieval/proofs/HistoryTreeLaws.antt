-- The law of path independence over the index of a history, as a retrieval uses it.
use Rattle.std.proofs.Common.{◌≡◌, ℕ, List as ListOf, Ok, length, subst, sym}
use Rattle.std.proofs.lemmas.List.Elements.{All-contains, All-weaker}
use Rattle.dg_history.specs.declared.node.Key.{Key}
use Rattle.dg_history.specs.declared.node.NodeId.TheVariants.{Root}
use Rattle.dg_fold.proofs.RecordFits.{records_fit}
use Rattle.dg_fold.proofs.HistoryPaths.{edges_paired, node_set, parts_hold}
use Rattle.dg_fold.proofs.HistoryTrees.{history_trees_reach}
use Rattle.dg_fold.proofs.PathIndependenceTrees.{trees_lead}
use Rattle.dg_fold.proofs.LegalHistories.{legal_is_indexed}
use Rattle.dg_fold.proofs.PathIndependenceEdges.{edges_are_sound}
use Rattle.std.specs.List.{All, Contains}
use Rattle.dg_fold.specs.declared.part.Part.{Part}
use Rattle.dg_fold.specs.BytesRead.{AreParts, named_along}
use Rattle.dg_fold.specs.Ends.{LeadsUntil}
use Rattle.dg_fold.specs.HistoryPaths.{IsGraphOf}
use Rattle.dg_fold.specs.HistoryTrees.{HoldsNoList}
use Rattle.dg_fold.specs.Parts.{RecordFits}
use Rattle.dg_fold.specs.PathIndependence.{IsSoundEdge, contents}
use Rattle.dg_fold.specs.Steps.{BeginsWith, paired, steps_in}
use Rattle.dg_fold.specs.Trees.{LeadsTo}
use Rattle.dg_graph.specs.declared.element.Columns.{Columns}
use Rattle.dg_graph.specs.declared.element.Element.{Element}
use Rattle.dg_graph.specs.Composition.{Delta, applied}
use Rattle.dg_graph.specs.Elements.{IsSet, shown}
use Rattle.dg_graph.specs.Replay.{replay_at}
use Rattle.dg_history.specs.declared.node.NodeId.{NodeId}
use Rattle.dg_history.specs.History.{History, events_of, names_of}
use Rattle.dg_history.specs.LegalHistory.{IsLegal}
use Rattle.dg_index.specs.Hierarchy.{set_of}
use Rattle.dg_index.specs.IndexRecords.{column_in, record_among, recent_of}
use Rattle.dg_plan.specs.declared.edge.Edge.{Edge}
use Rattle.dg_plan.specs.IndexGraph.{Ground, edges_of}
use Rattle.dg_plan.specs.InstantPoint.{point}

-- With the columns of the history's records as parts nothing along the edges is damaged.
abbrev pub IsWholeAlong : ℕ → History → ListOf Edge → ListOf Part → Type 0
IsWholeAlong names z walk parts = (list : ListOf Delta) × (steps_in names (recent_of z.params (events_of z)) (paired walk parts) ≡ Ok list)

-- The tree's path to the point of an instant leads to the graph as of the instant.
abbrev pub ReachesInstants : ℕ → History → Columns → ListOf Edge → ListOf Part → Type 0
ReachesInstants names z cols walk parts =
    (t : ℕ) (begun : NodeId) (d : Delta) → LeadsUntil names (recent_of z.params (events_of z)) parts (paired walk parts) (point z.params (events_of z) t) t begun d
    → (set : ListOf Element) → IsSet set → shown set cols ≡ shown (set_of z.params (events_of z) begun) cols → shown (applied d set) cols ≡ shown (replay_at (events_of z) t) cols

-- The tree's path to a node leads to the set of the node.
abbrev pub ReachesNodes : ℕ → History → Columns → ListOf Edge → ListOf Part → Type 0
ReachesNodes names z cols walk parts =
    (v : NodeId) (d : Delta) (led : LeadsTo names (recent_of z.params (events_of z)) (paired walk parts) v d) (set : ListOf Element) → BeginsWith cols (contents z) Root led.0 set
    → shown (applied d set) cols ≡ shown (set_of z.params (events_of z) v) cols

-- So it is over the graph of a legal history, where no base holds the graph of a list.
pub trees_reach : (z : History) → IsLegal z → (g : Ground) → IsGraphOf z g → HoldsNoList g → (cols : Columns) (walk : ListOf Edge) → All (Contains (edges_of g)) walk
    → (parts : ListOf Part) → AreParts (λ key col. column_in z key col) cols (named_along walk) parts
    → IsWholeAlong (length (names_of z)) z walk parts × ReachesInstants (length (names_of z)) z cols walk parts
trees_reach z legal g graph none cols walk among parts are =
    let indexed = legal_is_indexed z legal in
    let reaches = history_trees_reach (length (names_of z)) z indexed.0 indexed.1 g graph cols walk among parts are in
    (reaches.whole, reaches.reached none)

-- And with whatever bases the paths lead to the nodes.
pub nodes_reach : (z : History) → IsLegal z → (g : Ground) → IsGraphOf z g → (cols : Columns) (walk : ListOf Edge) → All (Contains (edges_of g)) walk
    → (parts : ListOf Part) → AreParts (λ key col. column_in z key col) cols (named_along walk) parts → ReachesNodes (length (names_of z)) z cols walk parts
nodes_reach z legal g graph cols walk among parts are v d led set begins =
    let names : ℕ = length (names_of z) in
    let indexed = (legal_is_indexed z legal).0 in
    let all = edges_are_sound z g indexed.arity indexed.changes graph.leaves graph.arity in
    let sound : All (IsSoundEdge (contents z)) walk = All-weaker (Contains (edges_of g)) (IsSoundEdge (contents z)) (λ e there. All-contains (IsSoundEdge (contents z)) (edges_of g) e all there) walk among in
    let fits : (k : Key) → RecordFits names (record_among z.params (events_of z) z.batches k) = records_fit names z indexed.fits indexed.few indexed.lists indexed.short in
    trees_lead names indexed.names_fit cols (contents z) (node_set z) (paired walk parts) (subst (All (IsSoundEdge (contents z))) (sym (edges_paired walk parts)) sound)
    (parts_hold names z cols fits walk parts are) v d led set begins
