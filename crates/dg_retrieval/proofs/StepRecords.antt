-- Walks over the records of an index alone: each step takes a record, and each path begins with the empty graph.
use Rattle.std.proofs.Common.{◌≡◌, ℕ, suc, true, false, List as ListOf, [], ◌∷◌, ◌++◌, Ok, length, refl, sym, ap, subst, ◌∙◌, arith}
use Rattle.std.specs.Prelude.{if◌then◌else◌}
use Rattle.std.specs.List.{All, Contains}
use Rattle.std.proofs.lemmas.Bool.{false≢true}
use Rattle.dg_fold.specs.declared.part.Part.{Part}
use Rattle.dg_fold.specs.BytesRead.{AreParts, ColumnBytes, named_along, named_by}
use Rattle.dg_fold.specs.HistoryPaths.{IsGraphOf}
use Rattle.dg_fold.specs.Parts.{beside, deltas_in_part, parts_in}
use Rattle.dg_fold.specs.PathIndependence.{begun_at, enters_held}
use Rattle.dg_plan.specs.TreePaths.{edges_at}
use Rattle.dg_fold.specs.Steps.{names_record, paired, steps_in}
use Rattle.dg_fold.proofs.HistoryPaths.{history_paths_lead}
use Rattle.dg_fold.proofs.LegalHistories.{legal_is_indexed}
use Rattle.dg_graph.specs.declared.element.Columns.{Columns}
use Rattle.dg_graph.specs.declared.element.Element.{Element}
use Rattle.dg_graph.specs.declared.element.Element.TheVariants as element
use Rattle.dg_graph.specs.declared.event.Event.{Event}
use Rattle.dg_graph.specs.Composition.{Composes, Delta, applied}
use Rattle.dg_graph.specs.Elements.{shown}
use Rattle.dg_history.specs.declared.node.NodeId.{NodeId}
use Rattle.dg_history.specs.declared.node.NodeId.TheVariants.{Root}
use Rattle.dg_history.specs.History.{History, events_of, names_of}
use Rattle.dg_history.specs.LegalHistory.{IsLegal}
use Rattle.dg_index.specs.Hierarchy.{set_of}
use Rattle.dg_index.specs.IndexRecords.{column_in, recent_of}
use Rattle.dg_plan.specs.declared.edge.Edge.{Edge}
use Rattle.dg_plan.specs.declared.edge.Via.{Via}
use Rattle.dg_plan.specs.declared.edge.Via.TheVariants as via
use Rattle.dg_plan.specs.HistoryGraph.{all_columns}
use Rattle.dg_plan.specs.IndexGraph.{Ground, arcs_of, edges_of}
use Rattle.dg_plan.specs.Walks.{Leads}
use Rattle.dg_retrieval.proofs.BranchTrees.{all_at}
use Rattle.dg_retrieval.proofs.KeptGraphTrees.{each_edge}

-- ---- all columns

-- all of a set is shown in all columns
pub all_shown : (set : ListOf Element) → shown set all_columns ≡ set
all_shown [] = refl
all_shown (element.Node id ∷ set) = ap (λ t. element.Node id ∷ t) (all_shown set)
all_shown (element.Edge directed id src dst ∷ set) = ap (λ t. element.Edge directed id src dst ∷ t) (all_shown set)
all_shown (element.NodeAttr id key value ∷ set) = ap (λ t. element.NodeAttr id key value ∷ t) (all_shown set)
all_shown (element.EdgeAttr id key value ∷ set) = ap (λ t. element.EdgeAttr id key value ∷ t) (all_shown set)
all_shown (element.Message src dst value ∷ set) = ap (λ t. element.Message src dst value ∷ t) (all_shown set)

-- ---- edges without memory

-- the edge takes a record
abbrev pub TakesRecord : Edge → Type 0
TakesRecord e = names_record e.via ≡ true

-- so does each edge of a graph without memory that is on no base
pub edges_take : (g : Ground) → g.bases ≡ [] → g.memory ≡ false → All TakesRecord (edges_of g)
edges_take g none alone = each_edge g TakesRecord (record {
  now = λ there. absurd (false≢true (sym alone ∙ there));
  base = λ b there. absurd (nothing b (subst (λ (bs : ListOf (ℕ × NodeId)). Contains bs b) none there));
  top = λ h low within. refl;
  list = λ i within. (refl, (refl, (refl, (refl, tt))));
  child = λ h j c some few low high. (refl, (refl, tt));
  recent = λ there. absurd (false≢true (sym alone ∙ there));
})
  where
    nothing : (b : ℕ × NodeId) → Contains [] b → ⊥
    nothing b there = (let h = there.1 in omega arith)

-- such an edge enters no set that is held whole
pub not_held : (v : Via) → names_record v ≡ true → enters_held v ≡ false
not_held via.Now takes = absurd (false≢true takes)
not_held (via.Base handle) takes = absurd (false≢true takes)
not_held (via.Paid key way) takes = refl
not_held (via.Held key way) takes = refl
not_held (via.Recent way) takes = absurd (false≢true takes)

-- a walk of such edges begins with the set of its first node
pub begins_there : (u : NodeId) (walk : ListOf Edge) → All TakesRecord walk → begun_at u walk ≡ u
begins_there u [] all = refl
begins_there u (e ∷ walk) all = ap (λ b. if b then e.to else u) (not_held e.via (all 0 e (omega arith)))

-- what its steps come to is what its parts do, whatever the recent events
pub steps_are_parts : (names : ℕ) (recent : ListOf Event) (bytes : ColumnBytes) (cols : Columns) (walk : ListOf Edge) (parts : ListOf Part) → All TakesRecord walk
    → AreParts bytes cols (named_along walk) parts → steps_in names recent (paired walk parts) ≡ parts_in names parts
steps_are_parts names recent bytes cols [] [] all are = refl
steps_are_parts names recent bytes cols [] (p ∷ parts) all are = elim are [ ]
steps_are_parts names recent bytes cols (e ∷ walk) parts all are =
    by (λ rest there. steps_are_parts names recent bytes cols walk rest (λ i d within. all (suc i) d (omega arith)) there) e.via parts (all 0 e (omega arith)) are
  where
    by : ((rest : ListOf Part) → AreParts bytes cols (named_along walk) rest → steps_in names recent (paired walk rest) ≡ parts_in names rest)
        → (v : Via) (parts : ListOf Part) → names_record v ≡ true → AreParts bytes cols (named_by v ++ named_along walk) parts
        → steps_in names recent (paired (record { from = e.from; to = e.to; weight = e.weight; via = v } ∷ walk) parts) ≡ parts_in names parts
    by more via.Now parts takes are = absurd (false≢true takes)
    by more (via.Base handle) parts takes are = absurd (false≢true takes)
    by more (via.Paid key way) [] takes are = elim are [ ]
    by more (via.Paid key way) (p ∷ parts) takes are = ap (beside (deltas_in_part names p)) (more parts are.1)
    by more (via.Held key way) [] takes are = elim are [ ]
    by more (via.Held key way) (p ∷ parts) takes are = ap (beside (deltas_in_part names p)) (more parts are.1)
    by more (via.Recent way) parts takes are = absurd (false≢true takes)

-- ---- over a history

-- With the columns of the history's records as parts nothing along a walk from the root is damaged, and what they
-- compose to leads from the empty graph to what is shown of the set of the walk's last node.
pub records_lead : (z : History) → IsLegal z → (g : Ground) → IsGraphOf z g → g.bases ≡ [] → g.memory ≡ false → (cols : Columns)
    → (steps : ListOf ℕ) (node : NodeId) → Leads (arcs_of (edges_of g)) Root steps node
    → (parts : ListOf Part) → AreParts (λ key col. column_in z key col) cols (named_along (edges_at (edges_of g) steps)) parts
    → (list : ListOf Delta) × (parts_in (length (names_of z)) parts ≡ Ok list) × ((d : Delta) → Composes d list → shown (applied d []) cols ≡ shown (set_of z.params (events_of z) node) cols)
records_lead z legal g graph none alone cols steps node leads parts are =
    let names : ℕ = length (names_of z) in
    let walk : ListOf Edge = edges_at (edges_of g) steps in
    let all : All TakesRecord walk = all_at TakesRecord (edges_of g) steps (edges_take g none alone) in
    let led = history_paths_lead names z (legal_is_indexed z legal).0 g graph cols Root node steps leads parts are in
    let same : steps_in names (recent_of z.params (events_of z)) (paired walk parts) ≡ parts_in names parts =
    steps_are_parts names (recent_of z.params (events_of z)) (λ key col. column_in z key col) cols walk parts all are in
    let begins : shown [] cols ≡ shown (set_of z.params (events_of z) (begun_at Root walk)) cols =
    ap (λ n. shown (set_of z.params (events_of z) n) cols) (sym (begins_there Root walk all)) in
    (led.0, sym same ∙ led.1, λ d composes. led.2 d composes [] tt begins)
