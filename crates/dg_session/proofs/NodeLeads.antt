-- What leads to the set of a node over a history leads to no message.
use Rattle.std.proofs.Common.{◌≡◌, ℕ, zero, suc, ◌<◌, Bool, true, false, cond, List as ListOf, [], ◌∷◌, Result, Ok, get_or, refl, sym, ◌∙◌, ap, subst, arith}
use Rattle.std.specs.Prelude.{filter}
use Rattle.std.proofs.lemmas.Bool.{false≢true, or_right}
use Rattle.dg_fold.specs.declared.part.Part.{Part}
use Rattle.dg_fold.specs.BytesRead.{AreParts, ColumnBytes, IsPartOf, named_along}
use Rattle.dg_fold.specs.Parts.{parts_in}
use Rattle.dg_graph.proofs.Sets.{has_first}
use Rattle.dg_graph.specs.Columns.{same_column}
use Rattle.dg_graph.specs.Composition.{Composes, Delta, applied}
use Rattle.dg_graph.specs.declared.element.Column.{Column}
use Rattle.dg_graph.specs.declared.element.Column.TheVariants.{Structure, NodeAttr, EdgeAttr, Transient}
use Rattle.dg_graph.specs.declared.element.Columns.{Columns}
use Rattle.dg_graph.specs.declared.element.Element.{Element}
use Rattle.dg_graph.specs.Elements.{asks, column_of, has, same, shown}
use Rattle.dg_handles.specs.Handles.{with_messages}
use Rattle.dg_history.specs.declared.node.Key.{Key}
use Rattle.dg_history.specs.declared.node.NodeId.{NodeId}
use Rattle.dg_history.specs.declared.node.NodeId.TheVariants.{Root}
use Rattle.dg_history.specs.History.{History, events_of}
use Rattle.dg_index.specs.Hierarchy.{set_of}
use Rattle.dg_index.specs.IndexRecords.{column_in}
use Rattle.dg_index.specs.OpenedIndex.{Opening}
use Rattle.dg_plan.specs.declared.edge.Edge.{Edge}
use Rattle.dg_plan.specs.declared.edge.Way.{Way}
use Rattle.dg_plan.specs.IndexGraph.{arcs_of}
use Rattle.dg_plan.specs.TreePaths.{edges_at}
use Rattle.dg_plan.specs.Walks.{IsPlan, Leads}
use Rattle.dg_retrieval.specs.KeptGraph.{index_edges, index_ground}
use Rattle.dg_retrieval.specs.NodeSets.{IsIndexOver, IsLedAlong}
use Rattle.dg_retrieval.proofs.KeptGraphRecords.{graph_of_index}
use Rattle.dg_retrieval.proofs.KeptGraphWalks.{walk_records}
use Rattle.dg_retrieval.proofs.StepRecords.{records_lead}
use Rattle.dg_session.proofs.NodeSets.{node_quiet}

-- ---- what is shown of a set of a node

-- two tests that agree on the elements of the set
pub same_filter : (p q : Element → Bool) (set : ListOf Element) → ((x : Element) → has set x ≡ true → p x ≡ q x) → filter p set ≡ filter q set
same_filter p q [] agree = refl
same_filter p q (x ∷ set) agree =
    let rest = same_filter p q set (λ y there. agree y (or_right (same y x) (has set y) there)) in
    λ i. cond (agree x (has_first x set) i) (x ∷ rest i) (rest i)

asks_same : (cols : Columns) (col : Column) → same_column col Transient ≡ false → asks (with_messages cols) col ≡ asks cols col
asks_same cols Structure other = refl
asks_same cols NodeAttr other = refl
asks_same cols EdgeAttr other = refl
asks_same cols Transient other = absurd (false≢true (sym other))

-- the messages show nothing more of it
pub shown_same : (z : History) (node : NodeId) (cols : Columns) → shown (set_of z.params (events_of z) node) (with_messages cols) ≡ shown (set_of z.params (events_of z) node) cols
shown_same z node cols =
    same_filter (λ x. asks (with_messages cols) (column_of x)) (λ x. asks cols (column_of x)) (set_of z.params (events_of z) node)
    (λ x there. asks_same cols (column_of x) (node_quiet z.params (events_of z) node x there))

-- ---- the parts of a plan

-- parts have no messages, whether they are asked for or not
part_same : (bytes : ColumnBytes) (cols : Columns) (named : Key × Way) (p : Part) → IsPartOf bytes cols named p → IsPartOf bytes (with_messages cols) named p
part_same bytes cols named p is = record { key = is.key; way = is.way; until = is.until; columns = is.columns }

parts_same : (bytes : ColumnBytes) (cols : Columns) (keys : ListOf (Key × Way)) (parts : ListOf Part) → AreParts bytes cols keys parts → AreParts bytes (with_messages cols) keys parts
parts_same bytes cols [] [] are = tt
parts_same bytes cols [] (p ∷ parts) are = absurd are
parts_same bytes cols (k ∷ keys) [] are = absurd are
parts_same bytes cols (k ∷ keys) (p ∷ parts) are = (part_same bytes cols k p are.0, parts_same bytes cols keys parts are.1)

leads_from : (edges : ListOf Edge) (node : NodeId) (steps : ListOf ℕ) → IsPlan (arcs_of edges) (Root ∷ []) node steps → Leads (arcs_of edges) Root steps node
leads_from edges node steps plan = by plan.walk.0 plan.walk.1.0 plan.walk.1.1 plan.walk.1.2 plan.walk.2
  where
    by : (a : NodeId) (k : ℕ) → k < 1 → get_or (Root ∷ []) k a ≡ a → Leads (arcs_of edges) a steps node → Leads (arcs_of edges) Root steps node
    by a zero within is leads = subst (λ (n : NodeId). Leads (arcs_of edges) n steps node) (sym is) leads
    by a (suc k) within is leads = absurd (omega arith)

-- what is led to, with the messages, is what is shown of the set
pub led_with_messages : (z : History) (image : ListOf ℕ) (o : Opening) (names : ℕ) (cols : Columns) (node : NodeId) (d : Delta) → IsIndexOver z image o names
    → IsLedAlong names image o cols (index_edges o cols false []) node d → shown (applied d []) (with_messages cols) ≡ shown (set_of z.params (events_of z) node) cols
led_with_messages z image o names cols node d over led =
    let edges : ListOf Edge = index_edges o cols false [] in
    let steps : ListOf ℕ = led.0 in
    let parts : ListOf Part = led.2 in
    let list : ListOf Delta = led.4 in
    let are = walk_records o cols false [] edges refl steps (edges_at edges steps) refl z image over.stands over.opened parts led.3 in
    let to = records_lead z over.stands.legal (index_ground o cols false []) (graph_of_index z o over.opened cols false []) refl refl (with_messages cols) steps node (leads_from edges node steps led.1) parts
    (parts_same (λ key col. column_in z key col) cols (named_along (edges_at edges steps)) parts are) in
    let one : (let r : Result (ListOf Delta) _ = Ok list in r) ≡ Ok to.0 = sym led.5 ∙ ap (λ n. parts_in n parts) over.names ∙ to.1 in
    let same_list : list ≡ to.0 = cc in
    to.2 d (subst (Composes d) same_list led.6) ∙ shown_same z node cols
