-- What the handles that hold nodes list, and the edges by which they serve.
use Rattle.std.proofs.Common.{◌≡◌, ℕ, Bool, true, false, cond, List as ListOf, [], ◌∷◌, Option, Some, map, refl, sym, ◌∙◌, ap, subst, ◌-◌}
use Rattle.std.specs.Prelude.{◌==◌, ◌&&◌, ◌||◌, filter, if◌then◌else◌, not, unwrap_or, Result, Ok, Err, IfOk}
use Rattle.std.specs.List.{All, Contains, flat_map}
use Rattle.std.proofs.lemmas.Bool.{false≢true, or_right}
use Rattle.std.proofs.lemmas.Option.{none-some}
use Rattle.std.proofs.lemmas.List.Elements.{All-append, All-cons, All-contains, All-filter, All-from_recursion, All-head, All-map, All-nil, All-tail, All-contains_itself}
use Rattle.dg_fold.proofs.HistoryPaths.{node_set}
use Rattle.dg_graph.specs.declared.element.Column.{Column}
use Rattle.dg_graph.specs.declared.element.Column.TheVariants.{Structure, NodeAttr, EdgeAttr, Transient}
use Rattle.dg_graph.specs.declared.element.Columns.{Columns}
use Rattle.dg_graph.specs.declared.element.Element.{Element}
use Rattle.dg_graph.specs.declared.event.Event.{Event}
use Rattle.dg_graph.specs.Columns.{same_column}
use Rattle.dg_graph.specs.Elements.{IsSet, asks, column_of, has, same, shown}
use Rattle.dg_graph.proofs.Sets.{IsSet-filter, has_first}
use Rattle.dg_handles.specs.Handles.{BeginsOn, HoldsNode, graph_among, held_by}
use Rattle.dg_history.specs.declared.node.NodeId.{NodeId}
use Rattle.dg_history.specs.declared.node.NodeId.TheVariants as node
use Rattle.dg_history.specs.History.{History, events_of}
use Rattle.dg_index.specs.Hierarchy.{numbers, set_of}
use Rattle.dg_index.specs.IndexRecords.{heights}
use Rattle.dg_index.specs.OpenedIndex.{Opening}
use Rattle.dg_machine.specs.declared.stands.Stands.{Stands}
use Rattle.dg_machine.specs.declared.stands.Shown.TheVariants.{Base}
use Rattle.dg_machine.specs.MachineState.{elements, stands_at}
use Rattle.dg_machine.specs.Planning.{includes}
use Rattle.dg_plan.specs.declared.edge.Edge.{Edge}
use Rattle.dg_plan.specs.declared.edge.Via.{Via}
use Rattle.dg_plan.specs.declared.edge.Via.TheVariants as via
use Rattle.dg_plan.specs.IndexGraph.{Ground, base_edge, child_edges, edge, edges_of, first_edges, inner_edges, is_root, level_edges, list_edges, recent_edges, top_edge}
use Rattle.dg_plan.proofs.EnteredRecordTrees.{all_flat}
use Rattle.dg_records.specs.declared.fault.RecordFault.{RecordFault}
use Rattle.dg_retrieval.specs.Beginnings.{GraphLead}
use Rattle.dg_retrieval.specs.declared.retrieval.Retrieved.{Retrieved}
use Rattle.dg_retrieval.specs.Beginnings.{IsOffered, leads_in}
use Rattle.dg_retrieval.specs.Retrieval.{AreHeld}
use Rattle.dg_session.proofs.NodeSets.{IsNoMessage, node_quiet}
use Rattle.dg_session.specs.Retrievals.{LeadsToInstants}

-- ---- the edges of bases

-- the edge is that of one of the bases, where it leads on by one
abbrev IsOf : ListOf (ℕ × NodeId) → Edge → Via → Type 0
IsOf bases e (via.Base h) = Contains bases (h, e.to)
IsOf bases e via.Now = Unit {0}
IsOf bases e (via.Paid key way) = Unit {0}
IsOf bases e (via.Held key way) = Unit {0}
IsOf bases e (via.Recent way) = Unit {0}

abbrev IsServed : ListOf (ℕ × NodeId) → Edge → Type 0
IsServed bases e = IsOf bases e e.via

now_served : (bases : ListOf (ℕ × NodeId)) (m : Bool) → All (IsServed bases) (cond m (edge node.Root node.Now 0 via.Now ∷ []) [])
now_served bases true = All-from_recursion (IsServed bases) (edge node.Root node.Now 0 via.Now ∷ []) (tt, tt)
now_served bases false = All-nil (IsServed bases)

recent_served : (bases : ListOf (ℕ × NodeId)) (leaves : ℕ) (m : Bool) → All (IsServed bases) (cond m (recent_edges leaves) [])
recent_served bases leaves true = All-from_recursion (IsServed bases) (recent_edges leaves) (tt, (tt, (tt, (tt, tt))))
recent_served bases leaves false = All-nil (IsServed bases)

level_served : (g : Ground) (h : ℕ) → All (IsServed g.bases) (level_edges g.weight g.leaves g.arity h)
level_served g h =
    all_flat (IsServed g.bases) (inner_edges g.weight g.arity (h - 1)) _ (λ j there.
    all_flat (IsServed g.bases) (child_edges g.weight (h - 1) j) _ (λ c in'.
    All-from_recursion (IsServed g.bases) (child_edges g.weight (h - 1) j c) (tt, (tt, tt))))

all_served : (g : Ground) → All (IsServed g.bases) (edges_of g)
all_served g =
    All-filter (λ (e : Edge). not (is_root e.to)) (IsServed g.bases) _
    (All-append (IsServed g.bases) (first_edges g) _
    (All-append (IsServed g.bases) (cond g.memory (edge node.Root node.Now 0 via.Now ∷ []) []) _ (now_served g.bases g.memory)
    (All-append (IsServed g.bases) (map base_edge g.bases) _ (All-map (IsServed g.bases) base_edge g.bases (All-contains_itself g.bases)) (All-map (IsServed g.bases) (top_edge g.weight) (heights g.arity g.leaves) (λ k d within. tt))))
    (All-append (IsServed g.bases) (flat_map (list_edges g.weight) (numbers 0 g.leaves)) _
    (all_flat (IsServed g.bases) (list_edges g.weight) (numbers 0 g.leaves) (λ i c. All-from_recursion (IsServed g.bases) (list_edges g.weight i) (tt, (tt, (tt, (tt, tt))))))
    (All-append (IsServed g.bases) (flat_map (level_edges g.weight g.leaves g.arity) (heights g.arity g.leaves)) _
    (all_flat (IsServed g.bases) (level_edges g.weight g.leaves g.arity) (heights g.arity g.leaves) (λ h c. level_served g h)) (recent_served g.bases g.leaves g.memory))))

-- an edge by a base is that of a base of the graph
pub base_of_edge : (g : Ground) (e : Edge) (h : ℕ) → Contains (edges_of g) e → e.via ≡ via.Base h → Contains g.bases (h, e.to)
base_of_edge g e h there is = subst (IsOf g.bases e) is (All-contains (IsServed g.bases) (edges_of g) e (all_served g) there)

-- ---- what a handle lists

found : (z : History) (h : ℕ) (table : ListOf (ℕ × Stands)) (s : Stands) → stands_at h table ≡ Some s
    → graph_among h table (map (λ (e : ℕ × Stands). elements z e.1) table) ≡ Some (elements z s)
found z h [] s is = absurd (none-some s is)
found z h (e ∷ table) s is = by (e.0 == h) (found z h table s) is
  where
    by : (here : Bool) → (stands_at h table ≡ Some s → graph_among h table (map (λ (e : ℕ × Stands). elements z e.1) table) ≡ Some (elements z s))
        → (if here then Some e.1 else stands_at h table) ≡ Some s
        → (if here then Some (elements z e.1) else graph_among h table (map (λ (e : ℕ × Stands). elements z e.1) table)) ≡ Some (elements z s)
    by true rest e_is = let same : e.1 ≡ s = cc in ap (λ (x : Stands). Some (elements z x)) same
    by false rest e_is = rest e_is

-- a handle that holds a node lists its set in the handle's columns
pub held_is : (z : History) (table : ListOf (ℕ × Stands)) (cols : Columns) (h : ℕ) (v : NodeId) (holds : HoldsNode table cols (h, v))
    → held_by table (map (λ (e : ℕ × Stands). elements z e.1) table) h ≡ shown (set_of z.params (events_of z) v) holds.0
held_is z table cols h v holds = ap (λ (o : Option (ListOf Element)). unwrap_or o []) (found z h table (record { what = Base v; cols = holds.0 }) holds.1)

-- ---- what is shown of it

-- what passes the stronger of two tests passes both
twice : (p q : Element → Bool) (set : ListOf Element) → ((x : Element) → has set x ≡ true → p x ≡ true → q x ≡ true) → filter p (filter q set) ≡ filter p set
twice p q [] stronger = refl
twice p q (x ∷ set) stronger = by (p x) (q x) refl refl (stronger x (has_first x set)) (twice p q set (λ y there. stronger y (or_right (same y x) (has set y) there)))
  where
    by : (a b : Bool) → p x ≡ a → q x ≡ b → (p x ≡ true → q x ≡ true) → filter p (filter q set) ≡ filter p set
        → filter p (if q x then x ∷ filter q set else filter q set) ≡ (if p x then x ∷ filter p set else filter p set)
    by a true is_a is_b both rest =
        ap (λ (b : Bool). filter p (if b then x ∷ filter q set else filter q set)) is_b
        ∙ ap (λ (xs : ListOf Element). if p x then x ∷ xs else xs) rest
    by true false is_a is_b both rest = absurd (false≢true (sym is_b ∙ both is_a))
    by false false is_a is_b both rest =
        ap (λ (b : Bool). filter p (if b then x ∷ filter q set else filter q set)) is_b ∙ rest
        ∙ sym (ap (λ (b : Bool). if b then x ∷ filter p set else filter p set) is_a)

-- columns that include others show what they show of an element that is no message
asks_more : (all cols : Columns) → includes all cols ≡ true → (x : Element) → IsNoMessage x → asks cols (column_of x) ≡ true → asks all (column_of x) ≡ true
asks_more all cols inc x quiet h = by (column_of x) quiet h
  where
    serves : (a b : Bool) → (a || not b) ≡ true → b ≡ true → a ≡ true
    serves true b e h = refl
    serves false true e h = e
    serves false false e h = h

    left : (a b : Bool) → (a && b) ≡ true → a ≡ true
    left true b e = refl
    left false b e = e

    right : (a b : Bool) → (a && b) ≡ true → b ≡ true
    right true b e = e
    right false b e = absurd (false≢true e)

    by : (col : Column) → same_column col Transient ≡ false → asks cols col ≡ true → asks all col ≡ true
    by Structure other h = refl
    by NodeAttr other h = serves all.nodes_attr cols.nodes_attr (left (all.nodes_attr || not cols.nodes_attr) (all.edges_attr || not cols.edges_attr) inc) h
    by EdgeAttr other h = serves all.edges_attr cols.edges_attr (right (all.nodes_attr || not cols.nodes_attr) (all.edges_attr || not cols.edges_attr) inc) h
    by Transient other h = absurd (false≢true (sym other))

-- the handles that can serve hold what is shown of their nodes
pub bases_are_held : (z : History) (table : ListOf (ℕ × Stands)) (cols : Columns) (g : Ground) → All (HoldsNode table cols) g.bases
    → AreHeld z (edges_of g) cols (held_by table (map (λ (e : ℕ × Stands). elements z e.1) table))
bases_are_held z table cols g hold e h there is =
    let holds : HoldsNode table cols (h, e.to) = All-contains (HoldsNode table cols) g.bases (h, e.to) hold (base_of_edge g e h there is) in
    let lists = held_is z table cols h e.to holds in
    let set : ListOf Element = set_of z.params (events_of z) e.to in (
      subst IsSet (sym lists) (IsSet-filter (λ x. asks holds.0 (column_of x)) set (node_set z e.to)),
      ap (λ (s : ListOf Element). shown s cols) lists
          ∙ twice (λ x. asks cols (column_of x)) (λ x. asks holds.0 (column_of x)) set (λ x there. asks_more holds.0 cols holds.2 x (node_quiet z.params (events_of z) e.to x there)),
    )

-- and a graph that begins with the set of a handle rests on one that can serve
pub begins_on : (table : ListOf (ℕ × Stands)) (cols : Columns) (g : Ground) → All (HoldsNode table cols) g.bases
    → (l : GraphLead) → IsOffered (edges_of g) l → BeginsOn table cols l
begins_on table cols g hold l offered h is =
    let e = offered h is in
    let holds : HoldsNode table cols (h, e.0.to) = All-contains (HoldsNode table cols) g.bases (h, e.0.to) hold (base_of_edge g e.0 h e.1 e.2) in
    (e.0.to, holds.0, holds.1, holds.2)

-- all graphs that are retrieved
pub all_begin_on : (table : ListOf (ℕ × Stands)) (cols : Columns) (g : Ground) → All (HoldsNode table cols) g.bases
    → (r : Result Retrieved RecordFault) → IfOk r (λ x. All (IsOffered (edges_of g)) (leads_in x.leads)) → IfOk r (λ x. All (BeginsOn table cols) (leads_in x.leads))
all_begin_on table cols g hold (Err f) offered = tt
all_begin_on table cols g hold (Ok x) offered = each (leads_in x.leads) offered
  where
    each : (leads : ListOf GraphLead) → All (IsOffered (edges_of g)) leads → All (BeginsOn table cols) leads
    each [] h = All-nil (BeginsOn table cols)
    each (l ∷ leads) h =
        All-cons (BeginsOn table cols) l leads (begins_on table cols g hold l (All-head (IsOffered (edges_of g)) l leads h)) (each leads (All-tail (IsOffered (edges_of g)) l leads h))

-- so do the leads that a retrieval gives over these edges
pub all_begin : (table : ListOf (ℕ × Stands)) (cols : Columns) (g : Ground) → All (HoldsNode table cols) g.bases → (r : Result Retrieved RecordFault) (names : ℕ) (recent : ListOf Event) (edges : ListOf Edge) (o : Opening) (targets : ListOf NodeId) (times : ListOf ℕ)
    → edges ≡ edges_of g → IfOk r (LeadsToInstants names recent edges o targets times cols) → IfOk r (λ x. All (BeginsOn table cols) (leads_in x.leads))
all_begin table cols g hold (Err f) names recent edges o targets times is done = tt
all_begin table cols g hold (Ok x) names recent edges o targets times is done = all_begin_on table cols g hold (Ok x) (subst (λ es. All (IsOffered es) (leads_in x.leads)) is done.offered)
