-- The sets of nodes, by what leads to them along a tree over the records of an index.
use Rattle.std.proofs.Common.{◌≡◌, ◌<◌, ◌≤◌, ◌+◌, ℕ, true, false, List as ListOf, [], ◌∷◌, ◌++◌, Option, Result, Ok, Err, append-nil, get_or, length, map, take, refl, sym, ap, subst, ◌∙◌, arith}
use Rattle.std.specs.List.{All, AllZip}
use Rattle.std.proofs.lemmas.Bool.{false≢true}
use Rattle.std.proofs.lemmas.List.{map-append, take_all, take_more}
use Rattle.std.proofs.lemmas.List.Elements.{All-cons, All-head, All-map, All-nil, All-push, All-tail}
use Rattle.dg_fold.specs.declared.part.Part.{Part}
use Rattle.dg_fold.specs.declared.tree.Branch.{Branch}
use Rattle.dg_fold.specs.Ends.{AreLedUntil, Lead, LeadsUntil, last_in}
use Rattle.dg_fold.specs.Parts.{Folds, beside}
use Rattle.dg_fold.specs.PathIndependence.{begun_at}
use Rattle.dg_fold.specs.Steps.{PartedStep, paired, step_by, steps_in, names_record}
use Rattle.dg_fold.specs.Trees.{IsStepOf, LeadsTo, PathIn, all_edges}
use Rattle.dg_fold.specs.Trees.PathIn.{Begins_at_root, Steps_on}
use Rattle.dg_graph.specs.declared.element.Column.{Column}
use Rattle.dg_graph.specs.declared.element.Element.{Element}
use Rattle.dg_graph.specs.declared.event.Event.{Event}
use Rattle.dg_fold.specs.Writings.{composed_all, written_for}
use Rattle.dg_graph.specs.Composition.{Delta, IsDelta, applied}
use Rattle.dg_graph.specs.Elements.{shown}
use Rattle.dg_graph.proofs.Sets.{has-unioned}
use Rattle.dg_history.specs.declared.node.Key.{Key}
use Rattle.dg_history.specs.declared.node.NodeId.{NodeId}
use Rattle.dg_history.specs.declared.node.NodeId.TheVariants as node
use Rattle.dg_history.specs.History.{History, events_of, names_of}
use Rattle.dg_index.specs.Hierarchy.{set_of}
use Rattle.dg_index.specs.IndexRecords.{recent_of}
use Rattle.dg_index.specs.OpenedIndex.{Opening}
use Rattle.dg_plan.specs.declared.edge.Edge.{Edge}
use Rattle.dg_plan.specs.declared.edge.Via.{Via}
use Rattle.dg_plan.specs.declared.edge.Via.TheVariants as via
use Rattle.dg_plan.specs.HistoryGraph.{all_columns}
use Rattle.dg_plan.specs.Walks.{Graft, steps_of}
use Rattle.dg_retrieval.specs.declared.graph_lead.Beginning.TheVariants.{Nothing}
use Rattle.dg_retrieval.specs.declared.graph_lead.Leads.{Leads}
use Rattle.dg_retrieval.specs.Beginnings.{GraphLead, LeadsAs, leads_in}
use Rattle.dg_retrieval.specs.Calls.{LeadNamesAreThere}
use Rattle.dg_retrieval.specs.KeptGraph.{record_edges, record_ground}
use Rattle.dg_retrieval.specs.NamesThere.{BodyHasNamesThere, NamesAreThere}
use Rattle.dg_retrieval.specs.NodeSets.{HasNoEvents, IsIndexOver, sets_of}
use Rattle.dg_retrieval.specs.TreeLeads.{AreTreeLeads}
use Rattle.dg_retrieval.proofs.HistoryTreeLaws.{ReachesNodes, nodes_reach}
use Rattle.dg_retrieval.proofs.KeptGraphWalks.{walk_all, walk_among, walk_records}
use Rattle.dg_retrieval.proofs.KeptGraphRecords.{graph_of_index}
use Rattle.dg_retrieval.proofs.BeginningGraphs.{ends_are}
use Rattle.dg_retrieval.proofs.BeginningLeads.{delta_led, leads_many}
use Rattle.dg_retrieval.proofs.NodeSetPlans.{from_nothing as put_in}
use Rattle.dg_retrieval.proofs.StepRecords.{TakesRecord, all_shown, begins_there, edges_take}
use Rattle.dg_retrieval.proofs.BeginningBases.{step_has}
use Rattle.dg_retrieval.proofs.BranchTrees.{branches_hold}

-- ---- without recent events

-- the step takes a record
abbrev StepTakes : PartedStep → Type 0
StepTakes s = TakesRecord s.0

step_alike : (names : ℕ) (recent : ListOf Event) (v : Via) (part : Option Part) → names_record v ≡ true → step_by names [] v part ≡ step_by names recent v part
step_alike names recent via.Now part takes = refl
step_alike names recent (via.Base handle) part takes = refl
step_alike names recent (via.Paid key way) part takes = refl
step_alike names recent (via.Held key way) part takes = refl
step_alike names recent (via.Recent way) part takes = absurd (false≢true takes)

-- what such steps come to is the same whatever the recent events
steps_alike : (names : ℕ) (recent : ListOf Event) (steps : ListOf PartedStep) → All StepTakes steps → steps_in names [] steps ≡ steps_in names recent steps
steps_alike names recent [] all = refl
steps_alike names recent (s ∷ steps) all =
    let one = step_alike names recent s.0.via s.1 (All-head StepTakes s steps all) in
    let rest = steps_alike names recent steps (All-tail StepTakes s steps all) in
    λ i. beside (one i) (rest i)

-- so is each step of a path by such steps
path_takes : (all : ListOf PartedStep) → ((s : PartedStep) → IsStepOf s all → StepTakes s) → (v : NodeId) (path : ListOf PartedStep) → PathIn all v path → All StepTakes path
path_takes all takes v path Begins_at_root = All-nil StepTakes
path_takes all takes v path (Steps_on s before among way) = All-push StepTakes before s (path_takes all takes s.0.from before way) (takes s among)

none_more : (a : Result (ListOf Delta) (Key × Column)) → beside a (Ok []) ≡ a
none_more (Ok xs) = ap Ok (append-nil xs)
none_more (Err x) = refl

-- a node without events of its own goes on with none
no_last : (names : ℕ) (parts : ListOf Part) (v : NodeId) (t : ℕ) → HasNoEvents v → last_in names [] parts v t ≡ Ok []
no_last names parts node.Root t bare = refl
no_last names parts node.Now t bare = refl
no_last names parts node.Recent t bare = elim bare [ ]
no_last names parts (node.Leaf j) t bare = refl
no_last names parts (node.List i) t bare = elim bare [ ]
no_last names parts (node.Inner h j) t bare = refl

-- ---- over a history

head_of : {A : Type 0} {x y : A} {xs ys : ListOf A} → x ∷ xs ≡ y ∷ ys → x ≡ y
head_of is = cc

tail_of : {A : Type 0} {x y : A} {xs ys : ListOf A} → x ∷ xs ≡ y ∷ ys → xs ≡ ys
tail_of is = cc

-- a delta, applied to the empty graph
abbrev pub from_nothing : GraphLead → ListOf Element
from_nothing l = applied l.delta []

module _ (names : ℕ) (z : History) (walk : ListOf Edge) (parts : ListOf Part) (take : All TakesRecord walk) (reaches : ReachesNodes names z all_columns walk parts) where
  -- what leads to a node gives its set
  one_led : (v : NodeId) (t : ℕ) (begun : NodeId) (d : Delta) → HasNoEvents v → LeadsUntil names [] parts (paired walk parts) v t begun d → applied d [] ≡ set_of z.params (events_of z) v
  one_led v t begun d bare led =
      let recent : ListOf Event = recent_of z.params (events_of z) in
      let takes = path_takes (paired walk parts) (step_has TakesRecord walk parts take) v led.0 led.1 in
      let same : beside (steps_in names [] led.0) (last_in names [] parts v t) ≡ steps_in names recent led.0 =
      ap (beside (steps_in names [] led.0)) (no_last names parts v t bare) ∙ none_more (steps_in names [] led.0) ∙ steps_alike names recent led.0 takes in
      let leads : LeadsTo names recent (paired walk parts) v d = (led.0, led.1, subst (Folds (Ok d)) same led.3) in
      let begins : shown [] all_columns ≡ shown (set_of z.params (events_of z) (begun_at node.Root (map (λ (s : PartedStep). s.0) led.0))) all_columns =
      ap (λ n. shown (set_of z.params (events_of z) n) all_columns) (sym (begins_there node.Root (map (λ (s : PartedStep). s.0) led.0) (All-map TakesRecord (λ (s : PartedStep). s.0) led.0 takes))) in
      sym (all_shown (applied d [])) ∙ reaches v d leads [] (tt, begins) ∙ all_shown (set_of z.params (events_of z) v)

  all_led : (edges : ListOf Edge) (branches : ListOf Branch) (times : ListOf ℕ) (targets : ListOf NodeId) (paths : ListOf Lead) (leads : ListOf GraphLead) → map (λ (b : Branch). b.to) branches ≡ targets
      → All HasNoEvents targets → AreLedUntil names [] parts (paired walk parts) branches times paths → AllZip (LeadsAs edges) paths leads → map from_nothing leads ≡ sets_of z targets
  all_led edges [] times [] [] [] ends bare led alike = refl
  all_led edges [] times [] [] (g ∷ leads) ends bare led alike = elim alike [ ]
  all_led edges [] times [] (l ∷ paths) leads ends bare led alike = elim led [ ]
  all_led edges [] times (v ∷ targets) paths leads ends bare led alike = absurd cc
  all_led edges (b ∷ branches) [] targets paths leads ends bare led alike = elim led [ ]
  all_led edges (b ∷ branches) (t ∷ times) targets [] leads ends bare led alike = elim led [ ]
  all_led edges (b ∷ branches) (t ∷ times) [] (l ∷ paths) leads ends bare led alike = absurd cc
  all_led edges (b ∷ branches) (t ∷ times) (v ∷ targets) (l ∷ paths) [] ends bare led alike = elim alike [ ]
  all_led edges (b ∷ branches) (t ∷ times) (v ∷ targets) (l ∷ paths) (g ∷ leads) ends bare led alike =
      let here : b.to ≡ v = head_of ends in
      let one : from_nothing g ≡ set_of z.params (events_of z) v =
      ap (λ (d : Delta). applied d []) alike.0.delta
      ∙ one_led v t l.begun l.delta (All-head HasNoEvents v targets bare) (subst (λ (n : NodeId). LeadsUntil names [] parts (paired walk parts) n t l.begun l.delta) here led.0) in
      let rest = all_led edges branches times targets paths leads (tail_of ends) (All-tail HasNoEvents v targets bare) led.1 alike.1 in
      λ i. one i ∷ rest i

module _ (o : Opening) (edges : ListOf Edge) (is : edges ≡ record_edges o) (targets : ListOf NodeId) (bare : All HasNoEvents targets) (grafts : ListOf (Graft NodeId)) (names : ℕ)
    (times : ListOf ℕ) (leads : ListOf GraphLead) where
  -- over an image of a history, they lead to the sets of the nodes
  pub sets_come : (im : ListOf ℕ) → AreTreeLeads names [] edges o all_columns targets grafts times leads im → (z : History) → IsIndexOver z im o names → map from_nothing leads ≡ sets_of z targets
  sets_come im led z over =
      let branches = led.0 in
      let are = led.1 in
      let parts = led.2 in
      let walk : ListOf Edge = all_edges branches in
      let along = branches_hold edges targets grafts branches are in
      let reaches =
      nodes_reach z over.stands.legal (record_ground o) (graph_of_index z o over.opened all_columns false []) all_columns walk
      (walk_among o all_columns false [] edges is (steps_of grafts) walk along) parts (walk_records o all_columns false [] edges is (steps_of grafts) walk along z im over.stands over.opened parts led.3) in
      all_led (length (names_of z)) z walk parts (walk_all o all_columns false [] edges is (steps_of grafts) walk along TakesRecord (edges_take (record_ground o) refl refl)) reaches
      edges branches times targets led.4 leads (ends_are edges targets grafts branches are) bare
      (subst (λ n. AreLedUntil n [] parts (paired walk parts) branches times led.4) over.names led.5) led.6

-- the names that the sets have are there, where those that the leads put in are
pub sets_named : (names : ℕ) (leads : ListOf GraphLead) → LeadNamesAreThere names [] leads → (sets : ListOf (ListOf Element)) → sets ≡ map from_nothing leads → All (NamesAreThere names) sets
sets_named names leads named sets come = subst (All (NamesAreThere names)) (sym come) (by leads (named (All-nil (λ (e : Event). BodyHasNamesThere names e.body))))
  where
    by : (leads : ListOf GraphLead) → All (λ (l : GraphLead). NamesAreThere names l.delta.plus) leads → All (NamesAreThere names) (map from_nothing leads)
    by [] all = All-nil (NamesAreThere names)
    by (l ∷ leads) all =
        All-cons (NamesAreThere names) (from_nothing l) (map from_nothing leads)
        (λ x h. All-head (λ (l : GraphLead). NamesAreThere names l.delta.plus) l leads all x (sym (has-unioned [] l.delta.plus x) ∙ h))
        (by leads (All-tail (λ (l : GraphLead). NamesAreThere names l.delta.plus) l leads all))

-- ---- one set after another

module _ (leads : Leads) (n : ℕ) where
  pub sets_more : (d : Delta) (set : ListOf Element) (sets new : ListOf (ListOf Element)) → n < length leads.begins.items → d ≡ composed_all (written_for n leads.writings.items) → IsDelta d → set ≡ d.plus
      → sets ≡ map from_nothing (take n (leads_in leads)) → new ≡ sets ++ set ∷ [] → new ≡ map from_nothing (take (n + 1) (leads_in leads))
  sets_more d set sets new within written sound puts so_far grown =
      let begins = leads.begins.items in
      let writings = leads.writings.items in
      let all = leads_in leads in
      let some : GraphLead = record { begins = Nothing; delta = d } in
      let here : set ≡ from_nothing (get_or all n some) = puts ∙ put_in d sound ∙ ap (λ (e : Delta). applied e []) (written ∙ sym (delta_led 0 n n begins writings some (omega arith) within)) in
      grown ∙ (λ j. so_far j ++ here j ∷ []) ∙ sym (map-append from_nothing (take n all) (get_or all n some ∷ []))
      ∙ ap (map from_nothing) (sym (take_more all n some (omega (arith, within, leads_many 0 begins writings))))

  pub sets_all : (sets : ListOf (ListOf Element)) → length leads.begins.items ≤ n → sets ≡ map from_nothing (take n (leads_in leads)) → sets ≡ map from_nothing (leads_in leads)
  sets_all sets end so_far = so_far ∙ ap (map from_nothing) (take_all n (leads_in leads) (omega (arith, end, leads_many 0 leads.begins.items leads.writings.items)))
