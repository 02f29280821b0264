-- Each edge of the graph of an index that takes a record leads from the set of its tail to that of its head, and, taken the
-- other way, back.
use Rattle.std.proofs.Common.{◌≡◌, ◌≤◌, ◌<◌, ◌+◌, ◌*◌, ◌-◌, ℕ, zero, suc, true, false, List as ListOf, [], None, take, refl, sym, ap, subst, ◌∙◌, arith}
use Rattle.std.specs.List.{All, AllByRecursion, Contains}
use Rattle.std.proofs.lemmas.Bool.{false≢true}
use Rattle.dg_graph.specs.declared.event.Event.{Event}
use Rattle.dg_graph.specs.Elements.{IsSet}
use Rattle.dg_graph.specs.ExactEvents.{AreChangesOf}
use Rattle.dg_graph.specs.Replay.{replay}
use Rattle.dg_history.specs.declared.node.Key.{Key}
use Rattle.dg_history.specs.declared.node.Key.TheVariants as key
use Rattle.dg_history.specs.declared.node.NodeId.{NodeId}
use Rattle.dg_history.specs.declared.node.NodeId.TheVariants.{Inner}
use Rattle.dg_history.specs.declared.params.Params.{Params}
use Rattle.dg_history.specs.History.{History, events_of}
use Rattle.dg_index.specs.Hierarchy.{parent, set_at, set_of}
use Rattle.dg_index.specs.IndexRecords.{Record, Events, closed_list, record_among}
use Rattle.dg_index.proofs.HierarchySteps.{IsSet-node}
use Rattle.dg_index.proofs.IndexRecordColumns.{parent_is}
use Rattle.dg_plan.specs.declared.edge.Edge.{Edge}
use Rattle.dg_plan.specs.declared.edge.Via.{Via}
use Rattle.dg_plan.specs.declared.edge.Via.TheVariants as via
use Rattle.dg_plan.specs.declared.edge.Way.{Way}
use Rattle.dg_plan.specs.declared.edge.Way.TheVariants.{Same, Forward, Back}
use Rattle.dg_plan.specs.IndexGraph.{Ground, child_edges, edges_of, leaf, level_node, list_edges, top_edge}
use Rattle.dg_fold.specs.PathIndependence.{Contents, DeltasLead, contents, taken, via_deltas}
use Rattle.dg_fold.specs.Steps.{names_record}
use Rattle.dg_fold.proofs.PathIndependenceRecords.{exact_leads, slice_leads}
use Rattle.dg_retrieval.proofs.KeptGraphTrees.{each_edge}
use Rattle.dg_steps.specs.TreeSteps.{turned_edge, turned_via, turned_way}

-- ---- edges the other way

way_twice : (w : Way) → turned_way (turned_way w) ≡ w
way_twice Same = refl
way_twice Forward = refl
way_twice Back = refl

via_twice : (v : Via) → turned_via (turned_via v) ≡ v
via_twice via.Now = refl
via_twice (via.Base handle) = refl
via_twice (via.Paid k way) = ap (via.Paid k) (way_twice way)
via_twice (via.Held k way) = ap (via.Held k) (way_twice way)
via_twice (via.Recent way) = ap via.Recent (way_twice way)

via_takes : (v : Via) → names_record (turned_via v) ≡ names_record v
via_takes via.Now = refl
via_takes (via.Base handle) = refl
via_takes (via.Paid k way) = refl
via_takes (via.Held k way) = refl
via_takes (via.Recent way) = refl

-- The edge takes a record, which leads from the set of its tail to that of its head, and the other way back.
pub record LeadsBothWays (x : Contents) (e : Edge) : Type 0 where
  pub takes : names_record e.via ≡ true
  pub on : DeltasLead (via_deltas x e.via) (x.set e.from) (x.set e.to)
  pub back : DeltasLead (via_deltas x (turned_via e.via)) (x.set e.to) (x.set e.from)

pub turned_leads : (x : Contents) (e : Edge) → LeadsBothWays x e → LeadsBothWays x (turned_edge e)
turned_leads x e h = record {
  takes = via_takes e.via ∙ h.takes;
  on = h.back;
  back = subst (λ v. DeltasLead (via_deltas x v) (x.set e.from) (x.set e.to)) (sym (via_twice e.via)) h.on;
}

-- ---- the edges of an index

module _ (z : History) (changes : AreChangesOf [] (events_of z)) where
  abbrev p : Params
  p = z.params

  abbrev events : ListOf Event
  events = events_of z

  abbrev x : Contents
  x = contents z

  sets : (h j : ℕ) → IsSet (set_at z.params (events_of z) h j)
  sets h j = IsSet-node z.params (events_of z) h j

  leaf_set : (i : ℕ) → set_of p events (leaf i) ≡ set_at p events 0 i
  leaf_set zero = (let none : 0 ≡ 0 * p.l = omega arith in ap (λ n. replay (take n events)) none)
  leaf_set (suc i) = refl

  next_leaf : (i : ℕ) → replay (take (i * p.l + p.l) events) ≡ set_of p events (leaf (suc i))
  next_leaf i = (let next : i * p.l + p.l ≡ suc i * p.l = omega arith in ap (λ n. replay (take n events)) next)

  level_set : (h j : ℕ) → set_at p events h j ≡ set_of p events (level_node h j)
  level_set zero j = refl
  level_set (suc h) j = refl

  top_leads : (weight : Key → ℕ) (h : ℕ) → LeadsBothWays x (top_edge weight h)
  top_leads weight h =
      let exact = exact_leads [] (set_at p events h 1) tt (sets h 1) in
      record { takes = refl; on = exact.on; back = exact.back }

  -- the events of a list lead from the leaf before it to the one behind it, and back
  list_on : (i : ℕ) → DeltasLead (taken Forward None (Events (closed_list p events i))) (set_at p events 0 i) (set_of p events (leaf (suc i)))
  list_on i = (slice_leads events (i * p.l) p.l changes).on ∙ next_leaf i

  list_back : (i : ℕ) → DeltasLead (taken Back None (Events (closed_list p events i))) (set_of p events (leaf (suc i))) (set_at p events 0 i)
  list_back i =
      subst (λ s. DeltasLead (taken Back None (Events (closed_list p events i))) s (set_at p events 0 i)) (next_leaf i) (slice_leads events (i * p.l) p.l changes).back

  list_leads : (weight : Key → ℕ) (i : ℕ) → AllByRecursion (LeadsBothWays x) (list_edges weight i)
  list_leads weight i = (
    record { takes = refl; on = leaf_set i; back = sym (leaf_set i) },
    (
      record { takes = refl; on = list_back i; back = list_on i },
      (
        record { takes = refl; on = sym (leaf_set i); back = leaf_set i },
        (record { takes = refl; on = list_on i; back = list_back i }, tt),
      ),
    ),
  )

  child_leads : (weight : Key → ℕ) (h j c : ℕ) → parent p.k c ≡ j → AllByRecursion (LeadsBothWays x) (child_edges weight h j c)
  child_leads weight h j c is =
      let low : h + 1 - 1 ≡ h = omega arith in
      let exact = exact_leads (set_at p events (h + 1) (parent p.k c)) (set_at p events (h + 1 - 1) c) (sets (h + 1) (parent p.k c)) (sets (h + 1 - 1) c) in
      let r : Record = record_among p events z.batches (key.Down (h + 1) c) in
      let up : set_at p events (h + 1) (parent p.k c) ≡ set_of p events (Inner (h + 1) j) = ap (set_at p events (h + 1)) is in
      let down : set_at p events (h + 1 - 1) c ≡ set_of p events (level_node h c) = ap (λ n. set_at p events n c) low ∙ level_set h c in
      let on : DeltasLead (taken Forward None r) (set_of p events (Inner (h + 1) j)) (set_of p events (level_node h c)) =
      subst (λ s. DeltasLead (taken Forward None r) s (set_of p events (level_node h c))) up
      (subst (DeltasLead (taken Forward None r) (set_at p events (h + 1) (parent p.k c))) down exact.on) in
      let back : DeltasLead (taken Back None r) (set_of p events (level_node h c)) (set_of p events (Inner (h + 1) j)) =
      subst (λ s. DeltasLead (taken Back None r) s (set_of p events (Inner (h + 1) j))) down
      (subst (DeltasLead (taken Back None r) (set_at p events (h + 1 - 1) c)) up exact.back) in
      (record { takes = refl; on = on; back = back }, (record { takes = refl; on = back; back = on }, tt))

  -- each edge of the graph without bases and without the current graph
  pub all_lead : 1 ≤ z.params.k → (g : Ground) → g.arity ≡ z.params.k → g.bases ≡ [] → g.memory ≡ false → All (LeadsBothWays (contents z)) (edges_of g)
  all_lead some g arity none alone = each_edge g (LeadsBothWays (contents z)) (record {
    now = λ there. absurd (false≢true (sym alone ∙ there));
    base = λ b there. absurd (nothing b (subst (λ (bs : ListOf (ℕ × NodeId)). Contains bs b) none there));
    top = λ h low within. top_leads g.weight h;
    list = λ i within. list_leads g.weight i;
    child = λ h j c one few low high. child_leads g.weight h j c (of_parent j c one low high);
    recent = λ there. absurd (false≢true (sym alone ∙ there));
  })
    where
      nothing : (b : ℕ × NodeId) → Contains [] b → ⊥
      nothing b there = (let h = there.1 in omega arith)

      of_parent : (j c : ℕ) → 1 ≤ j → (j - 1) * g.arity + 1 ≤ c → c < (j - 1) * g.arity + 1 + g.arity → parent z.params.k c ≡ j
      of_parent j c one low high =
          parent_is z.params.k j c some one (subst (λ k. (j - 1) * k + 1 ≤ c) arity low) (subst (λ k. c < (j - 1) * k + 1 + k) arity high)
