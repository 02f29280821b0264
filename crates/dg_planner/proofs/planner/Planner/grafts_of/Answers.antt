use Rattle.std.proofs.Common.{false, ◌≡◌, ℕ, map, ◌+◌, ◌<◌, List, [], ◌∷◌, ◌++◌, length, take, sym, ap, subst, ◌∙◌, arith}
use Rattle.std.specs.Prelude.{slice_index_or}
use Rattle.std.specs.List.{Contains}
use Rattle.std.proofs.lemmas.List.{length-take, map-append, take_more}
use Rattle.dg_history.specs.declared.node.NodeId.{NodeId}
use Rattle.dg_history.specs.declared.node.NodeId.TheVariants.{Root}
use Rattle.dg_path.specs.declared.search.Cost.{Cost as Label}
use Rattle.dg_plan.specs.EnteredRecords.{EntersOnce}
use Rattle.dg_plan.specs.IndexGraph.{arcs_of}
use Rattle.dg_plan.specs.Walks.{Graft, IsPlan, Leads, entered, steps_of, tree_weight}
use Rattle.dg_plan.proofs.WalkTrees.{tree_grows}
use Rattle.dg_path.specs.Search.{AreAdjacent, AreLinks, Falls, CostsFit, IsTable, arcs, label_at}
use Rattle.dg_planner.specs.Order.{bare_ground, node_index_of}
use Rattle.dg_planner.specs.Trees.{costs_now, node_graft, node_grafts}
use Rattle.dg_planner.specs.Whole.{PlannerGraph}
use Rattle.dg_planner.proofs.TreeGrowth.{IsReady, grown_as, near_now, one_grown, one_ready}
use Rattle.dg_planner.proofs.OrderPlans.{link_count, node_is, node_index_within}
use Rattle.dg_planner.proofs.planner.Planner.grafts_of.Goals as goal
use Rattle.dg_planner.proofs.planner.Planner.grafts_of.Goals.{then-i-targets+in_ok-grow_on, else-i-targets}

pub node_index-at-requires-clause-node : goal.node_index-at-requires-clause-node
node_index-at-requires-clause-node c =
    let i = c.loop-i.i in
    node_is (bare_ground c.self.inside.form.leaves c.self.inside.form.arity c.self.inside.form.memory) c.self.invariant.low (slice_index_or c.args.targets.now i Root)
    (subst (λ (s : PlannerGraph). Contains s.nodes (slice_index_or c.args.targets.now i Root)) (sym c.self.view_is) (c.requires.targets i Root c.loop-i-test.true))

pub weight_at-nearest-requires : goal.weight_at-nearest-requires
weight_at-nearest-requires c =
    let target = slice_index_or c.args.targets.now c.loop-i.i Root in
    let vn = subst (λ (s : PlannerGraph). Contains s.nodes target) (sym c.self.view_is) (c.requires.targets c.loop-i.i Root c.loop-i-test.true) in
    let p = node_index_within (bare_ground c.self.inside.form.leaves c.self.inside.form.arity c.self.inside.form.memory) target vn in
    let e = c.node_index-at.ensures in
    let d = ap length (c.costs_now-costs.ensures ∙ (λ k. costs_now (c.deref-in-loop-i.ensures.value k) (c.deref-in-loop-i-2.ensures.value k))) in
    let n = (c.loop-i.invariant.1 c.loop-i-test.true).count in
    omega arith

pub overflow_add-weight : goal.overflow_add-weight
overflow_add-weight c =
    let i = c.loop-i.i in
    let within : i < length c.args.targets.now = c.loop-i-test.true in
    let g = bare_ground c.self.inside.form.leaves c.self.inside.form.arity c.self.inside.form.memory in
    let target = slice_index_or c.args.targets.now i Root in
    let vn = subst (λ (s : PlannerGraph). Contains s.nodes target) (sym c.self.view_is) (c.requires.targets i Root within) in
    let near = near_now _ _ _ _ _ _ _ c.self.invariant _ _ _ _ c.loop-i.invariant.0 (c.loop-i.invariant.1 within) target vn in
    let costs : c.costs_now-costs.result.now ≡ costs_now c.self.inside.costs.items c.loop-i.grown.items =
    c.costs_now-costs.ensures ∙ (λ k. costs_now (c.deref-in-loop-i.ensures.value k) (c.deref-in-loop-i-2.ensures.value k)) in
    let now : c.weight_at-nearest.result ≡ (label_at (costs_now c.self.inside.costs.items c.loop-i.grown.items) (node_index_of g target)).weight =
    c.weight_at-nearest.ensures ∙ (λ k. (label_at (costs k) (c.node_index-at.ensures k)).weight) in
    let light = c.loop-i.invariant.0.light in
    let len = length-take i c.args.targets.now in
    let few = c.requires.few in
    omega arith

pub graft_at-requires-clause-node : goal.graft_at-requires-clause-node
graft_at-requires-clause-node c =
    let target = slice_index_or c.args.targets.now c.loop-i.i Root in
    let vn = subst (λ (s : PlannerGraph). Contains s.nodes target) (sym c.self.view_is) (c.requires.targets c.loop-i.i Root c.loop-i-test.true) in
    let p = node_index_within (bare_ground c.self.inside.form.leaves c.self.inside.form.arity c.self.inside.form.memory) target vn in
    let e = c.node_index-at.ensures in
    let d = ap length (c.costs_now-costs.ensures ∙ (λ k. costs_now (c.deref-in-loop-i.ensures.value k) (c.deref-in-loop-i-2.ensures.value k))) in
    let n = (c.loop-i.invariant.1 c.loop-i-test.true).count in
    omega arith

pub graft_at-requires-clause-near : goal.graft_at-requires-clause-near
graft_at-requires-clause-near c =
    let i = c.loop-i.i in
    let within : i < length c.args.targets.now = c.loop-i-test.true in
    let g = bare_ground c.self.inside.form.leaves c.self.inside.form.arity c.self.inside.form.memory in
    let target = slice_index_or c.args.targets.now i Root in
    let vn = subst (λ (s : PlannerGraph). Contains s.nodes target) (sym c.self.view_is) (c.requires.targets i Root within) in
    let near = near_now _ _ _ _ _ _ _ c.self.invariant _ _ _ _ c.loop-i.invariant.0 (c.loop-i.invariant.1 within) target vn in
    let costs : c.costs_now-costs.result.now ≡ costs_now c.self.inside.costs.items c.loop-i.grown.items =
    c.costs_now-costs.ensures ∙ (λ k. costs_now (c.deref-in-loop-i.ensures.value k) (c.deref-in-loop-i-2.ensures.value k)) in
    let now : (label_at c.costs_now-costs.result.now c.node_index-at.result).weight ≡ (label_at (costs_now c.self.inside.costs.items c.loop-i.grown.items) (node_index_of g target)).weight =
    λ k. (label_at (costs k) (c.node_index-at.ensures k)).weight in
    omega arith

-- the costs from the tree with the steps, where a target follows
ready : (c : goal.In_ok-push) → c.loop-i.i + 1 < length c.args.targets.now
    → IsReady (bare_ground c.self.inside.form.leaves c.self.inside.form.arity c.self.inside.form.memory) c.self.inside.edges.items c.self.inside.links.items
    (node_grafts c.loop-i.grafts.items ++ node_graft c.in_ok-graft.graft ∷ [])
    (costs_now c.self.inside.costs.items c.if-i-targets.grown.items)
ready c follows =
    let g = bare_ground c.self.inside.form.leaves c.self.inside.form.arity c.self.inside.form.memory in
    let edges = c.self.inside.edges.items in
    let links = c.self.inside.links.items in
    let kept = c.self.inside.costs.items in
    let steps = c.in_ok-graft.graft.steps.items in
    let old = costs_now kept c.loop-i.grown.items in
    elim c.if-i-targets.branch [
      | then-i-targets+in_ok-grow_on w ↦
          let new = costs_now kept w.grow_on.new.grown.items in
          let len : length new ≡ length old = subst (λ (ks : List Label). length (costs_now ks w.grow_on.new.grown.items) ≡ length (costs_now ks c.loop-i.grown.items)) w.deref-then-i-targets-2.ensures.value w.in_ok-grow_on.ensures.len in
          let fits : CostsFit new = subst (λ (ks : List Label). CostsFit (costs_now ks w.grow_on.new.grown.items)) w.deref-then-i-targets-2.ensures.value w.in_ok-grow_on.ensures.fits in
          let falls : Falls old new = subst (λ (ks : List Label). Falls (costs_now ks c.loop-i.grown.items) (costs_now ks w.grow_on.new.grown.items)) w.deref-then-i-targets-2.ensures.value w.in_ok-grow_on.ensures.falls in
          let table : (from : List ℕ) → IsTable (arcs links) from old → IsTable (arcs links) (from ++ entered (arcs links) steps) new =
          subst (λ s. (from : List ℕ) → IsTable (arcs links) from old → IsTable (arcs links) (from ++ entered (arcs links) s) new) w.deref-then-i-targets-3.ensures.value
          (subst (λ ls. (from : List ℕ) → IsTable (arcs ls) from old → IsTable (arcs ls) (from ++ entered (arcs ls) w.deref-then-i-targets-3.result.now) new) w.deref-then-i-targets.ensures.value
          (subst (λ ks. (from : List ℕ) → IsTable (arcs w.deref-then-i-targets.result.now) from (costs_now ks c.loop-i.grown.items) → IsTable (arcs w.deref-then-i-targets.result.now) (from ++ entered (arcs w.deref-then-i-targets.result.now) w.deref-then-i-targets-3.result.now) (costs_now ks w.grow_on.new.grown.items)) w.deref-then-i-targets-2.ensures.value
          w.in_ok-grow_on.ensures.table)) in
          let x : Graft NodeId = node_graft c.in_ok-graft.graft in
          subst (λ v. IsReady g edges links (node_grafts c.loop-i.grafts.items ++ x ∷ []) (costs_now kept v.items)) (sym w.grown-is)
          (one_ready g edges _ links _ _ kept c.self.invariant (node_grafts c.loop-i.grafts.items) old (c.loop-i.invariant.1 c.loop-i-test.true) x new len fits falls table)
      | else-i-targets w ↦ absurd (let past = w.if-i-targets.false in omega arith)
    ]

pub loop-i-preserved : goal.loop-i-preserved
loop-i-preserved c =
    let g = bare_ground c.self.inside.form.leaves c.self.inside.form.arity c.self.inside.form.memory in
    let edges = c.self.inside.edges.items in
    let links = c.self.inside.links.items in
    let kept = c.self.inside.costs.items in
    let i = c.loop-i.i in
    let within : i < length c.args.targets.now = c.loop-i-test.true in
    let target = slice_index_or c.args.targets.now i Root in
    let steps = c.in_ok-graft.graft.steps.items in
    let now = costs_now kept c.loop-i.grown.items in
    let vn = subst (λ (s : PlannerGraph). Contains s.nodes target) (sym c.self.view_is) (c.requires.targets i Root within) in
    let costs : c.costs_now-costs.result.now ≡ now =
    c.costs_now-costs.ensures ∙ (λ k. costs_now (c.deref-in-loop-i.ensures.value k) (c.deref-in-loop-i-2.ensures.value k)) in
    let plan : (from : List ℕ) → IsTable (arcs links) from now → IsPlan (arcs links) from (node_index_of g target) steps = λ from t.
    subst (λ p. IsPlan (arcs links) from p steps) c.node_index-at.ensures
    (subst (λ ls. IsPlan (arcs ls) from c.node_index-at.result steps) c.deref-in-loop-i-4.ensures.value
    (c.in_ok-graft.ensures.plan from
    (subst (λ cs. IsTable (arcs c.deref-in-loop-i-4.result.now) from cs) (sym costs)
    (subst (λ ls. IsTable (arcs ls) from now) (sym c.deref-in-loop-i-4.ensures.value) t)))) in
    let one = one_grown g edges _ links _ _ kept c.self.invariant _ _ _ now c.loop-i.invariant.0 (c.loop-i.invariant.1 within) target vn
    (node_graft c.in_ok-graft.graft) plan
    (λ a leads. c.in_ok-graft.ensures.begins a (subst (λ es. Leads (arcs_of es) a steps target) (sym c.deref-in-loop-i-3.ensures.value) leads)) in
    let grafts = ap node_grafts c.in_ok-push.ensures.items ∙ map-append node_graft c.loop-i.grafts.items _ in (
      grown_as edges _ _ _ _ _ _
          (take_more c.args.targets.now i Root within)
          grafts
          (ap (λ w. c.loop-i.weight + w) (c.weight_at-nearest.ensures ∙ (λ k. (label_at (costs k) (c.node_index-at.ensures k)).weight)))
          one,
      λ follows. subst (λ gs. IsReady g edges links gs (costs_now kept c.if-i-targets.grown.items)) (sym grafts) (ready c follows),
    )

pub graft_at-requires-clause-count : goal.graft_at-requires-clause-count
graft_at-requires-clause-count c =
    ap length c.deref-in-loop-i-4.ensures.value ∙ (link_count _ _ _ _ _ _ _ c.self.invariant ∙ sym (ap length c.deref-in-loop-i-3.ensures.value))

pub returns-clause-weight : goal.returns-clause-weight
returns-clause-weight c =
    subst (λ (s : PlannerGraph). c.loop-i.weight ≡ tree_weight (arcs_of s.edges) (node_grafts c.loop-i.grafts.items)) c.self.view_is c.loop-i.invariant.0.weight_is

pub returns-clause-light : goal.returns-clause-light
returns-clause-light c =
    let light = c.loop-i.invariant.0.light in
    let within = length-take c.loop-i.i c.args.targets.now in
    let few = c.requires.few in
    omega arith

pub returns-clause-once : goal.returns-clause-once
returns-clause-once c =
    let inv = c.loop-i.invariant.0 in
    let grafts = node_grafts c.loop-i.grafts.items in
    subst (λ (s : PlannerGraph). EntersOnce s.edges (steps_of grafts)) c.self.view_is
    (c.self.invariant.once (Root ∷ []) (steps_of grafts) (tree_grows (arcs_of c.self.inside.edges.items) (Root ∷ []) (take c.loop-i.i c.args.targets.now) grafts inv.tree))

pub graft_at-requires-clause-links : goal.graft_at-requires-clause-links
graft_at-requires-clause-links c =
    let g = bare_ground c.self.inside.form.leaves c.self.inside.form.arity c.self.inside.form.memory in
    let links = c.self.inside.links.items in
    let ready = c.loop-i.invariant.1 c.loop-i-test.true in
    let now = costs_now c.self.inside.costs.items c.loop-i.grown.items in
    let costs : c.costs_now-costs.result.now ≡ now =
    c.costs_now-costs.ensures ∙ (λ k. costs_now (c.deref-in-loop-i.ensures.value k) (c.deref-in-loop-i-2.ensures.value k)) in
    let len : length c.self.inside.costs.items ≡ length c.costs_now-costs.result.now = c.self.invariant.count ∙ (sym ready.count ∙ sym (ap length costs)) in
    subst (λ ls. AreLinks ls (length c.costs_now-costs.result.now)) (sym c.deref-in-loop-i-4.ensures.value) (subst (AreLinks links) len c.self.invariant.links_are)

pub graft_at-requires-clause-chained : goal.graft_at-requires-clause-chained
graft_at-requires-clause-chained c =
    let g = bare_ground c.self.inside.form.leaves c.self.inside.form.arity c.self.inside.form.memory in
    let links = c.self.inside.links.items in
    let ready = c.loop-i.invariant.1 c.loop-i-test.true in
    let now = costs_now c.self.inside.costs.items c.loop-i.grown.items in
    let costs : c.costs_now-costs.result.now ≡ now =
    c.costs_now-costs.ensures ∙ (λ k. costs_now (c.deref-in-loop-i.ensures.value k) (c.deref-in-loop-i-2.ensures.value k)) in
    let len : length c.self.inside.costs.items ≡ length c.costs_now-costs.result.now = c.self.invariant.count ∙ (sym ready.count ∙ sym (ap length costs)) in
    let ins = c.self.inside.ins in
    subst (λ ls. AreAdjacent false ls ins.first.items ins.next.items (length c.costs_now-costs.result.now)) (sym c.deref-in-loop-i-4.ensures.value)
    (subst (AreAdjacent false links ins.first.items ins.next.items) len c.self.invariant.in_chains)

pub graft_at-requires-clause-table : goal.graft_at-requires-clause-table
graft_at-requires-clause-table c =
    let g = bare_ground c.self.inside.form.leaves c.self.inside.form.arity c.self.inside.form.memory in
    let links = c.self.inside.links.items in
    let ready = c.loop-i.invariant.1 c.loop-i-test.true in
    let now = costs_now c.self.inside.costs.items c.loop-i.grown.items in
    let costs : c.costs_now-costs.result.now ≡ now =
    c.costs_now-costs.ensures ∙ (λ k. costs_now (c.deref-in-loop-i.ensures.value k) (c.deref-in-loop-i-2.ensures.value k)) in
    let len : length c.self.inside.costs.items ≡ length c.costs_now-costs.result.now = c.self.invariant.count ∙ (sym ready.count ∙ sym (ap length costs)) in
    let from = map (node_index_of g) ((Root ∷ []) ++ entered (arcs_of c.self.inside.edges.items) (steps_of (node_grafts c.loop-i.grafts.items))) in
    (from, subst (λ ls. IsTable (arcs ls) from c.costs_now-costs.result.now) (sym c.deref-in-loop-i-4.ensures.value) (subst (IsTable (arcs links) from) (sym costs) ready.table))
