use Rattle.std.proofs.Common.{◌≡◌, ℕ, ◌+◌, ◌<◌, List, [], ◌∷◌, ◌++◌, length, take, sym, ap, subst, ◌∙◌, arith}
use Rattle.std.specs.Prelude.{slice_index_or}
use Rattle.std.specs.List.{Contains}
use Rattle.std.proofs.lemmas.List.{take_more, map-append}
use Rattle.std.proofs.lemmas.List.Elements.{All-weaker}
use Rattle.dg_path.specs.declared.search.Cost.{Cost as Label}
use Rattle.dg_plan.specs.Walks.{Arc, Leads, IsTree, IsPlan, Graft, entered, steps_of}
use Rattle.dg_path.specs.Search.{arcs, cost_at, CostsFit, Falls, IsTable, IsTarget, graft_of, grafts_of}
use Rattle.dg_plan.proofs.WalkCosts.{at_most_itself}
use Rattle.dg_plan.proofs.WalkTrees.{tree_push, nodes_more}
use Rattle.dg_path.proofs.tree.graft.Goals as goal
use Rattle.dg_path.proofs.tree.graft.Goals.{then-i-targets+in_ok-grow, else-i-targets}

pub plan_to-requires-clause-table : goal.plan_to-requires-clause-table
plan_to-requires-clause-table c = let t = c.requires.table in (_, (c.loop-i.invariant.2 t.0 t.1).1 c.loop-i-test.true)

pub grow-requires-clause-settled : goal.grow-requires-clause-settled
grow-requires-clause-settled c = let t = c.requires.table in ((c.loop-i.invariant.2 t.0 t.1).1 c.loop-i-test.true).settled

-- what the costs are once they may have been lowered: in any case where a target follows
record IsGrown (g : List (Arc ℕ)) (steps : List ℕ) (follows : Type 0) (old new : List Label) : Type 0 where
  fits : CostsFit new
  falls : Falls old new
  table : (starts : List ℕ) → follows → IsTable g starts old → IsTable g (starts ++ entered g steps) new

grown : (c : goal.In_ok-push) → IsGrown (arcs c.args.links.now) c.in_ok-steps.steps.items (c.loop-i.i + 1 < length c.args.targets.now) c.loop-i.costs c.if-i-targets.costs
grown c =
    elim c.if-i-targets.branch [
      | then-i-targets+in_ok-grow w ↦
          let steps : w.deref-then-i-targets-3.result.now ≡ c.in_ok-steps.steps.items = w.deref-then-i-targets-3.ensures.value in
          subst (IsGrown (arcs c.args.links.now) c.in_ok-steps.steps.items (c.loop-i.i + 1 < length c.args.targets.now) c.loop-i.costs) (sym w.costs-is) (record {
            fits = w.in_ok-grow.ensures.fits;
            falls = w.in_ok-grow.ensures.falls;
            table = λ starts follows t. subst (λ s. IsTable (arcs c.args.links.now) (starts ++ entered (arcs c.args.links.now) s) w.grow.new.costs) steps (w.in_ok-grow.ensures.table starts t);
          })
      | else-i-targets w ↦
          subst (IsGrown (arcs c.args.links.now) c.in_ok-steps.steps.items (c.loop-i.i + 1 < length c.args.targets.now) c.loop-i.costs) (sym w.costs-is) (record {
            fits = c.loop-i.invariant.0;
            falls = λ v. at_most_itself (cost_at c.loop-i.costs v);
            table = λ starts follows t. absurd (let past = w.if-i-targets.false in omega arith);
          })
    ]

pub loop-i-preserved : goal.loop-i-preserved
loop-i-preserved c =
    let g = arcs c.args.links.now in
    let i = c.loop-i.i in
    let within : i < length c.args.targets.now = c.loop-i-test.true in
    let target = slice_index_or c.args.targets.now i 0 in
    let old = grafts_of c.loop-i.grafts.items in
    let grow = grown c in
    let steps : c.deref-in-loop-i-2.result.now ≡ c.in_ok-steps.steps.items = c.deref-in-loop-i-2.ensures.value in
    let x : Graft ℕ = record { from = c.first_node-from.result; steps = c.in_ok-steps.steps.items } in
    let items : grafts_of c.push.new.self.items ≡ old ++ x ∷ [] = ap grafts_of c.in_ok-push.ensures.items ∙ map-append graft_of c.loop-i.grafts.items _ in
    let same_len : length c.if-i-targets.costs ≡ length c.loop-i.costs = (let h = c.if-i-targets.auto.costs in omega arith) in (
      grow.fits,
      All-weaker (IsTarget c.loop-i.costs) (IsTarget c.if-i-targets.costs)
          (λ t had. record { within = (let h = had.within in omega arith); near = (let h = had.near in let f = (grow.falls t).0 in omega arith) }) c.args.targets.now c.loop-i.invariant.1,
      λ starts t.
          let had = c.loop-i.invariant.2 starts t in
          let table = had.1 within in
          let plan : IsPlan g (starts ++ entered g (steps_of old)) target x.steps = c.in_ok-steps.ensures.plan (starts ++ entered g (steps_of old)) table in
          let from : c.first_node-from.result ≡ plan.walk.0 = c.first_node-from.ensures plan.walk.0 (subst (λ s. Leads g plan.walk.0 s target) (sym steps) plan.walk.2) in
          let tree = tree_push g starts (take i c.args.targets.now) old target x had.0 plan (subst (λ a. Contains (starts ++ entered g (steps_of old)) a) (sym from) plan.walk.1) (subst (λ a. Leads g a x.steps target) (sym from) plan.walk.2) in (
            subst (λ ts. IsTree g starts ts (grafts_of c.push.new.self.items)) (sym (take_more c.args.targets.now i 0 within)) (subst (IsTree g starts (take i c.args.targets.now ++ target ∷ [])) (sym items) tree),
            λ follows. subst (λ s. IsTable g s c.if-i-targets.costs) (nodes_more g starts old x ∙ ap (λ gs. starts ++ entered g (steps_of gs)) (sym items))
                (grow.table (starts ++ entered g (steps_of old)) follows table),
          ),
    )
