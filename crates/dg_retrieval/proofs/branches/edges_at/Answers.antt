use Rattle.std.proofs.Common.{ℕ, ◌++◌, sym, ◌∙◌, ap}
use Rattle.std.specs.Option.{option_to_list}
use Rattle.std.proofs.lemmas.List.{append-nil}
use Rattle.dg_retrieval.proofs.BranchTrees.{edges_at_more}
use Rattle.dg_retrieval.proofs.branches.edges_at.Goals as goal
use Rattle.dg_retrieval.proofs.branches.edges_at.Goals.{in-Some+in_ok-push, in_default}

pub loop-step-preserved : goal.loop-step-preserved
loop-step-preserved c =
    let i : ℕ = c.loop-step.step-index in
    let now = c.loop-step.walk.items in
    elim c.match-edge_at.branch [
      | in-Some+in_ok-push w ↦ rw w.walk-is
          (edges_at_more c.args.edges.now c.args.steps.now now _ i c.loop-step-test.true c.loop-step.invariant
          (w.in_ok-push.ensures.items ∙ ap (λ o. now ++ option_to_list o) (sym (sym c.edge_at.ensures ∙ w.in-Some.is))))
      | in_default w ↦ rw w.walk-is
          (edges_at_more c.args.edges.now c.args.steps.now now now i c.loop-step-test.true c.loop-step.invariant
          (sym (append-nil now) ∙ ap (λ o. now ++ option_to_list o) (sym (sym c.edge_at.ensures ∙ w.in_default.is))))
    ]
