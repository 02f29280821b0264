use Rattle.std.proofs.Common.{ℕ, ◌++◌, get_or, sym, ◌∙◌, ap}
use Rattle.std.proofs.lemmas.List.{append-nil}
use Rattle.dg_machine.specs.Answer.{step_if}
use Rattle.dg_ask.proofs.AnswerPlans.{step_more}
use Rattle.dg_ask.proofs.plans.add_steps.Goals as goal
use Rattle.dg_ask.proofs.plans.add_steps.Goals.{in-Some+in_ok-push, in_default}

pub loop-step-preserved : goal.loop-step-preserved
loop-step-preserved c =
    let i : ℕ = c.loop-step.step-index in
    let s : ℕ = get_or c.args.steps.now i 0 in
    let now = c.loop-step.lines.items in
    elim c.match-edge_at.branch [
      | in-Some+in_ok-push w ↦ rw w.lines-is
          (step_more c.args.edges.now c.args.steps.now c.args.lines.now.items now _ i c.loop-step-test.true c.loop-step.invariant
          (w.in_ok-push.ensures.items ∙ ap (λ o. now ++ step_if s o) (sym (sym c.edge_at.ensures ∙ w.in-Some.is))))
      | in_default w ↦ rw w.lines-is
          (step_more c.args.edges.now c.args.steps.now c.args.lines.now.items now now i c.loop-step-test.true c.loop-step.invariant
          (sym (append-nil now) ∙ ap (λ o. now ++ step_if s o) (sym (sym c.edge_at.ensures ∙ w.in_default.is))))
    ]
