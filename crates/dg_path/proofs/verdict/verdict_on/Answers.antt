use Rattle.std.proofs.Common.{◌≡◌, None, sym, ◌∙◌, ap, map}
use Rattle.dg_history.specs.declared.node.NodeId.TheVariants.{Root}
use Rattle.dg_plan.specs.CertificateLines.{bad_step, potential_in, verdict_on}
use Rattle.dg_path.specs.Claims.{line_step}
use Rattle.dg_path.specs.Potentials.{potential_at}
use Rattle.dg_path.proofs.CertificateLineVerdicts.{same_potentials, valid, not_tight}
use Rattle.dg_path.proofs.verdict.verdict_on.Goals as goal
use Rattle.dg_path.proofs.verdict.verdict_on.Goals.{in-Some-first_bad_node, in-None, in-None-2}

pub returns : goal.returns
returns c =
    let weight = c.args.claim.now.weight in
    let target = c.args.target in
    let edges = c.args.edges.now in
    let p = c.in_ok-potentials.potentials in
    let is : c.match-first_bad_node.result ≡ verdict_on weight (potential_at p target) None c.first_bad_node.result =
    elim c.match-first_bad_node.branch [
      | in-Some-first_bad_node w ↦ w.result-is ∙ ap (λ b. verdict_on weight (potential_at p target) None b) (sym w.in-Some-first_bad_node.is)
      | in-None w ↦ w.result-is ∙ valid weight (potential_at p target) c.first_bad_node.result w.in-None.is (sym w.of.ensures ∙ w.if-of-claim.true)
      | in-None-2 w ↦ w.result-is ∙ not_tight weight (potential_at p target) c.first_bad_node.result w.in-None.is (λ e. w.if-of-claim.false (w.of.ensures ∙ e))
    ] in
    is
    ∙ same_potentials edges target weight (potential_at p) (potential_in weight c.args.claim.now.potentials.items)
    (bad_step edges target 1 Root (map line_step c.args.claim.now.steps.items)) c.first_bad_node.result
    (λ node. c.in_ok-potentials.ensures node ∙ ap (λ l. potential_in weight l node) c.deref-2.ensures.value)
    (ap (λ l. bad_step edges target 1 Root (map line_step l)) (sym c.deref.ensures.value) ∙ sym c.first_bad_step.ensures ∙ c.in_default.is)
    c.first_bad_node.ensures
