use Rattle.std.proofs.Common.{◌≡◌, ◌+◌, drop, map}
use Rattle.dg_history.specs.declared.node.NodeId.TheVariants.{Root}
use Rattle.dg_plan.specs.CertificateLines.{bad_step}
use Rattle.dg_path.specs.Claims.{line_step}
use Rattle.dg_path.proofs.walk.first_bad_step.Given as goal

abbrev pub invariant-loop-step : goal.invariant-loop-step
invariant-loop-step l = record {
  number : l.number ≡ l.step-index + 1;
  rest : bad_step l.edges l.target l.number l.reached (map line_step (drop l.step-index l.steps)) ≡ bad_step l.edges l.target 1 Root (map line_step l.steps);
}
