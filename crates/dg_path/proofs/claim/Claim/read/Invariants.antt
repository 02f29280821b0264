use Rattle.std.proofs.Common.{◌≡◌, ◌+◌, ◌≤◌, length, drop}
use Rattle.dg_graph.specs.declared.limits.TheConstants.{TIME_MAX}
use Rattle.dg_plan.specs.CertificateLines.{no_claim, claimed}
use Rattle.dg_path.specs.Claims.{claim_of}
use Rattle.dg_path.proofs.claim.Claim.read.Given as goal

abbrev pub invariant-loop-line : goal.invariant-loop-line
invariant-loop-line l = record {
  number : l.number ≡ l.line-index + 1;
  claimed : claimed l.nodes l.number (claim_of l.claim) (drop l.line-index l.lines) ≡ claimed l.nodes 1 no_claim l.lines;
  fits : l.claim.weight ≤ TIME_MAX;
  within : l.claim.next ≤ length l.nodes;
  few : length l.claim.steps.items ≤ l.line-index;
}
