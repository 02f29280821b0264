use Rattle.std.proofs.Common.{◌≡◌, ◌≤◌, ℕ, List, Ok, ap, ◌∙◌, sym}
use Rattle.dg_history.specs.declared.node.NodeId.TheVariants.{Root}
use Rattle.dg_plan.specs.declared.certificate.Verdict.TheVariants.{Valid}
use Rattle.dg_plan.specs.CertificateLines.{verdict_of, judged}
use Rattle.dg_plan.specs.IndexGraph.{arcs_of}
use Rattle.dg_plan.specs.Walks.{Leads, weight_of}
use Rattle.dg_path.specs.Claims.{claim_of, read_of}
use Rattle.dg_path.specs.WrittenLines.{written_steps}
use Rattle.dg_path.proofs.WrittenLineCertificates.{Certify, valid_lines_certify, valid_lines_are_least}
use Rattle.dg_path.proofs.CertificateLineVerdicts.{weaker}
use Rattle.dg_path.proofs.verdict.certify.Goals as goal

-- what was said of what was read is what is said of the lines
said : (c : goal.After-drop-claim-in-Ok) → verdict_of c.args.edges.now c.args.target (Ok (claim_of c.in-Ok.claim)) ≡ judged c.args.edges.now c.args.nodes.now c.args.target c.args.lines.now
said c = ap (λ r. verdict_of c.args.edges.now c.args.target (read_of r)) (sym c.in-Ok.is) ∙ ap (verdict_of c.args.edges.now c.args.target) c.in_ok-claim.ensures.claimed

pub returns-in-Ok-clause-certificate : goal.returns-in-Ok-clause-certificate
returns-in-Ok-clause-certificate c =
    weaker c.verdict_on.result (λ v. v ≡ verdict_of c.args.edges.now c.args.target (Ok (claim_of c.in-Ok.claim))) (λ v. v ≡ Valid → Certify c.args.edges.now c.args.target c.args.lines.now)
    (λ v is valid. valid_lines_certify c.args.edges.now c.args.nodes.now c.args.target c.args.lines.now (sym (is ∙ said c) ∙ valid)) c.verdict_on.ensures

pub returns-in-Ok-clause-sound : goal.returns-in-Ok-clause-sound
returns-in-Ok-clause-sound c =
    weaker c.verdict_on.result (λ v. v ≡ verdict_of c.args.edges.now c.args.target (Ok (claim_of c.in-Ok.claim)))
    (λ v. v ≡ Valid → (others : List ℕ) → Leads (arcs_of c.args.edges.now) Root others c.args.target → weight_of (arcs_of c.args.edges.now) (written_steps c.args.lines.now) ≤ weight_of (arcs_of c.args.edges.now) others)
    (λ v is valid. valid_lines_are_least c.args.edges.now c.args.nodes.now c.args.target c.args.lines.now (sym (is ∙ said c) ∙ valid)) c.verdict_on.ensures
