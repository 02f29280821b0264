-- What the lines that were read claim, as the definitions have it.
use Rattle.std.specs.Prelude.{ℕ, [], Option, Some, Result, Ok, Err, map}
use Rattle.dg_plan.specs.declared.certificate.PlanLine.TheVariants.{Step}
use Rattle.dg_plan.specs.CertificateLines as lines
use Rattle.dg_path.specs.declared.claim.Claim.{Claim}
use Rattle.dg_path.specs.declared.claim.WrittenStep.{WrittenStep}

abbrev pub line_step : WrittenStep → lines.WrittenStep
line_step s = record { edge = s.edge; head = s.head; weight = s.weight }

abbrev pub claim_of : Claim → lines.Claim
claim_of c = record { steps = map line_step c.steps.items; weight = c.weight; potentials = c.potentials.items; next = c.next }

-- the claim with one more step, unless its line is bad, for which the nodes do not matter
abbrev pub with_step : lines.Claim → lines.WrittenStep → Option lines.Claim
with_step c s = lines.claim_with [] c (Some (Step s.edge s.head s.weight))

-- what was read, or the number of the first bad line
abbrev pub read_of : Result Claim ℕ → Result lines.Claim ℕ
read_of (Ok c) = Ok (claim_of c)
read_of (Err line) = Err line
