-- What is said of a claim, part by part.
use Rattle.std.proofs.Common.{◌≡◌, ◌≢◌, ℕ, cond, List, Option, None, Result, Ok, Err, sym, ap, ◌∙◌}
use Rattle.std.specs.Result.{IfOk}
use Rattle.dg_history.specs.declared.node.NodeId.{NodeId}
use Rattle.dg_plan.specs.declared.edge.Edge.{Edge}
use Rattle.std.proofs.lemmas.Bool.{eq-eqb, ne_eqb}
use Rattle.dg_plan.specs.declared.certificate.Verdict.TheVariants as verdict
use Rattle.dg_plan.specs.CertificateLines.{bad_potential, verdict_on}

-- potentials that are the same at each node say the same
pub same_potentials : (edges : List Edge) (target : NodeId) (weight : ℕ) (p q : NodeId → ℕ) (step : Option ℕ) (bad : Option NodeId) → ((node : NodeId) → p node ≡ q node) → step ≡ None → bad ≡ bad_potential edges p
    → verdict_on weight (p target) None bad ≡ verdict_on weight (q target) step (bad_potential edges q)
same_potentials edges target weight p q step bad same none is =
    (λ i. verdict_on weight (p target) (sym none i) (is i)) ∙ (λ i. verdict_on weight (same target i) step (bad_potential edges (λ node. same node i)))

-- where nothing is bad, the potential of the target decides
pub valid : (weight at_target : ℕ) (bad : Option NodeId) → bad ≡ None → at_target ≡ weight → verdict.Valid ≡ verdict_on weight at_target None bad
valid weight at_target bad none e = ap (λ b. cond b verdict.Valid verdict.NotTight) (sym (eq-eqb at_target weight e)) ∙ ap (verdict_on weight at_target None) (sym none)

pub not_tight : (weight at_target : ℕ) (bad : Option NodeId) → bad ≡ None → at_target ≢ weight → verdict.NotTight ≡ verdict_on weight at_target None bad
not_tight weight at_target bad none e = ap (λ b. cond b verdict.Valid verdict.NotTight) (sym (ne_eqb at_target weight e)) ∙ ap (verdict_on weight at_target None) (sym none)

-- a fact of what was returned leads to another
pub weaker : {T E : Type 0} (r : Result T E) (P Q : T → Type 0) → ((x : T) → P x → Q x) → IfOk r P → IfOk r Q
weaker (Ok x) P Q leads p = leads x p
weaker (Err e) P Q leads p = tt
