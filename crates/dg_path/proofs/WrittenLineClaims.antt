-- What lines write is what they claim, where none of them is bad.
use Rattle.std.proofs.Common.{◌≡◌, ℕ, ◌+◌, Bool, true, false, cond, List, [], ◌∷◌, ◌++◌, Option, Some, None, Ok, map, refl, sym, subst, ◌∙◌, append_assoc, arith}
use Rattle.std.specs.Prelude.{◌||◌, nat_le, nat_lt, position, drop}
use Rattle.std.specs.List.{sum_by}
use Rattle.std.proofs.lemmas.List.{map-append, append-nil}
use Rattle.std.proofs.lemmas.List.Sums.{sum_by_push}
use Rattle.std.proofs.lemmas.Option.{none-some, same_Some}
use Rattle.dg_graph.specs.declared.limits.TheConstants.{TIME_MAX}
use Rattle.dg_history.specs.declared.node.NodeId.{NodeId}
use Rattle.dg_plan.specs.declared.certificate.PlanLine.{PlanLine}
use Rattle.dg_plan.specs.declared.certificate.PlanLine.TheVariants as plan_line
use Rattle.dg_plan.specs.CertificateLines.{WrittenStep, Claim, claim_with, with_potential, claim_or, claimed}
use Rattle.dg_plan.specs.InstantPoint.{same_node}
use Rattle.dg_path.specs.WrittenLines.{written_steps, written_weight, written_potentials}

abbrev pub edges_in : List WrittenStep → List ℕ
edges_in steps = map (λ (s : WrittenStep). s.edge) steps

abbrev pub weights_in : List WrittenStep → ℕ
weights_in steps = sum_by (λ (s : WrittenStep). s.weight) steps

-- the second claim is the first with what the lines write
pub record Gains (c d : Claim) (lines : List (Option PlanLine)) : Type 0 where
  pub steps : edges_in d.steps ≡ edges_in c.steps ++ written_steps lines
  pub weight : d.weight ≡ c.weight + written_weight lines
  pub potentials : d.potentials ≡ c.potentials ++ written_potentials lines
  pub sums : c.weight ≡ weights_in c.steps → d.weight ≡ weights_in d.steps

with_step : Claim → ℕ → NodeId → ℕ → Claim
with_step c edge head weight = record c { steps = c.steps ++ record { edge = edge; head = head; weight = weight } ∷ []; weight = c.weight + weight }

gains_step : (c d : Claim) (edge : ℕ) (head : NodeId) (weight : ℕ) (bad : Bool) → cond bad None (Some (with_step c edge head weight)) ≡ Some d → Gains c d (Some (plan_line.Step edge head weight) ∷ [])
unfolding with_step
gains_step c d edge head weight true e = absurd (none-some d e)
gains_step c d edge head weight false e = subst (λ (x : Claim). Gains c x (Some (plan_line.Step edge head weight) ∷ [])) (same_Some _ _ e) (record {
  steps = map-append (λ (s : WrittenStep). s.edge) c.steps (record { edge = edge; head = head; weight = weight } ∷ []);
  weight = omega arith;
  potentials = sym (append-nil c.potentials);
  sums = λ sum. (λ i. sum i + weight) ∙ sym (sum_by_push (λ (s : WrittenStep). s.weight) c.steps (record { edge = edge; head = head; weight = weight }));
})

gains_potential : (c d : Claim) (node : NodeId) (value : ℕ) (index : Option ℕ) → with_potential c node value index ≡ Some d → Gains c d (Some (plan_line.Potential node value) ∷ [])
gains_potential c d node value None e = absurd (none-some d e)
gains_potential c d node value (Some past) e = by (nat_le c.weight value) e
  where
    by : (b : Bool) → cond b None (Some (record c { potentials = c.potentials ++ (node, value) ∷ []; next = c.next + past + 1 })) ≡ Some d → Gains c d (Some (plan_line.Potential node value) ∷ [])
    by true e = absurd (none-some d e)
    by false e = subst (λ (x : Claim). Gains c x (Some (plan_line.Potential node value) ∷ [])) (same_Some _ _ e) (record {
      steps = sym (append-nil (edges_in c.steps));
      weight = omega arith;
      potentials = refl;
      sums = λ sum. sum;
    })

gains_one : (nodes : List NodeId) (c d : Claim) (line : Option PlanLine) → claim_with nodes c line ≡ Some d → Gains c d (line ∷ [])
unfolding with_step
gains_one nodes c d None e = absurd (none-some d e)
gains_one nodes c d (Some (plan_line.Step edge head weight)) e = gains_step c d edge head weight (nat_lt 0 c.next || nat_lt TIME_MAX (c.weight + weight)) e
gains_one nodes c d (Some (plan_line.Potential node value)) e = gains_potential c d node value (position (same_node node) (drop c.next nodes)) e

front_steps : (line : Option PlanLine) (lines : List (Option PlanLine)) → written_steps (line ∷ lines) ≡ written_steps (line ∷ []) ++ written_steps lines
front_steps None lines = refl
front_steps (Some (plan_line.Step edge head weight)) lines = refl
front_steps (Some (plan_line.Potential node value)) lines = refl

front_weight : (line : Option PlanLine) (lines : List (Option PlanLine)) → written_weight (line ∷ lines) ≡ written_weight (line ∷ []) + written_weight lines
front_weight None lines = omega arith
front_weight (Some (plan_line.Step edge head weight)) lines = omega arith
front_weight (Some (plan_line.Potential node value)) lines = omega arith

front_potentials : (line : Option PlanLine) (lines : List (Option PlanLine)) → written_potentials (line ∷ lines) ≡ written_potentials (line ∷ []) ++ written_potentials lines
front_potentials None lines = refl
front_potentials (Some (plan_line.Step edge head weight)) lines = refl
front_potentials (Some (plan_line.Potential node value)) lines = refl

gains_more : (c d e : Claim) (line : Option PlanLine) (lines : List (Option PlanLine)) → Gains c d (line ∷ []) → Gains d e lines → Gains c e (line ∷ lines)
gains_more c d e line lines one more = record {
  steps = more.steps ∙ (λ i. one.steps i ++ written_steps lines) ∙ append_assoc (edges_in c.steps) (written_steps (line ∷ [])) (written_steps lines) ∙ (λ i. edges_in c.steps ++ sym (front_steps line lines) i);
  weight = (let w = front_weight line lines in let a = one.weight in let b = more.weight in omega arith);
  potentials = more.potentials ∙ (λ i. one.potentials i ++ written_potentials lines) ∙ append_assoc c.potentials (written_potentials (line ∷ [])) (written_potentials lines) ∙ (λ i. c.potentials ++ sym (front_potentials line lines) i);
  sums = λ sum. more.sums (one.sums sum);
}

gains_nothing : (c : Claim) → Gains c c []
gains_nothing c = record { steps = sym (append-nil (edges_in c.steps)); weight = omega arith; potentials = sym (append-nil c.potentials); sums = λ sum. sum }

-- a claim that lines make of another
pub gains : (nodes : List NodeId) (n : ℕ) (c d : Claim) (lines : List (Option PlanLine)) → claimed nodes n c lines ≡ Ok d → Gains c d lines
gains nodes n c d [] e = subst (λ (x : Claim). Gains c x []) (let same : c ≡ d = cc in same) (gains_nothing c)
gains nodes n c d (line ∷ lines) e = by (claim_with nodes c line) refl e (λ next. gains nodes (n + 1) next d lines)
  where
    by : (o : Option Claim) → claim_with nodes c line ≡ o → claim_or n (λ next. claimed nodes (n + 1) next lines) o ≡ Ok d
        → ((next : Claim) → claimed nodes (n + 1) next lines ≡ Ok d → Gains next d lines) → Gains c d (line ∷ lines)
    by None is e go = absurd cc
    by (Some next) is e go = gains_more c next d line lines (gains_one nodes c next line is) (go next e)
