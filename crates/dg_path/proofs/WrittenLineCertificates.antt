-- Where lines are said to be valid, they are a certificate.
use Rattle.std.proofs.Common.{◌≡◌, ℕ, zero, suc, ◌+◌, ◌<◌, ◌≤◌, Bool, true, false, cond, List as ListOf, [], ◌∷◌, Option, Some, None, Result, Ok, Err, refl, sym, ap, subst, ◌∙◌, arith, ⊎_elim}
use Rattle.std.specs.Prelude.{◌==◌, find, slice_get}
use Rattle.std.specs.Option.{option_map}
use Rattle.std.proofs.lemmas.Bool.{eqb-true, false≢true, cases_lt, lt-ltb, and_parts}
use Rattle.std.proofs.lemmas.Option.{none-some, same_Some, slice_get-map}
use Rattle.std.proofs.lemmas.List.Sums.{sum_by-cons}
use Rattle.dg_history.specs.declared.node.NodeId.{NodeId}
use Rattle.dg_history.specs.declared.node.NodeId.TheVariants.{Root}
use Rattle.dg_plan.specs.declared.certificate.PlanLine.{PlanLine}
use Rattle.dg_plan.specs.declared.certificate.Verdict.TheVariants as verdict
use Rattle.dg_plan.specs.declared.edge.Edge.{Edge}
use Rattle.dg_plan.specs.CertificateLines.{WrittenStep, Claim, no_claim, claimed, is_as_written, bad_step, potential_in, rises_above, head_if, bad_potential, verdict_on, verdict_of, judged}
use Rattle.dg_plan.specs.IndexGraph.{arc_of, arcs_of}
use Rattle.dg_plan.specs.InstantPoint.{same_node}
use Rattle.dg_plan.specs.Walks.{Arc, Leads, weight_of, weight_in, IsCertificate}
use Rattle.dg_plan.proofs.WalkLeastCosts.{certified}
use Rattle.dg_path.specs.WrittenLines.{written_steps, written_weight, written_potentials}
use Rattle.dg_path.proofs.InstantPointNodes.{same_node_exact}
use Rattle.dg_path.proofs.WrittenLineClaims.{edges_in, weights_in, gains}

-- the edge of a number, as an arc
arc_at : (edges : ListOf Edge) (i : ℕ) (e : Edge) → slice_get edges i ≡ Some e → slice_get (arcs_of edges) i ≡ Some (arc_of e)
arc_at edges i e there = slice_get-map arc_of edges i ∙ ap (option_map arc_of) there

-- the steps are a walk, and weigh what they write
abbrev Walk : ListOf Edge → NodeId → NodeId → ListOf WrittenStep → Type 0
Walk edges reached target steps = Leads (arcs_of edges) reached (edges_in steps) target × (weight_of (arcs_of edges) (edges_in steps) ≡ weights_in steps)

steps_lead : (edges : ListOf Edge) (target : NodeId) (n : ℕ) (reached : NodeId) (steps : ListOf WrittenStep) → bad_step edges target n reached steps ≡ None → Walk edges reached target steps
steps_lead edges target n reached [] none = by (same_node reached target) refl none
  where
    by : (b : Bool) → same_node reached target ≡ b → cond b None (Some n) ≡ None → Walk edges reached target []
    by true e none = (same_node_exact reached target e, refl)
    by false e none = absurd (none-some n (sym none))
steps_lead edges target n reached (s ∷ steps) none = by (slice_get edges s.edge) refl none (steps_lead edges target (n + 1) s.head steps)
  where
    on : (e : Edge) → slice_get edges s.edge ≡ Some e → (b : Bool) → is_as_written (Some e) reached s ≡ b → cond b (bad_step edges target (n + 1) s.head steps) (Some n) ≡ None
        → (bad_step edges target (n + 1) s.head steps ≡ None → Walk edges s.head target steps) → Walk edges reached target (s ∷ steps)
    on e there false fits none go = absurd (none-some n (sym none))
    on e there true fits none go =
        let p = and_parts (same_node e.from reached) _ fits in
        let q = and_parts (same_node e.to s.head) (e.weight == s.weight) p.1 in
        let rest = go none in
        let w : e.weight ≡ s.weight = eqb-true e.weight s.weight q.1 in
        let a = sum_by-cons (λ i. weight_in (slice_get (arcs_of edges) i)) s.edge (edges_in steps) in
        let b = ap (λ o. weight_in o) (arc_at edges s.edge e there) in
        let c = sum_by-cons (λ (s : WrittenStep). s.weight) s steps in
        let r = rest.1 in (
          (arc_of e, arc_at edges s.edge e there, same_node_exact e.from reached p.0, subst (λ x. Leads (arcs_of edges) x (edges_in steps) target) (sym (same_node_exact e.to s.head q.0)) rest.0),
          a ∙ (λ i. b i + r i) ∙ (λ i. w i + weights_in steps) ∙ sym c,
        )

    by : (o : Option Edge) → slice_get edges s.edge ≡ o → cond (is_as_written o reached s) (bad_step edges target (n + 1) s.head steps) (Some n) ≡ None
        → (bad_step edges target (n + 1) s.head steps ≡ None → Walk edges s.head target steps) → Walk edges reached target (s ∷ steps)
    by None there none go = absurd (none-some n (sym none))
    by (Some e) there none go = on e there (is_as_written (Some e) reached s) refl none go

-- no edge rises more than its weight
none_rises : (potential : NodeId → ℕ) (edges : ListOf Edge) → head_if (find (rises_above potential) edges) ≡ None → (i : ℕ) (e : Arc NodeId) → slice_get (arcs_of edges) i ≡ Some e → potential e.to ≤ potential e.from + e.weight
none_rises potential [] none i e there = absurd (none-some e there)
none_rises potential (x ∷ edges) none i e there = by (rises_above potential x) refl none i there (none_rises potential edges)
  where
    by : (b : Bool) → rises_above potential x ≡ b → head_if (cond b (Some x) (find (rises_above potential) edges)) ≡ None → (i : ℕ) → slice_get (arcs_of (x ∷ edges)) i ≡ Some e
        → (head_if (find (rises_above potential) edges) ≡ None → (j : ℕ) (o : Arc NodeId) → slice_get (arcs_of edges) j ≡ Some o → potential o.to ≤ potential o.from + o.weight) → potential e.to ≤ potential e.from + e.weight
    by true t none i there go = absurd (none-some x.to (sym none))
    by false t none zero there go =
        let low : potential x.to ≤ potential x.from + x.weight =
        ⊎_elim (λ (h : potential x.from + x.weight < potential x.to). absurd (false≢true (sym t ∙ lt-ltb _ _ h))) (λ (h : potential x.to ≤ potential x.from + x.weight). h) (cases_lt (potential x.from + x.weight) (potential x.to)) in
        subst (λ (o : Arc NodeId). potential o.to ≤ potential o.from + o.weight) (same_Some _ _ there) low
    by false t none (suc i) there go = go none i e there

-- what was not said
all_well : (weight at_target : ℕ) (step : Option ℕ) (node : Option NodeId) → verdict_on weight at_target step node ≡ verdict.Valid → (step ≡ None) × (node ≡ None) × (at_target ≡ weight)
all_well weight at_target (Some n) bad e = absurd cc
all_well weight at_target None (Some v) e = absurd cc
all_well weight at_target None None e = (refl, refl, by (at_target == weight) refl e)
  where
    by : (b : Bool) → (at_target == weight) ≡ b → cond b verdict.Valid verdict.NotTight ≡ verdict.Valid → at_target ≡ weight
    by true t e = eqb-true at_target weight t
    by false t e = absurd cc

root_is_low : (potential : NodeId → ℕ) (edges : ListOf Edge) → bad_potential edges potential ≡ None → (potential Root ≡ 0) × (head_if (find (rises_above potential) edges) ≡ None)
root_is_low potential edges none = by (potential Root == 0) refl none
  where
    by : (b : Bool) → (potential Root == 0) ≡ b → cond b (head_if (find (rises_above potential) edges)) (Some Root) ≡ None → (potential Root ≡ 0) × (head_if (find (rises_above potential) edges) ≡ None)
    by true t none = (eqb-true (potential Root) 0 t, none)
    by false t none = absurd (none-some Root (sym none))

valid_claim : (edges : ListOf Edge) (target : NodeId) (c : Claim) → c.weight ≡ weights_in c.steps → verdict_of edges target (Ok c) ≡ verdict.Valid
    → IsCertificate (arcs_of edges) Root target (potential_in c.weight c.potentials) (edges_in c.steps) c.weight
valid_claim edges target c sum valid =
    let potential : NodeId → ℕ = potential_in c.weight c.potentials in
    let w = all_well c.weight (potential target) (bad_step edges target 1 Root c.steps) (bad_potential edges potential) valid in
    let s = steps_lead edges target 1 Root c.steps w.0 in
    let r = root_is_low potential edges w.1 in
    record { walk = s.0; root_at_zero = r.0; rises = none_rises potential edges r.1; at_target = w.2; tight = s.1 ∙ sym sum }

-- what lines write is a certificate
abbrev pub Certify : ListOf Edge → NodeId → ListOf (Option PlanLine) → Type 0
Certify edges target lines = IsCertificate (arcs_of edges) Root target (potential_in (written_weight lines) (written_potentials lines)) (written_steps lines) (written_weight lines)

pub valid_lines_certify : (edges : ListOf Edge) (nodes : ListOf NodeId) (target : NodeId) (lines : ListOf (Option PlanLine)) → judged edges nodes target lines ≡ verdict.Valid → Certify edges target lines
valid_lines_certify edges nodes target lines valid = by (claimed nodes 1 no_claim lines) refl valid
  where
    by : (o : Result Claim ℕ) → claimed nodes 1 no_claim lines ≡ o → verdict_of edges target o ≡ verdict.Valid → Certify edges target lines
    by (Err n) e valid = absurd cc
    by (Ok c) e valid =
        let g = gains nodes 1 no_claim c lines e in
        let w : c.weight ≡ written_weight lines = (let a = g.weight in omega arith) in
        subst (λ n. IsCertificate (arcs_of edges) Root target (potential_in n (written_potentials lines)) (written_steps lines) n) w
        (subst (λ p. IsCertificate (arcs_of edges) Root target (potential_in c.weight p) (written_steps lines) c.weight) g.potentials
        (subst (λ s. IsCertificate (arcs_of edges) Root target (potential_in c.weight c.potentials) s c.weight) g.steps
        (valid_claim edges target c (g.sums refl) valid)))

-- no walk to the target weighs less
pub valid_lines_are_least : (edges : ListOf Edge) (nodes : ListOf NodeId) (target : NodeId) (lines : ListOf (Option PlanLine)) → judged edges nodes target lines ≡ verdict.Valid
    → (others : ListOf ℕ) → Leads (arcs_of edges) Root others target → weight_of (arcs_of edges) (written_steps lines) ≤ weight_of (arcs_of edges) others
valid_lines_are_least edges nodes target lines valid others leads =
    let c = valid_lines_certify edges nodes target lines valid in
    let low = certified (arcs_of edges) Root target (potential_in (written_weight lines) (written_potentials lines)) (written_steps lines) (written_weight lines) c others leads in
    let t = c.tight in
    omega arith
