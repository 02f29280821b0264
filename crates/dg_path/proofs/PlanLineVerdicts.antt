-- The lines of a plan whose potentials certify it are valid.
use Rattle.std.proofs.Common.{◌≡◌, ◌≢◌, ℕ, zero, suc, ◌+◌, ◌<◌, ◌≤◌, Bool, true, false, cond, List as ListOf, [], ◌∷◌, ◌++◌, length, drop, min, Option, Some, None, Ok, refl, sym, ap, subst, ◌∙◌, append_assoc, arith}
use Rattle.std.specs.Prelude.{not, ◌&&◌, AllPairs, find, nat_le, nat_lt, position, slice_get, zip}
use Rattle.std.specs.List.{flat_map, Contains, position_or_len}
use Rattle.std.proofs.lemmas.Bool.{eq-eqb, false≢true, lt-ltb, le-ltb, lt-leb, ltb-true, ltb-false}
use Rattle.std.proofs.lemmas.List.{append-nil, drop-drop}
use Rattle.std.proofs.lemmas.Option.{none-some, same_Some}
use Rattle.dg_graph.specs.declared.limits.TheConstants.{TIME_MAX}
use Rattle.dg_history.specs.declared.node.NodeId.{NodeId}
use Rattle.dg_history.specs.declared.node.NodeId.TheVariants as node
use Rattle.dg_plan.specs.declared.certificate.PlanLine.{PlanLine}
use Rattle.dg_plan.specs.declared.certificate.PlanLine.TheVariants as plan_line
use Rattle.dg_plan.specs.declared.certificate.Verdict.TheVariants as verdict
use Rattle.dg_plan.specs.declared.edge.Edge.{Edge}
use Rattle.dg_plan.specs.CertificateLines.{WrittenStep, Claim, no_claim, claim_with, claim_or, claimed, with_potential, is_as_written, bad_step, potential_in, rises_above, head_if, bad_potential, verdict_on, verdict_of}
use Rattle.dg_plan.specs.IndexGraph.{arc_of, arcs_of}
use Rattle.dg_plan.specs.InstantPoint.{same_node}
use Rattle.dg_plan.specs.Walks.{Arc, Cost, Leads, weight_of}
use Rattle.dg_plan.proofs.WalkCosts.{cost_front}
use Rattle.dg_path.specs.PlanLines.{step_line, potential_line, plan_lines, PlansAreCertified}
use Rattle.dg_path.proofs.InstantPointNodes.{same_node_exact}

-- a node is the same as itself
same_node_itself : (a : NodeId) → same_node a a ≡ true
same_node_itself node.Root = refl
same_node_itself node.Now = refl
same_node_itself node.Recent = refl
same_node_itself (node.Leaf i) = eq-eqb i i refl
same_node_itself (node.List i) = eq-eqb i i refl
same_node_itself (node.Inner h i) = λ k. eq-eqb h h refl k && eq-eqb i i refl k

edge_at : (edges : ListOf Edge) (i : ℕ) (a : Arc NodeId) → slice_get (arcs_of edges) i ≡ Some a → (e : Edge) × (slice_get edges i ≡ Some e) × (arc_of e ≡ a)
edge_at [] i a is = absurd (none-some a is)
edge_at (e ∷ edges) zero a is = (e, refl, same_Some _ _ is)
edge_at (e ∷ edges) (suc i) a is = edge_at edges i a is

-- ---- the steps

abbrev as_written : ℕ → Edge → WrittenStep
as_written i e = record { edge = i; head = e.to; weight = e.weight }

abbrev step_written : ℕ → Option Edge → ListOf WrittenStep
step_written i None = []
step_written i (Some e) = as_written i e ∷ []

abbrev steps_written : ListOf Edge → ListOf ℕ → ListOf WrittenStep
steps_written edges steps = flat_map (λ i. step_written i (slice_get edges i)) steps

abbrev step_lines : ListOf Edge → ListOf ℕ → ListOf (Option PlanLine)
step_lines edges steps = flat_map (λ i. step_line i (slice_get edges i)) steps

-- a claim of steps alone
abbrev of_steps : ListOf WrittenStep → ℕ → Claim
of_steps steps weight = record { steps = steps; weight = weight; potentials = []; next = 0 }

step_claimed : (nodes : ListOf NodeId) (had : ListOf WrittenStep) (sum i : ℕ) (e : Edge) → sum + e.weight ≤ TIME_MAX
    → claim_with nodes (of_steps had sum) (Some (plan_line.Step i e.to e.weight)) ≡ Some (of_steps (had ++ as_written i e ∷ []) (sum + e.weight))
step_claimed nodes had sum i e fits = ap (λ b. cond b None (Some (of_steps (had ++ as_written i e ∷ []) (sum + e.weight)))) (le-ltb TIME_MAX (sum + e.weight) fits)

steps_claimed : (edges : ListOf Edge) (nodes : ListOf NodeId) (b : NodeId) (rest : ListOf (Option PlanLine)) (n : ℕ) (had : ListOf WrittenStep) (sum : ℕ) (a : NodeId) (steps : ListOf ℕ)
    → Leads (arcs_of edges) a steps b → sum + weight_of (arcs_of edges) steps ≤ TIME_MAX
    → (m : ℕ) × (claimed nodes n (of_steps had sum) (step_lines edges steps ++ rest) ≡ claimed nodes m (of_steps (had ++ steps_written edges steps) (sum + weight_of (arcs_of edges) steps)) rest)
steps_claimed edges nodes b rest n had sum a [] leads fits =
    (n, λ k. claimed nodes n (of_steps (sym (append-nil had) k) (let h : sum ≡ sum + 0 = omega arith in h k)) rest)
steps_claimed edges nodes b rest n had sum a (i ∷ steps) leads fits =
    let found = edge_at edges i leads.0 leads.1 in
    let e : Edge = found.0 in
    let cost : weight_of (arcs_of edges) (i ∷ steps) ≡ leads.0.weight + weight_of (arcs_of edges) steps = ap (λ (c : Cost). c.0) (cost_front (arcs_of edges) i steps leads.0 leads.1) in
    let same : e.weight ≡ leads.0.weight = ap (λ (x : Arc NodeId). x.weight) found.2 in
    let go = steps_claimed edges nodes b rest (n + 1) (had ++ as_written i e ∷ []) (sum + e.weight) leads.0.to steps leads.3 (omega arith) in
    let first : claimed nodes n (of_steps had sum) (step_lines edges (i ∷ steps) ++ rest) ≡ claimed nodes n (of_steps had sum) (Some (plan_line.Step i e.to e.weight) ∷ (step_lines edges steps ++ rest)) =
    ap (λ o. claimed nodes n (of_steps had sum) ((step_line i o ++ step_lines edges steps) ++ rest)) found.1 in
    let one = ap (claim_or n (λ next. claimed nodes (n + 1) next (step_lines edges steps ++ rest))) (step_claimed nodes had sum i e (omega arith)) in
    let written : (had ++ as_written i e ∷ []) ++ steps_written edges steps ≡ had ++ steps_written edges (i ∷ steps) =
    append_assoc had (as_written i e ∷ []) (steps_written edges steps) ∙ ap (λ o. had ++ (step_written i o ++ steps_written edges steps)) (sym found.1) in
    let sums : sum + e.weight + weight_of (arcs_of edges) steps ≡ sum + weight_of (arcs_of edges) (i ∷ steps) = omega arith in
    (go.0, first ∙ one ∙ go.1 ∙ (λ k. claimed nodes go.0 (of_steps (written k) (sums k)) rest))

-- no step is bad
steps_are_good : (edges : ListOf Edge) (target : NodeId) (n : ℕ) (reached : NodeId) (steps : ListOf ℕ) → Leads (arcs_of edges) reached steps target → bad_step edges target n reached (steps_written edges steps) ≡ None
steps_are_good edges target n reached [] leads =
    ap (λ b. cond b None (Some n)) (ap (same_node reached) (sym leads) ∙ same_node_itself reached)
steps_are_good edges target n reached (i ∷ steps) leads =
    let found = edge_at edges i leads.0 leads.1 in
    let e : Edge = found.0 in
    let from : e.from ≡ reached = ap (λ (x : Arc NodeId). x.from) found.2 ∙ leads.2 in
    let to : leads.0.to ≡ e.to = sym (ap (λ (x : Arc NodeId). x.to) found.2) in
    let alike : is_as_written (Some e) reached (as_written i e) ≡ true =
    (λ k. (ap (λ v. same_node v reached) from ∙ same_node_itself reached) k && (same_node_itself e.to k && eq-eqb e.weight e.weight refl k)) in
    let fits : is_as_written (slice_get edges i) reached (as_written i e) ≡ true = ap (λ o. is_as_written o reached (as_written i e)) found.1 ∙ alike in
    ap (λ o. bad_step edges target n reached (step_written i o ++ steps_written edges steps)) found.1
    ∙ ap (λ b. cond b (bad_step edges target (n + 1) e.to (steps_written edges steps)) (Some n)) fits
    ∙ steps_are_good edges target (n + 1) e.to steps (subst (λ v. Leads (arcs_of edges) v steps target) to leads.3)

-- ---- the potentials

abbrev shown : ℕ → ListOf (NodeId × ℕ) → ListOf (NodeId × ℕ)
shown weight [] = []
shown weight (p ∷ ps) = cond (nat_lt p.1 weight) (p ∷ []) [] ++ shown weight ps

-- a node that stands behind a gap is found, and what stands behind it stands behind some gap
found_behind : (v : NodeId) (gap back : ListOf NodeId)
    → (position_or_len (same_node v) (gap ++ v ∷ back) < length (gap ++ v ∷ back)) × (more : ListOf NodeId) × (drop (suc (position_or_len (same_node v) (gap ++ v ∷ back))) (gap ++ v ∷ back) ≡ more ++ back)
found_behind v [] back = by (same_node v v) (same_node_itself v)
  where
    by : (b : Bool) → b ≡ true → (cond (not b) (1 + position_or_len (same_node v) back) 0 < suc (length back)) × (more : ListOf NodeId) × (drop (suc (cond (not b) (1 + position_or_len (same_node v) back) 0)) (v ∷ back) ≡ more ++ back)
    by true e = (omega arith, [], refl)
    by false e = absurd (false≢true e)
found_behind v (x ∷ gap) back = by (same_node v x) (found_behind v gap back)
  where
    by : (b : Bool) → (position_or_len (same_node v) (gap ++ v ∷ back) < length (gap ++ v ∷ back)) × (more : ListOf NodeId) × (drop (suc (position_or_len (same_node v) (gap ++ v ∷ back))) (gap ++ v ∷ back) ≡ more ++ back)
        → (cond (not b) (1 + position_or_len (same_node v) (gap ++ v ∷ back)) 0 < suc (length (gap ++ v ∷ back)))
        × (more : ListOf NodeId) × (drop (suc (cond (not b) (1 + position_or_len (same_node v) (gap ++ v ∷ back)) 0)) (x ∷ (gap ++ v ∷ back)) ≡ more ++ back)
    by true r = (omega arith, gap ++ v ∷ [], sym (append_assoc gap (v ∷ []) back))
    by false r =
        let past : ℕ = position_or_len (same_node v) (gap ++ v ∷ back) in
        ((let h = r.0 in omega arith), r.1, ap (λ k. drop k (gap ++ v ∷ back)) (let h : 1 + past ≡ suc past = omega arith in h) ∙ r.2)

abbrev with_potentials : ListOf WrittenStep → ℕ → ListOf (NodeId × ℕ) → ℕ → Claim
with_potentials steps weight potentials next = record { steps = steps; weight = weight; potentials = potentials; next = next }

-- the lines from number n on add these potentials to those that the claim had
abbrev Adds : ListOf NodeId → ListOf WrittenStep → ℕ → ℕ → ListOf (NodeId × ℕ) → ℕ → ListOf (Option PlanLine) → ListOf (NodeId × ℕ) → Type 0
Adds nodes steps weight n had next lines more = (end : ℕ) × (claimed nodes n (with_potentials steps weight had next) lines ≡ Ok (with_potentials steps weight (had ++ more) end))

-- the potentials of the nodes behind a gap are taken
potentials_claimed : (nodes : ListOf NodeId) (steps : ListOf WrittenStep) (weight n : ℕ) (had : ListOf (NodeId × ℕ)) (next : ℕ) (gap back : ListOf NodeId) (ps : ListOf ℕ) → drop next nodes ≡ gap ++ back
    → Adds nodes steps weight n had next (flat_map (potential_line weight) (zip back ps)) (shown weight (zip back ps))
potentials_claimed nodes steps weight n had next gap [] ps at = (next, λ k. Ok (with_potentials steps weight (sym (append-nil had) k) next))
potentials_claimed nodes steps weight n had next gap (v ∷ back) [] at = (next, λ k. Ok (with_potentials steps weight (sym (append-nil had) k) next))
potentials_claimed nodes steps weight n had next gap (v ∷ back) (p ∷ ps) at =
    by (nat_lt p weight) refl (λ m kept from more. potentials_claimed nodes steps weight m kept from more back ps)
  where
    by : (b : Bool) → nat_lt p weight ≡ b
        → ((m : ℕ) (kept : ListOf (NodeId × ℕ)) (from : ℕ) (more : ListOf NodeId) → drop from nodes ≡ more ++ back → Adds nodes steps weight m kept from (flat_map (potential_line weight) (zip back ps)) (shown weight (zip back ps)))
        → Adds nodes steps weight n had next (cond b (Some (plan_line.Potential v p) ∷ []) [] ++ flat_map (potential_line weight) (zip back ps)) (cond b ((v, p) ∷ []) [] ++ shown weight (zip back ps))
    by false is go = go n had next (gap ++ v ∷ []) (at ∙ sym (append_assoc gap (v ∷ []) back))
    by true is go =
        let place = found_behind v gap back in
        let past : ℕ = position_or_len (same_node v) (gap ++ v ∷ back) in
        let there : position (same_node v) (drop next nodes) ≡ Some past = ap (position (same_node v)) at ∙ ap (λ b. cond b (Some past) None) (lt-ltb past (length (gap ++ v ∷ back)) place.0) in
        let low : nat_le weight p ≡ false = lt-leb weight p (ltb-true p weight is) in
        let taken : claim_with nodes (with_potentials steps weight had next) (Some (plan_line.Potential v p)) ≡ Some (with_potentials steps weight (had ++ (v, p) ∷ []) (next + past + 1)) =
        ap (with_potential (with_potentials steps weight had next) v p) there ∙ ap (λ b. cond b None (Some (with_potentials steps weight (had ++ (v, p) ∷ []) (next + past + 1)))) low in
        let behind : drop (next + past + 1) nodes ≡ place.1 ++ back =
        ap (λ k. drop k nodes) (let h : next + past + 1 ≡ next + suc past = omega arith in h) ∙ sym (drop-drop (suc past) next nodes) ∙ ap (drop (suc past)) at ∙ place.2 in
        let more = go (n + 1) (had ++ (v, p) ∷ []) (next + past + 1) place.1 behind in (
          more.0,
          ap (claim_or n (λ c. claimed nodes (n + 1) c (flat_map (potential_line weight) (zip back ps)))) taken ∙ more.1
              ∙ (λ k. Ok (with_potentials steps weight (append_assoc had ((v, p) ∷ []) (shown weight (zip back ps)) k) more.0)),
        )

-- a node that is not among them has the weight
not_shown : (weight : ℕ) (v : NodeId) (nodes : ListOf NodeId) (ps : ListOf ℕ) → (Contains nodes v → ⊥) → potential_in weight (shown weight (zip nodes ps)) v ≡ weight
not_shown weight v [] ps absent = refl
not_shown weight v (x ∷ nodes) [] absent = refl
not_shown weight v (x ∷ nodes) (p ∷ ps) absent =
    by (nat_lt p weight) (same_node x v) refl (not_shown weight v nodes ps (λ c. absent (suc c.0, (let h = c.1 in omega arith), c.2)))
  where
    by : (b c : Bool) → same_node x v ≡ c → potential_in weight (shown weight (zip nodes ps)) v ≡ weight → potential_in weight (cond b ((x, p) ∷ []) [] ++ shown weight (zip nodes ps)) v ≡ weight
    by false c is rest = rest
    by true true is rest = absurd (absent (0, omega arith, same_node_exact x v is))
    by true false is rest = ap (λ b. cond b p (potential_in weight (shown weight (zip nodes ps)) v)) is ∙ rest

-- what is shown of the potentials is the potentials, cut at the weight
shown_is_cut : (weight : ℕ) (v : NodeId) (nodes : ListOf NodeId) (ps : ListOf ℕ) → AllPairs (λ a b. a ≢ b) nodes → potential_in weight (shown weight (zip nodes ps)) v ≡ min (potential_in weight (zip nodes ps) v) weight
shown_is_cut weight v [] ps apart = omega arith
shown_is_cut weight v (x ∷ nodes) [] apart = omega arith
shown_is_cut weight v (x ∷ nodes) (p ∷ ps) apart =
    by (nat_lt p weight) refl (same_node x v) refl (shown_is_cut weight v nodes ps (λ i j d below within. apart (suc i) (suc j) d (omega arith) (omega arith)))
  where
    alone : Contains nodes x → ⊥
    alone c = apart 0 (suc c.0) x (omega arith) (let h = c.1 in omega arith) (sym c.2)

    by : (b : Bool) → nat_lt p weight ≡ b → (c : Bool) → same_node x v ≡ c → potential_in weight (shown weight (zip nodes ps)) v ≡ min (potential_in weight (zip nodes ps) v) weight
        → potential_in weight (cond b ((x, p) ∷ []) [] ++ shown weight (zip nodes ps)) v ≡ min (cond c p (potential_in weight (zip nodes ps) v)) weight
    by true low true is rest = ap (λ b. cond b p (potential_in weight (shown weight (zip nodes ps)) v)) is ∙ (let h = ltb-true p weight low in omega arith)
    by true low false is rest = ap (λ b. cond b p (potential_in weight (shown weight (zip nodes ps)) v)) is ∙ rest
    by false high true is rest =
        let this : x ≡ v = same_node_exact x v is in
        subst (λ w. potential_in weight (shown weight (zip nodes ps)) w ≡ weight) this (not_shown weight x nodes ps alone) ∙ (let h = ltb-false p weight high in omega arith)
    by false high false is rest = rest

-- no edge rises more than its weight
none_rises_above : (potential : NodeId → ℕ) (edges : ListOf Edge) → ((i : ℕ) (e : Arc NodeId) → slice_get (arcs_of edges) i ≡ Some e → potential e.to ≤ potential e.from + e.weight) → find (rises_above potential) edges ≡ None
none_rises_above potential [] rises = refl
none_rises_above potential (e ∷ edges) rises =
    ap (λ b. cond b (Some e) (find (rises_above potential) edges)) (le-ltb (potential e.from + e.weight) (potential e.to) (rises 0 (arc_of e) refl)) ∙ none_rises_above potential edges (λ i a there. rises (suc i) a there)

-- ---- the verdict

certificate_is_valid : (edges : ListOf Edge) (target : NodeId) (steps : ListOf WrittenStep) (weight : ℕ) (potential : NodeId → ℕ) → bad_step edges target 1 node.Root steps ≡ None → potential node.Root ≡ 0
    → ((i : ℕ) (e : Arc NodeId) → slice_get (arcs_of edges) i ≡ Some e → potential e.to ≤ potential e.from + e.weight) → potential target ≡ weight
    → verdict_on weight (potential target) (bad_step edges target 1 node.Root steps) (bad_potential edges potential) ≡ verdict.Valid
certificate_is_valid edges target steps weight potential good root rises at =
    let none : bad_potential edges potential ≡ None =
    ap (λ b. cond b (head_if (find (rises_above potential) edges)) (Some node.Root)) (eq-eqb (potential node.Root) 0 root) ∙ ap head_if (none_rises_above potential edges rises) in
    (λ k. verdict_on weight (potential target) (good k) (none k)) ∙ ap (λ b. cond b verdict.Valid verdict.NotTight) (eq-eqb (potential target) weight at)

pub plans_are_certified : PlansAreCertified
plans_are_certified edges nodes target steps potentials weight apart few c =
    let pairs : ListOf (NodeId × ℕ) = zip nodes potentials in
    let written : ListOf WrittenStep = steps_written edges steps in
    let sum : 0 + weight_of (arcs_of edges) steps ≡ weight = (let t = c.tight in omega arith) in
    let front = steps_claimed edges nodes target (flat_map (potential_line weight) pairs) 1 [] 0 node.Root steps c.walk (omega arith) in
    let back = potentials_claimed nodes written weight front.0 [] 0 [] nodes potentials refl in
    let claim : claimed nodes 1 no_claim (plan_lines edges nodes weight steps potentials) ≡ Ok (with_potentials written weight (shown weight pairs) back.0) =
    front.1 ∙ (λ k. claimed nodes front.0 (of_steps written (sum k)) (flat_map (potential_line weight) pairs)) ∙ back.1 in
    let potential : NodeId → ℕ = potential_in weight (shown weight pairs) in
    let cut : (v : NodeId) → potential v ≡ min (potential_in weight pairs v) weight = λ v. shown_is_cut weight v nodes potentials apart in
    ap (verdict_of edges target) claim
    ∙ certificate_is_valid edges target written weight potential (steps_are_good edges target 1 node.Root steps c.walk)
    (let r = c.root_at_zero in cut node.Root ∙ omega arith)
    (λ i e there. (let r = c.rises i e there in let a = cut e.from in let b = cut e.to in omega arith))
    (let t = c.at_target in cut target ∙ omega arith)
