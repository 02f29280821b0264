-- What `plan` prints is what a certificate's lines are, and they are valid.
use Rattle.std.proofs.Common.{◌≡◌, ℕ, ◌^◌, ◌<◌, ◌≤◌, Bool, true, false, cond, List as ListOf, [], ◌∷◌, ◌++◌, length, map, Option, Some, refl, sym, ap, subst, ◌∙◌, arith}
use Rattle.std.specs.Prelude.{nat_lt, slice_get, zip}
use Rattle.std.specs.List.{All, flat_map}
use Rattle.std.proofs.lemmas.Bool.{le-ltb, ltb-true}
use Rattle.std.proofs.lemmas.List.{map-append}
use Rattle.std.proofs.lemmas.List.Elements.{All-append, All-cons, All-head, All-nil, All-tail, All-weaker}
use Rattle.std.proofs.lemmas.Option.{get_or_from_slice_get, slice_get_within}
use Rattle.std.proofs.Math.Nat.{div-le_self}
use Rattle.dg_graph.specs.declared.limits.TheConstants.{TIME_MAX}
use Rattle.dg_text.specs.Lines.{ScriptLine, Text, lines_of}
use Rattle.dg_history.specs.declared.node.NodeId.{NodeId}
use Rattle.dg_history.specs.declared.node.NodeId.TheVariants.{Root, Now, Recent, Leaf, List, Inner}
use Rattle.dg_history.specs.History.{events_of}
use Rattle.dg_index.proofs.OpenedIndexHistories.{large_parameters}
use Rattle.dg_machine.specs.declared.reply.BodyLine.{BodyLine}
use Rattle.dg_machine.specs.declared.reply.BodyLine.TheVariants as line
use Rattle.dg_machine.specs.declared.command.Command.TheVariants as command
use Rattle.dg_machine.specs.declared.reply.Head.TheVariants as head
use Rattle.dg_machine.specs.declared.reply.Refusal.TheVariants as refusal
use Rattle.dg_machine.specs.Answer as answer
use Rattle.dg_machine.specs.MachineState.{history_in}
use Rattle.dg_machine.specs.Planning.{edges_in, ground_in, no_plan, nodes_in, point_for}
use Rattle.dg_machine.specs.CommandGrammar.{plan_line_in, plan_line_of}
use Rattle.dg_machine.specs.Needs.{earliest, needs, refusals, when}
use Rattle.dg_machine.specs.ReplyText.{body_text, body_words, text_line}
use Rattle.dg_plan.specs.declared.certificate.PlanLine.{PlanLine}
use Rattle.dg_plan.specs.declared.certificate.PlanLine.TheVariants as plan_line
use Rattle.dg_plan.specs.declared.edge.Edge.{Edge}
use Rattle.dg_plan.specs.CertificateLines.{judged}
use Rattle.dg_plan.specs.IndexGraph.{Ground, arcs_of}
use Rattle.dg_plan.specs.Walks.{Arc, Cost, Leads, weight_of}
use Rattle.dg_plan.proofs.IndexGraphNumbers.{above_exponent}
use Rattle.dg_plan.proofs.WalkCosts.{cost_front}
use Rattle.dg_path.specs.PlanLines.{PlansAreCertified, plan_lines, potential_line, step_line}
use Rattle.dg_planner.specs.Order.{HasEnds, IsGraphNode}
use Rattle.dg_planner.specs.PlanLaws.{NodesAreDistinct, PlansAreCertificates}
use Rattle.dg_planner.proofs.OrderEnds.{has_ends, nodes_are}
use Rattle.dg_planner.proofs.OrderPlans.{edge_of}
use Rattle.dg_ask.specs.PrintedPlans.{PrintedPlansAreValid, certify_answer, printed_lines}
use Rattle.dg_ask.proofs.PlanLineTexts.{IsLine, IsWritable, line_text, potential_back, potential_is_line, step_back, step_is_line, texts_are_lines}

-- the line, as it is read back
abbrev read_back : ListOf (ListOf ℕ) → BodyLine → Option PlanLine
read_back names l = plan_line_of (line_text names l)

-- the lines of the body are lines of a script, which read back as these
record AreRead (names : ListOf (ListOf ℕ)) (body : ListOf BodyLine) (lines : ListOf (Option PlanLine)) : Type 0 where
  cut : All IsLine (map (line_text names) body)
  read : map (read_back names) body ≡ lines

none_read : (names : ListOf (ListOf ℕ)) → AreRead names [] []
none_read names = record { cut = All-nil IsLine; read = refl }

one_read : (names : ListOf (ListOf ℕ)) (l : BodyLine) (line : Option PlanLine) → IsLine (line_text names l) → read_back names l ≡ line → AreRead names (l ∷ []) (line ∷ [])
one_read names l line is reads = record { cut = All-cons IsLine (line_text names l) [] is (All-nil IsLine); read = ap (λ x. x ∷ []) reads }

both_read : (names : ListOf (ListOf ℕ)) (a b : ListOf BodyLine) (x y : ListOf (Option PlanLine)) → AreRead names a x → AreRead names b y → AreRead names (a ++ b) (x ++ y)
both_read names a b x y p q = record {
  cut = subst (All IsLine) (sym (map-append (line_text names) a b)) (All-append IsLine (map (line_text names) a) (map (line_text names) b) p.cut q.cut);
  read = map-append (read_back names) a b ∙ (λ k. p.read k ++ q.read k);
}

steps_read : (names : ListOf (ListOf ℕ)) (edges : ListOf Edge) → All (λ (e : Edge). IsWritable e.to) edges → (a b : NodeId) (steps : ListOf ℕ) → All (λ i. i < 2 ^ 32) steps → Leads (arcs_of edges) a steps b
    → weight_of (arcs_of edges) steps ≤ TIME_MAX → AreRead names (answer.step_lines edges steps) (flat_map (λ i. step_line i (slice_get edges i)) steps)
steps_read names edges writable a b [] small leads light = none_read names
steps_read names edges writable a b (i ∷ steps) small leads light =
    let found = edge_of edges i leads.0 leads.1 in
    let e : Edge = found.0 in
    let within = slice_get_within edges i e found.1 in
    let low : i < 2 ^ 32 = All-head (λ i. i < 2 ^ 32) i steps small in
    let cost = ap (λ (c : Cost). c.0) (cost_front (arcs_of edges) i steps leads.0 leads.1) in
    let same : e.weight ≡ leads.0.weight = ap (λ (x : Arc NodeId). x.weight) found.2 in
    let to : IsWritable e.to = subst (λ (x : Edge). IsWritable x.to) (get_or_from_slice_get edges i e e found.1) (writable i e within) in
    let one : AreRead names (line.Step i e.to e.weight ∷ []) (Some (plan_line.Step i e.to e.weight) ∷ []) =
    one_read names _ _ (step_is_line names i e.to e.weight low to (omega arith)) (step_back names i e.to e.weight low to (omega arith)) in
    both_read names (answer.step_if i (slice_get edges i)) (answer.step_lines edges steps) (step_line i (slice_get edges i)) (flat_map (λ i. step_line i (slice_get edges i)) steps)
    (subst (λ o. AreRead names (answer.step_if i o) (step_line i o)) (sym found.1) one)
    (steps_read names edges writable leads.0.to b steps (All-tail (λ i. i < 2 ^ 32) i steps small) leads.3 (omega arith))

potentials_read : (names : ListOf (ListOf ℕ)) (weight : ℕ) → weight ≤ TIME_MAX → (nodes : ListOf NodeId) (potentials : ListOf ℕ) → All IsWritable nodes
    → AreRead names (answer.potential_lines weight nodes potentials) (flat_map (potential_line weight) (zip nodes potentials))
potentials_read names weight light [] potentials writable = none_read names
potentials_read names weight light (v ∷ nodes) [] writable = none_read names
potentials_read names weight light (v ∷ nodes) (p ∷ potentials) writable =
    both_read names (answer.potential_line weight v p) (answer.potential_lines weight nodes potentials) (potential_line weight (v, p)) (flat_map (potential_line weight) (zip nodes potentials))
    (one (nat_lt p weight) refl) (potentials_read names weight light nodes potentials (All-tail IsWritable v nodes writable))
  where
    here : IsWritable v
    here = All-head IsWritable v nodes writable

    one : (b : Bool) → nat_lt p weight ≡ b → AreRead names (cond b (line.Potential v p ∷ []) []) (cond b (Some (plan_line.Potential v p) ∷ []) [])
    one true low =
        let h = ltb-true p weight low in
        one_read names _ _ (potential_is_line names v p here (omega arith)) (potential_back names v p here (omega arith))
    one false high = none_read names

-- lines that are read are read where they are printed
read_where_printed : (names : ListOf (ListOf ℕ)) (body : ListOf BodyLine) (lines : ListOf (Option PlanLine)) → AreRead names body lines → map plan_line_in (lines_of (body_text names body)) ≡ lines
read_where_printed names body lines are = ap (map plan_line_in) (ap lines_of (as_texts body) ∙ texts_are_lines (map (line_text names) body) are.cut) ∙ map_map body ∙ are.read
  where
    as_texts : (ls : ListOf BodyLine) → body_text names ls ≡ flat_map (λ t. t ++ 10 ∷ []) (map (line_text names) ls)
    as_texts [] = refl
    as_texts (l ∷ ls) = ap (λ r. text_line (body_words names l) ++ r) (as_texts ls)

    map_map : (ls : ListOf BodyLine) → map plan_line_in (map (λ t. Text t) (map (line_text names) ls)) ≡ map (read_back names) ls
    map_map [] = refl
    map_map (l ∷ ls) = ap (λ r. read_back names l ∷ r) (map_map ls)

-- the nodes of a graph with so few leaves are writable
node_writable : (leaves arity : ℕ) → 2 ≤ arity → leaves < 2 ^ 32 → (v : NodeId) → IsGraphNode leaves arity v → IsWritable v
node_writable leaves arity low few Root is = tt
node_writable leaves arity low few Now is = tt
node_writable leaves arity low few Recent is = tt
node_writable leaves arity low few (Leaf j) is = let h = is.1 in omega arith
node_writable leaves arity low few (List i) is = omega arith
node_writable leaves arity low few (Inner h j) is = let a = is.2 in let b = is.3 in let c = above_exponent arity h low in (omega arith, omega arith)

pub printed_plans_are_valid : NodesAreDistinct → PlansAreCertificates → PlansAreCertified → PrintedPlansAreValid
printed_plans_are_valid apart certificates valid m t cols names p legal bases numbers planned light taken =
    let g : Ground = ground_in m cols in
    let edges : ListOf Edge = edges_in m cols in
    let nodes : ListOf NodeId = nodes_in m cols in
    let target : NodeId = point_for m t in
    let weight : ℕ = weight_of (arcs_of (edges_in m cols)) p.steps in
    let low : 2 ≤ g.arity = (large_parameters (history_in m.index).params.l (history_in m.index).params.k legal.parameters).1 in
    let small : g.leaves < 2 ^ 32 = (let n = legal.few in let d = div-le_self (length (events_of (history_in m.index))) (history_in m.index).params.l in omega arith) in
    let are : All (IsGraphNode g.leaves g.arity) nodes = nodes_are g low bases in
    let nodes_writable : All IsWritable nodes = All-weaker (IsGraphNode g.leaves g.arity) IsWritable (node_writable g.leaves g.arity low small) nodes are in
    let certificate = certificates g low bases target p.steps p.potentials planned.0 planned.1 in
    let writable : All (λ (e : Edge). IsWritable e.to) edges = All-weaker (HasEnds g.leaves g.arity) (λ (e : Edge). IsWritable e.to) (λ e ends. node_writable g.leaves g.arity low small e.to ends.1) edges (has_ends g low bases) in
    let body = answer.step_lines edges p.steps ++ answer.potential_lines weight nodes p.potentials in
    let read : map plan_line_in (lines_of (body_text names body)) ≡ plan_lines edges nodes weight p.steps p.potentials =
    read_where_printed names body _ (both_read names _ _ _ _ (steps_read names edges writable Root target p.steps numbers certificate.walk light) (potentials_read names weight light nodes p.potentials nodes_writable)) in
    let lines : ListOf ScriptLine = lines_of (body_text names body) in
    ap (λ o. certify_answer m t cols (printed_lines names (answer.answer_by o m (command.Plan t cols) [] p).reply)) taken
    ∙ ap (λ b. answer.answer_by (earliest (when b (refusal.ShortBatch (length lines) (length lines)) ++ refusals m [] (needs (command.Plan t cols)))) m (command.Certify t cols (length lines)) lines no_plan) (le-ltb (length lines) (length lines) (omega arith))
    ∙ ap (λ o. answer.answer_by o m (command.Certify t cols (length lines)) lines no_plan) taken
    ∙ ap (λ ls. answer.say m (answer.headed (head.Certified (judged edges nodes target ls)))) read
    ∙ ap (λ v. answer.say m (answer.headed (head.Certified v))) (valid edges nodes target p.steps p.potentials weight (apart g) light certificate)
