-- How the lines of a plan are gathered, one at a time.
use Rattle.std.proofs.Common.{◌≡◌, ℕ, ◌+◌, ◌<◌, ◌≤◌, if◌then◌else◌, List, [], ◌∷◌, ◌++◌, length, drop, get_or, refl, sym, ◌∙◌, ap, append_assoc}
use Rattle.std.specs.Prelude.{slice_get}
use Rattle.std.proofs.lemmas.List.{append-nil, drop_all, drop_more}
use borrow.Author.Tests.{le-ltb, lt-ltb}
use Rattle.dg_history.specs.declared.node.NodeId.{NodeId}
use Rattle.dg_machine.specs.declared.reply.BodyLine.{BodyLine}
use Rattle.dg_machine.specs.declared.reply.BodyLine.TheVariants as line
use Rattle.dg_machine.specs.Answer.{potential_line, potential_lines, step_if, step_lines}
use Rattle.dg_plan.specs.declared.edge.Edge.{Edge}

-- what was gathered, and what the steps from this one on come to
abbrev pub StepsSoFar : List Edge → List ℕ → List BodyLine → List BodyLine → ℕ → Type 0
StepsSoFar edges steps old now i = now ++ step_lines edges (drop i steps) ≡ old ++ step_lines edges steps

pub step_more : (edges : List Edge) (steps : List ℕ) (old now next : List BodyLine) (i : ℕ) → i < length steps → StepsSoFar edges steps old now i
    → next ≡ now ++ step_if (get_or steps i 0) (slice_get edges (get_or steps i 0)) → StepsSoFar edges steps old next (i + 1)
step_more edges steps old now next i lt so_far is =
    ap (λ l. l ++ step_lines edges (drop (i + 1) steps)) is
    ∙ append_assoc now (step_if (get_or steps i 0) (slice_get edges (get_or steps i 0))) (step_lines edges (drop (i + 1) steps))
    ∙ ap (λ xs. now ++ step_lines edges xs) (sym (drop_more steps i 0 lt)) ∙ so_far

pub steps_done : (edges : List Edge) (steps : List ℕ) (old now : List BodyLine) (i : ℕ) → length steps ≤ i → StepsSoFar edges steps old now i → now ≡ old ++ step_lines edges steps
steps_done edges steps old now i past so_far = sym (append-nil now) ∙ ap (λ xs. now ++ step_lines edges xs) (sym (drop_all i steps past)) ∙ so_far

-- the same of potentials
abbrev pub PotentialsSoFar : ℕ → List NodeId → List ℕ → List BodyLine → List BodyLine → ℕ → Type 0
PotentialsSoFar weight nodes potentials old now i =
    now ++ potential_lines weight (drop i nodes) (drop i potentials) ≡ old ++ potential_lines weight nodes potentials

pub potential_more : (weight : ℕ) (nodes : List NodeId) (potentials : List ℕ) (old now next : List BodyLine) (i : ℕ) (d : NodeId) → i < length nodes → i < length potentials
    → PotentialsSoFar weight nodes potentials old now i → next ≡ now ++ potential_line weight (get_or nodes i d) (get_or potentials i 0)
    → PotentialsSoFar weight nodes potentials old next (i + 1)
potential_more weight nodes potentials old now next i d lt lt' so_far is =
    ap (λ l. l ++ potential_lines weight (drop (i + 1) nodes) (drop (i + 1) potentials)) is
    ∙ append_assoc now (potential_line weight (get_or nodes i d) (get_or potentials i 0)) (potential_lines weight (drop (i + 1) nodes) (drop (i + 1) potentials))
    ∙ (λ k. now ++ potential_lines weight (sym (drop_more nodes i d lt) k) (sym (drop_more potentials i 0 lt') k)) ∙ so_far

-- a potential below the weight has a line, and another has none
pub line_shown : (weight p : ℕ) (node : NodeId) → p < weight → potential_line weight node p ≡ line.Potential node p ∷ []
line_shown weight p node lt = ap (λ b. if b then line.Potential node p ∷ [] else []) (lt-ltb p weight lt)

pub line_hidden : (weight p : ℕ) (node : NodeId) → weight ≤ p → potential_line weight node p ≡ []
line_hidden weight p node le = ap (λ b. if b then line.Potential node p ∷ [] else []) (le-ltb p weight le)

none_right : (weight : ℕ) (nodes : List NodeId) → potential_lines weight nodes [] ≡ []
none_right weight [] = refl
none_right weight (node ∷ nodes) = refl

pub nodes_done : (weight : ℕ) (nodes : List NodeId) (potentials : List ℕ) (old now : List BodyLine) (i : ℕ) → length nodes ≤ i → PotentialsSoFar weight nodes potentials old now i
    → now ≡ old ++ potential_lines weight nodes potentials
nodes_done weight nodes potentials old now i past so_far =
    sym (append-nil now) ∙ ap (λ xs. now ++ potential_lines weight xs (drop i potentials)) (sym (drop_all i nodes past)) ∙ so_far

pub potentials_done : (weight : ℕ) (nodes : List NodeId) (potentials : List ℕ) (old now : List BodyLine) (i : ℕ) → length potentials ≤ i → PotentialsSoFar weight nodes potentials old now i
    → now ≡ old ++ potential_lines weight nodes potentials
potentials_done weight nodes potentials old now i past so_far =
    sym (append-nil now) ∙ ap (λ xs. now ++ xs) (sym (none_right weight (drop i nodes))) ∙ ap (λ xs. now ++ potential_lines weight (drop i nodes) xs) (sym (drop_all i potentials past)) ∙ so_far
