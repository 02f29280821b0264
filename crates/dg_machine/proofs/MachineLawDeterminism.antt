-- The machine is determined.
use Rattle.std.proofs.Common.{◌≡◌, ℕ, ◌-◌, ◌≤◌, ◌<◌, List as ListOf, [], ◌∷◌, ◌++◌, take, min, Option, Some, None, refl, sym, ap, subst, ◌∙◌, arith, inl, inr, ⊎_elim}
use Rattle.std.specs.List.{AllZip}
use Rattle.std.proofs.lemmas.Bool.{cases_lt}
use Rattle.std.proofs.lemmas.Option.{same_Some}
use Rattle.dg_expr.specs.Expressions.{instants_of, words_of}
use Rattle.dg_history.specs.declared.node.NodeId.TheVariants.{Root}
use Rattle.dg_text.specs.Lines.{ScriptLine}
use Rattle.dg_plan.specs.IndexGraph.{arcs_of}
use Rattle.dg_plan.specs.Walks.{Arc, Cost, Graft, IsPotential, IsTree, AreSingles, Leads, entered, weight_of}
use Rattle.dg_plan.proofs.WalkLeastCosts.{least_is_one}
use Rattle.dg_plan.proofs.WalkPlans.{one_plan}
use Rattle.dg_machine.specs.declared.command.Command.{Command}
use Rattle.dg_machine.specs.declared.command.Command.TheVariants as command
use Rattle.dg_machine.specs.declared.reply.Reply.TheVariants as replied
use Rattle.dg_machine.specs.declared.selection.Selection.TheVariants.{Chosen}
use Rattle.dg_machine.specs.declared.reply.Refusal.{Refusal}
use Rattle.dg_machine.specs.declared.reply.Refusal.TheVariants as refusal
use Rattle.dg_machine.specs.Answer.{Answered, IsPlannedBy, answer_by, accepted}
use Rattle.dg_machine.specs.CommandGrammar.{IsColumn}
use Rattle.dg_machine.specs.MachineLaws.{IsDetermined}
use Rattle.dg_machine.specs.MachineState.{MachineState}
use Rattle.dg_machine.specs.Needs.{refused}
use Rattle.dg_machine.specs.Planning.{Planned, IsPlanned, no_plan, edges_in, nodes_in, point_for, points_for, record_edges_in}
use Rattle.dg_machine.specs.Run.{Answers, Lacks_memory, Fails_to_read, Leaves_grammar, Too_long}

-- a line leaves the grammar at one column
one_column : (line : ListOf ℕ) (c d : ℕ) → IsColumn line c → IsColumn line d → c ≡ d
one_column line c d x y =
    ⊎_elim (λ (h : c < d). absurd (x.longest (d - 1) (omega arith) (let w = y.within in omega arith) y.begins))
    (λ (h : d ≤ c). ⊎_elim (λ (h : d < c). absurd (y.longest (c - 1) (omega arith) (let w = x.within in omega arith) x.begins)) (λ (k : c ≤ d). let e : c ≡ d = omega arith in e) (cases_lt d c))
    (cases_lt c d)

one_potentials : {N : Type 0} (g : ListOf (Arc N)) (starts : ListOf N) (weight : ℕ) (nodes : ListOf N) (ps qs : ListOf ℕ)
    → AllZip (IsPotential g starts weight) nodes ps → AllZip (IsPotential g starts weight) nodes qs → ps ≡ qs
one_potentials g starts weight [] [] [] x y = refl
one_potentials g starts weight [] (p ∷ ps) qs x y = elim x [ ]
one_potentials g starts weight [] [] (q ∷ qs) x y = elim y [ ]
one_potentials g starts weight (v ∷ nodes) [] qs x y = elim x [ ]
one_potentials g starts weight (v ∷ nodes) (p ∷ ps) [] x y = elim y [ ]
one_potentials g starts weight (v ∷ nodes) (p ∷ ps) (q ∷ qs) x y =
    let c : x.0.0 ≡ y.0.0 = least_is_one g starts v x.0.0 y.0.0 x.0.1 y.0.1 in
    let e : p ≡ q = x.0.2 ∙ ap (λ (c : Cost). min c.0 weight) c ∙ sym y.0.2 in
    let more = one_potentials g starts weight nodes ps qs x.1 y.1 in
    λ i. e i ∷ more i

one_from : {N : Type 0} (g : ListOf (Arc N)) (a b v : N) (steps : ListOf ℕ) → Leads g a steps v → Leads g b steps v → a ≡ b
one_from g a b v [] x y = x ∙ sym y
one_from {N} g a b v (i ∷ steps) x y = sym x.2 ∙ ap (λ (e : Arc N). e.from) (same_Some _ _ (sym x.1 ∙ y.1)) ∙ y.2

pub one_tree : {N : Type 0} (g : ListOf (Arc N)) (tree targets : ListOf N) (xs ys : ListOf (Graft N)) → IsTree g tree targets xs → IsTree g tree targets ys → xs ≡ ys
one_tree g tree [] [] [] s t = refl
one_tree g tree [] (x ∷ xs) ys s t = elim s [ ]
one_tree g tree [] [] (y ∷ ys) s t = elim t [ ]
one_tree g tree (v ∷ targets) [] ys s t = elim s [ ]
one_tree g tree (v ∷ targets) (x ∷ xs) [] s t = elim t [ ]
one_tree g tree (v ∷ targets) (x ∷ xs) (y ∷ ys) s t =
    let e : x.steps ≡ y.steps = one_plan g tree v x.steps y.steps s.0 t.0 in
    let f : x.from ≡ y.from = one_from g x.from y.from v x.steps s.2 (subst (λ l. Leads g y.from l v) (sym e) t.2) in
    let more = one_tree g (tree ++ entered g x.steps) targets xs ys s.3 (subst (λ l. IsTree g (tree ++ entered g l) targets ys) (sym e) t.3) in
    λ i. record { from = f i; steps = e i } ∷ more i

pub one_singles : {N : Type 0} (g : ListOf (Arc N)) (starts targets : ListOf N) (ws vs : ListOf ℕ) → AreSingles g starts targets ws → AreSingles g starts targets vs → ws ≡ vs
one_singles g starts [] [] [] x y = refl
one_singles g starts [] (w ∷ ws) vs x y = elim x [ ]
one_singles g starts [] [] (q ∷ vs) x y = elim y [ ]
one_singles g starts (v ∷ targets) [] vs x y = elim x [ ]
one_singles g starts (v ∷ targets) (w ∷ ws) [] x y = elim y [ ]
one_singles g starts (v ∷ targets) (w ∷ ws) (q ∷ vs) x y =
    let e : w ≡ q = x.0.2 ∙ ap (weight_of g) (one_plan g starts v x.0.0 y.0.0 x.0.1 y.0.1) ∙ sym y.0.2 in
    let more = one_singles g starts targets ws vs x.1 y.1 in
    λ i. e i ∷ more i

-- what is planned decides the answer
one_answer : (m : MachineState) (c : Command) (lines : ListOf ScriptLine) (p q : Planned) → IsPlanned m c p → IsPlanned m c q → accepted m c lines p ≡ accepted m c lines q
one_answer m (command.At t cols) lines p q x y =
    ap (λ steps. accepted m (command.At t cols) lines (record no_plan { steps = steps })) (one_plan (arcs_of (edges_in m cols)) (Root ∷ []) (point_for m t) p.steps q.steps x y)
one_answer m (command.Several cols times count) lines p q x y =
    let g = arcs_of (edges_in m cols) in
    let targets = points_for m (take count times) in
    let grafts : p.grafts ≡ q.grafts = one_tree g (Root ∷ []) targets p.grafts q.grafts x.0 y.0 in
    let singles : p.singles ≡ q.singles = one_singles g (Root ∷ []) targets p.singles q.singles x.1 y.1 in
    λ i. accepted m (command.Several cols times count) lines (record no_plan { grafts = grafts i; singles = singles i })
one_answer m (command.Materialise node cols) lines p q x y =
    ap (λ steps. accepted m (command.Materialise node cols) lines (record no_plan { steps = steps })) (one_plan (arcs_of (record_edges_in m cols)) (Root ∷ []) node p.steps q.steps x y)
one_answer m (command.Plan t cols) lines p q x y =
    let g = arcs_of (edges_in m cols) in
    let steps : p.steps ≡ q.steps = one_plan g (Root ∷ []) (point_for m t) p.steps q.steps x.0 y.0 in
    let ps : p.potentials ≡ q.potentials = one_potentials g (Root ∷ []) (weight_of g p.steps) (nodes_in m cols) p.potentials q.potentials x.1
    (subst (λ l. AllZip (IsPotential g (Root ∷ []) (weight_of g l)) (nodes_in m cols) q.potentials) (sym steps) y.1) in
    λ i. accepted m (command.Plan t cols) lines (record no_plan { steps = steps i; potentials = ps i })
one_answer m (command.Select (Chosen e) cols) lines p q x y =
    ap (λ grafts. accepted m (command.Select (Chosen e) cols) lines (record no_plan { grafts = grafts }))
    (one_tree (arcs_of (edges_in m cols)) (Root ∷ []) (points_for m (instants_of (words_of e))) p.grafts q.grafts x y)
one_answer m c lines p q x y = ap (accepted m c lines) (x ∙ sym y)

one_by : (r : Option Refusal) (m : MachineState) (c : Command) (lines : ListOf ScriptLine) (p q : Planned) → IsPlannedBy r m c p → IsPlannedBy r m c q → answer_by r m c lines p ≡ answer_by r m c lines q
one_by (Some r) m c lines p q x y = refl
one_by None m c lines p q x y = one_answer m c lines p q x y

pub determined : IsDetermined
determined m e r s k n (Answers c lines p x) (Answers d others q y) =
    let same = one_by (refused m c lines) m c lines p q x y in inr (ap (λ (a : Answered). a.reply) same, ap (λ (a : Answered). a.state) same)
determined m e r s k n (Lacks_memory c lines t) y = inl (inl (inl refl))
determined m e r s k n (Fails_to_read c lines t) y = inl (inl (inr refl))
determined m e r s k n (Answers c lines p x) (Lacks_memory d others t) = inl (inr (inl refl))
determined m e r s k n (Answers c lines p x) (Fails_to_read d others t) = inl (inr (inr refl))
determined m e r s k n (Leaves_grammar line column x) (Leaves_grammar same other y) =
    inr (ap (λ d. replied.Refused (refusal.Syntax d)) (one_column line column other x y), refl)
determined m e r s k n Too_long Too_long = inr (refl, refl)
