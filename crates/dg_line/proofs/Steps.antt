-- What the words behind `step` are read as.
use Rattle.std.proofs.Common.{◌≡◌, ℕ, List, ◌∷◌, Option, Some, option_and_then, sym, ap, ◌∙◌}
use Rattle.dg_text.specs.Verbs.{read_by}
use Rattle.dg_plan.specs.declared.certificate.PlanLine.{PlanLine}
use Rattle.dg_plan.specs.declared.certificate.PlanLine.TheVariants as plan_line
use Rattle.dg_machine.specs.CommandGrammar.{n32_of, node_verbs, step_of}

-- a step, by the number of its edge and the words behind it
pub step_is : (words : List (List ℕ)) (word : List ℕ) (rest : List (List ℕ)) (edge : ℕ) (line : Option PlanLine) → words ≡ word ∷ rest
    → Some edge ≡ n32_of word → line ≡ read_by (node_verbs (λ node weight. plan_line.Step edge node weight)) rest → line ≡ step_of words
step_is words word rest edge line is number read =
    read
    ∙ ap (option_and_then (λ (n : ℕ). read_by (node_verbs (λ node weight. plan_line.Step n node weight)) rest)) number
    ∙ ap step_of (sym is)
