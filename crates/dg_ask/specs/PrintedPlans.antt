-- The lines that `plan` prints, where they follow `certify`.
use Rattle.std.specs.Prelude.{◌≡◌, ◌<◌, ◌≤◌, ◌^◌, ℕ, List, [], All, None, length}
use Rattle.dg_graph.specs.declared.element.Columns.{Columns}
use Rattle.dg_graph.specs.declared.limits.TheConstants.{TIME_MAX}
use Rattle.dg_text.specs.Lines.{ScriptLine, lines_of}
use Rattle.dg_history.specs.LegalHistory.{IsLegal}
use Rattle.dg_machine.specs.declared.command.Command.TheVariants as command
use Rattle.dg_machine.specs.declared.reply.Head.TheVariants.{Certified}
use Rattle.dg_machine.specs.declared.reply.Reply.{Reply}
use Rattle.dg_machine.specs.declared.reply.Reply.TheVariants as replied
use Rattle.dg_machine.specs.Answer.{Answered, answer, headed, say}
use Rattle.dg_machine.specs.MachineState.{MachineState, history_in}
use Rattle.dg_machine.specs.Needs.{refused}
use Rattle.dg_machine.specs.Planning.{Planned, IsPlanned, edges_in, ground_in, no_plan}
use Rattle.dg_machine.specs.ReplyText.{body_text}
use Rattle.dg_plan.specs.declared.certificate.Verdict.TheVariants.{Valid}
use Rattle.dg_plan.specs.IndexGraph.{arcs_of}
use Rattle.dg_plan.specs.Walks.{weight_of}
use Rattle.dg_planner.specs.Bases.{HasBases}

-- the text of an answer's body, cut into the lines of a script; a refusal has no body
abbrev pub printed_lines : List (List ℕ) → Reply → List ScriptLine
printed_lines names (replied.Refused r) = []
printed_lines names (replied.Answered h body) = lines_of (body_text names body)

-- the answer to `certify` where it is followed by these lines
abbrev pub certify_answer : MachineState → ℕ → Columns → List ScriptLine → Answered
certify_answer m t cols lines = answer m (command.Certify t cols (length lines)) lines no_plan

-- Where `plan` is not refused, the lines that it prints are valid to `certify`, for the same instant and the same columns:
-- over a legal history, with handles that stand for nodes of the graph, where the plan's edges are numbered by 32 bits and it
-- does not weigh more than a line can say.
abbrev pub PrintedPlansAreValid : Type 0
PrintedPlansAreValid =
    (m : MachineState) (t : ℕ) (cols : Columns) (names : List (List ℕ)) (p : Planned)
    → IsLegal (history_in m.index) → HasBases (ground_in m cols) → All (λ i. i < 2 ^ 32) p.steps
    → IsPlanned m (command.Plan t cols) p → weight_of (arcs_of (edges_in m cols)) p.steps ≤ TIME_MAX → refused m (command.Plan t cols) [] ≡ None
    → certify_answer m t cols (printed_lines names (answer m (command.Plan t cols) [] p).reply) ≡ say m (headed (Certified Valid))
