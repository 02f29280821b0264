-- How the plan lines that follow a command are read.
use Rattle.std.specs.Prelude.{◌≡◌, true, List, length, map}
use Rattle.dg_text.specs.Lines.{ScriptLine}
use Rattle.dg_machine.specs.CommandGrammar.{plan_line_in}
use Rattle.dg_batch.specs.declared.plan_lines.PlanLines.{PlanLines}

-- so many of these lines were read, and what each says is kept, where all are kept
pub record ReadsPlanLines (got : List ScriptLine) (written : PlanLines) : Type 0 where
  pub read_is : length got ≡ written.read
  pub said_is : written.is_whole ≡ true → written.said.items ≡ map plan_line_in got
