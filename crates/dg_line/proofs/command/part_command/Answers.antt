use Rattle.std.proofs.Common.{◌∙◌, sym}
use Rattle.dg_text.specs.Words.{words}
use Rattle.dg_line.proofs.CommandRows.{part_commands}
use Rattle.dg_line.proofs.command.part_command.Goals as goal

pub returns-clause-command : goal.returns-clause-command
returns-clause-command c = c.command.ensures.command ∙ sym (part_commands.is (words c.args.line.now))
