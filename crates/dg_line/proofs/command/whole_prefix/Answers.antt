use Rattle.std.proofs.Common.{refl}
use Rattle.dg_text.specs.Words.{words}
use Rattle.dg_machine.specs.CommandGrammar.{command_of}
use Rattle.dg_line.proofs.CommandRows.{commands, some_command}
use Rattle.dg_line.proofs.RowLines.{column_is, prefix_short}
use Rattle.dg_line.proofs.command.whole_prefix.Goals as goal

pub returns : goal.returns
returns c = record {
  column = column_is command_of commands.rows refl (λ line. commands.is (words line)) some_command c.args.line.now c.command_prefix.result c.command_prefix.ensures;
  short = prefix_short commands.rows refl c.args.line.now c.command_prefix.result c.command_prefix.ensures;
}
