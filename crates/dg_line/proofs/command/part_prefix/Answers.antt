use Rattle.std.proofs.Common.{refl}
use Rattle.dg_text.specs.Words.{words}
use Rattle.dg_line.specs.PartGrammar.{part_command_of}
use Rattle.dg_line.proofs.CommandRows.{part_commands, some_part_command}
use Rattle.dg_line.proofs.RowLines.{column_is, prefix_short}
use Rattle.dg_line.proofs.command.part_prefix.Goals as goal

pub returns : goal.returns
returns c = record {
  column = column_is part_command_of part_commands.rows refl (λ line. part_commands.is (words line)) some_part_command c.args.line.now c.command_prefix.result c.command_prefix.ensures;
  short = prefix_short part_commands.rows refl c.args.line.now c.command_prefix.result c.command_prefix.ensures;
}
