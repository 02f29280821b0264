-- The grammar of the commands that a script may have.
use Rattle.dg_line.specs.PartGrammar.{part_command_of}
use Rattle.dg_machine.specs.CommandGrammar.{Grammar, command_of}
use Rattle.dg_turns.specs.declared.commands.Commands.{Commands}
use Rattle.dg_turns.specs.declared.commands.Commands.TheVariants as commands

abbrev pub grammar_of : Commands → Grammar
grammar_of commands.All = command_of
grammar_of commands.OfParts = part_command_of
