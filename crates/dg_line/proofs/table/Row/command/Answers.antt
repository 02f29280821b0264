use Rattle.std.proofs.Common.{◌∙◌, ap, drop, sym}
use Rattle.dg_grammar.specs.Symbols.{row_of}
use Rattle.dg_line.specs.Table.{end_command, read_row, zeros}
use Rattle.dg_text.specs.Words.{words}
use Rattle.dg_line.proofs.FirstWords.{own_verb}
use Rattle.dg_line.proofs.table.Row.command.Goals as goal

pub returns-clause-command : goal.returns-clause-command
returns-clause-command c =
    c.command_behind.ensures.command
    ∙ ap (read_row 1 zeros (row_of c.args.self.1.now) (end_command c.args.self.2)) c.words_behind.ensures
    ∙ sym (own_verb c.args.self.0.now c.args.first.now (row_of c.args.self.1.now) c.args.self.2 (words c.args.line.now) (drop 1 (words c.args.line.now)) c.requires.first
    c.requires.verb)
