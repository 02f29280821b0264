-- The grammar of the commands that several parts of an index answer together: three of all commands, and no messages.
use Rattle.std.specs.Prelude.{ℕ, List, [], ◌∷◌, Option, codes}
use Rattle.dg_changes.specs.ChangeGrammar.{time_of}
use Rattle.dg_machine.specs.declared.command.Command.{Command}
use Rattle.dg_machine.specs.declared.command.Command.TheVariants as command
use Rattle.dg_machine.specs.declared.query.Query.TheVariants as query
use Rattle.dg_machine.specs.CommandGrammar.{columns_of, handle_of}
use Rattle.dg_text.specs.Verbs.{Verb, verb, one, read_by, two_words}
use Rattle.dg_text.specs.Words.{words}

-- the commands, by their first word
abbrev pub part_verbs : List (Verb Command)
part_verbs =
    verb (codes "at") (two_words time_of columns_of (λ t cols. command.At t cols))
    ∷ verb (codes "list") (one handle_of (λ h. command.Ask h query.List))
    ∷ verb (codes "release") (one handle_of (λ h. command.Release h))
    ∷ []

-- the command that the line is
abbrev pub part_command_of : List ℕ → Option Command
part_command_of line = read_by part_verbs (words line)
