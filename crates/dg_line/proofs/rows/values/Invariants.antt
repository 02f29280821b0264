use Rattle.std.proofs.Common.{◌≡◌, ℕ, ◌+◌, List, Option, drop, length}
use Rattle.dg_grammar.specs.Symbols.{row_of}
use Rattle.dg_line.specs.declared.table.TheConstants.{WORDS_MAX}
use Rattle.dg_line.specs.Table.{read_row, zeros}
use Rattle.dg_machine.specs.declared.command.Command.{Command}
use Rattle.dg_line.proofs.rows.values.Given as goal

abbrev pub invariant-loop-i : goal.invariant-loop-i
invariant-loop-i l = record {
  size : length l.values ≡ WORDS_MAX;
  read : (make : List ℕ → List (List ℕ) → Option Command)
      → read_row 1 zeros (row_of l.symbols) make l.initial.words ≡ read_row (l.i + 1) l.values (drop l.i (row_of l.symbols)) make l.words;
}
