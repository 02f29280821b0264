use Rattle.std.proofs.Common.{◌≡◌, drop}
use Rattle.dg_grammar.specs.Symbols.{word_texts}
use Rattle.dg_line.specs.Table.{text_index}
use Rattle.dg_line.proofs.Loops.{moved}
use Rattle.dg_line.proofs.rows.text_index.Given as goal

abbrev pub invariant-loop-i : goal.invariant-loop-i
invariant-loop-i l = text_index (word_texts l.texts) l.word ≡ moved l.i (text_index (drop l.i (word_texts l.texts)) l.word)
