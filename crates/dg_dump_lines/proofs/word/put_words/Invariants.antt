use Rattle.std.proofs.Common.{◌≡◌, ◌++◌, map, drop}
use Rattle.dg_machine.specs.ReplyText.{text_line}
use Rattle.dg_dump_lines.specs.PutLines.{GoesOn, word_bytes}
use Rattle.dg_dump_lines.proofs.Lines.{rest_of_line}
use Rattle.dg_dump_lines.proofs.word.put_words.Given as goal

abbrev pub invariant-loop-word : goal.invariant-loop-word
invariant-loop-word l = record {
  put : l.text.items ++ rest_of_line l.between (map word_bytes (drop l.word-index l.words)) ≡ l.fn.text.items ++ text_line (map word_bytes l.words);
  kept : GoesOn l.fn.text.items l.text.items;
}
