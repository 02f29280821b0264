use Rattle.std.proofs.Common.{take, IsTrue, ◌↔◌}
use Rattle.std.specs.List.{Contains}
use Rattle.dg_grammar.specs.Prefixes.{IsLongestPrefix}
use Rattle.dg_grammar.specs.Symbols.{word_texts}
use Rattle.dg_grammar.proofs.grammar.words_prefix.Given as goal

abbrev pub invariant-loop-word : goal.invariant-loop-word
invariant-loop-word l = record {
  longest : IsLongestPrefix (Contains (take l.word-index (word_texts l.words))) l.rest l.longest.bytes;
  whole : IsTrue l.longest.whole ↔ Contains (take l.word-index (word_texts l.words)) (take l.longest.bytes l.rest);
}
