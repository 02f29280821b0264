use Rattle.std.proofs.Common.{◌≡◌, ◌-◌, ◌≤◌, length, take}
use Rattle.dg_grammar.proofs.grammar.word_prefix.Given as goal

abbrev pub invariant-loop-bytes : goal.invariant-loop-bytes
invariant-loop-bytes l = record {
  within : l.bytes ≤ length l.rest;
  short : l.bytes ≤ length l.word;
  same : take l.bytes l.word ≡ take l.bytes l.rest;
}

abbrev pub decreases-loop-bytes : goal.decreases-loop-bytes
decreases-loop-bytes l = length l.word - l.bytes
