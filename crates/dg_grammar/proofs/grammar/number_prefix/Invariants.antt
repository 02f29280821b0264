use Rattle.std.proofs.Common.{◌≡◌, ◌<◌, ◌≤◌, ◌^◌, IsTrue, ◌↔◌, take, decimal}
use Rattle.std.specs.Str.Parse.{AllDigits, digits_value}
use Rattle.dg_grammar.proofs.grammar.number_prefix.Given as goal

abbrev pub invariant-loop-byte : goal.invariant-loop-byte
invariant-loop-byte l = record {
  at : l.prefix.bytes ≡ l.byte-index;
  digits : AllDigits 10 (take l.byte-index l.rest);
  value : l.value ≡ digits_value 10 (take l.byte-index l.rest);
  fits : l.value < 2 ^ 64;
  whole : IsTrue l.prefix.whole ↔ (0 < l.byte-index);
  text : 0 < l.byte-index → take l.byte-index l.rest ≡ decimal l.value;
  low : 0 < l.byte-index → l.least ≤ l.value;
  high : 0 < l.byte-index → l.value ≤ l.greatest;
}
