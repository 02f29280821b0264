use Rattle.std.proofs.Common.{rules, arith, ◌<◌, map, string_bytes, length, sym}
use Rattle.std.proofs.lemmas.List.{length-map}
use Rattle.dg_parts_words.proofs.OtherLines.{few, many}
use Rattle.dg_parts_words.proofs.parts_words.Goals as goal
use Rattle.dg_parts_words.proofs.parts_words.Goals.{in_default-via-then-words-lt3, in_default-via-else-words-lt3+else-words-lt4+else-words-lt5}

pub returns-in_default-clause-form : goal.returns-in_default-clause-form
returns-in_default-clause-form c =
    elim c.in_default.branch [
      | in_default-via-then-words-lt3 w ↦
          let short : length c.args.words.now < 3 = search rules in
          sym (few (map string_bytes c.args.words.now) (omega (arith, short, length-map c.args.words.now string_bytes)))
      | in_default-via-else-words-lt3+else-words-lt4+else-words-lt5 w ↦
          let long : 4 < length c.args.words.now = search rules in
          sym (many (map string_bytes c.args.words.now) (omega (arith, long, length-map c.args.words.now string_bytes)))
    ]
