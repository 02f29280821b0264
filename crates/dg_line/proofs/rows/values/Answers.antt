use Rattle.std.proofs.Common.{◌∙◌, ◌+◌, ◌<◌, [], Some, length, sym, arith, length-set}
use Rattle.std.proofs.lemmas.List.{get_or-map, length-map}
use Rattle.dg_grammar.specs.Symbols.{One_of, row_of, terminal_of}
use Rattle.dg_line.proofs.Loops.{words_end, words_next}
use Rattle.dg_line.proofs.rows.values.Goals as goal

pub returns-in-None : goal.returns-in-None
returns-in-None c = λ make.
    let test = c.loop-i-test.true in
    let size = length-map c.args.symbols.now terminal_of in
    let below : c.loop-i.i < length (row_of c.args.symbols.now) = omega arith in
    c.loop-i.invariant.read make ∙ words_end (row_of c.args.symbols.now) c.loop-i.i (c.loop-i.i + 1) c.loop-i.values (One_of []) c.loop-i.words make below c.in-None.ensures

pub loop-i-preserved : goal.loop-i-preserved
loop-i-preserved c =
    let test = c.loop-i-test.true in
    let size = length-map c.args.symbols.now terminal_of in
    let below : c.loop-i.i < length (row_of c.args.symbols.now) = omega arith in
    record {
      size = length-set c.loop-i.values (c.loop-i.i + 1) c.in-Some-value.found ∙ c.loop-i.invariant.size;
      read = λ make.
          c.loop-i.invariant.read make
          ∙ words_next (row_of c.args.symbols.now) c.loop-i.i (c.loop-i.i + 1) c.loop-i.values (One_of []) _ c.loop-i.words c.next.new.self c.in-Some.found.now make (Some c.in-Some-value.found)
          below (get_or-map terminal_of c.args.symbols.now c.loop-i.i _ (One_of []) (omega arith)) c.in-Some.ensures (sym c.in-Some-value.is ∙ c.value.ensures);
    }
