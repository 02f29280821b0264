use Rattle.std.proofs.Common.{◌≡◌, ◌<◌, ◌∙◌, arith, length, refl, set, sym, length-set}
use Rattle.dg_machine.specs.declared.command.TheConstants.{TIMES_MAX}
use Rattle.dg_line.proofs.Instants.{read_none, read_more, read_past, read_other, read_all}
use Rattle.dg_line.proofs.tails.several_from.Goals as goal

pub loop-word-init : goal.loop-word-init
loop-word-init c = record { some = omega arith; few = omega arith; size = refl; read = read_none c.args.first c.args.words }

pub returns-in-None-clause-command : goal.returns-in-None-clause-command
returns-in-None-clause-command c =
    sym (read_other c.args.cols c.args.first c.args.words c.loop-word.times c.loop-word.count c.loop-word.words c.next.new.self c.in-Some.word.now
    c.in-Some.ensures (sym c.time.ensures ∙ c.in-None.is) c.loop-word.invariant.read)

pub returns-then-count-eq-TIMES_MAX-clause-command : goal.returns-then-count-eq-TIMES_MAX-clause-command
returns-then-count-eq-TIMES_MAX-clause-command c =
    sym (read_past c.args.cols c.args.first c.args.words c.loop-word.times c.loop-word.count c.loop-word.words c.next.new.self c.in-Some.word.now c.in-Some-time.found
    c.loop-word.invariant.size c.if-count-eq-TIMES_MAX.true c.in-Some.ensures (sym c.time.ensures ∙ c.in-Some-time.is) c.loop-word.invariant.read)

pub loop-word-preserved : goal.loop-word-preserved
loop-word-preserved c =
    let more = c.if-count-eq-TIMES_MAX.false in
    let size : length (set c.loop-word.times c.loop-word.count c.in-Some-time.found) ≡ TIMES_MAX = length-set c.loop-word.times c.loop-word.count c.in-Some-time.found ∙ c.loop-word.invariant.size in
    let below : c.loop-word.count < TIMES_MAX = omega arith in
    record {
      some = omega arith;
      few = omega arith;
      size = size;
      read = read_more c.args.first c.args.words c.loop-word.times c.loop-word.count c.loop-word.words c.next.new.self c.in-Some.word.now c.in-Some-time.found
          c.loop-word.invariant.size below c.in-Some.ensures (sym c.time.ensures ∙ c.in-Some-time.is) c.loop-word.invariant.read;
    }

pub returns-clause-command : goal.returns-clause-command
returns-clause-command c =
    sym (read_all c.args.cols c.args.first c.args.words c.loop-word.times c.loop-word.count c.loop-word.words
    c.loop-word.invariant.size c.loop-word.invariant.few c.in_default.ensures c.loop-word.invariant.read)
