use Rattle.std.proofs.Common.{◌≡◌, Err, ap, refl}
use Rattle.dg_io.proofs.FrameLemmas.{advances_both}
use Rattle.dg_machine.specs.Script.{Asked}
use Rattle.dg_turns.specs.declared.stop.Stop.TheVariants as stop
use Rattle.dg_turns.specs.Grammars.{grammar_of}
use Rattle.dg_turns.proofs.EntryLines.{asks_behind, cuts_behind, gave_behind, of_grammar}
use Rattle.dg_turns.proofs.turn.next_turn.Goals as goal

pub carry-requires-clause-takes : goal.carry-requires-clause-takes
carry-requires-clause-takes g c =
    let came = rw c.in-Ok-Command.field-0-is at c.in-Ok-Command.ensures.taken in
    of_grammar (grammar_of c.args.commands) g.M.Machine.takes c.requires.takes came.0.line c.in-Ok-Command.command came.0.means

pub returns-in-Ok-clause-turn : goal.returns-in-Ok-clause-turn
returns-in-Ok-clause-turn g c =
    let came = rw c.in-Ok-Command.field-0-is at c.in-Ok-Command.ensures.taken in
    let behind = c.in-Ok.ensures.answered in
    let read = grammar_of c.args.commands in (
      Asked c.in-Ok-Command.command behind.0,
      asks_behind read c.in-Ok-Command.command c.args.lines.now c.next_entry.new.lines c.carry.new.lines _ _ _ behind.0 came.0 behind.1,
      gave_behind read c.in-Ok-Command.command c.args.lines.now c.next_entry.new.lines c.carry.new.lines _ _ _ behind.0 came.0 c.carry.ensures.lines.ended behind.1,
      behind.2,
    )

pub returns-in-Ok-clause-lines : goal.returns-in-Ok-clause-lines
returns-in-Ok-clause-lines g c =
    advances_both c.args.lines.now c.next_entry.new.lines c.carry.new.lines _ _ _ _ _ _ c.next_entry.ensures.lines c.carry.ensures.lines

pub returns-in-Err-clause-cut : goal.returns-in-Err-clause-cut
returns-in-Err-clause-cut g c = λ other.
    let came = rw c.in-Ok-Command.field-0-is at c.in-Ok-Command.ensures.taken in
    let cut = c.in-Err.ensures.cut other in (
      cuts_behind (grammar_of c.args.commands) c.in-Ok-Command.command c.args.lines.now c.next_entry.new.lines c.carry.new.lines _ _ _ came.0 c.carry.ensures.lines.ended cut.0,
      cut.1,
    )

pub returns-in-Err-clause-broken : goal.returns-in-Err-clause-broken
returns-in-Err-clause-broken g c = λ is.
    let came = rw c.in-Ok-Command.field-0-is at c.in-Ok-Command.ensures.taken in
    let same : c.in-Err.why ≡ stop.World = cc in
    let behind = c.in-Err.ensures.broken (ap (λ x. Err x) same) in
    let read = grammar_of c.args.commands in (
      Asked c.in-Ok-Command.command behind.0,
      asks_behind read c.in-Ok-Command.command c.args.lines.now c.next_entry.new.lines c.carry.new.lines _ _ _ behind.0 came.0 behind.1,
      gave_behind read c.in-Ok-Command.command c.args.lines.now c.next_entry.new.lines c.carry.new.lines _ _ _ behind.0 came.0 c.carry.ensures.lines.ended behind.1,
      (c.in-Ok-Command.command, behind.0, refl, behind.2),
    )

pub returns-in-Err-clause-lines : goal.returns-in-Err-clause-lines
returns-in-Err-clause-lines g c =
    advances_both c.args.lines.now c.next_entry.new.lines c.carry.new.lines _ _ _ _ _ _ c.next_entry.ensures.lines c.carry.ensures.lines
