use Rattle.std.proofs.Common.{Ok, ap, ◌∙◌}
use Rattle.dg_cuts.proofs.TakenEntries.{cut_between}
use Rattle.dg_io.proofs.GivenLines.{gave_line}
use Rattle.dg_io.specs.declared.lines.Line.TheVariants as line
use Rattle.dg_turns.specs.Grammars.{grammar_of}
use Rattle.dg_turns.proofs.EntryLines.{end_taken, long_taken, text_taken}
use Rattle.dg_turns.proofs.entry.next_entry.Goals as goal

pub returns-in-Ok-End-clause-taken : goal.returns-in-Ok-End-clause-taken
returns-in-Ok-End-clause-taken g c =
    let comes = rw c.in-Ok-End.field-0-is at c.in-Ok-End.ensures.line in
    end_taken (grammar_of c.args.commands) c.args.lines.now c.next.new.self _ _ comes.0 comes.1 (c.next.ensures.end (c.in-Ok-End.is ∙ ap (λ x. Ok x) c.in-Ok-End.field-0-is))

pub returns-in-Ok-TooLong-clause-taken : goal.returns-in-Ok-TooLong-clause-taken
returns-in-Ok-TooLong-clause-taken g c =
    long_taken (grammar_of c.args.commands) c.args.lines.now c.next.new.self _ _ (rw c.in-Ok-TooLong.field-0-is at c.in-Ok-TooLong.ensures.line)
    (gave_line line.TooLong c.args.lines.now c.next.new.self _ _ (rw c.in-Ok-TooLong.field-0-is at c.in-Ok-TooLong.ensures.whole))

pub returns-in-Ok-Text-clause-taken : goal.returns-in-Ok-Text-clause-taken
returns-in-Ok-Text-clause-taken g c =
    let comes = rw c.in-Ok-Text.field-0-is at c.in-Ok-Text.ensures.line in
    text_taken (grammar_of c.args.commands) c.args.lines.now c.next.new.self _ _ c.text.result.now c.meaning_of.result c.text.ensures comes.0
    (gave_line (line.Text c.in-Ok-Text.field-0-0) c.args.lines.now c.next.new.self _ _ (rw c.in-Ok-Text.field-0-is at c.in-Ok-Text.ensures.whole)) c.meaning_of.ensures

pub returns-in-Err-clause-cut : goal.returns-in-Err-clause-cut
returns-in-Err-clause-cut g c = cut_between (grammar_of c.args.commands) c.args.lines.now c.next.new.self _ _ c.in-Err.ensures.kept c.in-Err.ensures.needs
