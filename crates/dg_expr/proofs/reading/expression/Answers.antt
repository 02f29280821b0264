use Rattle.std.proofs.Common.{◌≡◌, ◌<◌, ◌∙◌, false, true, List, None, Some, refl, set, sym, ap, subst, arith}
use Rattle.std.specs.Option.{option_map}
use Rattle.std.proofs.lemmas.Bool.{false≢true}
use Rattle.dg_text.specs.Words.{words}
use Rattle.dg_expr.specs.declared.expression.Word.{Word}
use Rattle.dg_expr.specs.declared.reading.Owing.{Owing}
use Rattle.dg_expr.specs.Expressions.{expr_of}
use Rattle.dg_expr.specs.Owing.{has_room, fits, owing_after}
use Rattle.dg_expr.proofs.ExpressionTexts.{ReadsOn, fits_room, fits_step, reads_more, reads_past}
use Rattle.dg_expr.proofs.reading.expression.Goals as goal

pub returns-then-not-has_room-clause-expression : goal.returns-then-not-has_room-clause-expression
returns-then-not-has_room-clause-expression c =
    let o = c.loop-word_text.owing in
    let w = c.in-Some-word.word in
    let not_none = c.if-owing-eq0.false in
    let owes : 0 < o.expressions = omega arith in
    sym (ap (option_map expr_of) (reads_past (words c.args.text.now) c.loop-word_text.words o c.loop-word_text.texts c.next.new.self c.in-Some.word_text.now w
    c.in-Some.ensures (sym c.word.ensures ∙ c.in-Some-word.is)
    (λ ws fit. false≢true (sym c.if-not-has_room.true ∙ c.has_room.ensures ∙ ap has_room c.after-next.ensures ∙ fits_room (owing_after o w) ws (sym (fits_step o w ws owes) ∙ fit)))
    c.loop-word_text.invariant))

pub loop-word_text-preserved : goal.loop-word_text-preserved
loop-word_text-preserved c =
    let o = c.loop-word_text.owing in
    let w = c.in-Some-word.word in
    let not_none = c.if-owing-eq0.false in
    let owes : 0 < o.expressions = omega arith in
    let room = ap has_room (sym c.after-next.ensures) ∙ sym c.has_room.ensures ∙ c.if-not-has_room.false in
    subst (λ (p : Owing). ReadsOn (words c.args.text.now) (set c.loop-word_text.words o.words w) p c.next.new.self) (sym c.after-next.ensures)
    (reads_more (words c.args.text.now) c.loop-word_text.words o c.loop-word_text.texts c.next.new.self c.in-Some.word_text.now w
    c.in-Some.ensures (sym c.word.ensures ∙ c.in-Some-word.is) owes room c.loop-word_text.invariant)
