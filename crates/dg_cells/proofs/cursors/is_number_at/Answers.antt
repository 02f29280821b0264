use Rattle.std.proofs.Common.{ℕ, List, length, get_or, sym, ap, ◌∙◌, arith}
use Rattle.std.proofs.lemmas.Bool.{eqb-true}
use Rattle.dg_cells.proofs.PieceEdits.{number_there}
use Rattle.dg_cells.proofs.cursors.is_number_at.Goals as goal

pub returns-then-position-piece-clause-number : goal.returns-then-position-piece-clause-number
returns-then-position-piece-clause-number c = λ e.
    let ps = c.args.order.now in
    let p = c.args.position.piece in
    let i = c.args.position.index in
    let piece = c.piece-piece.ensures.value in
    let len = ap length piece in
    let inside = c.if-position-len.false in
    let index = c.if-position-piece.true in
    (number_there ps p i (omega arith) (omega arith)).1
    ∙ ap (λ (l : List ℕ). get_or l i 0) (sym piece)
    ∙ eqb-true (get_or c.piece-piece.result.now i 0) c.args.n e
