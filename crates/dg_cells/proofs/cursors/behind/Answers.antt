use Rattle.std.proofs.Common.{◌≡◌, ℕ, ◌+◌, ◌<◌, List, Option, length, get_or, min, ap, ◌∙◌, subst, arith}
use Rattle.std.proofs.lemmas.List.Elements.{All-get_or}
use Rattle.dg_cells.specs.Rows.{Row, cell_at}
use Rattle.dg_cells.specs.Pieces.{strung, nth_piece, numbers_before}
use Rattle.dg_cells.specs.Order.{IsListed}
use Rattle.dg_cells.specs.Cursors.{ordered, row_at, index_of_row}
use Rattle.dg_cells.proofs.PieceEdits.{number_there}
use Rattle.dg_cells.proofs.Orders.{IsCell}
use Rattle.dg_cells.proofs.CursorRows.{position_is, length_is}
use Rattle.dg_cells.proofs.RowChanges.{some_row}
use Rattle.dg_cells.proofs.cursors.behind.Goals as goal

next_position : (a b m : ℕ) → a ≡ b → b < m → b + 1 ≡ min (a + 1) m
next_position a b m e h = omega arith

-- the position of a cell whose number stands in a piece
position_in : (rows : List (Option Row)) (ps : List (List ℕ)) (p i n : ℕ) → IsListed rows (strung ps) → p < length ps → i < length (nth_piece ps p) → get_or (nth_piece ps p) i 0 ≡ n → index_of_row rows (cell_at rows n) ≡ numbers_before ps p + i
position_in rows ps p i n listed h g e =
    let there = number_there ps p i h g in
    let is : get_or (strung ps) (numbers_before ps p + i) 0 ≡ n = there.1 ∙ e in
    let row = some_row (cell_at rows n) (subst (IsCell rows) is (All-get_or (IsCell rows) (strung ps) (numbers_before ps p + i) 0 there.0 listed.in_order.live)) in
    ap (index_of_row rows) row.1 ∙ position_is rows (strung ps) listed (numbers_before ps p + i) n row.0 there.0 is row.1

pub returns-in-Some : goal.returns-in-Some
returns-in-Some c =
    let rows = c.args.rows.now.items in
    let ps = c.args.order.now in
    let p = c.args.cursor.position.piece in
    let i = c.args.cursor.position.index in
    let h = c.in-Some.ensures.piece in
    let g = c.in-Some.ensures.index in
    let here : index_of_row rows (row_at rows c.args.cursor.cell) ≡ numbers_before ps p + i =
    ap (λ (o : Option ℕ). index_of_row rows (row_at rows o)) c.requires.number ∙ position_in rows ps p i c.args.n c.requires.listed h (omega arith) c.in-Some.ensures.number in
    let new : index_of_row rows (cell_at rows c.in-Some.m) ≡ numbers_before ps p + (i + 1) = position_in rows ps p (i + 1) c.in-Some.m c.requires.listed h g c.in-Some.ensures.next in
    let len : length (ordered rows) ≡ length (strung ps) = length_is rows (strung ps) c.requires.listed in
    let there = (number_there ps p (i + 1) h g).0 in
    let more : numbers_before ps p + (i + 1) ≡ numbers_before ps p + i + 1 = omega arith in
    new ∙ more ∙ next_position (index_of_row rows (row_at rows c.args.cursor.cell)) (numbers_before ps p + i) (length (ordered rows)) here (omega arith)

pub returns-in-None : goal.returns-in-None
returns-in-None c =
    let rows = c.args.rows.now.items in
    let ps = c.args.order.now in
    let n = c.args.n in
    let p = c.locate.result.piece in
    let i = c.locate.result.index in
    let row = some_row (cell_at rows n) c.requires.there in
    let there = number_there ps p i c.locate.ensures.piece c.locate.ensures.index in
    let here : index_of_row rows (row_at rows c.args.cursor.cell) ≡ numbers_before ps p + i =
    ap (λ (o : Option ℕ). index_of_row rows (row_at rows o)) c.requires.number
    ∙ ap (index_of_row rows) row.1
    ∙ position_is rows (strung ps) c.requires.listed (numbers_before ps p + i) n row.0 there.0 c.locate.ensures.number row.1 in
    let len : length (ordered rows) ≡ length (strung ps) = length_is rows (strung ps) c.requires.listed in
    let new = c.cursor_at.ensures in
    let next = c.next.ensures.next in
    let inside = there.0 in
    new ∙ next ∙ next_position (index_of_row rows (row_at rows c.args.cursor.cell)) (numbers_before ps p + i) (length (ordered rows)) here (omega arith)
