use Rattle.std.proofs.Common.{◌≡◌, ℕ, ◌<◌, List, length, get_or, sym, ap, ◌∙◌, arith, Vec, Global}
use Rattle.std.proofs.lemmas.List.{get_or_read}
use Rattle.dg_cells.specs.Pieces.{nth_piece}
use Rattle.dg_cells.proofs.PieceEdits.{number_there, read_as, length_as}
use Rattle.dg_cells.proofs.pieces.Pieces.number.Goals as goal

abbrev numbers : Vec ℕ Global → List ℕ
numbers v = v.items

pub returns-then-piece-len : goal.returns-then-piece-len
returns-then-piece-len c =
    let l = c.self.inside.pieces.items in
    let ps = c.args.self.now in
    let len = length_as numbers l ps c.self.view_is in
    let test = c.if-piece-len.true in
    let in_l : c.args.piece < length l = omega arith in
    let in_ps : c.args.piece < length ps = omega arith in
    let index = c.requires.inside in_ps in
    let piece : c.index.result.now.items ≡ nth_piece ps c.args.piece =
    read_as numbers l c.args.piece c.index.result.now in_l c.index.ensures ∙ ap (λ (q : List (List ℕ)). nth_piece q c.args.piece) c.self.view_is in
    let there = number_there ps c.args.piece c.args.index in_ps index in (
      there.0,
      there.1 ∙ ap (λ (q : List ℕ). get_or q c.args.index 0) (sym piece)
          ∙ sym (get_or_read c.index.result.now.items c.args.index c.index-then-piece-len.result.now (let k = ap length piece in omega arith) c.index-then-piece-len.ensures 0),
    )
