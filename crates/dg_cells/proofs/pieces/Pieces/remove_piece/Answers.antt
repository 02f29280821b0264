use Rattle.std.proofs.Common.{ℕ, List, map, sym, ap, ◌∙◌, subst, Vec, Global}
use Rattle.std.specs.List.{remove, All}
use Rattle.dg_cells.specs.Pieces.{strung, IsPiece}
use Rattle.dg_cells.proofs.PieceEdits.{map_remove, pieces_removed, piece_gone}
use Rattle.dg_cells.proofs.pieces.Pieces.remove_piece.Goals as goal

abbrev numbers : Vec ℕ Global → List ℕ
numbers v = v.items

pub invariant_of-self : goal.invariant_of-self
invariant_of-self c =
    let l = c.self.inside.pieces.items in
    subst (All IsPiece) (sym (ap (map numbers) c.remove.ensures.items ∙ map_remove numbers l c.args.piece))
    (pieces_removed (map numbers l) c.args.piece c.self.invariant)

pub returns : goal.returns
returns c =
    let l = c.self.inside.pieces.items in
    ap (λ (v : List (Vec ℕ Global)). strung (map numbers v)) c.remove.ensures.items
    ∙ ap strung (map_remove numbers l c.args.piece ∙ ap (λ (ps : List (List ℕ)). remove ps c.args.piece) c.self.view_is)
    ∙ piece_gone c.args.self.now c.args.piece c.requires.piece c.requires.one
