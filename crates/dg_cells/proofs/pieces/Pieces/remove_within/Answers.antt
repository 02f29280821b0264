use Rattle.std.proofs.Common.{◌≡◌, ℕ, List, [], map, set, sym, ap, ◌∙◌, subst, arith, Vec, Global}
use Rattle.std.specs.List.{remove, All}
use Rattle.std.proofs.lemmas.List.Edits.{length-remove}
use Rattle.std.proofs.lemmas.List.Elements.{All-set, All-get_or}
use Rattle.dg_cells.specs.Pieces.{strung, nth_piece, IsPiece}
use Rattle.dg_cells.proofs.PieceEdits.{removed, read_as, written_as, length_as}
use Rattle.dg_cells.proofs.pieces.Pieces.remove_within.Goals as goal
use Rattle.dg_cells.proofs.pieces.Pieces.remove_within.Goals.{After-remove}

abbrev numbers : Vec ℕ Global → List ℕ
numbers v = v.items

-- the pieces after the write
now : (c : After-remove) → map numbers (set c.self.inside.pieces.items c.args.piece c.remove.new.self) ≡ set c.args.self.now c.args.piece (remove (nth_piece c.args.self.now c.args.piece) c.args.index)
now c =
    let l = c.self.inside.pieces.items in
    let len = length_as numbers l c.args.self.now c.self.view_is in
    let h = c.requires.piece in
    let was = read_as numbers l c.args.piece c.index_mut-numbers.result.now (omega arith) c.index_mut-numbers.ensures.value in
    written_as numbers l c.args.piece c.remove.new.self (remove (nth_piece (map numbers l) c.args.piece) c.args.index) (c.remove.ensures.items ∙ ap (λ (q : List ℕ). remove q c.args.index) was)
    ∙ ap (λ (ps : List (List ℕ)). set ps c.args.piece (remove (nth_piece ps c.args.piece) c.args.index)) c.self.view_is

pub invariant_of-self : goal.invariant_of-self
invariant_of-self c =
    let ps = c.args.self.now in
    let p = nth_piece ps c.args.piece in
    let all : All IsPiece ps = subst (All IsPiece) c.self.view_is c.self.invariant in
    let piece = All-get_or IsPiece ps c.args.piece [] c.requires.piece all in
    let most = piece.most in
    let more = c.requires.more in
    let len = length-remove p c.args.index c.requires.index in
    subst (All IsPiece) (sym (now (goal.at.invariant_of-self c).After-remove))
    (All-set IsPiece ps c.args.piece (remove p c.args.index) (record { some = omega arith; most = omega arith }) all)

pub returns : goal.returns
returns c =
    ap strung (now (goal.at.returns c).After-remove)
    ∙ removed c.args.self.now c.args.piece c.args.index c.requires.piece c.requires.index
