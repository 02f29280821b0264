use Rattle.std.proofs.Common.{◌≡◌, ℕ, List, map, set, sym, ap, ◌∙◌, subst, arith, Vec, Global}
use Rattle.std.specs.List.{insert, All}
use Rattle.std.proofs.lemmas.List.Edits.{length-insert}
use Rattle.std.proofs.lemmas.List.Elements.{All-set}
use Rattle.dg_cells.specs.Pieces.{strung, nth_piece, IsPiece}
use Rattle.dg_cells.proofs.PieceEdits.{inserted, read_as, written_as, unwritten_as, length_as}
use Rattle.dg_cells.proofs.Exits.{on_err}
use Rattle.dg_cells.proofs.pieces.Pieces.insert_within.Goals as goal
use Rattle.dg_cells.proofs.pieces.Pieces.insert_within.Goals.{After-insert}

abbrev numbers : Vec ℕ Global → List ℕ
numbers v = v.items

-- the piece before the write
was : (c : After-insert) → c.index_mut-numbers.result.now.items ≡ nth_piece (map numbers c.self.inside.pieces.items) c.args.piece
was c =
    let len = length_as numbers c.self.inside.pieces.items c.args.self.now c.self.view_is in
    let h = c.requires.piece in
    read_as numbers c.self.inside.pieces.items c.args.piece c.index_mut-numbers.result.now (omega arith) c.index_mut-numbers.ensures.value

pub invariant_of-self : goal.invariant_of-self
invariant_of-self c =
    subst (All IsPiece) (sym (unwritten_as numbers c.self.inside.pieces.items c.args.piece c.insert.new.self (c.in_err-insert.ensures.items ∙ was (goal.at.invariant_of-self c).After-insert))) c.self.invariant

pub returns-in_err-insert-clause-err : goal.returns-in_err-insert-clause-err
returns-in_err-insert-clause-err c =
    on_err c.from_residual.result
    (unwritten_as numbers c.self.inside.pieces.items c.args.piece c.insert.new.self (c.in_err-insert.ensures.items ∙ was (goal.at.returns-in_err-insert-clause-err c).After-insert) ∙ c.self.view_is)

-- the pieces after the write
now : (c : After-insert) → c.insert.new.self.items ≡ insert c.index_mut-numbers.result.now.items c.args.index c.args.number → map numbers (set c.self.inside.pieces.items c.args.piece c.insert.new.self) ≡ set c.args.self.now c.args.piece (insert (nth_piece c.args.self.now c.args.piece) c.args.index c.args.number)
now c e =
    written_as numbers c.self.inside.pieces.items c.args.piece c.insert.new.self (insert (nth_piece (map numbers c.self.inside.pieces.items) c.args.piece) c.args.index c.args.number) (e ∙ ap (λ (l : List ℕ). insert l c.args.index c.args.number) (was c))
    ∙ ap (λ (ps : List (List ℕ)). set ps c.args.piece (insert (nth_piece ps c.args.piece) c.args.index c.args.number)) c.self.view_is

pub invariant_of-self-2 : goal.invariant_of-self-2
invariant_of-self-2 c =
    let ps = c.args.self.now in
    let p = nth_piece ps c.args.piece in
    let len = length-insert p c.args.index c.args.number c.requires.index in
    let room = c.requires.room in
    subst (All IsPiece) (sym (now (goal.at.invariant_of-self-2 c).After-insert c.in_ok-insert.ensures.items))
    (All-set IsPiece ps c.args.piece (insert p c.args.index c.args.number) (record { some = omega arith; most = omega arith }) (subst (All IsPiece) c.self.view_is c.self.invariant))

pub returns-clause-ok : goal.returns-clause-ok
returns-clause-ok c =
    ap strung (now (goal.at.returns-clause-ok c).After-insert c.in_ok-insert.ensures.items)
    ∙ inserted c.args.self.now c.args.piece c.args.index c.args.number c.requires.piece c.requires.index
