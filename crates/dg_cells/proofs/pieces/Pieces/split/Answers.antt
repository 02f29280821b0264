use Rattle.std.proofs.Common.{◌≡◌, ℕ, ◌+◌, ◌-◌, ◌<◌, List, [], ◌++◌, map, set, take, drop, length, refl, sym, ap, ◌∙◌, subst, arith, Vec, Global}
use Rattle.std.specs.List.{insert, All}
use Rattle.std.proofs.lemmas.List.{take_rest}
use Rattle.std.proofs.lemmas.List.Edits.{get_or-insert_below, length-insert}
use Rattle.dg_cells.specs.Pieces.{nth_piece, IsPiece}
use Rattle.dg_cells.proofs.PieceEdits.{halved, is_halved, map_insert, pieces_halved, read_as, written_as, length_as}
use Rattle.dg_cells.proofs.pieces.Pieces.split.Goals as goal
use Rattle.dg_cells.proofs.pieces.Pieces.split.Goals.{After-truncate}

abbrev numbers : Vec ℕ Global → List ℕ
numbers v = v.items

-- the pieces afterwards
now : (c : After-truncate) → c.insert.new.self.items ≡ insert c.self.inside.pieces.items (c.args.piece + 1) c.extend_from_slice.new.self → c.extend_from_slice.new.self.items ≡ c.in_ok-tail.tail.items ++ take (length c.deref.result.now - 512) (drop 512 c.deref.result.now) → map numbers (set c.insert.new.self.items c.args.piece c.truncate.new.self) ≡ halved c.args.self.now c.args.piece
now c e f =
    let l = c.self.inside.pieces.items in
    let n = c.args.piece in
    let ps : List (List ℕ) = map numbers l in
    let h = c.requires.piece in
    let len = length_as numbers l c.args.self.now c.self.view_is in
    let in_l : n < length l = omega arith in
    let first : c.deref.result.now ≡ nth_piece ps n = c.deref.ensures.value ∙ read_as numbers l n c.index.result.now in_l c.index.ensures in
    let tail : c.extend_from_slice.new.self.items ≡ drop 512 (nth_piece ps n) =
    f ∙ ap (λ (q : List ℕ). q ++ take (length c.deref.result.now - 512) (drop 512 c.deref.result.now)) c.in_ok-tail.ensures.items
    ∙ take_rest c.deref.result.now 512 ∙ ap (drop 512) first in
    let more = length-insert l (n + 1) c.extend_from_slice.new.self (omega arith) in
    let longer = ap length e in
    let read : c.index_mut-numbers.result.now.items ≡ nth_piece ps n =
    read_as numbers c.insert.new.self.items n c.index_mut-numbers.result.now (omega arith) c.index_mut-numbers.ensures.value
    ∙ ap (λ (q : List (Vec ℕ Global)). nth_piece (map numbers q) n) e
    ∙ ap (λ (q : List (List ℕ)). nth_piece q n) (map_insert numbers l (n + 1) c.extend_from_slice.new.self)
    ∙ get_or-insert_below ps (n + 1) c.extend_from_slice.new.self.items [] n (omega arith) (let k = length_as numbers l ps refl in omega arith) in
    written_as numbers c.insert.new.self.items n c.truncate.new.self (take 512 (nth_piece ps n)) (c.truncate.ensures.items ∙ ap (take 512) read)
    ∙ ap (λ (q : List (Vec ℕ Global)). set (map numbers q) n (take 512 (nth_piece ps n))) e
    ∙ ap (λ (q : List (List ℕ)). set q n (take 512 (nth_piece ps n))) (map_insert numbers l (n + 1) c.extend_from_slice.new.self ∙ ap (insert ps (n + 1)) tail)
    ∙ ap (λ (q : List (List ℕ)). halved q n) c.self.view_is

pub invariant_of-self-2 : goal.invariant_of-self-2
invariant_of-self-2 c =
    subst (All IsPiece) (sym (now (goal.at.invariant_of-self-2 c).After-truncate c.in_ok-insert.ensures.items c.in_ok-extend_from_slice.ensures.items))
    (pieces_halved c.args.self.now c.args.piece c.requires.piece c.requires.full (subst (All IsPiece) c.self.view_is c.self.invariant))

pub returns-clause-ok : goal.returns-clause-ok
returns-clause-ok c =
    is_halved c.args.self.now (map numbers (set c.insert.new.self.items c.args.piece c.truncate.new.self)) c.args.piece c.requires.piece c.requires.full
    (now (goal.at.returns-clause-ok c).After-truncate c.in_ok-insert.ensures.items c.in_ok-extend_from_slice.ensures.items)
