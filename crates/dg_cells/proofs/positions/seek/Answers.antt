use Rattle.std.proofs.Common.{refl, ◌⊎◌, inl, inr, Bool, ◌≡◌, ◌<◌, ◌≤◌, ◌-◌, ℕ, List, true, false, length, sym, ap, ◌∙◌, subst, arith}
use Rattle.dg_cells.specs.Pieces.{nth_piece}
use Rattle.dg_cells.specs.Order.{AreCells, is_index_before}
use Rattle.dg_cells.proofs.Orders.{cells_of_piece, position_lower}
use Rattle.std.proofs.lemmas.Bool.{cases_lt, true≢false}
use Rattle.dg_cells.proofs.positions.seek.Goals as goal

-- where the last is not before x, the position is within
inside_by : (t : ℕ → Bool) (i n : ℕ) → i ≤ n → (0 < i → t (i - 1) ≡ true) → 0 < n → t (n - 1) ≡ false → ((i < n) ⊎ (n ≤ i)) → i < n
inside_by t i n h low some last (inl g) = g
inside_by t i n h low some last (inr g) =
    let is : i - 1 ≡ n - 1 = omega arith in
    absurd (true≢false (sym (low (omega arith)) ∙ ap t is ∙ last))

pub returns-then-piece-len-clause-lower : goal.returns-then-piece-len-clause-lower
returns-then-piece-len-clause-lower c =
    let p = c.seek_piece-piece.result in
    let end : p ≡ length c.args.pieces.now = omega arith in
    position_lower c.args.rows.now.items c.args.pieces.now c.args.x.now p 0 c.requires c.facts.ensures
    (record { within = c.seek_piece-piece.ensures.within; inside = λ h. absurd (omega arith); end = λ _. refl })
    (λ _. c.seek_piece-piece.ensures.low) (λ h. absurd (omega arith)) (λ h. absurd (omega arith))

pub seek_within-index-requires : goal.seek_within-index-requires
seek_within-index-requires c =
    let p = c.seek_piece-piece.result in
    let within = c.seek_piece-piece.ensures.within in
    let past = c.if-piece-len.false in
    subst (AreCells c.args.rows.now.items) (sym c.piece.ensures.value) (cells_of_piece c.args.rows.now.items c.args.pieces.now p c.requires.live (omega arith))

pub returns-clause-lower : goal.returns-clause-lower
returns-clause-lower c =
    let rows = c.args.rows.now.items in
    let ps = c.args.pieces.now in
    let x = c.args.x.now in
    let p = c.seek_piece-piece.result in
    let i = c.seek_within-index.result in
    let within = c.seek_piece-piece.ensures.within in
    let past = c.if-piece-len.false in
    let inside : p < length ps = omega arith in
    let piece = c.piece.ensures.value in
    let len = ap length piece in
    let some = c.piece.ensures.piece.some in
    let low : 0 < i → is_index_before rows (nth_piece ps p) x (i - 1) ≡ true =
    λ (h : 0 < i). ap (λ (l : List ℕ). is_index_before rows l x (i - 1)) (sym piece) ∙ c.seek_within-index.ensures.low h in
    let last : is_index_before rows (nth_piece ps p) x (length (nth_piece ps p) - 1) ≡ false = c.seek_piece-piece.ensures.high inside in
    let most : i ≤ length (nth_piece ps p) = let h = c.seek_within-index.ensures.within in omega arith in
    let index : i < length (nth_piece ps p) = inside_by (is_index_before rows (nth_piece ps p) x) i (length (nth_piece ps p)) most low some last (cases_lt i (length (nth_piece ps p))) in
    position_lower rows ps x p i c.requires c.facts.ensures
    (record { within = within; inside = λ _. index; end = λ e. absurd (omega arith) })
    (λ _. c.seek_piece-piece.ensures.low) low
    (λ _. ap (λ (l : List ℕ). is_index_before rows l x i) (sym piece) ∙ c.seek_within-index.ensures.high (omega arith))

pub returns-in-Some-clause-lower : goal.returns-in-Some-clause-lower
returns-in-Some-clause-lower c =
    let i = c.in-Some.index in
    let within = c.in-Some.ensures.within in
    let inside = c.in-Some.ensures.piece refl in
    position_lower c.args.rows.now.items c.args.pieces.now c.args.x.now c.args.near.piece i c.requires c.facts.ensures
    (record { within = omega arith; inside = λ _. within.1; end = λ e. absurd (omega arith) })
    (λ none. absurd (let some = within.0 in omega arith)) (λ _. c.in-Some.ensures.low) (λ _. c.in-Some.ensures.high)
