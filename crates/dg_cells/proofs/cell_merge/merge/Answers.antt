use Rattle.std.proofs.Common.{◌≡◌, ℕ, List, None, cond, ap, ◌∙◌}
use Rattle.dg_cells.specs.Rows.{cell_at}
use Rattle.dg_cells.specs.Pieces.{strung}
use Rattle.dg_cells.specs.Order.{is_noted}
use Rattle.dg_cells.proofs.OrderWalks.{listed_back}
use Rattle.dg_cells.proofs.cell_merge.merge.Goals as goal

pub returns-clause-listed : goal.returns-clause-listed
returns-clause-listed c =
    let mid = c.merge_pieces.new.rows.items in
    let new = c.vacate.new.rows.items in
    let taken = c.merge_pieces.new.taken.items in
    let vacated : (n : ℕ) → cell_at new n ≡ cond (is_noted taken n) None (cell_at mid n) =
    λ (n : ℕ). c.vacate.ensures n ∙ ap (λ (l : List ℕ). cond (is_noted l n) None (cell_at mid n)) c.deref-in-Err.ensures.value in
    listed_back c.args.rows.now.items mid new taken c.in-Err.ensures.grows c.in-Err.ensures.noted vacated (strung c.args.order.now) c.requires.listed
