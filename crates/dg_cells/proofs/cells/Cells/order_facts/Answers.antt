use Rattle.std.proofs.Common.{◌≡◌, ℕ, Option, Some, List, subst}
use Rattle.std.specs.Prelude.{slice_get}
use Rattle.dg_graph.specs.Elements.{IsSet}
use Rattle.dg_cells.specs.Rows.{Row, cell_at}
use Rattle.dg_cells.specs.Pieces.{strung}
use Rattle.dg_cells.specs.Cursors.{ordered, ordered_elements}
use Rattle.dg_cells.proofs.CursorRows.{rises_ordered, each_ordered, only_ordered}
use Rattle.dg_cells.proofs.cells.Cells.order_facts.Goals as goal

pub returns-clause-rises : goal.returns-clause-rises
returns-clause-rises c =
    subst (λ (l : List (Option Row)). IsSet (ordered_elements l)) c.self.view_is (rises_ordered c.self.inside.rows.items (strung c.self.inside.order) c.self.invariant)

pub returns-clause-all : goal.returns-clause-all
returns-clause-all c =
    subst (λ (l : List (Option Row)). (n : ℕ) (r : Row) → cell_at l n ≡ Some r → (k : ℕ) × (slice_get (ordered l) k ≡ Some r)) c.self.view_is
    (each_ordered c.self.inside.rows.items (strung c.self.inside.order) c.self.invariant)

pub returns-clause-only : goal.returns-clause-only
returns-clause-only c = only_ordered c.args.self.now
