use Rattle.std.proofs.Common.{◌≡◌, Option, sym, ap, subst, ◌∙◌}
use Rattle.std.specs.Prelude.{IfSome}
use Rattle.dg_graph.specs.Elements.{has}
use Rattle.dg_cells.specs.Rows.{Row, is_current}
use Rattle.dg_pool.specs.Graphs.{PoolState, graph_now}
use Rattle.dg_pool.proofs.GraphSets.{picked_decides, picked_nothing}
use Rattle.dg_pool.proofs.pool.Pool.member_now.Goals as goal

pub returns-in-Some : goal.returns-in-Some
returns-in-Some c =
    let rows = c.self.inside.cells in
    let x = c.args.element.now in
    let n = c.in-Some.n in
    let h = c.in-Some.ensures.found in
    subst (λ (o : Option Row). IfSome o (λ r. c.is_current_at.result ≡ is_current r)) h.there c.is_current_at.ensures
    ∙ sym (picked_decides is_current rows x n h.row c.facts.ensures h.there h.element)
    ∙ ap (λ (p : PoolState). has (graph_now p) x) c.self.view_is

pub returns-in-None : goal.returns-in-None
returns-in-None c =
    let x = c.args.element.now in
    sym (picked_nothing is_current c.self.inside.cells x c.in-None.ensures.lacks) ∙ ap (λ (p : PoolState). has (graph_now p) x) c.self.view_is
