use Rattle.std.proofs.Common.{◌≡◌, Option, Some, sym, ap, subst, ◌∙◌}
use Rattle.std.specs.Prelude.{IfSome}
use Rattle.dg_graph.specs.Elements.{has}
use Rattle.dg_cells.specs.Rows.{Row}
use Rattle.dg_cells.specs.Order.{cell_element}
use Rattle.dg_pool.specs.Graphs.{PoolState, slot_graph, graph_as, slot_at}
use Rattle.dg_pool.specs.Sweeps.{in_state, members_as}
use Rattle.dg_pool.proofs.SweepUnions.{has-members, lacks-members}
use Rattle.dg_pool.proofs.pool.Pool.member.Goals as goal

pub has_member-requires-clause-element : goal.has_member-requires-clause-element
has_member-requires-clause-element c =
    let h = c.in-Some.ensures.found in
    ap cell_element h.there ∙ ap Some h.element

pub returns-in-Some : goal.returns-in-Some
returns-in-Some c =
    let rows = c.self.inside.cells in
    let x = c.args.element.now in
    let n = c.in-Some.n in
    let s = c.args.slot.0 in
    let slot = slot_at c.self.inside.slots s in
    let h = c.in-Some.ensures.found in
    subst (λ (o : Option Row). IfSome o (λ r. c.has_member.result ≡ in_state s slot r)) h.there c.has_member.ensures
    ∙ sym (has-members rows n h.row c.facts.ensures h.there s slot)
    ∙ ap (has (members_as (graph_as rows s slot))) h.element
    ∙ ap (λ (p : PoolState). has (members_as (slot_graph p s)) x) c.self.view_is

pub returns-in-None : goal.returns-in-None
returns-in-None c =
    let x = c.args.element.now in
    let s = c.args.slot.0 in
    sym (lacks-members c.self.inside.cells x c.in-None.ensures.lacks s (slot_at c.self.inside.slots s))
    ∙ ap (λ (p : PoolState). has (members_as (slot_graph p s)) x) c.self.view_is
