use Rattle.std.proofs.Common.{◌+◌, sym, ap, ◌∙◌}
use Rattle.std.specs.List.{count_by}
use Rattle.dg_current.specs.ElementIds.{needs_id}
use Rattle.dg_current.specs.Sorted.{is_value_at}
use Rattle.dg_current.proofs.SortedSearches.{uses_of_node, uses_of_other}
use Rattle.dg_current.proofs.sorted_graph.SortedGraph.uses.Goals as goal

pub returns-in-Node : goal.returns-in-Node
returns-in-Node c =
    let set = c.args.self.now in
    let values = c.count_values-values.ensures ∙ (λ i. count_by (is_value_at (c.in-Node.is i)) ((c.items.ensures.value ∙ c.self.view_is) i)) in
    (λ i. c.edges_at.ensures i + values i) ∙ sym (uses_of_node c.in-Node.node set) ∙ ap (λ p. count_by (needs_id p) set) (sym c.in-Node.is)

pub returns-in_default : goal.returns-in_default
returns-in_default c =
    c.count_values-values.ensures ∙ ap (count_by (is_value_at c.args.id)) (c.items.ensures.value ∙ c.self.view_is)
    ∙ sym (uses_of_other c.args.id c.args.self.now c.in_default.not-Node)
