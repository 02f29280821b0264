use Rattle.std.proofs.Common.{IfSome, ap, subst, ◌==◌, ◌∙◌}
use Rattle.std.specs.List.{count_by}
use Rattle.dg_current.specs.Sorted.{AreEndsOf, has_end}
use Rattle.dg_current.proofs.sorted_graph.SortedGraph.edges_at.Goals as goal
use Rattle.dg_current.proofs.sorted_graph.SortedGraph.edges_at.Goals.{In-Some}

-- the ends that are kept are those of the elements
right : (c : In-Some) → AreEndsOf c.self.inside.elements c.in-Some.ends.items
right c = subst (λ ends. IfSome ends (λ ends. AreEndsOf c.self.inside.elements ends.items)) c.in-Some.is c.self.invariant.1

pub returns-in-Some : goal.returns-in-Some
returns-in-Some c =
    c.count_sorted.ensures ∙ ap (count_by (λ end. end == c.args.id)) c.deref.ensures.value
    ∙ (right (goal.at.returns-in-Some c).In-Some).counts c.args.id ∙ ap (count_by (has_end c.args.id)) c.self.view_is
