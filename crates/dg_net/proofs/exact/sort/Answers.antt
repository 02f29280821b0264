use Rattle.std.proofs.Common.{rules}
use Rattle.std.proofs.lemmas.List.Sorted.{answers_always, ranks_by}
use Rattle.dg_graph.specs.declared.element.Element.{Element}
use Rattle.dg_graph.specs.Elements.{before}
use Rattle.dg_graph.proofs.Sets.{element_total}
use Rattle.dg_net.proofs.exact.sort.Goals as goal

pub returns-clause-sorted : goal.returns-clause-sorted
returns-clause-sorted c =
    c.sort_unstable_by.ensures.sorted before (ranks_by element_total (λ (x : Element). x)) (answers_always _ _ _ (λ f a r q k. search rules))
