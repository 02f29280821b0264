use Rattle.std.proofs.Common.{sym, ap, ◌∙◌}
use Rattle.std.proofs.lemmas.List.{drop_more}
use Rattle.dg_graph.specs.declared.element.Element.TheVariants.{Node}
use Rattle.dg_set.specs.Indices.{first_cmp}
use Rattle.dg_set.proofs.replace.order_at.Goals as goal

pub returns-then-index-items-clause-order : goal.returns-then-index-items-clause-order
returns-then-index-items-clause-order c =
    let x = c.args.element.now in
    let items = c.args.items.now in
    c.cmp.ensures
    ∙ ap (first_cmp x) (sym (drop_more items c.args.index (Node 0) c.if-index-items.true))
