use Rattle.std.proofs.Common.{take, get_or, sym, ap, ◌∙◌, arith}
use Rattle.std.proofs.lemmas.List.{take_more, length-take}
use Rattle.dg_graph.specs.declared.element.Element.{Element}
use Rattle.dg_graph.specs.declared.element.Element.TheVariants as kind
use Rattle.dg_query.specs.Queries.{counts_of}
use Rattle.dg_pool.specs.Counts.{kind_count, one_more}
use Rattle.dg_pool.proofs.GraphCounts.{counts-push, kind-most}
use Rattle.dg_pool.proofs.counts.count_kinds.Goals as goal

pub one_more-counts-requires : goal.one_more-counts-requires
one_more-counts-requires c =
    let items = c.args.items.now in
    let i = c.loop-element.element-index in
    let x : Element = get_or items i (kind.Node 0) in
    let same = ap (λ z. kind_count z x) c.loop-element.invariant in
    let most = kind-most (take i items) x in
    let short = length-take i items in
    omega arith

pub loop-element-preserved : goal.loop-element-preserved
loop-element-preserved c =
    let items = c.args.items.now in
    let i = c.loop-element.element-index in
    let x : Element = get_or items i (kind.Node 0) in
    c.one_more-counts.ensures
    ∙ ap (λ z. one_more z x) c.loop-element.invariant
    ∙ sym (counts-push (take i items) x)
    ∙ ap counts_of (sym (take_more items i (kind.Node 0) c.loop-element-test.true))
