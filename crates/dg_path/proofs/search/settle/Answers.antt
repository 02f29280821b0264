use Rattle.std.proofs.Common.{◌≡◌, sym, ap, subst, ◌∙◌, arith}
use Rattle.std.specs.BinaryHeap.{heap_items}
use Rattle.std.specs.declared.cmp.Reverse.{Reverse}
use Rattle.dg_path.specs.declared.search.Waiting.{Waiting}
use Rattle.dg_path.specs.Search.{AreLinks, arcs, cost_at}
use Rattle.dg_plan.proofs.WalkCosts.{at_most_along}
use Rattle.dg_path.proofs.SearchLinks.{stale, fresh, all_settled, out_of_date}
use Rattle.dg_path.proofs.search.settle.Goals as goal

pub returns-clause-settled : goal.returns-clause-settled
returns-clause-settled c =
    all_settled c.args.links.now c.loop-top.costs (heap_items c.loop-top.queue) (subst (AreLinks c.args.links.now) (sym c.loop-top.invariant.0) c.requires.links)
    (let n = c.in_default.ensures.none in let ok = c.loop-top.queue.data.ok.0 in omega arith) c.loop-top.invariant.2

pub loop-top-preserved : goal.loop-top-preserved
loop-top-preserved c = (
  c.loop-top.invariant.0,
  c.loop-top.invariant.1,
  stale (arcs c.args.links.now) c.loop-top.costs (heap_items c.loop-top.queue) (heap_items c.pop.new.self) c.in-Some.field-0 c.in-Some.ensures.permutation
      (λ v within e. let node : v ≡ c.in-Some.field-0.0.node = ap (λ (w : Reverse Waiting). w.0.node) e in let past = c.if-top-costs.false in omega arith) c.loop-top.invariant.2,
  c.loop-top.invariant.3,
  c.loop-top.invariant.4,
)

pub loop-top-preserved-else-cost-top : goal.loop-top-preserved-else-cost-top
loop-top-preserved-else-cost-top c = (
  c.loop-top.invariant.0,
  c.loop-top.invariant.1,
  stale (arcs c.args.links.now) c.loop-top.costs (heap_items c.loop-top.queue) (heap_items c.pop.new.self) c.in-Some.field-0 c.in-Some.ensures.permutation
      (λ v within. out_of_date c.loop-top.costs c.in-Some.field-0 (record { weight = 0; edges = 0 }) c.if-top-costs.true c.else-cost-top.either v) c.loop-top.invariant.2,
  c.loop-top.invariant.3,
  c.loop-top.invariant.4,
)

pub loop-top-preserved-then-cost-top-2 : goal.loop-top-preserved-then-cost-top-2
loop-top-preserved-then-cost-top-2 c =
    let low = c.in_ok-relax.ensures.lowered in (
      low.len ∙ c.loop-top.invariant.0,
      low.fits,
      fresh c.args.links.now c.loop-top.costs c.relax.new.costs (heap_items c.loop-top.queue) (heap_items c.pop.new.self) (heap_items c.relax.new.queue) c.in-Some.field-0 c.in-Some.ensures.permutation low c.loop-top.invariant.2,
      λ starts w. low.walks starts (c.loop-top.invariant.3 starts w),
      λ v. at_most_along (cost_at c.relax.new.costs v) (cost_at c.loop-top.costs v) (cost_at c.args.costs.now v) (low.falls v) (c.loop-top.invariant.4 v),
    )
