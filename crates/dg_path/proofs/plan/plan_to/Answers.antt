use Rattle.std.proofs.Common.{◌≡◌, ◌<◌, ◌++◌, ◌∷◌, [], length, sym, subst, arith}
use Rattle.std.specs.Prelude.{reverse}
use Rattle.std.specs.List.{All}
use Rattle.std.proofs.lemmas.List.{get_or_default}
use Rattle.std.proofs.lemmas.List.Elements.{All-push}
use Rattle.std.proofs.lemmas.Option.{slice_get_within, get_or_from_slice_get}
use Rattle.dg_path.specs.declared.search.Link.{Link}
use Rattle.dg_path.specs.declared.search.TheConstants.{UNREACHED}
use Rattle.dg_plan.specs.Walks.{Leads, IsBest}
use Rattle.dg_path.specs.Search.{arcs, label_at, IsLink}
use Rattle.std.proofs.lemmas.List.Sorted.{All-permutation, IsPermutation-reverse}
use Rattle.dg_path.proofs.SearchTables.{best_within, some_meets, best_of, plan_of, longer, tail_costs_less}
use Rattle.dg_path.proofs.plan.plan_to.Goals as goal

abbrev none : Link
none = record { tail = 0; head = 0; weight = 0 }

pub best-edge-requires-clause-some : goal.best-edge-requires-clause-some
best-edge-requires-clause-some c =
    let more : 0 < (label_at c.args.costs.now c.loop-node.node).edges = (let t = c.loop-node-test.true in
    let same = get_or_default c.args.costs.now c.loop-node.node (record { weight = 0; edges = 0 }) UNREACHED c.loop-node.invariant.0 in subst (λ x. 0 < x.edges) same t) in
    some_meets c.args.links.now c.args.costs.now c.requires.table.0 c.requires.table.1 c.loop-node.node c.loop-node.invariant.1 more

pub bounds-links-edge : goal.bounds-links-edge
bounds-links-edge c = slice_get_within _ _ _ c.best-edge.ensures.there

pub loop-node-smaller : goal.loop-node-smaller
loop-node-smaller c =
    let f = c.best-edge.ensures in
    let is = get_or_from_slice_get c.args.links.now c.best-edge.result f.link none f.there in
    subst (λ (l : Link). (label_at c.args.costs.now l.tail).edges < (label_at c.args.costs.now c.loop-node.node).edges) (sym is) (tail_costs_less c.args.links.now c.args.costs.now c.loop-node.node c.best-edge.result f).0

pub loop-node-preserved : goal.loop-node-preserved
loop-node-preserved c =
    let links = c.args.links.now in
    let costs = c.args.costs.now in
    let f = c.best-edge.ensures in
    let is = get_or_from_slice_get links c.best-edge.result f.link none f.there in
    let link_in : IsLink (length costs) f.link = subst (IsLink (length costs)) (get_or_from_slice_get links c.best-edge.result f.link f.link f.there) (c.requires.links c.best-edge.result f.link (slice_get_within _ _ _ f.there)) in
    let near = tail_costs_less links costs c.loop-node.node c.best-edge.result f in
    let items : c.push.new.self.items ≡ c.loop-node.steps.items ++ c.best-edge.result ∷ [] = c.in_ok-push.ensures.items in (
      subst (λ (l : Link). l.tail < length costs) (sym is) link_in.tail,
      subst (λ (l : Link). (label_at costs l.tail).weight < UNREACHED.weight) (sym is) (let n = near.1 in let m = c.loop-node.invariant.1 in omega arith),
      subst (λ (l : Link). Leads (arcs links) l.tail (reverse c.push.new.self.items) c.args.target) (sym is)
          (subst (λ s. Leads (arcs links) f.link.tail (reverse s) c.args.target) (sym items) (longer links costs c.loop-node.node c.args.target c.best-edge.result c.loop-node.steps.items f c.loop-node.invariant.2)),
      λ starts t. subst (All (IsBest (arcs links) starts)) (sym items)
          (All-push (IsBest (arcs links) starts) c.loop-node.steps.items c.best-edge.result (c.loop-node.invariant.3 starts t) (best_of links costs starts t c.loop-node.node c.best-edge.result c.loop-node.invariant.1 f)),
    )

pub returns-clause-plan : goal.returns-clause-plan
returns-clause-plan c = λ starts t.
    let ended : (label_at c.args.costs.now c.loop-node.node).edges ≡ 0 = (let e = c.loop-node-test.false in
    let same = get_or_default c.args.costs.now c.loop-node.node (record { weight = 0; edges = 0 }) UNREACHED c.loop-node.invariant.0 in subst (λ x. x.edges ≡ 0) same (omega arith)) in
    plan_of c.args.links.now c.args.costs.now starts t c.loop-node.node c.args.target c.loop-node.steps.items _ c.loop-node.invariant.1 ended c.loop-node.invariant.2 (c.loop-node.invariant.3 starts t) c.reverse.ensures.items

pub returns-clause-steps : goal.returns-clause-steps
returns-clause-steps c =
    subst (All (λ i. i < length c.args.links.now)) (sym c.reverse.ensures.items)
    (All-permutation (λ i. i < length c.args.links.now) _ _ (IsPermutation-reverse c.loop-node.steps.items) (best_within c.args.links.now c.requires.table.0 c.loop-node.steps.items (c.loop-node.invariant.3 c.requires.table.0 c.requires.table.1)))
