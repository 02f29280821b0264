use Rattle.std.proofs.Common.{true, false, ◌≡◌, ℕ, ◌≤◌, List, [], ◌∷◌, length, map, sym, ap, subst, ◌∙◌, arith}
use Rattle.std.specs.List.{All}
use Rattle.dg_plan.specs.EnteredRecords.{EntersOnce}
use Rattle.dg_plan.specs.Walks.{Grows}
use Rattle.dg_history.specs.declared.node.NodeId.{NodeId}
use Rattle.dg_plan.specs.IndexGraph.{Ground, arcs_of, edges_of, nodes_of}
use Rattle.dg_plan.proofs.EnteredRecordTrees.{enters_once}
use Rattle.dg_path.specs.declared.search.Link.{Link}
use Rattle.dg_path.specs.Search.{AreLinks, arcs, IsTable, AreAdjacent}
use Rattle.dg_planner.specs.AskedLengths.{asked_length_of}
use Rattle.dg_planner.specs.Bases.{ground_with, HasBases}
use Rattle.dg_planner.specs.Links.{link_in}
use Rattle.dg_planner.specs.Order.{HasEnds, count_in}
use Rattle.dg_planner.specs.Whole.{IsBetween}
use Rattle.dg_planner.proofs.OrderPlaces.{counted}
use Rattle.dg_planner.proofs.OrderEnds.{ends_in, has_ends, links_are}
use Rattle.dg_planner.proofs.OrderPlans.{all_have_least}
use Rattle.dg_planner.proofs.WholeArcs.{all_near, arcs_are}
use Rattle.dg_planner.proofs.planner.Planner.make.Goals as goal

-- links that are those of the graph, for as many nodes
placed : (g : Ground) → 2 ≤ g.arity → HasBases g → (links : List Link) (n : ℕ) → links ≡ map (link_in g.leaves g.arity g.memory) (edges_of g) → n ≡ count_in g.leaves g.arity g.memory → AreLinks links n
placed g low bases links n is count =
    subst (λ ls. AreLinks ls n) (sym is) (subst (AreLinks (map (link_in g.leaves g.arity g.memory) (edges_of g))) (counted g ∙ sym count) (links_are g low bases))

pub make_links-requires-clause-ends : goal.make_links-requires-clause-ends
make_links-requires-clause-ends c =
    let G = ground_with c.args.form.leaves c.args.form.arity c.args.form.memory c.args.bases.now (asked_length_of c.args.catalogue.now c.args.cols) in
    subst (All (HasEnds c.args.form.leaves c.args.form.arity)) (sym (c.deref-2.ensures.value ∙ c.in_ok-edges.ensures)) (has_ends G c.requires.low c.requires.bases)

pub thread-requires-clause-links : goal.thread-requires-clause-links
thread-requires-clause-links c =
    let G = ground_with c.args.form.leaves c.args.form.arity c.args.form.memory c.args.bases.now (asked_length_of c.args.catalogue.now c.args.cols) in
    placed G c.requires.low c.requires.bases _ _ (c.deref-4.ensures.value ∙ (c.in_ok-links.ensures ∙ ap (map (link_in c.args.form.leaves c.args.form.arity c.args.form.memory)) (c.deref-2.ensures.value ∙ c.in_ok-edges.ensures))) c.node_count-nodes.ensures

pub thread-requires-2-clause-links : goal.thread-requires-2-clause-links
thread-requires-2-clause-links c =
    let G = ground_with c.args.form.leaves c.args.form.arity c.args.form.memory c.args.bases.now (asked_length_of c.args.catalogue.now c.args.cols) in
    placed G c.requires.low c.requires.bases _ _ (c.deref-5.ensures.value ∙ (c.in_ok-links.ensures ∙ ap (map (link_in c.args.form.leaves c.args.form.arity c.args.form.memory)) (c.deref-2.ensures.value ∙ c.in_ok-edges.ensures))) c.node_count-nodes.ensures

pub costs_from-requires-clause-links : goal.costs_from-requires-clause-links
costs_from-requires-clause-links c =
    let G = ground_with c.args.form.leaves c.args.form.arity c.args.form.memory c.args.bases.now (asked_length_of c.args.catalogue.now c.args.cols) in
    placed G c.requires.low c.requires.bases _ _ (c.deref-6.ensures.value ∙ (c.in_ok-links.ensures ∙ ap (map (link_in c.args.form.leaves c.args.form.arity c.args.form.memory)) (c.deref-2.ensures.value ∙ c.in_ok-edges.ensures))) c.node_count-nodes.ensures

pub invariant_of-result : goal.invariant_of-result
invariant_of-result c =
    let G = ground_with c.args.form.leaves c.args.form.arity c.args.form.memory c.args.bases.now (asked_length_of c.args.catalogue.now c.args.cols) in
    let edges = c.in_ok-edges.edges.items in
    let links = c.in_ok-links.links.items in
    let costs = c.in_ok-costs.costs.items in
    let made : edges ≡ edges_of G = c.in_ok-edges.ensures in
    let from_edges : links ≡ map (link_in c.args.form.leaves c.args.form.arity c.args.form.memory) edges =
    c.in_ok-links.ensures ∙ ap (map (link_in c.args.form.leaves c.args.form.arity c.args.form.memory)) c.deref-2.ensures.value in
    let is : links ≡ map (link_in c.args.form.leaves c.args.form.arity c.args.form.memory) (edges_of G) =
    from_edges ∙ ap (map (link_in c.args.form.leaves c.args.form.arity c.args.form.memory)) made in
    let len : length costs ≡ c.node_count-nodes.result = c.in_ok-costs.ensures.len in
    let count : length costs ≡ count_in c.args.form.leaves c.args.form.arity c.args.form.memory = len ∙ c.node_count-nodes.ensures in
    let table : IsTable (arcs links) (0 ∷ []) costs = subst (λ ls. IsTable (arcs ls) (0 ∷ []) costs) c.deref-6.ensures.value c.in_ok-costs.ensures.table in
    record {
      leaves = c.requires.leaves;
      low = c.requires.low;
      high = c.requires.high;
      starts_are = c.in_ok-starts.ensures;
      ends = subst (All (IsBetween (nodes_of G))) (sym made) (ends_in G c.requires.low c.requires.bases);
      once = subst (λ es. (tree : List NodeId) (steps : List ℕ) → Grows (arcs_of es) tree steps → EntersOnce es steps) (sym made) (enters_once G);
      links_are = placed G c.requires.low c.requires.bases links (length costs) is count;
      count = count ∙ sym (counted G);
      few = (let a = c.if-len.false in let b = c.len.ensures in let d = c.in_ok-links.links.ok.0 in omega arith);
      named = ap arcs from_edges ∙ arcs_are G edges;
      out_chains = subst (λ n. AreAdjacent true links c.in_ok-outs.outs.first.items c.in_ok-outs.outs.next.items n) (sym len) (subst (λ ls. AreAdjacent true ls c.in_ok-outs.outs.first.items c.in_ok-outs.outs.next.items c.node_count-nodes.result) c.deref-4.ensures.value c.in_ok-outs.ensures.chained);
      in_chains = subst (λ n. AreAdjacent false links c.in_ok-ins.ins.first.items c.in_ok-ins.ins.next.items n) (sym len) (subst (λ ls. AreAdjacent false ls c.in_ok-ins.ins.first.items c.in_ok-ins.ins.next.items c.node_count-nodes.result) c.deref-5.ensures.value c.in_ok-ins.ensures.chained);
      table = table;
      fits = c.in_ok-costs.ensures.fits;
      near = all_near G c.requires.low c.requires.bases c.requires.leaves c.requires.light c.requires.lists links is costs (count ∙ sym (counted G)) table;
    }

pub returns-clause-reached : goal.returns-clause-reached
returns-clause-reached c = all_have_least _ _ _ _ _ _ _ (invariant_of-result c)
