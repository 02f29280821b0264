use Rattle.std.proofs.Common.{◌≡◌, ◌∙◌, ◌==◌, ◌∷◌, [], ℕ, Bool, true, arith, List, ap, eqb-true, inr, length, map, refl, subst, sym}
use Rattle.std.specs.List.{All, Contains}
use Rattle.std.specs.Prelude.{IfOk, IfSome, vec_len}
use Rattle.std.specs.Global.{Vec}
use Rattle.dg_history.proofs.ParameterRanges.{in_range}
use Rattle.dg_append.proofs.OlderChildSteps.{none_in}
use Rattle.dg_append.proofs.OlderChildTimes.{older_among}
use Rattle.dg_append.proofs.OlderGroupNodes.{older_bare, older_there}
use Rattle.dg_append.proofs.OlderGroupSets.{every_some, none_whole}
use Rattle.dg_append.proofs.older_steps.older_steps.Goals as goal
use Rattle.dg_append.specs.BatchSegments.{StandsForKept}
use Rattle.dg_append.specs.OlderChildSteps.{AreLedByGroups, AreLedOlder, GivesOlderSteps, set_among}
use Rattle.dg_append.specs.OlderGroups.{in_groups, leaves_after, leaves_before, older_children}
use Rattle.dg_build.specs.GivenDeltas.{taken_back}
use Rattle.dg_build.specs.InteriorDeltas.{steps_to}
use Rattle.dg_build.specs.OlderSteps.{last_leaf, older_in_time}
use Rattle.dg_graph.specs.Composition.{Delta}
use Rattle.dg_graph.specs.declared.element.Element.{Element}
use Rattle.dg_history.specs.declared.node.NodeId.{NodeId}
use Rattle.dg_history.specs.History.{History, are_parameters, events_of}
use Rattle.dg_index.specs.Hierarchy.{set_of}
use Rattle.dg_index.specs.OpenedIndex.{Opening}
use Rattle.dg_retrieval.specs.KeptGraph.{record_edges, record_nodes}
use Rattle.dg_retrieval.specs.NodeSets.{HasNoEvents}

abbrev times : Opening → ℕ → List NodeId
times o count = older_in_time o.params.k (leaves_before o) (leaves_after o count)

nodes_there : (o : Opening) (count : ℕ) (there given nodes : List NodeId) → are_parameters o.params.l o.params.k ≡ true → there ≡ record_nodes o → given ≡ nodes → nodes ≡ older_children o count → All (Contains there) given
nodes_there o count there given nodes parameters all same are =
    subst (λ (x : List NodeId × List NodeId). All (Contains x.0) x.1) (let e : (record_nodes o, older_children o count) ≡ (there, given) = λ i. (sym all i, sym (same ∙ are) i) in e)
    (older_there o (in_range o.params.l o.params.k parameters).arity_two (leaves_after o count))

nodes_bare : (o : Opening) (count : ℕ) (given nodes : List NodeId) → are_parameters o.params.l o.params.k ≡ true → given ≡ nodes → nodes ≡ older_children o count → All HasNoEvents given
nodes_bare o count given nodes parameters same are =
    subst (λ (x : List NodeId). All HasNoEvents x) (sym (same ∙ are)) (older_bare o (in_range o.params.l o.params.k parameters).arity_two (leaves_after o count))

times_among : (o : Opening) (count : ℕ) (given nodes given_times in_time : List NodeId) → are_parameters o.params.l o.params.k ≡ true → given ≡ nodes → nodes ≡ older_children o count
    → given_times ≡ in_time → in_time ≡ times o count → All (Contains given) given_times
times_among o count given nodes given_times in_time parameters same are same_times are_times =
    subst (λ (x : List NodeId × List NodeId). All (Contains x.0) x.1) (let e : (older_children o count, times o count) ≡ (given, given_times) = λ i. (sym (same ∙ are) i, sym (same_times ∙ are_times) i) in e)
    (older_among o.params.k (leaves_before o) (leaves_after o count) (in_range o.params.l o.params.k parameters).arity_two)

none_in_time : (o : Opening) (count : ℕ) → are_parameters o.params.l o.params.k ≡ true → older_children o count ≡ [] → times o count ≡ []
none_in_time o count parameters none =
    none_in (times o count)
    (subst (λ (x : List NodeId). All (Contains x) (times o count)) none (older_among o.params.k (leaves_before o) (leaves_after o count) (in_range o.params.l o.params.k parameters).arity_two))

none_of : (v : Vec NodeId) (b : Bool) → b ≡ (vec_len v == 0) → b ≡ true → v.items ≡ []
none_of v b is holds = empty v.items (let long = v.ok.0 in omega (arith, long, eqb-true (vec_len v) 0 (sym is ∙ holds)))
  where
    empty : (xs : List NodeId) → length xs ≡ 0 → xs ≡ []
    empty [] e = refl
    empty (x ∷ xs) e = absurd (omega (arith, e))

pub returns-then-is_empty-clause-count : goal.returns-then-is_empty-clause-count
returns-then-is_empty-clause-count g c =
    let o : Opening = c.args.index.now.opening in
    let count : ℕ = length c.args.next.now.events.now in
    let none : times o count ≡ [] = none_in_time o count c.facts.ensures.parameters (sym c.in_ok-nodes.ensures ∙ none_of c.in_ok-nodes.nodes c.is_empty.result c.is_empty.ensures c.if-is_empty.true) in
    ap (λ (l : List Delta). length l) c.new.ensures.items ∙ ap (λ (l : List NodeId). length l) (sym none)

pub returns-then-is_empty-clause-over : goal.returns-then-is_empty-clause-over
returns-then-is_empty-clause-over g c =
    let o : Opening = c.args.index.now.opening in
    let count : ℕ = length c.args.next.now.events.now in
    let none : times o count ≡ [] = none_in_time o count c.facts.ensures.parameters (sym c.in_ok-nodes.ensures ∙ none_of c.in_ok-nodes.nodes c.is_empty.result c.is_empty.ensures c.if-is_empty.true) in
    every_some (g.D.Disk.image c.args.disk.now) _
    (λ image z is. record {
      steps = c.new.ensures.items ∙ (λ i. steps_to (map (set_of z.params (events_of z)) (sym none i)) (last_leaf z.params (events_of z)));
      most = λ singles are. omega arith;
      never = tt;
    })

pub returns-then-is_empty-clause-damage : goal.returns-then-is_empty-clause-damage
returns-then-is_empty-clause-damage g c =
    let o : Opening = c.args.index.now.opening in
    let count : ℕ = length c.args.next.now.events.now in
    every_some (g.D.Disk.image c.args.disk.now) _
    (none_whole o c.args.next.now.known (older_children o count) (sym c.in_ok-nodes.ensures ∙ none_of c.in_ok-nodes.nodes c.is_empty.result c.is_empty.ensures c.if-is_empty.true))

pub steps_of-requires-clause-nodes : goal.steps_of-requires-clause-nodes
steps_of-requires-clause-nodes g c =
    nodes_there c.args.index.now.opening (length c.args.next.now.events.now) _ _ c.in_ok-nodes.nodes.items c.facts.ensures.parameters refl c.deref.ensures.value c.in_ok-nodes.ensures

pub steps_of-requires-clause-leaves : goal.steps_of-requires-clause-leaves
steps_of-requires-clause-leaves g c =
    nodes_bare c.args.index.now.opening (length c.args.next.now.events.now) _ c.in_ok-nodes.nodes.items c.facts.ensures.parameters c.deref.ensures.value c.in_ok-nodes.ensures

pub steps_of-requires-clause-in_time : goal.steps_of-requires-clause-in_time
steps_of-requires-clause-in_time g c =
    times_among c.args.index.now.opening (length c.args.next.now.events.now) _ c.in_ok-nodes.nodes.items _ c.in_ok-in_time.in_time.items c.facts.ensures.parameters c.deref.ensures.value c.in_ok-nodes.ensures
    c.deref-2.ensures.value c.in_ok-in_time.ensures

-- what is told of nodes in two orders is told of those that they are
told_of : (P : List NodeId → List NodeId → Type 0) (given nodes all given_times in_time all_times : List NodeId) → given ≡ nodes → nodes ≡ all → given_times ≡ in_time → in_time ≡ all_times → P given given_times → P all all_times
told_of P given nodes all given_times in_time all_times same are same_times are_times p =
    subst (λ (x : List NodeId × List NodeId). P x.0 x.1) (let e : (given, given_times) ≡ (all, all_times) = λ i. ((same ∙ are) i, (same_times ∙ are_times) i) in e) p

pub returns-clause-over : goal.returns-clause-over
returns-clause-over g c =
    let o : Opening = c.args.index.now.opening in
    let count : ℕ = length c.args.next.now.events.now in
    told_of
    (λ nodes in_time. IfSome (g.D.Disk.image c.args.disk.now)
    (λ image. (z : History) → StandsForKept z image o c.args.next.now c.args.next.now.current.now.graph
    → GivesOlderSteps z (record_edges o) nodes in_time (g.D.Disk.taken c.args.disk.now) (g.D.Disk.taken c.steps_of.new.disk) c.steps_of.result))
    c.deref.result.now c.in_ok-nodes.nodes.items (older_children o count) c.deref-2.result.now c.in_ok-in_time.in_time.items (times o count) c.deref.ensures.value c.in_ok-nodes.ensures
    c.deref-2.ensures.value c.in_ok-in_time.ensures c.steps_of.ensures.over

pub returns-then-is_empty-clause-led : goal.returns-then-is_empty-clause-led
returns-then-is_empty-clause-led g c =
    let o : Opening = c.args.index.now.opening in
    let count : ℕ = length c.args.next.now.events.now in
    let bare : older_children o count ≡ [] = sym c.in_ok-nodes.ensures ∙ none_of c.in_ok-nodes.nodes c.is_empty.result c.is_empty.ensures c.if-is_empty.true in
    let none : times o count ≡ [] = none_in_time o count c.facts.ensures.parameters bare in
    let leaf : List Element = taken_back c.args.next.now.current.now.graph c.args.next.now.recent.now in
    every_some (g.D.Disk.image c.args.disk.now) _
    (λ image. inr (record {
      sets = [];
      led = subst (λ (nodes : List NodeId). AreLedByGroups c.args.next.now.known image o (in_groups nodes) []) (sym bare) refl;
      are = c.new.ensures.items ∙ (λ i. steps_to (map (set_among (older_children o count) [] leaf) (sym none i)) leaf);
    }))

pub returns-clause-led : goal.returns-clause-led
returns-clause-led g c =
    let o : Opening = c.args.index.now.opening in
    let count : ℕ = length c.args.next.now.events.now in
    told_of
    (λ nodes in_time. IfSome (g.D.Disk.image c.args.disk.now)
    (λ image. IfOk c.steps_of.result (λ steps. AreLedOlder c.args.next.now.known image o nodes in_time c.args.next.now.recent.now c.args.next.now.current.now.graph steps.items)))
    c.deref.result.now c.in_ok-nodes.nodes.items (older_children o count) c.deref-2.result.now c.in_ok-in_time.in_time.items (times o count) c.deref.ensures.value c.in_ok-nodes.ensures
    c.deref-2.ensures.value c.in_ok-in_time.ensures c.steps_of.ensures.led
