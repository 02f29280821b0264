-- The exact steps of the older children: by one tree that reaches the last leaf, and by the sets of all of them.
use Rattle.std.proofs.Common.{◌≡◌, ℕ, Bool, true, false, cond, zero, suc, ◌+◌, ◌<◌, ◌≤◌, List as ListOf, [], ◌∷◌, ◌++◌, Result, Ok, Err, length, map, take, drop, get_or, inl, refl, sym, ap, subst, ◌∙◌, append_assoc, append-nil, arith, take-append-drop, ◌*◌}
use Rattle.std.specs.List.{All, Contains}
use Rattle.std.proofs.lemmas.Bool.{true≢false}
use Rattle.std.proofs.lemmas.List.{take_all}
use Rattle.std.proofs.lemmas.List.Elements.{All-head, All-tail}
use Rattle.dg_append.proofs.OlderGroupSets.{groups_next, none_left}
use Rattle.dg_append.specs.declared.older_sets.TheConstants.{GROUP_MAX}
use Rattle.dg_append.specs.OlderChildSteps.{set_among}
use Rattle.dg_append.specs.OlderGroups.{AreUndamaged, IsDamageOfGroups, TellsGroupDamage, in_groups, leaves_before}
use Rattle.dg_build.specs.InteriorDeltas.{steps_to}
use Rattle.dg_build.specs.OlderSteps.{last_leaf}
use Rattle.dg_graph.proofs.ExactEvents.{none_left as nothing_left, IsSet-replay_from, replay_append}
use Rattle.dg_graph.specs.Composition.{Delta, between, nothing}
use Rattle.dg_graph.specs.declared.element.Element.{Element}
use Rattle.dg_graph.specs.declared.event.Event.{Event}
use Rattle.dg_graph.specs.Elements.{IsSet}
use Rattle.dg_graph.specs.ExactEvents.{AreChangesOf}
use Rattle.dg_graph.specs.Replay.{replay, replay_from}
use Rattle.dg_history.specs.declared.node.NodeId.{NodeId}
use Rattle.dg_history.specs.declared.node.NodeId.TheVariants.{Leaf}
use Rattle.dg_history.specs.History.{History, events_of}
use Rattle.dg_history.specs.declared.params.Params.{Params}
use Rattle.dg_index.specs.Hierarchy.{leaves, set_at, set_of}
use Rattle.dg_index.specs.IndexRecords.{recent_of}
use Rattle.dg_index.specs.OpenedIndex.{Opening, event_total}
use Rattle.dg_index.proofs.HierarchySteps.{IsSet-node}
use Rattle.dg_net.proofs.ExactEventCuts.{changes_behind}
use Rattle.dg_plan.specs.declared.edge.Edge.{Edge}
use Rattle.dg_plan.specs.HistoryGraph.{all_columns}
use Rattle.dg_plan.specs.InstantPoint.{same_node}
use Rattle.dg_retrieval.specs.Calls.{TellsDamage}
use Rattle.dg_records.specs.declared.fault.RecordFault.{RecordFault}
use Rattle.dg_records.specs.declared.fault.RecordFault.TheVariants as fault
use Rattle.dg_retrieval.specs.KeptGraph.{record_edges}
use Rattle.dg_retrieval.specs.NodeSets.{IsIndexOver, sets_of}
use Rattle.dg_retrieval.proofs.BeginningBases.{same_is, same_itself}
use Rattle.dg_retrieval.proofs.KeptGraphWeights.{opened_events, opened_params}
use Rattle.dg_steps.specs.NodeSteps.{steps_among}

-- ---- lists

drop_one : {A : Type 0} (xs : ListOf A) (i : ℕ) (other : A) → i < length xs → drop i xs ≡ get_or xs i other ∷ drop (suc i) xs
drop_one [] i other within = absurd (omega (arith, within))
drop_one (x ∷ xs) zero other within = refl
drop_one (x ∷ xs) (suc i) other within = drop_one xs i other (omega (arith, within))

drop_out : {A : Type 0} (xs : ListOf A) (i : ℕ) → length xs ≤ i → drop i xs ≡ []
drop_out [] zero far = refl
drop_out [] (suc i) far = refl
drop_out (x ∷ xs) zero far = absurd (omega (arith, far))
drop_out (x ∷ xs) (suc i) far = drop_out xs i (omega (arith, far))

-- ---- the set of a node among others

module _ (node : NodeId) (other : ListOf Element) where
  -- at the node
  pub among_hit : (nodes : ListOf NodeId) (sets : ListOf (ListOf Element)) (i : ℕ) (d : NodeId) (none : ListOf Element) → length sets ≡ length nodes → i < length nodes → get_or nodes i d ≡ node
      → set_among (drop i nodes) (drop i sets) other node ≡ get_or sets i none
  among_hit [] sets i d none long within is = absurd (omega (arith, within))
  among_hit (n ∷ nodes) [] i d none long within is = absurd (omega (arith, long))
  among_hit (n ∷ nodes) (s ∷ sets) zero d none long within is = ap (λ (b : Bool). cond b s (set_among nodes sets other node)) (ap (λ (m : NodeId). same_node m node) is ∙ same_itself node)
  among_hit (n ∷ nodes) (s ∷ sets) (suc i) d none long within is = among_hit nodes sets i d none (omega (arith, long)) (omega (arith, within)) is

  -- at another node
  passed : (nodes : ListOf NodeId) (sets : ListOf (ListOf Element)) (i : ℕ) (d : NodeId) → length sets ≡ length nodes → i < length nodes → (get_or nodes i d ≡ node → ⊥)
      → set_among (drop (suc i) nodes) (drop (suc i) sets) other node ≡ set_among (drop i nodes) (drop i sets) other node
  passed [] sets i d long within is = absurd (omega (arith, within))
  passed (n ∷ nodes) [] i d long within is = absurd (omega (arith, long))
  passed (n ∷ nodes) (s ∷ sets) zero d long within is = by (same_node n node) refl
    where
      by : (b : Bool) → same_node n node ≡ b → set_among nodes sets other node ≡ cond b s (set_among nodes sets other node)
      by true same = absurd (is (same_is n node same))
      by false same = refl
  passed (n ∷ nodes) (s ∷ sets) (suc i) d long within is = passed nodes sets i d (omega (arith, long)) (omega (arith, within)) is

  pub among_miss : (nodes : ListOf NodeId) (sets : ListOf (ListOf Element)) (i : ℕ) (d : NodeId) → length sets ≡ length nodes → i < length nodes → (get_or nodes i d ≡ node → ⊥)
      → set_among (drop (i + 1) nodes) (drop (i + 1) sets) other node ≡ set_among (drop i nodes) (drop i sets) other node
  among_miss nodes sets i d long within is = (λ j. set_among (drop (one j) nodes) (drop (one j) sets) other node) ∙ passed nodes sets i d long within is
    where
      one : i + 1 ≡ suc i
      one = omega arith

  -- behind all nodes
  pub among_none : (nodes : ListOf NodeId) (sets : ListOf (ListOf Element)) (i : ℕ) → length nodes ≤ i → set_among (drop i nodes) sets other node ≡ other
  among_none nodes sets i far = ap (λ (l : ListOf NodeId). set_among l sets other node) (drop_out nodes i far)

  -- of sets that are made of the nodes
  pub among_mapped : (f : NodeId → ListOf Element) (nodes : ListOf NodeId) → Contains nodes node → set_among nodes (map f nodes) other node ≡ f node
  among_mapped f [] there = absurd (let h = there.1 in omega (arith, h))
  among_mapped f (n ∷ nodes) there = by (same_node n node) refl (λ later. among_mapped f nodes later)
    where
      later_there : (k : ℕ) → k < suc (length nodes) → get_or (n ∷ nodes) k node ≡ node → same_node n node ≡ false → Contains nodes node
      later_there zero within is same = absurd (true≢false (sym (ap (λ (m : NodeId). same_node m node) is ∙ same_itself node) ∙ same))
      later_there (suc k) within is same = (k, omega (arith, within), is)

      by : (b : Bool) → same_node n node ≡ b → (Contains nodes node → set_among nodes (map f nodes) other node ≡ f node) → cond b (f n) (set_among nodes (map f nodes) other node) ≡ f node
      by true same more = ap f (same_is n node same)
      by false same more = more (later_there there.0 there.1 there.2 same)

pub all_among : (f : NodeId → ListOf Element) (nodes : ListOf NodeId) (other : ListOf Element) (in_time : ListOf NodeId) → All (Contains nodes) in_time → map (set_among nodes (map f nodes) other) in_time ≡ map f in_time
all_among f nodes other [] all = refl
all_among f nodes other (n ∷ in_time) all =
    λ i. among_mapped n other f nodes (All-head (Contains nodes) n in_time all) i ∷ all_among f nodes other in_time (All-tail (Contains nodes) n in_time all) i

-- ---- steps by one tree

-- the step from the last of them to itself changes nothing
pub steps_end : (f : NodeId → ListOf Element) (front : ListOf NodeId) (node : NodeId) (end : ListOf Element) → IsSet (f node) → end ≡ f node
    → steps_among (map f (front ++ node ∷ [])) ++ nothing ∷ [] ≡ steps_to (map f (front ++ node ∷ [])) end
steps_end f [] node end set is = (λ i. record { minus = sym (nothing_left (f node) set) i; plus = sym (nothing_left (f node) set) i } ∷ []) ∙ (λ i. between (f node) (sym is i) ∷ [])
steps_end f (x ∷ []) node end set is = ap (λ (l : ListOf Delta). between (f x) (f node) ∷ l) (steps_end f [] node end set is)
steps_end f (x ∷ y ∷ front) node end set is = ap (λ (l : ListOf Delta). between (f x) (f y) ∷ l) (steps_end f (y ∷ front) node end set is)

-- ---- steps by sets

-- the set to which the step at an index leads
pub next_set : (f : NodeId → ListOf Element) (in_time : ListOf NodeId) (n : ℕ) (end : ListOf Element) (other : NodeId) → n < length in_time → f (get_or in_time n other) ≡ get_or (map f (drop n in_time)) 0 end
next_set f in_time n end other within = λ j. get_or (map f (sym (drop_one in_time n other within) j)) 0 end

pub last_set : (f : NodeId → ListOf Element) (in_time : ListOf NodeId) (n : ℕ) (end : ListOf Element) → length in_time ≤ n → end ≡ get_or (map f (drop n in_time)) 0 end
last_set f in_time n end far = λ j. get_or (map f (sym (drop_out in_time n far) j)) 0 end

pub one_step : (f : NodeId → ListOf Element) (in_time : ListOf NodeId) (i : ℕ) (other : NodeId) (end from to : ListOf Element) (now new all : ListOf Delta) → i < length in_time
    → new ≡ now ++ between from to ∷ [] → from ≡ f (get_or in_time i other) → to ≡ get_or (map f (drop (i + 1) in_time)) 0 end
    → now ++ steps_to (map f (drop i in_time)) end ≡ all → new ++ steps_to (map f (drop (i + 1) in_time)) end ≡ all
one_step f in_time i other end from to now new all within is from_is to_is so_far =
    (λ j. is j ++ steps_to (map f (drop (one j) in_time)) end)
    ∙ append_assoc now (between from to ∷ []) (steps_to (map f (drop (suc i) in_time)) end)
    ∙ (λ j. now ++ between (from_is j) ((to_is ∙ (λ k. get_or (map f (drop (one k) in_time)) 0 end)) j) ∷ steps_to (map f (drop (suc i) in_time)) end)
    ∙ (λ j. now ++ steps_to (map f (sym (drop_one in_time i other within) j)) end)
    ∙ so_far
  where
    one : i + 1 ≡ suc i
    one = omega arith

pub all_steps : (f : NodeId → ListOf Element) (in_time : ListOf NodeId) (i : ℕ) (end : ListOf Element) (steps all : ListOf Delta) → length in_time ≤ i → steps ++ steps_to (map f (drop i in_time)) end ≡ all → steps ≡ all
all_steps f in_time i end steps all far so_far = sym (append-nil steps) ∙ (λ j. steps ++ steps_to (map f (sym (drop_out in_time i far) j)) end) ∙ so_far

-- ---- the last leaf

-- the current graph, led back over the recent events
pub leaf_led : (p : Params) (past recent : ListOf Event) (now base : ListOf Element) → recent ≡ recent_of p past → now ≡ replay past → AreChangesOf [] past
    → ((set : ListOf Element) → IsSet set → AreChangesOf set recent → now ≡ replay_from set recent → base ≡ set) → base ≡ last_leaf p past
leaf_led p past recent now base recent_is now_is changes leads =
    let n : ℕ = leaves p (length past) * p.l in
    let at : ListOf Element = last_leaf p past in
    let here : AreChangesOf at recent = subst (AreChangesOf at) (sym recent_is) (changes_behind [] n past changes) in
    let all : now ≡ replay_from at recent = now_is ∙ ap replay (sym (take-append-drop n past)) ∙ replay_append [] (take n past) (drop n past) ∙ ap (replay_from at) (sym recent_is) in
    leads at (IsSet-replay_from (take n past) [] tt) here all

-- ---- one group

one_group : (nodes : ListOf NodeId) → 1 ≤ length nodes → length nodes ≤ GROUP_MAX → in_groups nodes ≡ nodes ∷ []
one_group nodes some few =
    groups_next nodes some ∙ (λ i. take_all GROUP_MAX nodes few i ∷ none_left nodes GROUP_MAX few i)

-- what is told of the tree of one group is told of all groups
pub group_damage : {A : Type 0} (names : ℕ) (o : Opening) (edges : ListOf Edge) (nodes : ListOf NodeId) (image : ListOf ℕ) (r : Result A RecordFault) → edges ≡ record_edges o → 1 ≤ length nodes → length nodes ≤ 32
    → TellsDamage names edges o all_columns nodes image r → TellsGroupDamage names o image nodes r
group_damage {A} names o edges nodes image r same some few told = by r (subst (λ (es : ListOf Edge). TellsDamage names es o all_columns nodes image r) same told)
  where
    by : (r : Result A RecordFault) → TellsDamage names (record_edges o) o all_columns nodes image r → TellsGroupDamage names o image nodes r
    by (Ok x) told = subst (AreUndamaged names o image) (sym (one_group nodes some few)) (told, tt)
    by (Err fault.Disk) told = tt
    by (Err fault.Memory) told = tt
    by (Err (fault.Damaged key col)) told = subst (λ (gs : ListOf (ListOf NodeId)). IsDamageOfGroups names o image gs key col) (sym (one_group nodes some few)) (inl told)

-- ---- over an image of a history

-- the steps of a tree, with the one from the last leaf to itself
pub ended : (z : History) (image : ListOf ℕ) (o : Opening) (names : ℕ) → IsIndexOver z image o names → (front in_time : ListOf NodeId) → in_time ≡ front ++ Leaf (leaves_before o) ∷ []
    → (now new : ListOf Delta) (none : Delta) → now ≡ steps_among (sets_of z in_time) → none ≡ nothing → new ≡ now ++ none ∷ []
    → new ≡ steps_to (map (set_of z.params (events_of z)) in_time) (last_leaf z.params (events_of z))
ended z image o names over front in_time last now new none now_is none_is new_is =
    new_is ∙ (λ i. now_is i ++ none_is i ∷ []) ∙ (λ i. steps_among (sets_of z (last i)) ++ nothing ∷ [])
    ∙ steps_end f front (Leaf (leaves_before o)) (last_leaf z.params (events_of z)) (IsSet-node z.params (events_of z) 0 (leaves_before o)) (ap (set_at z.params (events_of z) 0) many)
    ∙ (λ i. steps_to (map f (sym last i)) (last_leaf z.params (events_of z)))
  where
    f : NodeId → ListOf Element
    f = set_of z.params (events_of z)

    many : leaves z.params (length (events_of z)) ≡ leaves_before o
    many = (λ i. leaves (sym (opened_params z) i) (sym (opened_events z) i)) ∙ ap (λ (x : Opening). leaves x.params (event_total x.batches)) (sym over.opened)

-- ---- none

pub none_in : {A : Type 0} (xs : ListOf A) → All (Contains []) xs → xs ≡ []
none_in [] all = refl
none_in {A} (x ∷ xs) all = absurd (let c = All-head (Contains []) x xs all in let h = c.1 in omega (arith, h))
