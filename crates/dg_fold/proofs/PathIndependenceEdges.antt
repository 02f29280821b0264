-- Each edge of the index graph is sound.
use Rattle.std.proofs.Common.{◌≡◌, ◌≤◌, ◌<◌, ◌+◌, ◌*◌, ◌-◌, ◌/◌, ℕ, zero, suc, Bool, true, false, cond, not, List as ListOf, [], ◌∷◌, ◌++◌, map, length, take, drop, None, refl, sym, ap, subst, ◌∙◌, arith}
use Rattle.std.specs.List.{All, flat_map}
use Rattle.std.proofs.lemmas.Bool.{true≢false, false≢true}
use Rattle.std.proofs.lemmas.List.{take-append-drop}
use Rattle.std.proofs.lemmas.List.Elements.{All-nil, All-cons}
use Rattle.std.proofs.lemmas.Nat.{div-mul-add}
use Rattle.dg_graph.specs.declared.event.Event.{Event}
use Rattle.dg_history.specs.declared.node.NodeId.{NodeId}
use Rattle.dg_history.specs.declared.node.NodeId.TheVariants.{Root, Now, Recent, List, Inner}
use Rattle.dg_history.specs.declared.node.Key.TheVariants as key
use Rattle.dg_history.specs.declared.params.Params.{Params}
use Rattle.dg_history.specs.History.{History, events_of}
use Rattle.dg_graph.specs.Composition.{between}
use Rattle.dg_graph.specs.Elements.{IsSet}
use Rattle.dg_graph.specs.Replay.{replay, replay_from}
use Rattle.dg_graph.specs.ExactEvents.{AreChangesOf}
use Rattle.dg_graph.proofs.ExactEvents.{IsSet-replay_from, replay_append}
use Rattle.dg_plan.specs.declared.edge.Edge.{Edge}
use Rattle.dg_plan.specs.declared.edge.Via.{Via}
use Rattle.dg_plan.specs.declared.edge.Via.TheVariants as via
use Rattle.dg_plan.specs.declared.edge.Way.TheVariants.{Same, Forward, Back}
use Rattle.dg_index.specs.IndexRecords.{Events, Exact, heights, record_among}
use Rattle.dg_fold.specs.PathIndependence.{taken, Contents, IsSoundEdge, DeltasLead, via_deltas, enters_held, contents, EdgesAreSound}
use Rattle.dg_net.proofs.ExactEventCuts.{changes_behind}
use Rattle.dg_fold.proofs.PathIndependenceRecords.{exact_leads, events_lead, events_lead_back, slice_leads}
use Rattle.dg_index.proofs.HierarchySteps.{IsSet-node}
use Rattle.dg_index.specs.Hierarchy.{leaves, parent, set_at, set_of, numbers}
use Rattle.dg_plan.specs.IndexGraph.{Ground, inners_at, level_node, leaf, is_root, edge, base_edge, top_edge, first_edges, list_edges, child_edges, inner_edges, level_edges, recent_edges, kept, edges_of}

-- ---- each of a list

abbrev pub Each : {X : Type 0} → (X → Type 0) → ListOf X → Type 0
Each P [] = Unit {0}
Each P (x ∷ xs) = P x × Each P xs

pub each_both : {X : Type 0} (P : X → Type 0) (xs ys : ListOf X) → Each P xs → Each P ys → Each P (xs ++ ys)
each_both P [] ys f g = g
each_both P (x ∷ xs) ys f g = (f.0, each_both P xs ys f.1 g)

pub each_map : {X Y : Type 0} (P : Y → Type 0) (f : X → Y) (xs : ListOf X) → Each (λ x. P (f x)) xs → Each P (map f xs)
each_map P f [] h = tt
each_map P f (x ∷ xs) h = (h.0, each_map P f xs h.1)

pub each_flat : {X Y : Type 0} (P : Y → Type 0) (f : X → ListOf Y) (xs : ListOf X) → Each (λ x. Each P (f x)) xs → Each P (flat_map f xs)
each_flat P f [] h = tt
each_flat P f (x ∷ xs) h = each_both P (f x) (flat_map f xs) h.0 (each_flat P f xs h.1)

pub each_of : {X : Type 0} (P Q : X → Type 0) → ((x : X) → P x → Q x) → (xs : ListOf X) → Each P xs → Each Q xs
each_of P Q f [] h = tt
each_of P Q f (x ∷ xs) h = (f x h.0, each_of P Q f xs h.1)

pub each_any : {X : Type 0} (P : X → Type 0) → ((x : X) → P x) → (xs : ListOf X) → Each P xs
each_any P f [] = tt
each_any P f (x ∷ xs) = (f x, each_any P f xs)

pub each_cond : {X : Type 0} (P : X → Type 0) (b : Bool) (xs : ListOf X) → Each P xs → Each P (cond b xs [])
each_cond P true xs h = h
each_cond P false xs h = tt

each_number : (P : ℕ → Type 0) (first count : ℕ) → ((n : ℕ) → first ≤ n → n < first + count → P n) → Each P (numbers first count)
each_number P first zero f = tt
each_number P first (suc count) f =
    (f first (omega arith) (omega arith), each_number P (first + 1) count (λ n low high. f n (omega arith) (omega arith)))

pub all_each : {X : Type 0} (P : X → Type 0) (xs : ListOf X) → Each P xs → All P xs
all_each P [] h = All-nil P
all_each P (x ∷ xs) h = All-cons P x xs h.0 (all_each P xs h.1)

-- ---- what an edge does, wherever it leads

pub record Leads (x : Contents) (e : Edge) : Type 0 where
  pub leads : enters_held e.via ≡ false → DeltasLead (via_deltas x e.via) (x.set e.from) (x.set e.to)
  pub begins : enters_held e.via ≡ true → e.from ≡ Root

-- an edge that does not enter a set that is held whole
by_record : (x : Contents) (e : Edge) → enters_held e.via ≡ false → DeltasLead (via_deltas x e.via) (x.set e.from) (x.set e.to) → Leads x e
by_record x e not_held h = record { leads = λ is. h; begins = λ is. absurd (false≢true (sym not_held ∙ is)) }

not_root : (n : NodeId) → is_root n ≡ false → n ≡ Root → ⊥
not_root n is e = true≢false (ap is_root (sym e) ∙ is)

sound_kept : (x : Contents) (edges : ListOf Edge) → Each (Leads x) edges → Each (IsSoundEdge x) (kept edges)
sound_kept x [] h = tt
sound_kept x (e ∷ edges) h = by (is_root e.to) refl (sound_kept x edges h.1)
  where
    by : (b : Bool) → is_root e.to ≡ b → Each (IsSoundEdge x) (kept edges) → Each (IsSoundEdge x) (cond (not b) (e ∷ kept edges) (kept edges))
    by true is rest = rest
    by false is rest = (record { leads = h.0.leads; begins = h.0.begins; on = not_root e.to is }, rest)

module _ (z : History) (g : Ground) (some : 1 ≤ z.params.k) (changes : AreChangesOf [] (events_of z))
    (m : g.leaves ≡ leaves z.params (length (events_of z))) (k : g.arity ≡ z.params.k) where
  abbrev pub p : Params
  p = z.params

  abbrev pub events : ListOf Event
  events = events_of z

  abbrev pub x : Contents
  x = contents z

  sets : (h j : ℕ) → IsSet (set_at z.params (events_of z) h j)
  sets h j = IsSet-node z.params (events_of z) h j

  leaf_set : (i : ℕ) → set_of p events (leaf i) ≡ set_at p events 0 i
  leaf_set zero = (let z : 0 ≡ 0 * p.l = omega arith in ap (λ n. replay (take n events)) z)
  leaf_set (suc i) = refl

  next_leaf : (i : ℕ) → set_of p events (leaf (suc i)) ≡ replay (take (i * p.l + p.l) events)
  next_leaf i = (let z : suc i * p.l ≡ i * p.l + p.l = omega arith in ap (λ n. replay (take n events)) z)

  level_set : (h j : ℕ) → set_of p events (level_node h j) ≡ set_at p events h j
  level_set zero j = refl
  level_set (suc h) j = refl

  top_leads : (h : ℕ) → Leads x (top_edge g.weight h)
  top_leads h = by_record x (top_edge g.weight h) refl ((exact_leads [] (set_at p events h 1) tt (sets h 1)).on)

  list_leads : (i : ℕ) → Each (Leads x) (list_edges g.weight i)
  list_leads i =
      let slice = slice_leads events (i * p.l) p.l changes in
      let one = via.Paid (key.List i) Same in (
        by_record x (edge (leaf i) (List i) (g.weight (key.List i)) (via.Paid (key.List i) Same)) refl (leaf_set i),
        (
          by_record x (edge (leaf (suc i)) (List i) (g.weight (key.List i)) (via.Paid (key.List i) Back)) refl
              (subst (λ s. DeltasLead (via_deltas x (via.Paid (key.List i) Back)) s (set_at p events 0 i)) (sym (next_leaf i)) slice.back),
          (
            by_record x (edge (List i) (leaf i) 0 (via.Held (key.List i) Same)) refl (sym (leaf_set i)),
            (
              by_record x (edge (List i) (leaf (suc i)) 0 (via.Held (key.List i) Forward)) refl (slice.on ∙ sym (next_leaf i)),
              tt,
            ),
          ),
        ),
      )

  -- the parent of a child
  parent_is : (j c : ℕ) → 1 ≤ j → (j - 1) * p.k + 1 ≤ c → c < (j - 1) * p.k + 1 + p.k → parent p.k c ≡ j
  parent_is j c from low high =
      let at : c - 1 ≡ (j - 1) * p.k + (c - 1 - (j - 1) * p.k) = omega arith in
      let within : c - 1 - (j - 1) * p.k < p.k = omega arith in
      ap (λ n. n / p.k + 1) at
      ∙ ap (λ n. n + 1) (div-mul-add (j - 1) p.k (c - 1 - (j - 1) * p.k) within)
      ∙ (let z : j - 1 + 1 ≡ j = omega arith in z)

  child_leads : (h j c : ℕ) → parent p.k c ≡ j → Each (Leads x) (child_edges g.weight h j c)
  child_leads h j c is =
      let exact = exact_leads (set_at p events (suc h) j) (set_at p events h c) (sets (suc h) j) (sets h c) in
      let up : suc h ≡ h + 1 = omega arith in
      let low : h + 1 - 1 ≡ h = omega arith in
      let rec : Exact (between (set_at p events (suc h) j) (set_at p events h c)) ≡ record_among p events z.batches (key.Down (h + 1) c) =
      (λ i. Exact (between (set_at p events (up i) (sym is i)) (set_at p events (sym low i) c))) in
      let from : set_at p events (suc h) j ≡ set_of p events (Inner (h + 1) j) = ap (λ n. set_at p events n j) up in
      let to = sym (level_set h c) in
      let r = record_among p events z.batches (key.Down (h + 1) c) in (
        by_record x (edge (Inner (h + 1) j) (level_node h c) (g.weight (key.Down (h + 1) c)) (via.Paid (key.Down (h + 1) c) Forward)) refl
            (subst (λ s. DeltasLead (taken Forward None r) s (set_of p events (level_node h c))) from
            (subst (λ s. DeltasLead (taken Forward None r) (set_at p events (suc h) j) s) to
            (subst (λ q. DeltasLead (taken Forward None q) (set_at p events (suc h) j) (set_at p events h c)) rec exact.on))),
        (
          by_record x (edge (level_node h c) (Inner (h + 1) j) (g.weight (key.Down (h + 1) c)) (via.Paid (key.Down (h + 1) c) Back)) refl
              (subst (λ s. DeltasLead (taken Back None r) s (set_of p events (Inner (h + 1) j))) to
              (subst (λ s. DeltasLead (taken Back None r) (set_at p events h c) s) from
              (subst (λ q. DeltasLead (taken Back None q) (set_at p events h c) (set_at p events (suc h) j)) rec exact.back))),
          tt,
        ),
      )

  inner_leads : (h j : ℕ) → 1 ≤ j → Each (Leads x) (inner_edges g.weight g.arity h j)
  inner_leads h j from =
      subst (λ a. Each (Leads x) (inner_edges g.weight a h j)) (sym k)
      (each_flat (Leads x) (child_edges g.weight h j) (numbers ((j - 1) * p.k + 1) p.k)
      (each_number (λ c. Each (Leads x) (child_edges g.weight h j c)) ((j - 1) * p.k + 1) p.k (λ c low high. child_leads h j c (parent_is j c from low high))))

  level_leads : (h : ℕ) → Each (Leads x) (level_edges g.weight g.leaves g.arity h)
  level_leads h =
      each_flat (Leads x) (inner_edges g.weight g.arity (h - 1)) (numbers 1 (inners_at g.leaves g.arity h))
      (each_number (λ j. Each (Leads x) (inner_edges g.weight g.arity (h - 1) j)) 1 (inners_at g.leaves g.arity h) (λ j low high. inner_leads (h - 1) j low))

  recent_leads : Each (Leads x) (recent_edges g.leaves)
  recent_leads =
      let n = leaves p (length events) * p.l in
      let mid = replay (take n events) in
      let recent = drop n events in
      let whole : replay events ≡ replay_from mid recent =
      ap replay (sym (take-append-drop n events)) ∙ replay_append [] (take n events) recent in
      let s = IsSet-replay_from (take n events) [] tt in
      let behind = changes_behind [] n events changes in
      let last : set_of p events (leaf g.leaves) ≡ mid = leaf_set g.leaves ∙ ap (λ m. set_at p events 0 m) m in (
        by_record x (edge Now Recent 0 (via.Recent Back)) refl
            (subst (λ l. DeltasLead (taken Back None (Events recent)) l mid) (sym whole) (events_lead_back mid recent s behind)),
        (
          by_record x (edge Recent Now 0 (via.Recent Forward)) refl (events_lead mid recent s ∙ sym whole),
          (
            by_record x (edge Recent (leaf g.leaves) 0 (via.Recent Same)) refl (sym last),
            (by_record x (edge (leaf g.leaves) Recent 0 (via.Recent Same)) refl last, tt),
          ),
        ),
      )

  held_leads : (from to : NodeId) (v : Via) → enters_held v ≡ true → from ≡ Root → Leads x (edge from to 0 v)
  held_leads from to v held is = record { leads = λ f. absurd (true≢false (sym held ∙ f)); begins = λ t. is }

  first_leads : Each (Leads x) (first_edges g)
  first_leads =
      each_both (Leads x) (cond g.memory (edge Root Now 0 via.Now ∷ []) []) (map base_edge g.bases ++ map (top_edge g.weight) (heights g.arity g.leaves))
      (each_cond (Leads x) g.memory (edge Root Now 0 via.Now ∷ []) (held_leads Root Now via.Now refl refl, tt))
      (each_both (Leads x) (map base_edge g.bases) (map (top_edge g.weight) (heights g.arity g.leaves))
      (each_map (Leads x) base_edge g.bases
      (each_any (λ (b : ℕ × NodeId). Leads x (base_edge b)) (λ b. held_leads Root b.1 (via.Base b.0) refl refl) g.bases))
      (each_map (Leads x) (top_edge g.weight) (heights g.arity g.leaves) (each_any (λ h. Leads x (top_edge g.weight h)) top_leads (heights g.arity g.leaves))))

  pub all_sound : All (IsSoundEdge x) (edges_of g)
  all_sound =
      let lists = flat_map (list_edges g.weight) (numbers 0 g.leaves) in
      let levels = flat_map (level_edges g.weight g.leaves g.arity) (heights g.arity g.leaves) in
      let recent = cond g.memory (recent_edges g.leaves) [] in
      all_each (IsSoundEdge x) (edges_of g)
      (sound_kept x (first_edges g ++ (lists ++ (levels ++ recent)))
      (each_both (Leads x) (first_edges g) (lists ++ (levels ++ recent)) first_leads
      (each_both (Leads x) lists (levels ++ recent)
      (each_flat (Leads x) (list_edges g.weight) (numbers 0 g.leaves) (each_any (λ i. Each (Leads x) (list_edges g.weight i)) list_leads (numbers 0 g.leaves)))
      (each_both (Leads x) levels recent
      (each_flat (Leads x) (level_edges g.weight g.leaves g.arity) (heights g.arity g.leaves)
      (each_any (λ h. Each (Leads x) (level_edges g.weight g.leaves g.arity h)) level_leads (heights g.arity g.leaves)))
      (each_cond (Leads x) g.memory (recent_edges g.leaves) recent_leads)))))

pub edges_are_sound : EdgesAreSound
edges_are_sound z g some changes m k = all_sound z g some changes m k
