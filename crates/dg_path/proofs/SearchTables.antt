-- A table of costs once the search is done, and the walk back.
use Rattle.std.proofs.Common.{min, inl, inr, ◌≡◌, ℕ, zero, suc, ◌+◌, ◌≤◌, ◌<◌, List, [], ◌∷◌, ◌++◌, length, get_or, reverse, Some, refl, sym, ap, subst, ◌∙◌, arith}
use Rattle.std.specs.Prelude.{slice_get, ◌⊎◌}
use Rattle.std.proofs.lemmas.Bool.{cases_lt}
use Rattle.std.specs.Option.{option_map}
use Rattle.std.specs.List.{All, Contains}
use Rattle.std.proofs.lemmas.List.{reverse-append}
use Rattle.std.proofs.lemmas.List.Elements.{All-weaker}
use Rattle.std.proofs.lemmas.List.Sorted.{All-permutation, IsPermutation-reverse}
use Rattle.std.proofs.lemmas.Option.{none-some, same_Some, slice_get-map, slice_get_within, get_or_from_slice_get}
use Rattle.dg_path.specs.declared.search.Link.{Link}
use Rattle.dg_path.specs.declared.search.Cost.{Cost as Label}
use Rattle.dg_path.specs.declared.search.TheConstants.{UNREACHED}
use Rattle.dg_plan.specs.Walks.{Arc, Cost, Leads, Reaches, weight_of, cost_of, with_edge, AtMost, no_cost, IsLeast, Attains, IsBest, IsPlan, IsCertificate}
use Rattle.dg_path.specs.Search.{arc, arcs, label_at, cost_at, AreLinks, IsLink, IsTable, IsTarget, Meets, IsFirstInto}
use Rattle.dg_plan.proofs.WalkCosts.{at_most_both, with_edge_keeps, cost_last}
use Rattle.dg_plan.proofs.WalkLeastCosts.{last_of, start_is_least, least_along, plan_is_least, Settled, below_walks, least_in, least_is_one}
use Rattle.dg_path.proofs.SearchLinks.{link_of}

module _ (links : List Link) (costs : List Label) (starts : List ℕ) (t : IsTable (arcs links) starts costs) where
  settled : Settled (arcs links) (cost_at costs)
  settled = record { relaxed = t.settled }

  pub least_at : (v : ℕ) → (label_at costs v).weight < UNREACHED.weight → IsLeast (arcs links) starts v (cost_at costs v)
  least_at v near = let w = t.walked v near in least_in (arcs links) starts (cost_at costs) settled t.zero v w.0 w.1 w.2

  pub below_all : (v : ℕ) (steps : List ℕ) → Reaches (arcs links) starts steps v → AtMost (cost_at costs v) (cost_of (arcs links) steps)
  below_all v steps r = below_walks (arcs links) starts (cost_at costs) settled t.zero steps v r

  -- a link that attains the cost of its head
  pub some_meets : (v : ℕ) → (label_at costs v).weight < UNREACHED.weight → 0 < (label_at costs v).edges → (k : ℕ) × (l : Link) × (slice_get links k ≡ Some l) × (l.head ≡ v) × Meets costs l
  some_meets v near more = by (t.walked v near).0 (t.walked v near).1 (t.walked v near).2
    where
      by : (steps : List ℕ) → Reaches (arcs links) starts steps v → cost_of (arcs links) steps ≡ cost_at costs v → (k : ℕ) × (l : Link) × (slice_get links k ≡ Some l) × (l.head ≡ v) × Meets costs l
      by [] r is = absurd (let h : 0 ≡ (label_at costs v).edges = ap (λ (c : Cost). c.1) is in omega arith)
      by (i ∷ steps) r is =
          let last = last_of (arcs links) r.0 i steps v r.2 in
          let l = link_of links last.1 last.2 last.4 in
          let e : arc l.0 ≡ last.2 = l.2 in
          let sum : cost_of (arcs links) (i ∷ steps) ≡ with_edge (cost_of (arcs links) last.0) last.2.weight = ap (cost_of (arcs links)) last.3 ∙ cost_last (arcs links) last.0 last.1 last.2 last.4 in
          let down : AtMost (cost_at costs last.2.from) (cost_of (arcs links) last.0) = below_all last.2.from last.0 (r.0, r.1, last.5) in
          let low : AtMost (with_edge (cost_at costs last.2.from) last.2.weight) (cost_at costs v) =
          subst (AtMost (with_edge (cost_at costs last.2.from) last.2.weight)) (sym sum ∙ is) (with_edge_keeps (cost_at costs last.2.from) (cost_of (arcs links) last.0) last.2.weight down) in
          let up : AtMost (cost_at costs last.2.to) (with_edge (cost_at costs last.2.from) last.2.weight) = t.settled last.1 last.2 last.4 in
          let up_v : AtMost (cost_at costs v) (with_edge (cost_at costs last.2.from) last.2.weight) = subst (λ w. AtMost (cost_at costs w) (with_edge (cost_at costs last.2.from) last.2.weight)) last.6 up in
          let meets : cost_at costs last.2.to ≡ with_edge (cost_at costs last.2.from) last.2.weight = ap (cost_at costs) last.6 ∙ at_most_both _ _ up_v low in
          (last.1, l.0, l.1, ap (λ (x : Arc ℕ). x.to) e ∙ last.6, subst (λ (x : Arc ℕ). cost_at costs x.to ≡ with_edge (cost_at costs x.from) x.weight) (sym e) meets)

  -- such a link attains the least cost of its head
  near_tail : (l : Link) → Meets costs l → (label_at costs l.head).weight < UNREACHED.weight → (label_at costs l.tail).weight < UNREACHED.weight
  near_tail l meets near = let h : (label_at costs l.head).weight ≡ (label_at costs l.tail).weight + l.weight = ap (λ (c : Cost). c.0) meets in omega arith

  attains_of : (i : ℕ) (l : Link) → slice_get links i ≡ Some l → Meets costs l → (label_at costs l.head).weight < UNREACHED.weight → Attains (arcs links) starts i
  attains_of i l there meets near = record {
    edge = arc l;
    there = slice_get-map arc links i ∙ ap (option_map arc) there;
    before = cost_at costs l.tail;
    tail = least_at l.tail (near_tail l meets near);
    head = subst (IsLeast (arcs links) starts l.head) meets (least_at l.head near);
  }

  -- and a link that attains the least cost of its head meets the table
  meets_of : (k : ℕ) (other : Attains (arcs links) starts k) (v : ℕ) → other.edge.to ≡ v → (label_at costs v).weight < UNREACHED.weight
      → (l : Link) × (slice_get links k ≡ Some l) × (l.head ≡ v) × Meets costs l
  meets_of k other v to near =
      let l = link_of links k other.edge other.there in
      let head_v : IsLeast (arcs links) starts v (with_edge other.before other.edge.weight) = subst (λ w. IsLeast (arcs links) starts w (with_edge other.before other.edge.weight)) to other.head in
      let same : cost_at costs v ≡ with_edge other.before other.edge.weight = least_is_one (arcs links) starts v _ _ (least_at v near) head_v in
      let down : AtMost (cost_at costs other.edge.from) other.before = subst (AtMost (cost_at costs other.edge.from)) other.tail.is (below_all other.edge.from other.tail.steps other.tail.walk) in
      let sum : (label_at costs v).weight ≡ other.before.0 + other.edge.weight = ap (λ (c : Cost). c.0) same in
      let close : (label_at costs other.edge.from).weight < UNREACHED.weight = (let d = down.0 in omega arith) in
      let before : cost_at costs other.edge.from ≡ other.before = least_is_one (arcs links) starts other.edge.from _ _ (least_at other.edge.from close) other.tail in
      let meets : cost_at costs other.edge.to ≡ with_edge (cost_at costs other.edge.from) other.edge.weight = ap (cost_at costs) to ∙ (same ∙ ap (λ c. with_edge c other.edge.weight) (sym before)) in
      (l.0, l.1, ap (λ (x : Arc ℕ). x.to) l.2 ∙ to, subst (λ (x : Arc ℕ). cost_at costs x.to ≡ with_edge (cost_at costs x.from) x.weight) (sym l.2) meets)

  -- the least-numbered such link is the best
  pub best_of : (v i : ℕ) → (label_at costs v).weight < UNREACHED.weight → IsFirstInto links costs v i → IsBest (arcs links) starts i
  unfolding attains_of
  best_of v i near f = record {
    attains = attains_of i f.link f.there f.meets (subst (λ w. (label_at costs w).weight < UNREACHED.weight) (sym f.enters) near);
    first = λ k other to. (let m = meets_of k other v (to ∙ f.enters) near in f.first k m.0 m.1 m.2 m.3);
  }

  -- a node that costs no edge is a starting node
  pub is_start : (v : ℕ) → (label_at costs v).weight < UNREACHED.weight → (label_at costs v).edges ≡ 0 → Contains starts v
  is_start v near none = by (t.walked v near).0 (t.walked v near).1 (t.walked v near).2
    where
      by : (steps : List ℕ) → Reaches (arcs links) starts steps v → cost_of (arcs links) steps ≡ cost_at costs v → Contains starts v
      by [] r is = subst (Contains starts) r.2 r.1
      by (i ∷ steps) r is = absurd (let h : suc (length steps) ≡ (label_at costs v).edges = ap (λ (c : Cost). c.1) is in omega arith)

  -- the walk back is the plan
  pub plan_of : (v target : ℕ) (back steps : List ℕ) → (label_at costs v).weight < UNREACHED.weight → (label_at costs v).edges ≡ 0 → Leads (arcs links) v (reverse back) target
      → All (IsBest (arcs links) starts) back → steps ≡ reverse back → IsPlan (arcs links) starts target steps
  plan_of v target back steps near none leads best is = record {
    walk = subst (λ s. Reaches (arcs links) starts s target) (sym is) (v, is_start v near none, leads);
    best = subst (All (IsBest (arcs links) starts)) (sym is) (All-permutation (IsBest (arcs links) starts) _ _ (IsPermutation-reverse back) best);
  }

-- one more step in front of the walk back
pub longer : (links : List Link) (costs : List Label) (v target i : ℕ) (back : List ℕ) (f : IsFirstInto links costs v i) → Leads (arcs links) v (reverse back) target
    → Leads (arcs links) f.link.tail (reverse (back ++ i ∷ [])) target
longer links costs v target i back f leads =
    subst (λ s. Leads (arcs links) f.link.tail s target) (sym (reverse-append back (i ∷ [])))
    (arc f.link, slice_get-map arc links i ∙ ap (option_map arc) f.there, refl, subst (λ w. Leads (arcs links) w (reverse back) target) (sym f.enters) leads)

pub tail_costs_less : (links : List Link) (costs : List Label) (v i : ℕ) (f : IsFirstInto links costs v i)
    → ((label_at costs f.link.tail).edges < (label_at costs v).edges) × ((label_at costs f.link.tail).weight ≤ (label_at costs v).weight)
tail_costs_less links costs v i f =
    let e : (label_at costs v).edges ≡ (label_at costs f.link.tail).edges + 1 = ap (λ w. (label_at costs w).edges) (sym f.enters) ∙ ap (λ (c : Cost). c.1) f.meets in
    let w : (label_at costs v).weight ≡ (label_at costs f.link.tail).weight + f.link.weight = ap (λ w. (label_at costs w).weight) (sym f.enters) ∙ ap (λ (c : Cost). c.0) f.meets in
    (omega arith, omega arith)

-- the best steps are numbers of links
pub best_within : (links : List Link) (starts steps : List ℕ) → All (IsBest (arcs links) starts) steps → All (λ i. i < length links) steps
best_within links starts steps best = All-weaker (IsBest (arcs links) starts) (λ i. i < length links) (λ i b. slice_get_within links i _ (link_of links i b.attains.edge b.attains.there).1) steps best

-- a walk begins at the tail of its first link
pub first_tail : (links : List Link) (steps : List ℕ) (step a target : ℕ) (d : Link) → Some step ≡ slice_get steps 0 → Leads (arcs links) a steps target → (get_or links step d).tail ≡ a
first_tail links [] step a target d is leads = absurd (none-some step (sym is))
first_tail links (i ∷ steps) step a target d is leads =
    let l = link_of links i leads.0 leads.1 in
    let same : step ≡ i = same_Some _ _ is in
    ap (λ k. (get_or links k d).tail) same ∙ (ap (λ (k : Link). k.tail) (get_or_from_slice_get links i l.0 d l.1) ∙ (ap (λ (x : Arc ℕ). x.from) l.2 ∙ leads.2))

-- the weight of a plan, and its potentials
module _ (links : List Link) (costs : List Label) (starts : List ℕ) (t : IsTable (arcs links) starts costs) (target : ℕ) (near : (label_at costs target).weight < UNREACHED.weight) where
  pub weight_is : (steps : List ℕ) → IsPlan (arcs links) starts target steps → (label_at costs target).weight ≡ weight_of (arcs links) steps
  weight_is steps p = ap (λ (c : Cost). c.0) (least_is_one (arcs links) starts target _ _ (least_at links costs starts t target near) (plan_is_least (arcs links) starts target steps p))

  pub potential_is : (v : ℕ) (c : Cost) → IsLeast (arcs links) starts v c → min (label_at costs v).weight (label_at costs target).weight ≡ min c.0 (label_at costs target).weight
  potential_is v c l = by (cases_lt (label_at costs v).weight UNREACHED.weight)
    where
      by : ((label_at costs v).weight < UNREACHED.weight) ⊎ (UNREACHED.weight ≤ (label_at costs v).weight) → min (label_at costs v).weight (label_at costs target).weight ≡ min c.0 (label_at costs target).weight
      by (inl close) = ap (λ (x : Cost). min x.0 (label_at costs target).weight) (least_is_one (arcs links) starts v _ _ (least_at links costs starts t v close) l)
      by (inr far) =
          let low : AtMost (cost_at costs v) c = subst (AtMost (cost_at costs v)) l.is (below_all links costs starts t v l.steps l.walk) in
          let h = low.0 in
          omega arith

-- where every node is reached, the potentials certify the plan
pub certificate_is : (links : List Link) (costs : List Label) → IsTable (arcs links) (0 ∷ []) costs → AreLinks links (length costs) → ((v : ℕ) → v < length costs → IsTarget costs v)
    → (target : ℕ) (steps : List ℕ) (weight : ℕ) (potential : ℕ → ℕ) → IsPlan (arcs links) (0 ∷ []) target steps → weight ≡ weight_of (arcs links) steps
    → ((v : ℕ) → v < length costs → (c : Cost) → IsLeast (arcs links) (0 ∷ []) v c → potential v ≡ min c.0 weight) → target < length costs → IsCertificate (arcs links) 0 target potential steps weight
certificate_is links costs t inside reached target steps weight potential plan is are here = record {
  walk = from_root plan.walk.0 plan.walk.1.0 plan.walk.1.1 plan.walk.1.2 plan.walk.2;
  root_at_zero = are 0 (omega arith) no_cost (start_is_least (arcs links) (0 ∷ []) 0 (0, omega arith, refl)) ∙ omega arith;
  rises = λ i e there. (
      let l = link_of links i e there in
      let ends = subst (IsLink (length costs)) (get_or_from_slice_get links i l.0 l.0 l.1) (inside i l.0 (slice_get_within links i l.0 l.1)) in
      let from : e.from < length costs = subst (λ (x : Arc ℕ). x.from < length costs) l.2 ends.tail in
      let to : e.to < length costs = subst (λ (x : Arc ℕ). x.to < length costs) l.2 ends.head in
      let a = least_at links costs (0 ∷ []) t e.from (reached e.from from).near in
      let b = least_at links costs (0 ∷ []) t e.to (reached e.to to).near in
      let low = (least_along (arcs links) (0 ∷ []) i e (cost_at costs e.from) (cost_at costs e.to) there a b).0 in
      let p = are e.from from (cost_at costs e.from) a in
      let q = are e.to to (cost_at costs e.to) b in
      omega arith);
  at_target = are target here (cost_of (arcs links) steps) (plan_is_least (arcs links) (0 ∷ []) target steps plan) ∙ (let w = is in omega arith);
  tight = sym is;
}
  where
    from_root : (a k : ℕ) → k < 1 → get_or (0 ∷ []) k a ≡ a → Leads (arcs links) a steps target → Leads (arcs links) 0 steps target
    from_root a zero h e leads = subst (λ x. Leads (arcs links) x steps target) (sym e) leads
    from_root a (suc k) h e leads = absurd (omega arith)
