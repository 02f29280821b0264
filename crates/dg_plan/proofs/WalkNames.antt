-- A graph whose nodes are named otherwise has the same plans.
use Rattle.std.proofs.Common.{◌≡◌, ℕ, zero, suc, ◌+◌, ◌<◌, List, [], ◌∷◌, length, get_or, Some, refl, sym, ap, subst, ◌∙◌, arith}
use Rattle.std.specs.Prelude.{slice_get, map}
use Rattle.std.specs.Option.{option_map}
use Rattle.std.specs.List.{Contains}
use Rattle.std.proofs.lemmas.List.Elements.{All-weaker}
use Rattle.std.proofs.lemmas.Option.{none-some, same_Some, slice_get-map}
use Rattle.dg_plan.specs.Walks.{Arc, Cost, Leads, Reaches, cost_of, with_edge, AtMost, IsLeast, Attains, IsBest, IsPlan, renamed_arc, renamed}
use Rattle.dg_plan.proofs.WalkCosts.{cost_front}

pub contains_renamed : {N M : Type 0} (name : N → M) (xs : List N) (x : N) → Contains xs x → Contains (map name xs) (name x)
contains_renamed name [] x c = absurd (let h = c.1 in omega arith)
contains_renamed name (y ∷ xs) x c = by c.0 c.1 c.2 (λ k within is. contains_renamed name xs x (k, within, is))
  where
    by : (k : ℕ) → k < suc (length xs) → get_or (y ∷ xs) k x ≡ x → ((k : ℕ) → k < length xs → get_or xs k x ≡ x → Contains (map name xs) (name x)) → Contains (name y ∷ map name xs) (name x)
    by zero within is rest = (0, omega arith, ap name is)
    by (suc k) within is rest = let r = rest k (omega arith) is in (suc r.0, (let h = r.1 in omega arith), r.2)

pub contains_named : {N M : Type 0} (name : N → M) (xs : List N) (p : M) → Contains (map name xs) p → (x : N) × Contains xs x × (name x ≡ p)
contains_named name [] p c = absurd (let h = c.1 in omega arith)
contains_named {N = N} name (y ∷ xs) p c = by c.0 c.1 c.2 (λ k within is. contains_named name xs p (k, within, is))
  where
    by : (k : ℕ) → k < suc (length (map name xs)) → get_or (name y ∷ map name xs) k p ≡ p → ((k : ℕ) → k < length (map name xs) → get_or (map name xs) k p ≡ p → (x : N) × Contains xs x × (name x ≡ p)) → (x : N) × Contains (y ∷ xs) x × (name x ≡ p)
    by zero within is rest = (y, (0, omega arith, refl), is)
    by (suc k) within is rest = let r = rest k (omega arith) is in (r.0, (suc r.1.0, (let h = r.1.1 in omega arith), r.1.2), r.2)

pub arc_named : {N M : Type 0} (name : N → M) (g : List (Arc N)) (i : ℕ) (e : Arc M) → slice_get (renamed name g) i ≡ Some e → (a : Arc N) × (slice_get g i ≡ Some a) × (renamed_arc name a ≡ e)
arc_named name [] i e is = absurd (none-some e is)
arc_named name (a ∷ g) zero e is = (a, refl, same_Some _ _ is)
arc_named name (a ∷ g) (suc i) e is = arc_named name g i e is

pub arc_renamed : {N M : Type 0} (name : N → M) (g : List (Arc N)) (i : ℕ) (e : Arc N) → slice_get g i ≡ Some e → slice_get (renamed name g) i ≡ Some (renamed_arc name e)
arc_renamed name g i e is = slice_get-map (renamed_arc name) g i ∙ ap (option_map (renamed_arc name)) is

pub walk_renamed : {N M : Type 0} (name : N → M) (g : List (Arc N)) (a : N) (steps : List ℕ) (b : N) → Leads g a steps b → Leads (renamed name g) (name a) steps (name b)
walk_renamed name g a [] b leads = ap name leads
walk_renamed name g a (i ∷ steps) b leads = (renamed_arc name leads.0, arc_renamed name g i leads.0 leads.1, ap name leads.2, walk_renamed name g leads.0.to steps b leads.3)

pub cost_renamed : {N M : Type 0} (name : N → M) (g : List (Arc N)) (a : N) (steps : List ℕ) (b : N) → Leads g a steps b → cost_of (renamed name g) steps ≡ cost_of g steps
cost_renamed name g a [] b leads = refl
cost_renamed name g a (i ∷ steps) b leads =
    let rest = cost_renamed name g leads.0.to steps b leads.3 in
    let x = cost_front (renamed name g) i steps (renamed_arc name leads.0) (arc_renamed name g i leads.0 leads.1) in
    let y = cost_front g i steps leads.0 leads.1 in
    x ∙ (ap (λ (c : Cost). (leads.0.weight + c.0, c.1 + 1)) rest ∙ sym y)

module _ {N M : Type 0} (name : N → M) (g : List (Arc N)) (nodes : List N) (apart : (x y : N) → Contains nodes x → Contains nodes y → name x ≡ name y → x ≡ y)
    (inside : (i : ℕ) (e : Arc N) → slice_get g i ≡ Some e → Contains nodes e.from × Contains nodes e.to) where
  pub walk_named : (a : N) (steps : List ℕ) (b : N) → Contains nodes a → Contains nodes b → Leads (renamed name g) (name a) steps (name b) → Leads g a steps b
  walk_named a [] b in' bn leads = apart a b in' bn leads
  walk_named a (i ∷ steps) b in' bn leads =
      let e = arc_named name g i leads.0 leads.1 in
      let ends = inside i e.0 e.1 in
      let from : name e.0.from ≡ name a = ap (λ (x : Arc M). x.from) e.2 ∙ leads.2 in
      (e.0, e.1, apart e.0.from a ends.0 in' from, walk_named e.0.to steps b ends.1 bn (subst (λ (x : Arc M). Leads (renamed name g) x.to steps (name b)) (sym e.2) leads.3))

  module _ (starts : List N) (starts_in : (a : N) → Contains starts a → Contains nodes a) where
    pub reaches_renamed : (steps : List ℕ) (v : N) → Reaches g starts steps v → Reaches (renamed name g) (map name starts) steps (name v)
    reaches_renamed steps v r = (name r.0, contains_renamed name starts r.0 r.1, walk_renamed name g r.0 steps v r.2)

    pub reaches_named : (steps : List ℕ) (v : N) → Contains nodes v → Reaches (renamed name g) (map name starts) steps (name v) → Reaches g starts steps v
    reaches_named steps v vn r =
        let a = contains_named name starts r.0 r.1 in
        (a.0, a.1, walk_named a.0 steps v (starts_in a.0 a.1) vn (subst (λ p. Leads (renamed name g) p steps (name v)) (sym a.2) r.2))

    pub least_renamed : (v : N) (c : Cost) → Contains nodes v → IsLeast g starts v c → IsLeast (renamed name g) (map name starts) (name v) c
    least_renamed v c vn l = record {
      steps = l.steps;
      walk = reaches_renamed l.steps v l.walk;
      is = cost_renamed name g l.walk.0 l.steps v l.walk.2 ∙ l.is;
      least = λ others o. (let n = reaches_named others v vn o in subst (AtMost c) (sym (cost_renamed name g n.0 others v n.2)) (l.least others n));
    }

    pub least_named : (v : N) (c : Cost) → Contains nodes v → IsLeast (renamed name g) (map name starts) (name v) c → IsLeast g starts v c
    least_named v c vn l =
        let n = reaches_named l.steps v vn l.walk in
        record {
          steps = l.steps;
          walk = n;
          is = sym (cost_renamed name g n.0 l.steps v n.2) ∙ l.is;
          least = λ others o. subst (AtMost c) (cost_renamed name g o.0 others v o.2) (l.least others (reaches_renamed others v o));
        }

    attains_renamed : (k : ℕ) (other : Attains g starts k) → Attains (renamed name g) (map name starts) k
    attains_renamed k other = let ends = inside k other.edge other.there in record {
      edge = renamed_arc name other.edge;
      there = arc_renamed name g k other.edge other.there;
      before = other.before;
      tail = least_renamed other.edge.from other.before ends.0 other.tail;
      head = least_renamed other.edge.to (with_edge other.before other.edge.weight) ends.1 other.head;
    }

    pub best_named : (i : ℕ) → IsBest (renamed name g) (map name starts) i → IsBest g starts i
    unfolding attains_renamed
    best_named i b =
        let at = b.attains in
        let e = arc_named name g i at.edge at.there in
        let ends = inside i e.0 e.1 in
        record {
          attains = record {
            edge = e.0;
            there = e.1;
            before = at.before;
            tail = least_named e.0.from at.before ends.0 (subst (λ (x : Arc M). IsLeast (renamed name g) (map name starts) x.from at.before) (sym e.2) at.tail);
            head = least_named e.0.to (with_edge at.before e.0.weight) ends.1 (subst (λ (x : Arc M). IsLeast (renamed name g) (map name starts) x.to (with_edge at.before x.weight)) (sym e.2) at.head);
          };
          first = λ k other same. b.first k (attains_renamed k other) (ap name same ∙ ap (λ (x : Arc M). x.to) e.2);
        }

    -- the plan by the other names is the plan
    pub plan_named : (v : N) (steps : List ℕ) → Contains nodes v → IsPlan (renamed name g) (map name starts) (name v) steps → IsPlan g starts v steps
    plan_named v steps vn p = record {
      walk = reaches_named steps v vn p.walk;
      best = All-weaker (IsBest (renamed name g) (map name starts)) (IsBest g starts) best_named steps p.best;
    }
