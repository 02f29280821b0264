-- A plan that computing shows: a table of costs, and tests.
use Rattle.std.proofs.Common.{◌≡◌, ℕ, zero, suc, ◌+◌, ◌≤◌, ◌<◌, Bool, true, false, List, [], ◌∷◌, ◌++◌, length, get_or, take, Some, refl, sym, ap, subst, ◌∙◌, arith, inl, inr, ⊎_elim}
use Rattle.std.specs.Prelude.{slice_get, not, ◌==◌, ◌&&◌, ◌||◌, nat_lt, nat_le, ◌⊎◌}
use Rattle.std.specs.Option.{option_map}
use Rattle.std.specs.List.{list_all, list_any}
use Rattle.std.proofs.lemmas.Bool.{cases_eq, cases_lt, eqb-true, leb-true, ltb-true, eq-eqb, lt-ltb, false≢true, and_parts, or_cases, not-true}
use Rattle.std.proofs.lemmas.Option.{none-some, same_Some, slice_get-map}
use Rattle.std.proofs.lemmas.List.{get_or_past}
use Rattle.dg_path.specs.declared.search.Link.{Link}
use Rattle.dg_path.specs.declared.search.Cost.{Cost as Label}
use Rattle.dg_path.specs.declared.search.TheConstants.{UNREACHED}
use Rattle.dg_plan.specs.Walks.{Arc, Cost, Reaches, cost_of, with_edge, AtMost, no_cost, IsBest}
use Rattle.dg_path.specs.Search.{arc, arcs, label_at, cost_at, AreCostsSettled, IsTable, Meets}
use Rattle.dg_plan.proofs.WalkCosts.{same_cost, cost_last}
use Rattle.dg_plan.proofs.WalkLeastCosts.{reaches_more}
use Rattle.dg_path.proofs.SearchLinks.{link_of}
use Rattle.dg_path.proofs.SearchTables.{best_of}

-- ---- tests

abbrev pub at_most : Cost → Cost → Bool
at_most c d = nat_lt c.0 d.0 || (c.0 == d.0 && nat_le c.1 d.1)

abbrev pub meets : List Label → Link → Bool
meets costs l = (cost_at costs l.head).0 == (cost_at costs l.tail).0 + l.weight && (cost_at costs l.head).1 == (cost_at costs l.tail).1 + 1

abbrev pub into : List Label → ℕ → Link → Bool
into costs v l = l.head == v && meets costs l

abbrev pub all_below : ℕ → (ℕ → Bool) → Bool
all_below zero test = true
all_below (suc n) test = test n && all_below n test

-- no link can lower a cost; each node but the first is far, or entered by a link that attains its cost; the first costs nothing
abbrev pub is_table : List Link → List Label → Bool
is_table links costs =
    list_all (λ l. at_most (cost_at costs l.head) (with_edge (cost_at costs l.tail) l.weight)) links
    && (all_below (length costs) (λ v. v == 0 || (not (nat_lt (label_at costs v).weight UNREACHED.weight) || list_any (into costs v) links))
    && ((cost_at costs 0).0 == 0 && (cost_at costs 0).1 == 0))

-- the link of each step is the first that attains the cost of its head
abbrev pub is_first : List Link → List Label → ℕ → ℕ → Bool
is_first links costs v i = list_all (λ l. not (into costs v l)) (take i links)

slice_get_take : {X : Type 0} (xs : List X) (k n : ℕ) (x : X) → k < n → slice_get xs k ≡ Some x → slice_get (take n xs) k ≡ Some x
slice_get_take [] k n x below is = absurd (none-some x is)
slice_get_take (y ∷ xs) k zero x below is = absurd (omega arith)
slice_get_take (y ∷ xs) zero (suc n) x below is = is
slice_get_take (y ∷ xs) (suc k) (suc n) x below is = slice_get_take xs k n x (omega arith) is

-- ---- what they show

at_most_shown : (c d : Cost) → at_most c d ≡ true → AtMost c d
at_most_shown c d e =
    ⊎_elim (λ (h : nat_lt c.0 d.0 ≡ true). let l = ltb-true c.0 d.0 h in (omega arith, λ z. omega arith))
    (λ (h : (c.0 == d.0 && nat_le c.1 d.1) ≡ true). let p = and_parts (c.0 == d.0) (nat_le c.1 d.1) h in let a = eqb-true c.0 d.0 p.0 in let b = leb-true c.1 d.1 p.1 in (omega arith, λ z. b))
    (or_cases (nat_lt c.0 d.0) (c.0 == d.0 && nat_le c.1 d.1) e)

all_at : {X : Type 0} (test : X → Bool) (xs : List X) → list_all test xs ≡ true → (i : ℕ) (x : X) → slice_get xs i ≡ Some x → test x ≡ true
all_at test [] e i x is = absurd (none-some x is)
all_at test (y ∷ xs) e zero x is = ap test (sym (same_Some _ _ is)) ∙ (and_parts (test y) (list_all test xs) e).0
all_at test (y ∷ xs) e (suc i) x is = all_at test xs (and_parts (test y) (list_all test xs) e).1 i x is

some_at : {X : Type 0} (test : X → Bool) (xs : List X) → list_any test xs ≡ true → (i : ℕ) × (x : X) × (slice_get xs i ≡ Some x) × (test x ≡ true)
some_at test [] e = absurd (false≢true e)
some_at {X} test (y ∷ xs) e = by (test y) refl e (some_at test xs)
  where
    by : (b : Bool) → test y ≡ b → (b || list_any test xs) ≡ true → (list_any test xs ≡ true → (i : ℕ) × (x : X) × (slice_get xs i ≡ Some x) × (test x ≡ true)) → (i : ℕ) × (x : X) × (slice_get (y ∷ xs) i ≡ Some x) × (test x ≡ true)
    by true is e rest = (0, y, refl, is)
    by false is e rest = let r = rest e in (suc r.0, r.1, r.2, r.3)

below_at : (n : ℕ) (test : ℕ → Bool) → all_below n test ≡ true → (v : ℕ) → v < n → test v ≡ true
below_at zero test e v within = absurd (omega arith)
below_at (suc n) test e v within =
    let p = and_parts (test n) (all_below n test) e in
    ⊎_elim (λ (h : v ≡ n). ap test h ∙ p.0) (λ (h : v ≡ n → ⊥). below_at n test p.1 v (omega arith)) (cases_eq v n)

meets_shown : (costs : List Label) (l : Link) → meets costs l ≡ true → Meets costs l
meets_shown costs l e =
    let p = and_parts ((cost_at costs l.head).0 == (cost_at costs l.tail).0 + l.weight) ((cost_at costs l.head).1 == (cost_at costs l.tail).1 + 1) e in
    same_cost _ _ (eqb-true _ _ p.0) (eqb-true _ _ p.1)

shown_meets : (costs : List Label) (l : Link) → Meets costs l → meets costs l ≡ true
shown_meets costs l e =
    λ i. eq-eqb (cost_at costs l.head).0 ((cost_at costs l.tail).0 + l.weight) (ap (λ (c : Cost). c.0) e) i && eq-eqb (cost_at costs l.head).1 ((cost_at costs l.tail).1 + 1) (ap (λ (c : Cost). c.1) e) i

module _ (links : List Link) (costs : List Label) (shown : is_table links costs ≡ true) where
  settled_shown : list_all (λ l. at_most (cost_at costs l.head) (with_edge (cost_at costs l.tail) l.weight)) links ≡ true
  settled_shown = (and_parts _ _ shown).0

  rest_shown : (all_below (length costs) (λ v. v == 0 || (not (nat_lt (label_at costs v).weight UNREACHED.weight) || list_any (into costs v) links)) && ((cost_at costs 0).0 == 0 && (cost_at costs 0).1 == 0)) ≡ true
  rest_shown = (and_parts (list_all (λ l. at_most (cost_at costs l.head) (with_edge (cost_at costs l.tail) l.weight)) links) _ shown).1

  root_shown : cost_at costs 0 ≡ no_cost
  root_shown =
      let p = and_parts ((cost_at costs 0).0 == 0) ((cost_at costs 0).1 == 0) (and_parts (all_below (length costs) (λ v. v == 0 || (not (nat_lt (label_at costs v).weight UNREACHED.weight) || list_any (into costs v) links))) _ rest_shown).1 in
      same_cost _ _ (eqb-true _ _ p.0) (eqb-true _ _ p.1)

  entered_shown : (v : ℕ) → v < length costs → (v == 0 || (not (nat_lt (label_at costs v).weight UNREACHED.weight) || list_any (into costs v) links)) ≡ true
  entered_shown = below_at (length costs) (λ v. v == 0 || (not (nat_lt (label_at costs v).weight UNREACHED.weight) || list_any (into costs v) links))
      (and_parts (all_below (length costs) (λ v. v == 0 || (not (nat_lt (label_at costs v).weight UNREACHED.weight) || list_any (into costs v) links))) _ rest_shown).0

  pub settled : AreCostsSettled (arcs links) costs
  settled i e there =
      let l = link_of links i e there in
      subst (λ (x : Arc ℕ). AtMost (cost_at costs x.to) (with_edge (cost_at costs x.from) x.weight)) l.2
      (at_most_shown _ _ (all_at (λ l. at_most (cost_at costs l.head) (with_edge (cost_at costs l.tail) l.weight)) links settled_shown i l.0 l.1))

  within : (v : ℕ) → (label_at costs v).weight < UNREACHED.weight → v < length costs
  within v near = ⊎_elim (λ (h : v < length costs). h) (λ (h : length costs ≤ v). absurd (let e = ap (λ (l : Label). l.weight) (get_or_past costs v UNREACHED h) in omega arith)) (cases_lt v (length costs))

  abbrev IsWalked : ℕ → Type 0
  IsWalked v = (steps : List ℕ) × Reaches (arcs links) (0 ∷ []) steps v × (cost_of (arcs links) steps ≡ cost_at costs v)

  -- a walk through the link that attains the cost
  through : (v i : ℕ) (l : Link) → slice_get links i ≡ Some l → l.head ≡ v → Meets costs l → IsWalked l.tail → IsWalked v
  through v i l there enters meets w =
      let at : slice_get (arcs links) i ≡ Some (arc l) = slice_get-map arc links i ∙ ap (option_map arc) there in
      subst IsWalked enters (w.0 ++ i ∷ [], reaches_more (arcs links) (0 ∷ []) w.0 i (arc l) at w.1, cost_last (arcs links) w.0 i (arc l) at ∙ (ap (λ c. with_edge c l.weight) w.2 ∙ sym meets))

  at_root : (v : ℕ) → v ≡ 0 → IsWalked v
  at_root v e = subst IsWalked (sym e) ([], (0, (0, omega arith, refl), refl), sym root_shown)

  -- the cost is that of the root, or attained by a link
  entered : (v : ℕ) → (label_at costs v).weight < UNREACHED.weight → (v ≡ 0) ⊎ ((i : ℕ) × (l : Link) × (slice_get links i ≡ Some l) × (l.head ≡ v) × Meets costs l)
  entered v near = by (or_cases (v == 0) _ (entered_shown v (within v near)))
    where
      some : (not (nat_lt (label_at costs v).weight UNREACHED.weight) ≡ true) ⊎ (list_any (into costs v) links ≡ true) → (i : ℕ) × (l : Link) × (slice_get links i ≡ Some l) × (l.head ≡ v) × Meets costs l
      some (inl far) = absurd (false≢true (sym (not-true _ far) ∙ lt-ltb _ _ near))
      some (inr e) =
          let r = some_at (into costs v) links e in
          let p = and_parts (r.1.head == v) (meets costs r.1) r.3 in
          (r.0, r.1, r.2, eqb-true _ _ p.0, meets_shown costs r.1 p.1)

      by : ((v == 0) ≡ true) ⊎ ((not (nat_lt (label_at costs v).weight UNREACHED.weight) || list_any (into costs v) links) ≡ true) → (v ≡ 0) ⊎ ((i : ℕ) × (l : Link) × (slice_get links i ≡ Some l) × (l.head ≡ v) × Meets costs l)
      by (inl e) = inl (eqb-true v 0 e)
      by (inr e) = inr (some (or_cases _ _ e))

  walk_to : (n v : ℕ) → (label_at costs v).edges ≡ n → (label_at costs v).weight < UNREACHED.weight → IsWalked v
  walk_to zero v count near = ⊎_elim (at_root v)
      (λ (r : (i : ℕ) × (l : Link) × (slice_get links i ≡ Some l) × (l.head ≡ v) × Meets costs l).
      absurd (let e : (label_at costs v).edges ≡ (label_at costs r.1.tail).edges + 1 = ap (λ w. (label_at costs w).edges) (sym r.3) ∙ ap (λ (c : Cost). c.1) r.4 in omega arith))
      (entered v near)
  walk_to (suc n) v count near = ⊎_elim (at_root v)
      (λ (r : (i : ℕ) × (l : Link) × (slice_get links i ≡ Some l) × (l.head ≡ v) × Meets costs l).
      let e : (label_at costs v).edges ≡ (label_at costs r.1.tail).edges + 1 = ap (λ w. (label_at costs w).edges) (sym r.3) ∙ ap (λ (c : Cost). c.1) r.4 in
      let f : (label_at costs v).weight ≡ (label_at costs r.1.tail).weight + r.1.weight = ap (λ w. (label_at costs w).weight) (sym r.3) ∙ ap (λ (c : Cost). c.0) r.4 in
      through v r.0 r.1 r.2 r.3 r.4 (walk_to n r.1.tail (omega arith) (omega arith)))
      (entered v near)

  pub table : IsTable (arcs links) (0 ∷ []) costs
  table = record {
    settled = settled;
    walked = λ v near. walk_to (label_at costs v).edges v refl near;
    zero = λ a in'. ap (cost_at costs) (only a in'.0 in'.1 in'.2) ∙ root_shown;
  }
    where
      only : (a k : ℕ) → k < 1 → get_or (0 ∷ []) k a ≡ a → a ≡ 0
      only a zero h e = sym e
      only a (suc k) h e = absurd (omega arith)

  -- the first link into a node that attains its cost is best
  pub first_is_best : (v i : ℕ) (l : Link) → slice_get links i ≡ Some l → into costs v l ≡ true → is_first links costs v i ≡ true → (label_at costs v).weight < UNREACHED.weight → IsBest (arcs links) (0 ∷ []) i
  first_is_best v i l there in' first near =
      let p = and_parts (l.head == v) (meets costs l) in' in
      best_of links costs (0 ∷ []) table v i near (record {
        link = l;
        there = there;
        enters = eqb-true _ _ p.0;
        meets = meets_shown costs l p.1;
        first = λ k m is enters attains. ⊎_elim (λ (h : k < i). absurd (earlier k m h is enters attains)) (λ (h : i ≤ k). h) (cases_lt k i);
      })
    where
      earlier : (k : ℕ) (m : Link) → k < i → slice_get links k ≡ Some m → m.head ≡ v → Meets costs m → ⊥
      earlier k m below is enters attains =
          let passes : into costs v m ≡ true = λ j. eq-eqb m.head v enters j && shown_meets costs m attains j in
          let front : slice_get (take i links) k ≡ Some m = slice_get_take links k i m below is in
          let fails = all_at (λ l. not (into costs v l)) (take i links) first k m front in
          false≢true (sym (ap not passes) ∙ fails)
