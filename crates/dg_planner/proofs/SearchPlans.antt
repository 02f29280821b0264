-- A table of costs has a plan of each node whose cost it knows.
use Rattle.std.proofs.Common.{inl, inr, ◌≡◌, ℕ, zero, suc, ◌≤◌, ◌<◌, List, [], ◌∷◌, ◌++◌, length, get_or, Some, refl, sym, ap, subst, ◌∙◌, arith}
use Rattle.std.specs.Prelude.{slice_get, ◌⊎◌}
use Rattle.std.specs.Option.{option_map}
use Rattle.std.proofs.lemmas.Bool.{cases_eq, cases_lt}
use Rattle.std.proofs.lemmas.List.Elements.{All-nil, All-push}
use Rattle.std.proofs.lemmas.Option.{same_Some, slice_get-get_or, slice_get-map, slice_get_within}
use Rattle.dg_plan.specs.Walks.{Cost, IsBest, IsPlan, Reaches, with_edge}
use Rattle.dg_plan.proofs.WalkCosts.{same_cost}
use Rattle.dg_plan.proofs.WalkLeastCosts.{reaches_more}
use Rattle.dg_path.specs.declared.search.Cost.{Cost as Label}
use Rattle.dg_path.specs.declared.search.Link.{Link}
use Rattle.dg_path.specs.declared.search.TheConstants.{UNREACHED}
use Rattle.dg_path.specs.Search.{IsFirstInto, IsTable, Meets, arc, arcs, cost_at, label_at}
use Rattle.dg_path.proofs.SearchTables.{best_of, is_start, some_meets, tail_costs_less}

same_or_apart : (c d : Cost) → (c ≡ d) ⊎ (c ≡ d → ⊥)
same_or_apart c d = by (cases_eq c.0 d.0) (cases_eq c.1 d.1)
  where
    by : (c.0 ≡ d.0) ⊎ (c.0 ≡ d.0 → ⊥) → (c.1 ≡ d.1) ⊎ (c.1 ≡ d.1 → ⊥) → (c ≡ d) ⊎ (c ≡ d → ⊥)
    by (inl a) (inl b) = inl (same_cost c d a b)
    by (inl a) (inr b) = inr (λ e. b (ap (λ (x : Cost). x.1) e))
    by (inr a) _ = inr (λ e. a (ap (λ (x : Cost). x.0) e))

module _ (links : List Link) (costs : List Label) (v : ℕ) where
  -- a link into the node that attains its cost
  abbrev Enters : Link → Type 0
  Enters l = (l.head ≡ v) × Meets costs l

  abbrev NoneBelow : ℕ → Type 0
  NoneBelow n = (k : ℕ) (l : Link) → k < n → slice_get links k ≡ Some l → Enters l → ⊥

  enters_or_not : (l : Link) → Enters l ⊎ (Enters l → ⊥)
  enters_or_not l = by (cases_eq l.head v) (same_or_apart (cost_at costs l.head) (with_edge (cost_at costs l.tail) l.weight))
    where
      by : (l.head ≡ v) ⊎ (l.head ≡ v → ⊥) → Meets costs l ⊎ (Meets costs l → ⊥) → Enters l ⊎ (Enters l → ⊥)
      by (inl a) (inl b) = inl (a, b)
      by (inl a) (inr b) = inr (λ e. b e.1)
      by (inr a) _ = inr (λ e. a e.0)

  -- among the first links the least-numbered one, or none
  first_or_none : (n : ℕ) → n ≤ length links → NoneBelow n ⊎ ((i : ℕ) × IsFirstInto links costs v i)
  first_or_none zero within = inl (λ k l below there e. absurd (omega arith))
  first_or_none (suc n) within = on (first_or_none n (omega arith))
    where
      link : Link
      link = get_or links n (record { tail = 0; head = 0; weight = 0 })

      there : slice_get links n ≡ Some link
      there = slice_get-get_or links n (record { tail = 0; head = 0; weight = 0 }) (omega arith)

      on : NoneBelow n ⊎ ((i : ℕ) × IsFirstInto links costs v i) → NoneBelow (suc n) ⊎ ((i : ℕ) × IsFirstInto links costs v i)
      on (inr found) = inr found
      on (inl none) = at (enters_or_not link)
        where
          at : Enters link ⊎ (Enters link → ⊥) → NoneBelow (suc n) ⊎ ((i : ℕ) × IsFirstInto links costs v i)
          at (inl e) = inr (
            n,
            record {
              link = link;
              there = there;
              enters = e.0;
              meets = e.1;
              first = λ k l is head meets. not_below k l is head meets (cases_lt k n);
            },
          )
            where
              not_below : (k : ℕ) (l : Link) → slice_get links k ≡ Some l → l.head ≡ v → Meets costs l → (k < n) ⊎ (n ≤ k) → n ≤ k
              not_below k l is head meets (inl below) = absurd (none k l below is (head, meets))
              not_below k l is head meets (inr above) = above
          at (inr apart) = inl (λ k l below is e. last k l is e (cases_lt k n) below)
            where
              last : (k : ℕ) (l : Link) → slice_get links k ≡ Some l → Enters l → (k < n) ⊎ (n ≤ k) → k < suc n → ⊥
              last k l is e (inl less) below = none k l less is e
              last k l is e (inr above) below =
                  apart (subst Enters (same_Some l link (sym is ∙ (ap (slice_get links) (let h : k ≡ n = omega arith in h) ∙ there))) e)

module _ (links : List Link) (costs : List Label) (starts : List ℕ) (t : IsTable (arcs links) starts costs) where
  abbrev HasPlan : ℕ → Type 0
  HasPlan v = (steps : List ℕ) × IsPlan (arcs links) starts v steps

  no_step : (v : ℕ) → (label_at costs v).weight < UNREACHED.weight → (label_at costs v).edges ≡ 0 → HasPlan v
  no_step v near none = ([], record { walk = (v, is_start links costs starts t v near none, refl); best = All-nil (IsBest (arcs links) starts) })

  one_more : (v i : ℕ) → (label_at costs v).weight < UNREACHED.weight → (f : IsFirstInto links costs v i) → HasPlan f.link.tail → HasPlan v
  one_more v i near f p = (
    p.0 ++ i ∷ [],
    record {
      walk = subst (Reaches (arcs links) starts (p.0 ++ i ∷ [])) f.enters (reaches_more (arcs links) starts p.0 i (arc f.link) (slice_get-map arc links i ∙ ap (option_map arc) f.there) p.1.walk);
      best = All-push (IsBest (arcs links) starts) p.0 i p.1.best (best_of links costs starts t v i near f);
    },
  )

  has_plan_by : (most v : ℕ) → (label_at costs v).weight < UNREACHED.weight → (label_at costs v).edges ≤ most → HasPlan v
  has_plan_by zero v near few = no_step v near (omega arith)
  has_plan_by (suc most) v near few = by (cases_lt 0 (label_at costs v).edges) (λ w. has_plan_by most w)
    where
      by : (0 < (label_at costs v).edges) ⊎ ((label_at costs v).edges ≤ 0) → ((w : ℕ) → (label_at costs w).weight < UNREACHED.weight → (label_at costs w).edges ≤ most → HasPlan w) → HasPlan v
      by (inr none) rest = no_step v near (omega arith)
      by (inl more) rest = on (first_or_none links costs v (length links) (omega arith))
        where
          on : NoneBelow links costs v (length links) ⊎ ((i : ℕ) × IsFirstInto links costs v i) → HasPlan v
          on (inl none) =
              let m = some_meets links costs starts t v near more in
              absurd (none m.0 m.1 (slice_get_within links m.0 m.1 m.2) m.2 (m.3, m.4))
          on (inr found) =
              let less = tail_costs_less links costs v found.0 found.1 in
              let a = less.0 in
              let b = less.1 in
              one_more v found.0 near found.1 (rest found.1.link.tail (omega arith) (omega arith))

  pub has_plan : (v : ℕ) → (label_at costs v).weight < UNREACHED.weight → HasPlan v
  has_plan v near = has_plan_by (label_at costs v).edges v near (omega arith)
