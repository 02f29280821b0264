-- Starting nodes that are added to a table of costs.
use Rattle.std.proofs.Common.{Result, Ok, Err, ◌≡◌, ℕ, suc, ◌+◌, ◌≤◌, ◌<◌, ◌^◌, List, [], ◌∷◌, ◌++◌, length, get_or, set, take, drop, replicate, Some, refl, sym, ap, subst, ◌∙◌, inl, inr, ⊎_elim, arith, append_assoc}
use Rattle.std.specs.Prelude.{slice_get, ◌⊎◌}
use Rattle.std.specs.Result.{OnOk}
use Rattle.std.specs.Option.{option_map, option_to_list}
use Rattle.std.proofs.lemmas.Option.{slice_get-map}
use Rattle.std.specs.List.{Contains, count_by}
use Rattle.std.specs.List.Sorted.{IsPermutation}
use Rattle.std.specs.declared.cmp.Reverse.{Reverse}
use Rattle.std.proofs.lemmas.Bool.{cases_eq, cases_lt}
use Rattle.std.proofs.lemmas.List.{take_more, length_push, get_or_push, append-nil, get_or-set_same, get_or-set_other, length-set, length-replicate, get_or-replicate, get_or_past, drop_all, take_all}
use Rattle.std.proofs.lemmas.List.Elements.{Contains-append_left, Contains-push_cases}
use Rattle.std.proofs.lemmas.List.Sorted.{Contains-permutation}
use Rattle.dg_path.specs.declared.search.Link.{Link}
use Rattle.dg_path.specs.declared.search.Waiting.{Waiting}
use Rattle.dg_path.specs.declared.search.Cost.{Cost as Label}
use Rattle.dg_path.specs.declared.search.TheConstants.{UNREACHED}
use Rattle.dg_plan.specs.Walks.{Arc, Reaches, cost_of, with_edge, AtMost, no_cost, entered}
use Rattle.dg_path.specs.Search.{arc, arcs, cheaper, seen, label_at, cost_at, CostsFit, AreCostsSettled, Walked, IsCostKnown, AllKnown, Falls, IsTable, WithStarts}
use Rattle.dg_plan.proofs.WalkTrees.{entered-append}
use Rattle.dg_plan.proofs.WalkCosts.{at_most_along, at_most_both}
use Rattle.dg_path.proofs.SearchLinks.{Below, below, cheaper_is, count_set}

abbrev none : Label
none = record { weight = 0; edges = 0 }

-- ---- a table of no starting node

pub far_everywhere : (n v : ℕ) → label_at (replicate n UNREACHED) v ≡ UNREACHED
far_everywhere n v = ⊎_elim (λ (h : v < n). get_or-replicate n v UNREACHED UNREACHED h) (λ (h : n ≤ v). get_or_past (replicate n UNREACHED) v UNREACHED (let l = length-replicate n UNREACHED in omega arith)) (cases_lt v n)

pub far_table : (g : List (Arc ℕ)) (n : ℕ) → IsTable g [] (replicate n UNREACHED)
far_table g n = record {
  settled = λ i e there. (
    let a = ap (λ (c : Label). c.weight) (far_everywhere n e.to) in let b = ap (λ (c : Label). c.weight) (far_everywhere n e.from) in omega arith,
    λ h. (let a = ap (λ (c : Label). c.edges) (far_everywhere n e.to) in omega arith),
  );
  walked = λ v near. absurd (let a = ap (λ (c : Label). c.weight) (far_everywhere n v) in omega arith);
  zero = λ a in'. absurd (let h = in'.1 in omega arith);
}

pub far_fits : (n : ℕ) → n + 1 < 2 ^ 32 → CostsFit (replicate n UNREACHED)
far_fits n few = record {
  few = (let l = length-replicate n UNREACHED in omega arith);
  edges = λ v within. (let a = ap (λ (c : Label). c.edges) (far_everywhere n v) in omega arith);
  far = λ v within. (let a = ap (λ (c : Label). c.weight) (far_everywhere n v) in omega arith, λ h. (let a = ap (λ (c : Label). c.edges) (far_everywhere n v) in omega arith));
}

-- ---- one more

module _ (node : ℕ) (old new : List Label) (waits waits_new : List (Reverse Waiting)) (within : node < length old) (fits : CostsFit old) (new_is : new ≡ set old node none)
    (pushed : IsPermutation (record { 0 = record { weight = 0; edges = 0; node = node } } ∷ waits) waits_new) where
  at_node : label_at new node ≡ none
  at_node = ap (λ cs. label_at cs node) new_is ∙ get_or-set_same old node none UNREACHED within

  elsewhere : (v : ℕ) → (v ≡ node → ⊥) → label_at new v ≡ label_at old v
  elsewhere v apart = ap (λ cs. label_at cs v) new_is ∙ get_or-set_other old node v none UNREACHED apart

  lower : (v : ℕ) → AtMost (cost_at new v) (cost_at old v)
  lower v = by (cases_eq v node)
    where
      by : (v ≡ node) ⊎ (v ≡ node → ⊥) → AtMost (cost_at new v) (cost_at old v)
      by (inl e) = subst (λ c. AtMost (seen c) (cost_at old v)) (sym (ap (label_at new) e ∙ at_node)) (omega arith, λ h. omega arith)
      by (inr apart) = subst (λ c. AtMost (seen c) (cost_at old v)) (sym (elsewhere v apart)) (omega arith, λ h. omega arith)

  new_len : length new ≡ length old
  new_len = ap length new_is ∙ length-set old node none

  few_edges : (v : ℕ) → v < length old → (v ≡ node) ⊎ (v ≡ node → ⊥) → (label_at new v).edges ≤ count_by (λ c. cheaper c (label_at new v)) new
  few_edges v in' (inl e) = subst (λ (l : Label). l.edges ≤ count_by (λ c. cheaper c l) new) (sym (ap (label_at new) e ∙ at_node)) (omega arith)
  few_edges v in' (inr apart) = subst (λ (l : Label). l.edges ≤ count_by (λ c. cheaper c l) new) (sym (elsewhere v apart))
      (let kept : count_by (λ c. cheaper c (label_at old v)) old ≤ count_by (λ c. cheaper c (label_at old v)) (set old node none) =
      count_set (λ c. cheaper c (label_at old v)) old node none within (λ e. cheaper_is none (label_at old v) (zero_below (label_at old node) (label_at old v) (below _ _ e))) in
      let moved : count_by (λ c. cheaper c (label_at old v)) new ≡ count_by (λ c. cheaper c (label_at old v)) (set old node none) = ap (count_by (λ c. cheaper c (label_at old v))) new_is in
      let had = fits.edges v in' in
      omega arith)
    where
      zero_below : (c d : Label) → Below c d → Below none d
      zero_below c d b = ⊎_elim (λ (h : c.weight < d.weight). inl (omega arith)) (λ (h : (c.weight ≡ d.weight) × (c.edges < d.edges)).
          ⊎_elim (λ (x : 0 < d.weight). inl x) (λ (x : d.weight ≤ 0). inr (omega arith, omega arith)) (cases_lt 0 d.weight)) b

  pub planted : WithStarts (node ∷ []) old waits new waits_new
  planted = record {
    len = new_len;
    fits = record {
      few = (let e = new_len in let f = fits.few in omega arith);
      edges = λ v in'. few_edges v (let e = new_len in omega arith) (cases_eq v node);
      far = λ v in'. at_most_along (cost_at new v) (cost_at old v) (seen UNREACHED) (lower v) (fits.far v (let e = new_len in omega arith));
    };
    walks = λ g starts walked v near. walk g starts walked v near (cases_eq v node);
    zero = λ starts had a in'. costs_none starts had a in' (cases_eq a node);
    known = λ g v k. still g v (cases_eq v node) k;
    falls = lower;
  }
    where
      walk : (g : List (Arc ℕ)) (starts : List ℕ) → Walked g starts old → (v : ℕ) → (label_at new v).weight < UNREACHED.weight → (v ≡ node) ⊎ (v ≡ node → ⊥)
          → (steps : List ℕ) × Reaches g (starts ++ node ∷ []) steps v × (cost_of g steps ≡ cost_at new v)
      walk g starts walked v near (inl e) = ([], (v, (length starts, (let l = length_more starts in omega arith), at_end starts v e), refl), sym (ap seen (ap (label_at new) e ∙ at_node)))
        where
          length_more : (xs : List ℕ) → length (xs ++ node ∷ []) ≡ length xs + 1
          length_more xs = length_push xs node

          at_end : (xs : List ℕ) (w : ℕ) → w ≡ node → get_or (xs ++ node ∷ []) (length xs) w ≡ w
          at_end xs w e = get_or_push xs node w (length xs) refl ∙ sym e
      walk g starts walked v near (inr apart) =
          let had = walked v (subst (λ (l : Label). l.weight < UNREACHED.weight) (elsewhere v apart) near) in
          (had.0, (had.1.0, Contains-append_left starts (node ∷ []) had.1.0 had.1.1, had.1.2), had.2 ∙ ap seen (sym (elsewhere v apart)))

      costs_none : (starts : List ℕ) → ((a : ℕ) → Contains starts a → cost_at old a ≡ no_cost) → (a : ℕ) → Contains (starts ++ node ∷ []) a → (a ≡ node) ⊎ (a ≡ node → ⊥) → cost_at new a ≡ no_cost
      costs_none starts had a in' (inl e) = ap seen (ap (label_at new) e ∙ at_node)
      costs_none starts had a in' (inr apart) = ap seen (elsewhere a apart) ∙ ⊎_elim (λ (h : Contains starts a). had a h) (λ (h : node ≡ a). absurd (apart (sym h))) (Contains-push_cases starts node a in')

      still : (g : List (Arc ℕ)) (v : ℕ) → (v ≡ node) ⊎ (v ≡ node → ⊥) → IsCostKnown g old waits v → IsCostKnown g new waits_new v
      still g v (inl e) k = inr (subst (Contains waits_new) (λ j. record { 0 = record { weight = (is j).weight; edges = (is j).edges; node = sym e j } })
          (Contains-permutation _ _ _ pushed (0, omega arith, refl)))
        where
          is : none ≡ label_at new v
          is = sym (ap (label_at new) e ∙ at_node)
      still g v (inr apart) (inl done) = inl (λ i edge is from.
          subst (λ c. AtMost (cost_at new edge.to) (with_edge (seen c) edge.weight)) (sym (elsewhere v apart))
          (at_most_along (cost_at new edge.to) (cost_at old edge.to) (with_edge (cost_at old v) edge.weight) (lower edge.to) (done i edge is from)))
      still g v (inr apart) (inr waits') =
          let same = elsewhere v apart in
          inr (subst (Contains waits_new) (λ j. record { 0 = record { weight = (sym same j).weight; edges = (sym same j).edges; node = v } })
          (Contains-permutation _ _ _ pushed (suc waits'.0, (let h = waits'.1 in omega arith), waits'.2)))

-- ---- several

pub none_planted : (old : List Label) (waits : List (Reverse Waiting)) → CostsFit old → WithStarts [] old waits old waits
none_planted old waits fits = record {
  len = refl;
  fits = fits;
  walks = λ g starts w. subst (λ s. Walked g s old) (sym (append-nil starts)) w;
  zero = λ starts had a in'. had a (subst (λ s. Contains s a) (append-nil starts) in');
  known = λ g v k. k;
  falls = λ v. (omega arith, λ h. omega arith);
}

pub more_planted : (xs ys : List ℕ) (a b c : List Label) (wa wb wc : List (Reverse Waiting)) → WithStarts xs a wa b wb → WithStarts ys b wb c wc → WithStarts (xs ++ ys) a wa c wc
more_planted xs ys a b c wa wb wc p q = record {
  len = q.len ∙ p.len;
  fits = q.fits;
  walks = λ g starts w. subst (λ s. Walked g s c) (append_assoc starts xs ys) (q.walks g (starts ++ xs) (p.walks g starts w));
  zero = λ starts had v in'. q.zero (starts ++ xs) (p.zero starts had) v (subst (λ s. Contains s v) (sym (append_assoc starts xs ys)) in');
  known = λ g v k. q.known g v (p.known g v k);
  falls = λ v. at_most_along (cost_at c v) (cost_at b v) (cost_at a v) (q.falls v) (p.falls v);
}

-- each node is known where no edge can lower a cost
pub settled_known : (g : List (Arc ℕ)) (costs : List Label) (waits : List (Reverse Waiting)) → AreCostsSettled g costs → AllKnown g costs waits
settled_known g costs waits s v within = inl (λ i e is from. subst (λ w. AtMost (cost_at costs e.to) (with_edge (cost_at costs w) e.weight)) from (s i e is))

-- the table once the search has gone on from them
pub table_after : (g : List (Arc ℕ)) (starts more : List ℕ) (old mid new : List Label) (waits waits_mid : List (Reverse Waiting)) → IsTable g starts old → WithStarts more old waits mid waits_mid
    → AreCostsSettled g new → Falls mid new → ((s : List ℕ) → Walked g s mid → Walked g s new) → IsTable g (starts ++ more) new
table_after g starts more old mid new waits waits_mid t p settled falls walks = record {
  settled = settled;
  walked = walks (starts ++ more) (p.walks g starts t.walked);
  zero = λ a in'. at_most_both (cost_at new a) no_cost (subst (AtMost (cost_at new a)) (p.zero starts t.zero a in') (falls a)) (omega arith, λ h. omega arith);
}

-- a slice that was lent out of a vector and came back
pub put_back : {X : Type 0} (n : ℕ) (xs ys : List X) → length xs ≡ n → length ys ≡ n → take n (xs ++ drop (length xs) ys) ≡ xs
put_back n xs ys a b = ap (λ zs. take n (xs ++ zs)) (drop_all (length xs) ys (omega arith)) ∙ (ap (take n) (append-nil xs) ∙ take_all n xs (omega arith))

pub known_after : (g : List (Arc ℕ)) (more : List ℕ) (old mid : List Label) (waits waits_mid : List (Reverse Waiting)) → AreCostsSettled g old → WithStarts more old waits mid waits_mid → AllKnown g mid waits_mid
known_after g more old mid waits waits_mid s p v within = p.known g v (settled_known g old waits s v (let l = p.len in omega arith))

pub on_ok_from : {T E : Type 0} (r : Result T E) (A B C D : Type 0) → OnOk r A → OnOk r B → OnOk r C → (A → B → C → D) → OnOk r D
on_ok_from (Ok x) A B C D a b c f = f a b c
on_ok_from (Err e) A B C D a b c f = tt

-- one more step enters the head of its link
pub entered_more : (links : List Link) (steps : List ℕ) (i step : ℕ) (link : Link) → i < length steps → step ≡ get_or steps i 0 → slice_get links step ≡ Some link
    → entered (arcs links) (take (i + 1) steps) ≡ entered (arcs links) (take i steps) ++ link.head ∷ []
entered_more links steps i step link within is there =
    let here : slice_get (arcs links) step ≡ Some (arc link) = slice_get-map arc links step ∙ ap (option_map arc) there in
    ap (entered (arcs links)) (take_more steps i 0 within ∙ ap (λ k. take i steps ++ k ∷ []) (sym is))
    ∙ (entered-append (arcs links) (take i steps) (step ∷ [])
    ∙ ap (λ o. entered (arcs links) (take i steps) ++ (option_to_list (option_map (λ (e : Arc ℕ). e.to) o) ++ [])) here)

pub on_ok_of : {T E : Type 0} (r : Result T E) (A D : Type 0) → OnOk r A → (A → D) → OnOk r D
on_ok_of (Ok x) A D a f = f a
on_ok_of (Err e) A D a f = tt

pub falls_after : (more : List ℕ) (old mid new : List Label) (waits waits_mid : List (Reverse Waiting)) → WithStarts more old waits mid waits_mid → Falls mid new → Falls old new
falls_after more old mid new waits waits_mid p falls v = at_most_along (cost_at new v) (cost_at mid v) (cost_at old v) (falls v) (p.falls v)
