-- One link lowers its head, or it cannot: what a search keeps.
use Rattle.std.proofs.Common.{◌≡◌, ◌≢◌, ℕ, zero, suc, ◌+◌, ◌^◌, ◌≤◌, ◌<◌, Bool, true, false, cond, List, [], ◌∷◌, ◌++◌, length, get_or, set, Some, refl, sym, ap, subst, ◌∙◌, inl, inr, ⊎_elim, arith}
use Rattle.std.specs.Prelude.{slice_get, ◌&&◌, ◌||◌, ◌⊎◌}
use Rattle.std.specs.Option.{option_map}
use Rattle.std.specs.List.{Contains, count_by, sum_by}
use Rattle.std.specs.List.Sorted.{IsPermutation}
use Rattle.std.specs.declared.cmp.Reverse.{Reverse}
use Rattle.std.proofs.lemmas.Bool.{cases_Bool, cases_eq, cases_lt, cases_order, ltb-true, eqb-true, lt-ltb, eq-eqb, false≢true}
use Rattle.std.proofs.lemmas.List.{get_or_default, get_or-set_same, get_or-set_other, length-set}
use Rattle.std.proofs.lemmas.List.Sums.{sum_by-cons, sum_by-set, sum_by-le-sum_by, count_by-le-length}
use Rattle.std.proofs.lemmas.List.Sorted.{Contains-permutation, length_permutation}
use Rattle.std.proofs.lemmas.Option.{same_Some, none-some, slice_get-map, slice_get_within, get_or_from_slice_get}
use Rattle.dg_path.specs.declared.search.Link.{Link}
use Rattle.dg_path.specs.declared.search.Waiting.{Waiting}
use Rattle.dg_path.specs.declared.search.Cost.{Cost as Label}
use Rattle.dg_path.specs.declared.search.TheConstants.{UNREACHED}
use Rattle.dg_plan.specs.Walks.{Arc, Cost, Reaches, cost_of, with_edge, AtMost}
use Rattle.dg_path.specs.Search.{arc, arcs, cheaper, seen, label_at, cost_at, IsLink, AreLinks, IsNext, CostsFit, AreCostsSettled, Walked, IsDone, waiting, IsCostKnown, AllKnown, as_number, effort, Lowered, Lowers}
use Rattle.dg_plan.proofs.WalkCosts.{at_most_itself, at_most_along, cost_last}
use Rattle.dg_plan.proofs.WalkLeastCosts.{reaches_more}

-- ---- the order of labels

abbrev pub Below : Label → Label → Type 0
Below c d = (c.weight < d.weight) ⊎ ((c.weight ≡ d.weight) × (c.edges < d.edges))

or_true : (a b c : Bool) → (a || (b && c)) ≡ true → (a ≡ true) ⊎ ((b ≡ true) × (c ≡ true))
or_true true b c e = inl refl
or_true false true c e = inr (refl, e)
or_true false false c e = absurd (false≢true e)

true_or : (a b c : Bool) → (a ≡ true) ⊎ ((b ≡ true) × (c ≡ true)) → (a || (b && c)) ≡ true
true_or true b c e = refl
true_or false true true e = refl
true_or false true false e = ⊎_elim (λ h. absurd (false≢true h)) (λ h. absurd (false≢true h.1)) e
true_or false false c e = ⊎_elim (λ h. absurd (false≢true h)) (λ h. absurd (false≢true h.0)) e

pub below : (c d : Label) → cheaper c d ≡ true → Below c d
below c d e = ⊎_elim (λ h. inl (ltb-true _ _ h)) (λ h. inr (eqb-true _ _ h.0, ltb-true _ _ h.1)) (or_true _ _ _ e)

pub cheaper_is : (c d : Label) → Below c d → cheaper c d ≡ true
cheaper_is c d b = true_or _ _ _ (⊎_elim (λ h. inl (lt-ltb _ _ h)) (λ h. inr (eq-eqb _ _ h.0, lt-ltb _ _ h.1)) b)

pub cheaper_not : (c d : Label) → (Below c d → ⊥) → cheaper c d ≡ false
cheaper_not c d not' = ⊎_elim (λ h. absurd (not' (below c d h))) (λ h. h) (cases_Bool (cheaper c d))

below_at_most : (c d : Label) → Below c d → AtMost (seen c) (seen d)
below_at_most c d b = ⊎_elim (λ h. (omega arith, λ e. omega arith)) (λ h. (omega arith, λ e. omega arith)) b

-- two labels are not each below the other
irreflexive : (c d : Label) → Below c d → Below d c → ⊥
irreflexive c d x y = ⊎_elim (λ (a : c.weight < d.weight). ⊎_elim (λ (b : d.weight < c.weight). omega arith) (λ (b : (d.weight ≡ c.weight) × (d.edges < c.edges)). omega arith) y)
    (λ (a : (c.weight ≡ d.weight) × (c.edges < d.edges)). ⊎_elim (λ (b : d.weight < c.weight). omega arith) (λ (b : (d.weight ≡ c.weight) × (d.edges < c.edges)). omega arith) y) x

below_along : (c d e : Label) → Below c d → AtMost (seen d) (seen e) → Below c e
below_along c d e x y = ⊎_elim (λ (a : c.weight < d.weight). inl (omega arith))
    (λ (a : (c.weight ≡ d.weight) × (c.edges < d.edges)). ⊎_elim (λ (b : d.weight < e.weight). inl (omega arith)) (λ (b : e.weight ≤ d.weight). inr (omega arith, omega arith)) (cases_lt d.weight e.weight)) x

-- ---- counting

abbrev one_if : Bool → ℕ
one_if t = cond t 1 0

one_if_true : (t : Bool) → t ≡ true → one_if t ≡ 1
one_if_true t e = ap one_if e

one_if_false : (t : Bool) → t ≡ false → one_if t ≡ 0
one_if_false t e = ap one_if e

one_if_le : (s t : Bool) → (s ≡ true → t ≡ true) → one_if s ≤ one_if t
one_if_le true true st = omega arith
one_if_le true false st = absurd (false≢true (st refl))
one_if_le false t st = omega arith

count_strict : (p q : Label → Bool) → ((c : Label) → p c ≡ true → q c ≡ true) → (xs : List Label) (i : ℕ) (d : Label) → i < length xs → p (get_or xs i d) ≡ false → q (get_or xs i d) ≡ true
    → count_by p xs + 1 ≤ count_by q xs
count_strict p q pq [] i d within fails passes = absurd (omega arith)
count_strict p q pq (x ∷ xs) zero d within fails passes =
    let a : count_by p (x ∷ xs) ≡ one_if (p x) + count_by p xs = sum_by-cons _ x xs in
    let b : count_by q (x ∷ xs) ≡ one_if (q x) + count_by q xs = sum_by-cons _ x xs in
    let a0 : one_if (p x) ≡ 0 = one_if_false _ fails in
    let b1 : one_if (q x) ≡ 1 = one_if_true _ passes in
    let rest : count_by p xs ≤ count_by q xs = sum_by-le-sum_by _ _ xs (λ c. one_if_le (p c) (q c) (pq c)) in
    omega arith
count_strict p q pq (x ∷ xs) (suc i) d within fails passes =
    let a : count_by p (x ∷ xs) ≡ one_if (p x) + count_by p xs = sum_by-cons _ x xs in
    let b : count_by q (x ∷ xs) ≡ one_if (q x) + count_by q xs = sum_by-cons _ x xs in
    let here : one_if (p x) ≤ one_if (q x) = one_if_le (p x) (q x) (pq x) in
    let rest : count_by p xs + 1 ≤ count_by q xs = count_strict p q pq xs i d (omega arith) fails passes in
    omega arith

pub count_set : (p : Label → Bool) (xs : List Label) (i : ℕ) (y : Label) → i < length xs → (p (get_or xs i UNREACHED) ≡ true → p y ≡ true) → count_by p xs ≤ count_by p (set xs i y)
count_set p xs i y within keeps =
    let e : count_by p (set xs i y) + one_if (p (get_or xs i UNREACHED)) ≡ count_by p xs + one_if (p y) = sum_by-set _ xs i y UNREACHED within in
    let h : one_if (p (get_or xs i UNREACHED)) ≤ one_if (p y) = one_if_le (p (get_or xs i UNREACHED)) (p y) keeps in
    omega arith

-- ---- nothing lowered yet

pub not_yet : (links : List Link) (node r : ℕ) (old : List Label) (waits : List (Reverse Waiting)) → CostsFit old → IsNext true links node 0 r → Lowered links node r old waits old waits
not_yet links node r old waits fits next = record {
  len = refl;
  same = refl;
  fits = fits;
  falls = λ v. at_most_itself (cost_at old v);
  walks = λ starts w. w;
  relaxed = λ i l i<r there leaves. absurd (next.skipped i l (omega arith) i<r there leaves);
  known = λ v apart k. k;
  effort = omega arith;
}

-- ---- one link

module _ (links : List Link) (node at r : ℕ) (link : Link) (old mid new : List Label) (waits waits_mid waits_new : List (Reverse Waiting))
    (low : Lowered links node at old waits mid waits_mid) (there : slice_get links at ≡ Some link) (leaves : link.tail ≡ node) (inside : AreLinks links (length old)) (node_in : node < length old)
    (next : IsNext true links node (at + 1) r) where
  at_head : link.head < length mid
  at_head =
      let h : link.head < length old = (subst (IsLink (length old)) (get_or_from_slice_get links at link link there) (inside at link (slice_get_within links at link there))).head in
      let e = low.len in
      omega arith

  -- a link that can lower nothing
  not_lowered : AtMost (cost_at mid link.head) (with_edge (cost_at old node) link.weight) → Lowered links node r old waits mid waits_mid
  not_lowered relaxed_at = record {
    len = low.len;
    same = low.same;
    fits = low.fits;
    falls = low.falls;
    walks = low.walks;
    relaxed = λ i l i<r is from. by i l i<r is from (cases_order i at);
    known = low.known;
    effort = low.effort;
  }
    where
      by : (i : ℕ) (l : Link) → i < r → slice_get links i ≡ Some l → l.tail ≡ node → (i ≡ at) ⊎ ((i < at) ⊎ (at < i)) → AtMost (cost_at mid l.head) (with_edge (cost_at old node) l.weight)
      by i l i<r is from (inl e) =
          let same : link ≡ l = same_Some _ _ (sym there ∙ (ap (slice_get links) (sym e) ∙ is)) in
          subst (λ (k : Link). AtMost (cost_at mid k.head) (with_edge (cost_at old node) k.weight)) same relaxed_at
      by i l i<r is from (inr (inl below)) = low.relaxed i l below is from
      by i l i<r is from (inr (inr above)) = absurd (next.skipped i l (omega arith) i<r is from)

  module _ (through : Label) (sum : seen through ≡ with_edge (cost_at old node) link.weight) (less : cheaper through (label_at mid link.head) ≡ true)
      (new_is : new ≡ set mid link.head through)
      (pushed : IsPermutation (record { 0 = record { weight = through.weight; edges = through.edges; node = link.head } } ∷ waits_mid) waits_new) where
    sum_weight : through.weight ≡ (label_at old node).weight + link.weight
    sum_weight = ap (λ (c : Cost). c.0) sum

    sum_edges : through.edges ≡ (label_at old node).edges + 1
    sum_edges = ap (λ (c : Cost). c.1) sum

    lower : Below through (label_at mid link.head)
    lower = below _ _ less

    from_below : Below (label_at mid node) through
    from_below =
        let w : (label_at mid node).weight ≡ (label_at old node).weight = ap (λ (c : Label). c.weight) low.same in
        let n : (label_at mid node).edges ≡ (label_at old node).edges = ap (λ (c : Label). c.edges) low.same in
        let x = sum_weight in
        let y = sum_edges in
        ⊎_elim (λ (h : (label_at mid node).weight < through.weight). inl h) (λ (h : through.weight ≤ (label_at mid node).weight). inr (omega arith, omega arith)) (cases_lt (label_at mid node).weight through.weight)

    head_apart : link.head ≢ node
    head_apart e =
        let same : label_at mid link.head ≡ label_at mid node = ap (label_at mid) e in
        let a = subst (Below through) same lower in
        irreflexive through (label_at mid node) a from_below

    at_new : label_at new link.head ≡ through
    at_new = ap (λ cs. label_at cs link.head) new_is ∙ get_or-set_same mid link.head through UNREACHED at_head

    elsewhere : (v : ℕ) → v ≢ link.head → label_at new v ≡ label_at mid v
    elsewhere v apart = ap (λ cs. label_at cs v) new_is ∙ get_or-set_other mid link.head v through UNREACHED apart

    new_falls : (v : ℕ) → AtMost (cost_at new v) (cost_at mid v)
    new_falls v = ⊎_elim (λ (e : v ≡ link.head). subst (λ w. AtMost (cost_at new w) (cost_at mid w)) (sym e) (subst (λ c. AtMost (seen c) (cost_at mid link.head)) (sym at_new) (below_at_most _ _ lower)))
        (λ (apart : v ≡ link.head → ⊥). subst (λ c. AtMost (seen c) (cost_at mid v)) (sym (elsewhere v apart)) (at_most_itself (cost_at mid v)))
        (cases_eq v link.head)

    node_mid : node < length mid
    node_mid = let e = low.len in omega arith

    new_len : length new ≡ length mid
    new_len = ap length new_is ∙ length-set mid link.head through

    -- the counts of edges
    few_at_head : through.edges ≤ count_by (λ c. cheaper c through) new
    few_at_head =
        let strict : count_by (λ c. cheaper c (label_at mid node)) mid + 1 ≤ count_by (λ c. cheaper c through) mid =
        count_strict (λ c. cheaper c (label_at mid node)) (λ c. cheaper c through)
        (λ c e. cheaper_is c through (below_along c (label_at mid node) through (below _ _ e) (below_at_most _ _ from_below)))
        mid node UNREACHED node_mid (cheaper_not _ _ (λ b. irreflexive (label_at mid node) (label_at mid node) b b)) (cheaper_is _ _ from_below) in
        let kept : count_by (λ c. cheaper c through) mid ≤ count_by (λ c. cheaper c through) (set mid link.head through) =
        count_set (λ c. cheaper c through) mid link.head through at_head (λ e. absurd (irreflexive through (label_at mid link.head) lower (below _ _ e))) in
        let moved : count_by (λ c. cheaper c through) new ≡ count_by (λ c. cheaper c through) (set mid link.head through) = ap (count_by (λ c. cheaper c through)) new_is in
        let had : (label_at mid node).edges ≤ count_by (λ c. cheaper c (label_at mid node)) mid = low.fits.edges node node_mid in
        let n : (label_at mid node).edges ≡ (label_at old node).edges = ap (λ (c : Label). c.edges) low.same in
        let y = sum_edges in
        omega arith

    few_elsewhere : (v : ℕ) → v < length mid → (label_at mid v).edges ≤ count_by (λ c. cheaper c (label_at mid v)) new
    few_elsewhere v within =
        let kept : count_by (λ c. cheaper c (label_at mid v)) mid ≤ count_by (λ c. cheaper c (label_at mid v)) (set mid link.head through) =
        count_set (λ c. cheaper c (label_at mid v)) mid link.head through at_head
        (λ e. cheaper_is _ _ (below_along through (label_at mid link.head) (label_at mid v) lower (below_at_most _ _ (below _ _ e)))) in
        let moved : count_by (λ c. cheaper c (label_at mid v)) new ≡ count_by (λ c. cheaper c (label_at mid v)) (set mid link.head through) = ap (count_by (λ c. cheaper c (label_at mid v))) new_is in
        let had = low.fits.edges v within in
        omega arith

    new_fits : CostsFit new
    new_fits = record {
      few = (let e = new_len in let f = low.fits.few in omega arith);
      edges = λ v within. by v (let e = new_len in omega arith) (cases_eq v link.head);
      far = λ v within. at_most_along (cost_at new v) (cost_at mid v) (seen UNREACHED) (new_falls v) (low.fits.far v (let e = new_len in omega arith));
    }
      where
        by : (v : ℕ) → v < length mid → (v ≡ link.head) ⊎ (v ≡ link.head → ⊥) → (label_at new v).edges ≤ count_by (λ c. cheaper c (label_at new v)) new
        by v within (inl e) = subst (λ (l : Label). l.edges ≤ count_by (λ c. cheaper c l) new) (sym (ap (label_at new) e ∙ at_new)) few_at_head
        by v within (inr apart) = subst (λ (l : Label). l.edges ≤ count_by (λ c. cheaper c l) new) (sym (elsewhere v apart)) (few_elsewhere v within)

    -- the walks
    arc_there : slice_get (arcs links) at ≡ Some (arc link)
    arc_there = slice_get-map arc links at ∙ ap (option_map arc) there

    near : (label_at mid node).weight < UNREACHED.weight
    near =
        let b = from_below in
        let f = below_along through (label_at mid link.head) UNREACHED lower (low.fits.far link.head at_head) in
        let x = sum_weight in
        let w : (label_at mid node).weight ≡ (label_at old node).weight = ap (λ (c : Label). c.weight) low.same in
        ⊎_elim (λ (h : through.weight < UNREACHED.weight). omega arith) (λ (h : (through.weight ≡ UNREACHED.weight) × (through.edges < UNREACHED.edges)). omega arith) f

    new_walks : (starts : List ℕ) → Walked (arcs links) starts mid → Walked (arcs links) starts new
    new_walks starts walked v close = by (cases_eq v link.head)
      where
        at_end : (steps : List ℕ) × Reaches (arcs links) starts steps link.head × (cost_of (arcs links) steps ≡ cost_at new link.head)
        at_end =
            let before = walked node near in
            let r : Reaches (arcs links) starts before.0 link.tail = subst (Reaches (arcs links) starts before.0) (sym leaves) before.1 in
            let same : cost_at mid node ≡ cost_at old node = ap seen low.same in (
              before.0 ++ at ∷ [],
              reaches_more (arcs links) starts before.0 at (arc link) arc_there r,
              cost_last (arcs links) before.0 at (arc link) arc_there ∙ (ap (λ c. with_edge c link.weight) (before.2 ∙ same) ∙ (sym sum ∙ ap seen (sym at_new))),
            )

        by : (v ≡ link.head) ⊎ (v ≡ link.head → ⊥) → (steps : List ℕ) × Reaches (arcs links) starts steps v × (cost_of (arcs links) steps ≡ cost_at new v)
        by (inl e) = subst (λ w. (steps : List ℕ) × Reaches (arcs links) starts steps w × (cost_of (arcs links) steps ≡ cost_at new w)) (sym e) at_end
        by (inr apart) =
            let same = elsewhere v apart in
            let had = walked v (subst (λ (l : Label). l.weight < UNREACHED.weight) same close) in
            (had.0, had.1, had.2 ∙ ap seen (sym same))

    -- what is relaxed
    new_relaxed : (i : ℕ) (l : Link) → i < r → slice_get links i ≡ Some l → l.tail ≡ node → AtMost (cost_at new l.head) (with_edge (cost_at old node) l.weight)
    new_relaxed i l i<r is from = by (cases_order i at)
      where
        by : (i ≡ at) ⊎ ((i < at) ⊎ (at < i)) → AtMost (cost_at new l.head) (with_edge (cost_at old node) l.weight)
        by (inl e) =
            let same : link ≡ l = same_Some _ _ (sym there ∙ (ap (slice_get links) (sym e) ∙ is)) in
            let here : AtMost (cost_at new link.head) (with_edge (cost_at old node) link.weight) =
            subst (λ c. AtMost c (with_edge (cost_at old node) link.weight)) (sym (ap seen at_new ∙ sum)) (at_most_itself (with_edge (cost_at old node) link.weight)) in
            subst (λ (k : Link). AtMost (cost_at new k.head) (with_edge (cost_at old node) k.weight)) same here
        by (inr (inl before)) = at_most_along (cost_at new l.head) (cost_at mid l.head) (with_edge (cost_at old node) l.weight) (new_falls l.head) (low.relaxed i l before is from)
        by (inr (inr above)) = absurd (next.skipped i l (omega arith) i<r is from)

    -- the nodes that wait
    new_known : (v : ℕ) → v ≢ node → IsCostKnown (arcs links) mid waits_mid v → IsCostKnown (arcs links) new waits_new v
    new_known v apart known = by (cases_eq v link.head) known
      where
        front : Contains (record { 0 = record { weight = through.weight; edges = through.edges; node = link.head } } ∷ waits_mid) (record { 0 = record { weight = through.weight; edges = through.edges; node = link.head } })
        front = (0, omega arith, refl)

        back : (x : Reverse Waiting) → Contains waits_mid x → Contains (record { 0 = record { weight = through.weight; edges = through.edges; node = link.head } } ∷ waits_mid) x
        back x c = (suc c.0, (let h = c.1 in omega arith), c.2)

        by : (v ≡ link.head) ⊎ (v ≡ link.head → ⊥) → IsCostKnown (arcs links) mid waits_mid v → IsCostKnown (arcs links) new waits_new v
        by (inl e) k =
            let is : record { 0 = record { weight = through.weight; edges = through.edges; node = link.head } } ≡ waiting new v =
            (λ j. record { 0 = record { weight = (at_new' e j).weight; edges = (at_new' e j).edges; node = sym e j } }) in
            inr (subst (Contains waits_new) is (Contains-permutation _ _ _ pushed front))
          where
            at_new' : v ≡ link.head → through ≡ label_at new v
            at_new' e = sym (ap (label_at new) e ∙ at_new)
        by (inr other) (inl done) = inl (λ i edge is from.
            subst (λ c. AtMost (cost_at new edge.to) (with_edge (seen c) edge.weight)) (sym (elsewhere v other))
            (at_most_along (cost_at new edge.to) (cost_at mid edge.to) (with_edge (cost_at mid v) edge.weight) (new_falls edge.to) (done i edge is from)))
        by (inr other) (inr waits') =
            let same = elsewhere v other in
            inr (subst (Contains waits_new) (λ j. record { 0 = record { weight = (sym same j).weight; edges = (sym same j).edges; node = v } }) (Contains-permutation _ _ _ pushed (back _ waits')))

    -- the effort
    new_effort : effort new (length waits_new) ≤ effort mid (length waits_mid)
    new_effort =
        let total : sum_by as_number (set mid link.head through) + as_number (label_at mid link.head) ≡ sum_by as_number mid + as_number through = sum_by-set as_number mid link.head through UNREACHED at_head in
        let moved : sum_by as_number new ≡ sum_by as_number (set mid link.head through) = ap (sum_by as_number) new_is in
        let len : length waits_new ≡ length waits_mid + 1 = length_permutation _ _ pushed ∙ omega arith in
        let few_through : through.edges < 2 ^ 32 = (let a = few_at_head in let b = count_by-le-length (λ c. cheaper c through) new in let f = low.fits.few in let e = new_len in omega arith) in
        let less' : as_number through + 1 ≤ as_number (label_at mid link.head) =
        ⊎_elim (λ (h : through.weight < (label_at mid link.head).weight). omega arith) (λ (h : (through.weight ≡ (label_at mid link.head).weight) × (through.edges < (label_at mid link.head).edges)). omega arith) lower in
        omega arith

    lowered : Lowered links node r old waits new waits_new
    lowered = record {
      len = new_len ∙ low.len;
      same = elsewhere node (λ e. head_apart (sym e)) ∙ low.same;
      fits = new_fits;
      falls = λ v. at_most_along (cost_at new v) (cost_at mid v) (cost_at old v) (new_falls v) (low.falls v);
      walks = λ starts w. new_walks starts (low.walks starts w);
      relaxed = new_relaxed;
      known = λ v apart k. new_known v apart (low.known v apart k);
      effort = (let a = new_effort in let b = low.effort in omega arith);
    }

  -- a link that may lower its head
  pub one_more : (from : Label) → from ≡ label_at old node → Lowers from link mid waits_mid new waits_new → Lowered links node r old waits new waits_new
  one_more from is (inl cannot) =
      let at : AtMost (cost_at mid link.head) (with_edge (cost_at old node) link.weight) = subst (λ c. AtMost (cost_at mid link.head) (with_edge (seen c) link.weight)) is cannot.2 in
      subst (λ cs. Lowered links node r old waits cs waits_new) (sym cannot.0) (subst (λ ws. Lowered links node r old waits mid ws) (sym cannot.1) (not_lowered at))
  one_more from is (inr can) = lowered can.0 (can.1 ∙ ap (λ c. with_edge (seen c) link.weight) is) can.2 can.3 can.4

pub next_here : (leaving : Bool) (links : List Link) (node k r : ℕ) → IsNext leaving links node k r → IsNext leaving links node r r
next_here leaving links node k r n = record { above = omega arith; skipped = λ i l r≤i i<r there leaves. omega arith; there = n.there; bound = n.bound }

-- ---- what waits

kept_by_pop : (g : List (Arc ℕ)) (costs : List Label) (old new : List (Reverse Waiting)) (x : Reverse Waiting) → IsPermutation old (x ∷ new) → (v : ℕ) → (waiting costs v ≡ x → ⊥) → IsCostKnown g costs old v → IsCostKnown g costs new v
kept_by_pop g costs old new x moved v other (inl done) = inl done
kept_by_pop g costs old new x moved v other (inr waits) = by (Contains-permutation _ _ _ moved waits)
  where
    by : Contains (x ∷ new) (waiting costs v) → IsCostKnown g costs new v
    by (zero, within, is) = absurd (other (sym is))
    by (suc k, within, is) = inr (k, omega arith, is)

pub stale : (g : List (Arc ℕ)) (costs : List Label) (old new : List (Reverse Waiting)) (x : Reverse Waiting) → IsPermutation old (x ∷ new) → ((v : ℕ) → v < length costs → waiting costs v ≡ x → ⊥)
    → AllKnown g costs old → AllKnown g costs new
stale g costs old new x moved other known v within = kept_by_pop g costs old new x moved v (other v within) (known v within)

pub link_of : (links : List Link) (i : ℕ) (e : Arc ℕ) → slice_get (arcs links) i ≡ Some e → (l : Link) × (slice_get links i ≡ Some l) × (arc l ≡ e)
link_of [] i e is = absurd (none-some e is)
link_of (l ∷ links) zero e is = (l, refl, same_Some _ _ is)
link_of (l ∷ links) (suc i) e is = link_of links i e is

pub fresh : (links : List Link) (mid new : List Label) (old rest now : List (Reverse Waiting)) (x : Reverse Waiting) → IsPermutation old (x ∷ rest) → Lowered links x.0.node (length links) mid rest new now
    → AllKnown (arcs links) mid old → AllKnown (arcs links) new now
fresh links mid new old rest now x moved low known v within = by (cases_eq v x.0.node)
  where
    by : (v ≡ x.0.node) ⊎ (v ≡ x.0.node → ⊥) → IsCostKnown (arcs links) new now v
    by (inl e) = inl (λ i edge is from.
        let l = link_of links i edge is in
        let leaves : l.0.tail ≡ x.0.node = ap (λ (k : Arc ℕ). k.from) l.2 ∙ (from ∙ e) in
        let at = low.relaxed i l.0 (slice_get_within links i l.0 l.1) l.1 leaves in
        let same : label_at mid x.0.node ≡ label_at new v = sym (ap (label_at new) e ∙ low.same) in
        subst (λ c. AtMost (cost_at new edge.to) (with_edge (seen c) edge.weight)) same
        (subst (λ (k : Arc ℕ). AtMost (cost_at new k.to) (with_edge (cost_at mid x.0.node) k.weight)) l.2 at))
    by (inr apart) = low.known v apart (kept_by_pop (arcs links) mid old rest x moved v (λ e. apart (ap (λ (w : Reverse Waiting). w.0.node) e)) (known v (let e = low.len in omega arith)))

pub all_settled : (links : List Link) (costs : List Label) (queue : List (Reverse Waiting)) → AreLinks links (length costs) → length queue ≡ 0 → AllKnown (arcs links) costs queue → AreCostsSettled (arcs links) costs
all_settled links costs queue inside empty known i e is =
    let l = link_of links i e is in
    let tail : l.0.tail < length costs = (subst (IsLink (length costs)) (get_or_from_slice_get links i l.0 l.0 l.1) (inside i l.0 (slice_get_within links i l.0 l.1))).tail in
    let from : e.from < length costs = subst (λ (k : Arc ℕ). k.from < length costs) l.2 tail in
    ⊎_elim (λ (done : IsDone (arcs links) costs e.from). done i e is refl) (λ (waits : Contains queue (waiting costs e.from)). absurd (let h = waits.1 in omega arith)) (known e.from from)

-- an entry of the queue whose cost is no more that of its node
pub out_of_date : (costs : List Label) (x : Reverse Waiting) (d : Label) → x.0.node < length costs
    → (((get_or costs x.0.node d).weight ≡ x.0.weight) × ((get_or costs x.0.node d).edges ≡ x.0.edges → ⊥)) ⊎ ((get_or costs x.0.node d).weight ≡ x.0.weight → ⊥)
    → (v : ℕ) → waiting costs v ≡ x → ⊥
out_of_date costs x d within differs v e =
    let node : v ≡ x.0.node = ap (λ (w : Reverse Waiting). w.0.node) e in
    let same : get_or costs x.0.node d ≡ label_at costs v = get_or_default costs x.0.node d UNREACHED within ∙ ap (label_at costs) (sym node) in
    let weight : (get_or costs x.0.node d).weight ≡ x.0.weight = ap (λ (c : Label). c.weight) same ∙ ap (λ (w : Reverse Waiting). w.0.weight) e in
    let edges : (get_or costs x.0.node d).edges ≡ x.0.edges = ap (λ (c : Label). c.edges) same ∙ ap (λ (w : Reverse Waiting). w.0.edges) e in
    ⊎_elim (λ (h : ((get_or costs x.0.node d).weight ≡ x.0.weight) × ((get_or costs x.0.node d).edges ≡ x.0.edges → ⊥)). h.1 edges) (λ (h : (get_or costs x.0.node d).weight ≡ x.0.weight → ⊥). h weight) differs
