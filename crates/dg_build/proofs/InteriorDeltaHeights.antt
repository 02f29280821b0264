-- Height after height.
use Rattle.std.proofs.Common.{◌≡◌, ℕ, zero, suc, ◌+◌, ◌-◌, ◌*◌, ◌/◌, ◌^◌, ◌<◌, ◌≤◌, ◌==◌, cond, List, [], ◌∷◌, ◌++◌, length, get_or, map, take, drop, refl, sym, ap, subst, ◌∙◌, arith, append-nil, append_assoc, length-append, div-mul-le_self, le-div_iff_mul-le}
use Rattle.std.specs.List.{flat_map}
use Rattle.std.proofs.lemmas.Bool.{ne_eqb}
use Rattle.std.proofs.lemmas.List.{map-append, length-map, take_at, drop_at}
use Rattle.std.proofs.lemmas.List.Concat.{flat_map-append}
use Rattle.dg_graph.specs.declared.element.Element.{Element}
use Rattle.dg_graph.specs.declared.event.Event.{Event}
use Rattle.dg_history.specs.declared.node.Key.{Key}
use Rattle.dg_history.specs.declared.node.NodeId.{NodeId}
use Rattle.dg_history.specs.declared.params.Params.{Params}
use Rattle.dg_graph.specs.Composition.{Delta, between}
use Rattle.dg_index.specs.Hierarchy.{numbers, leaves, set_at, set_of}
use Rattle.dg_index.specs.IndexRecords.{Exact, record_among, deltas_of, deltas_due_at, deltas_due}
use Rattle.dg_index.specs.FileOfHistory.{Segment, Stored, stored}
use Rattle.dg_index.specs.OlderNodes.{node_at}
use Rattle.dg_index.proofs.HierarchyCounts.{higher, numbers_append, numbers_length, one_if_first, count_from}
use Rattle.dg_index.proofs.HierarchyStability.{stable, map_numbers}
use Rattle.dg_build.proofs.InteriorDeltaRecords.{first_row, other_row, written}
use Rattle.dg_build.proofs.OlderSteps.{div_mono, div_one, due_in_time, half, here_long, none_above, pow_some, top_at}
use Rattle.dg_build.proofs.StepsBack.{first_of_both, steps_long, steps_of_both}
use Rattle.dg_build.specs.InteriorDeltas.{AreNewNodes, AreStepsTo, Rises, deltas_added, downs_of, older_sets, start_above, steps_to, stored_delta, tops_and_downs}
use Rattle.dg_build.specs.OlderSteps.{AreOlderSteps, IsTopDue, first_in_time, in_time, last_leaf, older_in_time}

-- ---- heights that are due

one_more : {A : Type 0} (f : ℕ → List A) (h : ℕ) → flat_map f (numbers 1 (suc h)) ≡ flat_map f (numbers 1 h) ++ f (suc h)
one_more f h =
    ap (λ n. flat_map f (numbers 1 n)) (let e : suc h ≡ h + 1 = omega arith in e)
    ∙ ap (flat_map f) (numbers_append 1 h 1)
    ∙ flat_map-append f (numbers 1 h) (numbers (1 + h) 1)
    ∙ ap (λ (l : List _). flat_map f (numbers 1 h) ++ l) (append-nil (f (1 + h)) ∙ ap f (let e : 1 + h ≡ suc h = omega arith in e))

-- nothing is due from a height on that has no new node
pub none_more : (k m after : ℕ) → 2 ≤ k → (n h : ℕ) → after / k ^ h ≤ m / k ^ h → flat_map (deltas_due_at k m after) (numbers h n) ≡ []
none_more k m after two zero h le = refl
none_more k m after two (suc n) h le =
    let none : deltas_due_at k m after h ≡ [] = ap (λ c. flat_map (deltas_of k h) (numbers (m / k ^ h + 1) c)) (let e : after / k ^ h - m / k ^ h ≡ 0 = omega (arith, le) in e) in
    let up : after / k ^ (h + 1) ≤ m / k ^ (h + 1) = subst (λ b. after / k ^ b ≤ m / k ^ b) (let e : suc h ≡ h + 1 = omega arith in e)
    (subst (λ x. x ≤ m / k ^ suc h) (sym (higher after k h)) (subst (λ x. after / k ^ h / k ≤ x) (sym (higher m k h)) (div_mono (after / k ^ h) (m / k ^ h) k two le))) in
    (λ i. none i ++ flat_map (deltas_due_at k m after) (numbers (h + 1) n)) ∙ none_more k m after two n (h + 1) up

-- ---- how much, of any input

pub record CountsSoFar (k m after q end at steps old out : ℕ) : Type 0 where
  pub h : ℕ
  pub turns : ℕ
  pub far : h + end ≤ after
  pub enough : end ≤ turns
  pub q_is : q ≡ m / k ^ h
  pub end_is : end ≡ after / k ^ h
  pub some : q < end
  pub long : steps + 1 ≡ end - q
  pub left : at ≡ length (in_time k turns h q end)
  pub count : out ≡ old + length (flat_map (deltas_due_at k m after) (numbers 1 h))

pub counts_first : (k m after at steps old : ℕ) → m < after → steps + 1 ≡ after - m → at ≡ length (older_in_time k m after) → CountsSoFar k m after m after at steps old old
counts_first k m after at steps old some long many = record {
  h = 0;
  turns = after;
  far = omega arith;
  enough = omega arith;
  q_is = sym (div_one m k);
  end_is = sym (div_one after k);
  some = some;
  long = long;
  left = many;
  count = omega arith;
}

-- the older nodes of the row, and those that are left
left_on : (k turns h q end at : ℕ) → q / k < end / k → 2 ≤ k → end ≤ turns → at ≡ length (in_time k turns h q end) → at ≡ length (in_time k (turns - 1) (suc h) (q / k) (end / k)) + (q - q / k * k)
left_on k turns h q end at due two enough left =
    let n : ℕ = turns - 1 in
    let e : turns ≡ suc n = omega (arith, enough, due, half end k two) in
    omega (
      arith,
      left,
      ap (λ t. length (in_time k t h q end)) e,
      ap (λ (l : List NodeId). length l) (due_in_time k n h q end due),
      length-append (in_time k n (suc h) (q / k) (end / k)) (map (node_at h) (numbers (q / k * k + 1) (q - q / k * k))),
      here_long k h q,
    )

-- the older nodes of the row are among those that are left
pub older_left : (k m after q end at steps old out : ℕ) → 2 ≤ k → q / k < end / k → CountsSoFar k m after q end at steps old out → q - q / k * k ≤ at
older_left k m after q end at steps old out two due c = omega (arith, left_on k c.turns c.h q end at due two c.enough c.left)

same_test : (b : ℕ) → one_if_first (b + 1) ≡ cond {A = ℕ} (b == 0) 1 0
same_test zero = refl
same_test (suc b) = (λ i. cond {A = ℕ} (ne_eqb (suc b + 1) 1 (λ z. absurd (omega (arith, z))) i) 1 0) ∙ (λ i. cond {A = ℕ} (sym (ne_eqb (suc b) 0 (λ z. absurd (omega (arith, z)))) i) 1 0)

due_long : (k m after h q end : ℕ) → q ≡ m / k ^ h → end ≡ after / k ^ h → q / k < end / k → length (deltas_due_at k m after (suc h)) ≡ deltas_added k (q / k) (end / k)
due_long k m after h q end eq ee due =
    let low : m / k ^ suc h ≡ q / k = higher m k h ∙ ap (λ n. n / k) (sym eq) in
    let high : after / k ^ suc h ≡ end / k = higher after k h ∙ ap (λ n. n / k) (sym ee) in
    let n : ℕ = end / k - q / k - 1 in
    let e : end / k - q / k ≡ suc n = omega (arith, due) in
    (λ i. length (flat_map (deltas_of k (suc h)) (numbers (low i + 1) (high i - low i))))
    ∙ ap (λ c. length (flat_map (deltas_of k (suc h)) (numbers (q / k + 1) c))) e ∙ count_from k (suc h) (q / k) n
    ∙ (λ i. same_test (q / k) i + sym e i * k)

pub counts_next : (k m after q end at steps old out steps2 out2 : ℕ) → 2 ≤ k → q / k < end / k → CountsSoFar k m after q end at steps old out → steps2 + 1 ≡ end / k - q / k → out2 ≡ out + deltas_added k (q / k) (end / k)
    → CountsSoFar k m after (q / k) (end / k) (at - (q - q / k * k)) steps2 old out2
counts_next k m after q end at steps old out steps2 out2 two due c long adds =
    let h : ℕ = c.h in
    record {
      h = suc h;
      turns = c.turns - 1;
      far = omega (arith, c.far, half end k two, c.some);
      enough = omega (arith, c.enough, half end k two, c.some);
      q_is = ap (λ n. n / k) c.q_is ∙ sym (higher m k h);
      end_is = ap (λ n. n / k) c.end_is ∙ sym (higher after k h);
      some = due;
      long = long;
      left = omega (arith, left_on k c.turns h q end at due two c.enough c.left);
      count = omega (arith, adds, c.count, due_long k m after h q end c.q_is c.end_is due, ap (λ (l : List Key). length l) (one_more (deltas_due_at k m after) h), length-append (flat_map (deltas_due_at k m after) (numbers 1 h)) (deltas_due_at k m after (suc h)));
    }

-- all heights
pub all_heights : (k m after q end h : ℕ) → 2 ≤ k → q ≡ m / k ^ h → end ≡ after / k ^ h → h + end ≤ after → end / k ≤ q / k → flat_map (deltas_due_at k m after) (numbers 1 h) ≡ deltas_due k m after
all_heights k m after q end h two eq ee far le =
    let none : flat_map (deltas_due_at k m after) (numbers (1 + h) (after - h)) ≡ [] = none_more k m after two (after - h) (1 + h) (subst (λ b. after / k ^ b ≤ m / k ^ b) (let z : suc h ≡ 1 + h = omega arith in z)
    (subst (λ x. x ≤ m / k ^ suc h) (ap (λ n. n / k) ee ∙ sym (higher after k h)) (subst (λ x. end / k ≤ x) (ap (λ n. n / k) eq ∙ sym (higher m k h)) le))) in
    sym (ap (λ n. flat_map (deltas_due_at k m after) (numbers 1 n)) (let z : after ≡ h + (after - h) = omega (arith, far) in z)
    ∙ ap (flat_map (deltas_due_at k m after)) (numbers_append 1 h (after - h))
    ∙ flat_map-append (deltas_due_at k m after) (numbers 1 h) (numbers (1 + h) (after - h))
    ∙ ap (λ (l : List Key). flat_map (deltas_due_at k m after) (numbers 1 h) ++ l) none ∙ append-nil (flat_map (deltas_due_at k m after) (numbers 1 h)))

pub counts_done : (k m after q end at steps old out : ℕ) → 2 ≤ k → end / k ≤ q / k → CountsSoFar k m after q end at steps old out → out ≡ old + length (deltas_due k m after)
counts_done k m after q end at steps old out two le c = c.count ∙ ap (λ (l : List Key). old + length l) (all_heights k m after q end c.h two c.q_is c.end_is c.far le)

-- those up to the next height are among those that are due
pub counts_within : (k m after q end at steps old out : ℕ) → q / k < end / k → CountsSoFar k m after q end at steps old out → out + deltas_added k (q / k) (end / k) ≤ old + length (deltas_due k m after)
counts_within k m after q end at steps old out due c =
    let f = deltas_due_at k m after in
    let rest : List ℕ = numbers (1 + suc c.h) (after - suc c.h) in
    let all : deltas_due k m after ≡ flat_map f (numbers 1 (suc c.h)) ++ flat_map f rest =
    ap (λ n. flat_map f (numbers 1 n)) (let e : after ≡ suc c.h + (after - suc c.h) = omega (arith, c.far, c.some) in e) ∙ ap (flat_map f) (numbers_append 1 (suc c.h) (after - suc c.h)) ∙ flat_map-append f (numbers 1 (suc c.h)) rest in
    omega (
      arith,
      c.count,
      due_long k m after c.h q end c.q_is c.end_is due,
      ap (λ (l : List Key). length l) (one_more f c.h),
      length-append (flat_map f (numbers 1 c.h)) (f (suc c.h)),
      ap (λ (l : List Key). length l) all,
      length-append (flat_map f (numbers 1 (suc c.h))) (flat_map f rest),
    )

-- ---- what they are, of a history

-- the columns of the record of a key
abbrev pub written_at : Params → List Event → Key → Stored
written_at p events k = stored (record_among p events [] k)

pub record RisesSoFar (p : Params) (before more : List Event) (m after q end : ℕ) (left : List Delta) (base : List Element) (up : Delta) (steps : List Delta) (old now : Segment) : Type 0 where
  pub h : ℕ
  pub turns : ℕ
  pub far : h + end ≤ after
  pub enough : end ≤ turns
  pub q_is : q ≡ m / p.k ^ h
  pub end_is : end ≡ after / p.k ^ h
  pub some : q < end
  pub start : List Element
  pub nodes : AreNewNodes p (before ++ more) h q end start up steps
  pub rest : left ≡ steps_to (map (set_of p before) (in_time p.k turns h q end)) start
  pub base_is : IsTopDue p.k m after → base ≡ get_or (map (set_of p before) (in_time p.k turns h q end)) 0 start
  pub made : now.deltas ≡ old.deltas ++ map (written_at p (before ++ more)) (flat_map (deltas_due_at p.k m after) (numbers 1 h))

pub rises_first : (p : Params) (before more : List Event) (m after : ℕ) (older left : List Delta) (base : List Element) (up : Delta) (steps : List Delta) (old : Segment) → m < after → leaves p (length before) ≡ m
    → AreNewNodes p (before ++ more) 0 m after (last_leaf p before) up steps → AreOlderSteps p before after older → (IsTopDue p.k m after → base ≡ first_in_time p before after) → left ≡ older
    → RisesSoFar p before more m after m after left base up steps old old
rises_first p before more m after older left base up steps old some em nodes are base_is left_is = record {
  h = 0;
  turns = after;
  far = omega arith;
  enough = omega arith;
  q_is = sym (div_one m p.k);
  end_is = sym (div_one after p.k);
  some = some;
  start = last_leaf p before;
  nodes = nodes;
  rest = left_is ∙ are ∙ ap (λ n. steps_to (map (set_of p before) (older_in_time p.k n after)) (last_leaf p before)) em;
  base_is = λ top. base_is top ∙ ap (λ n. get_or (map (set_of p before) (older_in_time p.k n after)) 0 (last_leaf p before)) em;
  made = sym (append-nil old.deltas);
}

pub set_there : (p : Params) (before : List Event) (h j : ℕ) → set_of p before (node_at h j) ≡ set_at p before h j
set_there p before zero j = refl
set_there p before (suc h) j = refl

twice : (p : Params) (before : List Event) (h : ℕ) (ns : List ℕ) → map (set_of p before) (map (node_at h) ns) ≡ map (λ j. set_of p before (node_at h j)) ns
twice p before h [] = refl
twice p before h (n ∷ ns) = ap (λ (l : List (List Element)). set_of p before (node_at h n) ∷ l) (twice p before h ns)

-- the older nodes are as they were
older_as_before : (p : Params) (before more : List Event) (h q : ℕ) → 1 ≤ p.l → 2 ≤ p.k → q ≡ leaves p (length before) / p.k ^ h
    → map (set_of p before) (map (node_at h) (numbers (q / p.k * p.k + 1) (q - q / p.k * p.k))) ≡ older_sets p (before ++ more) h q
older_as_before p before more h q some two eq =
    let k : ℕ = p.k in
    twice p before h (numbers (q / k * k + 1) (q - q / k * k))
    ∙ map_numbers (λ j. set_of p before (node_at h j)) (set_at p (before ++ more) h) (q / k * k + 1) (q - q / k * k)
    (λ c from to. set_there p before h c ∙ sym (stable p before more (omega (arith, some)) h c (omega (arith, from))
    ((le-div_iff_mul-le (pow_some k h two)).0 (let e : c ≤ leaves p (length before) / k ^ h = omega (arith, eq, to, div-mul-le_self q k) in e))))

row_records : (p : Params) (events : List Event) (h q n : ℕ) → 2 ≤ p.k
    → map (record_among p events []) (flat_map (deltas_of p.k (suc h)) (numbers (q + 1) (suc n))) ≡ map (λ (d : Delta). Exact d) (tops_and_downs p events h q (q + suc n))
row_records p events h zero n two =
    first_row p events h n two ∙ (λ i. Exact (between [] (set_at p events (suc h) 1)) ∷ map (λ (d : Delta). Exact d) (flat_map (downs_of p events h) (numbers (0 + 1) (let e : suc n ≡ 0 + suc n - 0 = omega arith in e i))))
row_records p events h (suc q) n two =
    other_row p events h (suc q) (suc n) (omega arith) two
    ∙ (λ i. map (λ (d : Delta). Exact d) (cond (sym (ne_eqb (suc q) 0 (λ z. absurd (omega (arith, z)))) i) (between [] (set_at p events (suc h) 1) ∷ []) [] ++ flat_map (downs_of p events h) (numbers (suc q + 1) (let e : suc n ≡ suc q + suc n - suc q = omega arith in e i))))

module _ (p : Params) (before more : List Event) (m after q end : ℕ) (left : List Delta) (base : List Element) (up : Delta) (steps : List Delta) (old now : Segment)
    (some : 1 ≤ p.l) (em : leaves p (length before) ≡ m) (two : 2 ≤ p.k) (due : q / p.k < end / p.k) (c : RisesSoFar p before more m after q end left base up steps old now) where
  abbrev k : ℕ
  k = p.k

  abbrev wide : ℕ
  wide = q - q / k * k

  -- the older nodes of this height, and those of the heights above
  abbrev here : List (List Element)
  here = older_sets p (before ++ more) c.h q

  abbrev above : List NodeId
  above = in_time k (c.turns - 1) (suc c.h) (q / k) (end / k)

  abbrev start : List Element
  start = start_above p (before ++ more) c.h q c.start

  nodes_parts : map (set_of p before) (in_time k c.turns c.h q end) ≡ map (set_of p before) above ++ here
  nodes_parts =
      let n : ℕ = c.turns - 1 in
      let e : c.turns ≡ suc n = omega (arith, c.enough, half end k two, due) in
      ap (λ t. map (set_of p before) (in_time k t c.h q end)) e ∙ ap (map (set_of p before)) (due_in_time k n c.h q end due)
      ∙ map-append (set_of p before) above (map (node_at c.h) (numbers (q / k * k + 1) wide))
      ∙ ap (λ (l : List (List Element)). map (set_of p before) above ++ l) (older_as_before p before more c.h q some two (c.q_is ∙ ap (λ n. n / k ^ c.h) (sym em)))

  steps_parts : left ≡ steps_to (map (set_of p before) above) start ++ steps_to here c.start
  steps_parts = c.rest ∙ ap (λ (l : List (List Element)). steps_to l c.start) nodes_parts ∙ steps_of_both (map (set_of p before) above) here c.start

  here_wide : length (steps_to here c.start) ≡ wide
  here_wide = steps_long here c.start ∙ length-map (numbers (q / k * k + 1) wide) (set_at p (before ++ more) c.h) ∙ numbers_length (q / k * k + 1) wide

  above_wide : length (steps_to (map (set_of p before) above) start) ≡ length left - wide
  above_wide = omega (arith, ap (λ (l : List Delta). length l) steps_parts, length-append (steps_to (map (set_of p before) above) start) (steps_to here c.start), here_wide)

  -- the steps that are taken for the row
  pub steps_here : AreStepsTo p (before ++ more) c.h q c.start (drop (length left - wide) left)
  steps_here = ap (drop (length left - wide)) steps_parts ∙ drop_at (steps_to (map (set_of p before) above) start) (steps_to here c.start) (length left - wide) above_wide

  -- and those that are left
  steps_above : take (length left - wide) left ≡ steps_to (map (set_of p before) above) start
  steps_above = ap (take (length left - wide)) steps_parts ∙ take_at (steps_to (map (set_of p before) above) start) (steps_to here c.start) (length left - wide) above_wide

  base_above : IsTopDue k m after → base ≡ get_or (map (set_of p before) above) 0 start
  base_above top = c.base_is top ∙ ap (λ (l : List (List Element)). get_or l 0 c.start) nodes_parts ∙ first_of_both (map (set_of p before) above) here c.start

  low : m / k ^ suc c.h ≡ q / k
  low = higher m k c.h ∙ ap (λ n. n / k) (sym c.q_is)

  high : after / k ^ suc c.h ≡ end / k
  high = higher after k c.h ∙ ap (λ n. n / k) (sym c.end_is)

  -- where the first node of the next height is that of its height, the base is where it starts
  pub base_here : q / k ≡ 0 → base ≡ start
  base_here none =
      base_above (top_at k m after c.h two (low ∙ none) (omega (arith, high, due)))
      ∙ ap (λ (l : List NodeId). get_or (map (set_of p before) l) 0 start) (none_above k (c.turns - 1) (suc c.h) (q / k) (end / k) none)

  pub rises_next : (up2 : Delta) (steps2 : List Delta) (new : Segment) → Rises p (before ++ more) c.h (q / k) (end / k) start up2 steps2 now new
      → RisesSoFar p before more m after (q / k) (end / k) (take (length left - wide) left) base up2 steps2 old new
  rises_next up2 steps2 new r =
      let h : ℕ = c.h in
      let all : List Event = before ++ more in
      let d : ℕ = end / k - q / k - 1 in
      let some_due : end / k - q / k ≡ suc d = omega (arith, due) in
      let row : map stored_delta (tops_and_downs p all h (q / k) (end / k)) ≡ map (written_at p all) (deltas_due_at k m after (suc h)) =
      ap (λ c. map stored_delta (tops_and_downs p all h (q / k) c)) (let z : end / k ≡ q / k + suc d = omega (arith, some_due, due) in z)
      ∙ written p all (flat_map (deltas_of k (suc h)) (numbers (q / k + 1) (suc d))) (tops_and_downs p all h (q / k) (q / k + suc d)) (row_records p all h (q / k) d two)
      ∙ (λ i. map (written_at p all) (flat_map (deltas_of k (suc h)) (numbers (q / k + 1) (sym some_due i))))
      ∙ (λ i. map (written_at p all) (flat_map (deltas_of k (suc h)) (numbers (sym low i + 1) (sym high i - sym low i)))) in
      let before_it : List Key = flat_map (deltas_due_at k m after) (numbers 1 h) in
      record {
        h = suc h;
        turns = c.turns - 1;
        far = omega (arith, c.far, half end k two, c.some);
        enough = omega (arith, c.enough, half end k two, c.some);
        q_is = sym low;
        end_is = sym high;
        some = due;
        start = start;
        nodes = r.nodes;
        rest = steps_above;
        base_is = base_above;
        made = r.adds ∙ (λ i. c.made i ++ row i) ∙ append_assoc old.deltas (map (written_at p all) before_it) (map (written_at p all) (deltas_due_at k m after (suc h)))
            ∙ ap (λ (l : List Stored). old.deltas ++ l) (sym (map-append (written_at p all) before_it (deltas_due_at k m after (suc h))) ∙ ap (map (written_at p all)) (sym (one_more (deltas_due_at k m after) h)));
      }

pub rises_done : (p : Params) (before more : List Event) (m after q end : ℕ) (left : List Delta) (base : List Element) (up : Delta) (steps : List Delta) (old now : Segment) → 2 ≤ p.k → end / p.k ≤ q / p.k
    → RisesSoFar p before more m after q end left base up steps old now → now.deltas ≡ old.deltas ++ map (written_at p (before ++ more)) (deltas_due p.k m after)
rises_done p before more m after q end left base up steps old now two le c =
    c.made ∙ ap (λ (l : List Key). old.deltas ++ map (written_at p (before ++ more)) l) (all_heights p.k m after q end c.h two c.q_is c.end_is c.far le)
