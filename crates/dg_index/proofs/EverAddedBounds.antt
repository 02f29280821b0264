-- What an index holds after one more segment, and how large the sets of a history can be.
use Rattle.std.proofs.Common.{◌≡◌, ℕ, zero, suc, ◌+◌, ◌-◌, ◌*◌, ◌/◌, ◌<◌, ◌≤◌, Bool, true, false, cond, not, ◌||◌, List, [], ◌∷◌, ◌++◌, length, map, take, Option, Some, None, refl, sym, ap, ◌∙◌, arith, append_assoc, append-nil, length-append, length-drop, add-mul, div-lt_iff_lt-mul, ⊎_elim}
use Rattle.std.specs.Prelude.{IsTrue}
use Rattle.std.specs.List.{list_any}
use Rattle.std.proofs.lemmas.Bool.{and_parts, false≢true, or_cases, or_left, or_right}
use Rattle.std.proofs.lemmas.List.{map-append, length-map}
use Rattle.std.proofs.lemmas.List.Sums.{sum_by-cons}
use Rattle.dg_graph.specs.declared.element.Element.{Element}
use Rattle.dg_graph.specs.declared.event.Event.{Event}
use Rattle.dg_history.specs.declared.node.Key.{Key}
use Rattle.dg_history.specs.declared.node.Key.TheVariants as key
use Rattle.dg_history.specs.declared.params.Params.{Params}
use Rattle.dg_graph.specs.DifferentialFunction.{in_combined, all_of}
use Rattle.dg_graph.specs.Effect.{forwards, removed_by, added_by}
use Rattle.dg_graph.specs.Elements.{IsSet, has, same, before, element_cmp, put, with_one, without}
use Rattle.dg_history.specs.History.{Batch}
use Rattle.dg_graph.specs.Replay.{replay_from}
use Rattle.dg_graph.proofs.Sets.{has-put, has-take_out, has-filter, same_itself, element_exact, lacks_below, IsBelowFirst-trans, before_from_Greater}
use Rattle.dg_index.specs.Hierarchy.{numbers, leaves, children, set_at}
use Rattle.dg_index.specs.IndexRecords.{lists_due, deltas_due, piece_of}
use Rattle.dg_index.specs.declared.entry.BatchEntry.{BatchEntry}
use Rattle.dg_index.specs.declared.entry.Row.{Row}
use Rattle.dg_index.specs.declared.entry.Entry.{Entry}
use Rattle.dg_index.specs.OpenedIndex.{Opening, Opened, Directory, laid, total, rows_in, keys_next, event_total, list_count, delta_count, with_directory}
use Rattle.dg_index.specs.EverAdded.{ever}
use Rattle.dg_index.specs.IndexKeys.{keys_among, AreKept}
use Rattle.dg_index.proofs.HierarchyCounts.{numbers_length}
use Rattle.dg_graph.proofs.DifferentialFunctionDeltas.{has-all_of}
use Rattle.dg_graph.proofs.ExactEvents.{IsSet-with_one}
use Rattle.dg_index.proofs.HierarchySteps.{IsSet-node}
use Rattle.std.specs.declared.cmp.Ordering.{Ordering}
use Rattle.std.specs.declared.cmp.Ordering.TheVariants.{Less, Equal, Greater}
use Rattle.std.specs.Ordering.{is_lt, is_eq}

-- ---- the keys of the records

pub laid_keys : (offset : ℕ) (keys : List Key) (rows : List Row) → length keys ≡ length rows → map (λ (r : Key × Entry). r.0) (laid offset keys rows) ≡ keys
laid_keys offset [] rows e = refl
laid_keys offset (k ∷ keys) [] e = absurd (omega (arith, e))
laid_keys offset (k ∷ keys) (r ∷ rows) e = ap (λ (l : List Key). k ∷ l) (laid_keys (offset + total r.lengths) keys rows (omega (arith, e)))

keys_of_one : Params → ℕ → ℕ → ℕ → List Key
keys_of_one p number count events = lists_due p count (count + events) ++ (deltas_due p.k (leaves p count) (leaves p (count + events)) ++ key.Piece number ∷ [])

pub keys_more : (p : Params) (number count : ℕ) (batches : List BatchEntry) (b : BatchEntry)
    → keys_among p number count (batches ++ b ∷ []) ≡ keys_among p number count batches ++ (lists_due p (count + event_total batches) (count + event_total batches + b.events) ++ (deltas_due p.k (leaves p (count + event_total batches)) (leaves p (count + event_total batches + b.events)) ++ key.Piece (number + length batches) ∷ []))
unfolding keys_of_one
keys_more p number count [] b = append-nil (keys_of_one p number count b.events) ∙ (λ i. keys_of_one p (num i) (cnt i) b.events)
  where
    num : number ≡ number + 0
    num = omega arith

    cnt : count ≡ count + 0
    cnt = omega arith
keys_more p number count (c ∷ batches) b =
    ap (λ (l : List Key). keys_of_one p number count c.events ++ l) (keys_more p (number + 1) (count + c.events) batches b ∙ (λ i. keys_among p (number + 1) (count + c.events) batches ++ keys_of_one p (num i) (cnt i) b.events))
    ∙ sym (append_assoc (keys_of_one p number count c.events) (keys_among p (number + 1) (count + c.events) batches) (keys_of_one p (number + length (c ∷ batches)) (count + event_total (c ∷ batches)) b.events))
  where
    num : number + 1 + length batches ≡ number + length (c ∷ batches)
    num = omega arith

    cnt : count + c.events + event_total batches ≡ count + event_total (c ∷ batches)
    cnt = omega (arith, sum_by-cons (λ (b : BatchEntry). b.events) c batches)

-- the records of an index with one batch more, for each of whose keys there is a row, are those of its batches
pub kept_laid : (o : Opening) (b : BatchEntry) (rows : List Row) (offset used : ℕ) → AreKept o → length (keys_next o b.events) ≡ length rows
    → AreKept (record { params = o.params; form = o.form; batches = o.batches ++ b ∷ []; records = o.records ++ laid offset (keys_next o b.events) rows; used = used })
unfolding keys_of_one
kept_laid o b rows offset used kept long =
    let n : ℕ = event_total o.batches in
    let keys : List Key = keys_next o b.events in
    map-append (λ (r : Key × Entry). r.0) o.records (laid offset keys rows) ∙ (λ i. kept i ++ laid_keys offset keys rows long i)
    ∙ (λ i. keys_among o.params 0 0 o.batches ++ keys_of_one o.params (length o.batches) (z i) b.events)
    ∙ sym (keys_more o.params 0 0 o.batches b ∙ (λ i. keys_among o.params 0 0 o.batches ++ keys_of_one o.params (w i) (0 + n) b.events))
  where
    z : event_total o.batches ≡ 0 + event_total o.batches
    z = omega arith

    w : 0 + length o.batches ≡ length o.batches
    w = omega arith

-- the records of an index with one segment more are those of its batches
pub kept_more : (x : Opened) (d : Directory) (offset used : ℕ) → AreKept x.index → length d.lists ≡ list_count x.index d.batch.events → length d.deltas ≡ delta_count x.index d.batch.events → AreKept (with_directory x d offset used).index
unfolding keys_of_one
kept_more x d offset used kept lists deltas =
    let o : Opening = x.index in
    let n : ℕ = event_total o.batches in
    let keys : List Key = keys_next o d.batch.events in
    let m : ℕ = leaves o.params n in
    let after : ℕ = leaves o.params (n + d.batch.events) in
    let due : List Key = deltas_due o.params.k m after in
    let long : length keys ≡ length (rows_in d) =
    omega (arith, length-append (lists_due o.params n (n + d.batch.events)) (due ++ key.Piece (length o.batches) ∷ []), length-append due (key.Piece (length o.batches) ∷ []), length-append d.lists (d.deltas ++ d.piece ∷ []), length-append d.deltas (d.piece ∷ []), length-map (numbers m (after - m)) (λ i. key.List i), numbers_length m (after - m), lists, deltas) in
    map-append (λ (r : Key × Entry). r.0) o.records (laid offset keys (rows_in d)) ∙ (λ i. kept i ++ laid_keys offset keys (rows_in d) long i)
    ∙ (λ i. keys_among o.params 0 0 o.batches ++ keys_of_one o.params (length o.batches) (z i) d.batch.events)
    ∙ sym (keys_more o.params 0 0 o.batches d.batch ∙ (λ i. keys_among o.params 0 0 o.batches ++ keys_of_one o.params (w i) (0 + n) d.batch.events))
  where
    z : event_total x.index.batches ≡ 0 + event_total x.index.batches
    z = omega arith

    w : 0 + length x.index.batches ≡ length x.index.batches
    w = omega arith

-- ---- a piece is shorter than a list

pub piece_short : (p : Params) (before : List Event) (b : Batch) → 0 < p.l → length (piece_of p before b) < p.l
piece_short p before b pos =
    let n : ℕ = length before + length b.events in
    let m : ℕ = leaves p n in
    let over : n < (m + 1) * p.l = (div-lt_iff_lt-mul pos).0 (let lt : n / p.l < m + 1 = omega arith in lt) in
    omega (arith, over, add-mul m 1 p.l, length-drop (m * p.l - length before) b.events)

-- ---- the sets of a history are small

put_length : (x : Element) (set : List Element) → length (put x set) ≤ length set + 1
put_length x [] = omega arith
put_length x (y ∷ set) = by (before x y) (same x y) (put_length x set)
  where
    by : (a b : Bool) → length (put x set) ≤ length set + 1 → length (cond a (x ∷ y ∷ set) (cond b (y ∷ set) (y ∷ put x set))) ≤ length (y ∷ set) + 1
    by true b le = omega arith
    by false true le = omega arith
    by false false le = omega (arith, le)

with_length : (set : List Element) (x : Option Element) → length (with_one set x) ≤ length set + 1
with_length set None = omega arith
with_length set (Some x) = put_length x set

pub ever_few : (events : List Event) → length (ever events) ≤ length events
ever_few [] = omega arith
ever_few (e ∷ events) = omega (arith, with_length (ever events) (added_by e.body), ever_few events)

IsSet-ever : (events : List Event) → IsSet (ever events)
IsSet-ever [] = tt
IsSet-ever (e ∷ events) = IsSet-with_one (ever events) (added_by e.body) (IsSet-ever events)

in_without : (set : List Element) (o : Option Element) (q : Element) → has (without set o) q ≡ true → has set q ≡ true
in_without set None q e = e
in_without set (Some x) q e = (and_parts (not (same q x)) (has set q) (sym (has-take_out x set q) ∙ e)).1

-- an element of a replay was there before or was added
pub replay_within : (set : List Element) (events : List Event) (q : Element) → has (replay_from set events) q ≡ true → (has set q || has (ever events) q) ≡ true
replay_within set [] q e = or_left (has set q) false e
replay_within set (v ∷ events) q e =
    ⊎_elim
    (λ (in_next : has (forwards set v) q ≡ true). by (added_by v.body) in_next)
    (λ (later : has (ever events) q ≡ true). or_right (has set q) (has (ever (v ∷ events)) q) (more (added_by v.body) later))
    (or_cases (has (forwards set v) q) (has (ever events) q) (replay_within (forwards set v) events q e))
  where
    more : (o : Option Element) → has (ever events) q ≡ true → has (with_one (ever events) o) q ≡ true
    more None later = later
    more (Some x) later = has-put x (ever events) q ∙ or_right (same q x) (has (ever events) q) later

    by : (o : Option Element) → has (with_one (without set (removed_by v.body)) o) q ≡ true → (has set q || has (with_one (ever events) o) q) ≡ true
    by None there = or_left (has set q) (has (ever events) q) (in_without set (removed_by v.body) q there)
    by (Some x) there =
        ⊎_elim (λ (one : same q x ≡ true). or_right (has set q) (has (put x (ever events)) q) (has-put x (ever events) q ∙ or_left (same q x) (has (ever events) q) one))
        (λ (old : has (without set (removed_by v.body)) q ≡ true). or_left (has set q) (has (put x (ever events)) q) (in_without set (removed_by v.body) q old))
        (or_cases (same q x) (has (without set (removed_by v.body)) q) (sym (has-put x (without set (removed_by v.body)) q) ∙ there))

ever_take : (n : ℕ) (events : List Event) (q : Element) → has (ever (take n events)) q ≡ true → has (ever events) q ≡ true
ever_take zero events q e = absurd (false≢true e)
ever_take (suc n) [] q e = e
ever_take (suc n) (v ∷ events) q e = by (added_by v.body) (λ f. ever_take n events q f) e
  where
    by : (o : Option Element) → (has (ever (take n events)) q ≡ true → has (ever events) q ≡ true) → has (with_one (ever (take n events)) o) q ≡ true → has (with_one (ever events) o) q ≡ true
    by None more e = more e
    by (Some x) more e =
        has-put x (ever events) q ∙ ⊎_elim (λ (one : same q x ≡ true). or_left (same q x) (has (ever events) q) one) (λ (old : has (ever (take n events)) q ≡ true). or_right (same q x) (has (ever events) q) (more old))
        (or_cases (same q x) (has (ever (take n events)) q) (sym (has-put x (ever (take n events)) q) ∙ e))

any_set : (f : ℕ → List Element) (q : Element) (all : List Element) → ((n : ℕ) → has (f n) q ≡ true → has all q ≡ true) → (ns : List ℕ) → list_any (λ (set : List Element). has set q) (map f ns) ≡ true → has all q ≡ true
any_set f q all each [] e = absurd (false≢true e)
any_set f q all each (n ∷ ns) e =
    ⊎_elim (λ (here : has (f n) q ≡ true). each n here) (λ (later : list_any (λ (set : List Element). has set q) (map f ns) ≡ true). any_set f q all each ns later) (or_cases (has (f n) q) _ e)

-- each element of a node was added by some event
pub node_within : (p : Params) (events : List Event) (h j : ℕ) (q : Element) → has (set_at p events h j) q ≡ true → has (ever events) q ≡ true
node_within p events zero j q e = ever_take (j * p.l) events q (replay_within [] (take (j * p.l) events) q e)
node_within p events (suc h) j q e =
    let sets : List (List Element) = map (set_at p events h) (children p.k j) in
    any_set (set_at p events h) q (ever events) (λ n there. node_within p events h n q there) (children p.k j)
    (sym (has-all_of sets q) ∙ (and_parts (in_combined p.function sets q) (has (all_of sets) q) (sym (has-filter (in_combined p.function sets) (all_of sets) q) ∙ e)).1)

-- a set within another has no more elements
pub fewer : (a b : List Element) → IsSet a → IsSet b → ((q : Element) → has a q ≡ true → has b q ≡ true) → length a ≤ length b
fewer [] b sa sb sub = omega arith
fewer (x ∷ xs) [] sa sb sub = absurd (false≢true (sub x (or_left (same x x) (has xs x) (same_itself x))))
fewer (x ∷ xs) (y ∷ ys) sa sb sub = by (same x y) refl (fewer xs ys sa.1 sb.1) (fewer (x ∷ xs) ys sa sb.1)
  where
    by : (t : Bool) → same x y ≡ t → (((q : Element) → has xs q ≡ true → has ys q ≡ true) → length xs ≤ length ys) → (((q : Element) → has (x ∷ xs) q ≡ true → has ys q ≡ true) → length (x ∷ xs) ≤ length ys) → length (x ∷ xs) ≤ length (y ∷ ys)
    by true e both_on skip =
        let is : x ≡ y = element_exact x y e in
        let le : length xs ≤ length ys = both_on (λ q there. ⊎_elim
        (λ (one : same q y ≡ true). absurd (false≢true (sym (lacks_below x xs sa.0 sa.1) ∙ ap (has xs) (is ∙ sym (element_exact q y one)) ∙ there)))
        (λ (old : has ys q ≡ true). old) (or_cases (same q y) (has ys q) (sub q (or_right (same q x) (has xs q) there)))) in
        omega (arith, le)
    by false e both_on skip =
        let le : length (x ∷ xs) ≤ length ys = skip (λ q there. ⊎_elim (λ (one : same q y ≡ true). absurd (false≢true (sym (lacks_y (element_cmp x y) refl) ∙ ap (has (x ∷ xs)) (sym (element_exact q y one)) ∙ there))) (λ (old : has ys q ≡ true). old) (or_cases (same q y) (has ys q) (sub q there))) in
        omega (arith, le)
      where
        x_in : has ys x ≡ true
        x_in = ⊎_elim (λ (one : same x y ≡ true). absurd (false≢true (sym e ∙ one))) (λ (old : has ys x ≡ true). old) (or_cases (same x y) (has ys x) (sub x (or_left (same x x) (has xs x) (same_itself x))))

        lacks_y : (o : Ordering) → element_cmp x y ≡ o → has (x ∷ xs) y ≡ false
        lacks_y Less is =
            let below : IsTrue (before x y) = ap is_lt is in
            absurd (false≢true (sym (lacks_below x ys (IsBelowFirst-trans x y ys below sb.0) sb.1) ∙ x_in))
        lacks_y Equal is = absurd (false≢true (sym e ∙ ap is_eq is))
        lacks_y Greater is = lacks_below y (x ∷ xs) (before_from_Greater x y is) sa

-- no node of a history has more elements than it has events
pub node_few : (p : Params) (events : List Event) (h j : ℕ) → length (set_at p events h j) ≤ length events
node_few p events h j =
    let few = fewer (set_at p events h j) (ever events) (IsSet-node p events h j) (IsSet-ever events) (λ q there. node_within p events h j q there) in
    omega (arith, few, ever_few events)
