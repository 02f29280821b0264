-- The node from which the graph as of an instant is reached is a node of the graph of the index.
use Rattle.std.proofs.Common.{◌≡◌, ℕ, zero, suc, ◌+◌, ◌-◌, ◌*◌, ◌/◌, ◌^◌, ◌≤◌, ◌<◌, Bool, true, false, cond, max, List as ListOf, [], ◌∷◌, ◌++◌, Option, Some, None, length, map, refl, sym, ap, subst, ◌∙◌, arith}
use Rattle.std.specs.Prelude.{◌==◌, ◌&&◌, nat_le, unwrap_or}
use Rattle.std.specs.List.{Contains}
use Rattle.std.specs.Map.{keys_of}
use Rattle.std.proofs.lemmas.Bool.{false≢true}
use Rattle.std.proofs.lemmas.List.Elements.{Contains-append_left, Contains-append_right}
use Rattle.std.proofs.lemmas.List.Sums.{sum_by-cons}
use borrow.Author.Tests.{lt-ltb}
use Rattle.dg_graph.specs.declared.element.Columns.{Columns}
use Rattle.dg_graph.specs.declared.event.Event.{Event}
use Rattle.dg_history.specs.declared.node.Key.{Key}
use Rattle.dg_history.specs.declared.node.Key.TheVariants as key
use Rattle.dg_history.specs.declared.node.NodeId.{NodeId}
use Rattle.dg_history.specs.declared.node.NodeId.TheVariants.{Root, Now, Recent, Leaf, List}
use Rattle.dg_history.specs.declared.params.Params.{Params}
use Rattle.dg_history.specs.History.{are_parameters, in_range}
use Rattle.dg_index.specs.declared.entry.BatchEntry.{BatchEntry}
use Rattle.dg_index.specs.declared.entry.Ends.{Ends}
use Rattle.dg_index.specs.declared.entry.Entry.{Entry}
use Rattle.dg_index.specs.Hierarchy.{children, leaves, numbers}
use Rattle.dg_index.specs.IndexKeys.{AreKept, keys_among}
use Rattle.dg_index.specs.IndexRecords.{deltas_due, deltas_due_at, deltas_of, inner_due, lists_due}
use Rattle.dg_index.specs.OpenedIndex.{Opening, event_total, span_in}
use Rattle.dg_index.proofs.IndexRecordColumns.{Each, each_append, each_flat, each_map, each_number}
use Rattle.dg_index.proofs.OpenedIndexHistories.{large_parameters}
use Rattle.dg_index.proofs.HierarchyStability.{leaves_more}
use Rattle.dg_plan.specs.IndexGraph.{inner_nodes}
use Rattle.dg_plan.proofs.IndexGraphReachability.{contains_mapped, contains_number}
use Rattle.dg_planner.specs.HistoryLaws.{first_time_in}
use Rattle.dg_retrieval.specs.KeptGraph.{kept_ground, kept_nodes}
use Rattle.dg_catalogue.specs.Entries.{Holdings}
use Rattle.dg_catalogue.specs.Held.{ends_of}
use Rattle.dg_catalogue.specs.Points.{after_all_begun, after_begun, begun_by, end_by, has_begun, has_come, point_in, point_in_lists, point_of}
use Rattle.dg_ask.specs.HeldIndex.{catalogue_of, ends_pair, point_over, span_held}

-- what holds of each index, as far as it is needed here
pub record IsSoundIndex (o : Opening) : Type 0 where
  pub parameters : are_parameters o.params.l o.params.k ≡ true
  pub kept : AreKept o
  pub few : length o.batches ≤ event_total o.batches

-- ---- the lists among the records

-- the number of a list is below this
abbrev IsBelow : ℕ → Key → Type 0
IsBelow m (key.List i) = i < m
IsBelow m (key.Piece s) = Unit {0}
IsBelow m (key.Top h) = Unit {0}
IsBelow m (key.Down h c) = Unit {0}

below_deltas : (most k m after : ℕ) → Each (IsBelow most) (deltas_due k m after)
below_deltas most k m after = each_flat (IsBelow most) (deltas_due_at k m after) (numbers 1 after) (each_number (λ h. Each (IsBelow most) (deltas_due_at k m after h)) 1 after (λ h from to. at h))
  where
    top : (h : ℕ) (b : Bool) → Each (IsBelow most) (cond b (key.Top h ∷ []) [])
    top h true = (tt, tt)
    top h false = tt

    node : (h j : ℕ) → Each (IsBelow most) (deltas_of k h j)
    node h j =
        each_append (IsBelow most) (cond (j == 1) (key.Top h ∷ []) []) (map (λ c. key.Down h c) (children k j)) (top h (j == 1))
        (each_map (IsBelow most) (λ c. key.Down h c) (children k j) (each_number (λ c. IsBelow most (key.Down h c)) ((j - 1) * k + 1) k (λ c from to. tt)))

    at : (h : ℕ) → Each (IsBelow most) (deltas_due_at k m after h)
    at h = each_flat (IsBelow most) (deltas_of k h) (inner_due k m after h) (each_number (λ j. Each (IsBelow most) (deltas_of k h j)) (m / k ^ h + 1) (after / k ^ h - m / k ^ h) (λ j low high. node h j))

-- the lists of batches behind so many events
below_among : (p : Params) → 0 < p.l → (most number count : ℕ) (batches : ListOf BatchEntry) → leaves p (count + event_total batches) ≤ most → Each (IsBelow most) (keys_among p number count batches)
below_among p pos most number count [] le = tt
below_among p pos most number count (b ∷ batches) le =
    let m : ℕ = leaves p count in
    let after : ℕ = leaves p (count + b.events) in
    let lists : ListOf Key = lists_due p count (count + b.events) in
    let up : m ≤ after = leaves_more p.l count b.events pos in
    let one : event_total (b ∷ batches) ≡ b.events + event_total batches = sum_by-cons (λ (x : BatchEntry). x.events) b batches in
    let whole : count + b.events + event_total batches ≡ count + event_total (b ∷ batches) = omega (arith, one) in
    let within : leaves p (count + b.events + event_total batches) ≤ most = subst (λ n. leaves p n ≤ most) (sym whole) le in
    let on : after ≤ leaves p (count + b.events + event_total batches) = leaves_more p.l (count + b.events) (event_total batches) pos in
    each_append (IsBelow most) (lists ++ (deltas_due p.k m after ++ key.Piece number ∷ [])) (keys_among p (number + 1) (count + b.events) batches)
    (each_append (IsBelow most) lists (deltas_due p.k m after ++ key.Piece number ∷ [])
    (each_map (IsBelow most) (λ i. key.List i) (numbers m (after - m)) (each_number (λ i. IsBelow most (key.List i)) m (after - m) (λ i low high. omega (arith, low, high, up, on, within))))
    (each_append (IsBelow most) (deltas_due p.k m after) (key.Piece number ∷ []) (below_deltas most p.k m after) (tt, tt)))
    (below_among p pos most (number + 1) (count + b.events) batches within)

-- those of an index
below_records : (o : Opening) → 0 < o.params.l → AreKept o → Each (IsBelow (leaves o.params (event_total o.batches))) (keys_of o.records)
below_records o pos kept =
    subst (Each (IsBelow (leaves o.params (event_total o.batches)))) (sym kept)
    (below_among o.params pos (leaves o.params (event_total o.batches)) 0 0 o.batches (let e : 0 + event_total o.batches ≡ event_total o.batches = omega arith in subst (λ n. leaves o.params n ≤ leaves o.params (event_total o.batches)) (sym e) (omega arith)))

-- so no more lists have begun than there are
if_begun : (b : Bool) (i m : ℕ) → i < m → cond b (i + 1) 0 ≤ m
if_begun true i m lt = omega (arith, lt)
if_begun false i m lt = omega arith

one_begun : (c : Holdings) (t m : ℕ) (k : Key) → IsBelow m k → after_begun c t k ≤ m
one_begun c t m (key.List i) lt = if_begun (has_begun c t i) i m lt
one_begun c t m (key.Piece s) lt = omega arith
one_begun c t m (key.Top h) lt = omega arith
one_begun c t m (key.Down h child) lt = omega arith

few_begun : (c : Holdings) (t m : ℕ) (keys : ListOf Key) → Each (IsBelow m) keys → after_all_begun c t keys ≤ m
few_begun c t m [] all = omega arith
few_begun c t m (k ∷ keys) all = omega (arith, one_begun c t m k all.0, few_begun c t m keys all.1)

-- ---- the nodes

module _ (o : Opening) (n : ℕ) (cols : Columns) (some : 0 < n) where
  abbrev leaves_here : ℕ
  leaves_here = n / o.params.l

  abbrev others : ListOf NodeId
  others = map (λ j. Leaf j) (numbers 1 leaves_here) ++ (map (λ i. List i) (numbers 0 leaves_here) ++ inner_nodes (kept_ground o n cols []))

  nodes_are : kept_nodes o n cols ≡ Root ∷ Now ∷ Recent ∷ others
  nodes_are = ap (λ b. Root ∷ (cond b (Now ∷ Recent ∷ []) [] ++ others)) (lt-ltb 0 n some)

  later : (x : NodeId) → Contains others x → Contains (kept_nodes o n cols) x
  later x c = subst (λ ns. Contains ns x) (sym nodes_are) (suc (suc (suc c.0)), (let h = c.1 in omega arith), c.2)

  in_root : Contains (kept_nodes o n cols) Root
  in_root = subst (λ ns. Contains ns Root) (sym nodes_are) (0, omega arith, refl)

  in_now : Contains (kept_nodes o n cols) Now
  in_now = subst (λ ns. Contains ns Now) (sym nodes_are) (1, omega arith, refl)

  in_recent : Contains (kept_nodes o n cols) Recent
  in_recent = subst (λ ns. Contains ns Recent) (sym nodes_are) (2, omega arith, refl)

  in_leaf : (j : ℕ) → 1 ≤ j → j ≤ leaves_here → Contains (kept_nodes o n cols) (Leaf j)
  in_leaf j low high =
      later (Leaf j)
      (Contains-append_left (map (λ j. Leaf j) (numbers 1 leaves_here)) (map (λ i. List i) (numbers 0 leaves_here) ++ inner_nodes (kept_ground o n cols [])) (Leaf j)
      (contains_mapped (λ j. Leaf j) (numbers 1 leaves_here) j
      (subst (Contains (numbers 1 leaves_here)) (let h : 1 + (j - 1) ≡ j = omega arith in h) (contains_number 1 leaves_here (j - 1) (omega arith)))))

  in_list : (i : ℕ) → i < leaves_here → Contains (kept_nodes o n cols) (List i)
  in_list i within =
      later (List i)
      (Contains-append_right (map (λ j. Leaf j) (numbers 1 leaves_here)) (map (λ i. List i) (numbers 0 leaves_here) ++ inner_nodes (kept_ground o n cols [])) (List i)
      (Contains-append_left (map (λ i. List i) (numbers 0 leaves_here)) (inner_nodes (kept_ground o n cols [])) (List i)
      (contains_mapped (λ i. List i) (numbers 0 leaves_here) i
      (subst (Contains (numbers 0 leaves_here)) (let h : 0 + i ≡ i = omega arith in h) (contains_number 0 leaves_here i within)))))

  -- the node in the lists, where so many have begun
  in_lists : (c : Holdings) (t begun : ℕ) → begun ≤ leaves_here → Contains (kept_nodes o n cols) (point_in_lists c t begun)
  in_lists c t zero le = in_root
  in_lists c t (suc i) le = by (end_by t (ends_of c i))
    where
      by : (b : Bool) → Contains (kept_nodes o n cols) (cond b (Leaf (i + 1)) (List i))
      by true = in_leaf (i + 1) (omega arith) (omega (arith, le))
      by false = in_list i (omega (arith, le))

-- ---- the point

some_events : (batches : ListOf BatchEntry) (span : Ends) → span_in batches ≡ Some span → length batches ≤ event_total batches → 0 < event_total batches
some_events [] span is few = cc
some_events (b ∷ batches) span is few = omega (arith, few)

-- the point of an instant of the history is a node of the graph
pub point_there : (o : Opening) (recent : ListOf Event) (t : ℕ) (cols : Columns) → IsSoundIndex o → in_range (span_held (Some o)) t ≡ true → Contains (kept_nodes o (event_total o.batches) cols) (point_over o recent t)
point_there o recent t cols sound inside = by_span (span_in o.batches) refl inside
  where
    pos : 0 < o.params.l
    pos = let large = large_parameters o.params.l o.params.k sound.parameters in omega (arith, large.0)

    begun : begun_by (catalogue_of o) t ≤ leaves o.params (event_total o.batches)
    begun = few_begun (catalogue_of o) t (leaves o.params (event_total o.batches)) (keys_of o.records) (below_records o pos sound.kept)

    by_recent : 0 < event_total o.batches → (come : Bool) → Contains (kept_nodes o (event_total o.batches) cols) (cond come Recent (point_in_lists (catalogue_of o) t (begun_by (catalogue_of o) t)))
    by_recent some true = in_recent o (event_total o.batches) cols some
    by_recent some false = in_lists o (event_total o.batches) cols some (catalogue_of o) t (begun_by (catalogue_of o) t) begun

    by_last : 0 < event_total o.batches → (last : Bool)
        → Contains (kept_nodes o (event_total o.batches) cols) (cond last Now (cond (has_come t (first_time_in recent)) Recent (point_in_lists (catalogue_of o) t (begun_by (catalogue_of o) t))))
    by_last some true = in_now o (event_total o.batches) cols some
    by_last some false = by_recent some (has_come t (first_time_in recent))

    by_within : (within : Bool) (found : NodeId) → within ≡ true → Contains (kept_nodes o (event_total o.batches) cols) found
        → Contains (kept_nodes o (event_total o.batches) cols) (unwrap_or (cond within (Some found) None) Root)
    by_within true found is there = there
    by_within false found is there = absurd (false≢true is)

    by_span : (span : Option Ends) → span_in o.batches ≡ span → in_range (ends_pair span) t ≡ true
        → Contains (kept_nodes o (event_total o.batches) cols) (unwrap_or (point_in (catalogue_of o) span t (first_time_in recent)) Root)
    by_span None is within = absurd (false≢true within)
    by_span (Some ends) is within =
        by_within (nat_le ends.first t && nat_le t ends.last) _ within (by_last (some_events o.batches ends is sound.few) (t == ends.last))

-- ---- the point does not depend on the room of the catalogue

same_begun : (records : ListOf (Key × Entry)) (span : Option Ends) (a b t : ℕ) (k : Key)
    → after_begun (record { entries = records; span = span; spare = a }) t k ≡ after_begun (record { entries = records; span = span; spare = b }) t k
same_begun records span a b t (key.List i) = refl
same_begun records span a b t (key.Piece s) = refl
same_begun records span a b t (key.Top h) = refl
same_begun records span a b t (key.Down h c) = refl

same_all_begun : (records : ListOf (Key × Entry)) (span : Option Ends) (a b t : ℕ) (keys : ListOf Key)
    → after_all_begun (record { entries = records; span = span; spare = a }) t keys ≡ after_all_begun (record { entries = records; span = span; spare = b }) t keys
same_all_begun records span a b t [] = refl
same_all_begun records span a b t (k ∷ keys) = λ i. max (same_begun records span a b t k i) (same_all_begun records span a b t keys i)

same_in_lists : (records : ListOf (Key × Entry)) (span : Option Ends) (a b t begun : ℕ)
    → point_in_lists (record { entries = records; span = span; spare = a }) t begun ≡ point_in_lists (record { entries = records; span = span; spare = b }) t begun
same_in_lists records span a b t zero = refl
same_in_lists records span a b t (suc i) = refl

same_point_in : (records : ListOf (Key × Entry)) (span : Option Ends) (a b t : ℕ) (recent : Option ℕ) (at : Option Ends)
    → point_in (record { entries = records; span = span; spare = a }) at t recent ≡ point_in (record { entries = records; span = span; spare = b }) at t recent
same_point_in records span a b t recent None = refl
same_point_in records span a b t recent (Some ends) =
    let same : point_in_lists (record { entries = records; span = span; spare = a }) t (begun_by (record { entries = records; span = span; spare = a }) t)
    ≡ point_in_lists (record { entries = records; span = span; spare = b }) t (begun_by (record { entries = records; span = span; spare = b }) t) =
    ap (point_in_lists (record { entries = records; span = span; spare = a }) t) (same_all_begun records span a b t (keys_of records))
    ∙ same_in_lists records span a b t (begun_by (record { entries = records; span = span; spare = b }) t) in
    ap (λ (x : NodeId). cond (nat_le ends.first t && nat_le t ends.last) (Some (cond (t == ends.last) Now (cond (has_come t recent) Recent x))) None) same

-- a catalogue with the records and the times of the index gives the point
pub point_is_over : (o : Opening) (c : Holdings) (recent : ListOf Event) (t : ℕ) (first : Option ℕ) → c.entries ≡ o.records → c.span ≡ span_in o.batches → first ≡ first_time_in recent
    → point_of c t first ≡ point_of (catalogue_of o) t (first_time_in recent)
point_is_over o c recent t first entries span first_is =
    (λ i. let d : Holdings = record { entries = entries i; span = span i; spare = c.spare } in point_of d t (first_is i))
    ∙ same_point_in o.records (span_in o.batches) c.spare 0 t (first_time_in recent) (span_in o.batches)
