-- A catalogue that holds the records of a history gives the graph of the history.
use Rattle.std.proofs.Common.{◌≡◌, ℕ, ◌+◌, ◌-◌, ◌*◌, ◌/◌, ◌^◌, ◌≤◌, ◌<◌, Bool, true, List as ListOf, [], length, map, Option, Some, None, is_some, refl, sym, ap, subst, ◌∙◌, arith, if◌then◌else◌, le-div_iff_mul-le, div-lt_iff_lt-mul}
use Rattle.std.specs.Prelude.{unwrap_or, nat_le, nat_lt}
use Rattle.std.specs.List.{All, Contains}
use Rattle.std.specs.Map.{lookup}
use Rattle.std.specs.Option.{option_map}
use Rattle.std.proofs.lemmas.Bool.{and_from, le-leb, lt-ltb, leb-true, false≢true}
use Rattle.std.proofs.lemmas.List.Elements.{All-append, All-filter, All-map, All-contains, All-contains_itself, All-weaker, filter_passes}
use Rattle.dg_graph.specs.declared.element.Column.{Column}
use Rattle.dg_graph.specs.declared.element.Column.TheVariants as column
use Rattle.dg_graph.specs.declared.element.Columns.{Columns}
use Rattle.dg_history.specs.declared.node.Key.{Key}
use Rattle.dg_history.specs.declared.node.Key.TheVariants as key
use Rattle.dg_history.specs.declared.node.NodeId.{NodeId}
use Rattle.dg_history.specs.declared.params.Params.{Params}
use Rattle.dg_history.specs.Keys.{same_key}
use Rattle.dg_history.specs.History.{History, events_of}
use Rattle.dg_history.specs.LegalHistory.{IsLegal}
use Rattle.dg_index.specs.declared.entry.Entry.{Entry}
use Rattle.dg_index.specs.Hierarchy.{leaves, numbers, parent}
use Rattle.dg_index.specs.IndexKeys.{key_exists}
use Rattle.dg_index.specs.IndexRecords.{heights, keys_of, lists_due, column_in, length_in as length_in_history}
use Rattle.dg_index.specs.OpenedIndex.{opened_of}
use Rattle.dg_index.proofs.OpenedIndexRecords.{lengths_in, told_at, record_held}
use Rattle.dg_index.proofs.IndexRecordColumns.{parent_is, power_some}
use Rattle.dg_index.proofs.OpenedIndexHistories.{large_parameters}
use Rattle.dg_index.specs.declared.per_column.PerColumn.{PerColumn}
use Rattle.dg_plan.specs.IndexGraph.{edges_of, inners_at}
use Rattle.dg_plan.proofs.IndexGraphWeights.{same_edges}
use Rattle.dg_plan.proofs.EnteredRecordTrees.{all_flat, number_of}
use Rattle.dg_catalogue.specs.Entries.{Holdings, column_length_in}
use Rattle.dg_planner.specs.Bases.{ground_of}
use Rattle.dg_planner.specs.AskedLengths.{asked_length_of}
use Rattle.dg_planner.specs.HistoryLaws.{shape_of, HoldsRecordsOf, GraphOfHistory}

-- ---- which records exist

list_exists : (p : Params) (n i : ℕ) → i < leaves p n → key_exists p n (key.List i) ≡ true
list_exists p n i lt = lt-ltb i (leaves p n) lt

top_exists : (p : Params) (n h : ℕ) → 1 ≤ h → p.k ^ h ≤ leaves p n → key_exists p n (key.Top h) ≡ true
top_exists p n h low within = and_from (nat_le 1 h) _ (le-leb 1 h low) (le-leb (p.k ^ h) (leaves p n) within)

down_exists : (p : Params) (n h c : ℕ) → 1 ≤ h → 1 ≤ c → parent p.k c * p.k ^ h ≤ leaves p n → key_exists p n (key.Down h c) ≡ true
down_exists p n h c low some within =
    and_from (nat_le 1 h) _ (le-leb 1 h low) (and_from (nat_le 1 c) _ (le-leb 1 c some) (le-leb (parent p.k c * p.k ^ h) (leaves p n) within))

height_of : (k m h : ℕ) → Contains (heights k m) h → (1 ≤ h) × (k ^ h ≤ m)
height_of k m h c =
    let passes : nat_le (k ^ h) m ≡ true = All-contains (λ x. nat_le (k ^ x) m ≡ true) (heights k m) h (filter_passes (λ x. nat_le (k ^ x) m) (numbers 1 m)) c in
    let one : 1 ≤ h = All-contains (λ x. 1 ≤ x) (heights k m) h (All-filter (λ x. nat_le (k ^ x) m) (λ x. 1 ≤ x) (numbers 1 m) (from_one m)) c in
    (one, leb-true _ _ passes)
  where
    from_one : (n : ℕ) → All (λ x. 1 ≤ x) (numbers 1 n)
    from_one n = All-weaker (Contains (numbers 1 n)) (λ x. 1 ≤ x) (λ x there. let r = number_of 1 n x there in let e = r.2 in omega arith) (numbers 1 n) (All-contains_itself (numbers 1 n))

all_mapped : (P : Key → Type 0) (f : ℕ → Key) (xs : ListOf ℕ) → ((x : ℕ) → Contains xs x → P (f x)) → All P (map f xs)
all_mapped P f xs each = All-map P f xs (All-weaker (Contains xs) (λ x. P (f x)) each xs (All-contains_itself xs))

module _ (p : Params) (n : ℕ) (wide : 0 < p.k) where
  -- each of the keys of an index exists
  all_exist : All (λ k. key_exists p n k ≡ true) (keys_of p n)
  all_exist =
      All-append (λ k. key_exists p n k ≡ true) (lists_due p 0 n) _
      (all_mapped (λ k. key_exists p n k ≡ true) (λ i. key.List i) (numbers (leaves p 0) (leaves p n - leaves p 0)) (λ i c.
      let r = number_of (leaves p 0) (leaves p n - leaves p 0) i c in
      let small = r.1 in
      let is = r.2 in
      list_exists p n i (omega (arith, small, is))))
      (All-append (λ k. key_exists p n k ≡ true) (map (λ h. key.Top h) (heights p.k (leaves p n))) _
      (all_mapped (λ k. key_exists p n k ≡ true) (λ h. key.Top h) (heights p.k (leaves p n)) (λ h c. let r = height_of p.k (leaves p n) h c in top_exists p n h r.0 r.1))
      (all_flat (λ k. key_exists p n k ≡ true) (λ h. map (λ c. key.Down h c) (numbers 1 (leaves p n / p.k ^ h * p.k))) (heights p.k (leaves p n)) (λ h hc.
      all_mapped (λ k. key_exists p n k ≡ true) (λ c. key.Down h c) (numbers 1 (leaves p n / p.k ^ h * p.k)) (λ c cc'.
      let height = height_of p.k (leaves p n) h hc in
      let r = number_of 1 (leaves p n / p.k ^ h * p.k) c cc' in
      let small = r.1 in
      let is = r.2 in
      let above : (c - 1) / p.k < leaves p n / p.k ^ h = (div-lt_iff_lt-mul wide).1 (let z : c - 1 < leaves p n / p.k ^ h * p.k = omega (arith, small, is) in z) in
      let within : parent p.k c * p.k ^ h ≤ leaves p n = (le-div_iff_mul-le (power_some p.k h wide)).0 (let z : (c - 1) / p.k + 1 ≤ leaves p n / p.k ^ h = omega (arith, above) in z) in
      down_exists p n h c height.0 (omega (arith, is)) within))))

-- ---- what a catalogue of a history tells

module _ (z : History) (legal : IsLegal z) where
  wide_here : 0 < z.params.k
  wide_here = let large = large_parameters z.params.l z.params.k legal.parameters in omega (arith, large.1)

  -- what is held at a key has the lengths of the columns of the history's record
  pub held_lengths : (k : Key) (e : Entry) → lookup (same_key k) (opened_of z).index.records ≡ Some e → (col : Column) → column_length_in e col ≡ length (column_in z k col)
  held_lengths k e is col = by col (told_at z legal k e is).0
    where
      by : (col : Column) → e.lengths ≡ lengths_in z k → column_length_in e col ≡ length (column_in z k col)
      by column.Structure told = ap (λ (l : PerColumn ℕ). l.structure) told
      by column.NodeAttr told = ap (λ (l : PerColumn ℕ). l.node_attrs) told
      by column.EdgeAttr told = ap (λ (l : PerColumn ℕ). l.edge_attrs) told
      by column.Transient told = ap (λ (l : PerColumn ℕ). l.transient) told

  -- each of the keys of the index is held
  pub keys_held : (k : Key) → Contains (keys_of z.params (length (events_of z))) k → is_some (lookup (same_key k) (opened_of z).index.records) ≡ true
  keys_held k there = record_held z legal k (All-contains (λ k. key_exists z.params (length (events_of z)) k ≡ true) (keys_of z.params (length (events_of z))) k (all_exist z.params (length (events_of z)) wide_here) there)

  module _ (catalogue : Holdings) (holds : HoldsRecordsOf z catalogue) (cols : Columns) where
    abbrev length_by : Option Entry → ℕ
    length_by o =
        unwrap_or (option_map (λ e. column_length_in e column.Structure) o) 0
        + ((if cols.nodes_attr then unwrap_or (option_map (λ e. column_length_in e column.NodeAttr) o) 0 else 0)
        + (if cols.edges_attr then unwrap_or (option_map (λ e. column_length_in e column.EdgeAttr) o) 0 else 0))

    -- the bytes of a record that exists are those of the history's record
    pub lengths_are : (k : Key) → key_exists z.params (length (events_of z)) k ≡ true → asked_length_of catalogue cols k ≡ length_in_history z k cols
    lengths_are k there = by (lookup (same_key k) (opened_of z).index.records) refl (record_held z legal k there)
      where
        by : (o : Option Entry) → lookup (same_key k) (opened_of z).index.records ≡ o → is_some o ≡ true → asked_length_of catalogue cols k ≡ length_in_history z k cols
        by None is some = absurd (false≢true some)
        by (Some e) is some =
            let told = held_lengths k e is in
            ap (λ (r : ListOf (Key × Entry)). length_by (lookup (same_key k) r)) holds ∙ ap length_by is
            ∙ (λ i. told column.Structure i + ((if cols.nodes_attr then told column.NodeAttr i else 0) + (if cols.edges_attr then told column.EdgeAttr i else 0)))

    -- with any bases, the edges are those that the history's records give
    pub edges_are : (bases : ListOf (ℕ × NodeId)) (memory : Bool) → edges_of (record (ground_of (shape_of z) catalogue cols [] memory) { bases = bases })
        ≡ edges_of (record { leaves = leaves z.params (length (events_of z)); arity = z.params.k; bases = bases; memory = memory; weight = λ k. length_in_history z k cols })
    edges_are bases memory =
        let p : Params = z.params in
        let n : ℕ = length (events_of z) in
        let m : ℕ = leaves p n in
        same_edges m p.k bases memory (asked_length_of catalogue cols) (λ k. length_in_history z k cols)
        (λ i lt. lengths_are (key.List i) (list_exists p n i lt))
        (λ h c. let height = height_of p.k m h c in lengths_are (key.Top h) (top_exists p n h height.0 height.1))
        (λ h j c hc jc cc'.
        let height = height_of p.k m h hc in
        let low = height.0 in
        let e : h - 1 + 1 ≡ h = omega (arith, low) in
        let a = number_of 1 (inners_at m p.k h) j jc in
        let a_small = a.1 in
        let a_is = a.2 in
        let some : 1 ≤ j = omega (arith, a_is) in
        let b = number_of ((j - 1) * p.k + 1) p.k c cc' in
        let b_small = b.1 in
        let b_is = b.2 in
        let above : parent p.k c ≡ j = parent_is p.k j c wide_here some (omega (arith, b_is)) (omega (arith, b_is, b_small)) in
        let within : j * p.k ^ h ≤ m = (le-div_iff_mul-le (power_some p.k h wide_here)).0 (let x : j ≤ m / p.k ^ h = omega (arith, a_small, a_is) in x) in
        lengths_are (key.Down (h - 1 + 1) c) (ap (λ g. key_exists p n (key.Down g c)) e ∙ down_exists p n h c low (omega (arith, b_is)) (subst (λ g. g * p.k ^ h ≤ m) (sym above) within)))

pub graph_of_history : GraphOfHistory
graph_of_history z legal catalogue holds cols bases = (edges_are z legal catalogue holds cols bases (nat_lt 0 (length (events_of z))), refl)
