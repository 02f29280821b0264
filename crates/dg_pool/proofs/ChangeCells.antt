-- What a write of the own bits of slots in one cell does to the graphs of a pool, and one write after another.
use Rattle.std.proofs.Common.{eqb, ◌≡◌, ℕ, ◌<◌, ◌≤◌, Bool, true, false, cond, ◌||◌, ◌&&◌, List, [], ◌∷◌, Option, Some, None, length, get_or, refl, sym, ap, ◌∙◌, ◌⊎◌, inl, inr}
use Rattle.std.proofs.lemmas.Bool.{cases_eq, true≢false, eq-eqb, eqb-true}
use Rattle.std.specs.Option.{option_map}
use Rattle.dg_graph.specs.declared.element.Element.{Element}
use Rattle.dg_graph.specs.declared.element.Columns.{Columns}
use Rattle.dg_graph.specs.Elements.{has, same, asks, column_of, shown}
use Rattle.dg_graph.specs.Composition.{Delta, says, applied}
use Rattle.dg_graph.proofs.Sets.{same_members, same_itself, element_exact, has_first}
use Rattle.dg_delta.specs.Deltas.{is_in_after}
use Rattle.dg_cells.specs.Rows.{Row, cell_at, is_current, pair, CellsAreApart, Holds, Lacks, Writes, AreNumbers}
use Rattle.dg_cells.proofs.RowChanges.{cell_past}
use Rattle.dg_pool.specs.declared.slots.Base.{Base}
use Rattle.dg_pool.specs.declared.slots.Base.TheVariants as base
use Rattle.dg_pool.specs.declared.slots.Slot.{Slot}
use Rattle.dg_pool.specs.declared.slots.SlotState.{SlotState}
use Rattle.dg_pool.specs.declared.slots.SlotState.TheVariants as state
use Rattle.dg_query.specs.declared.answers.Counts.{Counts}
use Rattle.dg_query.specs.Queries.{counts_of}
use Rattle.dg_pool.specs.Graphs.{slot_at, pair_at, is_live, is_listed, AreSlots, IsClean, IsPool, PoolState, SlotGraph, slot_says, pair_says, in_base, in_slot, given, picked, graph_as, slot_graph}
use Rattle.dg_pool.specs.Slots.{rests_on, NoneOn}
use Rattle.dg_pool.specs.Sweeps.{in_state, element_of, members_as}
use Rattle.dg_pool.specs.Counts.{counts_at}
use Rattle.dg_pool.specs.Changes.{CanChange, NoneRestsOn, graph_after, NamesNew, names, pool_of, WritesDelta, one_sided, AreChangeable, AreGraphCounts, SetsPairs, CanRecount, CanRecountAll, RecountsAll, recounted, will_have}
use Rattle.dg_pool.proofs.GraphSets.{picked_alike, picked_set, picked_decides, picked_nothing}
use Rattle.dg_pool.proofs.GraphInvariant.{row_or_none, live_from_one, live_within}
use Rattle.dg_pool.proofs.CurrentGraph.{one_row, writes_before, apart_written}
use Rattle.dg_pool.proofs.SweepUnions.{IsSet-members, lacks-members}
use Rattle.dg_pool.proofs.CountPreservation.{graph_live}
use Rattle.dg_pool.proofs.ChangeMasks.{zero_unlisted, based_on_live}
use Rattle.dg_pool.proofs.ChangeCounts.{can_recount, recounted_set}
use Rattle.dg_pool.proofs.ChangeGraphs.{IsThen, graph_then, has-after, IsSet-after, after_same, sided_has, sided_names, no_side}

-- a graph has only elements of its columns
pub asked : (rows : List (Option Row)) (s : ℕ) (z : Base) (cols : Columns) → CellsAreApart rows → (x : Element) → has (picked (in_slot s z cols) rows) x ≡ true → asks cols (column_of x) ≡ true
asked rows s z cols apart x e = at (row_or_none rows x)
  where
    left : (a b : Bool) → (a && b) ≡ true → a ≡ true
    left true b e = refl
    left false b e = e

    at : ((n : ℕ) × (r : Row) × (cell_at rows n ≡ Some r) × (r.element ≡ x)) ⊎ Lacks rows x → asks cols (column_of x) ≡ true
    at (inl f) =
        ap (λ y. asks cols (column_of y)) (sym f.3)
        ∙ left (asks cols (column_of f.1.element)) (is_in_after (slot_says s f.1) (in_base z f.1)) (sym (picked_decides (in_slot s z cols) rows x f.0 f.1 apart f.2 f.3) ∙ e)
    at (inr lacks) = absurd (true≢false (sym e ∙ picked_nothing (in_slot s z cols) rows x lacks))

-- ---- a write that changes nothing

pub names_itself : (d : Delta) (rows : List (Option Row)) → NamesNew d rows rows
names_itself d rows s n r one e h = ap (λ (o : Option Row). (pair_at s o).0 || names d r.element) e ∙ ap (λ t. t || names d r.element) h

-- a delta that changes no graph
pub writes_nothing : (slots : List SlotState) (numbers : List ℕ) (d : Delta) (rows : List (Option Row)) → CellsAreApart rows → ((s : ℕ) (x : Element) → is_in_after (says d x) (has (members_as (graph_as rows s (slot_at slots s))) x) ≡ has (members_as (graph_as rows s (slot_at slots s))) x) → WritesDelta slots numbers d rows rows
writes_nothing slots numbers d rows apart same_as = record {
  graphs = record {
    now = refl;
    changed = λ s k. at s (slot_at slots s) (same_as s);
    others = λ s k. refl;
  };
  elements = λ n. refl;
  bits = λ s one k n. refl;
  explicit = names_itself d rows;
}
  where
    at : (s : ℕ) (slot : SlotState) → ((x : Element) → is_in_after (says d x) (has (members_as (graph_as rows s slot)) x) ≡ has (members_as (graph_as rows s slot)) x) → graph_as rows s slot ≡ option_map (graph_after d) (graph_as rows s slot)
    at s state.Free f = refl
    at s (state.Released swept) f = refl
    at s (state.Live z cols) f =
        ap (λ m. Some (record { base = z; cols = cols; members = m }))
        (sym (after_same d (picked (in_slot s z cols) rows) cols (picked_set (in_slot s z cols) rows) (asked rows s z cols apart) f))

-- no elements
pub writes_start : (slots : List SlotState) (numbers : List ℕ) (own : Bool) (rows : List (Option Row)) → CellsAreApart rows → WritesDelta slots numbers (one_sided own []) rows rows
writes_start slots numbers own rows apart = writes_nothing slots numbers (one_sided own []) rows apart (λ s x. no_side own x (has (members_as (graph_as rows s (slot_at slots s))) x))

-- an element with no cell is in no graph to take out of
pub writes_lacking : (slots : List SlotState) (numbers : List ℕ) (x : Element) (rows : List (Option Row)) → CellsAreApart rows → Lacks rows x → WritesDelta slots numbers (one_sided false (x ∷ [])) rows rows
writes_lacking slots numbers x rows apart lacks = writes_nothing slots numbers (one_sided false (x ∷ [])) rows apart (λ s y. sided_has false x y (has (members_as (graph_as rows s (slot_at slots s))) y) ∙ at s y (same y x) refl)
  where
    at : (s : ℕ) (y : Element) (t : Bool) → same y x ≡ t → cond t false (has (members_as (graph_as rows s (slot_at slots s))) y) ≡ has (members_as (graph_as rows s (slot_at slots s))) y
    at s y true e = sym (ap (has (members_as (graph_as rows s (slot_at slots s)))) (element_exact y x e) ∙ lacks-members rows x lacks s (slot_at slots s))
    at s y false e = refl

-- a cell that is written has its element still
pub written_holds : (slots : List SlotState) (numbers : List ℕ) (d : Delta) (old new : List (Option Row)) → WritesDelta slots numbers d old new → (x : Element) (n : ℕ) → Holds old x n → Holds new x n
written_holds slots numbers d old new w x n h = at (cell_at new n) refl (w.elements n ∙ ap element_of h.there)
  where
    at : (o : Option Row) → cell_at new n ≡ o → element_of (cell_at new n) ≡ Some h.row.element → Holds new x n
    at None e f = let none : None ≡ Some h.row.element = sym (ap element_of e) ∙ f in cc
    at (Some r) e f =
        let one : Some r.element ≡ Some h.row.element = sym (ap element_of e) ∙ f in
        let tied : r.element ≡ h.row.element = cc in
        record { row = r; there = e; element = tied ∙ h.element }

pub written_numbers : (slots : List SlotState) (numbers : List ℕ) (d : Delta) (old new : List (Option Row)) → WritesDelta slots numbers d old new → (items : List Element) (cells : List ℕ) → AreNumbers old items cells → AreNumbers new items cells
written_numbers slots numbers d old new w items cells a = record {
  count = a.count;
  hold = λ k h x. written_holds slots numbers d old new w (get_or items k x) (get_or cells k 0) (a.hold k h x);
}

-- ---- one write after another

module _ (slots : List SlotState) (numbers : List ℕ) (first later both : Delta) (is_then : IsThen first later both) (a b c : List (Option Row)) (f : WritesDelta slots numbers first a b) (g : WritesDelta slots numbers later b c) where
  row_with : (x : Element) (o : Option Row) → element_of o ≡ Some x → (r : Row) × (o ≡ Some r) × (r.element ≡ x)
  row_with x None e = cc
  row_with x (Some r) e = (r, refl, cc)

  or_more : (p q t u : Bool) → (p || q) ≡ true → (q ≡ true → u ≡ true) → (p ≡ true → (t || u) ≡ true) → (t || u) ≡ true
  or_more true q t u e h k = k refl
  or_more false true true u e h k = refl
  or_more false true false u e h k = h refl
  or_more false false t u e h k = cc

  or_first : (p q t u : Bool) → (p || q) ≡ true → p ≡ t → (q ≡ true → u ≡ true) → (t || u) ≡ true
  or_first true q t u e h k = ap (λ z. z || u) (sym h)
  or_first false true true u e h k = refl
  or_first false true false u e h k = k refl
  or_first false false t u e h k = cc

  named_first : (x : Element) → names first x ≡ true → names both x ≡ true
  named_first x e = sym (is_then.named x) ∙ ap (λ t. t || names later x) e

  named_later : (x : Element) → names later x ≡ true → names both x ≡ true
  named_later x e = sym (is_then.named x) ∙ ap (λ t. names first x || t) e ∙ or_true (names first x)
    where
      or_true : (t : Bool) → (t || true) ≡ true
      or_true true = refl
      or_true false = refl

  explicit_then : NamesNew both a c
  explicit_then s n r one e h =
      let mid = row_with r.element (cell_at b n) (sym (g.elements n) ∙ ap element_of e) in
      let q = mid.0 in
      or_more (pair_at s (cell_at b n)).0 (names later r.element) (pair_at s (cell_at a n)).0 (names both r.element) (g.explicit s n r one e h) (named_later r.element)
      (λ k.
      or_first (pair_at s (cell_at a n)).0 (names first q.element) (pair_at s (cell_at a n)).0 (names both r.element)
      (f.explicit s n q one mid.1 (ap (λ (o : Option Row). (pair_at s o).0) (sym mid.1) ∙ k)) refl
      (λ l. named_first r.element (ap (names first) (sym mid.2) ∙ l)))

  pub writes_then : WritesDelta slots numbers both a c
  writes_then = record {
    graphs = record {
      now = g.graphs.now ∙ f.graphs.now;
      changed = λ s k.
          g.graphs.changed s k ∙ ap (option_map (graph_after later)) (f.graphs.changed s k)
          ∙ graph_then first later both is_then (graph_as a s (slot_at slots s)) (IsSet-members a s (slot_at slots s));
      others = λ s k. g.graphs.others s k ∙ f.graphs.others s k;
    };
    elements = λ n. g.elements n ∙ f.elements n;
    bits = λ s one k n. g.bits s one k n ∙ f.bits s one k n;
    explicit = explicit_then;
  }

-- ---- before a write

-- the counts of the slots can be kept when the element of a cell comes or goes
pub fits_cell : (slots : List SlotState) (numbers : List ℕ) (own : Bool) (rows : List (Option Row)) (n : ℕ) (r : Row) (counts : List Counts) → AreChangeable slots numbers → AreGraphCounts slots rows counts → CellsAreApart rows → cell_at rows n ≡ Some r → length rows < 18446744073709551616
    → CanRecountAll slots numbers own r counts
fits_cell slots numbers own rows n r counts can kept apart there room s k = at (slot_at slots s) refl
  where
    at : (slot : SlotState) → slot_at slots s ≡ slot → CanRecount (in_state s slot r) (will_have own slot r) r.element (counts_at counts s)
    at state.Free e = absurd (true≢false (sym (can.live s k) ∙ ap is_live e))
    at (state.Released swept) e = absurd (true≢false (sym (can.live s k) ∙ ap is_live e))
    at (state.Live z cols) e =
        can_recount (in_slot s z cols) rows n r apart there (counts_at counts s) (own && asks cols (column_of r.element)) room
        (kept.slots s (record { base = z; cols = cols; members = picked (in_slot s z cols) rows }) (ap (graph_as rows s) e))

-- ---- the write of one cell

-- a write is what follows of how it is made
pub writes_as : (old new : List (Option Row)) (n : ℕ) (P Q : Row → Row → Type 0) → Writes old new n P → ((a b : Row) → P a b → Q a b) → Writes old new n Q
writes_as old new n P Q w f = record { before = w.before; after = w.after; was = w.was; is = w.is; how = f w.before w.after w.how }

module _ (slots : List SlotState) (numbers : List ℕ) (can : AreChangeable slots numbers) (own : Bool) (old new : List (Option Row)) (n : ℕ) (How : Row → Row → Type 0) (w : Writes old new n How) (how : SetsPairs numbers (true, own) w.before w.after) (apart : CellsAreApart old) where
  abbrev x : Element
  x = w.before.element

  there : cell_at new n ≡ Some w.after
  there = writes_before old new n How w

  past : (m : ℕ) → (m ≡ n → ⊥) → cell_at new m ≡ cell_at old m
  past m d = ap (λ l. cell_at l m) w.is ∙ cell_past old n m (Some w.after) d

  apart_new : CellsAreApart new
  apart_new = apart_written old new n How w how.element apart

  -- what is read of a cell, where that of the written one stays
  read_same : {T : Type 0} (f : Option Row → T) → f (Some w.after) ≡ f (Some w.before) → (m : ℕ) → f (cell_at new m) ≡ f (cell_at old m)
  read_same f e m = at (cases_eq m n)
    where
      at : (m ≡ n) ⊎ (m ≡ n → ⊥) → f (cell_at new m) ≡ f (cell_at old m)
      at (inl is) = ap (λ k. f (cell_at new k)) is ∙ ap f there ∙ e ∙ sym (ap (λ k. f (cell_at old k)) is ∙ ap f w.was)
      at (inr d) = ap f (past m d)

  -- a base is none of the slots
  base_past : (u : ℕ) (o : Slot) (cols : Columns) → slot_at slots u ≡ state.Live (base.Slot o) cols → (t : Bool) → is_listed numbers o.0 ≡ t → is_listed numbers o.0 ≡ false
  base_past u o cols e true k =
      absurd (true≢false (sym (eq-eqb o.0 o.0 refl) ∙ sym (ap (rests_on o.0) e) ∙ can.none o.0 k u (live_within slots can.states.count u (ap is_live e))))
  base_past u o cols e false k = k

  pair_past : (u : ℕ) → 1 ≤ u → is_listed numbers u ≡ false → pair u w.after ≡ pair u w.before
  pair_past u one k = how.pairs u one ∙ ap (λ t. cond t (true, own) (pair u w.before)) k

  base_is : (u : ℕ) (z : Base) (cols : Columns) → slot_at slots u ≡ state.Live z cols → in_base z w.after ≡ in_base z w.before
  base_is u base.Nothing cols e = refl
  base_is u base.Now cols e = how.current
  base_is u (base.Slot o) cols e =
      ap (λ p. is_in_after (pair_says p) false)
      (pair_past o.0 (live_from_one slots can.states o.0 (based_on_live slots can.states u o cols e)) (base_past u o cols e (is_listed numbers o.0) refl))

  -- ---- every other graph

  given_same : (test : Row → Bool) → test w.after ≡ test w.before → given test (Some w.after) ≡ given test (Some w.before)
  given_same test t = λ i. cond (t i) (Some (how.element i)) None

  other_changes : (u : ℕ) (slot : SlotState) → slot_at slots u ≡ slot → is_listed numbers u ≡ false → graph_as new u slot ≡ graph_as old u slot
  other_changes u state.Free e k = refl
  other_changes u (state.Released swept) e k = refl
  other_changes u (state.Live z cols) e k =
      let own_pair = pair_past u (live_from_one slots can.states u (ap is_live e)) k in
      let under = base_is u z cols e in
      ap (λ m. Some (record { base = z; cols = cols; members = m }))
      (picked_alike (in_slot u z cols) new old
      (read_same (given (in_slot u z cols)) (given_same (in_slot u z cols) (λ i. asks cols (column_of (how.element i)) && is_in_after (pair_says (own_pair i)) (under i)))))

  now_same : picked is_current new ≡ picked is_current old
  now_same = picked_alike is_current new old (read_same (given is_current) (given_same is_current how.current))

  -- ---- the graph of one of the slots

  module _ (s : ℕ) (z : Base) (cols : Columns) (e : slot_at slots s ≡ state.Live z cols) (k : is_listed numbers s ≡ true) where
    abbrev test : Row → Bool
    test = in_slot s z cols

    decided : (a o was : Bool) → (a && is_in_after (pair_says (true, o)) was) ≡ (o && a)
    decided true true was = refl
    decided true false was = refl
    decided false true was = refl
    decided false false was = refl

    test_after : test w.after ≡ (own && asks cols (column_of x))
    test_after =
        (λ i. asks cols (column_of (how.element i)) && is_in_after (pair_says ((how.pairs s (live_from_one slots can.states s (ap is_live e)) ∙ ap (λ t. cond t (true, own) (pair s w.before)) k) i)) (in_base z w.after))
        ∙ decided (asks cols (column_of x)) own (in_base z w.after)

    other_element : (m : ℕ) (q : Row) (y : Element) → (m ≡ n → ⊥) → cell_at old m ≡ Some q → q.element ≡ y → (t : Bool) → same y x ≡ t → same y x ≡ false
    other_element m q y d f is true h = absurd (d (apart m n q w.before f w.was (is ∙ element_exact y x h)))
    other_element m q y d f is false h = h

    lacks_old : (y : Element) → Lacks new y → Lacks old y
    lacks_old y lacks m r f = at (cases_eq m n)
      where
        at : (m ≡ n) ⊎ (m ≡ n → ⊥) → same y r.element ≡ false
        at (inl is) =
            let row : r ≡ w.before = one_row old n r w.before (ap (cell_at old) (sym is) ∙ f) w.was in
            ap (λ (q : Row). same y q.element) row ∙ ap (same y) (sym how.element) ∙ lacks n w.after there
        at (inr d) = lacks m r (past m d ∙ f)

    pub has_new : (y : Element) → has (picked test new) y ≡ cond (same y x) (own && asks cols (column_of x)) (has (picked test old) y)
    has_new y = at (row_or_none new y)
      where
        here : (m : ℕ) (q : Row) → cell_at new m ≡ Some q → q.element ≡ y → (m ≡ n) ⊎ (m ≡ n → ⊥) → has (picked test new) y ≡ cond (same y x) (own && asks cols (column_of x)) (has (picked test old) y)
        here m q f is (inl g) =
            let row : q ≡ w.after = one_row new n q w.after (ap (cell_at new) (sym g) ∙ f) there in
            let is_x : y ≡ x = sym is ∙ ap (λ (r : Row). r.element) row ∙ how.element in
            picked_decides test new y m q apart_new f is ∙ ap test row ∙ test_after
            ∙ sym (ap (λ t. cond t (own && asks cols (column_of x)) (has (picked test old) y)) (ap (λ v. same v x) is_x ∙ same_itself x))
        here m q f is (inr d) =
            let was = sym (past m d) ∙ f in
            picked_decides test new y m q apart_new f is ∙ sym (picked_decides test old y m q apart was is)
            ∙ sym (ap (λ t. cond t (own && asks cols (column_of x)) (has (picked test old) y)) (other_element m q y d was is (same y x) refl))

        at : ((m : ℕ) × (q : Row) × (cell_at new m ≡ Some q) × (q.element ≡ y)) ⊎ Lacks new y → has (picked test new) y ≡ cond (same y x) (own && asks cols (column_of x)) (has (picked test old) y)
        at (inl f) = here f.0 f.1 f.2 f.3 (cases_eq f.0 n)
        at (inr lacks) =
            picked_nothing test new y lacks ∙ sym (picked_nothing test old y (lacks_old y lacks))
            ∙ sym (ap (λ t. cond t (own && asks cols (column_of x)) (has (picked test old) y)) (ap (same y) (sym how.element) ∙ lacks n w.after there))

    pub members_new : picked test new ≡ shown (applied (one_sided own (x ∷ [])) (picked test old)) cols
    members_new =
        same_members (picked test new) (shown (applied (one_sided own (x ∷ [])) (picked test old)) cols) (picked_set test new)
        (IsSet-after (one_sided own (x ∷ [])) (picked test old) cols (picked_set test old))
        (λ y. has_new y ∙ by y (same y x) refl ∙ sym (has-after (one_sided own (x ∷ [])) (picked test old) cols y ∙ ap (λ t. asks cols (column_of y) && t) (sided_has own x y (has (picked test old) y))))
      where
        swap : (a b : Bool) → (a && b) ≡ (b && a)
        swap true true = refl
        swap true false = refl
        swap false true = refl
        swap false false = refl

        both : (a b : Bool) → (b ≡ true → a ≡ true) → b ≡ (a && b)
        both true b f = refl
        both false true f = sym (f refl)
        both false false f = refl

        by : (y : Element) (t : Bool) → same y x ≡ t → cond (same y x) (own && asks cols (column_of x)) (has (picked test old) y) ≡ (asks cols (column_of y) && cond (same y x) own (has (picked test old) y))
        by y true h =
            ap (λ t. cond t (own && asks cols (column_of x)) (has (picked test old) y)) h
            ∙ swap own (asks cols (column_of x)) ∙ ap (λ v. asks cols (column_of v) && own) (sym (element_exact y x h))
            ∙ ap (λ t. asks cols (column_of y) && cond t own (has (picked test old) y)) (sym h)
        by y false h =
            ap (λ t. cond t (own && asks cols (column_of x)) (has (picked test old) y)) h
            ∙ both (asks cols (column_of y)) (has (picked test old) y) (asked old s z cols apart y)
            ∙ ap (λ t. asks cols (column_of y) && cond t own (has (picked test old) y)) (sym h)

  slot_changes : (s : ℕ) (slot : SlotState) → slot_at slots s ≡ slot → is_listed numbers s ≡ true → graph_as new s slot ≡ option_map (graph_after (one_sided own (x ∷ []))) (graph_as old s slot)
  slot_changes s state.Free e k = refl
  slot_changes s (state.Released swept) e k = refl
  slot_changes s (state.Live z cols) e k = ap (λ m. Some (record { base = z; cols = cols; members = m })) (members_new s z cols e k)

  explicit_one : NamesNew (one_sided own (x ∷ [])) old new
  explicit_one s m r one e h = at (cases_eq m n)
    where
      or_true : (t : Bool) → (t || true) ≡ true
      or_true true = refl
      or_true false = refl

      at : (m ≡ n) ⊎ (m ≡ n → ⊥) → ((pair_at s (cell_at old m)).0 || names (one_sided own (x ∷ [])) r.element) ≡ true
      at (inl is) =
          let row : r ≡ w.after = one_row new n r w.after (ap (cell_at new) (sym is) ∙ e) there in
          let is_x : r.element ≡ x = ap (λ (q : Row). q.element) row ∙ how.element in
          ap (λ t. (pair_at s (cell_at old m)).0 || t) (ap (names (one_sided own (x ∷ []))) is_x ∙ sided_names own x (has_first x [])) ∙ or_true (pair_at s (cell_at old m)).0
      at (inr d) =
          ap (λ (o : Option Row). (pair_at s o).0 || names (one_sided own (x ∷ [])) r.element) (sym (past m d) ∙ e) ∙ ap (λ t. t || names (one_sided own (x ∷ [])) r.element) h

  pub writes_one : WritesDelta slots numbers (one_sided own (x ∷ [])) old new
  writes_one = record {
    graphs = record {
      now = now_same;
      changed = λ s k. slot_changes s (slot_at slots s) refl k;
      others = λ s k. other_changes s (slot_at slots s) refl k;
    };
    elements = read_same element_of (ap (λ y. Some y) how.element);
    bits = λ s one k. read_same (pair_at s) (pair_past s one k);
    explicit = explicit_one;
  }

  -- ---- the counts

  pub counted_one : (counts after : List Counts) → AreGraphCounts slots old counts → length after ≡ 128
      → RecountsAll slots numbers own w.before counts after
      → AreGraphCounts slots new after
  counted_one counts after kept len is = record {
    len = len;
    now = is 0 ∙ ap (λ t. cond t (recounted (in_state 0 (slot_at slots 0) w.before) (will_have own (slot_at slots 0) w.before) x (counts_at counts 0)) (counts_at counts 0)) (zero_unlisted slots numbers can) ∙ kept.now ∙ ap counts_of (sym now_same);
    slots = λ s g e. at s g e (is_listed numbers s) refl;
  }
    where
      of_slot : (s : ℕ) (g : SlotGraph) → is_listed numbers s ≡ true → (slot : SlotState) → slot_at slots s ≡ slot → graph_as new s slot ≡ Some g → recounted (in_state s slot w.before) (will_have own slot w.before) x (counts_at counts s) ≡ counts_of g.members
      of_slot s g k state.Free f e = let none : None ≡ Some g = e in cc
      of_slot s g k (state.Released swept) f e = let none : None ≡ Some g = e in cc
      of_slot s g k (state.Live z cols) f e =
          let test = in_slot s z cols in
          let was : counts_at counts s ≡ counts_of (picked test old) = kept.slots s (record { base = z; cols = cols; members = picked test old }) (ap (graph_as old s) f) in
          let graph : SlotGraph = record { base = z; cols = cols; members = picked test new } in
          let one : Some graph ≡ Some g = e in
          let tied : graph ≡ g = cc in
          ap (recounted (test w.before) (own && asks cols (column_of x)) x) was
          ∙ recounted_set x (picked test old) (picked test new) (picked_set test old) (picked_set test new) (test w.before) (own && asks cols (column_of x)) (picked_decides test old x n w.before apart w.was refl) (has_new s z cols f k)
          ∙ ap (λ (h : SlotGraph). counts_of h.members) tied

      at : (s : ℕ) (g : SlotGraph) → slot_graph (pool_of slots new) s ≡ Some g → (t : Bool) → is_listed numbers s ≡ t → counts_at after s ≡ counts_of g.members
      at s g e true k =
          is s ∙ ap (λ t. cond t (recounted (in_state s (slot_at slots s) w.before) (will_have own (slot_at slots s) w.before) x (counts_at counts s)) (counts_at counts s)) k
          ∙ of_slot s g k (slot_at slots s) refl e
      at s g e false k =
          is s ∙ ap (λ t. cond t (recounted (in_state s (slot_at slots s) w.before) (will_have own (slot_at slots s) w.before) x (counts_at counts s)) (counts_at counts s)) k
          ∙ kept.slots s g (sym (other_changes s (slot_at slots s) refl k) ∙ e)

-- ---- the pool

-- no live slot that rests on one is no slot that does
pub none_on : (p : PoolState) (s : ℕ) → NoneRestsOn p s → NoneOn p.slots s
none_on p s none u within = at (slot_at p.slots u) refl
  where
    by : (b : Slot) (cols : Columns) → slot_at p.slots u ≡ state.Live (base.Slot b) cols → (t : Bool) → eqb b.0 s ≡ t → eqb b.0 s ≡ false
    by b cols e true k =
        absurd (none u (record { base = base.Slot b; cols = cols; members = picked (in_slot u (base.Slot b) cols) p.rows }) b (ap (graph_as p.rows u) e) refl (eqb-true b.0 s k))
    by b cols e false k = k

    at : (slot : SlotState) → slot_at p.slots u ≡ slot → rests_on s slot ≡ false
    at state.Free e = refl
    at (state.Released swept) e = refl
    at (state.Live base.Nothing cols) e = refl
    at (state.Live base.Now cols) e = refl
    at (state.Live (base.Slot b) cols) e = by b cols e (eqb b.0 s) refl

pub changeable : (p : PoolState) (numbers : List ℕ) → AreSlots p.slots → CanChange numbers p → AreChangeable p.slots numbers
changeable p numbers fit can = record {
  states = fit;
  live = λ s k. graph_live p.rows s (slot_at p.slots s) (can.live s k);
  apart = can.apart;
  none = λ s k. none_on p s (can.unused s k);
}

-- what a pool keeps true is true after the delta is written
pub written_pool : (p : PoolState) (numbers : List ℕ) (d : Delta) (new : List (Option Row)) → AreChangeable p.slots numbers → WritesDelta p.slots numbers d p.rows new → CellsAreApart new → IsPool p → IsPool (record { rows = new; slots = p.slots; sweep_index = p.sweep_index })
written_pool p numbers d new can w apart pool = record {
  slots = pool.slots;
  apart = apart;
  clean = λ u one. clean_still u one (slot_at p.slots u) refl (pool.clean u one);
}
  where
    unlisted : (u : ℕ) → is_live (slot_at p.slots u) ≡ false → (t : Bool) → is_listed numbers u ≡ t → is_listed numbers u ≡ false
    unlisted u idle true k = absurd (true≢false (sym (can.live u k) ∙ idle))
    unlisted u idle false k = k

    clean_still : (u : ℕ) → 1 ≤ u → (slot : SlotState) → slot_at p.slots u ≡ slot → IsClean p.rows p.sweep_index u slot → IsClean new p.sweep_index u slot
    clean_still u one state.Free e h = λ n. w.bits u one (unlisted u (ap is_live e) (is_listed numbers u) refl) n ∙ h n
    clean_still u one (state.Released true) e h = λ n g. w.bits u one (unlisted u (ap is_live e) (is_listed numbers u) refl) n ∙ h n g
    clean_still u one (state.Released false) e h = tt
    clean_still u one (state.Live z cols) e h = tt
