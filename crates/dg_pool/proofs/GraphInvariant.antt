-- What holds of the slots, and of their bits, after each call.
use Rattle.std.proofs.Common.{arith, ◌≡◌, ℕ, suc, zero, ◌<◌, ◌≤◌, Bool, true, false, cond, eqb, List, [], ◌∷◌, Option, Some, None, length, set, refl, sym, ap, ◌∙◌, subst, ◌⊎◌, inl, inr}
use Rattle.std.proofs.lemmas.Bool.{cases_eq, cases_lt, true≢false, eq-eqb, ne_eqb}
use Rattle.std.proofs.lemmas.List.{get_or_past, get_or-set_same, get_or-set_other, length-set}
use Rattle.dg_graph.specs.declared.element.Element.{Element}
use Rattle.dg_graph.specs.declared.element.Columns.{Columns}
use Rattle.dg_graph.specs.Elements.{has, same}
use Rattle.dg_graph.proofs.Sets.{same_members, element_exact}
use Rattle.dg_pool.specs.declared.slots.Base.{Base}
use Rattle.dg_pool.specs.declared.slots.Slot.{Slot}
use Rattle.dg_pool.specs.declared.slots.Base.TheVariants as base
use Rattle.dg_pool.specs.declared.slots.SlotState.{SlotState}
use Rattle.dg_pool.specs.declared.slots.SlotState.TheVariants as state
use Rattle.dg_cells.specs.Rows.{Row, cell_at, CellsAreApart, Lacks}
use Rattle.dg_pool.specs.Graphs.{slot_at, pair_at, is_live, AreSlots, IsBased, IsBaseFor, IsClean, IsPool, SameGraphs, graph_as, picked}
use Rattle.dg_pool.specs.Sweeps.{is_swept, is_needed, CellsSwept, remains, element_of, begun, ended, started, union_of, cells_of, remains_in, PassesCells}
use Rattle.dg_pool.specs.Slots.{rests_on, NoneOn, is_free}
use Rattle.dg_pool.proofs.GraphSets.{picked_set, picked_decides, picked_nothing}
use Rattle.dg_pool.proofs.SweepUnions.{union_decides, union_lacks, union_same, IsSet-union_of}

idle_based : (slots : List SlotState) (slot : SlotState) → is_live slot ≡ false → IsBased slots slot
idle_based slots state.Free e = tt
idle_based slots (state.Released swept) e = tt
idle_based slots (state.Live b cols) e = cc

-- ---- the states of slots are mapped, and the live ones stay

module _ (f : SlotState → SlotState) (live : (b : Base) (cols : Columns) → f (state.Live b cols) ≡ state.Live b cols) (idle : (slot : SlotState) → is_live slot ≡ false → is_live (f slot) ≡ false) where
  base_mapped : (cols : Columns) (slot : SlotState) → IsBaseFor cols slot → IsBaseFor cols (f slot)
  base_mapped cols state.Free h = absurd h
  base_mapped cols (state.Released swept) h = absurd h
  base_mapped cols (state.Live base.Nothing all) h = subst (IsBaseFor cols) (sym (live base.Nothing all)) h
  base_mapped cols (state.Live base.Now all) h = absurd h
  base_mapped cols (state.Live (base.Slot b) all) h = absurd h

  module _ (old new : List SlotState) (count : length new ≡ 128) (at : (s : ℕ) → slot_at new s ≡ f (slot_at old s)) (free : f state.Free ≡ state.Free) (fit : AreSlots old) where
    based_mapped : (slot : SlotState) → IsBased old slot → IsBased new (f slot)
    based_mapped state.Free h = idle_based new (f state.Free) (idle state.Free refl)
    based_mapped (state.Released swept) h = idle_based new (f (state.Released swept)) (idle (state.Released swept) refl)
    based_mapped (state.Live base.Nothing cols) h = subst (IsBased new) (sym (live base.Nothing cols)) tt
    based_mapped (state.Live base.Now cols) h = subst (IsBased new) (sym (live base.Now cols)) tt
    based_mapped (state.Live (base.Slot b) cols) h =
        subst (IsBased new) (sym (live (base.Slot b) cols)) (subst (IsBaseFor cols) (sym (at b.0)) (base_mapped cols (slot_at old b.0) h))

    pub slots_mapped : AreSlots new
    slots_mapped = record {
      count = count;
      first = at 0 ∙ ap f fit.first ∙ free;
      bases = λ s h. subst (IsBased new) (sym (at s)) (based_mapped (slot_at old s) (fit.bases s h));
    }

pub begun_live : (b : Base) (cols : Columns) → begun (state.Live b cols) ≡ state.Live b cols
begun_live b cols = refl

pub begun_idle : (slot : SlotState) → is_live slot ≡ false → is_live (begun slot) ≡ false
begun_idle state.Free e = refl
begun_idle (state.Released swept) e = refl
begun_idle (state.Live b cols) e = e

pub begun_back : (slot : SlotState) → is_free (begun slot) ≡ true → is_free slot ≡ true
begun_back state.Free e = refl
begun_back (state.Released swept) e = e
begun_back (state.Live b cols) e = e

pub ended_live : (b : Base) (cols : Columns) → ended (state.Live b cols) ≡ state.Live b cols
ended_live b cols = refl

pub ended_idle : (slot : SlotState) → is_live slot ≡ false → is_live (ended slot) ≡ false
ended_idle state.Free e = refl
ended_idle (state.Released true) e = refl
ended_idle (state.Released false) e = refl
ended_idle (state.Live b cols) e = e

pub seen_begun : (rows : List (Option Row)) (s : ℕ) (slot : SlotState) → graph_as rows s (begun slot) ≡ graph_as rows s slot
seen_begun rows s state.Free = refl
seen_begun rows s (state.Released swept) = refl
seen_begun rows s (state.Live b cols) = refl

pub seen_ended : (rows : List (Option Row)) (s : ℕ) (slot : SlotState) → graph_as rows s (ended slot) ≡ graph_as rows s slot
seen_ended rows s state.Free = refl
seen_ended rows s (state.Released true) = refl
seen_ended rows s (state.Released false) = refl
seen_ended rows s (state.Live b cols) = refl

-- ---- a slot is released

module _ (slots : List SlotState) (fit : AreSlots slots) (t : ℕ) (within : t < 128) (one : 1 ≤ t) (none : NoneOn slots t) where
  abbrev after : List SlotState
  after = set slots t (state.Released false)

  other : (s : ℕ) → (s ≡ t → ⊥) → slot_at after s ≡ slot_at slots s
  other s d = get_or-set_other slots t s (state.Released false) state.Free d

  here : slot_at after t ≡ state.Released false
  here = let count = fit.count in get_or-set_same slots t (state.Released false) state.Free (omega arith)

  not_resting : (s : ℕ) (b : Slot) (cols : Columns) → slot_at slots s ≡ state.Live (base.Slot b) cols → b.0 ≡ t → ⊥
  not_resting s b cols e tied = at (cases_lt s 128)
    where
      at : (s < 128) ⊎ (128 ≤ s) → ⊥
      at (inl h) = true≢false (sym (eq-eqb b.0 t tied) ∙ sym (ap (rests_on t) e) ∙ none s h)
      at (inr h) = let count = fit.count in let past : state.Free ≡ state.Live (base.Slot b) cols = sym (get_or_past slots s state.Free (omega arith)) ∙ e in cc

  based_still : (s : ℕ) (slot : SlotState) → slot_at slots s ≡ slot → IsBased slots slot → IsBased after slot
  based_still s state.Free e h = tt
  based_still s (state.Released swept) e h = tt
  based_still s (state.Live base.Nothing cols) e h = tt
  based_still s (state.Live base.Now cols) e h = tt
  based_still s (state.Live (base.Slot b) cols) e h =
      subst (IsBaseFor cols) (sym (other b.0 (not_resting s b cols e))) h

  based_at : (s : ℕ) → 1 ≤ s → ((s ≡ t) ⊎ (s ≡ t → ⊥)) → IsBased after (slot_at after s)
  based_at s h (inl e) = subst (IsBased after) (sym (ap (slot_at after) e ∙ here)) tt
  based_at s h (inr d) = subst (IsBased after) (sym (other s d)) (based_still s (slot_at slots s) refl (fit.bases s h))

  pub slots_released : AreSlots after
  slots_released = record {
    count = length-set slots t (state.Released false) ∙ fit.count;
    first = other 0 (λ e. omega arith) ∙ fit.first;
    bases = λ s h. based_at s h (cases_eq s t);
  }

  clean_at : (rows : List (Option Row)) (sweep_index s : ℕ) → IsClean rows sweep_index s (slot_at slots s) → ((s ≡ t) ⊎ (s ≡ t → ⊥)) → IsClean rows sweep_index s (slot_at after s)
  clean_at rows sweep_index s h (inl e) = subst (IsClean rows sweep_index s) (sym (ap (slot_at after) e ∙ here)) tt
  clean_at rows sweep_index s h (inr d) = subst (IsClean rows sweep_index s) (sym (other s d)) h

  pub released_pool : (rows : List (Option Row)) (sweep_index : ℕ) → IsPool (record { rows = rows; slots = slots; sweep_index = sweep_index }) → IsPool (record { rows = rows; slots = after; sweep_index = sweep_index })
  released_pool rows sweep_index p = record {
    slots = slots_released;
    apart = p.apart;
    clean = λ s h. clean_at rows sweep_index s (p.clean s h) (cases_eq s t);
  }

pub live_from_one : (slots : List SlotState) → AreSlots slots → (s : ℕ) → is_live (slot_at slots s) ≡ true → 1 ≤ s
live_from_one slots fit s live = at s refl
  where
    at : (n : ℕ) → s ≡ n → 1 ≤ s
    at zero z = absurd (true≢false (sym live ∙ ap (λ n. is_live (slot_at slots n)) z ∙ ap is_live fit.first))
    at (suc n) z = omega arith

pub live_within : (slots : List SlotState) → length slots ≡ 128 → (s : ℕ) → is_live (slot_at slots s) ≡ true → s < 128
live_within slots count s live = at (cases_lt s 128)
  where
    at : (s < 128) ⊎ (128 ≤ s) → s < 128
    at (inl h) = h
    at (inr h) = let past : false ≡ true = sym (ap is_live (get_or_past slots s state.Free (omega arith))) ∙ live in cc

-- ---- a cell for an element, or none

row_past : (o : Option Row) (rows : List (Option Row)) (x : Element) → ((r : Row) → o ≡ Some r → same x r.element ≡ false) → Lacks rows x → Lacks (o ∷ rows) x
row_past o rows x first rest zero r e = first r e
row_past o rows x first rest (suc n) r e = rest n r e

pub row_or_none : (rows : List (Option Row)) (x : Element) → ((n : ℕ) × (r : Row) × (cell_at rows n ≡ Some r) × (r.element ≡ x)) ⊎ Lacks rows x
row_or_none [] x = inr (λ n r e. let none : None ≡ Some r = e in cc)
row_or_none (None ∷ rows) x = elim (row_or_none rows x) [
  | inl f ↦ inl (suc f.0, f.1, f.2, f.3)
  | inr lacks ↦ inr (row_past None rows x (λ r e. let none : None ≡ Some r = e in cc) lacks)
]
row_or_none (Some r ∷ rows) x = at (same x r.element) refl (row_or_none rows x)
  where
    at : (t : Bool) → same x r.element ≡ t → ((n : ℕ) × (q : Row) × (cell_at rows n ≡ Some q) × (q.element ≡ x)) ⊎ Lacks rows x → ((n : ℕ) × (q : Row) × (cell_at (Some r ∷ rows) n ≡ Some q) × (q.element ≡ x)) ⊎ Lacks (Some r ∷ rows) x
    at true e f = inl (0, r, refl, sym (element_exact x r.element e))
    at false e (inl f) = inl (suc f.0, f.1, f.2, f.3)
    at false e (inr lacks) = inr (row_past (Some r) rows x (λ q g. let one : r ≡ q = cc in ap (λ (z : Row). same x z.element) (sym one) ∙ e) lacks)

-- ---- after a sweep

clean_of : (rows : List (Option Row)) (until s : ℕ) (t : SlotState) → (is_free t ≡ true → (n : ℕ) → pair_at s (cell_at rows n) ≡ (false, false)) → (is_swept t ≡ true → (n : ℕ) → n < until → pair_at s (cell_at rows n) ≡ (false, false)) → IsClean rows until s t
clean_of rows until s state.Free free swept = free refl
clean_of rows until s (state.Released true) free swept = swept refl
clean_of rows until s (state.Released false) free swept = tt
clean_of rows until s (state.Live b cols) free swept = tt

clean_ended : (rows : List (Option Row)) (s : ℕ) (t : SlotState) → (is_free t ≡ true → (n : ℕ) → pair_at s (cell_at rows n) ≡ (false, false)) → (is_swept t ≡ true → (n : ℕ) → pair_at s (cell_at rows n) ≡ (false, false)) → IsClean rows 0 s (ended t)
clean_ended rows s state.Free free swept = free refl
clean_ended rows s (state.Released true) free swept = swept refl
clean_ended rows s (state.Released false) free swept = tt
clean_ended rows s (state.Live b cols) free swept = tt

pub free_is : (slot : SlotState) → is_free slot ≡ true → slot ≡ state.Free
free_is state.Free e = refl
free_is (state.Released swept) e = cc
free_is (state.Live b cols) e = cc

module _ (sweep_index : ℕ) where
  pub started_live : (b : Base) (cols : Columns) → started sweep_index (state.Live b cols) ≡ state.Live b cols
  started_live b cols = elim (eqb sweep_index 0) as (λ t. cond t (state.Live b cols) (state.Live b cols) ≡ state.Live b cols) [ true ↦ refl | false ↦ refl ]

  pub started_free : started sweep_index state.Free ≡ state.Free
  started_free = elim (eqb sweep_index 0) as (λ t. cond t state.Free state.Free ≡ state.Free) [ true ↦ refl | false ↦ refl ]

  pub started_idle : (slot : SlotState) → is_live slot ≡ false → is_live (started sweep_index slot) ≡ false
  started_idle slot e = elim (eqb sweep_index 0) as (λ t. is_live (cond t (begun slot) slot) ≡ false) [ true ↦ begun_idle slot e | false ↦ e ]

  pub started_back : (slot : SlotState) → is_free (started sweep_index slot) ≡ true → is_free slot ≡ true
  started_back slot = elim (eqb sweep_index 0) as (λ t. is_free (cond t (begun slot) slot) ≡ true → is_free slot ≡ true) [ true ↦ begun_back slot | false ↦ λ e. e ]

  pub seen_started : (rows : List (Option Row)) (s : ℕ) (slot : SlotState) → graph_as rows s (started sweep_index slot) ≡ graph_as rows s slot
  seen_started rows s slot = elim (eqb sweep_index 0) as (λ t. graph_as rows s (cond t (begun slot) slot) ≡ graph_as rows s slot) [ true ↦ seen_begun rows s slot | false ↦ refl ]

-- where a sweep that goes on or begins, the slots that it clears have no bit before its index
pub cleared_before : (rows : List (Option Row)) (sweep_index s : ℕ) (slot : SlotState) → IsClean rows sweep_index s slot → is_swept (started sweep_index slot) ≡ true → (n : ℕ) → n < sweep_index → pair_at s (cell_at rows n) ≡ (false, false)
cleared_before rows zero s slot k e n h = absurd (omega arith)
cleared_before rows (suc p) s slot k e n h = by slot k (sym (ap (λ t. is_swept (cond t (begun slot) slot)) (ne_eqb (suc p) 0 (λ z. omega arith))) ∙ e)
  where
    by : (t : SlotState) → IsClean rows (suc p) s t → is_swept t ≡ true → pair_at s (cell_at rows n) ≡ (false, false)
    by state.Free k e = k n
    by (state.Released true) k e = k n h
    by (state.Released false) k e = cc
    by (state.Live b cols) k e = cc

module _ (f : SlotState → SlotState) (live : (b : Base) (cols : Columns) → f (state.Live b cols) ≡ state.Live b cols) (idle : (slot : SlotState) → is_live slot ≡ false → is_live (f slot) ≡ false) (free : f state.Free ≡ state.Free) (back : (slot : SlotState) → is_free (f slot) ≡ true → is_free slot ≡ true)
    (same_seen : (rows : List (Option Row)) (s : ℕ) (slot : SlotState) → graph_as rows s (f slot) ≡ graph_as rows s slot)
    (slots mid : List SlotState) (rows after : List (Option Row)) (sweep_index : ℕ) (p : IsPool (record { rows = rows; slots = slots; sweep_index = sweep_index }))
    (count_mid : length mid ≡ 128) (begins : (s : ℕ) → slot_at mid s ≡ f (slot_at slots s))
    (from until : ℕ) (w : CellsSwept mid rows after from until) (apart : CellsAreApart after)
    (cleared : (s : ℕ) → 1 ≤ s → is_swept (slot_at mid s) ≡ true → (n : ℕ) → n < from → pair_at s (cell_at rows n) ≡ (false, false)) where
  pub slots_mid : AreSlots mid
  slots_mid = slots_mapped f live idle slots mid count_mid begins free p.slots

  bits_below : (s : ℕ) → 1 ≤ s → is_swept (slot_at mid s) ≡ true → (n : ℕ) → n < until → pair_at s (cell_at after n) ≡ (false, false)
  bits_below s h e n below = at (cases_lt n from)
    where
      at : (n < from) ⊎ (from ≤ n) → pair_at s (cell_at after n) ≡ (false, false)
      at (inl k) = ap (pair_at s) (w.before n k) ∙ cleared s h e n k
      at (inr k) = w.cleared s h e n k below

  bits_free : (s : ℕ) → 1 ≤ s → is_free (slot_at mid s) ≡ true → (n : ℕ) → pair_at s (cell_at after n) ≡ (false, false)
  bits_free s h e n =
      let was : slot_at slots s ≡ state.Free = free_is (slot_at slots s) (back (slot_at slots s) (ap is_free (sym (begins s)) ∙ e)) in
      w.free s h n (subst (IsClean rows sweep_index s) was (p.clean s h) n)

  pub more_pool : IsPool (record { rows = after; slots = mid; sweep_index = until })
  more_pool = record {
    slots = slots_mid;
    apart = apart;
    clean = λ s h. clean_of after until s (slot_at mid s) (bits_free s h) (bits_below s h);
  }

  pub swept_graphs : SameGraphs (record { rows = rows; slots = slots; sweep_index = sweep_index }) (record { rows = after; slots = mid; sweep_index = until })
  swept_graphs = record { now = w.now; slots = λ s. w.graphs s ∙ ap (graph_as rows s) (begins s) ∙ same_seen rows s (slot_at slots s) }

  more_graphs : SameGraphs (record { rows = rows; slots = slots; sweep_index = sweep_index }) (record { rows = rows; slots = mid; sweep_index = sweep_index })
  more_graphs = record { now = refl; slots = λ s. ap (graph_as rows s) (begins s) ∙ same_seen rows s (slot_at slots s) }

  union_mid : union_of (record { rows = rows; slots = mid; sweep_index = sweep_index }) ≡ union_of (record { rows = rows; slots = slots; sweep_index = sweep_index })
  union_mid = let a = count_mid in let b = p.slots.count in union_same (record { rows = rows; slots = slots; sweep_index = sweep_index }) (record { rows = rows; slots = mid; sweep_index = sweep_index }) (omega arith) more_graphs

  needed_in : (n : ℕ) (q : Row) → cell_at rows n ≡ Some q → has (union_of (record { rows = rows; slots = slots; sweep_index = sweep_index })) q.element ≡ is_needed mid q
  needed_in n q e = ap (λ u. has u q.element) (sym union_mid) ∙ union_decides (record { rows = rows; slots = mid; sweep_index = sweep_index }) slots_mid p.apart n q e

  remains_same : (n : ℕ) (o : Option Row) → cell_at rows n ≡ o → remains mid o ≡ remains_in (union_of (record { rows = rows; slots = slots; sweep_index = sweep_index })) o
  remains_same n None e = refl
  remains_same n (Some q) e = ap (λ t. cond t (Some q.element) None) (sym (needed_in n q e))

  pub sweep_passes : (new : List SlotState) (to : ℕ) → PassesCells (record { rows = rows; slots = slots; sweep_index = sweep_index }) (record { rows = after; slots = new; sweep_index = to }) from until
  sweep_passes new to = record {
    passed = λ n low high. w.passed n low high ∙ remains_same n (cell_at rows n) refl;
    before = λ n h. ap element_of (w.before n h);
    behind = λ n h. ap element_of (w.behind n h);
  }

  module _ (new : List SlotState) (count_new : length new ≡ 128) (ends : (s : ℕ) → slot_at new s ≡ ended (slot_at mid s)) (all : length after ≤ until) where
    bits_all : (s : ℕ) → 1 ≤ s → is_swept (slot_at mid s) ≡ true → (n : ℕ) → pair_at s (cell_at after n) ≡ (false, false)
    bits_all s h e n = at (cases_lt n until)
      where
        at : (n < until) ⊎ (until ≤ n) → pair_at s (cell_at after n) ≡ (false, false)
        at (inl k) = bits_below s h e n k
        at (inr k) = ap (pair_at s) (get_or_past after n None (omega arith))

    pub done_pool : IsPool (record { rows = after; slots = new; sweep_index = 0 })
    done_pool = record {
      slots = slots_mapped ended ended_live ended_idle mid new count_new ends refl slots_mid;
      apart = apart;
      clean = λ s h. subst (IsClean after 0 s) (sym (ends s)) (clean_ended after s (slot_at mid s) (bits_free s h) (bits_all s h));
    }

    pub done_graphs : SameGraphs (record { rows = rows; slots = slots; sweep_index = sweep_index }) (record { rows = after; slots = new; sweep_index = 0 })
    done_graphs = record {
      now = w.now;
      slots = λ s. ap (graph_as after s) (ends s) ∙ seen_ended after s (slot_at mid s) ∙ w.graphs s ∙ ap (graph_as rows s) (begins s) ∙ same_seen rows s (slot_at slots s);
    }

    union_done : union_of (record { rows = after; slots = new; sweep_index = 0 }) ≡ union_of (record { rows = rows; slots = slots; sweep_index = sweep_index })
    union_done = let a = count_new in let b = p.slots.count in union_same (record { rows = rows; slots = slots; sweep_index = sweep_index }) (record { rows = after; slots = new; sweep_index = 0 }) (omega arith) done_graphs

    -- what is left of a cell that was passed is in the union
    left_in : (all_of : List Element) (o : Option Row) (r : Row) → Some r.element ≡ remains_in all_of o → has all_of r.element ≡ true
    left_in all_of None r e = cc
    left_in all_of (Some q) r e = at (has all_of q.element) refl e
      where
        at : (t : Bool) → has all_of q.element ≡ t → Some r.element ≡ cond (has all_of q.element) (Some q.element) None → has all_of r.element ≡ true
        at true g h =
            let one : Some r.element ≡ Some q.element = h ∙ ap (λ t. cond t (Some q.element) None) g in
            let tied : r.element ≡ q.element = cc in
            ap (has all_of) tied ∙ g
        at false g h =
            let none : Some r.element ≡ None = h ∙ ap (λ t. cond t (Some q.element) None) g in
            cc

    kept_in : from ≡ 0 → (n : ℕ) (r : Row) → cell_at after n ≡ Some r → has (union_of (record { rows = rows; slots = slots; sweep_index = sweep_index })) r.element ≡ true
    kept_in whole n r e = at (cases_lt n until)
      where
        at : (n < until) ⊎ (until ≤ n) → has (union_of (record { rows = rows; slots = slots; sweep_index = sweep_index })) r.element ≡ true
        at (inl k) = left_in (union_of (record { rows = rows; slots = slots; sweep_index = sweep_index })) (cell_at rows n) r (sym (ap element_of e) ∙ w.passed n (omega arith) k ∙ remains_same n (cell_at rows n) refl)
        at (inr k) = let past : None ≡ Some r = sym (get_or_past after n None (omega arith)) ∙ e in cc

    -- the cells that are left are exactly the union
    pub cells_are_union : from ≡ 0 → cells_of (record { rows = after; slots = new; sweep_index = 0 }) ≡ union_of (record { rows = after; slots = new; sweep_index = 0 })
    cells_are_union whole =
        same_members (cells_of (record { rows = after; slots = new; sweep_index = 0 })) (union_of (record { rows = after; slots = new; sweep_index = 0 })) (picked_set (λ r. true) after) (IsSet-union_of (record { rows = after; slots = new; sweep_index = 0 }))
        (λ x. at x (row_or_none after x))
      where
        at : (x : Element) → ((n : ℕ) × (r : Row) × (cell_at after n ≡ Some r) × (r.element ≡ x)) ⊎ Lacks after x → has (picked (λ r. true) after) x ≡ has (union_of (record { rows = after; slots = new; sweep_index = 0 })) x
        at x (inl f) =
            picked_decides (λ r. true) after x f.0 f.1 apart f.2 f.3
            ∙ sym (ap (λ u. has u x) union_done ∙ ap (has (union_of (record { rows = rows; slots = slots; sweep_index = sweep_index }))) (sym f.3) ∙ kept_in whole f.0 f.1 f.2)
        at x (inr lacks) = picked_nothing (λ r. true) after x lacks ∙ sym (union_lacks (record { rows = after; slots = new; sweep_index = 0 }) x lacks)
