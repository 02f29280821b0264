-- What a sweep leaves of the cells that it passes.
use Rattle.std.proofs.Common.{arith, ◌≡◌, ℕ, suc, zero, ◌+◌, ◌<◌, ◌≤◌, Bool, true, false, cond, not, ◌*◌, ◌&&◌, List, [], ◌∷◌, Option, Some, None, length, set, take, is_some, refl, sym, ap, ◌∙◌, subst, ◌⊎◌, inl, inr}
use Rattle.std.specs.List.{count_by}
use Rattle.std.proofs.lemmas.Bool.{cases_eq, cases_lt, true≢false, or_left, or_right, or_from, and_parts}
use Rattle.std.proofs.lemmas.List.{get_or_past, length-take, take_all}
use Rattle.std.proofs.lemmas.List.Sums.{count_by_more_yes, count_by_more_no, count_by-le-length}
use Rattle.dg_graph.specs.declared.element.Column.{Column}
use Rattle.dg_graph.specs.declared.element.Columns.{Columns}
use Rattle.dg_graph.specs.Elements.{asks, column_of}
use Rattle.dg_delta.specs.Deltas.{is_in_after}
use Rattle.dg_pool.specs.declared.slots.Base.{Base}
use Rattle.dg_pool.specs.declared.slots.Base.TheVariants as base
use Rattle.dg_pool.specs.declared.slots.SlotState.{SlotState}
use Rattle.dg_pool.specs.declared.slots.SlotState.TheVariants as state
use Rattle.dg_cells.specs.Rows.{Row, cell_at, Writes, ClearsBits, has_bit, word_bit, is_current, pair}
use Rattle.dg_pool.specs.Graphs.{slot_at, pair_at, is_live, AreSlots, IsBased, IsBaseFor, slot_says, pair_says, in_base, in_slot, given, graph_as, PoolState}
use Rattle.dg_pool.specs.Masks.{is_asking, IsAskingMask, IsSweptMask}
use Rattle.dg_pool.proofs.MaskBits.{word_bit-past}
use Rattle.dg_pool.specs.Sweeps.{is_swept, wants, wanted_from, is_needed, Clears, CellsSwept, remains, element_of, cells_below, PassesCells}
use Rattle.dg_cells.proofs.RowChanges.{cell_past, cell_there}
use Rattle.dg_pool.proofs.GraphSets.{picked_same}
use Rattle.dg_cells.proofs.RowChanges.{cell_written}

-- ---- which cells are needed

live_from_one : (slots : List SlotState) → AreSlots slots → (s : ℕ) → is_live (slot_at slots s) ≡ true → 1 ≤ s
live_from_one slots fit s live = at s refl
  where
    at : (n : ℕ) → s ≡ n → 1 ≤ s
    at zero z = absurd (true≢false (sym live ∙ ap (λ n. is_live (slot_at slots n)) z ∙ ap is_live fit.first))
    at (suc n) z = omega arith

wanted_at : (s : ℕ) (slots : List SlotState) (k : ℕ) (r : Row) → wants (s + k) (slot_at slots k) r ≡ true → wanted_from s slots r ≡ true
wanted_at s [] k r e = cc
wanted_at s (slot ∷ slots) zero r e =
    let same : s + 0 ≡ s = omega arith in
    or_left (wants s slot r) (wanted_from (s + 1) slots r) (ap (λ n. wants n slot r) (sym same) ∙ e)
wanted_at s (slot ∷ slots) (suc k) r e =
    let same : (s + 1) + k ≡ s + suc k = omega arith in
    or_right (wants s slot r) (wanted_from (s + 1) slots r) (wanted_at (s + 1) slots k r (ap (λ n. wants n (slot_at slots k) r) same ∙ e))

pub wanted : (slots : List SlotState) (s : ℕ) (r : Row) → wants s (slot_at slots s) r ≡ true → is_needed slots r ≡ true
wanted slots s r e =
    let same : 0 + s ≡ s = omega arith in
    or_right (is_current r) (wanted_from 0 slots r) (wanted_at 0 slots s r (ap (λ n. wants n (slot_at slots s) r) same ∙ e))

base_wants : (b : ℕ) (cols : Columns) (slot : SlotState) (r : Row) → IsBaseFor cols slot → asks cols (column_of r.element) ≡ true → is_in_after (slot_says b r) false ≡ true → wants b slot r ≡ true
base_wants b cols state.Free r h a e = absurd h
base_wants b cols (state.Released swept) r h a e = absurd h
base_wants b cols (state.Live base.Nothing all) r h a e = ap (λ t. t && is_in_after (slot_says b r) false) (h r.element a) ∙ e
base_wants b cols (state.Live base.Now all) r h a e = absurd h
base_wants b cols (state.Live (base.Slot o) all) r h a e = absurd h

-- a member by the base, or by the slot's own word
by_word : (e o base_has : Bool) → is_in_after (pair_says (e, o)) base_has ≡ true → (is_in_after (pair_says (e, o)) false ≡ true) ⊎ (base_has ≡ true)
by_word true true b h = inl refl
by_word true false b h = cc
by_word false o b h = inr h

module _ (slots : List SlotState) (fit : AreSlots slots) (r : Row) where
  by_base : (s : ℕ) (b : Base) (cols : Columns) → slot_at slots s ≡ state.Live b cols → asks cols (column_of r.element) ≡ true → in_base b r ≡ true → is_needed slots r ≡ true
  by_base s base.Nothing cols e a h = cc
  by_base s base.Now cols e a h = or_left (is_current r) (wanted_from 0 slots r) h
  by_base s (base.Slot b) cols e a h =
      let based = subst (IsBased slots) e (fit.bases s (live_from_one slots fit s (ap is_live e))) in
      wanted slots b.0 r (base_wants b.0 cols (slot_at slots b.0) r based a h)

  -- what a live slot has is needed
  pub member_needed : (s : ℕ) (b : Base) (cols : Columns) → slot_at slots s ≡ state.Live b cols → in_slot s b cols r ≡ true → is_needed slots r ≡ true
  member_needed s b cols e h =
      let parts = and_parts (asks cols (column_of r.element)) (is_in_after (slot_says s r) (in_base b r)) h in
      at parts.0 (by_word (pair s r).0 (pair s r).1 (in_base b r) parts.1)
    where
      at : asks cols (column_of r.element) ≡ true → ((is_in_after (slot_says s r) false ≡ true) ⊎ (in_base b r ≡ true)) → is_needed slots r ≡ true
      at a (inl own) = wanted slots s r (ap (λ slot. wants s slot r) e ∙ ap (λ t. t && is_in_after (slot_says s r) false) a ∙ own)
      at a (inr base_has) = by_base s b cols e a base_has

  not_member : (s : ℕ) (b : Base) (cols : Columns) → slot_at slots s ≡ state.Live b cols → is_needed slots r ≡ false → in_slot s b cols r ≡ false
  not_member s b cols e needless = at (in_slot s b cols r) refl
    where
      at : (t : Bool) → in_slot s b cols r ≡ t → in_slot s b cols r ≡ false
      at true h = absurd (true≢false (sym (member_needed s b cols e h) ∙ needless))
      at false h = h

  not_current : is_needed slots r ≡ false → is_current r ≡ false
  not_current needless = at (is_current r) refl
    where
      at : (t : Bool) → is_current r ≡ t → is_current r ≡ false
      at true h = absurd (true≢false (sym (or_left (is_current r) (wanted_from 0 slots r) h) ∙ needless))
      at false h = h

-- ---- by masks

asking_wants : (column : Column) (s : ℕ) (slot : SlotState) (r : Row) → column_of r.element ≡ column → is_asking column slot ≡ true → pair s r ≡ (true, true) → wants s slot r ≡ true
asking_wants column s state.Free r is e p = cc
asking_wants column s (state.Released swept) r is e p = cc
asking_wants column s (state.Live b cols) r is e p =
    (λ i. asks cols (is i) && is_in_after (pair_says (p i)) false) ∙ ap (λ t. t && true) e

unasked_wants : (column : Column) (s : ℕ) (slot : SlotState) (r : Row) → column_of r.element ≡ column → is_asking column slot ≡ false → wants s slot r ≡ false
unasked_wants column s state.Free r is e = refl
unasked_wants column s (state.Released swept) r is e = refl
unasked_wants column s (state.Live b cols) r is e = ap (λ t. t && is_in_after (slot_says s r) false) (ap (asks cols) is ∙ e)

not_both_wants : (s : ℕ) (slot : SlotState) (r : Row) → ((pair s r).0 && (pair s r).1) ≡ false → wants s slot r ≡ false
not_both_wants s state.Free r e = refl
not_both_wants s (state.Released swept) r e = refl
not_both_wants s (state.Live b cols) r e = at (asks cols (column_of r.element)) (pair s r).0 (pair s r).1 e
  where
    at : (t a b : Bool) → (a && b) ≡ false → (t && is_in_after (pair_says (a, b)) false) ≡ false
    at false a b e = refl
    at true true true e = cc
    at true true false e = refl
    at true false b e = refl

none_wanted : (s : ℕ) (slots : List SlotState) (r : Row) → ((k : ℕ) → wants (s + k) (slot_at slots k) r ≡ false) → wanted_from s slots r ≡ false
none_wanted s [] r f = refl
none_wanted s (slot ∷ slots) r f =
    let here : s + 0 ≡ s = omega arith in
    or_from (wants s slot r) (wanted_from (s + 1) slots r) (ap (λ n. wants n slot r) (sym here) ∙ f 0)
    (none_wanted (s + 1) slots r (λ k. let next : (s + 1) + k ≡ s + suc k = omega arith in ap (λ n. wants n (slot_at slots k) r) next ∙ f (suc k)))

-- a cell whose current bit is off is needed where a slot that asks for its column has both its bits there
pub needed_by_mask : (slots : List SlotState) → AreSlots slots → (column : Column) (mask : List ℕ) (r : Row) → IsAskingMask column slots mask → column_of r.element ≡ column → is_current r ≡ false → (t : Bool)
    → (t ≡ true → (s : ℕ) × (s < 128) × (word_bit mask (2 * s) ≡ true) × (pair s r ≡ (true, true)))
    → (t ≡ false → (s : ℕ) → s < 128 → word_bit mask (2 * s) ≡ true → ((pair s r).0 && (pair s r).1) ≡ false)
    → t ≡ is_needed slots r
needed_by_mask slots fit column mask r m is off true some none =
    let f = some refl in
    sym (wanted slots f.0 r (asking_wants column f.0 (slot_at slots f.0) r is (sym (m.explicit f.0 f.1) ∙ f.2) f.3))
needed_by_mask slots fit column mask r m is off false some none =
    sym (or_from (is_current r) (wanted_from 0 slots r) off (none_wanted 0 slots r (λ k. let same : 0 + k ≡ k = omega arith in ap (λ n. wants n (slot_at slots k) r) same ∙ at k (cases_lt k 128))))
  where
    by : (k : ℕ) → k < 128 → (t : Bool) → word_bit mask (2 * k) ≡ t → wants k (slot_at slots k) r ≡ false
    by k h true e = not_both_wants k (slot_at slots k) r (none refl k h e)
    by k h false e = unasked_wants column k (slot_at slots k) r is (sym (m.explicit k h) ∙ e)

    at : (k : ℕ) → (k < 128) ⊎ (128 ≤ k) → wants k (slot_at slots k) r ≡ false
    at k (inl h) = by k h (word_bit mask (2 * k)) refl
    at k (inr h) = let count = fit.count in ap (λ slot. wants k slot r) (get_or_past slots k state.Free (omega arith))

-- the bits of the slots that are swept are cleared, and no others
pub cleared_by_mask : (slots : List SlotState) → AreSlots slots → (mask : List ℕ) → IsSweptMask slots mask → (a c : Row) → ClearsBits mask a c → Clears slots a c
cleared_by_mask slots fit mask m a c f = record {
  element = f.element;
  current = f.bits 0 ∙ ap (λ t. has_bit a 0 && not t) (m.explicit 0 (omega arith) ∙ ap is_swept fit.first) ∙ stays (has_bit a 0);
  pairs = λ s low. at s (cases_lt s 128);
}
  where
    stays : (t : Bool) → (t && true) ≡ t
    stays true = refl
    stays false = refl

    gone : (t : Bool) → (t && false) ≡ false
    gone true = refl
    gone false = refl

    by : (t x y : Bool) (p : Bool × Bool) → p ≡ (x && not t, y && not t) → p ≡ cond t (false, false) (x, y)
    by true x y p e = e ∙ (λ i. (gone x i, gone y i))
    by false x y p e = e ∙ (λ i. (stays x i, stays y i))

    same : (s : ℕ) (t : Bool) → word_bit mask (2 * s) ≡ t → word_bit mask (2 * s + 1) ≡ t → pair s c ≡ (has_bit a (2 * s) && not t, has_bit a (2 * s + 1) && not t)
    same s t e g =
        let first = f.bits (2 * s) in
        let second = f.bits (2 * s + 1) in
        (λ i. (first i, second i)) ∙ (λ i. (has_bit a (2 * s) && not (e i), has_bit a (2 * s + 1) && not (g i)))

    at : (s : ℕ) → (s < 128) ⊎ (128 ≤ s) → pair s c ≡ cond (is_swept (slot_at slots s)) (false, false) (pair s a)
    at s (inl h) = by (is_swept (slot_at slots s)) (has_bit a (2 * s)) (has_bit a (2 * s + 1)) (pair s c) (same s (is_swept (slot_at slots s)) (m.explicit s h) (m.own s h))
    at s (inr h) =
        let count = fit.count in
        let out : is_swept (slot_at slots s) ≡ false = ap is_swept (get_or_past slots s state.Free (omega arith)) in
        by (is_swept (slot_at slots s)) (has_bit a (2 * s)) (has_bit a (2 * s + 1)) (pair s c)
        (same s (is_swept (slot_at slots s)) (word_bit-past mask (2 * s) m.len (omega arith) ∙ sym out) (word_bit-past mask (2 * s + 1) m.len (omega arith) ∙ sym out))

-- ---- a cell that stays

live_not_swept : (slot : SlotState) → is_live slot ≡ true → is_swept slot ≡ false
live_not_swept state.Free e = refl
live_not_swept (state.Released swept) e = cc
live_not_swept (state.Live b cols) e = refl

base_is_live : (cols : Columns) (slot : SlotState) → IsBaseFor cols slot → is_live slot ≡ true
base_is_live cols state.Free h = absurd h
base_is_live cols (state.Released swept) h = absurd h
base_is_live cols (state.Live b all) h = refl

module _ (slots : List SlotState) (fit : AreSlots slots) (a c : Row) (f : Clears slots a c) where
  live_pair : (s : ℕ) → is_live (slot_at slots s) ≡ true → pair s c ≡ pair s a
  live_pair s live =
      f.pairs s (live_from_one slots fit s live)
      ∙ ap (λ t. cond t (false, false) (pair s a)) (live_not_swept (slot_at slots s) live)

  base_same : (s : ℕ) (b : Base) (cols : Columns) → slot_at slots s ≡ state.Live b cols → in_base b c ≡ in_base b a
  base_same s base.Nothing cols e = refl
  base_same s base.Now cols e = f.current
  base_same s (base.Slot b) cols e =
      let based = subst (IsBased slots) e (fit.bases s (live_from_one slots fit s (ap is_live e))) in
      ap (λ p. is_in_after (pair_says p) false) (live_pair b.0 (base_is_live cols (slot_at slots b.0) based))

  pub cleared_member : (s : ℕ) (b : Base) (cols : Columns) → slot_at slots s ≡ state.Live b cols → in_slot s b cols c ≡ in_slot s b cols a
  cleared_member s b cols e =
      let own = live_pair s (ap is_live e) in
      let under = base_same s b cols e in
      λ i. asks cols (column_of (f.element i)) && is_in_after (pair_says (own i)) (under i)

  pub cleared_pair : (s : ℕ) → 1 ≤ s → is_swept (slot_at slots s) ≡ true → pair s c ≡ (false, false)
  cleared_pair s low e = f.pairs s low ∙ ap (λ t. cond t (false, false) (pair s a)) e

  pub free_pair : (s : ℕ) → 1 ≤ s → pair s a ≡ (false, false) → pair s c ≡ (false, false)
  free_pair s low e = f.pairs s low ∙ at (is_swept (slot_at slots s))
    where
      at : (t : Bool) → cond t (false, false) (pair s a) ≡ (false, false)
      at true = refl
      at false = e

-- ---- a cell is passed

-- the cells are as before but one
swept_by : (slots : List SlotState) (old : List (Option Row)) (n : ℕ) (o : Option Row) → n < length old
    → given is_current o ≡ given is_current (cell_at old n)
    → ((s : ℕ) (b : Base) (cols : Columns) → slot_at slots s ≡ state.Live b cols → given (in_slot s b cols) o ≡ given (in_slot s b cols) (cell_at old n))
    → element_of o ≡ remains slots (cell_at old n)
    → ((s : ℕ) → 1 ≤ s → is_swept (slot_at slots s) ≡ true → pair_at s o ≡ (false, false))
    → ((s : ℕ) → 1 ≤ s → pair_at s (cell_at old n) ≡ (false, false) → pair_at s o ≡ (false, false))
    → CellsSwept slots old (set old n o) n (n + 1)
swept_by slots old n o inside cur member left cleared free = record {
  now = picked_same is_current old n o cur;
  graphs = λ s. seen_at s (slot_at slots s) refl;
  before = λ m h. cell_past old n m o (λ e. omega arith);
  behind = λ m h. cell_past old n m o (λ e. omega arith);
  passed = λ m low high. let is : m ≡ n = omega arith in ap element_of (here m is) ∙ left ∙ ap (λ i. remains slots (cell_at old i)) (sym is);
  cleared = λ s one e m low high. let is : m ≡ n = omega arith in ap (pair_at s) (here m is) ∙ cleared s one e;
  free = λ s one m e. free_at s one m e (cases_eq m n);
}
  where
    here : (m : ℕ) → m ≡ n → cell_at (set old n o) m ≡ o
    here m is = ap (cell_at (set old n o)) is ∙ cell_written old n o inside

    seen_at : (s : ℕ) (slot : SlotState) → slot_at slots s ≡ slot → graph_as (set old n o) s slot ≡ graph_as old s slot
    seen_at s state.Free e = refl
    seen_at s (state.Released swept) e = refl
    seen_at s (state.Live b cols) e =
        ap (λ m. Some (record { base = b; cols = cols; members = m })) (picked_same (in_slot s b cols) old n o (member s b cols e))

    free_at : (s : ℕ) → 1 ≤ s → (m : ℕ) → pair_at s (cell_at old m) ≡ (false, false) → ((m ≡ n) ⊎ (m ≡ n → ⊥)) → pair_at s (cell_at (set old n o) m) ≡ (false, false)
    free_at s one m e (inl is) = ap (pair_at s) (here m is) ∙ free s one (ap (λ i. pair_at s (cell_at old i)) (sym is) ∙ e)
    free_at s one m e (inr d) = ap (pair_at s) (cell_past old n m o d) ∙ e

pub swept_kept : (slots : List SlotState) → AreSlots slots → (old new : List (Option Row)) (n : ℕ) (w : Writes old new n (Clears slots)) → is_needed slots w.before ≡ true → CellsSwept slots old new n (n + 1)
swept_kept slots fit old new n w needed =
    let a = w.before in
    let c = w.after in
    let f = w.how in
    subst (λ l. CellsSwept slots old l n (n + 1)) (sym w.is)
    (swept_by slots old n (Some c) (cell_there old n a w.was)
    ((λ i. cond (f.current i) (Some (f.element i)) None) ∙ sym (ap (given is_current) w.was))
    (λ s b cols e. (λ i. cond (cleared_member slots fit a c f s b cols e i) (Some (f.element i)) None) ∙ sym (ap (given (in_slot s b cols)) w.was))
    (ap (λ x. Some x) f.element ∙ sym (ap (remains slots) w.was ∙ ap (λ t. cond t (Some a.element) None) needed))
    (λ s one e. cleared_pair slots fit a c f s one e)
    (λ s one e. free_pair slots fit a c f s one (sym (ap (pair_at s) w.was) ∙ e)))

pub swept_given : (slots : List SlotState) → AreSlots slots → (old : List (Option Row)) (n : ℕ) (r : Row) → cell_at old n ≡ Some r → is_needed slots r ≡ false → CellsSwept slots old (set old n None) n (n + 1)
swept_given slots fit old n r there needless =
    swept_by slots old n None (cell_there old n r there)
    (sym (ap (given is_current) there ∙ ap (λ t. cond t (Some r.element) None) (not_current slots fit r needless)))
    (λ s b cols e. sym (ap (given (in_slot s b cols)) there ∙ ap (λ t. cond t (Some r.element) None) (not_member slots fit r s b cols e needless)))
    (sym (ap (remains slots) there ∙ ap (λ t. cond t (Some r.element) None) needless))
    (λ s one e. refl)
    (λ s one e. refl)

-- a number with no cell is passed
pub swept_vacant : (slots : List SlotState) (old : List (Option Row)) (n : ℕ) → cell_at old n ≡ None → CellsSwept slots old old n (n + 1)
swept_vacant slots old n none = record {
  now = refl;
  graphs = λ s. refl;
  before = λ m h. refl;
  behind = λ m h. refl;
  passed = λ m low high. let is : m ≡ n = omega arith in ap (λ i. element_of (cell_at old i)) is ∙ ap element_of none ∙ sym (ap (λ i. remains slots (cell_at old i)) is ∙ ap (remains slots) none);
  cleared = λ s one e m low high. let is : m ≡ n = omega arith in ap (λ i. pair_at s (cell_at old i)) is ∙ ap (pair_at s) none;
  free = λ s one m e. e;
}

-- ---- one after another

pub swept_then : (slots : List SlotState) (a b c : List (Option Row)) (from n : ℕ) → from ≤ n → CellsSwept slots a b from n → CellsSwept slots b c n (n + 1) → CellsSwept slots a c from (n + 1)
swept_then slots a b c from n within f g = record {
  now = g.now ∙ f.now;
  graphs = λ s. g.graphs s ∙ f.graphs s;
  before = λ m h. g.before m (omega arith) ∙ f.before m h;
  behind = λ m h. g.behind m h ∙ f.behind m (omega arith);
  passed = λ m low high. passed_at m low high (cases_lt m n);
  cleared = λ s one e m low high. cleared_at_cell s one e m low high (cases_lt m n);
  free = λ s one m e. g.free s one m (f.free s one m e);
}
  where
    passed_at : (m : ℕ) → from ≤ m → m < n + 1 → ((m < n) ⊎ (n ≤ m)) → element_of (cell_at c m) ≡ remains slots (cell_at a m)
    passed_at m low high (inl h) = ap element_of (g.before m h) ∙ f.passed m low h
    passed_at m low high (inr h) = g.passed m h high ∙ ap (remains slots) (f.behind m h)

    cleared_at_cell : (s : ℕ) → 1 ≤ s → is_swept (slot_at slots s) ≡ true → (m : ℕ) → from ≤ m → m < n + 1 → ((m < n) ⊎ (n ≤ m)) → pair_at s (cell_at c m) ≡ (false, false)
    cleared_at_cell s one e m low high (inl h) = ap (pair_at s) (g.before m h) ∙ f.cleared s one e m low h
    cleared_at_cell s one e m low high (inr h) = g.cleared s one e m h high

pub below_more : (rows : List (Option Row)) (n : ℕ) → n < length rows → is_some (cell_at rows n) ≡ true → cells_below rows (n + 1) ≡ cells_below rows n + 1
below_more rows n h e = count_by_more_yes is_some rows n None h e

pub below_same : (rows : List (Option Row)) (n : ℕ) → n < length rows → is_some (cell_at rows n) ≡ false → cells_below rows (n + 1) ≡ cells_below rows n
below_same rows n h e = count_by_more_no is_some rows n None h e

pub none_from : (o : Option Row) → is_some o ≡ false → o ≡ None
none_from None e = refl
none_from (Some r) e = cc

pub below_number : (rows : List (Option Row)) (n : ℕ) → cells_below rows n ≤ n
below_number rows n =
    let a = count_by-le-length is_some (take n rows) in
    let b = length-take n rows in
    omega arith

-- all cells are below a number that is past them
pub below_end : (rows : List (Option Row)) (n : ℕ) → length rows ≤ n → cells_below rows (length rows) ≡ cells_below rows n
below_end rows n h = ap (count_by is_some) (take_all (length rows) rows (omega arith) ∙ sym (take_all n rows h))

pub passes_to_end : (old new : PoolState) (from until : ℕ) → length new.rows ≡ length old.rows → length old.rows ≤ until → PassesCells old new from until → PassesCells old new from (length old.rows)
passes_to_end old new from until len h f = record {
  passed = λ n low high. f.passed n low (omega arith);
  before = f.before;
  behind = λ n k. ap element_of (get_or_past new.rows n None (omega arith)) ∙ sym (ap element_of (get_or_past old.rows n None k));
}
