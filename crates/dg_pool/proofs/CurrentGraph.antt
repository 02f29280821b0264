-- How the slots that rest on the current graph are pinned at one cell, and what that leaves.
use Rattle.std.proofs.Common.{arith, IfSome, ◌≡◌, ℕ, suc, zero, ◌+◌, ◌<◌, ◌≤◌, Bool, true, false, cond, eqb, not, ◌||◌, ◌&&◌, List, [], ◌∷◌, ◌++◌, Option, Some, None, length, get_or, set, take, refl, sym, ap, ◌∙◌, subst, ◌⊎◌, inl, inr}
use Rattle.std.specs.Option.{option_map}
use Rattle.std.proofs.lemmas.List.Folds.{list_any-append}
use Rattle.std.proofs.lemmas.Bool.{or_right, cases_eq, eq-eqb, ne_eqb, true≢false, false≢true}
use Rattle.std.proofs.lemmas.List.{set-set, set-get_or, take_more}
use Rattle.dg_graph.specs.declared.element.Element.{Element}
use Rattle.dg_graph.specs.declared.element.Columns.{Columns}
use Rattle.dg_graph.specs.declared.event.Event.{Event}
use Rattle.dg_graph.specs.Effect.{added_by}
use mathlib.Core.Bool.{beq}
use Rattle.dg_graph.specs.Elements.{IsSet, has, put, take_out, asks, column_of, same}
use Rattle.dg_graph.specs.Sets.{unioned, without_all}
use Rattle.dg_graph.proofs.Sets.{take_out-put, take_out-absent, put-there, same_itself, same_members, has-put, has-take_out, has-unioned, has-without_all, IsSet-put, IsSet-take_out, IsSet-unioned, IsSet-without_all}
use Rattle.dg_delta.specs.Deltas.{is_in_after}
use Rattle.dg_pool.specs.declared.slots.Base.{Base}
use Rattle.dg_pool.specs.declared.slots.Slot.{Slot}
use Rattle.dg_pool.specs.declared.slots.Base.TheVariants as base
use Rattle.dg_pool.specs.declared.slots.SlotState.{SlotState}
use Rattle.dg_pool.specs.declared.slots.SlotState.TheVariants as state
use Rattle.dg_cells.specs.Rows.{Row, HasCell, cell_at, CellsAreApart, Writes, is_current, pair, SetsPair, SetsCurrent, Lacks}
use Rattle.dg_pool.specs.Graphs.{slot_at, pair_at, is_on_now, is_live, is_listed, ListsOnNow, pinned, Pins, Keeps, AreSlots, IsBased, IsBaseFor, slot_says, pair_says, in_base, in_slot, given, picked, graph_as, HaveCells, changed, all_changed}
use Rattle.dg_pool.specs.Sweeps.{element_of}
use Rattle.dg_cells.proofs.RowChanges.{cell_past, cell_there}
use Rattle.dg_pool.proofs.GraphSets.{picked_same, picked_more, picked_set, picked_decides, picked_nothing}
use Rattle.dg_cells.proofs.RowChanges.{cell_written, comes_written, apart_by}

-- ---- two writes of one cell

pub writes_join : (old mid new : List (Option Row)) (n : ℕ) (P Q R : Row → Row → Type 0) → (f : Writes old mid n P) (g : Writes mid new n Q) → (Q f.after g.after → R f.before g.after) → Writes old new n R
writes_join old mid new n P Q R f g join =
    let inside = cell_there old n f.before f.was in
    let here : Some f.after ≡ Some g.before = sym (cell_written old n (Some f.after) inside) ∙ ap (λ l. cell_at l n) (sym f.is) ∙ g.was in
    let same : f.after ≡ g.before = cc in
    record {
      before = f.before;
      after = g.after;
      was = f.was;
      is = g.is ∙ ap (λ l. set l n (Some g.after)) f.is ∙ set-set old n (Some f.after) (Some g.after);
      how = join (subst (λ (b : Row). Q b g.after) (sym same) g.how);
    }

pub writes_before : (old new : List (Option Row)) (n : ℕ) (P : Row → Row → Type 0) (w : Writes old new n P) → cell_at new n ≡ Some w.after
writes_before old new n P w =
    ap (λ l. cell_at l n) w.is ∙ cell_written old n (Some w.after) (cell_there old n w.before w.was)

-- ---- a step

-- the pair of a slot while the listed slots are pinned
abbrev pub pinned_among : List SlotState → List ℕ → Row → ℕ → Bool × Bool
pinned_among slots numbers old s = cond (is_listed numbers s) (pinned (slot_at slots s) (is_current old) (pair s old)) (pair s old)

-- a cell with the listed slots pinned
pub record PinsListed (slots : List SlotState) (numbers : List ℕ) (old new : Row) : Type 0 where
  pub element : new.element ≡ old.element
  pub current : is_current new ≡ is_current old
  pub pairs : (s : ℕ) → 1 ≤ s → pair s new ≡ pinned_among slots numbers old s

module _ (slots : List SlotState) (numbers next : List ℕ) (k : ℕ) (more : next ≡ numbers ++ k ∷ []) where
  listed_next : (s : ℕ) → is_listed next s ≡ (is_listed numbers s || eqb k s)
  listed_next s =
      ap (λ (l : List ℕ). is_listed l s) more ∙ list_any-append (λ n. eqb n s) numbers (k ∷ []) ∙ ap (λ t. is_listed numbers s || t) (end (eqb k s))
    where
      end : (t : Bool) → (t || false) ≡ t
      end true = refl
      end false = refl

  among_here : (old : Row) → pinned_among slots next old k ≡ pinned (slot_at slots k) (is_current old) (pair k old)
  among_here old =
      ap (λ t. cond t (pinned (slot_at slots k) (is_current old) (pair k old)) (pair k old))
      (listed_next k ∙ or_right (is_listed numbers k) (eqb k k) (eq-eqb k k refl))

  among_past : (old : Row) (s : ℕ) → (s ≡ k → ⊥) → pinned_among slots next old s ≡ pinned_among slots numbers old s
  among_past old s d =
      ap (λ t. cond t (pinned (slot_at slots s) (is_current old) (pair s old)) (pair s old))
      (listed_next s ∙ ap (λ t. is_listed numbers s || t) (ne_eqb k s (λ e. d (sym e))) ∙ end (is_listed numbers s))
    where
      end : (t : Bool) → (t || false) ≡ t
      end true = refl
      end false = refl

  -- a slot that needs a word gets it
  pub pins_one : (was : Bool) (a b c : Row) → (is_on_now (slot_at slots k) && not (pair k a).0) ≡ true → is_current a ≡ was → PinsListed slots numbers a b → SetsPair k (true, was) b c → PinsListed slots next a c
  pins_one was a b c needed cur f g = record {
    element = g.element ∙ f.element;
    current = g.current ∙ f.current;
    pairs = λ s h. at s h (cases_eq s k);
  }
    where
      here : pinned (slot_at slots k) (is_current a) (pair k a) ≡ (true, was)
      here = ap (λ t. cond t (true, is_current a) (pair k a)) needed ∙ ap (λ t. (true, t)) cur

      at : (s : ℕ) → 1 ≤ s → ((s ≡ k) ⊎ (s ≡ k → ⊥)) → pair s c ≡ pinned_among slots next a s
      at s h (inl e) =
          g.pairs s h ∙ ap (λ t. cond t (true, was) (pair s b)) (eq-eqb s k e)
          ∙ sym (ap (pinned_among slots next a) e ∙ among_here a ∙ here)
      at s h (inr d) =
          g.pairs s h ∙ ap (λ t. cond t (true, was) (pair s b)) (ne_eqb s k d) ∙ f.pairs s h ∙ sym (among_past a s d)

  -- a slot that needs none stays
  pub pins_none : (a b : Row) → 1 ≤ k → (is_on_now (slot_at slots k) && not (pair k a).0) ≡ false → PinsListed slots numbers a b → PinsListed slots next a b
  pins_none a b low needed f = record {
    element = f.element;
    current = f.current;
    pairs = λ s h. at s h (cases_eq s k);
  }
    where
      here : pinned (slot_at slots k) (is_current a) (pair k a) ≡ pair k a
      here = ap (λ t. cond t (true, is_current a) (pair k a)) needed

      before : pair k b ≡ pair k a
      before = f.pairs k low ∙ by (is_listed numbers k)
        where
          by : (t : Bool) → cond t (pinned (slot_at slots k) (is_current a) (pair k a)) (pair k a) ≡ pair k a
          by true = here
          by false = refl

      at : (s : ℕ) → 1 ≤ s → ((s ≡ k) ⊎ (s ≡ k → ⊥)) → pair s b ≡ pinned_among slots next a s
      at s h (inl e) = ap (λ n. pair n b) e ∙ before ∙ sym (ap (pinned_among slots next a) e ∙ among_here a ∙ here)
      at s h (inr d) = f.pairs s h ∙ sym (among_past a s d)

-- where all that rest on the current graph are listed, all are pinned
pub pins_all : (slots : List SlotState) (numbers : List ℕ) → ListsOnNow slots numbers → (a b : Row) → PinsListed slots numbers a b → Pins slots a b
pins_all slots numbers listed a b f = record {
  element = f.element;
  current = f.current;
  pairs = λ s low. f.pairs s low ∙ at s (is_on_now (slot_at slots s)) refl;
}
  where
    at : (s : ℕ) (t : Bool) → is_on_now (slot_at slots s) ≡ t → pinned_among slots numbers a s ≡ pinned (slot_at slots s) (is_current a) (pair s a)
    at s true e = ap (λ t. cond t (pinned (slot_at slots s) (is_current a) (pair s a)) (pair s a)) (listed.all s e)
    at s false e = by (is_listed numbers s)
      where
        same : pinned (slot_at slots s) (is_current a) (pair s a) ≡ pair s a
        same = ap (λ t. cond (t && not (pair s a).0) (true, is_current a) (pair s a)) e

        by : (t : Bool) → cond t (pinned (slot_at slots s) (is_current a) (pair s a)) (pair s a) ≡ pinned (slot_at slots s) (is_current a) (pair s a)
        by true = refl
        by false = sym same

pub writes_weaker : (old new : List (Option Row)) (n : ℕ) (P R : Row → Row → Type 0) → (f : Writes old new n P) → R f.before f.after → Writes old new n R
writes_weaker old new n P R f how = record { before = f.before; after = f.after; was = f.was; is = f.is; how = how }

-- ---- a pinned cell whose current bit is then set

pub record Changes (slots : List SlotState) (on : Bool) (old new : Row) : Type 0 where
  pub element : new.element ≡ old.element
  pub current : is_current new ≡ on
  pub pairs : (s : ℕ) → 1 ≤ s → pair s new ≡ pinned (slot_at slots s) (is_current old) (pair s old)

pub changes_join : (slots : List SlotState) (on : Bool) (a b c : Row) → Pins slots a b → SetsCurrent on b c → Changes slots on a c
changes_join slots on a b c f g = record {
  element = g.element ∙ f.element;
  current = g.current;
  pairs = λ s h. g.pairs s h ∙ f.pairs s h;
}

-- ---- what it keeps

pinned_stays : (slot : SlotState) (was : Bool) (p : Bool × Bool) → is_on_now slot ≡ false → pinned slot was p ≡ p
pinned_stays slot was p e = ap (λ t. cond (t && not p.0) (true, was) p) e

base_stays : (cols : Columns) (slot : SlotState) → IsBaseFor cols slot → is_on_now slot ≡ false
base_stays cols state.Free h = absurd h
base_stays cols (state.Released swept) h = absurd h
base_stays cols (state.Live base.Nothing all) h = refl
base_stays cols (state.Live base.Now all) h = absurd h
base_stays cols (state.Live (base.Slot b) all) h = absurd h

idle_stays : (slot : SlotState) → is_live slot ≡ false → is_on_now slot ≡ false
idle_stays state.Free h = refl
idle_stays (state.Released swept) h = refl
idle_stays (state.Live b cols) h = cc

-- the word that a slot has after it is pinned says what it was with the graph as it was
pinned_member : (a b was on : Bool) → is_in_after (pair_says (cond (true && not a) (true, was) (a, b))) on ≡ is_in_after (pair_says (a, b)) was
pinned_member true true was on = refl
pinned_member true false was on = refl
pinned_member false b true on = refl
pinned_member false b false on = refl

module _ (slots : List SlotState) (fit : AreSlots slots) (on : Bool) (a c : Row) (f : Changes slots on a c) where
  pair_stays : (s : ℕ) → 1 ≤ s → is_on_now (slot_at slots s) ≡ false → pair s c ≡ pair s a
  pair_stays s h e = f.pairs s h ∙ pinned_stays (slot_at slots s) (is_current a) (pair s a) e

  from_one : (s : ℕ) (slot : SlotState) → slot_at slots s ≡ slot → is_live slot ≡ true → 1 ≤ s
  from_one s slot e live = at s refl
    where
      at : (n : ℕ) → s ≡ n → 1 ≤ s
      at zero z = absurd (true≢false (sym live ∙ ap is_live (sym e ∙ ap (slot_at slots) z ∙ fit.first)))
      at (suc n) z = omega arith

  base_of_slot : (s : ℕ) (b : Slot) (cols : Columns) → slot_at slots s ≡ state.Live (base.Slot b) cols → IsBaseFor cols (slot_at slots b.0)
  base_of_slot s b cols e =
      subst (IsBased slots) e (fit.bases s (from_one s (state.Live (base.Slot b) cols) e refl))

  base_is_live : (cols : Columns) (slot : SlotState) → IsBaseFor cols slot → is_live slot ≡ true
  base_is_live cols state.Free h = absurd h
  base_is_live cols (state.Released swept) h = absurd h
  base_is_live cols (state.Live b all) h = refl

  over_base : (s : ℕ) (b : Base) (cols : Columns) → slot_at slots s ≡ state.Live b cols → is_in_after (slot_says s c) (in_base b c) ≡ is_in_after (slot_says s a) (in_base b a)
  over_base s base.Nothing cols e =
      let low = from_one s (state.Live base.Nothing cols) e refl in
      ap (λ p. is_in_after (pair_says p) false) (pair_stays s low (ap is_on_now e))
  over_base s base.Now cols e =
      let low = from_one s (state.Live base.Now cols) e refl in
      ap (λ p. is_in_after (pair_says p) (is_current c)) (f.pairs s low ∙ ap (λ slot. pinned slot (is_current a) (pair s a)) e)
      ∙ pinned_member (pair s a).0 (pair s a).1 (is_current a) (is_current c)
  over_base s (base.Slot b) cols e =
      let low = from_one s (state.Live (base.Slot b) cols) e refl in
      let h = base_of_slot s b cols e in
      let first = pair_stays s low (ap is_on_now e) in
      let second = pair_stays b.0 (from_one b.0 (slot_at slots b.0) refl (base_is_live cols (slot_at slots b.0) h)) (base_stays cols (slot_at slots b.0) h) in
      λ i. is_in_after (pair_says (first i)) (is_in_after (pair_says (second i)) false)

  pub same_member : (s : ℕ) (b : Base) (cols : Columns) → slot_at slots s ≡ state.Live b cols → in_slot s b cols c ≡ in_slot s b cols a
  same_member s b cols e =
      let over = over_base s b cols e in
      λ i. asks cols (column_of (f.element i)) && over i

module _ (slots : List SlotState) (fit : AreSlots slots) (on : Bool) (old new : List (Option Row)) (n : ℕ) (w : Writes old new n (Changes slots on)) where
  seen_at : (s : ℕ) (slot : SlotState) → slot_at slots s ≡ slot → graph_as new s slot ≡ graph_as old s slot
  seen_at s state.Free e = refl
  seen_at s (state.Released swept) e = refl
  seen_at s (state.Live b cols) e =
      let same = same_member slots fit on w.before w.after w.how s b cols e in
      let gives_same : given (in_slot s b cols) (Some w.after) ≡ given (in_slot s b cols) (cell_at old n) =
      (λ i. cond (same i) (Some (w.how.element i)) None) ∙ sym (ap (given (in_slot s b cols)) w.was) in
      ap (λ m. Some (record { base = b; cols = cols; members = m })) (ap (picked (in_slot s b cols)) w.is ∙ picked_same (in_slot s b cols) old n (Some w.after) gives_same)

  inside : n < length old
  inside = cell_there old n w.before w.was

  read_new : (m : ℕ) → ((m ≡ n) ⊎ (m ≡ n → ⊥)) → (T : Type 0) (g : Option Row → T) → g (Some w.after) ≡ g (Some w.before) → g (cell_at new m) ≡ g (cell_at old m)
  read_new m (inl e) T g same =
      ap g (ap (cell_at new) e ∙ ap (λ l. cell_at l n) w.is ∙ cell_written old n (Some w.after) inside) ∙ same
      ∙ sym (ap g (ap (cell_at old) e ∙ w.was))
  read_new m (inr d) T g same = ap g (ap (λ l. cell_at l m) w.is ∙ cell_past old n m (Some w.after) d)

  pub changes_keep : Keeps slots old new
  changes_keep = record {
    graphs = λ s. seen_at s (slot_at slots s) refl;
    elements = λ m. read_new m (cases_eq m n) (Option Element) (option_map (λ (r : Row). r.element)) (ap (λ x. Some x) w.how.element);
    bits = λ s low idle m.
        read_new m (cases_eq m n) (Bool × Bool) (pair_at s) (pair_stays slots fit on w.before w.after w.how s low (idle_stays (slot_at slots s) idle));
  }

  changed_on : (was : Bool) → is_current w.before ≡ was → (t : Bool) → on ≡ t → not was ≡ t → CellsAreApart new → picked is_current new ≡ changed t w.before.element (picked is_current old)
  changed_on false cur true e d apart =
      ap (picked is_current) w.is
      ∙ picked_more is_current old n (Some w.after) w.before.element inside
      (ap (given is_current) w.was ∙ ap (λ t. cond t (Some w.before.element) None) cur)
      ((λ i. cond (w.how.current i) (Some (w.how.element i)) None) ∙ ap (λ t. cond t (Some w.before.element) None) e)
  changed_on true cur false e d apart =
      let rows = picked is_current new in
      let x = w.before.element in
      let back : old ≡ set new n (Some w.before) =
      sym (ap (λ l. set l n (Some w.before)) w.is ∙ set-set old n (Some w.after) (Some w.before) ∙ ap (set old n) (sym w.was) ∙ set-get_or old n None) in
      let there : cell_at new n ≡ Some w.after = ap (λ l. cell_at l n) w.is ∙ cell_written old n (Some w.after) inside in
      let more : picked is_current old ≡ put x rows =
      ap (picked is_current) back
      ∙ picked_more is_current new n (Some w.before) x (cell_there new n w.after there)
      (ap (given is_current) there ∙ (λ i. cond (w.how.current i) (Some (w.how.element i)) None) ∙ ap (λ t. cond t (Some x) None) e)
      (ap (λ t. cond t (Some x) None) cur) in
      let lacks : has rows x ≡ false = picked_decides is_current new x n w.after apart there w.how.element ∙ w.how.current ∙ e in
      sym (ap (take_out x) more ∙ take_out-put x rows (picked_set is_current new) lacks)
  changed_on false cur false e d apart = absurd (true≢false d)
  changed_on true cur true e d apart = absurd (false≢true d)

  pub changes_now : is_current w.before ≡ not on → CellsAreApart new → picked is_current new ≡ changed on w.before.element (picked is_current old)
  changes_now cur apart = changed_on (is_current w.before) refl on refl (ap not cur ∙ twice on) apart
    where
      twice : (b : Bool) → not (not b) ≡ b
      twice true = refl
      twice false = refl

-- ---- no change

-- an element with no cell is not there to take out
pub not_there : (rows : List (Option Row)) (x : Element) (on : Bool) → Lacks rows x → (on ≡ true → HasCell rows x) → picked is_current rows ≡ changed on x (picked is_current rows)
not_there rows x true lacks there =
    let h = (there refl).1 in
    absurd (true≢false (sym (same_itself x) ∙ ap (same x) (sym h.element) ∙ lacks (there refl).0 h.row h.there))
not_there rows x false lacks there =
    sym (take_out-absent x (picked is_current rows) (picked_set is_current rows) (picked_nothing is_current rows x lacks))

-- and one whose bit is as asked stays
pub unchanged : (rows : List (Option Row)) (x : Element) (n : ℕ) (r : Row) (on : Bool) → CellsAreApart rows → cell_at rows n ≡ Some r → r.element ≡ x → is_current r ≡ on → picked is_current rows ≡ changed on x (picked is_current rows)
unchanged rows x n r true apart there is cur =
    sym (put-there x (picked is_current rows) (picked_set is_current rows) (picked_decides is_current rows x n r apart there is ∙ cur))
unchanged rows x n r false apart there is cur =
    sym (take_out-absent x (picked is_current rows) (picked_set is_current rows) (picked_decides is_current rows x n r apart there is ∙ cur))

pub one_row : (rows : List (Option Row)) (n : ℕ) (r q : Row) → cell_at rows n ≡ Some r → cell_at rows n ≡ Some q → r ≡ q
one_row rows n r q e f = let both : Some r ≡ Some q = sym e ∙ f in cc

pub differs_from : (a b : Bool) → beq a b ≡ false → a ≡ not b
differs_from true true e = cc
differs_from true false e = refl
differs_from false true e = refl
differs_from false false e = cc

pub same_as : (a b : Bool) → beq a b ≡ true → a ≡ b
same_as true true e = refl
same_as true false e = cc
same_as false true e = cc
same_as false false e = refl

pub apart_written : (old new : List (Option Row)) (n : ℕ) (P : Row → Row → Type 0) (w : Writes old new n P) → w.after.element ≡ w.before.element → CellsAreApart old → CellsAreApart new
apart_written old new n P w same apart =
    subst CellsAreApart (sym w.is) (apart_by old (set old n (Some w.after)) (comes_written old n w.before w.after w.was same) apart)

-- ---- one after another

pub keeps_itself : (slots : List SlotState) (rows : List (Option Row)) → Keeps slots rows rows
keeps_itself slots rows = record { graphs = λ s. refl; elements = λ n. refl; bits = λ s h i n. refl }

pub keeps_then : (slots : List SlotState) (a b c : List (Option Row)) → Keeps slots a b → Keeps slots b c → Keeps slots a c
keeps_then slots a b c f g = record {
  graphs = λ s. g.graphs s ∙ f.graphs s;
  elements = λ n. g.elements n ∙ f.elements n;
  bits = λ s h i n. g.bits s h i n ∙ f.bits s h i n;
}

row_of : (x : Element) (o : Option Row) → element_of o ≡ Some x → (r : Row) × (o ≡ Some r) × (r.element ≡ x)
row_of x None e = cc
row_of x (Some r) e = (r, refl, cc)

pub has_alike : (old new : List (Option Row)) → ((n : ℕ) → element_of (cell_at new n) ≡ element_of (cell_at old n)) → (x : Element) → HasCell old x → HasCell new x
has_alike old new same x h =
    let n = h.0 in
    let f = row_of x (cell_at new n) (same n ∙ ap element_of h.1.there ∙ ap (λ y. Some y) h.1.element) in
    (n, record { row = f.0; there = f.1; element = f.2 })

pub has_still : (slots : List SlotState) (old new : List (Option Row)) → Keeps slots old new → (x : Element) → HasCell old x → HasCell new x
has_still slots old new k = has_alike old new k.elements

if_still : (slots : List SlotState) (old new : List (Option Row)) → Keeps slots old new → (o : Option Element) → IfSome o (HasCell old) → IfSome o (HasCell new)
if_still slots old new k None h = h
if_still slots old new k (Some x) h = has_still slots old new k x h

pub have_still : (slots : List SlotState) (old new : List (Option Row)) → Keeps slots old new → (events : List Event) → HaveCells old events → HaveCells new events
have_still slots old new k [] h = tt
have_still slots old new k (e ∷ events) h = (if_still slots old new k (added_by e.body) h.0, have_still slots old new k events h.1)

-- ---- the elements of a list, one after another

or_end : (a b c : Bool) → (a || (b || (c || false))) ≡ (c || (a || b))
or_end true true true = refl
or_end true true false = refl
or_end true false true = refl
or_end true false false = refl
or_end false true true = refl
or_end false true false = refl
or_end false false true = refl
or_end false false false = refl

and_end : (a b c : Bool) → (a && not (b || (c || false))) ≡ (not c && (a && not b))
and_end true true true = refl
and_end true true false = refl
and_end true false true = refl
and_end true false false = refl
and_end false true true = refl
and_end false true false = refl
and_end false false true = refl
and_end false false false = refl

-- one more of the elements is put in, or taken out
pub changed_more : (on : Bool) (set items : List Element) (i : ℕ) (d : Element) → IsSet set → i < length items
    → changed on (get_or items i d) (all_changed on (take i items) set) ≡ all_changed on (take (i + 1) items) set
changed_more true set items i d s h =
    let x = get_or items i d in
    let front = take i items in
    same_members (put x (unioned set front)) (unioned set (take (i + 1) items))
    (IsSet-put x (unioned set front) (IsSet-unioned set front s)) (IsSet-unioned set (take (i + 1) items) s)
    (λ q. has-put x (unioned set front) q
    ∙ ap (λ t. same q x || t) (has-unioned set front q)
    ∙ sym (has-unioned set (take (i + 1) items) q
    ∙ ap (λ l. has set q || has l q) (take_more items i d h)
    ∙ ap (λ t. has set q || t) (list_any-append (same q) front (x ∷ []))
    ∙ or_end (has set q) (has front q) (same q x)))
changed_more false set items i d s h =
    let x = get_or items i d in
    let front = take i items in
    same_members (take_out x (without_all set front)) (without_all set (take (i + 1) items))
    (IsSet-take_out x (without_all set front) (IsSet-without_all set front s)) (IsSet-without_all set (take (i + 1) items) s)
    (λ q. has-take_out x (without_all set front) q
    ∙ ap (λ t. not (same q x) && t) (has-without_all set front q)
    ∙ sym (has-without_all set (take (i + 1) items) q
    ∙ ap (λ l. has set q && not (has l q)) (take_more items i d h)
    ∙ ap (λ t. has set q && not t) (list_any-append (same q) front (x ∷ []))
    ∙ and_end (has set q) (has front q) (same q x)))

-- none of them changes nothing
pub changed_none : (on : Bool) (set : List Element) → IsSet set → set ≡ all_changed on [] set
changed_none true set s = refl
changed_none false set s = same_members set (without_all set []) s (IsSet-without_all set [] s) (λ q. sym (has-without_all set [] q ∙ and_true (has set q)))
  where
    and_true : (a : Bool) → (a && true) ≡ a
    and_true true = refl
    and_true false = refl
