-- Deltas that are written to slots, each to those that it is for: that the slots stay as they may be changed, and the graphs that come of it.
use Rattle.std.proofs.Common.{arith, ◌≡◌, ℕ, suc, ◌+◌, ◌<◌, Bool, true, false, cond, ◌&&◌, ◌||◌, eqb, List, [], ◌∷◌, ◌++◌, Option, Some, None, IsSome, length, drop, get_or, append_assoc, refl, sym, ap, ◌∙◌, ◌⊎◌, inl, inr, option_map}
use Rattle.std.proofs.lemmas.Bool.{cases_Bool, both_ways, eq-eqb, false_from_ne_true, ne_eqb, or_cases, or_left, or_right}
use Rattle.std.proofs.lemmas.List.{drop_more, get_or-map, map_push}
use Rattle.std.proofs.Math.ListN.{length-map}
use Rattle.dg_delta.specs.Deltas.{composed, is_in_after}
use Rattle.dg_delta.proofs.Deltas.{IsSet-applied, applies_one_after_the_other, composes_by, decides_each_element}
use Rattle.dg_fold.specs.declared.writing.Writing.{Writing}
use Rattle.dg_fold.specs.Writings.{composed_all, is_for, written_for}
use Rattle.dg_graph.proofs.Sets.{IsSet-filter, has-filter, same_members}
use Rattle.dg_graph.specs.Composition.{Delta, Says, applied, nothing, says}
use Rattle.dg_graph.specs.declared.element.Columns.{Columns}
use Rattle.dg_graph.specs.declared.element.Element.{Element}
use Rattle.dg_graph.specs.Elements.{IsSet, asks, column_of, has, shown}
use Rattle.dg_handles.specs.Written.{AreWritten, graph_after_all, slots_for}
use Rattle.dg_handles.proofs.HandleEntries.{of_some}
use Rattle.dg_pool.specs.Changes.{AreDistinct, CanChange, ChangesSlots, graph_after, numbers_of}
use Rattle.dg_pool.specs.declared.slots.Base.{Base}
use Rattle.dg_pool.specs.declared.slots.Slot.{Slot}
use Rattle.dg_pool.specs.Graphs.{PoolState, SlotGraph, is_listed, slot_graph}

-- ---- the slots that a delta is for

module _ (w : Writing) where
  chosen_among : (n : ℕ) (slots : List ℕ) (t : ℕ) → is_listed (slots_for n w slots) t ≡ true → is_listed slots t ≡ true
  chosen_among n [] t e = cc
  chosen_among n (s ∷ slots) t e = at (is_for n w) (λ f. or_right (eqb s t) (is_listed slots t) (chosen_among (suc n) slots t f)) e
    where
      first : (is_listed (slots_for (suc n) w slots) t ≡ true → is_listed (s ∷ slots) t ≡ true) → (eqb s t ≡ true) ⊎ (is_listed (slots_for (suc n) w slots) t ≡ true) → is_listed (s ∷ slots) t ≡ true
      first later (inl f) = or_left (eqb s t) (is_listed slots t) f
      first later (inr f) = later f

      at : (b : Bool) → (is_listed (slots_for (suc n) w slots) t ≡ true → is_listed (s ∷ slots) t ≡ true) → is_listed (cond b (s ∷ slots_for (suc n) w slots) (slots_for (suc n) w slots)) t ≡ true
          → is_listed (s ∷ slots) t ≡ true
      at true later f = first later (or_cases (eqb s t) (is_listed (slots_for (suc n) w slots) t) f)
      at false later f = later f

  lacks_later : (n : ℕ) (s : ℕ) (slots : List ℕ) → is_listed slots s ≡ false → is_listed (slots_for n w slots) s ≡ false
  lacks_later n s slots lacks = false_from_ne_true (is_listed (slots_for n w slots) s) (λ e. both_ways (is_listed slots s) lacks (chosen_among n slots s e))

  -- a slot is among them exactly where the delta is for its graph
  chosen_first : (n s : ℕ) (slots : List ℕ) → is_listed slots s ≡ false → is_listed (slots_for n w (s ∷ slots)) s ≡ is_for n w
  chosen_first n s slots lacks = at (is_for n w)
    where
      at : (b : Bool) → is_listed (cond b (s ∷ slots_for (suc n) w slots) (slots_for (suc n) w slots)) s ≡ b
      at true = or_left (eqb s s) (is_listed (slots_for (suc n) w slots) s) (eq-eqb s s refl)
      at false = lacks_later (suc n) s slots lacks

  chosen_next : (n s : ℕ) (slots : List ℕ) (t : ℕ) → is_listed slots s ≡ false → is_listed slots t ≡ true → is_listed (slots_for n w (s ∷ slots)) t ≡ is_listed (slots_for (suc n) w slots) t
  chosen_next n s slots t lacks in' = at (is_for n w)
    where
      at : (b : Bool) → is_listed (cond b (s ∷ slots_for (suc n) w slots) (slots_for (suc n) w slots)) t ≡ is_listed (slots_for (suc n) w slots) t
      at true = ap (λ b. b || is_listed (slots_for (suc n) w slots) t) (ne_eqb s t (λ same. both_ways (is_listed slots s) lacks (ap (is_listed slots) same ∙ in')))
      at false = refl

  distinct_chosen : (n : ℕ) (slots : List ℕ) → AreDistinct slots → AreDistinct (slots_for n w slots)
  distinct_chosen n [] apart = tt
  distinct_chosen n (s ∷ slots) apart = at (is_for n w) (distinct_chosen (suc n) slots apart.1)
    where
      at : (b : Bool) → AreDistinct (slots_for (suc n) w slots) → AreDistinct (cond b (s ∷ slots_for (suc n) w slots) (slots_for (suc n) w slots))
      at true later = (lacks_later (suc n) s slots apart.0, later)
      at false later = later

  pub can_some : (n : ℕ) (slots : List ℕ) (p : PoolState) → CanChange slots p → CanChange (slots_for n w slots) p
  can_some n slots p can = record {
    live = λ s e. can.live s (chosen_among n slots s e);
    apart = distinct_chosen n slots can.apart;
    unused = λ s e. can.unused s (chosen_among n slots s e);
  }

  -- graphs that are not among the slots do not change
  pub others_some : (slots : List ℕ) (old new : PoolState) → ChangesSlots (slots_for 0 w slots) w.delta old new → (s : ℕ) → is_listed slots s ≡ false → slot_graph new s ≡ slot_graph old s
  others_some slots old new c s lacks = c.others s (lacks_later 0 s slots lacks)

-- ---- how they are listed, one after another

-- the slot at an index is listed where the delta is for its graph
module _ (w : Writing) (slots : List Slot) (i : ℕ) (d : Slot) (within : i < length slots) where
  here : slots_for i w (drop i (numbers_of slots)) ≡ slots_for i w ((get_or slots i d).0 ∷ drop (i + 1) (numbers_of slots))
  here =
      let inside : i < length (numbers_of slots) = let many = length-map slots (λ (s : Slot). s.0) in omega (arith, many, within) in
      ap (slots_for i w) (drop_more (numbers_of slots) i 0 inside ∙ ap (λ n. n ∷ drop (i + 1) (numbers_of slots)) (get_or-map (λ (s : Slot). s.0) slots i d 0 within))

  later : slots_for (suc i) w (drop (i + 1) (numbers_of slots)) ≡ slots_for (i + 1) w (drop (i + 1) (numbers_of slots))
  later = ap (λ n. slots_for n w (drop (i + 1) (numbers_of slots))) (let same : suc i ≡ i + 1 = omega arith in same)

  pub chosen_more : (now after : List Slot) → is_for i w ≡ true → after ≡ now ++ get_or slots i d ∷ [] → numbers_of now ++ slots_for i w (drop i (numbers_of slots)) ≡ slots_for 0 w (numbers_of slots)
      → numbers_of after ++ slots_for (i + 1) w (drop (i + 1) (numbers_of slots)) ≡ slots_for 0 w (numbers_of slots)
  chosen_more now after it added so_far =
      let k : ℕ = (get_or slots i d).0 in
      let back : List ℕ = slots_for (i + 1) w (drop (i + 1) (numbers_of slots)) in
      ap (λ l. numbers_of l ++ back) added
      ∙ ap (λ l. l ++ back) (map_push (λ (s : Slot). s.0) now (get_or slots i d))
      ∙ append_assoc (numbers_of now) (k ∷ []) back
      ∙ ap (λ l. numbers_of now ++ k ∷ l) (sym later)
      ∙ ap (λ b. numbers_of now ++ cond b (k ∷ slots_for (suc i) w (drop (i + 1) (numbers_of slots))) (slots_for (suc i) w (drop (i + 1) (numbers_of slots)))) (sym it)
      ∙ ap (λ l. numbers_of now ++ l) (sym here)
      ∙ so_far

  pub chosen_past : (now : List Slot) → is_for i w ≡ false → numbers_of now ++ slots_for i w (drop i (numbers_of slots)) ≡ slots_for 0 w (numbers_of slots)
      → numbers_of now ++ slots_for (i + 1) w (drop (i + 1) (numbers_of slots)) ≡ slots_for 0 w (numbers_of slots)
  chosen_past now it so_far =
      ap (λ l. numbers_of now ++ l) (sym later)
      ∙ ap (λ b. numbers_of now ++ cond b ((get_or slots i d).0 ∷ slots_for (suc i) w (drop (i + 1) (numbers_of slots))) (slots_for (suc i) w (drop (i + 1) (numbers_of slots)))) (sym it)
      ∙ ap (λ l. numbers_of now ++ l) (sym here)
      ∙ so_far

-- ---- slots whose graphs may be changed stay so

abbrev base_of : Option SlotGraph → Option Base
base_of o = option_map (λ (g : SlotGraph). g.base) o

live_by : (o q : Option SlotGraph) → base_of o ≡ base_of q → IsSome q → IsSome o
live_by (Some f) q same some = refl
live_by None None same some = some
live_by None (Some g) same some = cc

based_by : (o q : Option SlotGraph) (g : SlotGraph) → base_of o ≡ base_of q → o ≡ Some g → (f : SlotGraph) × (q ≡ Some f) × (f.base ≡ g.base)
based_by o None g same is = let never : Some g.base ≡ None = sym (ap base_of is) ∙ same in cc
based_by o (Some f) g same is = (f, refl, of_some f.base g.base (sym same ∙ ap base_of is))

can_still : (slots : List ℕ) (old new : PoolState) → ((t : ℕ) → base_of (slot_graph new t) ≡ base_of (slot_graph old t)) → CanChange slots old → CanChange slots new
can_still slots old new same can = record {
  live = λ s e. live_by (slot_graph new s) (slot_graph old s) (same s) (can.live s e);
  apart = can.apart;
  unused = λ s e t g b is on it.
      let r = based_by (slot_graph new t) (slot_graph old t) g (same t) is in
      can.unused s e t r.0 b r.1 (r.2 ∙ on) it;
}

pub can_after_change : (slots some : List ℕ) (d : Delta) (old new : PoolState) → ChangesSlots some d old new → CanChange slots old → CanChange slots new
can_after_change slots some d old new c can = can_still slots old new (λ t. at t (cases_Bool (is_listed some t))) can
  where
    kept : (o : Option SlotGraph) → base_of (option_map (graph_after d) o) ≡ base_of o
    kept None = refl
    kept (Some g) = refl

    at : (t : ℕ) → (is_listed some t ≡ true) ⊎ (is_listed some t ≡ false) → base_of (slot_graph new t) ≡ base_of (slot_graph old t)
    at t (inl e) = ap base_of (c.changed t e) ∙ kept (slot_graph old t)
    at t (inr e) = ap base_of (c.others t e)

-- ---- one delta more

written_push : (n : ℕ) (ws : List Writing) (w : Writing) → written_for n (ws ++ w ∷ []) ≡ written_for n ws ++ cond (is_for n w) (w.delta ∷ []) []
written_push n [] w = refl
written_push n (v ∷ ws) w = at (is_for n v) (written_push n ws w)
  where
    at : (b : Bool) → written_for n (ws ++ w ∷ []) ≡ written_for n ws ++ cond (is_for n w) (w.delta ∷ []) []
        → cond b (v.delta ∷ written_for n (ws ++ w ∷ [])) (written_for n (ws ++ w ∷ [])) ≡ cond b (v.delta ∷ written_for n ws) (written_for n ws) ++ cond (is_for n w) (w.delta ∷ []) []
    at true e = ap (λ l. v.delta ∷ l) e
    at false e = e

after-append : (ds es : List Delta) (g : SlotGraph) → graph_after_all (ds ++ es) g ≡ graph_after_all es (graph_after_all ds g)
after-append [] es g = refl
after-append (d ∷ ds) es g = after-append ds es (graph_after d g)

in_turn : (ds es : List Delta) (o : Option SlotGraph) → option_map (graph_after_all es) (option_map (graph_after_all ds) o) ≡ option_map (graph_after_all (ds ++ es)) o
in_turn ds es None = refl
in_turn ds es (Some g) = ap (λ x. Some x) (sym (after-append ds es g))

unwritten : (o : Option SlotGraph) → o ≡ option_map (graph_after_all []) o
unwritten None = refl
unwritten (Some g) = refl

written_once : (d : Delta) (o : Option SlotGraph) → option_map (graph_after d) o ≡ option_map (graph_after_all (d ∷ [])) o
written_once d None = refl
written_once d (Some g) = refl

pub written_none : (n : ℕ) (slots : List ℕ) (p : PoolState) → AreWritten n slots [] p p
written_none n [] p = tt
written_none n (s ∷ slots) p = (unwritten (slot_graph p s), written_none (suc n) slots p)

module _ (ws : List Writing) (w : Writing) (old mid new : PoolState) where
  written_next : (n : ℕ) (slots : List ℕ) → AreDistinct slots → AreWritten n slots ws old mid
      → ((s : ℕ) → is_listed (slots_for n w slots) s ≡ true → slot_graph new s ≡ option_map (graph_after w.delta) (slot_graph mid s))
      → ((s : ℕ) → is_listed (slots_for n w slots) s ≡ false → is_listed slots s ≡ true → slot_graph new s ≡ slot_graph mid s)
      → AreWritten n slots (ws ++ w ∷ []) old new
  written_next n [] apart so_far changed others = tt
  written_next n (s ∷ slots) apart so_far changed others = (
    at (is_for n w) refl
        ∙ ap (option_map (graph_after_all (cond (is_for n w) (w.delta ∷ []) []))) so_far.0
        ∙ in_turn (written_for n ws) (cond (is_for n w) (w.delta ∷ []) []) (slot_graph old s)
        ∙ ap (λ l. option_map (graph_after_all l) (slot_graph old s)) (sym (written_push n ws w)),
    written_next (suc n) slots apart.1 so_far.1
        (λ t e. let in' = chosen_among w (suc n) slots t e in changed t (chosen_next w n s slots t apart.0 in' ∙ e))
        (λ t e in'. others t (chosen_next w n s slots t apart.0 in' ∙ e) (or_right (eqb s t) (is_listed slots t) in')),
  )
    where
      at : (b : Bool) → is_for n w ≡ b → slot_graph new s ≡ option_map (graph_after_all (cond b (w.delta ∷ []) [])) (slot_graph mid s)
      at true e = changed s (chosen_first w n s slots apart.0 ∙ e) ∙ written_once w.delta (slot_graph mid s)
      at false e =
          others s (chosen_first w n s slots apart.0 ∙ e) (or_left (eqb s s) (is_listed slots s) (eq-eqb s s refl)) ∙ unwritten (slot_graph mid s)

  pub written_more : (slots : List ℕ) → AreDistinct slots → AreWritten 0 slots ws old mid → ChangesSlots (slots_for 0 w slots) w.delta mid new → AreWritten 0 slots (ws ++ w ∷ []) old new
  written_more slots apart so_far c = written_next 0 slots apart so_far c.changed (λ s e in'. c.others s e)

-- ---- the graph that comes of the deltas

pub applied_nothing : (set : List Element) → applied nothing set ≡ set
applied_nothing [] = refl
applied_nothing (x ∷ set) = ap (λ l. x ∷ l) (applied_nothing set)

once : (a : Bool) (w : Says) (t : Bool) → (a && is_in_after w (a && t)) ≡ (a && is_in_after w t)
once true w t = refl
once false w t = refl

-- a set may be cut to the columns before a delta or after it
cut : (d : Delta) (set : List Element) (cols : Columns) → IsSet set → shown (applied d (shown set cols)) cols ≡ shown (applied d set) cols
cut d set cols s =
    let asked = λ (y : Element). asks cols (column_of y) in
    let part = IsSet-filter asked set s in
    same_members (shown (applied d (shown set cols)) cols) (shown (applied d set) cols)
    (IsSet-filter asked (applied d (shown set cols)) (IsSet-applied d (shown set cols) part)) (IsSet-filter asked (applied d set) (IsSet-applied d set s))
    (λ x.
    has-filter asked (applied d (shown set cols)) x
    ∙ ap (λ t. asks cols (column_of x) && t) (decides_each_element d (shown set cols) x ∙ ap (is_in_after (says d x)) (has-filter asked set x))
    ∙ once (asks cols (column_of x)) (says d x) (has set x)
    ∙ sym (has-filter asked (applied d set) x ∙ ap (λ t. asks cols (column_of x) && t) (decides_each_element d set x)))

pub led_by_all : (ds : List Delta) (b : Base) (cols : Columns) (set : List Element) → IsSet set
    → graph_after_all ds (record { base = b; cols = cols; members = shown set cols }) ≡ record { base = b; cols = cols; members = shown (applied (composed_all ds) set) cols }
led_by_all [] b cols set s = ap (λ (l : List Element). record { base = b; cols = cols; members = shown l cols }) (sym (applied_nothing set))
led_by_all (d ∷ ds) b cols set s =
    ap (λ (l : List Element). graph_after_all ds (record { base = b; cols = cols; members = l })) (cut d set cols s)
    ∙ led_by_all ds b cols (applied d set) (IsSet-applied d set s)
    ∙ ap (λ (l : List Element). record { base = b; cols = cols; members = shown l cols })
    (sym (applies_one_after_the_other (composed d (composed_all ds)) d (composed_all ds) set (composes_by (composed d (composed_all ds)) d (composed_all ds) refl) s))
