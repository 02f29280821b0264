-- What the tie says of handles and slots, and how it is kept.
use Rattle.std.proofs.Common.{◌≡◌, ℕ, ◌<◌, Bool, true, false, ◌&&◌, ◌||◌, not, [], Option, Some, None, IsSome, length, get_or, unwrap_or, refl, sym, ap, ◌∙◌, subst}
use Rattle.std.proofs.lemmas.Bool.{both_ways, eq-eqb}
use Rattle.dg_graph.specs.declared.element.Column.{Column}
use Rattle.dg_graph.specs.declared.element.Column.TheVariants.{Structure, NodeAttr, EdgeAttr, Transient}
use Rattle.dg_graph.specs.declared.element.Columns.{Columns}
use Rattle.dg_graph.specs.Elements.{asks, column_of}
use Rattle.dg_handles.specs.Handles.{HandlesState, SlotHolds, IsBaseHandle, IsGraphIn, IsGraphOn, IsNoSlot, IsTied, RestsOn, TieIsKept, at_slot, slot_graphs, held_by, members_at, slot_of, with_messages}
use Rattle.dg_handles.proofs.HandleEntries.{beside, graph_beside, handles_in, none_dependent, slot_apart, slot_beside, slot_listed, zip-each, zip-length}
use Rattle.dg_machine.specs.declared.stands.Stands.{Stands}
use Rattle.dg_machine.specs.declared.stands.Shown.TheVariants.{Base}
use Rattle.dg_machine.specs.MachineState.{dependent_on, is_on, is_overlay_on, overlay_on, stands_at}
use Rattle.dg_machine.specs.Planning.{includes}
use Rattle.dg_pool.specs.declared.slots.Base.{Base as PoolBase}
use Rattle.dg_pool.specs.declared.slots.Base.TheVariants as base
use Rattle.dg_pool.specs.declared.slots.Slot.{Slot}
use Rattle.dg_pool.specs.Changes.{NoneRestsOn}
use Rattle.dg_pool.specs.Graphs.{Includes, PoolState, SlotGraph, is_listed, slot_graph}
use Rattle.dg_pool.specs.Slots.{IsBaseWith}

pub some_nowhere : (o : Option SlotGraph) → o ≡ None → IsSome o → ⊥
some_nowhere None e h = cc
some_nowhere (Some g) e h = cc

pub some_by : (o : Option SlotGraph) (g : SlotGraph) → o ≡ Some g → IsSome o
some_by None g e = cc
some_by (Some f) g e = refl

some_in : (cols : Columns) (allowed : PoolBase → Type 0) (o : Option SlotGraph) → IsGraphIn cols allowed o → IsSome o
some_in cols allowed None h = absurd h
some_in cols allowed (Some g) h = refl

pub some_held : (h : HandlesState) (cols : Columns) (on : Option (Option ℕ)) (o : Option SlotGraph) → IsGraphOn h cols on o → IsSome o
some_held h cols (Some on) o held = some_in cols (RestsOn h cols on) o held
some_held h cols None o held = some_in (with_messages cols) (λ b. b ≡ base.Nothing) o held

-- the slot of a set
pub set_holds : (h : HandlesState) (stands : Stands) (g : SlotGraph) → overlay_on stands.what ≡ None → g.cols ≡ with_messages stands.cols → g.base ≡ base.Nothing
    → SlotHolds h stands (Some g)
set_holds h stands g alone same rests = subst (λ on. IsGraphOn h stands.cols on (Some g)) (sym alone) (same, rests)

-- a set with the messages serves an overlay in fewer columns, or with them
included : (all cols : Columns) → includes all cols ≡ true → Includes (with_messages all) cols
included all cols is = λ x. at (column_of x) is
  where
    first : (a b c d : Bool) → ((a || not b) && (c || not d)) ≡ true → b ≡ true → a ≡ true
    first true b c d e f = refl
    first false true c d e f = cc
    first false false c d e f = cc

    second : (a b c d : Bool) → ((a || not b) && (c || not d)) ≡ true → d ≡ true → c ≡ true
    second a b true d e f = refl
    second true b false true e f = cc
    second true b false false e f = cc
    second false true false true e f = cc
    second false false false true e f = cc
    second false true false false e f = cc
    second false false false false e f = cc

    at : (column : Column) → includes all cols ≡ true → asks cols column ≡ true → asks (with_messages all) column ≡ true
    at Structure e f = refl
    at NodeAttr e f = first all.nodes_attr cols.nodes_attr all.edges_attr cols.edges_attr e f
    at EdgeAttr e f = second all.nodes_attr cols.nodes_attr all.edges_attr cols.edges_attr e f
    at Transient e f = refl

abbrev slot_number : PoolBase → ℕ
slot_number base.Nothing = 0
slot_number base.Now = 0
slot_number (base.Slot b) = b.0

-- ---- what the tie says

module _ (p : PoolState) (h : HandlesState) (t : IsTied p h) where
  pub many : length h.slots ≡ length h.table
  many = zip-length (λ (entry : ℕ × Stands) (s : ℕ). SlotHolds h entry.1 (slot_graph p s)) h.table h.slots t.held

  pub live_slot : (s : ℕ) → is_listed h.slots s ≡ true → IsSome (slot_graph p s)
  live_slot s in' =
      let r = beside (λ (entry : ℕ × Stands) (k : ℕ). SlotHolds h entry.1 (slot_graph p k)) h.table h.slots t.held s in' in
      some_held h r.0.1.cols (overlay_on r.0.1.what) (slot_graph p s) r.1

  -- the slot of a handle that holds a base
  pub base_slot : (handle : ℕ) (cols : Columns) → IsBaseHandle handle cols h.table → (s : ℕ) × (slot_of handle h.table h.slots ≡ Some s) × IsBaseWith cols (slot_graph p s)
  base_slot handle cols b =
      let r = slot_beside (λ (stands : Stands) (k : ℕ). SlotHolds h stands (slot_graph p k)) handle h.table h.slots t.held (record { what = Base b.0; cols = b.1 }) b.2 in
      (r.0, r.1, at (slot_graph p r.0) r.2)
    where
      at : (o : Option SlotGraph) → IsGraphIn (with_messages b.1) (λ x. x ≡ base.Nothing) o → IsBaseWith cols o
      at None g = absurd g
      at (Some g) e = (e.1, subst (λ (all : Columns). Includes all cols) (sym e.0) (included b.1 cols b.3))

  -- the graph of a handle is that of its slot
  pub held_at : (handle s : ℕ) → slot_of handle h.table h.slots ≡ Some s → held_by h.table (slot_graphs p h.slots) handle ≡ members_at p s
  held_at handle s is = ap (λ o. unwrap_or o []) (graph_beside (members_at p) handle h.table h.slots s is)

  -- what stands for a graph that rests on a slot rests on the handle of that slot
  pub rests_by : (cols : Columns) (on : Option (Option ℕ)) (g : SlotGraph) (b : Slot) → IsGraphOn h cols on (Some g) → g.base ≡ base.Slot b
      → (handle : ℕ) × (is_on handle on ≡ true) × (slot_of handle h.table h.slots ≡ Some b.0)
  rests_by cols None g b held is = absurd (subst IsNoSlot (sym held.1 ∙ is) tt)
  rests_by cols (Some None) g b held is = absurd (subst IsNoSlot is held.1)
  rests_by cols (Some (Some handle)) g b held is =
      let r = base_slot handle cols held.1.0 in
      let same : b.0 ≡ r.0 = ap slot_number (sym is ∙ held.1.1 ∙ ap at_slot r.1) in
      (handle, eq-eqb handle handle refl, r.1 ∙ ap (λ n. Some n) (sym same))

  -- a slot on which a live one rests is one of the handles'
  pub rests_among : (s : ℕ) (g : SlotGraph) (b : Slot) → slot_graph p s ≡ Some g → g.base ≡ base.Slot b → is_listed h.slots b.0 ≡ true
  rests_among s g b is on =
      let in' = t.only s (some_by (slot_graph p s) g is) in
      let r = beside (λ (entry : ℕ × Stands) (k : ℕ). SlotHolds h entry.1 (slot_graph p k)) h.table h.slots t.held s in' in
      let on' = rests_by r.0.1.cols (overlay_on r.0.1.what) g b (subst (SlotHolds h r.0.1) is r.1) on in
      slot_listed on'.0 h.table h.slots b.0 on'.2

  -- none rests on the slot of a handle on which none depends
  pub none_rests : (handle entry_index : ℕ) → dependent_on handle h.table ≡ None → entry_index < length h.table → get_or (handles_in h.table) entry_index 0 ≡ handle → NoneRestsOn p (get_or h.slots entry_index 0)
  none_rests handle entry_index none within here = λ s g b is on same.
      let in' = t.only s (some_by (slot_graph p s) g is) in
      let R : ℕ × Stands → ℕ → Type 0 = λ (entry : ℕ × Stands) (k : ℕ). SlotHolds h entry.1 (slot_graph p k) in
      let r = beside (λ (entry : ℕ × Stands) (k : ℕ). R entry k × (is_overlay_on handle entry.1 ≡ false)) h.table h.slots (none_dependent R handle h.table h.slots none t.held) s in' in
      let on' = rests_by r.0.1.cols (overlay_on r.0.1.what) g b (subst (SlotHolds h r.0.1) is r.1.0) on in
      let there : slot_of on'.0 h.table h.slots ≡ Some (get_or h.slots entry_index 0) = on'.2 ∙ ap (λ n. Some n) same in
      let it : handle ≡ on'.0 = sym here ∙ slot_apart on'.0 h.table h.slots entry_index t.apart many within there in
      both_ways (is_overlay_on handle r.0.1) r.1.1 (ap (λ n. is_overlay_on n r.0.1) it ∙ on'.1)

-- ---- the tie to other handles

-- the handle has the entry and the slot that it had
pub record Stays (h k : HandlesState) (handle : ℕ) : Type 0 where
  pub entry : (e : Stands) → stands_at handle h.table ≡ Some e → stands_at handle k.table ≡ Some e
  pub slot : (s : ℕ) → slot_of handle h.table h.slots ≡ Some s → slot_of handle k.table k.slots ≡ Some s

module _ (p : PoolState) (h k : HandlesState) (t : IsTied p h) where
  pub rests_still : (cols : Columns) (on : Option ℕ) (b : PoolBase) → ((handle : ℕ) → on ≡ Some handle → Stays h k handle) → RestsOn h cols on b → RestsOn k cols on b
  rests_still cols None b stays r = r
  rests_still cols (Some handle) b stays r =
      let s = stays handle refl in
      let at = base_slot p h t handle cols r.0 in
      ((r.0.0, r.0.1, s.entry (record { what = Base r.0.0; cols = r.0.1 }) r.0.2, r.0.3), r.1 ∙ ap at_slot at.1 ∙ sym (ap at_slot (s.slot at.0 at.1)))

  pub holds_still : (cols : Columns) (on : Option (Option ℕ)) (o : Option SlotGraph) → ((handle : ℕ) → is_on handle on ≡ true → Stays h k handle) → IsGraphOn h cols on o → IsGraphOn k cols on o
  holds_still cols None o stays held = held
  holds_still cols (Some on) None stays held = absurd held
  holds_still cols (Some None) (Some g) stays held = held
  holds_still cols (Some (Some handle)) (Some g) stays held =
      (held.0, rests_still cols (Some handle) g.base (λ n e. stays n (eq-eqb handle n (of_handle n e))) held.1)
    where
      of_handle : (n : ℕ) → Some handle ≡ Some n → handle ≡ n
      of_handle n e = ap (λ o. unwrap_or o handle) e

pub tie_is_kept : TieIsKept
tie_is_kept = λ old new h same t. record {
  held = zip-each (λ (entry : ℕ × Stands) (s : ℕ). SlotHolds h entry.1 (slot_graph old s)) (λ (entry : ℕ × Stands) (s : ℕ). SlotHolds h entry.1 (slot_graph new s)) h.table h.slots t.held
      (λ entry s in' held. subst (SlotHolds h entry.1) (sym (same s)) held);
  apart = t.apart;
  only = λ s live. t.only s (subst (λ (o : Option SlotGraph). IsSome o) (same s) live);
}
