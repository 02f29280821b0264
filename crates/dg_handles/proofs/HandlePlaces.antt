-- What the index of a handle says of the table and of the graphs.
use Rattle.std.proofs.Common.{arith, ◌≡◌, ℕ, zero, suc, ◌+◌, ◌<◌, true, false, cond, eqb, List, [], ◌∷◌, ◌++◌, Option, Some, None, IsSome, length, map, take, drop, get_or, remove, refl, sym, ap, ◌∙◌, subst}
use Rattle.std.proofs.lemmas.Bool.{both_ways, eq-eqb, ne_eqb}
use Rattle.std.proofs.lemmas.List.{drop_more, get_or-map}
use Rattle.std.proofs.Math.ListN.{length-map, take-append-drop}
use Rattle.dg_graph.specs.declared.element.Element.{Element}
use Rattle.dg_handles.specs.declared.entries.Entry.{Entry}
use Rattle.dg_handles.specs.Handles.{HandlesState, SlotHolds, IsTied, graph_among, slot_graphs, graphs_without, members_at, slot_of}
use Rattle.dg_handles.specs.FirstEntry.{IsFirst, NoneIs}
use Rattle.dg_handles.proofs.HandleEntries.{Entries, entry_remove, handles_in, none_dependent, slot_remove, zip-each, zip-remove}
use Rattle.dg_handles.proofs.HandleAdditions.{entry_of, number_of, numbers_are}
use Rattle.dg_handles.proofs.HandleNumbers.{distinct_middle, listed_past, map_same}
use Rattle.dg_handles.proofs.HandleTies.{Stays, holds_still, many, some_nowhere}
use Rattle.dg_machine.specs.declared.stands.Stands.{Stands}
use Rattle.dg_machine.specs.MachineState.{dependent_on, is_overlay_on, overlay_on, stands_at, without_handle}
use Rattle.dg_pool.specs.Changes.{AreDistinct}
use Rattle.dg_pool.specs.Graphs.{PoolState, SlotGraph, is_listed, slot_graph}
use Rattle.dg_pool.specs.Sweeps.{members_as}

pub map-remove : {X Y : Type 0} (f : X → Y) (xs : List X) (i : ℕ) → map f (remove xs i) ≡ remove (map f xs) i
map-remove f [] zero = refl
map-remove f [] (suc i) = refl
map-remove f (x ∷ xs) zero = refl
map-remove f (x ∷ xs) (suc i) = ap (λ l. f x ∷ l) (map-remove f xs i)

-- ---- where the handle is live

-- what an index says of the table, of the slots, and of graphs that are as many
pub record Found (handle : ℕ) (table : Entries) (slots : List ℕ) (entry_index : ℕ) : Type 0 where
  pub entry : (d : ℕ × Stands) → stands_at handle table ≡ Some (get_or table entry_index d).1
  pub slot : slot_of handle table slots ≡ Some (get_or slots entry_index 0)
  pub without : without_handle handle table ≡ remove table entry_index
  pub graphs : (graphs : List (List Element)) → length graphs ≡ length table → graphs_without handle table graphs ≡ remove graphs entry_index

pub found : (handle : ℕ) (table : Entries) (slots : List ℕ) (entry_index : ℕ) → length slots ≡ length table → IsFirst handle (handles_in table) entry_index → Found handle table slots entry_index
found handle [] slots entry_index same f = absurd (omega (arith, f.within))
found handle (e ∷ table) [] entry_index same f = absurd (omega (arith, same))
found handle (e ∷ table) (s ∷ slots) zero same f = record {
  entry = λ d. ap (λ b. cond b (Some e.1) (stands_at handle table)) here;
  slot = ap (λ b. cond b (Some s) (slot_of handle table slots)) here;
  without = ap (λ b. cond b table (e ∷ without_handle handle table)) here;
  graphs = at;
}
  where
    here : eqb e.0 handle ≡ true
    here = eq-eqb e.0 handle f.here

    at : (graphs : List (List Element)) → length graphs ≡ length (e ∷ table) → graphs_without handle (e ∷ table) graphs ≡ remove graphs zero
    at [] many' = refl
    at (g ∷ graphs) many' = ap (λ b. cond b graphs (g ∷ graphs_without handle table graphs)) here
found handle (e ∷ table) (s ∷ slots) (suc entry_index) same f =
    let next = found handle table slots entry_index (omega (arith, same)) (record { within = omega (arith, f.within); here = f.here; before = λ k lt is. f.before (suc k) (omega (arith, lt)) is }) in
    record {
      entry = λ d. ap (λ b. cond b (Some e.1) (stands_at handle table)) differ ∙ next.entry d;
      slot = ap (λ b. cond b (Some s) (slot_of handle table slots)) differ ∙ next.slot;
      without = ap (λ b. cond b table (e ∷ without_handle handle table)) differ ∙ ap (λ l. e ∷ l) next.without;
      graphs = at next.graphs;
    }
  where
    differ : eqb e.0 handle ≡ false
    differ = ne_eqb e.0 handle (f.before 0 (omega arith))

    at : ((graphs : List (List Element)) → length graphs ≡ length table → graphs_without handle table graphs ≡ remove graphs entry_index)
        → (graphs : List (List Element)) → length graphs ≡ length (e ∷ table) → graphs_without handle (e ∷ table) graphs ≡ remove graphs (suc entry_index)
    at rest [] many' = absurd (omega (arith, many'))
    at rest (g ∷ graphs) many' = ap (λ b. cond b graphs (g ∷ graphs_without handle table graphs)) differ ∙ ap (λ l. g ∷ l) (rest graphs (omega (arith, many')))

-- ---- where it is not

pub record Missed (handle : ℕ) (table : Entries) (slots : List ℕ) : Type 0 where
  pub entry : stands_at handle table ≡ None
  pub slot : slot_of handle table slots ≡ None
  pub without : without_handle handle table ≡ table
  pub graph : (graphs : List (List Element)) → length graphs ≡ length table → graph_among handle table graphs ≡ None
  pub graphs : (graphs : List (List Element)) → length graphs ≡ length table → graphs_without handle table graphs ≡ graphs

pub missed : (handle : ℕ) (table : Entries) (slots : List ℕ) → length slots ≡ length table → NoneIs handle (handles_in table) → Missed handle table slots
missed handle [] slots same none = record { entry = refl; slot = refl; without = refl; graph = λ graphs many'. refl; graphs = at }
  where
    at : (graphs : List (List Element)) → length graphs ≡ 0 → graphs_without handle [] graphs ≡ graphs
    at [] many' = refl
    at (g ∷ graphs) many' = absurd (omega (arith, many'))
missed handle (e ∷ table) [] same none = absurd (omega (arith, same))
missed handle (e ∷ table) (s ∷ slots) same none =
    let next = missed handle table slots (omega (arith, same)) (λ k lt is. none (suc k) (omega (arith, lt)) is) in
    record {
      entry = ap (λ b. cond b (Some e.1) (stands_at handle table)) differ ∙ next.entry;
      slot = ap (λ b. cond b (Some s) (slot_of handle table slots)) differ ∙ next.slot;
      without = ap (λ b. cond b table (e ∷ without_handle handle table)) differ ∙ ap (λ l. e ∷ l) next.without;
      graph = at_graph next.graph;
      graphs = at next.graphs;
    }
  where
    differ : eqb e.0 handle ≡ false
    differ = ne_eqb e.0 handle (none 0 (omega arith))

    at_graph : ((graphs : List (List Element)) → length graphs ≡ length table → graph_among handle table graphs ≡ None)
        → (graphs : List (List Element)) → length graphs ≡ length (e ∷ table) → graph_among handle (e ∷ table) graphs ≡ None
    at_graph rest [] many' = refl
    at_graph rest (g ∷ graphs) many' = ap (λ b. cond b (Some g) (graph_among handle table graphs)) differ ∙ rest graphs (omega (arith, many'))

    at : ((graphs : List (List Element)) → length graphs ≡ length table → graphs_without handle table graphs ≡ graphs)
        → (graphs : List (List Element)) → length graphs ≡ length (e ∷ table) → graphs_without handle (e ∷ table) graphs ≡ graphs
    at rest [] many' = refl
    at rest (g ∷ graphs) many' = ap (λ b. cond b graphs (g ∷ graphs_without handle table graphs)) differ ∙ ap (λ l. g ∷ l) (rest graphs (omega (arith, many')))

-- ---- by the entries

abbrev pub state_of : List Entry → ℕ → HandlesState
state_of entries next = record { table = map entry_of entries; slots = map number_of entries; next = next }

-- the state of these entries, which a search has seen
module _ (handle : ℕ) (s : HandlesState) (entries seen : List Entry) (next : ℕ) (is_state : state_of entries next ≡ s) (is_seen : seen ≡ entries) where
  alike : length (map number_of entries) ≡ length (map entry_of entries)
  alike = length-map entries number_of ∙ sym (length-map entries entry_of)

  numbers : map (λ (e : Entry). e.handle) seen ≡ handles_in (map entry_of entries)
  numbers = ap (map (λ (e : Entry). e.handle)) is_seen ∙ numbers_are entries

  pub as_many : length s.slots ≡ length s.table
  as_many = subst (λ (v : HandlesState). length v.slots ≡ length v.table) is_state alike

  pub graphs_many : (p : PoolState) → length (slot_graphs p s.slots) ≡ length s.table
  graphs_many p = length-map s.slots (members_at p) ∙ as_many

  pub missed_in : NoneIs handle (map (λ (e : Entry). e.handle) seen) → Missed handle s.table s.slots
  missed_in none =
      subst (λ (v : HandlesState). Missed handle v.table v.slots) is_state
      (missed handle (map entry_of entries) (map number_of entries) alike (subst (λ (l : List ℕ). NoneIs handle l) numbers none))

  module _ (entry_index : ℕ) (first : IsFirst handle (map (λ (e : Entry). e.handle) seen) entry_index) where
    first_in : IsFirst handle (handles_in (map entry_of entries)) entry_index
    first_in = subst (λ (l : List ℕ). IsFirst handle l entry_index) numbers first

    pub found_in : Found handle s.table s.slots entry_index
    found_in =
        subst (λ (v : HandlesState). Found handle v.table v.slots entry_index) is_state
        (found handle (map entry_of entries) (map number_of entries) entry_index alike first_in)

    pub within_in : entry_index < length s.table
    within_in =
        let within : entry_index < length (map entry_of entries) = omega (arith, first_in.within, length-map (map entry_of entries) (λ (e : ℕ × Stands). e.0)) in
        subst (λ (v : HandlesState). entry_index < length v.table) is_state within

    pub here_in : get_or (handles_in s.table) entry_index 0 ≡ handle
    here_in = subst (λ (v : HandlesState). get_or (handles_in v.table) entry_index 0 ≡ handle) is_state first_in.here

    module _ (e : Entry) (e_is : e ≡ get_or entries entry_index e) where
      inside : entry_index < length entries
      inside = omega (arith, first_in.within, length-map (map entry_of entries) (λ (x : ℕ × Stands). x.0), length-map entries entry_of)

      -- the slot of the entry at the index
      pub number_in : get_or s.slots entry_index 0 ≡ e.slot.0
      number_in = subst (λ (v : HandlesState). get_or v.slots entry_index 0 ≡ e.slot.0) is_state (get_or-map number_of entries entry_index e 0 inside ∙ ap number_of (sym e_is))

      pub slot_in : slot_of handle s.table s.slots ≡ Some e.slot.0
      slot_in = found_in.slot ∙ ap (λ n. Some n) number_in

      pub entry_in : stands_at handle s.table ≡ Some e.stands
      entry_in =
          let at : get_or s.table entry_index (entry_of e) ≡ entry_of e = subst (λ (v : HandlesState). get_or v.table entry_index (entry_of e) ≡ entry_of e) is_state (get_or-map entry_of entries entry_index e (entry_of e) inside ∙ ap entry_of (sym e_is)) in
          found_in.entry (entry_of e) ∙ ap (λ (x : ℕ × Stands). Some x.1) at

-- ---- a handle less

module _ (old new : PoolState) (h : HandlesState) (t : IsTied old h) (handle entry_index next : ℕ) (within : entry_index < length h.table) (here : get_or (handles_in h.table) entry_index 0 ≡ handle) (none : dependent_on handle h.table ≡ None)
    (gone : slot_graph new (get_or h.slots entry_index 0) ≡ None) (others : (s : ℕ) → (s ≡ get_or h.slots entry_index 0 → ⊥) → slot_graph new s ≡ slot_graph old s) where
  -- the slot that was ended
  abbrev ended : ℕ
  ended = get_or h.slots entry_index 0

  abbrev left : List ℕ
  left = remove h.slots entry_index

  abbrev pub without_index : HandlesState
  without_index = record { table = remove h.table entry_index; slots = remove h.slots entry_index; next = next }

  whole : h.slots ≡ take entry_index h.slots ++ ended ∷ drop (suc entry_index) h.slots
  whole =
      let inside : entry_index < length h.slots = omega (arith, within, many old h t) in
      sym (take-append-drop entry_index h.slots) ∙ ap (λ l. take entry_index h.slots ++ l) (drop_more h.slots entry_index 0 inside)
      ∙ ap (λ n. take entry_index h.slots ++ ended ∷ drop n h.slots) (let same : entry_index + 1 ≡ suc entry_index = omega arith in same)

  middle : (is_listed left ended ≡ false) × AreDistinct left
  middle = distinct_middle (take entry_index h.slots) ended (drop (suc entry_index) h.slots) (subst AreDistinct whole t.apart)

  differs : (s : ℕ) → is_listed left s ≡ true → s ≡ ended → ⊥
  differs s in' same = both_ways (is_listed left ended) middle.0 (ap (is_listed left) (sym same) ∙ in')

  stays_by : (stands : Stands) → is_overlay_on handle stands ≡ false → (n : ℕ) → is_overlay_on n stands ≡ true → Stays h without_index n
  stays_by stands free n on =
      let other : get_or (handles_in h.table) entry_index 0 ≡ n → ⊥ = λ same. both_ways (is_overlay_on handle stands) free (ap (λ k. is_overlay_on k stands) (sym here ∙ same) ∙ on) in
      record {
        entry = λ e is. entry_remove n h.table entry_index within other ∙ is;
        slot = λ s is. slot_remove n h.table h.slots entry_index (many old h t) within other ∙ is;
      }

  pub tied_removed : IsTied new without_index
  tied_removed = record {
    held = zip-each (λ (entry : ℕ × Stands) (s : ℕ). SlotHolds h entry.1 (slot_graph old s) × (is_overlay_on handle entry.1 ≡ false)) (λ (entry : ℕ × Stands) (s : ℕ). SlotHolds without_index entry.1 (slot_graph new s))
        (remove h.table entry_index) left
        (zip-remove (λ (entry : ℕ × Stands) (s : ℕ). SlotHolds h entry.1 (slot_graph old s) × (is_overlay_on handle entry.1 ≡ false)) h.table h.slots entry_index
        (none_dependent (λ (entry : ℕ × Stands) (s : ℕ). SlotHolds h entry.1 (slot_graph old s)) handle h.table h.slots none t.held))
        (λ entry s in' r. subst (SlotHolds without_index entry.1) (sym (others s (differs s in'))) (holds_still old h without_index t entry.1.cols (overlay_on entry.1.what) (slot_graph old s) (stays_by entry.1 r.1) r.0));
    apart = middle.1;
    only = λ s live. let d : s ≡ ended → ⊥ = λ same. some_nowhere (slot_graph new s) (ap (slot_graph new) same ∙ gone) live in
        sym (listed_past (take entry_index h.slots) ended (drop (suc entry_index) h.slots) s d) ∙ ap (λ l. is_listed l s) (sym whole) ∙ t.only s (subst (λ (o : Option SlotGraph). IsSome o) (others s d) live);
  }

  pub graphs_removed : slot_graphs new left ≡ remove (slot_graphs old h.slots) entry_index
  graphs_removed = map_same (members_at new) (members_at old) left (λ s in'. ap members_as (others s (differs s in'))) ∙ map-remove (members_at old) h.slots entry_index
