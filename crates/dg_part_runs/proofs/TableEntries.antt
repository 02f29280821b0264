-- The first entry of a table with a handle.
use Rattle.std.proofs.Common.{arith, ◌≡◌, ℕ, zero, suc, ◌<◌, true, false, cond, eqb, List, [], ◌∷◌, Some, None, length, map, get_or, remove, refl, sym, ap, ◌∙◌, subst}
use Rattle.std.proofs.lemmas.Bool.{eq-eqb, ne_eqb}
use Rattle.std.proofs.lemmas.List.{get_or-map}
use Rattle.std.proofs.Math.ListN.{length-map}
use Rattle.dg_graph.specs.declared.element.Element.{Element}
use Rattle.dg_part_runs.specs.declared.handle_sets.HeldSet.{HeldSet}
use Rattle.dg_part_runs.specs.HandleSets.{HandleSetsState, IsFirstEntry, NoEntry}
use Rattle.dg_part_runs.specs.PartsMachine.{set_at, without_set}

abbrev Entries : Type 0
Entries = List (ℕ × List Element)

abbrev pub numbers_in : Entries → List ℕ
numbers_in table = map (λ (e : ℕ × List Element). e.0) table

-- what the place of the first entry with the handle says
pub record Found (handle : ℕ) (table : Entries) (place : ℕ) : Type 0 where
  pub set : (d : ℕ × List Element) → set_at handle table ≡ Some (get_or table place d).1
  pub without : without_set handle table ≡ remove table place

pub found : (handle : ℕ) (table : Entries) (place : ℕ) → IsFirstEntry handle (numbers_in table) place → Found handle table place
found handle [] place f = absurd (omega (arith, f.within))
found handle (e ∷ table) zero f = record {
  set = λ d. ap (λ b. cond b (Some e.1) (set_at handle table)) here;
  without = ap (λ b. cond b table (e ∷ without_set handle table)) here;
}
  where
    here : eqb e.0 handle ≡ true
    here = eq-eqb e.0 handle f.here
found handle (e ∷ table) (suc place) f =
    let next = found handle table place (record { within = omega (arith, f.within); here = f.here; before = λ k lt is. f.before (suc k) (omega (arith, lt)) is }) in
    record {
      set = λ d. ap (λ b. cond b (Some e.1) (set_at handle table)) differ ∙ next.set d;
      without = ap (λ b. cond b table (e ∷ without_set handle table)) differ ∙ ap (λ l. e ∷ l) next.without;
    }
  where
    differ : eqb e.0 handle ≡ false
    differ = ne_eqb e.0 handle (f.before 0 (omega arith))

-- what it says that there is none
pub record Missed (handle : ℕ) (table : Entries) : Type 0 where
  pub set : set_at handle table ≡ None
  pub without : without_set handle table ≡ table

pub missed : (handle : ℕ) (table : Entries) → NoEntry handle (numbers_in table) → Missed handle table
missed handle [] none = record { set = refl; without = refl }
missed handle (e ∷ table) none =
    let next = missed handle table (λ k lt is. none (suc k) (omega (arith, lt)) is) in
    record {
      set = ap (λ b. cond b (Some e.1) (set_at handle table)) differ ∙ next.set;
      without = ap (λ b. cond b table (e ∷ without_set handle table)) differ ∙ ap (λ l. e ∷ l) next.without;
    }
  where
    differ : eqb e.0 handle ≡ false
    differ = ne_eqb e.0 handle (none 0 (omega arith))

-- ---- by the entries as they are kept

abbrev pub entry_of : HeldSet → ℕ × List Element
entry_of e = (e.handle, e.set)

abbrev pub state_of : List HeldSet → ℕ → HandleSetsState
state_of held next = record { sets = map entry_of held; next = next }

pub map-remove : {X Y : Type 0} (f : X → Y) (xs : List X) (i : ℕ) → map f (remove xs i) ≡ remove (map f xs) i
map-remove f [] zero = refl
map-remove f [] (suc i) = refl
map-remove f (x ∷ xs) zero = refl
map-remove f (x ∷ xs) (suc i) = ap (λ l. f x ∷ l) (map-remove f xs i)

numbers_are : (held : List HeldSet) → map (λ (e : HeldSet). e.handle) held ≡ numbers_in (map entry_of held)
numbers_are [] = refl
numbers_are (e ∷ held) = ap (λ l. e.handle ∷ l) (numbers_are held)

length_are : (held : List HeldSet) → length (map (λ (e : HeldSet). e.handle) held) ≡ length held
length_are held = length-map held (λ (e : HeldSet). e.handle)

-- the state of these entries, which a search has seen
module _ (handle : ℕ) (h : HandleSetsState) (held seen : List HeldSet) (next : ℕ) (is_state : state_of held next ≡ h) (is_seen : seen ≡ held) where
  numbers : map (λ (e : HeldSet). e.handle) seen ≡ numbers_in (map entry_of held)
  numbers = ap (map (λ (e : HeldSet). e.handle)) is_seen ∙ numbers_are held

  pub missed_in : NoEntry handle (map (λ (e : HeldSet). e.handle) seen) → Missed handle h.sets
  missed_in none =
      subst (λ (v : HandleSetsState). Missed handle v.sets) is_state
      (missed handle (map entry_of held) (subst (λ (l : List ℕ). NoEntry handle l) numbers none))

  module _ (place : ℕ) (first : IsFirstEntry handle (map (λ (e : HeldSet). e.handle) seen) place) where
    found_there : Found handle (map entry_of held) place
    found_there = found handle (map entry_of held) place (subst (λ (l : List ℕ). IsFirstEntry handle l place) numbers first)

    pub found_in : Found handle h.sets place
    found_in = subst (λ (v : HandleSetsState). Found handle v.sets place) is_state found_there

    pub within_in : place < length held
    within_in = let e : length (map (λ (e : HeldSet). e.handle) held) ≡ length held = length_are held in
        let f : length (map (λ (e : HeldSet). e.handle) seen) ≡ length held = ap (λ (l : List HeldSet). length (map (λ (e : HeldSet). e.handle) l)) is_seen ∙ e in
        omega (arith, f, first.within)

    pub set_in : (e : HeldSet) → e ≡ get_or held place e → set_at handle h.sets ≡ Some e.set
    set_in e is =
        let there : get_or held place e ≡ e = sym is in
        let entry : get_or (map entry_of held) place (entry_of e) ≡ entry_of e = get_or-map entry_of held place e (entry_of e) within_in ∙ ap entry_of there in
        subst (λ (v : HandleSetsState). set_at handle v.sets ≡ Some e.set) is_state (found_there.set (entry_of e) ∙ ap (λ (p : ℕ × List Element). Some p.1) entry)

    pub removed_in : map entry_of (remove held place) ≡ without_set handle h.sets
    removed_in =
        map-remove entry_of held place
        ∙ subst (λ (v : HandleSetsState). remove (map entry_of held) place ≡ without_set handle v.sets) is_state (sym found_there.without)
