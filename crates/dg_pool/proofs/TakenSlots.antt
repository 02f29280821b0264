-- The slot that is taken for a graph, and the sweep before it.
use Rattle.std.proofs.Common.{arith, ◌≡◌, ℕ, ◌<◌, ◌≤◌, List, Option, Some, None, IfSome, length, map, sym, ap, ◌∙◌, ◌⊎◌, inl, inr}
use Rattle.std.proofs.lemmas.Bool.{cases_lt}
use Rattle.std.proofs.lemmas.List.{get_or-map, get_or_past, length-map}
use Rattle.dg_pool.specs.declared.slots.SlotState.{SlotState}
use Rattle.dg_pool.specs.declared.slots.SlotState.TheVariants as state
use Rattle.dg_pool.specs.Graphs.{PoolState, slot_at, CellsStay}
use Rattle.dg_pool.specs.Sweeps.{freed}
use Rattle.dg_pool.specs.Slots.{is_free, IsLeastFree, NoneFree, TakesSlot, Was_free, Behind_a_sweep}

-- each slot after a whole sweep
freed_at : (slots : List SlotState) (t : ℕ) → slot_at (map freed slots) t ≡ freed (slot_at slots t)
freed_at slots t = at (cases_lt t (length slots))
  where
    at : (t < length slots) ⊎ (length slots ≤ t) → slot_at (map freed slots) t ≡ freed (slot_at slots t)
    at (inl within) = get_or-map freed slots t state.Free state.Free within
    at (inr past) = get_or_past (map freed slots) t state.Free (omega (arith, past, length-map slots freed)) ∙ ap freed (sym (get_or_past slots t state.Free past))

-- the least slot that is free behind a whole sweep, where none was free
pub taken_behind_a_sweep : (old swept : PoolState) → NoneFree old.slots → ((t : ℕ) → slot_at swept.slots t ≡ freed (slot_at old.slots t)) → swept.sweep_index ≡ 0
    → (found : Option ℕ) → IfSome found (IsLeastFree swept.slots) → IfSome found (TakesSlot old swept)
taken_behind_a_sweep old swept none all place None least = tt
taken_behind_a_sweep old swept none all place (Some s) least =
    Behind_a_sweep none
    (record {
      least = record {
        low = least.low;
        within = least.within;
        free = ap is_free (sym (same s)) ∙ least.free;
        least = λ u low below. ap is_free (sym (same u)) ∙ least.least u low below;
      };
      others = λ t other. same t;
    })
    place
  where
    same : (t : ℕ) → slot_at swept.slots t ≡ slot_at (map freed old.slots) t
    same t = all t ∙ sym (freed_at old.slots t)

-- the slot is still the one that was taken, where the sweep, the other slots and the cells stay
pub taken_still : (old mid new : PoolState) (s : ℕ) → TakesSlot old mid s → new.sweep_index ≡ mid.sweep_index
    → ((t : ℕ) → (t ≡ s → ⊥) → slot_at new.slots t ≡ slot_at mid.slots t) → CellsStay mid.rows new.rows → TakesSlot old new s
taken_still old mid new s (Was_free taken place cells) stands others stay =
    Was_free (record { least = taken.least; others = λ t other. others t other ∙ taken.others t other }) (stands ∙ place) (λ x there. stay x (cells x there))
taken_still old mid new s (Behind_a_sweep none taken place) stands others stay =
    Behind_a_sweep none (record { least = taken.least; others = λ t other. others t other ∙ taken.others t other }) (stands ∙ place)
