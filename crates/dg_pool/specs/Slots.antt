-- The slots of the pool.
use Rattle.std.specs.Prelude.{◌≡◌, ℕ, ◌≤◌, ◌<◌, ◌==◌, Bool, true, false, ◌||◌, List, [], Option, Some, None, IsSome, count_by, map}
use Rattle.dg_pool.specs.declared.slots.Base.TheVariants as base
use Rattle.dg_pool.specs.declared.slots.SlotState.{SlotState}
use Rattle.dg_pool.specs.declared.slots.SlotState.TheVariants as state
use Rattle.dg_graph.specs.declared.element.Element.{Element}
use Rattle.dg_graph.specs.declared.element.Columns.{Columns}
use Rattle.dg_pool.specs.declared.slots.Base.{Base}
use Rattle.dg_pool.specs.declared.slots.Slot.{Slot}
use Rattle.dg_pool.specs.Graphs.{PoolState, SlotGraph, slot_graph, graph_now, Includes, slot_at, is_live, CellsStay}
use Rattle.dg_pool.specs.Sweeps.{members_as, freed}
use Rattle.dg_graph.specs.Composition.{Delta}
use Rattle.dg_graph.specs.Elements.{has}
use Rattle.dg_cells.specs.Rows.{Row, cell_at, pair}

-- the slot is live, and its base is this one
abbrev pub rests_on : ℕ → SlotState → Bool
rests_on s state.Free = false
rests_on s (state.Released swept) = false
rests_on s (state.Live base.Nothing cols) = false
rests_on s (state.Live base.Now cols) = false
rests_on s (state.Live (base.Slot b) cols) = b.0 == s

pub record IsLeastOn (slots : List SlotState) (s t : ℕ) : Type 0 where
  pub within : t < 128
  pub rests : rests_on s (slot_at slots t) ≡ true
  pub least : (u : ℕ) → u < t → rests_on s (slot_at slots u) ≡ false

abbrev pub NoneOn : List SlotState → ℕ → Type 0
NoneOn slots s = (u : ℕ) → u < 128 → rests_on s (slot_at slots u) ≡ false

abbrev pub is_free : SlotState → Bool
is_free state.Free = true
is_free (state.Released swept) = false
is_free (state.Live b cols) = false

pub record IsLeastFree (slots : List SlotState) (s : ℕ) : Type 0 where
  pub low : 1 ≤ s
  pub within : s < 128
  pub free : is_free (slot_at slots s) ≡ true
  pub least : (u : ℕ) → 1 ≤ u → u < s → is_free (slot_at slots u) ≡ false

abbrev pub NoneFree : List SlotState → Type 0
NoneFree slots = (u : ℕ) → 1 ≤ u → u < 128 → is_free (slot_at slots u) ≡ false

-- the slot is the least that is free of these, and all others stay as they are here
pub record TakesLeast (slots new : List SlotState) (s : ℕ) : Type 0 where
  pub least : IsLeastFree slots s
  pub others : (t : ℕ) → (t ≡ s → ⊥) → slot_at new t ≡ slot_at slots t

-- A slot is taken for a graph. Where one was free, it is the least of these: the sweep stands where it stood, no cell is
-- given back, and all other slots are as they were. Where none was free, it is the least that is free behind a whole
-- sweep: the next one begins at the first cell, and all other slots are as the sweep leaves them.
pub data TakesSlot (old new : PoolState) (s : ℕ) : Type 0 where
  Was_free : TakesLeast old.slots new.slots s → new.sweep_index ≡ old.sweep_index → CellsStay old.rows new.rows → TakesSlot old new s
  Behind_a_sweep : NoneFree old.slots → TakesLeast (map freed old.slots) new.slots s → new.sweep_index ≡ 0 → TakesSlot old new s

-- the slot is live
abbrev pub IsLive : PoolState → Slot → Type 0
IsLive p slot = IsSome (slot_graph p slot.0)

-- how many slots are live
abbrev pub live_count : PoolState → ℕ
live_count p = count_by is_live p.slots

-- 127 slots are live
abbrev pub AllLive : PoolState → Type 0
AllLive p = (s : ℕ) → 1 ≤ s → s < 128 → IsSome (slot_graph p s)

-- what a slot would have by this base alone
abbrev pub base_members : PoolState → Base → List Element
base_members p base.Nothing = []
base_members p base.Now = graph_now p
base_members p (base.Slot b) = members_as (slot_graph p b.0)

-- a base slot is live, rests on nothing, and has these columns
abbrev pub IsBaseWith : Columns → Option SlotGraph → Type 0
IsBaseWith cols None = ⊥
IsBaseWith cols (Some g) = (g.base ≡ base.Nothing) × Includes g.cols cols

abbrev pub BaseFits : PoolState → Base → Columns → Type 0
BaseFits p base.Nothing cols = Unit {0}
BaseFits p base.Now cols = Unit {0}
BaseFits p (base.Slot b) cols = IsBaseWith cols (slot_graph p b.0)

-- the slot's explicit bit is set in cells of elements that the delta names alone
abbrev pub NamesOnly : PoolState → ℕ → Delta → Type 0
NamesOnly p s d = (n : ℕ) (r : Row) → cell_at p.rows n ≡ Some r → (pair s r).0 ≡ true → (has d.minus r.element || has d.plus r.element) ≡ true
