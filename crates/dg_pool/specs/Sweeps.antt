-- What a sweep does to the cells.
use Rattle.std.specs.Prelude.{◌≡◌, ◌==◌, ℕ, ◌+◌, ◌≤◌, ◌<◌, length, IsSome, Bool, true, false, ◌&&◌, ◌||◌, if◌then◌else◌, List, [], ◌∷◌, Option, Some, None, take, is_some, count_by}
use Rattle.std.specs.Option.{option_map}
use Rattle.dg_graph.specs.declared.element.Element.{Element}
use Rattle.dg_graph.specs.Elements.{asks, column_of, has}
use Rattle.dg_pool.specs.declared.pool.Swept.{Swept}
use Rattle.dg_pool.specs.declared.pool.Swept.TheVariants as answer
use Rattle.dg_graph.specs.Sets.{unioned}
use Rattle.dg_delta.specs.Deltas.{is_in_after}
use Rattle.dg_pool.specs.declared.slots.SlotState.{SlotState}
use Rattle.dg_pool.specs.declared.slots.SlotState.TheVariants as state
use Rattle.dg_cells.specs.Rows.{Row, cell_at, is_current, pair}
use Rattle.dg_pool.specs.Graphs.{PoolState, slot_at, pair_at, slot_says, in_slot, picked, graph_now, graph_as, SlotGraph}

-- a slot's graph has the cell's element
abbrev pub in_state : ℕ → SlotState → Row → Bool
in_state s state.Free r = false
in_state s (state.Released swept) r = false
in_state s (state.Live b cols) r = in_slot s b cols r

-- the cell is there and passes the test
abbrev pub passes_test : (Row → Bool) → Option Row → Bool
passes_test test None = false
passes_test test (Some r) = test r

-- the slot was released when the present sweep began
abbrev pub is_swept : SlotState → Bool
is_swept state.Free = false
is_swept (state.Released swept) = swept
is_swept (state.Live b cols) = false

-- the slot is live, and says itself that its graph has the cell's element
abbrev pub wants : ℕ → SlotState → Row → Bool
wants s state.Free r = false
wants s (state.Released swept) r = false
wants s (state.Live b cols) r = asks cols (column_of r.element) && is_in_after (slot_says s r) false

abbrev pub wanted_from : ℕ → List SlotState → Row → Bool
wanted_from s [] r = false
wanted_from s (slot ∷ slots) r = wants s slot r || wanted_from (s + 1) slots r

-- some live graph has the cell's element: the current graph, or a slot that says so itself. A slot that
-- has it by its base has it by one of these.
abbrev pub is_needed : List SlotState → Row → Bool
is_needed slots r = is_current r || wanted_from 0 slots r

-- a cell without the bits of the slots that the sweep clears
pub record Clears (slots : List SlotState) (old new : Row) : Type 0 where
  pub element : new.element ≡ old.element
  pub current : is_current new ≡ is_current old
  pub pairs : (s : ℕ) → 1 ≤ s → pair s new ≡ (if is_swept (slot_at slots s) then (false, false) else pair s old)

-- the element of what stands in a cell
abbrev pub element_of : Option Row → Option Element
element_of o = option_map (λ (r : Row). r.element) o

-- what a sweep leaves of a cell
abbrev pub remains : List SlotState → Option Row → Option Element
remains slots None = None
remains slots (Some r) = if is_needed slots r then Some r.element else None

-- The cells with numbers from one on up to another were passed: those that no live graph needs are given
-- back, and the others have no bit of the slots that the sweep clears. No graph has changed.
pub record CellsSwept (slots : List SlotState) (old new : List (Option Row)) (from until : ℕ) : Type 0 where
  pub now : picked is_current new ≡ picked is_current old
  pub graphs : (s : ℕ) → graph_as new s (slot_at slots s) ≡ graph_as old s (slot_at slots s)
  pub before : (m : ℕ) → m < from → cell_at new m ≡ cell_at old m
  pub behind : (m : ℕ) → until ≤ m → cell_at new m ≡ cell_at old m
  pub passed : (m : ℕ) → from ≤ m → m < until → element_of (cell_at new m) ≡ remains slots (cell_at old m)
  pub cleared : (s : ℕ) → 1 ≤ s → is_swept (slot_at slots s) ≡ true → (m : ℕ) → from ≤ m → m < until → pair_at s (cell_at new m) ≡ (false, false)
  pub free : (s : ℕ) → 1 ≤ s → (m : ℕ) → pair_at s (cell_at old m) ≡ (false, false) → pair_at s (cell_at new m) ≡ (false, false)

-- how many cells have numbers below this
abbrev pub cells_below : List (Option Row) → ℕ → ℕ
cells_below rows n = count_by is_some (take n rows)

-- a slot where a sweep begins, and where it ends
abbrev pub begun : SlotState → SlotState
begun state.Free = state.Free
begun (state.Released swept) = state.Released true
begun (state.Live b cols) = state.Live b cols

abbrev pub ended : SlotState → SlotState
ended state.Free = state.Free
ended (state.Released true) = state.Free
ended (state.Released false) = state.Released false
ended (state.Live b cols) = state.Live b cols

-- a slot after a whole sweep: one that was released is free
abbrev pub freed : SlotState → SlotState
freed slot = ended (begun slot)

-- the members of a slot that is live
abbrev pub members_as : Option SlotGraph → List Element
members_as None = []
members_as (Some g) = g.members

-- the elements of the live graphs of these slots, of which the first has this number
abbrev pub live_union : List (Option Row) → ℕ → List SlotState → List Element
live_union rows s [] = []
live_union rows s (slot ∷ slots) = unioned (members_as (graph_as rows s slot)) (live_union rows (s + 1) slots)

-- the elements of all live graphs
abbrev pub union_of : PoolState → List Element
union_of p = unioned (graph_now p) (live_union p.rows 0 p.slots)

-- the elements that have a cell
abbrev pub cells_of : PoolState → List Element
cells_of p = picked (λ r. true) p.rows

-- where a sweep stands at no index, it begins
abbrev pub started : ℕ → SlotState → SlotState
started sweep_index slot = if sweep_index == 0 then begun slot else slot

-- what a sweep leaves of a cell, by the union of the live graphs
abbrev pub remains_in : List Element → Option Row → Option Element
remains_in all None = None
remains_in all (Some r) = if has all r.element then Some r.element else None

-- The cells with numbers from one on up to another were passed: those whose elements are in no live graph
-- are given back. All other cells stay.
pub record PassesCells (old new : PoolState) (from until : ℕ) : Type 0 where
  pub passed : (n : ℕ) → from ≤ n → n < until → element_of (cell_at new.rows n) ≡ remains_in (union_of old) (cell_at old.rows n)
  pub before : (n : ℕ) → n < from → element_of (cell_at new.rows n) ≡ element_of (cell_at old.rows n)
  pub behind : (n : ℕ) → until ≤ n → element_of (cell_at new.rows n) ≡ element_of (cell_at old.rows n)

-- A sweep that goes on for so many cells, and whether it has passed all.
pub record LeavesCells (old new : PoolState) (count : ℕ) : Type 0 where
  pub passes : PassesCells old new old.sweep_index new.sweep_index
  pub taken : cells_below old.rows new.sweep_index ≡ cells_below old.rows old.sweep_index + count
  pub left : IsSome (cell_at new.rows new.sweep_index)
  pub slots : (s : ℕ) → slot_at new.slots s ≡ started old.sweep_index (slot_at old.slots s)

pub record PassesAllCells (old new : PoolState) (count : ℕ) : Type 0 where
  pub passes : PassesCells old new old.sweep_index (length old.rows)
  pub most : cells_below old.rows (length old.rows) ≤ cells_below old.rows old.sweep_index + count
  pub sweep_index : new.sweep_index ≡ 0
  pub slots : (s : ℕ) → slot_at new.slots s ≡ ended (started old.sweep_index (slot_at old.slots s))

abbrev pub IsSweep : PoolState → PoolState → ℕ → Swept → Type 0
IsSweep old new count answer.Done = PassesAllCells old new count
IsSweep old new count answer.More = LeavesCells old new count
