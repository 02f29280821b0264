-- The pool: its cells, its slots and the index of the sweep; and the graphs that it has by them.
use Rattle.std.specs.Prelude.{◌≡◌, ℕ, ◌≤◌, ◌<◌, ◌==◌, Bool, true, false, not, ◌&&◌, cond, if◌then◌else◌, List, [], ◌∷◌, Option, Some, None, slice_index_or, length, IfSome}
use Rattle.std.specs.List.{list_any}
use Rattle.std.specs.Option.{option_map}
use Rattle.dg_graph.specs.declared.event.Event.{Event}
use Rattle.dg_graph.specs.Effect.{added_by}
use Rattle.dg_graph.specs.declared.element.Element.{Element}
use Rattle.dg_graph.specs.declared.element.Columns.{Columns}
use Rattle.dg_graph.specs.Elements.{put, take_out, with_one, asks, column_of}
use Rattle.dg_graph.specs.Sets.{unioned, without_all}
use Rattle.dg_graph.specs.Composition.{Says, In, Out, As_it_was}
use Rattle.dg_delta.specs.Deltas.{is_in_after}
use Rattle.dg_pool.specs.declared.slots.Base.{Base}
use Rattle.dg_pool.specs.declared.slots.Base.TheVariants as base
use Rattle.dg_pool.specs.declared.slots.SlotState.{SlotState}
use Rattle.dg_pool.specs.declared.slots.SlotState.TheVariants as state
use Rattle.dg_cells.specs.Rows.{Row, is_current, pair, cell_at, CellsAreApart, HasCell}

pub record PoolState : Type 0 where
  pub rows : List (Option Row)
  pub slots : List SlotState
  pub sweep_index : ℕ

-- what two bits say of an element, beside the base: in, out, or as in the base
abbrev pub pair_says : Bool × Bool → Says
pair_says p = if p.0 then (if p.1 then In else Out) else As_it_was

abbrev pub slot_says : ℕ → Row → Says
slot_says s r = pair_says (pair s r)

-- the base has the cell's element; a base slot rests on nothing
abbrev pub in_base : Base → Row → Bool
in_base base.Nothing r = false
in_base base.Now r = is_current r
in_base (base.Slot b) r = is_in_after (slot_says b.0 r) false

-- the slot with this base and these columns has the cell's element
abbrev pub in_slot : ℕ → Base → Columns → Row → Bool
in_slot s b cols r = asks cols (column_of r.element) && is_in_after (slot_says s r) (in_base b r)

-- the element of a cell that passes the test
abbrev pub given : (Row → Bool) → Option Row → Option Element
given test None = None
given test (Some r) = cond (test r) (Some r.element) None

-- the set of the elements of the cells that pass the test
abbrev pub picked : (Row → Bool) → List (Option Row) → List Element
picked test [] = []
picked test (o ∷ rows) = with_one (picked test rows) (given test o)

-- what a slot is
abbrev pub slot_at : List SlotState → ℕ → SlotState
slot_at slots s = slice_index_or slots s state.Free

-- a live slot as contracts see it: its base, its columns and its members
pub record SlotGraph : Type 0 where
  pub base : Base
  pub cols : Columns
  pub members : List Element

abbrev pub graph_as : List (Option Row) → ℕ → SlotState → Option SlotGraph
graph_as rows s state.Free = None
graph_as rows s (state.Released swept) = None
graph_as rows s (state.Live b cols) = Some (record { base = b; cols = cols; members = picked (in_slot s b cols) rows })

abbrev pub slot_graph : PoolState → ℕ → Option SlotGraph
slot_graph p s = graph_as p.rows s (slot_at p.slots s)

-- the current graph
abbrev pub graph_now : PoolState → List Element
graph_now p = picked is_current p.rows

-- no graph of the pool has changed
pub record SameGraphs (old new : PoolState) : Type 0 where
  pub now : graph_now new ≡ graph_now old
  pub slots : (s : ℕ) → slot_graph new s ≡ slot_graph old s

-- the sweep stands where it stood, and each slot is as it was
pub record KeepsSweep (old new : PoolState) : Type 0 where
  pub place : new.sweep_index ≡ old.sweep_index
  pub slots : new.slots ≡ old.slots

-- the pair of a slot in a cell; a vacant cell has none
abbrev pub pair_at : ℕ → Option Row → Bool × Bool
pair_at s None = (false, false)
pair_at s (Some r) = pair s r

-- the columns are among all of these
abbrev pub Includes : Columns → Columns → Type 0
Includes all cols = (x : Element) → asks cols (column_of x) ≡ true → asks all (column_of x) ≡ true

-- the slot is live, rests on nothing, and has these columns
abbrev pub IsBaseFor : Columns → SlotState → Type 0
IsBaseFor cols state.Free = ⊥
IsBaseFor cols (state.Released swept) = ⊥
IsBaseFor cols (state.Live base.Nothing all) = Includes all cols
IsBaseFor cols (state.Live base.Now all) = ⊥
IsBaseFor cols (state.Live (base.Slot b) all) = ⊥

-- a base of the slot is live and rests on nothing
abbrev pub IsBased : List SlotState → SlotState → Type 0
IsBased slots state.Free = Unit {0}
IsBased slots (state.Released swept) = Unit {0}
IsBased slots (state.Live base.Nothing cols) = Unit {0}
IsBased slots (state.Live base.Now cols) = Unit {0}
IsBased slots (state.Live (base.Slot b) cols) = IsBaseFor cols (slot_at slots b.0)

pub record AreSlots (slots : List SlotState) : Type 0 where
  pub count : length slots ≡ 128
  pub first : slot_at slots 0 ≡ state.Free
  pub bases : (s : ℕ) → 1 ≤ s → IsBased slots (slot_at slots s)

-- A free slot has no bit. One that was released when the present sweep began has none in the cells
-- before its index.
abbrev pub IsClean : List (Option Row) → ℕ → ℕ → SlotState → Type 0
IsClean rows sweep_index s state.Free = (n : ℕ) → pair_at s (cell_at rows n) ≡ (false, false)
IsClean rows sweep_index s (state.Released true) = (n : ℕ) → n < sweep_index → pair_at s (cell_at rows n) ≡ (false, false)
IsClean rows sweep_index s (state.Released false) = Unit {0}
IsClean rows sweep_index s (state.Live b cols) = Unit {0}

pub record IsPool (p : PoolState) : Type 0 where
  pub slots : AreSlots p.slots
  pub apart : CellsAreApart p.rows
  pub clean : (s : ℕ) → 1 ≤ s → IsClean p.rows p.sweep_index s (slot_at p.slots s)

abbrev pub is_live : SlotState → Bool
is_live state.Free = false
is_live (state.Released swept) = false
is_live (state.Live b cols) = true

-- the slot is live and rests on the current graph
abbrev pub is_on_now : SlotState → Bool
is_on_now state.Free = false
is_on_now (state.Released swept) = false
is_on_now (state.Live base.Nothing cols) = false
is_on_now (state.Live base.Now cols) = true
is_on_now (state.Live (base.Slot b) cols) = false

-- the pair of a slot after the current graph is changed at an element: one that rests on the current
-- graph, and says nothing of the element itself, says what the graph said before
abbrev pub pinned : SlotState → Bool → Bool × Bool → Bool × Bool
pinned slot was p = if is_on_now slot && not p.0 then (true, was) else p

-- a cell of which each slot says what it is to say after the current graph is changed at its element
pub record Pins (slots : List SlotState) (old new : Row) : Type 0 where
  pub element : new.element ≡ old.element
  pub current : is_current new ≡ is_current old
  pub pairs : (s : ℕ) → 1 ≤ s → pair s new ≡ pinned (slot_at slots s) (is_current old) (pair s old)

-- the number is listed
abbrev pub is_listed : List ℕ → ℕ → Bool
is_listed numbers s = list_any (λ n. n == s) numbers

-- the numbers are of slots, and all slots that rest on the current graph are among them
pub record ListsOnNow (slots : List SlotState) (numbers : List ℕ) : Type 0 where
  pub low : (k : ℕ) → k < length numbers → 1 ≤ slice_index_or numbers k 0
  pub high : (k : ℕ) → k < length numbers → slice_index_or numbers k 0 ≤ 127
  pub all : (s : ℕ) → is_on_now (slot_at slots s) ≡ true → is_listed numbers s ≡ true

-- What no call but those on slots does: the graphs of the live slots are as before, each cell has its element as
-- before, and slots that are not live have their bits as before.
pub record Keeps (slots : List SlotState) (old new : List (Option Row)) : Type 0 where
  pub graphs : (s : ℕ) → graph_as new s (slot_at slots s) ≡ graph_as old s (slot_at slots s)
  pub elements : (n : ℕ) → option_map (λ (r : Row). r.element) (cell_at new n) ≡ option_map (λ (r : Row). r.element) (cell_at old n)
  pub bits : (s : ℕ) → 1 ≤ s → is_live (slot_at slots s) ≡ false → (n : ℕ) → pair_at s (cell_at new n) ≡ pair_at s (cell_at old n)

-- each element that has a cell has one still
abbrev pub CellsStay : List (Option Row) → List (Option Row) → Type 0
CellsStay old new = (x : Element) → HasCell old x → HasCell new x

-- each element that the events add has a cell
abbrev pub HaveCells : List (Option Row) → List Event → Type 0
HaveCells rows [] = Unit {0}
HaveCells rows (e ∷ events) = IfSome (added_by e.body) (HasCell rows) × HaveCells rows events

-- the set with the element, or without it
abbrev pub changed : Bool → Element → List Element → List Element
changed on x set = if on then put x set else take_out x set

-- the set with each of the elements, or without them
abbrev pub all_changed : Bool → List Element → List Element → List Element
all_changed on items set = if on then unioned set items else without_all set items
