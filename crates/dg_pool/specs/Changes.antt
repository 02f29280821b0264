-- Changes of several slots' graphs by one delta.
use Rattle.std.specs.Prelude.{◌≡◌, ℕ, ◌+◌, ◌*◌, ◌/◌, ◌≤◌, ◌<◌, ◌^◌, ◌==◌, Bool, true, false, ◌||◌, ◌&&◌, not, if◌then◌else◌, List, [], ◌∷◌, map, Option, Some, IsSome, length}
use Rattle.std.specs.Option.{option_map}
use Rattle.dg_graph.specs.declared.element.Element.{Element}
use Rattle.dg_graph.specs.Elements.{has, shown, column_of}
use Rattle.dg_graph.specs.Composition.{Delta, applied}
use Rattle.dg_cells.specs.Rows.{Row, cell_at, is_current, pair, word_bit}
use Rattle.dg_query.specs.declared.answers.Counts.{Counts}
use Rattle.dg_pool.specs.declared.targets.Targets.{Targets}
use Rattle.dg_pool.specs.declared.slots.Base.TheVariants as base
use Rattle.dg_pool.specs.declared.slots.Slot.{Slot}
use Rattle.dg_pool.specs.declared.slots.SlotState.{SlotState}
use Rattle.dg_pool.specs.Graphs.{PoolState, SlotGraph, AreSlots, slot_at, pair_at, is_live, is_listed, is_on_now, in_base, slot_graph, graph_now}
use Rattle.dg_pool.specs.Slots.{NoneOn}
use Rattle.dg_pool.specs.Masks.{is_asking, explicit_in, own_in}
use Rattle.dg_pool.specs.declared.slots.SlotState.TheVariants as state
use Rattle.dg_graph.specs.declared.element.Column.TheVariants as column
use Rattle.dg_pool.specs.Sweeps.{element_of, in_state}
use Rattle.dg_pool.specs.Counts.{kind_count, one_more, one_less, counts_at, AreCountsOf}

-- the numbers of these slots
abbrev pub numbers_of : List Slot → List ℕ
numbers_of slots = map (λ (slot : Slot). slot.0) slots

-- no number stands twice
abbrev pub AreDistinct : List ℕ → Type 0
AreDistinct [] = Unit {0}
AreDistinct (s ∷ slots) = (is_listed slots s ≡ false) × AreDistinct slots

-- no live slot rests on this one
abbrev pub NoneRestsOn : PoolState → ℕ → Type 0
NoneRestsOn p s = (t : ℕ) (g : SlotGraph) (b : Slot) → slot_graph p t ≡ Some g → g.base ≡ base.Slot b → b.0 ≡ s → ⊥

-- the graph of a slot after a delta, cut to the slot's columns
abbrev pub graph_after : Delta → SlotGraph → SlotGraph
graph_after d g = record { base = g.base; cols = g.cols; members = shown (applied d g.members) g.cols }

-- the slots are live, each stands here once, and no live slot rests on one of them
pub record CanChange (slots : List ℕ) (p : PoolState) : Type 0 where
  pub live : (s : ℕ) → is_listed slots s ≡ true → IsSome (slot_graph p s)
  pub apart : AreDistinct slots
  pub unused : (s : ℕ) → is_listed slots s ≡ true → NoneRestsOn p s

-- the delta is applied to the graph of each of the slots, and no other graph has changed
pub record ChangesSlots (slots : List ℕ) (d : Delta) (old new : PoolState) : Type 0 where
  pub now : graph_now new ≡ graph_now old
  pub changed : (s : ℕ) → is_listed slots s ≡ true → slot_graph new s ≡ option_map (graph_after d) (slot_graph old s)
  pub others : (s : ℕ) → is_listed slots s ≡ false → slot_graph new s ≡ slot_graph old s

-- the delta puts the element in, or takes it out
abbrev pub names : Delta → Element → Bool
names d x = has d.minus x || has d.plus x

-- a slot's explicit bit that was not set is set only in a cell of an element that the delta names
abbrev pub NamesNew : Delta → List (Option Row) → List (Option Row) → Type 0
NamesNew d old new = (s n : ℕ) (r : Row) → 1 ≤ s → cell_at new n ≡ Some r → (pair s r).0 ≡ true → ((pair_at s (cell_at old n)).0 || names d r.element) ≡ true

-- ---- how a delta is written

-- the pool of these slots and cells
abbrev pub pool_of : List SlotState → List (Option Row) → PoolState
pool_of slots rows = record { rows = rows; slots = slots; sweep_index = 0 }

-- The graphs of the slots change by the delta, and no other graph does; each cell has its element as before, and all
-- other slots have their bits as before.
pub record WritesDelta (slots : List SlotState) (numbers : List ℕ) (d : Delta) (old new : List (Option Row)) : Type 0 where
  pub graphs : ChangesSlots numbers d (pool_of slots old) (pool_of slots new)
  pub elements : (n : ℕ) → element_of (cell_at new n) ≡ element_of (cell_at old n)
  pub bits : (s : ℕ) → 1 ≤ s → is_listed numbers s ≡ false → (n : ℕ) → pair_at s (cell_at new n) ≡ pair_at s (cell_at old n)
  pub explicit : NamesNew d old new

-- a delta that only puts these elements in, or only takes them out
abbrev pub one_sided : Bool → List Element → Delta
one_sided true items = record { minus = []; plus = items }
one_sided false items = record { minus = items; plus = [] }

-- the numbers are those of slots that can change
pub record AreChangeable (slots : List SlotState) (numbers : List ℕ) : Type 0 where
  pub states : AreSlots slots
  pub live : (s : ℕ) → is_listed numbers s ≡ true → is_live (slot_at slots s) ≡ true
  pub apart : AreDistinct numbers
  pub none : (s : ℕ) → is_listed numbers s ≡ true → NoneOn slots s

-- one mask has the explicit bits of the slots, and the other both their bits
pub record AreMarks (numbers : List ℕ) (ones pairs : List ℕ) : Type 0 where
  pub ones_len : length ones ≡ 4
  pub pairs_len : length pairs ≡ 4
  pub explicit : (s : ℕ) → s < 128 → word_bit ones (2 * s) ≡ is_listed numbers s
  pub no_own : (s : ℕ) → s < 128 → word_bit ones (2 * s + 1) ≡ false
  pub both : (s : ℕ) → s < 128 → word_bit pairs (2 * s) ≡ is_listed numbers s
  pub own : (s : ℕ) → s < 128 → word_bit pairs (2 * s + 1) ≡ is_listed numbers s

-- the mask has the explicit bits of those of the slots that pass the test
pub record IsMarked (test : SlotState → Bool) (slots : List SlotState) (numbers : List ℕ) (mask : List ℕ) : Type 0 where
  pub len : length mask ≡ 4
  pub marks : (s : ℕ) → s < 128 → word_bit mask (2 * s) ≡ (is_listed numbers s && test (slot_at slots s))
  pub no_own : (s : ℕ) → s < 128 → word_bit mask (2 * s + 1) ≡ false

-- one word of such a mask: slot s has its bits in the word s / 32
pub record IsMarkedWord (test : SlotState → Bool) (slots : List SlotState) (numbers : List ℕ) (index word : ℕ) : Type 0 where
  pub marks : (s : ℕ) → s / 32 ≡ index → explicit_in word s ≡ (is_listed numbers s && test (slot_at slots s))
  pub no_own : (s : ℕ) → s / 32 ≡ index → own_in word s ≡ false

-- one word of the bits that are set: the explicit bits of the slots, and their own bits where these are to be on
pub record IsPairWord (numbers : List ℕ) (on : Bool) (index word : ℕ) : Type 0 where
  pub explicit : (s : ℕ) → s / 32 ≡ index → explicit_in word s ≡ is_listed numbers s
  pub own : (s : ℕ) → s / 32 ≡ index → own_in word s ≡ (is_listed numbers s && on)

-- the words from one on and before another have the bits of the slots
pub record AreWithin (numbers : List ℕ) (first past : ℕ) : Type 0 where
  pub few : past ≤ 4
  pub words : (s : ℕ) → is_listed numbers s ≡ true → (first ≤ s / 32) × (s / 32 < past)

-- the slot rests on another slot
abbrev pub is_on_slot : SlotState → Bool
is_on_slot state.Free = false
is_on_slot (state.Released swept) = false
is_on_slot (state.Live base.Nothing cols) = false
is_on_slot (state.Live base.Now cols) = false
is_on_slot (state.Live (base.Slot b) cols) = true

-- the base of the slot has the cell's element
abbrev pub base_has : Row → SlotState → Bool
base_has r state.Free = false
base_has r (state.Released swept) = false
base_has r (state.Live b cols) = in_base b r

-- the slots can change, and the masks are theirs
pub record AreTargets (t : Targets) : Type 0 where
  pub can : AreChangeable t.states.now (numbers_of t.slots.now)
  pub marks : AreMarks (numbers_of t.slots.now) t.explicit t.both
  pub structure : IsMarked (is_asking column.Structure) t.states.now (numbers_of t.slots.now) t.structure
  pub node_attr : IsMarked (is_asking column.NodeAttr) t.states.now (numbers_of t.slots.now) t.node_attr
  pub edge_attr : IsMarked (is_asking column.EdgeAttr) t.states.now (numbers_of t.slots.now) t.edge_attr
  pub transient : IsMarked (is_asking column.Transient) t.states.now (numbers_of t.slots.now) t.transient
  pub on_now : IsMarked is_on_now t.states.now (numbers_of t.slots.now) t.on_now
  pub on_slot : t.on_slot ≡ false → (s : ℕ) → is_listed (numbers_of t.slots.now) s ≡ true → is_on_slot (slot_at t.states.now s) ≡ false
  pub words : AreWithin (numbers_of t.slots.now) t.first_word t.end_word

-- each of the slots has this pair, and all else is as it was
pub record SetsPairs (numbers : List ℕ) (p : Bool × Bool) (old new : Row) : Type 0 where
  pub element : new.element ≡ old.element
  pub current : is_current new ≡ is_current old
  pub pairs : (s : ℕ) → 1 ≤ s → pair s new ≡ (if is_listed numbers s then p else pair s old)

-- ---- the counts of the slots

-- the counts are those of the graphs of the pool
abbrev pub AreGraphCounts : List SlotState → List (Option Row) → List Counts → Type 0
AreGraphCounts slots rows counts = AreCountsOf (pool_of slots rows) counts

-- the counts of a graph that had the element or not, once it has it or not
abbrev pub recounted : Bool → Bool → Element → Counts → Counts
recounted true true x c = c
recounted true false x c = one_less c x
recounted false true x c = one_more c x
recounted false false x c = c

-- the counts can be kept
pub record CanRecount (had on : Bool) (x : Element) (c : Counts) : Type 0 where
  pub more : had ≡ false → on ≡ true → kind_count c x + 1 < 2 ^ 64
  pub less : had ≡ true → on ≡ false → 1 ≤ kind_count c x

-- whether the slot's graph has the cell's element once its own bit is written there
abbrev pub will_have : Bool → SlotState → Row → Bool
will_have own slot r = own && is_asking (column_of r.element) slot

-- the counts of these slots can be kept when their own bits are written in the cell with this row
abbrev pub CanRecountAll : List SlotState → List ℕ → Bool → Row → List Counts → Type 0
CanRecountAll slots numbers own r counts =
    (s : ℕ) → is_listed numbers s ≡ true → CanRecount (in_state s (slot_at slots s) r) (will_have own (slot_at slots s) r) r.element (counts_at counts s)

-- the counts of these slots are kept over such a write, and all others stay
abbrev pub RecountsAll : List SlotState → List ℕ → Bool → Row → List Counts → List Counts → Type 0
RecountsAll slots numbers own r old new =
    (s : ℕ) → counts_at new s ≡ (if is_listed numbers s then recounted (in_state s (slot_at slots s) r) (will_have own (slot_at slots s) r) r.element (counts_at old s) else counts_at old s)

-- a graph that asks for the element, or not, gets it or loses it by the write of its own bit, by what its two bits and its base say before
abbrev pub moves : Bool → Bool → Bool → Bool → Bool → Bool
moves own explicit says base asks = asks && (if own then not (if explicit then says else base) else (if explicit then says else base))

-- the word has the explicit bits of those slots in it whose graphs get the element or lose it, and no other bit
pub record IsMovedWord (slots : List SlotState) (numbers : List ℕ) (own : Bool) (r : Row) (index word : ℕ) : Type 0 where
  pub moved : (s : ℕ) → s / 32 ≡ index → explicit_in word s ≡ (is_listed numbers s && moves own (pair s r).0 (pair s r).1 (base_has r (slot_at slots s)) (is_asking (column_of r.element) (slot_at slots s)))
  pub no_own : (s : ℕ) → own_in word s ≡ false

-- one more, or one less
abbrev pub counted : Bool → Element → Counts → Counts
counted own x c = if own then one_more c x else one_less c x

-- one more can be counted, or one less
pub record CanCount (own : Bool) (x : Element) (c : Counts) : Type 0 where
  pub more : own ≡ true → kind_count c x + 1 < 2 ^ 64
  pub less : own ≡ false → 1 ≤ kind_count c x

-- the counts of a slot, with one more or one less where the word has its explicit bit
abbrev pub counts_moved : Bool → Element → ℕ → ℕ → List Counts → ℕ → Counts
counts_moved own x index word counts s = if s / 32 == index && explicit_in word s then counted own x (counts_at counts s) else counts_at counts s

abbrev pub CountsMoved : Bool → Element → ℕ → ℕ → List Counts → List Counts → Type 0
CountsMoved own x index word old new = (s : ℕ) → counts_at new s ≡ counts_moved own x index word old s
