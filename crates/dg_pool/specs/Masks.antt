-- Masks over the 256 bits of a cell, which tell of all slots at once.
use Rattle.std.specs.Prelude.{◌≡◌, ℕ, ◌+◌, ◌*◌, ◌%◌, ◌<◌, ◌==◌, Bool, false, List, length}
use Rattle.std.specs.Int.{bit_at}
use Rattle.dg_graph.specs.declared.element.Column.{Column}
use Rattle.dg_graph.specs.declared.element.Column.TheVariants as column
use Rattle.dg_graph.specs.Elements.{asks}
use Rattle.dg_cells.specs.Rows.{word_bit}
use Rattle.dg_pool.specs.declared.masks.Masks.{Masks}
use Rattle.dg_pool.specs.declared.slots.SlotState.{SlotState}
use Rattle.dg_pool.specs.declared.slots.SlotState.TheVariants as state
use Rattle.dg_pool.specs.Graphs.{slot_at}
use Rattle.dg_pool.specs.Sweeps.{is_swept}

-- the word, which has the bits of 32 slots, has the explicit bit of this one
abbrev pub explicit_in : ℕ → ℕ → Bool
explicit_in word s = bit_at word (2 * (s % 32)) == 1

-- the word has the slot's own bit
abbrev pub own_in : ℕ → ℕ → Bool
own_in word s = bit_at word (2 * (s % 32) + 1) == 1

-- the slot is live, and asks for the column
abbrev pub is_asking : Column → SlotState → Bool
is_asking column state.Free = false
is_asking column (state.Released swept) = false
is_asking column (state.Live b cols) = asks cols column

-- the explicit bits of the live slots that ask for the column
pub record IsAskingMask (column : Column) (slots : List SlotState) (mask : List ℕ) : Type 0 where
  pub explicit : (s : ℕ) → s < 128 → word_bit mask (2 * s) ≡ is_asking column (slot_at slots s)
  pub own : (s : ℕ) → s < 128 → word_bit mask (2 * s + 1) ≡ false

-- both bits of the slots that a sweep clears
pub record IsSweptMask (slots : List SlotState) (mask : List ℕ) : Type 0 where
  pub len : length mask ≡ 4
  pub explicit : (s : ℕ) → s < 128 → word_bit mask (2 * s) ≡ is_swept (slot_at slots s)
  pub own : (s : ℕ) → s < 128 → word_bit mask (2 * s + 1) ≡ is_swept (slot_at slots s)

-- the masks by which a sweep passes a cell
pub record AreMasks (slots : List SlotState) (masks : Masks) : Type 0 where
  pub structure : IsAskingMask column.Structure slots masks.structure
  pub node_attr : IsAskingMask column.NodeAttr slots masks.node_attr
  pub edge_attr : IsAskingMask column.EdgeAttr slots masks.edge_attr
  pub transient : IsAskingMask column.Transient slots masks.transient
  pub swept : IsSweptMask slots masks.swept
