-- The table of live handles, and how it is tied to the slots of a pool.
use Rattle.std.specs.Prelude.{◌≡◌, ℕ, ◌+◌, ◌≤◌, ◌==◌, true, false, List, [], ◌∷◌, Option, Some, None, IsSome, if◌then◌else◌, map}
use Rattle.std.specs.List.{AllZip}
use Rattle.std.specs.Option.{unwrap_or}
use Rattle.dg_graph.specs.declared.element.Columns.{Columns}
use Rattle.dg_graph.specs.declared.element.Element.{Element}
use Rattle.dg_history.specs.declared.node.NodeId.{NodeId}
use Rattle.dg_machine.specs.declared.stands.Stands.{Stands}
use Rattle.dg_machine.specs.declared.stands.Shown.TheVariants.{Overlay, Base}
use Rattle.dg_machine.specs.MachineState.{overlay_on, stands_at, union_of_sets}
use Rattle.dg_machine.specs.Planning.{includes}
use Rattle.dg_pool.specs.declared.slots.Base.{Base as PoolBase}
use Rattle.dg_pool.specs.declared.slots.Base.TheVariants as base
use Rattle.dg_pool.specs.declared.slots.SlotState.TheVariants as state
use Rattle.dg_pool.specs.Changes.{AreDistinct}
use Rattle.dg_pool.specs.Graphs.{PoolState, SlotGraph, graph_now, is_listed, is_live, slot_at, slot_graph}
use Rattle.dg_pool.specs.Sweeps.{cells_of, members_as, union_of as pool_union}
use Rattle.dg_retrieval.specs.Beginnings.{GraphLead, base_handle}
use Rattle.dg_retrieval.specs.declared.graph_lead.Beginning.{Beginning}

-- The live handles with what each stands for, the oldest first; the slot of each; and the number of the next handle.
pub record HandlesState : Type 0 where
  pub table : List (ℕ × Stands)
  pub slots : List ℕ
  pub next : ℕ

-- these with the numbers from this one on
abbrev pub numbered : ℕ → List Stands → List (ℕ × Stands)
numbered next [] = []
numbered next (stands ∷ more) = (next, stands) ∷ numbered (next + 1) more

-- the graphs as of these instants, each on the handle beside it, if there is one
abbrev pub overlays_on : Columns → List ℕ → List (Option ℕ) → List Stands
overlays_on cols [] handles = []
overlays_on cols (t ∷ times) [] = []
overlays_on cols (t ∷ times) (on ∷ handles) = record { what = Overlay t on; cols = cols } ∷ overlays_on cols times handles

-- the numbers rise, none is below the first bound, and all are below the second
abbrev pub RiseWithin : ℕ → ℕ → List ℕ → Type 0
RiseWithin low high [] = low ≤ high
RiseWithin low high (n ∷ numbers) = (low ≤ n) × RiseWithin (n + 1) high numbers

-- ---- the graphs of the handles

-- the elements of the graph in a slot
abbrev pub members_at : PoolState → ℕ → List Element
members_at p s = members_as (slot_graph p s)

-- the graphs in these slots
abbrev pub slot_graphs : PoolState → List ℕ → List (List Element)
slot_graphs p slots = map (members_at p) slots

-- the graph of a live handle
abbrev pub graph_among : ℕ → List (ℕ × Stands) → List (List Element) → Option (List Element)
graph_among handle [] graphs = None
graph_among handle (entry ∷ table) [] = None
graph_among handle (entry ∷ table) (graph ∷ graphs) = if entry.0 == handle then Some graph else graph_among handle table graphs

-- the graph of a handle, and the empty graph where it is not live
abbrev pub held_by : List (ℕ × Stands) → List (List Element) → ℕ → List Element
held_by table graphs handle = unwrap_or (graph_among handle table graphs) []

-- the graphs without that of the handle
abbrev pub graphs_without : ℕ → List (ℕ × Stands) → List (List Element) → List (List Element)
graphs_without handle [] graphs = []
graphs_without handle (entry ∷ table) [] = []
graphs_without handle (entry ∷ table) (graph ∷ graphs) = if entry.0 == handle then graphs else graph ∷ graphs_without handle table graphs

-- ---- the handles that hold bases

-- the handle holds the set of this node, in columns that have all of these
abbrev pub HoldsNode : List (ℕ × Stands) → Columns → ℕ × NodeId → Type 0
HoldsNode table cols (handle, node) = (all : Columns) × (stands_at handle table ≡ Some (record { what = Base node; cols = all })) × (includes all cols ≡ true)

-- the handle holds the set of some node, in columns that have all of these
abbrev pub IsBaseHandle : ℕ → Columns → List (ℕ × Stands) → Type 0
IsBaseHandle handle cols table = (node : NodeId) × (all : Columns) × (stands_at handle table ≡ Some (record { what = Base node; cols = all })) × (includes all cols ≡ true)

-- where a graph begins so with the set of a handle, the handle holds a base for these columns
abbrev pub CanBegin : List (ℕ × Stands) → Columns → Beginning → Type 0
CanBegin table cols begins = (handle : ℕ) → base_handle begins ≡ Some handle → IsBaseHandle handle cols table

-- where the lead begins with the set of a handle, the handle holds a base for these columns
abbrev pub BeginsOn : List (ℕ × Stands) → Columns → GraphLead → Type 0
BeginsOn table cols lead = CanBegin table cols lead.begins

-- ---- the tie

-- the slot of a live handle
abbrev pub slot_of : ℕ → List (ℕ × Stands) → List ℕ → Option ℕ
slot_of handle [] slots = None
slot_of handle (entry ∷ table) [] = None
slot_of handle (entry ∷ table) (slot ∷ slots) = if entry.0 == handle then Some slot else slot_of handle table slots

-- this slot as a base, and nothing where there is none
abbrev pub at_slot : Option ℕ → PoolBase
at_slot None = base.Nothing
at_slot (Some s) = base.Slot (record { 0 = s })

-- the base is no slot
abbrev pub IsNoSlot : PoolBase → Type 0
IsNoSlot base.Nothing = Unit {0}
IsNoSlot base.Now = Unit {0}
IsNoSlot (base.Slot b) = ⊥

-- An overlay in these columns, on this handle, rests on this base: on the slot of the handle, which holds a base for
-- the columns; or on no slot, where it is on no handle.
abbrev pub RestsOn : HandlesState → Columns → Option ℕ → PoolBase → Type 0
RestsOn h cols None b = IsNoSlot b
RestsOn h cols (Some handle) b = IsBaseHandle handle cols h.table × (b ≡ at_slot (slot_of handle h.table h.slots))

-- a graph is there, it has these columns, and what it rests on is allowed
abbrev pub IsGraphIn : Columns → (PoolBase → Type 0) → Option SlotGraph → Type 0
IsGraphIn cols allowed None = ⊥
IsGraphIn cols allowed (Some g) = (g.cols ≡ cols) × allowed g.base

-- the columns, and the messages with them
abbrev pub with_messages : Columns → Columns
with_messages cols = record cols { transient = true }

-- A graph is there, in these columns: an overlay rests as it is entered, and a set, of a node or selected, rests on
-- nothing. A set has the messages with its columns, so that overlays with messages can rest on that of a node.
abbrev pub IsGraphOn : HandlesState → Columns → Option (Option ℕ) → Option SlotGraph → Type 0
IsGraphOn h cols (Some on) o = IsGraphIn cols (RestsOn h cols on) o
IsGraphOn h cols None o = IsGraphIn (with_messages cols) (λ b. b ≡ base.Nothing) o

-- the slot has a graph as the handle stands for it
abbrev pub SlotHolds : HandlesState → Stands → Option SlotGraph → Type 0
SlotHolds h stands o = IsGraphOn h stands.cols (overlay_on stands.what) o

-- There are as many slots as handles. Each handle has a slot of its own, whose graph rests as the handle's entry says,
-- and no other slot is live.
pub record IsTied (p : PoolState) (h : HandlesState) : Type 0 where
  pub held : AllZip (λ (entry : ℕ × Stands) (s : ℕ). SlotHolds h entry.1 (slot_graph p s)) h.table h.slots
  pub apart : AreDistinct h.slots
  pub only : (s : ℕ) → IsSome (slot_graph p s) → is_listed h.slots s ≡ true

-- ---- whole sweeps

-- The cells are those of the union of the live graphs, a sweep stands at the beginning, and each slot that is not
-- live is free.
pub record IsSweptWhole (p : PoolState) : Type 0 where
  pub cells : cells_of p ≡ pool_union p
  pub swept : p.sweep_index ≡ 0
  pub free : (s : ℕ) → is_live (slot_at p.slots s) ≡ false → slot_at p.slots s ≡ state.Free

-- ---- laws

-- a pool whose slots have the same graphs is tied to the same handles
abbrev pub TieIsKept : Type 0
TieIsKept = (old new : PoolState) (h : HandlesState) → ((s : ℕ) → slot_graph new s ≡ slot_graph old s) → IsTied old h → IsTied new h

-- the union of a pool is that of the current graph and the graphs of the handles
abbrev pub UnionOfHandles : Type 0
UnionOfHandles = (p : PoolState) (h : HandlesState) → IsTied p h → pool_union p ≡ union_of_sets (graph_now p ∷ slot_graphs p h.slots)
