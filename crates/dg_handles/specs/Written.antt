-- Deltas that are written to slots, each to those that it is for.
use Rattle.std.specs.Prelude.{◌≡◌, ℕ, suc, List, [], ◌∷◌, if◌then◌else◌}
use Rattle.std.specs.Option.{option_map}
use Rattle.dg_fold.specs.declared.writing.Writing.{Writing}
use Rattle.dg_fold.specs.Writings.{is_for, written_for}
use Rattle.dg_graph.specs.Composition.{Delta}
use Rattle.dg_pool.specs.Changes.{graph_after}
use Rattle.dg_pool.specs.Graphs.{PoolState, SlotGraph, slot_graph}

-- those of the slots that a delta is for, where the first has the graph of this number
abbrev pub slots_for : ℕ → Writing → List ℕ → List ℕ
slots_for n w [] = []
slots_for n w (s ∷ slots) = if is_for n w then s ∷ slots_for (suc n) w slots else slots_for (suc n) w slots

-- the graph of a slot after each of the deltas in turn, cut to the slot's columns
abbrev pub graph_after_all : List Delta → SlotGraph → SlotGraph
graph_after_all [] g = g
graph_after_all (d ∷ later) g = graph_after_all later (graph_after d g)

-- each of the slots, of which the first has the graph of this number, has its graph after the deltas that are for it
abbrev pub AreWritten : ℕ → List ℕ → List Writing → PoolState → PoolState → Type 0
AreWritten n [] writings old new = Unit {0}
AreWritten n (s ∷ slots) writings old new = (slot_graph new s ≡ option_map (graph_after_all (written_for n writings)) (slot_graph old s)) × AreWritten (suc n) slots writings old new
