-- The interior nodes of a height that a batch gives, and the deltas of each.
use Rattle.std.specs.Prelude.{◌≡◌, ℕ, suc, ◌+◌, ◌-◌, ◌*◌, ◌/◌, ◌==◌, List, [], ◌∷◌, ◌++◌, map, take, get_or, if◌then◌else◌}
use Rattle.std.specs.List.{flat_map}
use Rattle.dg_graph.specs.declared.element.Element.{Element}
use Rattle.dg_graph.specs.declared.event.Event.{Event}
use Rattle.dg_history.specs.declared.params.Params.{Params}
use Rattle.dg_graph.specs.Composition.{Delta, between, chained, nothing}
use Rattle.dg_graph.specs.Elements.{IsSet}
use Rattle.dg_graph.specs.DifferentialFunction.{inward}
use Rattle.dg_index.specs.Hierarchy.{numbers, children, set_at}
use Rattle.dg_index.specs.IndexRecords.{Exact}
use Rattle.dg_index.specs.FileOfHistory.{Segment, Stored, stored}
use Rattle.dg_index.specs.ExactSteps.{downs, steps_at, ways_of}

-- the last of the deltas
abbrev pub last_way : List Delta → Delta
last_way [] = nothing
last_way (d ∷ []) = d
last_way (d ∷ e ∷ more) = last_way (e ∷ more)

-- the exact deltas from each set to the next, and from the last of them to this one
abbrev pub steps_to : List (List Element) → List Element → List Delta
steps_to [] end = []
steps_to (set ∷ sets) end = between set (get_or sets 0 end) ∷ steps_to sets end

-- the exact deltas from a node of the height above to its children
abbrev pub downs_of : Params → List Event → ℕ → ℕ → List Delta
downs_of p events h j = map (λ c. between (set_at p events (suc h) j) (set_at p events h c)) (children p.k j)

-- The nodes of a height behind the q-th, up to the last: the exact delta from a set to the first of them, and the steps
-- from each to the next.
pub record AreNewNodes (p : Params) (events : List Event) (h q last : ℕ) (start : List Element) (up : Delta) (steps : List Delta) : Type 0 where
  pub start_is : IsSet start
  pub up_is : up ≡ between start (set_at p events h (q + 1))
  pub steps_are : steps ≡ steps_at p events h (q + 1) (last - q - 1)

-- the sets of the nodes of a height up to the q-th that have no node above them yet
abbrev pub older_sets : Params → List Event → ℕ → ℕ → List (List Element)
older_sets p events h q = map (set_at p events h) (numbers (q / p.k * p.k + 1) (q - q / p.k * p.k))

-- the exact steps between these nodes, and from the last of them to a set
abbrev pub AreStepsTo : Params → List Event → ℕ → ℕ → List Element → List Delta → Type 0
AreStepsTo p events h q start steps = steps ≡ steps_to (older_sets p events h q) start

-- the set of the first of these nodes, or the other where there is none
abbrev pub start_above : Params → List Event → ℕ → ℕ → List Element → List Element
start_above p events h q start = get_or (older_sets p events h q) 0 start

-- The deltas of the interior nodes behind the q-th, up to the last, whose children are of height h: from the root to
-- the first node of its height, where it is among them, and from each to its children.
abbrev pub tops_and_downs : Params → List Event → ℕ → ℕ → ℕ → List Delta
tops_and_downs p events h q last =
    (if q == 0 then between [] (set_at p events (suc h) 1) ∷ [] else []) ++ flat_map (downs_of p events h) (numbers (q + 1) (last - q))

-- how many they are
abbrev pub deltas_added : ℕ → ℕ → ℕ → ℕ
deltas_added k q last = (if q == 0 then 1 else 0) + (last - q) * k

-- the columns of a delta
abbrev pub stored_delta : Delta → Stored
stored_delta d = stored (Exact d)

-- the segments differ in their deltas alone
abbrev pub DiffersInDeltas : Segment → Segment → Type 0
DiffersInDeltas old new = new ≡ record old { deltas = new.deltas }

-- Behind node j of the height above the children, which are of height h: the delta from it to its last child, and the
-- steps from that child on, to the last one of so many groups more.
pub record IsBehind (p : Params) (events : List Event) (h j more : ℕ) (last : Delta) (row : List Delta) : Type 0 where
  pub last_is : last ≡ between (set_at p events (suc h) j) (set_at p events h (j * p.k))
  pub row_is : row ≡ steps_at p events h (j * p.k) (more * p.k)

-- So many nodes behind node j are made: these are the steps from each node to the next, from node j on, and the deltas
-- to the children of each are added.
pub record AreMade (p : Params) (events : List Event) (h j count : ℕ) (steps : List Delta) (old new : Segment) : Type 0 where
  pub steps_are : steps ≡ steps_at p events (suc h) j count
  pub adds : new.deltas ≡ old.deltas ++ map stored_delta (flat_map (downs_of p events h) (numbers (j + 1) count))

-- The node behind node j is made: this is the step to it, the deltas to its children are added, and the rest of the row
-- is behind it.
pub record IsNextNode (p : Params) (events : List Event) (h j more : ℕ) (step last : Delta) (row : List Delta) (old new : Segment) : Type 0 where
  pub step_is : step ≡ between (set_at p events (suc h) j) (set_at p events (suc h) (j + 1))
  pub adds : new.deltas ≡ old.deltas ++ map stored_delta (downs_of p events h (j + 1))
  pub behind : IsBehind p events h (j + 1) (more - 1) last row

-- The nodes of the next height are made, with the exact delta from this set to the first, and their deltas are added.
pub record Rises (p : Params) (events : List Event) (h q last : ℕ) (start : List Element) (up : Delta) (steps : List Delta) (old new : Segment) : Type 0 where
  pub nodes : AreNewNodes p events (suc h) q last start up steps
  pub adds : new.deltas ≡ old.deltas ++ map stored_delta (tops_and_downs p events h q last)

-- ---- the node of the next group, by the steps between its children, which begin the row

-- the delta to it from its first child
abbrev pub inner_by : Params → List Delta → Delta
inner_by p row = inward p.function (ways_of (take (p.k - 1) row))

-- those from it to its children
abbrev pub downs_by : Params → List Delta → List Delta
downs_by p row = downs (inner_by p row) (ways_of (take (p.k - 1) row))

-- that to it from where the next height starts, by the steps of its older children, and the delta from where this height
-- starts to its first new one
abbrev pub up_by : List Delta → Delta → Delta → Delta
up_by [] up inner = chained up inner
up_by (step ∷ older) up inner = inner

-- the delta from the root to it, where no node of its height is before it
abbrev pub top_to : ℕ → List Element → List Delta
top_to below node = if below == 0 then between [] node ∷ [] else []
