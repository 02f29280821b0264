-- The older children of the nodes that a batch completes, in the order of time, and the exact steps between them.
use Rattle.std.specs.Prelude.{◌≡◌, ℕ, zero, suc, ◌+◌, ◌-◌, ◌*◌, ◌/◌, ◌^◌, ◌<◌, ◌≤◌, List, [], ◌++◌, map, length, get_or, nat_lt, if◌then◌else◌}
use Rattle.dg_graph.specs.declared.element.Element.{Element}
use Rattle.dg_graph.specs.declared.event.Event.{Event}
use Rattle.dg_history.specs.declared.node.NodeId.{NodeId}
use Rattle.dg_history.specs.declared.params.Params.{Params}
use Rattle.dg_graph.specs.Composition.{Delta}
use Rattle.dg_index.specs.Hierarchy.{numbers, leaves, set_at, set_of}
use Rattle.dg_index.specs.OlderNodes.{node_at}
use Rattle.dg_build.specs.InteriorDeltas.{steps_to}

-- The older children of the interior nodes due above a height of which there were q nodes and are `end`, in the order of
-- time: those of the greatest height first. The number of turns only bounds the recursion.
abbrev pub in_time : ℕ → ℕ → ℕ → ℕ → ℕ → List NodeId
in_time k zero h q end = []
in_time k (suc turns) h q end =
    if nat_lt (q / k) (end / k)
    then in_time k turns (suc h) (q / k) (end / k) ++ map (node_at h) (numbers (q / k * k + 1) (q - q / k * k))
    else []

-- those of a batch that takes the leaves from m to `after`
abbrev pub older_in_time : ℕ → ℕ → ℕ → List NodeId
older_in_time k m after = in_time k after 0 m after

-- the set of the last leaf
abbrev pub last_leaf : Params → List Event → List Element
last_leaf p past = set_at p past 0 (leaves p (length past))

-- the exact step from each older child to the next in the order of time, and from the last to the last leaf
abbrev pub AreOlderSteps : Params → List Event → ℕ → List Delta → Type 0
AreOlderSteps p past after steps =
    steps ≡ steps_to (map (set_of p past) (older_in_time p.k (leaves p (length past)) after)) (last_leaf p past)

-- the set of the first of the older children in time, or of the last leaf where there is none
abbrev pub first_in_time : Params → List Event → ℕ → List Element
first_in_time p past after = get_or (map (set_of p past) (older_in_time p.k (leaves p (length past)) after)) 0 (last_leaf p past)

-- an interior node that is the first of its height is due
abbrev pub IsTopDue : ℕ → ℕ → ℕ → Type 0
IsTopDue k m after = (h : ℕ) × (m < k ^ suc h) × (k ^ suc h ≤ after)
