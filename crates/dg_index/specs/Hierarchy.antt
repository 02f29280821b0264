-- The hierarchy of an index: its leaves, its interior nodes, and the set of each, from the events alone.
use Rattle.std.specs.Prelude.{ℕ, zero, suc, ◌+◌, ◌-◌, ◌*◌, ◌/◌, ◌^◌, Bool, true, ◌&&◌, List, [], ◌∷◌, map, length, take, nat_le, nat_lt}
use Rattle.dg_graph.specs.declared.element.Element.{Element}
use Rattle.dg_graph.specs.declared.event.Event.{Event}
use Rattle.dg_history.specs.declared.node.NodeId.{NodeId}
use Rattle.dg_history.specs.declared.node.NodeId.TheVariants as node
use Rattle.dg_history.specs.declared.params.Params.{Params}
use Rattle.dg_graph.specs.DifferentialFunction.{combined}
use Rattle.dg_graph.specs.Replay.{replay}

-- so many numbers, from the first on
abbrev pub numbers : ℕ → ℕ → List ℕ
numbers first zero = []
numbers first (suc count) = first ∷ numbers (first + 1) count

-- the leaves behind so many events
abbrev pub leaves : Params → ℕ → ℕ
leaves p n = n / p.l

-- the numbers of the children of the node with this number, at the height below it
abbrev pub children : ℕ → ℕ → List ℕ
children k j = numbers ((j - 1) * k + 1) k

-- the number of the node of which the node with this number is a child
abbrev pub parent : ℕ → ℕ → ℕ
parent k c = (c - 1) / k + 1

-- The set of the node with this number at the height. A leaf, of height 0, is the replay of the events
-- before it; leaf 0 is the empty graph.
abbrev pub set_at : Params → List Event → ℕ → ℕ → List Element
set_at p events zero j = replay (take (j * p.l) events)
set_at p events (suc h) j = combined p.function (map (set_at p events h) (children p.k j))

-- the node exists where so many events are there
abbrev pub exists : Params → ℕ → NodeId → Bool
exists p n node.Root = true
exists p n node.Now = nat_le 1 n
exists p n node.Recent = nat_le 1 n
exists p n (node.Leaf j) = nat_le 1 j && nat_le j (leaves p n)
exists p n (node.List i) = nat_lt i (leaves p n)
exists p n (node.Inner h j) = nat_le 1 h && (nat_le 1 j && nat_le (j * p.k ^ h) (leaves p n))

-- the set of a node
abbrev pub set_of : Params → List Event → NodeId → List Element
set_of p events node.Root = []
set_of p events node.Now = replay events
set_of p events node.Recent = set_at p events 0 (leaves p (length events))
set_of p events (node.Leaf j) = set_at p events 0 j
set_of p events (node.List i) = set_at p events 0 i
set_of p events (node.Inner h j) = set_at p events h j
