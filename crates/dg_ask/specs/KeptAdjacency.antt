-- The adjacencies that a session keeps between commands, each with the handle of whose graph it is: that of the handle
-- asked last, and that of the one asked before it.
use Rattle.std.specs.Prelude.{◌≡◌, ◌⊎◌, ℕ, ◌==◌, List, Option, Some, None, if◌then◌else◌}
use Rattle.dg_graph.specs.declared.element.Element.{Element}
use Rattle.dg_handles.specs.Handles.{graph_among}
use Rattle.dg_machine.specs.declared.stands.Stands.{Stands}
use Rattle.dg_view.specs.declared.ends.EdgeEnd.{EdgeEnd}
use Rattle.dg_view.specs.EdgeEnds.{IsAdjacencyOf}

-- the edges of a handle's graph by their ends, where they are kept
abbrev pub KeptEnds : Type 0
KeptEnds = Option (ℕ × List EdgeEnd)

-- ---- of one handle

-- where they are of this handle, they are those of the set
abbrev pub ServesFor : ℕ → List Element → KeptEnds → Type 0
ServesFor handle set None = Unit {0}
ServesFor handle set (Some k) = k.0 ≡ handle → IsAdjacencyOf set k.1

-- none are kept but of this handle, and they are those of the set
abbrev pub KeepsAlone : ℕ → List Element → KeptEnds → Type 0
KeepsAlone handle set None = Unit {0}
KeepsAlone handle set (Some k) = (k.0 ≡ handle) × IsAdjacencyOf set k.1

-- none are kept but of a live handle, and they are those of the handle's graph
abbrev pub IsOfLiveHandle : List (ℕ × Stands) → List (List Element) → KeptEnds → Type 0
IsOfLiveHandle table graphs None = Unit {0}
IsOfLiveHandle table graphs (Some k) = (set : List Element) × (graph_among k.0 table graphs ≡ Some set) × IsAdjacencyOf set k.1

-- what is kept, unless it is of this handle
abbrev pub kept_but : ℕ → KeptEnds → KeptEnds
kept_but handle None = None
kept_but handle (Some k) = if k.0 == handle then None else Some k

-- ---- of the two

-- the same is kept of the two, in this order or in the other
abbrev pub AreTurned : KeptEnds × KeptEnds → KeptEnds × KeptEnds → Type 0
AreTurned old new = (new ≡ old) ⊎ (new ≡ (old.1, old.0))

-- what is kept of this handle is that of the set
abbrev pub BothServe : ℕ → List Element → KeptEnds × KeptEnds → Type 0
BothServe handle set kept = ServesFor handle set kept.0 × ServesFor handle set kept.1

-- what is kept of the first is of this handle and that of the set; what is kept of the second was kept of one of the two
abbrev pub TurnsTo : ℕ → List Element → KeptEnds × KeptEnds → KeptEnds × KeptEnds → Type 0
TurnsTo handle set old new = KeepsAlone handle set new.0 × ((new.1 ≡ old.0) ⊎ (new.1 ≡ old.1))

-- what is kept is as before, or as after a query of a node of this handle, whose graph is the set
abbrev pub MayTurnTo : ℕ → List Element → KeptEnds × KeptEnds → KeptEnds × KeptEnds → Type 0
MayTurnTo handle set old new = (new ≡ old) ⊎ TurnsTo handle set old new

-- what is kept of each is that of a live handle's graph
abbrev pub KeepsAdjacency : List (ℕ × Stands) → List (List Element) → KeptEnds × KeptEnds → Type 0
KeepsAdjacency table graphs kept = IsOfLiveHandle table graphs kept.0 × IsOfLiveHandle table graphs kept.1

-- what is kept of the two, unless it is of this handle
abbrev pub both_but : ℕ → KeptEnds × KeptEnds → KeptEnds × KeptEnds
both_but handle kept = (kept_but handle kept.0, kept_but handle kept.1)
