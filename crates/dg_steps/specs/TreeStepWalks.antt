-- How the exact steps of a tree are found: which paths take which of its edges, found going back from the nodes; and what
-- those edges do that one of two paths takes and the other does not.
use Rattle.std.specs.Prelude.{◌≡◌, ◌⊎◌, ◌<◌, ◌&&◌, ℕ, Bool, false, not, List, [], ◌∷◌, ◌++◌, length, get_or, Option, Some, None, Ok, slice_get, if◌then◌else◌}
use Rattle.std.specs.Global.{Vec}
use Rattle.dg_fold.specs.declared.part.Part.{Part}
use Rattle.dg_fold.specs.Parts.{Folds}
use Rattle.dg_fold.specs.Steps.{PartedStep, names_record, part_deltas, steps_in}
use Rattle.dg_fold.specs.Trees.{IsAmong}
use Rattle.dg_fold.specs.WritingSteps.{GoesBack}
use Rattle.dg_graph.specs.Composition.{Composes, Delta, IsDelta, composition}
use Rattle.dg_graph.specs.declared.element.Element.{Element}
use Rattle.dg_history.specs.declared.node.NodeId.{NodeId}
use Rattle.dg_history.specs.declared.node.NodeId.TheVariants.{Root}
use Rattle.dg_plan.specs.declared.edge.Edge.{Edge}
use Rattle.dg_plan.specs.declared.edge.Via.{Via}
use Rattle.dg_steps.specs.declared.crossing.Crossing.{Crossing}
use Rattle.dg_steps.specs.TreeSteps.{exact_of, turned_part, way_back}

-- ---- which paths take an edge

-- one of the edges enters the node, or it is Root, where paths begin
abbrev pub IsEntered : NodeId → List Edge → Type 0
IsEntered node edges = (node ≡ Root) ⊎ ((e : Edge) × IsAmong e edges × (node ≡ e.to))

-- each edge leaves Root, or a node that an edge before it enters
abbrev pub AreRooted : List Edge → Type 0
AreRooted edges = (front : List Edge) (e : Edge) (back : List Edge) → edges ≡ front ++ e ∷ back → IsEntered e.from front

-- the path to the node of this number takes the edge
abbrev pub takes_it : ℕ → List Bool → Bool
takes_it n takes = get_or takes n false

-- Of two nodes' paths, that to the first takes the edge, and that to the other does not.
abbrev pub is_own : ℕ → ℕ → List Bool → Bool
is_own n m takes = takes_it n takes && not (takes_it m takes)

-- The path to the node of this number goes back over these edges, from the last to the first, from its node to this one;
-- for each edge it is said which paths take it.
abbrev pub GoesBackOver : ℕ → NodeId → List Edge → List (Vec Bool) → NodeId → Type 0
GoesBackOver n node [] [] at = at ≡ node
GoesBackOver n node [] (f ∷ takes) at = ⊥
GoesBackOver n node (e ∷ edges) [] at = ⊥
GoesBackOver n node (e ∷ edges) (f ∷ takes) at = (next : NodeId) × GoesBack e next at (takes_it n f.items) × GoesBackOver n node edges takes next

-- the steps that pass the test, by which paths take them
abbrev pub chosen : (List Bool → Bool) → List PartedStep → List (Vec Bool) → List PartedStep
chosen test [] takes = []
chosen test (s ∷ all) [] = []
chosen test (s ∷ all) (f ∷ takes) = if test f.items then s ∷ chosen test all takes else chosen test all takes

-- ---- what they do

-- all of the paths take the edge, or none does
abbrev pub AllAgree : List Bool → Type 0
AllAgree takes = (n m : ℕ) → n < length takes → m < length takes → is_own n m takes ≡ false

-- the part of an edge, which is the first where it names a record
abbrev pub part_of : Via → List Part → Option Part
part_of v parts = if names_record v then slice_get parts 0 else None

-- What an edge does, by the part of its record, and what it does the other way. Nothing is kept of it where it does
-- nothing or no two paths differ in it.
abbrev pub IsCrossing : ℕ → Option Part → List Bool → Option Crossing → Type 0
IsCrossing names part takes None = (list : List Delta) × (part_deltas names part ≡ Ok list) × ((part ≡ None) ⊎ AllAgree takes)
IsCrossing names part takes (Some c) = (c.takes.items ≡ takes) × Folds (Ok c.on) (part_deltas names part) × Folds (Ok c.back) (part_deltas names (turned_part part))

-- the steps of the path to the first node that are not on the path to the other
abbrev pub own_steps : ℕ → ℕ → List PartedStep → List (Vec Bool) → List PartedStep
own_steps n m all takes = chosen (is_own n m) all takes

-- what the first node's own steps do the other way, the last first
abbrev pub backs : ℕ → ℕ → List Crossing → List Delta
backs n m [] = []
backs n m (c ∷ kept) = if is_own n m c.takes.items then backs n m kept ++ c.back ∷ [] else backs n m kept

-- what the other node's own steps do, in order
abbrev pub ons : ℕ → ℕ → List Crossing → List Delta
ons n m [] = []
ons n m (c ∷ kept) = if is_own m n c.takes.items then c.on ∷ ons n m kept else ons n m kept

-- the steps, one after another, come to what the deltas come to
abbrev pub ComeTo : ℕ → List PartedStep → List Delta → Type 0
ComeTo names walk deltas = (list : List Delta) × (steps_in names [] walk ≡ Ok list) × ((x : Element) → composition deltas x ≡ composition list x)

-- What is kept of the steps comes to what the first node's own steps do on the way back, and to what the other's do on the
-- way on.
abbrev pub AreKept : ℕ → ℕ → ℕ → List PartedStep → List (Vec Bool) → List Crossing → Type 0
AreKept names n m all takes kept =
    ComeTo names (way_back (own_steps n m all takes)) (backs n m kept) × ComeTo names (own_steps m n all takes) (ons n m kept)

-- ---- from one node to another

-- back along the first node's own steps, and on along those of the other
abbrev pub over : ℕ → ℕ → List Crossing → List Delta
over n m kept = backs n m kept ++ ons n m kept

-- The delta is the exact one of what leads from the first node to the other, and of what leads back again.
abbrev pub IsOver : ℕ → ℕ → List Crossing → Delta → Type 0
IsOver n m kept d = (on : Delta) × (back : Delta) × IsDelta on × IsDelta back × Composes on (over n m kept) × Composes back (over m n kept) × (d ≡ exact_of on back)
