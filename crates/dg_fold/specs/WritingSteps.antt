-- How the deltas of a tree's steps are written: going back from the targets over the steps, from the last to the first.
use Rattle.std.specs.Prelude.{◌≡◌, ◌≢◌, ◌⊎◌, ℕ, suc, Bool, true, false, List, [], ◌∷◌, ◌++◌, Ok}
use Rattle.dg_graph.specs.declared.event.Event.{Event}
use Rattle.dg_history.specs.declared.node.NodeId.{NodeId}
use Rattle.dg_history.specs.declared.node.NodeId.TheVariants.{Root}
use Rattle.dg_plan.specs.declared.edge.Edge.{Edge}
use Rattle.dg_fold.specs.declared.tree_step.Stepped.{Stepped}
use Rattle.dg_fold.specs.declared.part.Part.{Part}
use Rattle.dg_fold.specs.declared.tree.Branch.{Branch}
use Rattle.dg_fold.specs.declared.writing.Writing.{Writing}
use Rattle.dg_fold.specs.Ends.{last_in}
use Rattle.dg_fold.specs.Parts.{Folds}
use Rattle.dg_fold.specs.TreeSteps.{IsAmongSteps, Path, step_deltas}
use Rattle.dg_fold.specs.Writings.{is_for, written_for}

-- one of the steps enters the node, or it is Root, where paths begin
abbrev pub IsEnteredNode : NodeId → List Stepped → Type 0
IsEnteredNode node steps = (node ≡ Root) ⊎ ((s : Stepped) × IsAmongSteps s steps × (node ≡ s.edge.to))

-- each step leaves Root, or a node that a step before it enters
abbrev pub AreRooted : List Stepped → Type 0
AreRooted steps = (front : List Stepped) (s : Stepped) (back : List Stepped) → steps ≡ front ++ s ∷ back → IsEnteredNode s.edge.from front

-- A path that has still to reach this node goes back by the edge where the edge enters the node; or it stays.
pub data GoesBack (edge : Edge) (node next : NodeId) (takes : Bool) : Type 0 where
  By_the_edge : node ≡ edge.to → next ≡ edge.from → takes ≡ true → GoesBack edge node next takes
  Stays : node ≢ edge.to → next ≡ node → takes ≡ false → GoesBack edge node next takes

-- what is written for the target is what the steps of a path to the node do, in order
abbrev pub IsWritten : List Stepped → ℕ → NodeId → List Writing → Type 0
IsWritten steps n node writings = (walk : List Stepped) × Path steps node walk × (written_for n writings ≡ step_deltas walk)

-- the writing is for the target of this number alone
abbrev pub IsForOnly : ℕ → Writing → Type 0
IsForOnly n w = (is_for n w ≡ true) × ((m : ℕ) → m ≢ n → is_for m w ≡ false)

-- for each target, the first of which has this number, its last events for it alone
abbrev pub AreLasts : ℕ → List Event → List Part → ℕ → List Branch → List ℕ → List Writing → Type 0
AreLasts names recent parts n [] times [] = Unit {0}
AreLasts names recent parts n [] times (w ∷ writings) = ⊥
AreLasts names recent parts n (b ∷ branches) [] writings = ⊥
AreLasts names recent parts n (b ∷ branches) (t ∷ times) [] = ⊥
AreLasts names recent parts n (b ∷ branches) (t ∷ times) (w ∷ writings) =
    IsForOnly n w × Folds (Ok w.delta) (last_in names recent parts b.to t) × AreLasts names recent parts (suc n) branches times writings
