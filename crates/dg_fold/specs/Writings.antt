-- Deltas that are written for several targets of a tree, one after another.
use Rattle.std.specs.Prelude.{◌≡◌, ℕ, suc, Bool, false, List, [], ◌∷◌, if◌then◌else◌, slice_index_or}
use Rattle.dg_delta.specs.Deltas.{composed}
use Rattle.dg_fold.specs.declared.writing.Writing.{Writing}
use Rattle.dg_fold.specs.Ends.{Lead}
use Rattle.dg_graph.specs.Composition.{Delta, nothing}

-- the deltas as one
abbrev pub composed_all : List Delta → Delta
composed_all [] = nothing
composed_all (d ∷ later) = composed d (composed_all later)

-- the writing is for the target of this number
abbrev pub is_for : ℕ → Writing → Bool
is_for n w = slice_index_or w.targets.items n false

-- the deltas that are written for the target of this number, in order
abbrev pub written_for : ℕ → List Writing → List Delta
written_for n [] = []
written_for n (w ∷ writings) = if is_for n w then w.delta ∷ written_for n writings else written_for n writings

-- what leads to each target, the first of which has this number, is what is written for it
abbrev pub AreWrittenFrom : ℕ → List Lead → List Writing → Type 0
AreWrittenFrom n [] writings = Unit {0}
AreWrittenFrom n (lead ∷ leads) writings = (lead.delta ≡ composed_all (written_for n writings)) × AreWrittenFrom (suc n) leads writings
