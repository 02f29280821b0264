-- What comes next in a walk over elements that are gained and others that are lost.
use Rattle.std.specs.Prelude.{◌≢◌, ◌<◌, ◌≤◌, ℕ, List, length, drop, slice_index_or}
use Rattle.std.specs.declared.cmp.Ordering.TheVariants.{Greater}
use Rattle.dg_graph.specs.declared.element.Element.{Element}
use Rattle.dg_graph.specs.Elements.{IsBelowFirst}
use Rattle.dg_set.specs.Indices.{first_cmp}
use Rattle.dg_set.specs.declared.replace.Change.{Change}
use Rattle.dg_set.specs.declared.replace.Change.TheVariants.{Gain, Loss, End}

-- of those gained from the one index on, and those lost from the other on, this is the next change
abbrev pub IsNextChange : List Element → ℕ → List Element → ℕ → Change → Type 0
IsNextChange gained j lost k Gain = (j < length gained) × ((d : Element) → first_cmp (slice_index_or gained j d) (drop k lost) ≢ Greater)
IsNextChange gained j lost k Loss = (k < length lost) × ((d : Element) → IsBelowFirst (slice_index_or lost k d) (drop j gained))
IsNextChange gained j lost k End = (length gained ≤ j) × (length lost ≤ k)
