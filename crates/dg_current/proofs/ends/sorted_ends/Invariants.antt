use Rattle.std.proofs.Common.{◌≡◌, ℕ, ◌==◌, take}
use Rattle.std.specs.List.{count_by}
use Rattle.dg_current.specs.Sorted.{has_end}
use Rattle.dg_current.proofs.ends.sorted_ends.Given as goal

abbrev pub invariant-loop-element : goal.invariant-loop-element
invariant-loop-element l = (id : ℕ) → count_by (λ end. end == id) l.ends.items ≡ count_by (has_end id) (take l.element-index l.items)
