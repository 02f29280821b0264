use Rattle.std.proofs.Common.{false, ◌≡◌, ℕ, ◌<◌, ◌-◌, length, Some}
use Rattle.std.specs.Prelude.{slice_get}
use Rattle.dg_path.specs.declared.search.Link.{Link}
use Rattle.dg_path.specs.Search.{IsNext, Meets}
use Rattle.dg_path.proofs.plan.best.Given as goal

abbrev pub invariant-loop-edge : goal.invariant-loop-edge
invariant-loop-edge l =
    IsNext false l.links l.node l.edge l.edge
    × ((k : ℕ) (m : Link) → k < l.edge → slice_get l.links k ≡ Some m → m.head ≡ l.node → Meets l.costs m → ⊥)

abbrev pub decreases-loop-edge : goal.decreases-loop-edge
decreases-loop-edge l = length l.links - l.edge
