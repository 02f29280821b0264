use Rattle.std.proofs.Common.{◌≡◌, ◌-◌, ◌≤◌, ◌<◌, ℕ, true, false}
use Rattle.dg_catalogue.specs.declared.catalogue.TheConstants.{LISTS_MAX}
use Rattle.dg_catalogue.specs.Points.{has_begun}
use Rattle.dg_catalogue.proofs.catalogue.Catalogue.lists_begun.Given as goal

abbrev pub invariant-loop-low : goal.invariant-loop-low
invariant-loop-low l = record {
  ordered : l.low ≤ l.high;
  few : l.high ≤ LISTS_MAX;
  begun : (i : ℕ) → i < l.low → has_begun l.self l.t i ≡ true;
  rest : (i : ℕ) → l.high ≤ i → has_begun l.self l.t i ≡ false;
}

abbrev pub decreases-loop-low : goal.decreases-loop-low
decreases-loop-low l = l.high - l.low
