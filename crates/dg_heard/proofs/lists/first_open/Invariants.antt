use Rattle.std.proofs.Common.{◌≡◌, ◌-◌, ◌≤◌, ◌<◌, ℕ, true, false}
use Rattle.dg_catalogue.specs.Held.{ends_of}
use Rattle.dg_heard.specs.Heard.{end_before}
use Rattle.dg_heard.proofs.lists.first_open.Given as goal

abbrev pub invariant-loop-low : goal.invariant-loop-low
invariant-loop-low l = record {
  begun : l.from ≤ l.low;
  ordered : l.low ≤ l.high;
  few : l.high ≤ l.to;
  ended : (i : ℕ) → l.from ≤ i → i < l.low → end_before l.t (ends_of l.lists i) ≡ true;
  rest : (i : ℕ) → l.high ≤ i → i < l.to → end_before l.t (ends_of l.lists i) ≡ false;
}

abbrev pub decreases-loop-low : goal.decreases-loop-low
decreases-loop-low l = l.high - l.low
