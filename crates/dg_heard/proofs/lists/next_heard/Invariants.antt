use Rattle.std.proofs.Common.{◌≡◌, ◌≤◌, ◌<◌, ℕ, true, false, take}
use Rattle.dg_heard.specs.Heard.{is_heard}
use Rattle.dg_heard.proofs.lists.next_heard.Given as goal

abbrev pub invariant-loop-t : goal.invariant-loop-t
invariant-loop-t l = record {
  begun : l.from ≤ l.next;
  few : l.next ≤ l.total;
  heard : l.next < l.total → is_heard l.index.opening (take l.t-index l.times) l.next ≡ true;
  before : (k : ℕ) → l.from ≤ k → k < l.next → is_heard l.index.opening (take l.t-index l.times) k ≡ false;
}
