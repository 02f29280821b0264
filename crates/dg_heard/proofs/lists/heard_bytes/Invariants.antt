use Rattle.std.proofs.Common.{◌≡◌, ◌+◌, ◌-◌, ◌≤◌}
use Rattle.dg_heard.specs.Heard.{heard_bytes, list_total}
use Rattle.dg_heard.proofs.HeardBytes.{bytes_from}
use Rattle.dg_heard.proofs.lists.heard_bytes.Given as goal

abbrev pub invariant-loop-list : goal.invariant-loop-list
invariant-loop-list l = record {
  few : l.from ≤ list_total l.index.opening;
  all : l.bytes + bytes_from l.index.opening l.times l.from ≡ heard_bytes l.index.opening l.times;
}

abbrev pub decreases-loop-list : goal.decreases-loop-list
decreases-loop-list l = list_total l.index.opening - l.from
