use Rattle.std.proofs.Common.{◌≡◌, map, take}
use Rattle.dg_retrieval.specs.Beginnings.{leads_in}
use Rattle.dg_retrieval.proofs.NodeSetLeads.{from_nothing}
use Rattle.dg_retrieval.proofs.record_sets.sets_led.Given as goal

abbrev pub invariant-loop-n : goal.invariant-loop-n
invariant-loop-n l = l.sets.items ≡ map from_nothing (take l.n (leads_in l.leads))
