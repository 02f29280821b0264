-- Events that may follow one another are exact where they stand.
use Rattle.std.proofs.Common.{◌≡◌, ℕ, List, [], None, length}
use Rattle.dg_graph.specs.ExactEvents.{AreChangesOf}
use Rattle.dg_graph.proofs.Completions.{empty_graph}
use Rattle.dg_net.specs.NetLaws.{ChangesAreExact}
use Rattle.dg_verify.specs.declared.own_events.OwnEvents.{OwnEvents}
use Rattle.dg_verify.specs.EventTests.{IsRead, first_unfit}
use Rattle.dg_verify.proofs.EventTestRecords.{are_made}

pub are_exact : ChangesAreExact → (names : List (List ℕ)) (own : OwnEvents) → IsRead (length names) own → first_unfit names own ≡ None → AreChangesOf [] own.events.items
are_exact exact names own read fit = exact [] own.events.items empty_graph (are_made names own read fit)
