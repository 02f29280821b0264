-- The records of an index lead from the set of one node to that of the next.
use Rattle.std.proofs.Common.{◌≡◌, ◌+◌, ℕ, List, [], map, take, drop, None, refl, sym, ap, subst, ◌∙◌}
use Rattle.std.proofs.Math.Seq.{take-add}
use Rattle.dg_graph.specs.declared.element.Element.{Element}
use Rattle.dg_graph.specs.declared.event.Event.{Event}
use Rattle.dg_graph.specs.Elements.{IsSet}
use Rattle.dg_graph.specs.Replay.{replay, replay_from}
use Rattle.dg_delta.specs.Deltas.{applied_in_turn}
use Rattle.dg_delta.proofs.Deltas.{between_leads_on, reversed_leads_back}
use Rattle.dg_graph.specs.ExactEvents.{effect_of, AreChangesOf}
use Rattle.dg_graph.proofs.ExactEvents.{IsSet-replay_from, replay_append}
use Rattle.dg_net.proofs.ExactEventCuts.{changes_front, changes_behind}
use Rattle.dg_net.proofs.ReplayNets.{all_count, back_in_turn, replays_in_turn}
use Rattle.dg_plan.specs.declared.edge.Way.TheVariants.{Forward, Back}
use Rattle.dg_index.specs.IndexRecords.{Events}
use Rattle.dg_fold.specs.PathIndependence.{taken, DeltasLead, ExactLeads, SliceLeads, RecordsLead}

pub exact_leads : (a b : List Element) → IsSet a → IsSet b → ExactLeads a b
exact_leads a b s t = record { on = between_leads_on a b s t; back = reversed_leads_back a b s t }

-- events lead on, and where they are exact also back
pub events_lead : (set : List Element) (events : List Event) → IsSet set → DeltasLead (taken Forward None (Events events)) set (replay_from set events)
events_lead set events s =
    ap (λ l. applied_in_turn (map effect_of l) set) (all_count events) ∙ replays_in_turn events set s

pub events_lead_back : (set : List Element) (events : List Event) → IsSet set → AreChangesOf set events → DeltasLead (taken Back None (Events events)) (replay_from set events) set
events_lead_back set events s changes = back_in_turn events set s changes

module _ (events : List Event) (from count : ℕ) where
  pub two_fronts : replay (take (from + count) events) ≡ replay_from (replay (take from events)) (take count (drop from events))
  two_fronts = ap replay (take-add from count events) ∙ replay_append [] (take from events) (take count (drop from events))

  slice_changes : AreChangesOf [] events → AreChangesOf (replay (take from events)) (take count (drop from events))
  slice_changes changes = changes_front (replay (take from events)) count (drop from events) (changes_behind [] from events changes)

  pub slice_leads : AreChangesOf [] events → SliceLeads events from count
  slice_leads changes =
      let first = replay (take from events) in
      let next = take count (drop from events) in
      let s = IsSet-replay_from (take from events) [] tt in
      record {
        on = events_lead first next s ∙ sym two_fronts;
        back = subst (λ l. DeltasLead (taken Back None (Events next)) l first) (sym two_fronts) (events_lead_back first next s (slice_changes changes));
      }

pub records_lead : RecordsLead
records_lead = (exact_leads, slice_leads, λ r set. refl)
