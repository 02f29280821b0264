-- What a start comes to, by the recent events that were read, the set of the last leaf and the test of the two.
use Rattle.std.proofs.Common.{◌≡◌, ℕ, ◌≤◌, true, List, Option, Some, None, Result, Ok, Err, length, sym, ◌∙◌, ap, subst, arith}
use Rattle.std.specs.Prelude.{IfSome}
use Rattle.std.specs.List.{All}
use Rattle.dg_graph.specs.declared.element.Element.{Element}
use Rattle.dg_graph.specs.declared.event.Event.{Event}
use Rattle.dg_graph.specs.Graph.{IsGraph}
use Rattle.dg_graph.specs.Replay.{replay_from}
use Rattle.dg_history.specs.History.{are_parameters}
use Rattle.dg_index.specs.declared.entry.Ends.{Ends}
use Rattle.dg_index.specs.OpenedIndex.{Opened, Opening, Unopened, earliest_in, last_list, opening}
use Rattle.dg_index.specs.IndexGrowth.{AreInTurn}
use Rattle.dg_index.proofs.OpenedIndexHistories.{large_parameters}
use Rattle.dg_records.specs.ColumnReads.{Takes, TakesAtMost}
use Rattle.dg_retrieval.specs.NodeSets.{IsLedByPlan}
use Rattle.dg_start.specs.declared.event_source.EventSource.{EventSource}
use Rattle.dg_start.specs.declared.fault.StartFault.{StartFault}
use Rattle.dg_start.specs.declared.fault.StartFault.TheVariants as fault
use Rattle.dg_start.specs.Calls.{TakesAlongPlan, current_bytes, plan_bytes}
use Rattle.dg_start.specs.RecentEvents.{events_in_sources, events_read, first_wrong_event, recent_in_image, recent_sources}
use Rattle.dg_start.specs.EventSources.{ArePartedBy, CanBeRead, WhereTold, bounded, bytes_in_sources, source_of, sources_in}
use Rattle.dg_start.specs.Refusals.{IsReason, RefusesEvents, RefusesPlan}
use Rattle.dg_start.specs.SessionStart.{Bad_event, Bad_piece, Bad_plan, Good, Not_graph, RefusesStart, Started, Starts, StartsBy, StartsIndex, first_recent, last_leaf, recent_bytes, started_with}
use Rattle.dg_stored.specs.StoredHistory.{MayGoOn, recent_count}
use Rattle.dg_start.proofs.EventSourceTimes.{are_of, parted_length, untag_bounded}
use Rattle.dg_start.proofs.EventSourceBytes.{HandsOn, call_then, fails_with, recent_taken, takes_part}
use Rattle.dg_start.proofs.RecentEventTimes.{are_within, may_go_on, recent_counts}
use Rattle.dg_start.proofs.EventSourceOutcomes.{if_told, of_told}

-- what is said of a number, sources and events that are the same
pub tested_before : (P : ℕ → List EventSource → List Event → Type 0) (a b : ℕ) (found then_found : List EventSource) (recent then_recent : List Event) → b ≡ a → then_found ≡ found → then_recent ≡ recent
    → P b then_found then_recent → P a found recent
tested_before P a b found then_found recent then_recent d e f h =
    subst (λ n. P n found recent) d (subst (λ l. P b l recent) e (subst (λ l. P b then_found l) f h))

module _ (names : List (List ℕ)) (o : Opening) where
  abbrev x : Opened
  x = record { index = o; names = names }

  starts : (image : List ℕ) → opening image ≡ Ok x → (due : Result (Option Started) StartFault) → StartsIndex image x due → Starts image due
  starts image opened due s = subst (λ (r : Result Opened Unopened). StartsBy image r due) (sym opened) s

  module _ (image : List ℕ) (opened : opening image ≡ Ok x) where
    -- a recent record that is in no spelling
    refused_by_record : (f : StartFault) → IsReason f (recent_in_image image (length names) o) → RefusesStart f image
    refused_by_record fault.Disk h = tt
    refused_by_record fault.Foreign h = starts image opened (Err fault.Foreign) (Bad_piece fault.Foreign h)
    refused_by_record (fault.Damaged offset) h = starts image opened (Err (fault.Damaged offset)) (Bad_piece (fault.Damaged offset) h)
    refused_by_record (fault.BadRecord key col) h = starts image opened (Err (fault.BadRecord key col)) (Bad_piece (fault.BadRecord key col) h)
    refused_by_record fault.NotGraph h = starts image opened (Err fault.NotGraph) (Bad_piece fault.NotGraph h)
    refused_by_record (fault.BadRecent number) h = starts image opened (Err (fault.BadRecent number)) (Bad_piece (fault.BadRecent number) h)
    refused_by_record fault.Memory h = tt

    module _ (pairs : List (Ends × Event)) (read : recent_in_image image (length names) o ≡ Ok pairs) where
      -- a record along the plan
      refused_by_plan : (f : StartFault) → RefusesPlan (length names) image o f → RefusesStart f image
      refused_by_plan fault.Disk h = tt
      refused_by_plan fault.Foreign h = absurd h
      refused_by_plan (fault.Damaged offset) h = absurd h
      refused_by_plan (fault.BadRecord key col) h = starts image opened (Err (fault.BadRecord key col)) (Bad_plan pairs read key col h)
      refused_by_plan fault.NotGraph h = absurd h
      refused_by_plan (fault.BadRecent number) h = absurd h
      refused_by_plan fault.Memory h = tt

      module _ (set : List Element) (led : IsLedByPlan (length names) image o (last_leaf o) (Ok set)) where
        -- the set, or an event behind it
        refused_by_event : (f : StartFault) → RefusesEvents names (first_recent o) set pairs f → RefusesStart f image
        refused_by_event fault.Disk h = absurd h
        refused_by_event fault.Foreign h = absurd h
        refused_by_event (fault.Damaged offset) h = absurd h
        refused_by_event (fault.BadRecord key col) h = absurd h
        refused_by_event fault.NotGraph h = starts image opened (Err fault.NotGraph) (Not_graph pairs read set led h)
        refused_by_event (fault.BadRecent number) h = starts image opened (Err (fault.BadRecent number)) (Bad_event pairs read set led h.0 number h.1)
        refused_by_event fault.Memory h = tt

        -- or the set past the events
        started_so : IsGraph set → first_wrong_event names (first_recent o) set pairs ≡ None → (graph : List Element) (recent : List Event) → events_read pairs ≡ recent → graph ≡ replay_from set recent
            → Starts image (Ok (started_with (Some o) names graph recent))
        started_so is right graph recent recent_is graph_is =
            subst (λ (d : Option Started). Starts image (Ok d))
            ((λ i. Some (record { opened = x; graph = replay_from set (recent_is i); recent = recent_is i })) ∙ (λ i. Some (record { opened = x; graph = sym graph_is i; recent = recent })))
            (starts image opened _ (Good pairs read set led is right))

  -- ---- where the image is told

  module _ (told : Option (List ℕ)) (opened : IfSome told (λ image. opening image ≡ Ok x)) (found : List EventSource) (are : sources_in found ≡ recent_sources o) where
    opened_at : (image : List ℕ) → told ≡ Some image → opening image ≡ Ok x
    opened_at image h = of_told told (λ image. opening image ≡ Ok x) image opened h

    sources_at : (image : List ℕ) → events_in_sources image (length names) o (sources_in found) ≡ recent_in_image image (length names) o
    sources_at image = ap (events_in_sources image (length names) o) are

    pub record_refused : (f : StartFault) → WhereTold told (λ image. IsReason f (events_in_sources image (length names) o (sources_in found))) → IfSome told (λ image. RefusesStart f image)
    record_refused f bad =
        if_told told (λ image. RefusesStart f image)
        (λ image h. refused_by_record image (opened_at image h) f (subst (λ (r : Result (List (Ends × Event)) StartFault). IsReason f r) (sources_at image) (bad image h)))

    module _ (recent : List Event) (read : WhereTold told (λ image. events_in_sources image (length names) o (sources_in found) ≡ Ok (bounded (sources_in found) recent)))
        (parted : ArePartedBy (sources_in found) recent) where
      read_at : (image : List ℕ) → told ≡ Some image → recent_in_image image (length names) o ≡ Ok (bounded (sources_in found) recent)
      read_at image h = sym (sources_at image) ∙ read image h

      pub plan_refused : (f : StartFault) → IfSome told (λ image. RefusesPlan (length names) image o f) → IfSome told (λ image. RefusesStart f image)
      plan_refused f bad =
          if_told told (λ image. RefusesStart f image)
          (λ image h. refused_by_plan image (opened_at image h) (bounded (sources_in found) recent) (read_at image h) f (of_told told (λ image. RefusesPlan (length names) image o f) image bad h))

      module _ (set : List Element) (led : IfSome told (λ image. IsLedByPlan (length names) image o (last_leaf o) (Ok set))) where
        led_at : (image : List ℕ) → told ≡ Some image → IsLedByPlan (length names) image o (last_leaf o) (Ok set)
        led_at image h = of_told told (λ image. IsLedByPlan (length names) image o (last_leaf o) (Ok set)) image led h

        pub event_refused : (f : StartFault) → RefusesEvents names (first_recent o) set (bounded (sources_in found) recent) f → IfSome told (λ image. RefusesStart f image)
        event_refused f bad =
            if_told told (λ image. RefusesStart f image)
            (λ image h. refused_by_event image (opened_at image h) (bounded (sources_in found) recent) (read_at image h) set (led_at image h) f bad)

        pub is_started : IsGraph set → first_wrong_event names (first_recent o) set (bounded (sources_in found) recent) ≡ None → (graph : List Element) → graph ≡ replay_from set recent
            → IfSome told (λ image. Starts image (Ok (started_with (Some o) names graph recent)))
        is_started is right graph graph_is =
            if_told told (λ image. Starts image (Ok (started_with (Some o) names graph recent)))
            (λ image h. started_so image (opened_at image h) (bounded (sources_in found) recent) (read_at image h) set (led_at image h) is right graph recent (untag_bounded (sources_in found) recent parted) graph_is)

-- ---- over any image

list_some : (l k : ℕ) → are_parameters l k ≡ true → 1 ≤ l
list_some l k h = (let large = large_parameters l k h in let two = large.0 in omega arith)

module _ (names : List (List ℕ)) (o : Opening) (right : are_parameters o.params.l o.params.k ≡ true) (found : List EventSource) (are : sources_in found ≡ recent_sources o)
    (recent : List Event) (parted : ArePartedBy (sources_in found) recent) where
  parted_so : ArePartedBy (recent_sources o) recent
  parted_so = subst (λ l. ArePartedBy l recent) are parted

  pub recent_many : length recent ≡ recent_count o
  recent_many = parted_length (recent_sources o) recent parted_so ∙ recent_counts o (list_some o.params.l o.params.k right)

  pub recent_goes_on : AreInTurn 0 0 o.batches → last_list 0 o.records ≤ earliest_in 0 o.batches → (n : ℕ) (set : List Element) → first_wrong_event names n set (bounded (sources_in found) recent) ≡ None
      → MayGoOn (Some o) recent
  recent_goes_on turns listed n set none =
      subst (λ (es : List Event). MayGoOn (Some o) es) (untag_bounded (recent_sources o) recent parted_so)
      (may_go_on o (bounded (recent_sources o) recent) turns listed (are_of (recent_sources o) recent parted_so)
      (are_within names n set (bounded (recent_sources o) recent) (ap (λ l. first_wrong_event names n set (bounded l recent)) (sym are) ∙ none)))

-- ---- the bytes read, over an image of a history

module _ (told : Option (List ℕ)) (o : Opening) (n : ℕ) (found : List EventSource) (are : sources_in found ≡ recent_sources o) (readable : All (λ (s : EventSource). CanBeRead o (source_of s)) found) where
  -- a call along the plan behind the recent pieces
  pub current_takes : {A E : Type 0} (s : Result A E) (before now after : ℕ) → WhereTold told (λ image. Takes (bytes_in_sources image o (sources_in found)) before now)
      → IfSome told (λ image. TakesAlongPlan s (plan_bytes o) image o n now after) → IfSome told (λ image. TakesAlongPlan s (current_bytes o) image o n before after)
  current_takes s before now after first later =
      if_told told (λ image. TakesAlongPlan s (current_bytes o) image o n before after)
      (λ image h z over steps plan.
      call_then s (recent_bytes o) (plan_bytes o steps) before now after
      (subst (λ k. Takes k before now) (recent_taken z image over.stands o over.opened found are readable) (first image h))
      (of_told told (λ image. TakesAlongPlan s (plan_bytes o) image o n now after) image later h z over steps plan))

  -- a fault within them
  pub recent_fails : {A : Type 0} (r : Result A StartFault) (f : StartFault) (before after : ℕ) → HandsOn r f → WhereTold told (λ image. TakesAtMost (bytes_in_sources image o (sources_in found)) before after)
      → IfSome told (λ image. TakesAlongPlan r (current_bytes o) image o n before after)
  recent_fails r f before after given fails =
      if_told told (λ image. TakesAlongPlan r (current_bytes o) image o n before after)
      (λ image h z over steps plan.
      fails_with r f (current_bytes o steps) before after given
      (takes_part (recent_bytes o) (current_bytes o steps) before after (omega arith)
      (subst (λ k. TakesAtMost k before after) (recent_taken z image over.stands o over.opened found are readable) (fails image h))))
