-- What an image starts as that stands for a history.
use Rattle.std.proofs.Common.{◌≡◌, ℕ, zero, suc, ◌*◌, List, [], Option, Some, None, Result, Ok, Err, if◌then◌else◌, length, take, drop, refl, sym, ◌∙◌, ap, subst, arith}
use Rattle.std.proofs.lemmas.List.{take-append-drop}
use Rattle.dg_columns.specs.ColumnLaws.{EventsAreReadBack, EventsAreMergedBack}
use Rattle.dg_graph.specs.declared.element.Column.{Column}
use Rattle.dg_graph.specs.declared.element.Element.{Element}
use Rattle.dg_graph.specs.declared.event.Event.{Event}
use Rattle.dg_graph.specs.Graph.{IsGraph}
use Rattle.dg_graph.specs.MadeByChanges.{AreMadeByChanges}
use Rattle.dg_graph.specs.Replay.{replay, replay_from}
use Rattle.dg_graph.proofs.Completions.{empty_graph, made_before}
use Rattle.dg_graph.proofs.ExactEvents.{replay_append}
use Rattle.dg_history.specs.declared.node.Key.{Key}
use Rattle.dg_history.specs.declared.params.Params.{Params}
use Rattle.dg_history.specs.History.{History, events_of, names_of}
use Rattle.dg_history.proofs.LegalHistories.{events_made}
use Rattle.dg_index.specs.declared.entry.Ends.{Ends}
use Rattle.dg_index.specs.Hierarchy.{leaves, set_of}
use Rattle.dg_index.specs.ImageOfHistory.{IsImageOf}
use Rattle.dg_index.specs.ImageText.{header_in}
use Rattle.dg_index.specs.IndexRecords.{recent_of}
use Rattle.dg_index.specs.OpenedIndex.{No_index, Opened, Opening, Unopened, opened_by, opened_of, opening}
use Rattle.dg_index.proofs.OpenedIndexHistories.{images_are_opened}
use Rattle.dg_index.proofs.OpenedLegalHistories.{behind}
use Rattle.dg_net.proofs.NetLaws.{changes_keep_graphs}
use Rattle.dg_plan.specs.IndexGraph.{leaf}
use Rattle.dg_retrieval.specs.NodeSets.{IsLedByPlan}
use Rattle.dg_start.specs.Calls.{StartsAsItStands}
use Rattle.dg_start.specs.declared.fault.StartFault.{StartFault}
use Rattle.dg_start.specs.RecentEvents.{events_read, first_wrong_event, recent_in_image}
use Rattle.dg_start.specs.SessionStart.{Bad_event, Bad_piece, Bad_plan, Good, Not_graph, Started, Starts, StartsBy, StartsIndex, first_recent, last_leaf}
use Rattle.dg_start.proofs.KeptGraphPlans.{plan_leads}
use Rattle.dg_start.proofs.RecentEventHistory.{all_read, all_recent, none_is_wrong, recent_pairs}

-- the set of a leaf is the replay of the events before it
leaf_set : (p : Params) (events : List Event) (m : ℕ) → set_of p events (leaf m) ≡ replay (take (m * p.l) events)
leaf_set p events zero = ap (λ n. replay (take n events)) (let e : 0 ≡ 0 * p.l = omega arith in e)
leaf_set p events (suc m) = refl

-- what a start over the image of a history is
pub record IsStartOf (z : History) (due : Result (Option Started) StartFault) : Type 0 where
  pub graph : List Element
  pub recent : List Event
  pub is : due ≡ Ok (Some (record { opened = record { index = (opened_of z).index; names = names_of z }; graph = graph; recent = recent }))
  pub graph_is : graph ≡ replay (events_of z)
  pub recent_is : recent ≡ recent_of z.params (events_of z)

module _ (back : EventsAreReadBack) (merge : EventsAreMergedBack) (z : History) (image : List ℕ) (h : IsImageOf z image) where
  abbrev o : Opening
  o = (opened_of z).index

  abbrev x : Opened
  x = record { index = o; names = names_of z }

  abbrev before : List Event
  before = take (leaves z.params (length (events_of z)) * z.params.l) (events_of z)

  abbrev pairs : List (Ends × Event)
  pairs = recent_pairs back merge z image h

  read : recent_in_image image (length (names_of z)) o ≡ Ok pairs
  read = all_read back merge z image h

  leaf_is : last_leaf o ≡ leaf (leaves z.params (length (events_of z)))
  leaf_is = (λ i. leaf (leaves ((behind z h.legal).params i) ((behind z h.legal).count i)))

  led : (due : Result (List Element) (Key × Column)) → IsLedByPlan (length (names_of z)) image o (last_leaf o) due → due ≡ Ok (replay before)
  led due l =
      plan_leads z image h o refl (length (names_of z)) refl (last_leaf o) due l
      ∙ ap (λ (set : List Element). Ok set) (ap (set_of z.params (events_of z)) leaf_is ∙ leaf_set z.params (events_of z) (leaves z.params (length (events_of z))))

  is_graph : IsGraph (replay before)
  is_graph =
      let n : ℕ = leaves z.params (length (events_of z)) * z.params.l in
      changes_keep_graphs [] before empty_graph (made_before [] before (drop n (events_of z)) (subst (AreMadeByChanges []) (sym (take-append-drop n (events_of z))) (events_made z h.legal)))

  right : first_wrong_event (names_of z) (first_recent o) (replay before) pairs ≡ None
  right = none_is_wrong back merge z image h (first_recent o)

  good : (pairs' : List (Ends × Event)) → recent_in_image image (length (names_of z)) o ≡ Ok pairs' → (set : List Element) → IsLedByPlan (length (names_of z)) image o (last_leaf o) (Ok set)
      → IsStartOf z (Ok (Some (record { opened = x; graph = replay_from set (events_read pairs'); recent = events_read pairs' })))
  good pairs' e set l =
      let same : pairs' ≡ pairs = (let f = read in cc) in
      let from : set ≡ replay before = (let f = led (Ok set) l in cc) in
      let recent : events_read pairs' ≡ recent_of z.params (events_of z) = ap events_read same ∙ all_recent back merge z image h in
      record {
        graph = replay_from set (events_read pairs');
        recent = events_read pairs';
        is = refl;
        graph_is =
            (λ i. replay_from (from i) (recent i)) ∙ sym (replay_append [] before (recent_of z.params (events_of z)))
            ∙ ap replay (take-append-drop (leaves z.params (length (events_of z)) * z.params.l) (events_of z));
        recent_is = recent;
      }

  index_starts : (due : Result (Option Started) StartFault) → StartsIndex image x due → IsStartOf z due
  index_starts due (Bad_piece f e) = let g = read in cc
  index_starts due (Bad_plan pairs' e key col l) = let g = led (Err (key, col)) l in cc
  index_starts due (Not_graph pairs' e set l none) =
      let from : set ≡ replay before = (let f = led (Ok set) l in cc) in
      absurd (none (subst IsGraph (sym from) is_graph))
  index_starts due (Bad_event pairs' e set l graph n wrong) =
      let same : pairs' ≡ pairs = (let f = read in cc) in
      let from : set ≡ replay before = (let f = led (Ok set) l in cc) in
      let none : first_wrong_event (names_of z) (first_recent o) set pairs' ≡ None = (λ i. first_wrong_event (names_of z) (first_recent o) (from i) (same i)) ∙ right in
      cc
  index_starts due (Good pairs' e set l graph none) = good pairs' e set l

  pub history_starts : (due : Result (Option Started) StartFault) → Starts image due → IsStartOf z due
  history_starts due s =
      let opened : opening image ≡ Ok x = images_are_opened z image h ∙ (λ i. Ok (record { index = o; names = (behind z h.legal).names_are i })) in
      index_starts due (subst (λ (r : Result Opened Unopened). StartsBy image r due) opened s)

pub starts_as_it_stands : EventsAreReadBack → EventsAreMergedBack → StartsAsItStands
starts_as_it_stands back merge None image h due s =
    let none : opening image ≡ Err No_index = ap (λ b. if b then Err No_index else opened_by image (header_in image)) h in
    (None, [], [], [], subst (λ (r : Result Opened Unopened). StartsBy image r due) none s, (refl, refl, refl, refl))
starts_as_it_stands back merge (Some z) image h due s =
    let start : IsStartOf z due = history_starts back merge z image h due s in (
      Some (opened_of z).index,
      names_of z,
      start.graph,
      start.recent,
      start.is,
      record { index_is = refl; names_are = refl; graph_is = start.graph_is; recent_are = start.recent_is },
    )
