-- How the events of several records are read, one source at a time.
use Rattle.std.proofs.Common.{◌≡◌, ℕ, ◌+◌, ◌<◌, ◌≤◌, List, [], ◌∷◌, ◌++◌, Option, Some, Result, Ok, Err, length, map, take, drop, get_or, refl, sym, ◌∙◌, ap, subst, arith, append_assoc, append-nil, take-append-drop}
use Rattle.std.proofs.lemmas.List.{length-map, drop-map, drop_all, drop_more, map-append, take-map, take_all, take_more}
use Rattle.std.proofs.lemmas.List.Sums.{sum_by-append, sum_by-cons}
use Rattle.dg_graph.specs.ColumnMerge.{merged}
use Rattle.dg_records.specs.ColumnReads.{Takes, TakesAtMost, asked_length, kept_in}
use Rattle.dg_graph.specs.declared.element.Column.TheVariants as column
use Rattle.dg_graph.specs.declared.event.Event.{Event}
use Rattle.dg_graph.specs.declared.placed.Placed.{Placed}
use Rattle.dg_history.specs.declared.node.Key.TheVariants as key
use Rattle.dg_history.specs.EventTimes.{RisesFrom}
use Rattle.dg_index.specs.declared.entry.Ends.{Ends}
use Rattle.dg_index.specs.OpenedIndex.{Opening}
use Rattle.dg_plan.specs.HistoryGraph.{all_columns}
use Rattle.dg_start.specs.declared.event_source.EventSource.{EventSource}
use Rattle.dg_start.specs.declared.fault.StartFault.{StartFault}
use Rattle.dg_start.specs.declared.fault.StartFault.TheVariants as fault
use Rattle.dg_records.specs.ColumnReads.{TakesOrFails}
use Rattle.dg_start.specs.RecentEvents.{Source, and_start, events_in_source, events_in_sources, merged_or_fault, placed_in_record}
use Rattle.dg_start.specs.EventSources.{ArePartedBy, WhereTold, bounded, bytes_in_sources, source_of, sources_in}
use Rattle.dg_start.specs.Refusals.{IsReason}
use Rattle.dg_start.proofs.EventSourceBytes.{HandsOn, fails_with, takes_both, takes_part, takes_then}
use Rattle.dg_start.proofs.EventSourceTimes.{bounded_more, parted_more, tagged}

-- ---- sources by their index

-- the source that is read next
pub record IsNextSource (all : List Source) (i : ℕ) (s : Source) : Type 0 where
  pub rest : drop i all ≡ s ∷ drop (i + 1) all
  pub front : take (i + 1) all ≡ take i all ++ s ∷ []

pub next_source : (found : List EventSource) (i : ℕ) (d : EventSource) → i < length found → IsNextSource (sources_in found) i (source_of (get_or found i d))
next_source found i d lt = record {
  rest = drop-map source_of i found ∙ ap (map source_of) (drop_more found i d lt) ∙ ap (λ (l : List Source). source_of (get_or found i d) ∷ l) (sym (drop-map source_of (i + 1) found));
  front = take-map source_of (i + 1) found ∙ ap (map source_of) (take_more found i d lt) ∙ map-append source_of (take i found) (get_or found i d ∷ [])
      ∙ ap (λ (l : List Source). l ++ source_of (get_or found i d) ∷ []) (sym (take-map source_of i found));
}

-- ---- what is read

-- the pairs in front of those that come
abbrev pub onto : List (Ends × Event) → Result (List (Ends × Event)) StartFault → Result (List (Ends × Event)) StartFault
onto pairs r = and_start r (λ (more : List (Ends × Event)). Ok (pairs ++ more))

onto-none : (r : Result (List (Ends × Event)) StartFault) → r ≡ onto [] r
onto-none (Ok more) = refl
onto-none (Err f) = refl

onto-both : (a b : List (Ends × Event)) (r : Result (List (Ends × Event)) StartFault) → onto a (onto b r) ≡ onto (a ++ b) r
onto-both a b (Ok more) = ap (λ (ps : List (Ends × Event)). Ok ps) (sym (append_assoc a b more))
onto-both a b (Err f) = refl

-- The first of the sources were read as these events.
pub record ReadSoFar (told : Option (List ℕ)) (names : ℕ) (o : Opening) (all : List Source) (i : ℕ) (events : List Event) (before after : ℕ) : Type 0 where
  pub read : WhereTold told (λ image. events_in_sources image names o all ≡ onto (bounded (take i all) events) (events_in_sources image names o (drop i all)))
  pub parted : ArePartedBy (take i all) events
  pub takes : WhereTold told (λ image. Takes (bytes_in_sources image o (take i all)) before after)

pub none_read : (told : Option (List ℕ)) (names : ℕ) (o : Opening) (all : List Source) (events : List Event) (taken : ℕ) → events ≡ [] → ReadSoFar told names o all 0 events taken taken
none_read told names o all events taken none = record {
  read = λ image h. onto-none (events_in_sources image names o all);
  parted = none;
  takes = λ image h. refl;
}

-- the sources from this one on
abbrev and_more : List ℕ → ℕ → Opening → List Source → Source → Result (List Event) StartFault → Result (List (Ends × Event)) StartFault
and_more image names o rest s r =
    and_start r (λ events. and_start (events_in_sources image names o rest) (λ more. Ok (map (λ (e : Event). (s.ends, e)) events ++ more)))

module _ (told : Option (List ℕ)) (names : ℕ) (o : Opening) (all : List Source) (i : ℕ) (s : Source) (next : IsNextSource all i s) where
  sources_here : (image : List ℕ) → events_in_sources image names o (drop i all) ≡ and_more image names o (drop (i + 1) all) s (events_in_source image names o s)
  sources_here image = ap (λ (xs : List Source). events_in_sources image names o xs) next.rest

  more_bytes : (image : List ℕ) → bytes_in_sources image o (take (i + 1) all) ≡ bytes_in_sources image o (take i all) + asked_length (kept_in image o) all_columns s.key
  more_bytes image =
      let f : Source → ℕ = λ (s : Source). asked_length (kept_in image o) all_columns s.key in
      let one : bytes_in_sources image o (s ∷ []) ≡ f s + 0 = sum_by-cons f s [] in
      let both : bytes_in_sources image o (take i all ++ s ∷ []) ≡ bytes_in_sources image o (take i all) + bytes_in_sources image o (s ∷ []) = sum_by-append f (take i all) (s ∷ []) in
      ap (bytes_in_sources image o) next.front ∙ (let e : bytes_in_sources image o (take i all ++ s ∷ []) ≡ bytes_in_sources image o (take i all) + f s = omega (arith, both, one) in e)

  -- with one more they have no more bytes than all
  pub next_at_most : (image : List ℕ) → bytes_in_sources image o (take i all) + asked_length (kept_in image o) all_columns s.key ≤ bytes_in_sources image o all
  next_at_most image =
      let f : Source → ℕ = λ (s : Source). asked_length (kept_in image o) all_columns s.key in
      let both : bytes_in_sources image o (take (i + 1) all ++ drop (i + 1) all) ≡ bytes_in_sources image o (take (i + 1) all) + bytes_in_sources image o (drop (i + 1) all) =
      sum_by-append f (take (i + 1) all) (drop (i + 1) all) in
      let whole : bytes_in_sources image o (take (i + 1) all ++ drop (i + 1) all) ≡ bytes_in_sources image o all = ap (bytes_in_sources image o) (take-append-drop (i + 1) all) in
      omega (arith, more_bytes image, both, whole)

  -- where the next source fails, no more is read than all have
  pub next_fails : {A E : Type 0} (r : Result A E) (fault : E) (events : List Event) (before now after : ℕ) → HandsOn r fault → ReadSoFar told names o all i events before now
      → WhereTold told (λ image. TakesAtMost (asked_length (kept_in image o) all_columns s.key) now after) → WhereTold told (λ image. TakesOrFails r (bytes_in_sources image o all) before after)
  next_fails r fault events before now after given so_far fails image h =
      fails_with r fault (bytes_in_sources image o all) before after given
      (takes_part (bytes_in_sources image o (take i all) + asked_length (kept_in image o) all_columns s.key) (bytes_in_sources image o all) before after (next_at_most image)
      (takes_then (bytes_in_sources image o (take i all)) (asked_length (kept_in image o) all_columns s.key) before now after (so_far.takes image h) (fails image h)))

  -- one source more
  pub source_read : (events more then_events : List Event) (before now after : ℕ) → ReadSoFar told names o all i events before now
      → WhereTold told (λ image. events_in_source image names o s ≡ Ok more) → length more ≡ s.count → RisesFrom 0 more
      → WhereTold told (λ image. Takes (asked_length (kept_in image o) all_columns s.key) now after) → then_events ≡ events ++ more
      → ReadSoFar told names o all (i + 1) then_events before after
  source_read events more then_events before now after so_far read many rises takes are =
      subst (λ (es : List Event). ReadSoFar told names o all (i + 1) es before after) (sym are)
      (record {
        read = λ image h.
            so_far.read image h
            ∙ ap (onto (bounded (take i all) events)) (sources_here image ∙ ap (and_more image names o (drop (i + 1) all) s) (read image h))
            ∙ onto-both (bounded (take i all) events) (tagged s.ends more) (events_in_sources image names o (drop (i + 1) all))
            ∙ ap (λ (ps : List (Ends × Event)). onto ps (events_in_sources image names o (drop (i + 1) all)))
            (sym (bounded_more (take i all) s events more so_far.parted many) ∙ ap (λ (l : List Source). bounded l (events ++ more)) (sym next.front));
        parted = subst (λ (l : List Source). ArePartedBy l (events ++ more)) (sym next.front) (parted_more (take i all) s events more so_far.parted many rises);
        takes = λ image h.
            subst (λ n. Takes n before after) (sym (more_bytes image))
            (takes_both (bytes_in_sources image o (take i all)) (asked_length (kept_in image o) all_columns s.key) before now after (so_far.takes image h) (takes image h));
      })

  -- what is refused first is refused
  pub refused_first : {A B : Type 0} (f : StartFault) (r : Result A StartFault) (go_on : A → Result B StartFault) → IsReason f r → IsReason f (and_start r go_on)
  refused_first fault.Disk r go_on h = tt
  refused_first fault.Foreign r go_on h = ap (λ x. and_start x go_on) h
  refused_first (fault.Damaged offset) r go_on h = ap (λ x. and_start x go_on) h
  refused_first (fault.BadRecord key col) r go_on h = ap (λ x. and_start x go_on) h
  refused_first fault.NotGraph r go_on h = ap (λ x. and_start x go_on) h
  refused_first (fault.BadRecent number) r go_on h = ap (λ x. and_start x go_on) h
  refused_first fault.Memory r go_on h = tt

  -- a source that is refused
  pub source_refused : (events : List Event) (before now : ℕ) (f : StartFault) → ReadSoFar told names o all i events before now → WhereTold told (λ image. IsReason f (events_in_source image names o s))
      → WhereTold told (λ image. IsReason f (events_in_sources image names o all))
  source_refused events before now f so_far bad image h =
      let rest : List Source = drop (i + 1) all in
      let pairs : List (Ends × Event) = bounded (take i all) events in
      let here : IsReason f (and_more image names o rest s (events_in_source image names o s)) =
      refused_first f (events_in_source image names o s)
      (λ events. and_start (events_in_sources image names o rest) (λ more. Ok (map (λ (e : Event). (s.ends, e)) events ++ more))) (bad image h) in
      let whole : IsReason f (onto pairs (and_more image names o rest s (events_in_source image names o s))) =
      refused_first f (and_more image names o rest s (events_in_source image names o s)) (λ (more : List (Ends × Event)). Ok (pairs ++ more)) here in
      subst (λ (r : Result (List (Ends × Event)) StartFault). IsReason f r) (sym (so_far.read image h ∙ ap (onto pairs) (sources_here image))) whole

-- there is no source behind the last
pub past_all : (found : List EventSource) (i : ℕ) → length found ≤ i → length (sources_in found) ≤ i
past_all found i le = omega (arith, le, length-map found source_of)

-- every source was read
module _ (told : Option (List ℕ)) (names : ℕ) (o : Opening) (all : List Source) (i : ℕ) (events : List Event) (before after : ℕ) (so_far : ReadSoFar told names o all i events before after) (past : length all ≤ i) where
  pub all_read : WhereTold told (λ image. events_in_sources image names o all ≡ Ok (bounded all events))
  all_read image h =
      so_far.read image h
      ∙ (λ j. onto (bounded (take_all i all past j) events) (events_in_sources image names o (drop_all i all past j)))
      ∙ ap (λ (ps : List (Ends × Event)). Ok ps) (append-nil (bounded all events))

  pub all_parted : ArePartedBy all events
  all_parted = subst (λ (l : List Source). ArePartedBy l events) (take_all i all past) so_far.parted

  pub all_taken : WhereTold told (λ image. Takes (bytes_in_sources image o all) before after)
  all_taken image h = subst (λ (l : List Source). Takes (bytes_in_sources image o l) before after) (take_all i all past) (so_far.takes image h)

pub added_so : (old more then_events slice : List Event) → then_events ≡ old ++ slice → slice ≡ more → then_events ≡ old ++ more
added_so old more then_events slice is same = is ∙ ap (λ (es : List Event). old ++ es) same

-- what a list of sources has past its end
abbrev pub no_source : EventSource
no_source = record { key = key.List 0; count = 0; ends = record { first = 0; last = 0 } }

-- the four columns come together
pub record_read : (image : List ℕ) (names : ℕ) (o : Opening) (s : Source) (a b c d : List Placed) (events : List Event) → placed_in_record image names o s.key column.Structure ≡ Ok a
    → placed_in_record image names o s.key column.NodeAttr ≡ Ok b → placed_in_record image names o s.key column.EdgeAttr ≡ Ok c → placed_in_record image names o s.key column.Transient ≡ Ok d
    → merged a b c d s.count ≡ Some events → events_in_source image names o s ≡ Ok events
record_read image names o s a b c d events is_a is_b is_c is_d is =
    (λ i. and_start (is_a i) (λ a. and_start (is_b i) (λ b. and_start (is_c i) (λ c. and_start (is_d i) (λ d. merged_or_fault s.key (merged a b c d s.count))))))
    ∙ ap (merged_or_fault s.key) is
