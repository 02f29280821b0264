-- The events of a part may be written where those of the whole may be.
--     rises_of      completions do not fall
--     part_follows, part_is_whole      the events of a part are completions; they have all that those of the whole have
--     none_crowded      where no instant has too many events, none of the events is crowded
use Rattle.std.proofs.Common.{◌≡◌, ℕ, ◌+◌, ◌-◌, ◌<◌, ◌≤◌, Bool, true, false, cond, ◌==◌, ◌&&◌, List, [], ◌∷◌, ◌++◌, Some, get_or, length, take, drop, filter, refl, sym, ap, subst, ◌∙◌, arith, nat_le}
use Rattle.std.specs.List.{All}
use Rattle.std.proofs.lemmas.Bool.{and_from, and_parts, eq-eqb, le-leb, leb-true}
use Rattle.std.proofs.lemmas.List.{take-append-drop}
use Rattle.std.proofs.lemmas.List.Elements.{All-filter}
use Rattle.std.proofs.lemmas.List.Filters.{length-filter_more}
use Rattle.std.proofs.lemmas.Option.{get_or_from_slice_get, slice_get_within}
use Rattle.dg_graph.specs.declared.element.Element.{Element}
use Rattle.dg_graph.specs.declared.event.Event.{Event}
use Rattle.dg_graph.specs.declared.limits.TheConstants.{TIME_MAX}
use Rattle.dg_graph.specs.Completion.{completes, has_key, is_change_of}
use Rattle.dg_graph.specs.Effect.{forwards}
use Rattle.dg_graph.specs.Elements.{IsSet}
use Rattle.dg_graph.proofs.ExactEvents.{IsSet-forwards}
use Rattle.dg_history.specs.EventTimes.{RisesFrom}
use Rattle.dg_part_files.specs.PartFaults.{IsCrowded}
use Rattle.dg_partition.specs.Owners.{belongs, elements_of_part, events_of_part}
use Rattle.dg_partition.proofs.PartChanges.{change_of_part}
use Rattle.dg_partition.proofs.PartCuts.{filter_both_less, filter_less}
use Rattle.dg_partition.proofs.PartReplays.{part_step}
use Rattle.dg_records.specs.EventNames.{BodyHasNamesThere}
use Rattle.dg_sound.specs.OwnEvents.{are_completions}
use Rattle.dg_splitting.specs.WholeHistory.{AreApart, AreWhole}
use Rattle.dg_splitting.proofs.EventCrowds.{count, count_both}

-- ---- completions

pub rises_of : (names : List (List ℕ)) (set : List Element) (t : ℕ) (events : List Event) → are_completions names set t events ≡ true → RisesFrom t events
rises_of names set t [] e = tt
rises_of names set t (x ∷ events) e =
    let a = and_parts (completes names set x.body) _ e in
    let b = and_parts (nat_le t x.time) (are_completions names (forwards set x) x.time events) a.1 in
    (leb-true t x.time b.0, rises_of names (forwards set x) x.time events b.1)

module _ (p i : ℕ) (names : List (List ℕ)) where
  -- the first event is a completion, and those behind it follow in the part
  follow_first : (set : List Element) (u : ℕ) (x : Event) (events : List Event) → IsSet set → completes names set x.body ≡ true → u ≤ x.time
      → ((v : ℕ) → v ≤ x.time → are_completions names (elements_of_part p i (forwards set x)) v (events_of_part p i events) ≡ true)
      → are_completions names (elements_of_part p i set) u (events_of_part p i (x ∷ events)) ≡ true
  follow_first set u x events s is_one le rest = by (belongs p i x) refl
    where
      kept : (has_key names x.body ≡ true) × (is_change_of set x.body ≡ true)
      kept = and_parts (has_key names x.body) (is_change_of set x.body) is_one

      by : (b : Bool) → belongs p i x ≡ b → are_completions names (elements_of_part p i set) u (cond (belongs p i x) (x ∷ events_of_part p i events) (events_of_part p i events)) ≡ true
      by true is =
          ap (λ b. are_completions names (elements_of_part p i set) u (cond b (x ∷ events_of_part p i events) (events_of_part p i events))) is
          ∙ and_from (completes names (elements_of_part p i set) x.body) _
          (and_from (has_key names x.body) _ kept.0 (change_of_part p i set x.body is kept.1))
          (and_from (nat_le u x.time) _ (le-leb u x.time le)
          (ap (λ (l : List Element). are_completions names l x.time (events_of_part p i events)) (sym (part_step p i true set x is s)) ∙ rest x.time (omega arith)))
      by false is =
          ap (λ b. are_completions names (elements_of_part p i set) u (cond b (x ∷ events_of_part p i events) (events_of_part p i events))) is
          ∙ ap (λ (l : List Element). are_completions names l u (events_of_part p i events)) (sym (part_step p i false set x is s))
          ∙ rest u le

  follow_on : (set : List Element) (t u : ℕ) (events : List Event) → IsSet set → u ≤ t → are_completions names set t events ≡ true
      → are_completions names (elements_of_part p i set) u (events_of_part p i events) ≡ true
  follow_on set t u [] s le e = refl
  follow_on set t u (x ∷ events) s le e =
      let first = and_parts (completes names set x.body) _ e in
      let more = and_parts (nat_le t x.time) (are_completions names (forwards set x) x.time events) first.1 in
      follow_first set u x events s first.0 (omega (arith, le, leb-true t x.time more.0))
      (λ v below. follow_on (forwards set x) x.time v events (IsSet-forwards set x s) below more.1)

  part_follows : (events : List Event) → are_completions names [] 0 events ≡ true → are_completions names [] 0 (events_of_part p i events) ≡ true
  part_follows events e = follow_on [] 0 0 events tt (omega arith) e

  -- ---- all that is known of the events

  pub part_is_whole : (events : List Event) → AreWhole names events → AreWhole names (events_of_part p i events)
  part_is_whole events w = record {
    follow = part_follows events w.follow;
    named = All-filter (belongs p i) (λ (e : Event). BodyHasNamesThere (length names) e.body) events w.named;
    timed = All-filter (belongs p i) (λ (e : Event). e.time ≤ TIME_MAX) events w.timed;
    few = omega (arith, w.few, filter_less (belongs p i) events);
    apart = λ t. omega (arith, w.apart t, filter_both_less (λ (e : Event). e.time == t) (belongs p i) events);
  }

-- ---- none is crowded

pub none_crowded : (events : List Event) (number : ℕ) → AreApart events → IsCrowded events number → ⊥
none_crowded events number apart c =
    let t = c.event.time in
    let n = number - 1 in
    let lt : number - 1 < length events = slice_get_within events (number - 1) c.event c.there in
    let here = get_or_from_slice_get events (number - 1) c.event c.event c.there in
    let is : (c.event.time == c.event.time) ≡ true = eq-eqb c.event.time c.event.time refl in
    let one = length-filter_more (λ (e : Event). e.time == c.event.time) events (number - 1) c.event lt in
    let passes : cond ((λ (e : Event). e.time == c.event.time) (get_or events (number - 1) c.event)) 1 0 ≡ 1 = ap {B = ℕ} (λ (e : Event). cond (e.time == c.event.time) 1 0) here ∙ ap {B = ℕ} (λ b. cond b 1 0) is in
    let all = count_both t (take (number - 1 + 1) events) (drop (number - 1 + 1) events) in
    let whole = ap (count t) (take-append-drop (number - 1 + 1) events) in
    omega (arith, apart t, one, passes, all, whole, c.crowd)
