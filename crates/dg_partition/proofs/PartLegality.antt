-- The parts of a legal history are legal.
--     cuts_are_legal, cuts_are_whole      batches that are cut greedily
--     legal_part      a part of a legal history
use Rattle.std.proofs.Common.{◌≡◌, ℕ, zero, suc, ◌+◌, ◌-◌, ◌≤◌, ◌<◌, ◌⊎◌, inl, inr, Bool, true, false, cond, ◌==◌, List, [], ◌∷◌, ◌++◌, Some, Ok, Err, Result, length, map, take, drop, refl, sym, ap, subst, ◌∙◌, arith}
use Rattle.std.specs.Prelude.{All, IsTrue}
use Rattle.std.proofs.lemmas.Bool.{eqb-true, le-ltb}
use Rattle.std.proofs.lemmas.List.{length-take-le, length-drop, take-append-drop}
use Rattle.std.proofs.lemmas.List.Elements.{All-drop, All-filter, All-take}
use Rattle.dg_text.specs.Names.{are_new}
use Rattle.dg_text.specs.declared.limits.TheConstants.{NAMES_MAX}
use Rattle.dg_graph.specs.declared.element.Element.{Element}
use Rattle.dg_graph.specs.declared.event.Body.{Body}
use Rattle.dg_graph.specs.declared.event.Change.{Change}
use Rattle.dg_graph.specs.declared.event.Event.{Event}
use Rattle.dg_graph.specs.declared.event.TheConstants.{REASON_TIME}
use Rattle.dg_graph.specs.CompletedChanges.{completed, event_of, go_on, on_value}
use Rattle.dg_graph.specs.Completion.{has_key}
use Rattle.dg_graph.specs.Effect.{forwards}
use Rattle.dg_graph.specs.MadeByChanges.{AreMadeByChanges}
use Rattle.dg_graph.specs.Replay.{replay}
use Rattle.dg_graph.proofs.Completions.{made_before, made_behind}
use Rattle.dg_graph.proofs.ExactEvents.{replay_append}
use Rattle.dg_history.specs.declared.form.Form.TheVariants as form
use Rattle.dg_history.specs.declared.limits.TheConstants.{BATCH_LINES_MAX, EVENTS_MAX}
use Rattle.dg_history.specs.EventTimes.{RisesFrom}
use Rattle.dg_history.specs.History.{Batch, History, earliest_next, events_of, last_time_from, names_of, span_of}
use Rattle.dg_history.specs.LegalHistory.{AreLegalAfter, FitsEvent, IsLegal}
use Rattle.dg_history.proofs.EventTimes.{earliest_behind, last_some, rises_join, rises_later, rises_parts}
use Rattle.dg_history.proofs.LegalHistories.{all_fit, all_keys, batch_rises, events_among, events_made, events_rise, names_among}
use Rattle.dg_sound_files.proofs.CompletedChangeEvents.{made}
use Rattle.dg_partition.specs.Cuts.{cut, cut_of}
use Rattle.dg_partition.specs.HistoryParts.{batches_of, cut_batches, part_of}
use Rattle.dg_partition.specs.Owners.{belongs, events_of_part}
use Rattle.dg_partition.proofs.PartChanges.{part_is_made}
use Rattle.dg_partition.proofs.PartCuts.{Uncrowded, at_time, filter_both_less, filter_drop_less, filter_less, later_rises, next_cut, split}

-- ---- the changes of events that are changes one after another

begins_from : (earliest t : ℕ) (set : List Element) (x : Event) → earliest ≤ x.time → AreMadeByChanges set (x ∷ []) → (c : Change) × (event_of earliest set c ≡ Ok x)
begins_from earliest t set x le is =
    let w = made set x.body is.0 in (
      record { time = x.time; what = w.0 },
      λ i. cond (le-ltb x.time earliest le i) (Err REASON_TIME) (on_value (λ (b : Body). record { time = x.time; body = b }) (w.1 i)),
    )

changes_made : (n earliest : ℕ) (set : List Element) (events : List Event) → RisesFrom earliest events → AreMadeByChanges set events
    → (changes : List Change) × (completed n earliest set (map (λ (c : Change). Some c) changes) ≡ Ok events)
changes_made n earliest set [] rises is = ([], refl)
changes_made n earliest set (x ∷ events) rises is =
    let c = begins_from earliest earliest set x rises.0 (is.0, tt) in
    let more = changes_made (n + 1) x.time (forwards set x) events rises.1 is.1 in
    let rest : Event → Result (List Event) (ℕ × ℕ) = λ e. completed (n + 1) e.time (forwards set e) (map (λ (c : Change). Some c) more.0) in
    (c.0 ∷ more.0, ap (go_on n rest) c.1 ∙ ap (on_value (λ (l : List Event). x ∷ l)) more.1)

-- ---- no instant of a legal history has more events than a batch

none_before : (t f : ℕ) (events : List Event) → RisesFrom f events → t < f → length (at_time t events) ≡ 0
none_before t f [] rises le = refl
none_before t f (e ∷ events) rises le = by (e.time == t) refl (none_before t e.time events rises.1 (omega (arith, le, rises.0)))
  where
    by : (b : Bool) → (e.time == t) ≡ b → length (at_time t events) ≡ 0 → length (cond (e.time == t) (e ∷ at_time t events) (at_time t events)) ≡ 0
    by true is rest = let same : e.time ≡ t = eqb-true e.time t is in absurd (omega (arith, le, rises.0, same))
    by false is rest = ap (λ b. length (cond b (e ∷ at_time t events) (at_time t events))) is ∙ rest

last_from : (f : ℕ) (events : List Event) → RisesFrom f events → f ≤ last_time_from f events
last_from f [] rises = omega arith
last_from f (e ∷ events) rises = omega (arith, rises.0, last_from e.time events rises.1)

none_behind : (t f : ℕ) (events : List Event) → RisesFrom f events → last_time_from f events < t → length (at_time t events) ≡ 0
none_behind t f [] rises le = refl
none_behind t f (e ∷ events) rises le = by (e.time == t) refl (none_behind t e.time events rises.1 le)
  where
    by : (b : Bool) → (e.time == t) ≡ b → length (at_time t events) ≡ 0 → length (cond (e.time == t) (e ∷ at_time t events) (at_time t events)) ≡ 0
    by true is rest = let same : e.time ≡ t = eqb-true e.time t is in absurd (omega (arith, le, same, last_from e.time events rises.1))
    by false is rest = ap (λ b. length (cond b (e ∷ at_time t events) (at_time t events))) is ∙ rest

at_time_append : (t : ℕ) (xs ys : List Event) → length (at_time t (xs ++ ys)) ≡ length (at_time t xs) + length (at_time t ys)
at_time_append t [] ys = omega arith
at_time_append t (x ∷ xs) ys = by (x.time == t) (at_time_append t xs ys)
  where
    by : (b : Bool) → length (at_time t (xs ++ ys)) ≡ length (at_time t xs) + length (at_time t ys)
        → length (cond b (x ∷ at_time t (xs ++ ys)) (at_time t (xs ++ ys))) ≡ length (cond b (x ∷ at_time t xs) (at_time t xs)) + length (at_time t ys)
    by true rest = omega (arith, rest)
    by false rest = rest

among_rise : (names : List (List ℕ)) (before : List Event) (batches : List Batch) → AreLegalAfter names before batches → RisesFrom (earliest_next (span_of before)) (events_among batches)
among_rise names before [] l = tt
among_rise names before (b ∷ batches) l =
    let here = batch_rises names before b l.0 in
    let next = among_rise names (before ++ b.events) batches l.1 in
    let behind = earliest_behind before b.events l.0.some in
    let last = last_some 0 (earliest_next (span_of before)) b.events l.0.some in
    rises_join (earliest_next (span_of before)) b.events (events_among batches) here
    (rises_later (last_time_from (earliest_next (span_of before)) b.events) (earliest_next (span_of (before ++ b.events))) (events_among batches) (omega (arith, behind, last)) next)

among_uncrowded : (names : List (List ℕ)) (before : List Event) (batches : List Batch) → AreLegalAfter names before batches → Uncrowded (events_among batches)
among_uncrowded names before [] l t = omega arith
among_uncrowded names before (b ∷ batches) l t = by (split t (last_time_from 0 b.events)) (among_uncrowded names (before ++ b.events) batches l.1 t)
  where
    by : (t ≤ last_time_from 0 b.events) ⊎ (last_time_from 0 b.events < t) → length (at_time t (events_among batches)) ≤ BATCH_LINES_MAX → length (at_time t (b.events ++ events_among batches)) ≤ BATCH_LINES_MAX
    by (inl early) rest =
        let next = among_rise names (before ++ b.events) batches l.1 in
        let behind = earliest_behind before b.events l.0.some in
        let none = none_before t (earliest_next (span_of (before ++ b.events))) (events_among batches) next (omega (arith, early, behind)) in
        omega (arith, none, at_time_append t b.events (events_among batches), l.0.few, filter_less (λ (e : Event). e.time == t) b.events)
    by (inr late) rest =
        let here = batch_rises names before b l.0 in
        let last = last_some 0 (earliest_next (span_of before)) b.events l.0.some in
        let none = none_behind t (earliest_next (span_of before)) b.events here (omega (arith, late, last)) in
        omega (arith, none, at_time_append t b.events (events_among batches), rest)

-- ---- batches that are cut greedily

-- the first event is the least
own_floor : (f : ℕ) (e : Event) (events : List Event) → RisesFrom f (e ∷ events) → RisesFrom e.time events
own_floor f e events rises = rises.1

cuts_are_legal : (names first : List (List ℕ)) (most : ℕ) (before events : List Event) → length events ≤ most
    → AreMadeByChanges (replay before) events → RisesFrom (earliest_next (span_of before)) events → Uncrowded events
    → All (FitsEvent (length names)) events → All (λ (e : Event). IsTrue (has_key names e.body)) events
    → AreLegalAfter names before (batches_of first (cut most events))
cuts_are_legal names first zero before [] le is rises apart fits keys = tt
cuts_are_legal names first (suc most) before [] le is rises apart fits keys = tt
cuts_are_legal names first zero before (e ∷ events) le is rises apart fits keys = absurd (omega (arith, le))
cuts_are_legal names first (suc most) before (e ∷ events) le is rises apart fits keys =
    let all = e ∷ events in
    let n = cut_of all in
    let c = next_cut e events rises.1 apart in
    let front = take n all in
    let back = drop n all in
    let both : front ++ back ≡ all = take-append-drop n all in
    let long : length front ≡ n = length-take-le n all c.within in
    let left : length back ≡ length all - n = length-drop n all in
    let parts = rises_parts (earliest_next (span_of before)) front back (subst (RisesFrom (earliest_next (span_of before))) (sym both) rises) in
    let made_all = subst (AreMadeByChanges (replay before)) (sym both) is in
    let changes = changes_made 1 (earliest_next (span_of before)) (replay before) front parts.0 (made_before (replay before) front back made_all) in
    let some : 1 ≤ length front = omega (arith, long, c.some) in
    let last = last_some (earliest_next (span_of before)) 0 front some in
    let later : RisesFrom (earliest_next (span_of (before ++ front))) back =
    subst (λ t. RisesFrom t back) (sym (earliest_behind before front some)) (later_rises (last_time_from 0 front) back (subst (λ t. RisesFrom t back) last parts.1) c.ends) in
    let made_later : AreMadeByChanges (replay (before ++ front)) back =
    subst (λ s. AreMadeByChanges s back) (sym (replay_append [] before front)) (made_behind (replay before) front back made_all) in (
      record {
        some = some;
        few = omega (arith, long, c.few);
        changes = changes.0;
        comes = changes.1;
        fits = All-take (FitsEvent (length names)) n all fits;
        keys = All-take (λ (e : Event). IsTrue (has_key names e.body)) n all keys;
      },
      cuts_are_legal names [] most (before ++ front) back (omega (arith, left, c.some, le)) made_later later
          (λ t. omega (arith, apart t, filter_drop_less (λ (x : Event). x.time == t) n all))
          (All-drop (FitsEvent (length names)) n all fits) (All-drop (λ (e : Event). IsTrue (has_key names e.body)) n all keys),
    )

-- nothing is lost by cutting
pub cuts_are_whole : (first : List (List ℕ)) (most : ℕ) (t : ℕ) (events : List Event) → length events ≤ most → RisesFrom t events → Uncrowded events
    → events_among (batches_of first (cut most events)) ≡ events
cuts_are_whole first zero t [] le rises apart = refl
cuts_are_whole first (suc most) t [] le rises apart = refl
cuts_are_whole first zero t (e ∷ events) le rises apart = absurd (omega (arith, le))
cuts_are_whole first (suc most) t (e ∷ events) le rises apart =
    let all = e ∷ events in
    let n = cut_of all in
    let c = next_cut e events rises.1 apart in
    let both : take n all ++ drop n all ≡ all = take-append-drop n all in
    let left : length (drop n all) ≡ length all - n = length-drop n all in
    let parts = rises_parts t (take n all) (drop n all) (subst (RisesFrom t) (sym both) rises) in
    let rest = cuts_are_whole [] most (last_time_from t (take n all)) (drop n all) (omega (arith, left, c.some, le)) parts.1
    (λ t. omega (arith, apart t, filter_drop_less (λ (x : Event). x.time == t) n all)) in
    ap (λ l. take n all ++ l) rest ∙ both

no_names : (more : List (List Event)) → names_among (batches_of [] more) ≡ []
no_names [] = refl
no_names (events ∷ more) = no_names more

-- all names are those of the first batch
names_of_cuts : (names : List (List ℕ)) (e : Event) (events : List Event) → names_among (cut_batches names (e ∷ events)) ≡ names
names_of_cuts names e events =
    let n = cut_of (e ∷ events) in
    ap (λ l. names ++ l) (no_names (cut (length events) (drop n (e ∷ events)))) ∙ append_nil names
  where
    append_nil : (l : List (List ℕ)) → l ++ [] ≡ l
    append_nil [] = refl
    append_nil (x ∷ l) = ap (λ m. x ∷ m) (append_nil l)

-- ---- a part

pub rises_in_part : (p i t : ℕ) (events : List Event) → RisesFrom t events → RisesFrom t (events_of_part p i events)
rises_in_part p i t [] rises = tt
rises_in_part p i t (e ∷ events) rises = by (belongs p i e) (rises_in_part p i e.time events rises.1)
  where
    by : (b : Bool) → RisesFrom e.time (events_of_part p i events) → RisesFrom t (cond b (e ∷ events_of_part p i events) (events_of_part p i events))
    by true rest = (rises.0, rest)
    by false rest = rises_later t e.time (events_of_part p i events) rises.0 rest

pub uncrowded : (z : History) → IsLegal z → Uncrowded (events_of z)
uncrowded z legal = among_uncrowded (names_of z) [] z.batches legal.batches

-- some events of a legal history, cut anew with all its names, are a legal history, where they are changes one after another
pub legal_cut : (z : History) → IsLegal z → (events : List Event) → AreMadeByChanges [] events → RisesFrom 0 events → Uncrowded events
    → All (FitsEvent (length (names_of z))) events → All (λ (e : Event). IsTrue (has_key (names_of z) e.body)) events → length events ≤ EVENTS_MAX
    → IsLegal (record { params = z.params; form = form.Two; batches = cut_batches (names_of z) events })
legal_cut z legal [] is rises apart fits keys few =
    record { parameters = legal.parameters; function = legal.function; form = refl; silent = refl; batches = tt; names = refl; few_names = omega arith; few = omega arith }
legal_cut z legal (e ∷ events) is rises apart fits keys few =
    let names = names_of z in
    let all = e ∷ events in
    let same = names_of_cuts names e events in
    let whole = cuts_are_whole names (length all) 0 all (omega arith) rises apart in
    record {
      parameters = legal.parameters;
      function = legal.function;
      form = refl;
      silent = refl;
      batches = subst (λ (ns : List (List ℕ)). AreLegalAfter ns [] (cut_batches names all)) (sym same) (cuts_are_legal names names (length all) [] all (omega arith) is rises apart fits keys);
      names = subst (λ (ns : List (List ℕ)). are_new [] ns ≡ true) (sym same) legal.names;
      few_names = subst (λ (ns : List (List ℕ)). length ns ≤ NAMES_MAX) (sym same) legal.few_names;
      few = subst (λ (es : List Event). length es ≤ EVENTS_MAX) (sym whole) few;
    }

uncrowded_part : (p i : ℕ) (z : History) → IsLegal z → Uncrowded (events_of_part p i (events_of z))
uncrowded_part p i z legal t = omega (arith, uncrowded z legal t, filter_both_less (λ (e : Event). e.time == t) (belongs p i) (events_of z))

pub legal_part : (p i : ℕ) (z : History) → IsLegal z → IsLegal (part_of z i p)
legal_part p i z legal =
    legal_cut z legal (events_of_part p i (events_of z)) (part_is_made p i [] (events_of z) tt (events_made z legal))
    (rises_in_part p i 0 (events_of z) (events_rise z legal)) (uncrowded_part p i z legal)
    (All-filter (belongs p i) (FitsEvent (length (names_of z))) (events_of z) (all_fit (names_of z) [] z.batches legal.batches))
    (All-filter (belongs p i) (λ (e : Event). IsTrue (has_key (names_of z) e.body)) (events_of z) (all_keys (names_of z) [] z.batches legal.batches))
    (omega (arith, legal.few, filter_less (belongs p i) (events_of z)))

pub events_of_cuts : (p i : ℕ) (z : History) → IsLegal z → events_of (part_of z i p) ≡ events_of_part p i (events_of z)
events_of_cuts p i z legal =
    cuts_are_whole (names_of z) (length (events_of_part p i (events_of z))) 0 (events_of_part p i (events_of z)) (omega arith)
    (rises_in_part p i 0 (events_of z) (events_rise z legal)) (uncrowded_part p i z legal)
