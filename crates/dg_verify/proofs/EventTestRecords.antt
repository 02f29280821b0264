-- The records of the events that were read, and what is known once these are tested.
use Rattle.std.proofs.Common.{◌≡◌, ℕ, ◌+◌, ◌<◌, ◌≤◌, Bool, true, false, ◌&&◌, cond, List, [], ◌∷◌, ◌++◌, Option, Some, None, Result, Ok, Err, is_some, length, refl, sym, ◌∙◌, ap, subst, arith, length-append}
use Rattle.std.specs.Prelude.{nat_lt}
use Rattle.std.specs.List.{All}
use Rattle.std.proofs.lemmas.Bool.{lt-ltb, le-ltb, ltb-true, ltb-false}
use Rattle.std.proofs.lemmas.List.Elements.{All-append}
use Rattle.dg_columns.specs.NamesInRange.{NamesFit}
use Rattle.dg_graph.specs.declared.element.Column.{Column}
use Rattle.dg_graph.specs.declared.element.Column.TheVariants as column
use Rattle.dg_graph.specs.declared.event.Event.{Event}
use Rattle.dg_graph.specs.declared.limits.TheConstants.{TIME_MAX}
use Rattle.dg_graph.specs.Replay.{replay}
use Rattle.dg_graph.specs.MadeByChanges.{AreMadeByChanges}
use Rattle.dg_history.specs.declared.node.Key.{Key}
use Rattle.dg_history.specs.History.{last_time_from}
use Rattle.dg_records.specs.EventNames.{BodyHasNamesThere, EventNamesAreThere}
use Rattle.dg_sound.specs.OwnEvents.{and_own, are_completions, events_may_follow, if_right, with_record}
use Rattle.dg_verify.specs.declared.own_events.OwnEvents.{OwnEvents}
use Rattle.dg_verify.specs.declared.own_events.ReadRecord.{ReadRecord}
use Rattle.dg_verify.specs.declared.stop.Stop.{Stop}
use Rattle.dg_verify.specs.declared.stop.Stop.TheVariants as stop
use Rattle.dg_verify.specs.EventTests.{AreRecorded, IsRead, IsStopBehind, IsUnfit, first_unfit, followed, key_at, tested, unless}
use Rattle.dg_verify.specs.Verification.{IsStop}
use Rattle.dg_verify.proofs.EventTestCompletions.{all_right, at_most, made_so, more_followed, same_followed, some_wrong}

-- ---- what follows behind them

-- what comes after the rest comes after all
pub tested_then : {A B : Type 0} (names : List (List ℕ)) (own : OwnEvents) (r : Result A (Key × Column)) (next : A → Result B (Key × Column))
    → and_own (tested names own r) next ≡ tested names own (and_own r next)
tested_then names own r next = by (first_unfit names own)
  where
    by : (u : Option Key) → and_own (unless u r) next ≡ unless u (and_own r next)
    by None = refl
    by (Some k) = refl

-- behind the first records and then others
pub then_behind : (names : List (List ℕ)) (own after : OwnEvents) (r : Result (List Event) (Key × Column)) (next : List Event → Result (List Event) (Key × Column))
    → tested names own r ≡ tested names after (Ok after.events.items) → tested names own (and_own r next) ≡ tested names after (next after.events.items)
then_behind names own after r next is =
    sym (tested_then names own r next) ∙ ap (λ t. and_own t next) is ∙ tested_then names after (Ok after.events.items) next

-- what stops the first records stops what comes after them
pub stops_on : (s : Stop) (names : List (List ℕ)) (own after : OwnEvents) (r : Result (List Event) (Key × Column)) (next : List Event → Result (List Event) (Key × Column))
    → IsStopBehind names after s (tested names own r) → IsStopBehind names after s (tested names own (and_own r next))
stops_on (stop.Wrong k col) names own after r next h =
    sym (tested_then names own r next) ∙ ap (λ t. and_own t next) h ∙ tested_then names after (Err (k, col)) next
stops_on stop.Disk names own after r next h = tt
stops_on stop.Memory names own after r next h = tt

-- what stops a record that is read behind the events
pub stops_behind : {A : Type 0} (s : Stop) (names : List (List ℕ)) (own : OwnEvents) (r : Result A (Key × Column)) → IsStop s r → IsStopBehind names own s (tested names own r)
stops_behind (stop.Wrong k col) names own r h = ap (tested names own) h
stops_behind stop.Disk names own r h = tt
stops_behind stop.Memory names own r h = tt

-- an event may not stand there
pub unfit_stops : {A : Type 0} (s : Stop) (names : List (List ℕ)) (own : OwnEvents) (r : Result A (Key × Column)) → IsUnfit s (first_unfit names own) → IsStop s (tested names own r)
unfit_stops (stop.Wrong k col) names own r h = (λ j. unless (h.0 j) r) ∙ ap (λ c. Err (k, c)) (sym h.1)
unfit_stops stop.Disk names own r h = tt
unfit_stops stop.Memory names own r h = tt

pub stops_so : {A : Type 0} (s : Stop) (names : List (List ℕ)) (own : OwnEvents) (r due : Result A (Key × Column)) → r ≡ due → IsStopBehind names own s r → IsStopBehind names own s due
stops_so s names own r due same h = subst (λ t. IsStopBehind names own s t) same h

-- ---- the records

at_more : (records : List ReadRecord) (r : ReadRecord) (i : ℕ) → is_some (key_at records i) ≡ true → key_at (records ++ r ∷ []) i ≡ key_at records i
at_more [] r i h = cc
at_more (x ∷ records) r i h = by (nat_lt i x.end) (at_more records r i) h
  where
    by : (t : Bool) → (is_some (key_at records i) ≡ true → key_at (records ++ r ∷ []) i ≡ key_at records i)
        → is_some (cond t (Some x.key) (key_at records i)) ≡ true → cond t (Some x.key) (key_at (records ++ r ∷ []) i) ≡ cond t (Some x.key) (key_at records i)
    by true later h = refl
    by false later h = later h

at_last : (records : List ReadRecord) (r : ReadRecord) (i : ℕ) → key_at records i ≡ None → key_at (records ++ r ∷ []) i ≡ cond (nat_lt i r.end) (Some r.key) None
at_last [] r i h = refl
at_last (x ∷ records) r i h = by (nat_lt i x.end) (at_last records r i) h
  where
    by : (t : Bool) → (key_at records i ≡ None → key_at (records ++ r ∷ []) i ≡ cond (nat_lt i r.end) (Some r.key) None)
        → cond t (Some x.key) (key_at records i) ≡ None → cond t (Some x.key) (key_at (records ++ r ∷ []) i) ≡ cond (nat_lt i r.end) (Some r.key) None
    by true later h = cc
    by false later h = later h

-- no event was read
pub none_unfit : (names : List (List ℕ)) (own : OwnEvents) → IsRead (length names) own → own.events.items ≡ [] → first_unfit names own ≡ None
none_unfit names own read none =
    ap (λ (es : List Event). key_at own.records.items (followed names [] 0 es)) none
    ∙ read.stand.none_behind 0 (omega (arith, ap length none))

no_key : (o : Option Key) (a b : ℕ) → o ≡ None → is_some o ≡ true → a ≡ b
no_key None a b none some = cc
no_key (Some k) a b none some = cc

-- all may follow one another
module _ (names : List (List ℕ)) (own : OwnEvents) (read : IsRead (length names) own) (fit : first_unfit names own ≡ None) where
  all_followed : followed names [] 0 own.events.items ≡ length own.events.items
  all_followed = by (nat_lt (followed names [] 0 own.events.items) (length own.events.items)) refl
    where
      by : (t : Bool) → nat_lt (followed names [] 0 own.events.items) (length own.events.items) ≡ t → followed names [] 0 own.events.items ≡ length own.events.items
      by true e =
          no_key (first_unfit names own) (followed names [] 0 own.events.items) (length own.events.items) fit
          (read.stand.recorded (followed names [] 0 own.events.items) (ltb-true (followed names [] 0 own.events.items) (length own.events.items) e))
      by false e = omega (arith, at_most names [] 0 own.events.items, ltb-false (followed names [] 0 own.events.items) (length own.events.items) e)

  pub all_complete : are_completions names [] 0 own.events.items ≡ true
  all_complete = all_right names [] 0 own.events.items all_followed

  pub are_made : AreMadeByChanges [] own.events.items
  are_made = made_so names [] 0 own.events.items all_complete

  pub all_tested : {A : Type 0} (r : Result A (Key × Column)) → tested names own r ≡ r
  all_tested r = ap (λ u. unless u r) fit

-- ---- one more record

abbrev pub record_of : Key → ℕ → ReadRecord
record_of k end = record { key = k; end = end }

module _ (own after : OwnEvents) (k : Key) (events : List Event) (stand : AreRecorded own)
    (added : after.events.items ≡ own.events.items ++ events)
    (recorded : after.records.items ≡ own.records.items ++ record_of k (length after.events.items) ∷ []) where
  longer : length after.events.items ≡ length own.events.items + length events
  longer = ap length added ∙ length-append own.events.items events

  here_more : (i : ℕ) → i < length own.events.items → key_at after.records.items i ≡ key_at own.records.items i
  here_more i lt =
      ap (λ (rs : List ReadRecord). key_at rs i) recorded
      ∙ at_more own.records.items (record_of k (length after.events.items)) i (stand.recorded i lt)

  here_last : (i : ℕ) → length own.events.items ≤ i → key_at after.records.items i ≡ cond (nat_lt i (length after.events.items)) (Some k) None
  here_last i le =
      ap (λ (rs : List ReadRecord). key_at rs i) recorded
      ∙ at_last own.records.items (record_of k (length after.events.items)) i (stand.none_behind i le)

  last_key : (i : ℕ) → length own.events.items ≤ i → i < length after.events.items → key_at after.records.items i ≡ Some k
  last_key i le lt = here_last i le ∙ ap (λ b. cond b (Some k) None) (lt-ltb i (length after.events.items) lt)

  pub none_after : (i : ℕ) → length after.events.items ≤ i → key_at after.records.items i ≡ None
  none_after i le =
      here_last i (omega (arith, le, longer)) ∙ ap (λ b. cond b (Some k) None) (le-ltb i (length after.events.items) le)

  some_after : (i : ℕ) → i < length after.events.items → is_some (key_at after.records.items i) ≡ true
  some_after i lt = by (nat_lt i (length own.events.items)) refl
    where
      by : (t : Bool) → nat_lt i (length own.events.items) ≡ t → is_some (key_at after.records.items i) ≡ true
      by true e =
          let within = ltb-true i (length own.events.items) e in
          ap is_some (here_more i within) ∙ stand.recorded i within
      by false e = ap is_some (last_key i (ltb-false i (length own.events.items) e) lt)

  all_more : (P : Event → Type 0) → All P own.events.items → All P events → All P after.events.items
  all_more P old more = subst (All P) (sym added) (All-append P own.events.items events old more)

  pub read_more : (name_count : ℕ) → IsRead name_count own → All (λ (e : Event). NamesFit e.body) events → EventNamesAreThere name_count events → All (λ (e : Event). e.time ≤ TIME_MAX) events
      → IsRead name_count after
  read_more name_count read are named timed = record {
    stand = record { recorded = some_after; none_behind = none_after };
    fit = all_more (λ (e : Event). NamesFit e.body) read.fit are;
    named = all_more (λ (e : Event). BodyHasNamesThere name_count e.body) read.named named;
    timed = all_more (λ (e : Event). e.time ≤ TIME_MAX) read.timed timed;
  }

  module _ (names : List (List ℕ)) (right : List Event → Bool) where
    abbrev front : ℕ
    front = followed names [] 0 own.events.items

    abbrev more : ℕ
    more = followed names (replay own.events.items) (last_time_from 0 own.events.items) events

    before_it : front < length own.events.items → first_unfit names after ≡ first_unfit names own
    before_it lt =
        ap (λ (es : List Event). key_at after.records.items (followed names [] 0 es)) added
        ∙ ap (key_at after.records.items) (same_followed names [] 0 own.events.items events lt)
        ∙ here_more front lt

    here_unfit : front ≡ length own.events.items → first_unfit names after ≡ key_at after.records.items (length own.events.items + more)
    here_unfit all =
        ap (λ (es : List Event). key_at after.records.items (followed names [] 0 es)) added
        ∙ ap (key_at after.records.items) (more_followed names [] 0 own.events.items events all)

    front_fits : front ≡ length own.events.items → first_unfit names own ≡ None
    front_fits all = stand.none_behind front (omega (arith, all))

    if_all : (a b : Bool) → b ≡ true → if_right (a && b) k (own.events.items ++ events) ≡ if_right a k after.events.items
    if_all true b h = (λ i. if_right (h i) k (sym added i))
    if_all false b h = refl

    if_some : (a b : Bool) → b ≡ false → if_right (a && b) k (own.events.items ++ events) ≡ Err (k, column.Structure)
    if_some true b h = ap (λ c. if_right c k (own.events.items ++ events)) h
    if_some false b h = refl

    of_some : (o : Option Key) (x y : Result (List Event) (Key × Column)) → is_some o ≡ true → unless o x ≡ unless o y
    of_some None x y h = cc
    of_some (Some wrong) x y h = refl

    -- the events of the record behind those before it, tested before or after
    pub one_record : tested names own (with_record names k right own.events.items (Ok events)) ≡ tested names after (if_right (right events) k after.events.items)
    one_record = by (nat_lt front (length own.events.items)) refl
      where
        rest : (t : Bool) → nat_lt more (length events) ≡ t → front ≡ length own.events.items
            → if_right (right events && events_may_follow names own.events.items events) k (own.events.items ++ events) ≡ tested names after (if_right (right events) k after.events.items)
        rest true e all =
            let lt = ltb-true more (length events) e in
            if_some (right events) (events_may_follow names own.events.items events) (some_wrong names (replay own.events.items) (last_time_from 0 own.events.items) events lt)
            ∙ sym (ap (λ u. unless u (if_right (right events) k after.events.items))
            (here_unfit all ∙ last_key (length own.events.items + more) (omega arith) (omega (arith, lt, longer))))
        rest false e all =
            let most = at_most names (replay own.events.items) (last_time_from 0 own.events.items) events in
            let full : more ≡ length events = omega (arith, most, ltb-false more (length events) e) in
            if_all (right events) (events_may_follow names own.events.items events) (all_right names (replay own.events.items) (last_time_from 0 own.events.items) events full)
            ∙ sym (ap (λ u. unless u (if_right (right events) k after.events.items))
            (here_unfit all ∙ none_after (length own.events.items + more) (omega (arith, full, longer))))

        by : (t : Bool) → nat_lt front (length own.events.items) ≡ t
            → tested names own (with_record names k right own.events.items (Ok events)) ≡ tested names after (if_right (right events) k after.events.items)
        by true e =
            let lt = ltb-true front (length own.events.items) e in
            of_some (first_unfit names own) (with_record names k right own.events.items (Ok events)) (if_right (right events) k after.events.items) (stand.recorded front lt)
            ∙ ap (λ u. unless u (if_right (right events) k after.events.items)) (sym (before_it lt))
        by false e =
            let all : front ≡ length own.events.items = omega (arith, at_most names [] 0 own.events.items, ltb-false front (length own.events.items) e) in
            ap (λ u. unless u (with_record names k right own.events.items (Ok events))) (front_fits all)
            ∙ rest (nat_lt more (length events)) refl all

-- the events were read of a record, and what is asked of them beside is known
pub read_behind : (names : List (List ℕ)) (own after : OwnEvents) (k : Key) (right : List Event → Bool) (events : List Event) (found : Result (List Event) Column) (b : Bool)
    → found ≡ Ok events → tested names own (with_record names k right own.events.items (Ok events)) ≡ tested names after (if_right (right events) k after.events.items)
    → right events ≡ b → tested names own (with_record names k right own.events.items found) ≡ tested names after (if_right b k after.events.items)
read_behind names own after k right events found b is behind asked =
    ap (λ (r : Result (List Event) Column). tested names own (with_record names k right own.events.items r)) is ∙ behind
    ∙ ap (λ t. tested names after (if_right t k after.events.items)) asked
