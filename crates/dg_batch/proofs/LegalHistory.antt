-- A legal history with the next batch is legal.
use Rattle.std.proofs.Common.{◌≡◌, ℕ, zero, suc, ◌+◌, ◌<◌, ◌≤◌, ◌^◌, Bool, true, false, not, ◌&&◌, List, [], ◌∷◌, ◌++◌, Option, Some, None, Ok, length, take, drop, get_or, nat_le, refl, sym, ◌∙◌, ap, subst, arith, append_assoc, length-append}
use Rattle.std.specs.Prelude.{IfSome}
use Rattle.std.specs.List.{All, flat_map}
use Rattle.std.proofs.lemmas.Bool.{and_from, and_parts, le-leb, leb-true}
use Rattle.std.proofs.lemmas.Grind.{flat_map-append}
use Rattle.std.proofs.lemmas.List.{append-nil}
use Rattle.std.proofs.lemmas.List.Elements.{All-nil}
use Rattle.dg_graph.specs.declared.element.Element.{Element}
use Rattle.dg_graph.specs.declared.event.Change.{Change}
use Rattle.dg_graph.specs.declared.event.Event.{Event}
use Rattle.dg_graph.specs.declared.function.Function.{Function}
use Rattle.dg_graph.specs.declared.limits.TheConstants.{TIME_MAX}
use Rattle.dg_text.specs.declared.limits.TheConstants.{NAMES_MAX}
use Rattle.dg_history.specs.declared.limits.TheConstants.{BATCH_LINES_MAX, EVENTS_MAX}
use Rattle.dg_graph.specs.CompletedChanges.{completed}
use Rattle.dg_changes.specs.Batch.{changes_after, names_after}
use Rattle.dg_changes.specs.ChangeGrammar.{ChangeByText}
use Rattle.dg_history.specs.declared.form.Form.{Form}
use Rattle.dg_history.specs.declared.form.Form.TheVariants as form
use Rattle.dg_history.specs.History.{History, Batch, events_of, names_of, with_batch, span_of, earliest_next, is_form, is_skewed, is_wide, narrow_batches}
use Rattle.dg_history.specs.LegalHistory.{FitsEvent, IsLegal, IsLegalBatch, AreLegalAfter, are_silent}
use Rattle.dg_index.proofs.UnheardRecords.{silent_append}
use Rattle.dg_text.specs.Names.{are_new}
use Rattle.dg_graph.specs.Replay.{replay}
use Rattle.dg_graph.proofs.Completions.{AllCome, all_come, as_many, times_fit}
use Rattle.dg_history.proofs.LegalHistories.{all_fit, events_among}
use Rattle.dg_batch.proofs.LegalHistoryRanges.{BodyFits, ChangeFits, ElementFits, HasKey, WhatFits, body_more, changes_fit, events_fit, events_keys, from_legal, has_key_more, legal_body, lines_grow, replay_fits}
use Rattle.dg_batch.proofs.NamesAfter.{Grows, changes_length, grown_drop, grown_long, grows_none, new_joined}
use Rattle.dg_batch.proofs.ChangeGrammarRanges.{SaidFits}
use Rattle.dg_append.specs.Fronts.{lines}

-- ---- batches, with more names

batch_more : (names more : List (List ℕ)) (before : List Event) (b : Batch) → IsLegalBatch names before b → IsLegalBatch (names ++ more) before b
batch_more names more before b l =
    let longer : length names ≤ length (names ++ more) = omega (arith, length-append names more) in
    record {
      some = l.some;
      few = l.few;
      changes = l.changes;
      comes = l.comes;
      fits = λ k d lt. ((l.fits k d lt).0, body_more (length names) (length (names ++ more)) (get_or b.events k d).body longer (l.fits k d lt).1);
      keys = λ k d lt. has_key_more names more (get_or b.events k d).body (l.fits k d lt).1 (l.keys k d lt);
    }

batches_more : (names more : List (List ℕ)) (before : List Event) (batches : List Batch) (b : Batch) → AreLegalAfter names before batches
    → IsLegalBatch (names ++ more) (before ++ events_among batches) b → AreLegalAfter (names ++ more) before (batches ++ b ∷ [])
batches_more names more before [] b l h = (subst (λ (es : List Event). IsLegalBatch (names ++ more) es b) (append-nil before) h, tt)
batches_more names more before (x ∷ batches) b l h = (
  batch_more names more before x l.0,
  batches_more names more (before ++ x.events) batches b l.1
      (subst (λ (es : List Event). IsLegalBatch (names ++ more) es b) (sym (append_assoc before x.events (events_among batches))) h),
)

-- ---- forms, with one more batch

first_stay : (n : ℕ) (batches : List Batch) (b : Batch) → n ≤ length batches → take n (batches ++ b ∷ []) ≡ take n batches
first_stay zero batches b le = refl
first_stay (suc n) [] b le = absurd (omega (arith, le))
first_stay (suc n) (c ∷ batches) b le = ap (λ (l : List Batch). c ∷ l) (first_stay n batches b (omega (arith, le)))

-- how many batches stand before the upgrade
upgraded_within : (skewed : Bool) (n : ℕ) (batches : List Batch) → (skewed && nat_le n (length batches)) ≡ true → n ≤ length batches
upgraded_within skewed n batches is = leb-true n (length batches) (and_parts skewed (nat_le n (length batches)) is).1

form_more : (f : Form) (function : Function) (batches : List Batch) (b : Batch) → is_form f function (length batches) ≡ true → is_form f function (length (batches ++ b ∷ [])) ≡ true
form_more form.One function batches b is = is
form_more (form.Upgraded n) function batches b is =
    and_from (not (is_skewed function)) (nat_le n (length (batches ++ b ∷ []))) (and_parts (not (is_skewed function)) (nat_le n (length batches)) is).0
    (le-leb n (length (batches ++ b ∷ [])) (omega (arith, length-append batches (b ∷ []), upgraded_within (not (is_skewed function)) n batches is)))
form_more form.Two function batches b is = refl

-- the events of batches in the first form
abbrev silent_in : Form → List Batch → Bool
silent_in f batches = are_silent (flat_map (λ (x : Batch). x.events) (narrow_batches f batches))

silent_more : (f : Form) (function : Function) (batches : List Batch) (b : Batch) → is_form f function (length batches) ≡ true → (is_wide f ≡ false → are_silent b.events ≡ true) → silent_in f batches ≡ true
    → silent_in f (batches ++ b ∷ []) ≡ true
silent_more form.One function batches b is next silent =
    ap are_silent (flat_map-append (λ (x : Batch). x.events) batches (b ∷ []) ∙ ap (λ (es : List Event). flat_map (λ (x : Batch). x.events) batches ++ es) (append-nil b.events))
    ∙ silent_append (flat_map (λ (x : Batch). x.events) batches) b.events silent (next refl)
silent_more (form.Upgraded n) function batches b is next silent =
    ap (λ (l : List Batch). are_silent (flat_map (λ (x : Batch). x.events) l)) (first_stay n batches b (upgraded_within (not (is_skewed function)) n batches is)) ∙ silent
silent_more form.Two function batches b is next silent = refl

-- ---- the history with the next batch

-- what these ask for fits its ranges
abbrev pub AskedFit : List (Option ChangeByText) → Type 0
AskedFit asked = All (λ s. IfSome s SaidFits) asked

-- What is asked for comes to these events as the next batch, the names with its texts are these, and none of the events
-- is a message where the history is in the first form.
pub record IsNext (z : History) (asked : List (Option ChangeByText)) (changes : List Change) (grown : List (List ℕ)) (events : List Event) : Type 0 where
  pub fit : AskedFit asked
  pub changes_are : changes_after (names_of z) asked ≡ lines changes
  pub names_are : grown ≡ names_after (names_of z) asked
  pub comes : completed 1 (earliest_next (span_of (events_of z))) (replay (events_of z)) (lines changes) ≡ Ok events
  pub some : 1 ≤ length asked
  pub few : length asked ≤ BATCH_LINES_MAX
  pub room : length (events_of z) + length asked ≤ EVENTS_MAX
  pub few_names : length grown ≤ NAMES_MAX
  pub form : is_wide z.form ≡ false → are_silent events ≡ true

abbrev pub batch_next : History → List (List ℕ) → List Event → Batch
batch_next z grown events = record { names = drop (length (names_of z)) grown; events = events }

pub grown_next : (names grown : List (List ℕ)) (asked : List (Option ChangeByText)) → AskedFit asked → grown ≡ names_after names asked → Grows names grown
grown_next names grown asked fit is = subst (λ (ns : List (List ℕ)). Grows names ns) (sym is) (lines_grow names asked fit)

pub fitting_next : (names grown : List (List ℕ)) (asked : List (Option ChangeByText)) (changes : List Change) → AskedFit asked
    → changes_after names asked ≡ lines changes → grown ≡ names_after names asked → All (λ c. IfSome c (ChangeFits grown)) (lines changes)
fitting_next names grown asked changes fit are is =
    subst (λ (cs : List (Option Change)). All (λ c. IfSome c (ChangeFits grown)) cs) are
    (changes_fit names grown asked fit (subst (λ (ns : List (List ℕ)). Grows (names_after names asked) ns) (sym is) (grows_none (names_after names asked))))

numbers_of : (names : List (List ℕ)) (c : Option Change) → IfSome c (ChangeFits names) → IfSome c (λ (x : Change). WhatFits (λ n. n < 2 ^ 64) (length names) x.what)
numbers_of names None h = tt
numbers_of names (Some c) h = h.numbers

times_of : (names : List (List ℕ)) (c : Option Change) → IfSome c (ChangeFits names) → IfSome c (λ (x : Change). x.time ≤ TIME_MAX)
times_of names None h = tt
times_of names (Some c) h = h.time

keys_of : (names : List (List ℕ)) (c : Option Change) → IfSome c (ChangeFits names) → IfSome c (λ (x : Change). HasKey names x.what)
keys_of names None h = tt
keys_of names (Some c) h = h.key

pub many_next : (z : History) (asked : List (Option ChangeByText)) (changes : List Change) (grown : List (List ℕ)) (events : List Event) → IsNext z asked changes grown events
    → length events ≡ length asked
many_next z asked changes grown events n =
    as_many (earliest_next (span_of (events_of z))) (replay (events_of z)) (lines changes) events
    (all_come 1 (earliest_next (span_of (events_of z))) (replay (events_of z)) (lines changes) events n.comes)
    ∙ ap length (sym n.changes_are) ∙ changes_length (names_of z) asked

next_legal : (z : History) (asked : List (Option ChangeByText)) (changes : List Change) (grown : List (List ℕ)) (events : List Event) → IsLegal z → IsNext z asked changes grown events
    → IsLegalBatch grown (events_of z) (batch_next z grown events)
next_legal z asked changes grown events legal n =
    let earliest : ℕ = earliest_next (span_of (events_of z)) in
    let set : List Element = replay (events_of z) in
    let come : AllCome earliest set (lines changes) events = all_come 1 earliest set (lines changes) events n.comes in
    let fit : All (λ c. IfSome c (ChangeFits grown)) (lines changes) = fitting_next (names_of z) grown asked changes n.fit n.changes_are n.names_are in
    let long : length (names_of z) ≤ length grown = grown_long (names_of z) grown (grown_next (names_of z) grown asked n.fit n.names_are) in
    let old : All (FitsEvent (length (names_of z))) (events_of z) = all_fit (names_of z) [] z.batches legal.batches in
    let set_fit : All (ElementFits (λ n. n < 2 ^ 64) (length grown)) set =
    replay_fits (λ n. n < 2 ^ 64) (length grown) [] (events_of z)
    (λ k d lt. from_legal (length grown) (get_or (events_of z) k d).body (body_more (length (names_of z)) (length grown) (get_or (events_of z) k d).body long (old k d lt).1))
    (All-nil (ElementFits (λ n. n < 2 ^ 64) (length grown))) in
    let bodies : All (λ (e : Event). BodyFits (λ n. n < 2 ^ 64) (length grown) e.body) events =
    events_fit (λ n. n < 2 ^ 64) (length grown) earliest set (lines changes) events come (λ k d lt. numbers_of grown (get_or (lines changes) k d) (fit k d lt)) set_fit in
    let times : All (λ (e : Event). e.time ≤ TIME_MAX) events =
    times_fit earliest set (lines changes) events come (λ k d lt. times_of grown (get_or (lines changes) k d) (fit k d lt)) in
    let many : length events ≡ length asked = many_next z asked changes grown events n in
    record {
      some = omega (arith, many, n.some);
      few = omega (arith, many, n.few);
      changes = changes;
      comes = n.comes;
      fits = λ k d lt. (times k d lt, legal_body (length grown) (get_or events k d).body (bodies k d lt));
      keys = events_keys grown earliest set (lines changes) events come (λ k d lt. keys_of grown (get_or (lines changes) k d) (fit k d lt));
    }

-- the names and the events with the next batch
pub names_with : (z : History) (b : Batch) → names_of (with_batch z b) ≡ names_of z ++ b.names
names_with z b =
    flat_map-append (λ (x : Batch). x.names) z.batches (b ∷ []) ∙ ap (λ (ns : List (List ℕ)). names_of z ++ ns) (append-nil b.names)

pub events_with : (z : History) (b : Batch) → events_of (with_batch z b) ≡ events_of z ++ b.events
events_with z b =
    flat_map-append (λ (x : Batch). x.events) z.batches (b ∷ []) ∙ ap (λ (es : List Event). events_of z ++ es) (append-nil b.events)

pub names_grown : (z : History) (grown : List (List ℕ)) (events : List Event) → Grows (names_of z) grown → names_of (with_batch z (batch_next z grown events)) ≡ grown
names_grown z grown events g =
    names_with z (batch_next z grown events) ∙ ap (λ (ns : List (List ℕ)). names_of z ++ ns) (grown_drop (names_of z) grown g) ∙ sym g.is

pub legal_next : (z : History) (asked : List (Option ChangeByText)) (changes : List Change) (grown : List (List ℕ)) (events : List Event) → IsLegal z → IsNext z asked changes grown events
    → IsLegal (with_batch z (batch_next z grown events))
legal_next z asked changes grown events legal n =
    let b : Batch = batch_next z grown events in
    let g : Grows (names_of z) grown = grown_next (names_of z) grown asked n.fit n.names_are in
    let all : names_of (with_batch z b) ≡ grown = names_grown z grown events g in
    let is : grown ≡ names_of z ++ g.more = g.is in
    let batch : IsLegalBatch (names_of z ++ g.more) (events_of z) b =
    subst (λ (ns : List (List ℕ)). IsLegalBatch ns (events_of z) b) is (next_legal z asked changes grown events legal n) in
    record {
      parameters = legal.parameters;
      function = legal.function;
      form = form_more z.form z.params.function z.batches b legal.form;
      silent = silent_more z.form z.params.function z.batches b legal.form n.form legal.silent;
      batches = subst (λ (ns : List (List ℕ)). AreLegalAfter ns [] (z.batches ++ b ∷ [])) (sym (all ∙ is)) (batches_more (names_of z) g.more [] z.batches b legal.batches batch);
      names = ap (are_new []) (all ∙ is) ∙ new_joined [] (names_of z) g.more legal.names g.right;
      few_names = omega (arith, ap length all, n.few_names);
      few = omega (arith, ap length (events_with z b), length-append (events_of z) events, many_next z asked changes grown events n, n.room);
    }
