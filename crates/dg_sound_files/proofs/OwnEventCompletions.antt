-- The events of a legal history are completions, one after another, and can be spelled.
use Rattle.std.proofs.Common.{◌≡◌, ℕ, ◌≤◌, true, ◌||◌, List, [], ◌∷◌, ◌++◌, length, is_some, nat_le, nat_eq, refl}
use Rattle.std.specs.Prelude.{IsTrue}
use Rattle.std.specs.Option.{option_eq}
use Rattle.std.specs.List.{All}
use Rattle.std.proofs.lemmas.Bool.{and_from, leb-true, le-leb, and_parts}
use Rattle.std.proofs.lemmas.List.Elements.{All-head, All-tail}
use Rattle.dg_columns.specs.Ranges.{EventsFit, BodyFits}
use Rattle.dg_graph.specs.declared.element.Element.{Element}
use Rattle.dg_graph.specs.declared.event.Body.{Body}
use Rattle.dg_graph.specs.declared.event.Body.TheVariants as body
use Rattle.dg_graph.specs.declared.event.Event.{Event}
use Rattle.dg_graph.specs.Completion.{has_key, has_node, edge_of, node_value, edge_value, completes, is_change_of, is_value_change}
use Rattle.dg_graph.specs.Effect.{forwards}
use Rattle.dg_graph.specs.Replay.{replay_from}
use Rattle.dg_graph.specs.MadeByChanges.{AreMadeByChanges}
use Rattle.dg_history.specs.History.{History, events_of, names_of, last_time_from}
use Rattle.dg_history.specs.LegalHistory.{FitsBody, FitsEvent, IsLegal}
use Rattle.dg_history.specs.EventTimes.{RisesFrom}
use Rattle.dg_history.proofs.LegalHistories.{all_fit, all_keys, events_made, events_rise}
use Rattle.dg_sound.specs.OwnEvents.{are_completions}

-- ---- what changes come to are completions

-- the keys of the events may be keys
abbrev HasKey : List (List ℕ) → Event → Type 0
HasKey names e = IsTrue (has_key names e.body)

abbrev HaveKeys : List (List ℕ) → List Event → Type 0
HaveKeys names events = All (λ (e : Event). IsTrue (has_key names e.body)) events

completion_here : (names : List (List ℕ)) (set : List Element) (time : ℕ) (e : Event) (events : List Event) → IsTrue (has_key names e.body) → is_change_of set e.body ≡ true → time ≤ e.time
    → are_completions names (forwards set e) e.time events ≡ true → are_completions names set time (e ∷ events) ≡ true
completion_here names set time e events k c late more =
    and_from (completes names set e.body) _ (and_from (has_key names e.body) (is_change_of set e.body) k c)
    (and_from (nat_le time e.time) _ (le-leb time e.time late) more)

completions_are : (names : List (List ℕ)) (set : List Element) (t : ℕ) (events : List Event) → RisesFrom t events → AreMadeByChanges set events → HaveKeys names events
    → are_completions names set t events ≡ true
completions_are names set t [] rises made keys = refl
completions_are names set t (e ∷ events) rises made keys =
    completion_here names set t e events (All-head (HasKey names) e events keys) made.0 rises.0
    (completions_are names (forwards set e) e.time events rises.1 made.1 (All-tail (HasKey names) e events keys))

pub all_complete : (z : History) → IsLegal z → are_completions (names_of z) [] 0 (events_of z) ≡ true
all_complete z legal =
    completions_are (names_of z) [] 0 (events_of z) (events_rise z legal) (events_made z legal) (all_keys (names_of z) [] z.batches legal.batches)

-- ---- completions one after another

-- the first of them, and the others
pub record FirstCompletes (names : List (List ℕ)) (set : List Element) (time : ℕ) (e : Event) (events : List Event) : Type 0 where
  pub keyed : has_key names e.body ≡ true
  pub changes : is_change_of set e.body ≡ true
  pub late : time ≤ e.time
  pub more : are_completions names (forwards set e) e.time events ≡ true

first_completes : (names : List (List ℕ)) (set : List Element) (time : ℕ) (e : Event) (events : List Event) → are_completions names set time (e ∷ events) ≡ true → FirstCompletes names set time e events
first_completes names set time e events h =
    let a = and_parts (completes names set e.body) _ h in
    let b = and_parts (has_key names e.body) (is_change_of set e.body) a.0 in
    let c = and_parts (nat_le time e.time) (are_completions names (forwards set e) e.time events) a.1 in
    record { keyed = b.0; changes = b.1; late = leb-true time e.time c.0; more = c.1 }

pub completions_front : (names : List (List ℕ)) (set : List Element) (t : ℕ) (xs ys : List Event) → are_completions names set t (xs ++ ys) ≡ true → are_completions names set t xs ≡ true
completions_front names set t [] ys h = refl
completions_front names set t (e ∷ xs) ys h =
    let f = first_completes names set t e (xs ++ ys) h in
    completion_here names set t e xs f.keyed f.changes f.late (completions_front names (forwards set e) e.time xs ys f.more)

pub completions_behind : (names : List (List ℕ)) (set : List Element) (t : ℕ) (xs ys : List Event) → are_completions names set t (xs ++ ys) ≡ true
    → are_completions names (replay_from set xs) (last_time_from t xs) ys ≡ true
completions_behind names set t [] ys h = h
completions_behind names set t (e ∷ xs) ys h =
    completions_behind names (forwards set e) e.time xs ys (first_completes names set t e (xs ++ ys) h).more

-- ---- they can be spelled

body_fits : (n : ℕ) (set : List Element) (b : Body) → FitsBody n b → is_change_of set b ≡ true → BodyFits n b
body_fits n set (body.NodeAdded id) h c = h
body_fits n set (body.NodeRemoved id) h c = h
body_fits n set (body.EdgeAdded directed id src dst) h c = h
body_fits n set (body.EdgeRemoved directed id src dst) h c = h
body_fits n set (body.NodeAttr key id old new) h c =
    let change = (and_parts (has_node set id) (is_value_change (node_value set id key) old new) c).1 in
    record { id_fits = h.0; key_fits = h.1; old_fits = h.2; new_fits = h.3; some = (and_parts (option_eq nat_eq old (node_value set id key)) (is_some old || is_some new) change).1 }
body_fits n set (body.EdgeAttr key id old new) h c =
    let change = (and_parts (is_some (edge_of set id)) (is_value_change (edge_value set id key) old new) c).1 in
    record { id_fits = h.0; key_fits = h.1; old_fits = h.2; new_fits = h.3; some = (and_parts (option_eq nat_eq old (edge_value set id key)) (is_some old || is_some new) change).1 }
body_fits n set (body.Message src dst value) h c = h

made_fit : (n t : ℕ) (set : List Element) (events : List Event) → RisesFrom t events → AreMadeByChanges set events → All (FitsEvent n) events → EventsFit n t events
made_fit n t set [] rises made fit = tt
made_fit n t set (e ∷ events) rises made fit =
    let here : FitsEvent n e = All-head (FitsEvent n) e events fit in (
      record { not_before = rises.0; not_after = here.0; fits = body_fits n set e.body here.1 made.0 },
      made_fit n e.time (forwards set e) events rises.1 made.1 (All-tail (FitsEvent n) e events fit),
    )

pub events_fit : (z : History) → IsLegal z → EventsFit (length (names_of z)) 0 (events_of z)
events_fit z legal =
    made_fit (length (names_of z)) 0 [] (events_of z) (events_rise z legal) (events_made z legal) (all_fit (names_of z) [] z.batches legal.batches)
