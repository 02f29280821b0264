-- What lists of events tell of an instant: their columns of messages the same as they, and nothing where it does not lie
-- between their times.
use Rattle.std.proofs.Common.{◌≡◌, ℕ, zero, suc, ◌+◌, ◌*◌, ◌<◌, Bool, true, false, cond, ◌&&◌, List, [], ◌∷◌, ◌++◌, take, drop, filter, map, None, refl, sym, ap, subst, ◌∙◌, ⊎_elim, arith, append_assoc, add-mul, drop-drop, take-append-drop}
use Rattle.std.specs.Prelude.{◌==◌, nat_le}
use Rattle.std.specs.List.{flat_map}
use Rattle.std.proofs.lemmas.Bool.{and_cases, leb-false, ne_eqb, false≢true}
use Rattle.dg_graph.specs.declared.element.Column.TheVariants as column
use Rattle.dg_graph.specs.declared.event.Body.{Body}
use Rattle.dg_graph.specs.declared.event.Body.TheVariants as body
use Rattle.dg_graph.specs.declared.event.Event.{Event}
use Rattle.dg_graph.specs.declared.placed.Placed.{Placed}
use Rattle.dg_graph.specs.Columns.{column_of_body, placed_from, placed_in, same_column}
use Rattle.dg_graph.specs.Replay.{message_of, told_at}
use Rattle.dg_history.specs.EventTimes.{RisesFrom}
use Rattle.dg_history.specs.History.{first_time_of, last_time_from}
use Rattle.dg_history.specs.declared.params.Params.{Params}
use Rattle.dg_history.proofs.EventTimes.{rises_last, rises_parts}
use Rattle.dg_index.specs.Hierarchy.{numbers}
use Rattle.dg_index.specs.IndexRecords.{closed_list}
use Rattle.dg_index.proofs.IndexRecordColumns.{Each}
use Rattle.dg_heard.proofs.Told.{message_at, told_append_alike, told_without}

-- ---- no message of the instant

-- an event of another instant
elsewhere : (e : Event) (t : ℕ) → (e.time ≡ t → ⊥) → message_at t e ≡ None
elsewhere e t differs = ap (λ b. cond b (message_of e.body) None) (ne_eqb e.time t differs)

-- events that are all later
told_before : (s t : ℕ) (events : List Event) → RisesFrom s events → t < s → told_at events t ≡ []
told_before s t [] r lt = refl
told_before s t (e ∷ events) r lt =
    told_without e events t (elsewhere e t (λ is. absurd (omega (arith, lt, r.0, is))))
    ∙ told_before e.time t events r.1 (omega (arith, lt, r.0))

-- events that are all earlier
told_behind : (s t : ℕ) (events : List Event) → RisesFrom s events → last_time_from s events < t → told_at events t ≡ []
told_behind s t [] r lt = refl
told_behind s t (e ∷ events) r lt =
    let most = rises_last e.time events r.1 in
    told_without e events t (elsewhere e t (λ is. absurd (omega (arith, lt, most, is)))) ∙ told_behind e.time t events r.1 lt

-- events between whose times the instant does not lie
pub told_outside : (s t : ℕ) (events : List Event) → RisesFrom s events → (nat_le (first_time_of events) t && nat_le t (last_time_from 0 events)) ≡ false → told_at events t ≡ []
told_outside s t [] r out = refl
told_outside s t (e ∷ events) r out =
    let own : RisesFrom e.time (e ∷ events) = (omega arith, r.1) in
    ⊎_elim (λ (late : nat_le e.time t ≡ false). told_before e.time t (e ∷ events) own (leb-false e.time t late))
    (λ (early : nat_le t (last_time_from e.time events) ≡ false). told_behind e.time t (e ∷ events) own (leb-false t (last_time_from e.time events) early))
    (and_cases (nat_le e.time t) (nat_le t (last_time_from e.time events)) out)

-- ---- columns of messages

-- the events of the column of messages
abbrev pub messages_of : List Event → List Event
messages_of events = map (λ (p : Placed). p.event) (placed_in column.Transient events)

-- another event is no message
no_message : (b : Body) → same_column (column_of_body b) column.Transient ≡ false → message_of b ≡ None
no_message (body.NodeAdded id) other = refl
no_message (body.NodeRemoved id) other = refl
no_message (body.EdgeAdded directed id src dst) other = refl
no_message (body.EdgeRemoved directed id src dst) other = refl
no_message (body.NodeAttr key id old new) other = refl
no_message (body.EdgeAttr key id old new) other = refl
no_message (body.Message src dst value) other = absurd (false≢true (sym other))

none_at : (t : ℕ) (e : Event) → message_of e.body ≡ None → message_at t e ≡ None
none_at t e none = by (e.time == t)
  where
    by : (b : Bool) → cond b (message_of e.body) None ≡ None
    by true = none
    by false = refl

-- those that stand in the column of messages, where their positions begin with this one
abbrev messages_from : ℕ → List Event → List Placed
messages_from n events = filter (λ (p : Placed). same_column (column_of_body p.event.body) column.Transient) (placed_from n events)

told_placed : (n : ℕ) (events : List Event) (t : ℕ) → told_at (map (λ (p : Placed). p.event) (messages_from n events)) t ≡ told_at events t
told_placed n [] t = refl
told_placed n (e ∷ events) t = by (same_column (column_of_body e.body) column.Transient) refl (told_placed (n + 1) events t)
  where
    by : (b : Bool) → same_column (column_of_body e.body) column.Transient ≡ b → told_at (map (λ (p : Placed). p.event) (messages_from (n + 1) events)) t ≡ told_at events t
        → told_at (map (λ (p : Placed). p.event) (cond b (record { at = n; event = e } ∷ messages_from (n + 1) events) (messages_from (n + 1) events))) t ≡ told_at (e ∷ events) t
    by true is more = told_append_alike (e ∷ []) (map (λ (p : Placed). p.event) (messages_from (n + 1) events)) (e ∷ []) events t refl more
    by false is more = more ∙ sym (told_without e events t (none_at t e (no_message e.body is)))

-- the column of messages tells what the events tell
pub told_messages_of : (events : List Event) (t : ℕ) → told_at (messages_of events) t ≡ told_at events t
told_messages_of events t = told_placed 0 events t

-- ---- lists one behind another

-- where some of the lists tell nothing, the others tell the same without them
pub told_along : (keeps : ℕ → Bool) (f g : ℕ → List Event) (t : ℕ) (lists : List ℕ) → Each (λ i. told_at (f i) t ≡ told_at (g i) t) lists → Each (λ i. keeps i ≡ false → told_at (g i) t ≡ []) lists
    → told_at (flat_map f (filter keeps lists)) t ≡ told_at (flat_map g lists) t
told_along keeps f g t [] same none = refl
told_along keeps f g t (i ∷ lists) same none = by (keeps i) refl (told_along keeps f g t lists same.1 none.1)
  where
    by : (b : Bool) → keeps i ≡ b → told_at (flat_map f (filter keeps lists)) t ≡ told_at (flat_map g lists) t
        → told_at (flat_map f (cond b (i ∷ filter keeps lists) (filter keeps lists))) t ≡ told_at (flat_map g (i ∷ lists)) t
    by true is more = told_append_alike (f i) (flat_map f (filter keeps lists)) (g i) (flat_map g lists) t same.0 more
    by false is more = told_append_alike [] (flat_map f (filter keeps lists)) (g i) (flat_map g lists) t (sym (none.0 is)) more

-- so many closed lists, and what stands behind them
pub lists_whole : (p : Params) (events : List Event) (i n : ℕ) → flat_map (closed_list p events) (numbers i n) ++ drop ((i + n) * p.l) events ≡ drop (i * p.l) events
lists_whole p events i zero = ap (λ c. drop (c * p.l) events) (let e : i + 0 ≡ i = omega arith in e)
lists_whole p events i (suc n) =
    let l : ℕ = p.l in
    let on : i + suc n ≡ i + 1 + n = omega arith in
    let next : i * l + l ≡ (i + 1) * l = omega (arith, add-mul i 1 l) in
    let own : List Event = closed_list p events i in
    let more : List Event = flat_map (closed_list p events) (numbers (i + 1) n) in
    ap (λ c. (own ++ more) ++ drop (c * l) events) on
    ∙ append_assoc own more (drop ((i + 1 + n) * l) events)
    ∙ ap (λ (r : List Event). own ++ r) (lists_whole p events (i + 1) n ∙ ap (λ c. drop c events) (sym next) ∙ sym (drop-drop l (i * l) events))
    ∙ take-append-drop l (drop (i * l) events)

-- the times of a closed list do not fall
pub list_rises : (p : Params) (events : List Event) (i : ℕ) → RisesFrom 0 events → RisesFrom (last_time_from 0 (take (i * p.l) events)) (closed_list p events i)
list_rises p events i r =
    let behind : List Event = drop (i * p.l) events in
    let s : ℕ = last_time_from 0 (take (i * p.l) events) in
    let two = rises_parts 0 (take (i * p.l) events) behind (subst (RisesFrom 0) (sym (take-append-drop (i * p.l) events)) r) in
    (rises_parts s (take p.l behind) (drop p.l behind) (subst (RisesFrom s) (sym (take-append-drop p.l behind)) two.1)).0
