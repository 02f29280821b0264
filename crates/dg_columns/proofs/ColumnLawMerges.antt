-- The columns of a list of events are merged to the list.
use Rattle.std.proofs.Common.{◌≡◌, ℕ, zero, suc, ◌+◌, ◌<◌, ◌≤◌, Bool, true, false, cond, List, [], ◌∷◌, ◌++◌, length, filter, Option, Some, None, refl, ap, ◌∙◌, arith, length-append}
use Rattle.std.specs.Prelude.{◌==◌, find}
use Rattle.std.specs.Option.{option_map, option_or, option_and_then}
use Rattle.std.proofs.lemmas.Bool.{eq-eqb, ne_eqb, eqb-true}
use Rattle.std.proofs.lemmas.List.Folds.{find-append}
use Rattle.dg_graph.specs.declared.element.Column.{Column}
use Rattle.dg_graph.specs.declared.element.Column.TheVariants as column
use Rattle.dg_graph.specs.declared.event.Event.{Event}
use Rattle.dg_graph.specs.declared.placed.Placed.{Placed}
use Rattle.dg_graph.specs.Columns.{same_column, column_of_body, placed_from, placed_in}
use Rattle.dg_graph.specs.ColumnMerge.{at_positions, if_never_fall}
use Rattle.dg_columns.specs.ColumnLaws.{EventsAreMergedBack}

abbrev stands_at : ℕ → Placed → Bool
stands_at n p = p.at == n

abbrev stands_in : Column → Placed → Bool
stands_in col p = same_column (column_of_body p.event.body) col

-- an event where it passes
abbrev passing : (Placed → Bool) → Placed → Option Placed
passing q p = cond (q p) (Some p) None

-- ---- an event is found in its column alone

-- no event stands before the first position
find_before : (q : Placed → Bool) (n m : ℕ) (events : List Event) → n < m → find (stands_at n) (filter q (placed_from m events)) ≡ None
find_before q n m [] lt = refl
find_before q n m (e ∷ events) lt =
    let p : Placed = record { at = m; event = e } in
    let rest : List Placed = filter q (placed_from (m + 1) events) in
    let none = find_before q n (m + 1) events (omega arith) in
    elim (q p) as (λ b. find (stands_at n) (cond b (p ∷ rest) rest) ≡ None) [
      | true ↦ ap (λ b. cond b (Some p) (find (stands_at n) rest)) (ne_eqb m n (λ e. omega arith)) ∙ none
      | false ↦ none
    ]

-- the event at a position is in a part of the events where it passes
find_part : (q : Placed → Bool) (n m : ℕ) (events : List Event) → find (stands_at n) (filter q (placed_from m events)) ≡ option_and_then (passing q) (find (stands_at n) (placed_from m events))
find_part q n m [] = refl
find_part q n m (e ∷ events) =
    let p : Placed = record { at = m; event = e } in
    let all : List Placed = placed_from (m + 1) events in
    let rest : List Placed = filter q all in
    let more = find_part q n (m + 1) events in
    let next : Option Placed = find (stands_at n) all in
    elim (m == n) as (λ b. (m == n) ≡ b → find (stands_at n) (cond (q p) (p ∷ rest) rest) ≡ option_and_then (passing q) (cond b (Some p) next)) [
      | true ↦ λ same. elim (q p) as (λ b. find (stands_at n) (cond b (p ∷ rest) rest) ≡ cond b (Some p) None) [
        | true ↦ ap (λ b. cond b (Some p) (find (stands_at n) rest)) same
        | false ↦ find_before q n (m + 1) events (omega (arith, eqb-true m n same))
      ]
      | false ↦ λ other. elim (q p) as (λ b. find (stands_at n) (cond b (p ∷ rest) rest) ≡ option_and_then (passing q) next) [
        | true ↦ ap (λ b. cond b (Some p) (find (stands_at n) rest)) other ∙ more
        | false ↦ more
      ]
    ] refl

-- an event passes in one of the four columns
in_one : (o : Option Placed) → option_or (option_or (option_or (option_and_then (passing (stands_in column.Structure)) o) (option_and_then (passing (stands_in column.NodeAttr)) o)) (option_and_then (passing (stands_in column.EdgeAttr)) o)) (option_and_then (passing (stands_in column.Transient)) o) ≡ o
in_one None = refl
in_one (Some p) =
    elim (column_of_body p.event.body) as (λ col. option_or (option_or (option_or (cond (same_column col column.Structure) (Some p) None) (cond (same_column col column.NodeAttr) (Some p) None)) (cond (same_column col column.EdgeAttr) (Some p) None)) (cond (same_column col column.Transient) (Some p) None) ≡ Some p) [
      | column.Structure ↦ refl
      | column.NodeAttr ↦ refl
      | column.EdgeAttr ↦ refl
      | column.Transient ↦ refl
    ]

-- the four columns of events, put end to end
abbrev columns : List Event → List Placed
columns events = placed_in column.Structure events ++ placed_in column.NodeAttr events ++ placed_in column.EdgeAttr events ++ placed_in column.Transient events

same_four : (a a' b b' c c' d d' : Option Placed) → a ≡ a' → b ≡ b' → c ≡ c' → d ≡ d' → option_or (option_or (option_or a b) c) d ≡ option_or (option_or (option_or a' b') c') d'
same_four a a' b b' c c' d d' ea eb ec ed = cc

find_columns : (n : ℕ) (events : List Event) → find (stands_at n) (columns events) ≡ find (stands_at n) (placed_from 0 events)
find_columns n events =
    let s = placed_in column.Structure events in
    let a = placed_in column.NodeAttr events in
    let b = placed_in column.EdgeAttr events in
    let t = placed_in column.Transient events in
    find-append (stands_at n) (s ++ a ++ b) t
    ∙ ap (λ o. option_or o (find (stands_at n) t)) (find-append (stands_at n) (s ++ a) b ∙ ap (λ o. option_or o (find (stands_at n) b)) (find-append (stands_at n) s a))
    ∙ same_four _ _ _ _ _ _ _ _ (find_part (stands_in column.Structure) n 0 events) (find_part (stands_in column.NodeAttr) n 0 events) (find_part (stands_in column.EdgeAttr) n 0 events) (find_part (stands_in column.Transient) n 0 events)
    ∙ in_one (find (stands_at n) (placed_from 0 events))

-- ---- the lengths

length_parts : (placed : List Placed) → length (filter (stands_in column.Structure) placed) + length (filter (stands_in column.NodeAttr) placed) + length (filter (stands_in column.EdgeAttr) placed) + length (filter (stands_in column.Transient) placed) ≡ length placed
length_parts [] = refl
length_parts (p ∷ placed) =
    let s : List Placed = filter (stands_in column.Structure) placed in
    let a : List Placed = filter (stands_in column.NodeAttr) placed in
    let b : List Placed = filter (stands_in column.EdgeAttr) placed in
    let t : List Placed = filter (stands_in column.Transient) placed in
    let more = length_parts placed in
    elim (column_of_body p.event.body) as (λ col. length (cond (same_column col column.Structure) (p ∷ s) s) + length (cond (same_column col column.NodeAttr) (p ∷ a) a) + length (cond (same_column col column.EdgeAttr) (p ∷ b) b) + length (cond (same_column col column.Transient) (p ∷ t) t) ≡ suc (length placed)) [
      | column.Structure ↦ omega arith
      | column.NodeAttr ↦ omega arith
      | column.EdgeAttr ↦ omega arith
      | column.Transient ↦ omega arith
    ]

length_placed : (n : ℕ) (events : List Event) → length (placed_from n events) ≡ length events
length_placed n [] = refl
length_placed n (e ∷ events) = ap suc (length_placed (n + 1) events)

length_columns : (events : List Event) → length (columns events) ≡ length events
length_columns events =
    let s = placed_in column.Structure events in
    let a = placed_in column.NodeAttr events in
    let b = placed_in column.EdgeAttr events in
    let t = placed_in column.Transient events in
    omega (arith, length-append (s ++ a ++ b) t, length-append (s ++ a) b, length-append s a, length_parts (placed_from 0 events), length_placed 0 events)

-- ---- the events in order

-- only what is found from the first position on matters
same_found : (k n : ℕ) (xs ys : List Placed) → ((j : ℕ) → n ≤ j → find (stands_at j) xs ≡ find (stands_at j) ys) → at_positions k n xs ≡ at_positions k n ys
same_found zero n xs ys same = refl
same_found (suc k) n xs ys same =
    ap (λ r. option_and_then (λ (p : Placed). option_map (λ (events : List Event). p.event ∷ events) r) (find (stands_at n) xs)) (same_found k (n + 1) xs ys (λ j le. same j (omega arith)))
    ∙ ap (λ o. option_and_then (λ (p : Placed). option_map (λ (events : List Event). p.event ∷ events) (at_positions k (n + 1) ys)) o) (same n (omega arith))

all_found : (m : ℕ) (events : List Event) → at_positions (length events) m (placed_from m events) ≡ Some events
all_found m [] = refl
all_found m (e ∷ events) =
    let p : Placed = record { at = m; event = e } in
    let all : List Placed = placed_from (m + 1) events in
    let k : ℕ = length events in
    ap (λ b. option_and_then (λ (p : Placed). option_map (λ (events : List Event). p.event ∷ events) (at_positions k (m + 1) (record { at = m; event = e } ∷ all))) (cond b (Some p) (find (stands_at m) all))) (eq-eqb m m refl)
    ∙ ap (option_map (λ (events : List Event). e ∷ events)) (
    same_found k (m + 1) (p ∷ all) all (λ j le. ap (λ b. cond b (Some p) (find (stands_at j) all)) (ne_eqb m j (λ e. omega arith))) ∙ all_found (m + 1) events)

pub events_merged : EventsAreMergedBack
events_merged = λ events rises.
    ap (λ b. cond b (option_and_then if_never_fall (at_positions (length events) 0 (columns events))) None) (eq-eqb (length (columns events)) (length events) (length_columns events))
    ∙ ap (option_and_then if_never_fall) (same_found (length events) 0 (columns events) (placed_from 0 events) (λ j le. find_columns j events) ∙ all_found 0 events)
    ∙ ap (λ b. cond b (Some events) None) rises
