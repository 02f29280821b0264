-- Filling the slots of a row one event after another, as a loop does, and reading them in order.
use Rattle.std.proofs.Common.{◌≡◌, ℕ, zero, suc, ◌+◌, ◌<◌, ◌≤◌, Bool, true, false, cond, List, [], ◌∷◌, ◌++◌, length, take, drop, set, get_or, replicate, Option, Some, None, refl, sym, ap, ◌∙◌, arith}
use Rattle.std.specs.Prelude.{◌==◌, find, is_some}
use Rattle.std.specs.Option.{option_map, option_or, option_and_then}
use Rattle.std.proofs.lemmas.Bool.{eq-eqb, ne_eqb, true≢false, false≢true}
use Rattle.std.proofs.lemmas.List.{drop_more, set-get_or, take-append-le, take_all, length-append}
use Rattle.std.proofs.lemmas.List.Folds.{find-append}
use Rattle.dg_graph.specs.declared.event.Event.{Event}
use Rattle.dg_graph.specs.declared.placed.Placed.{Placed}
use Rattle.dg_graph.specs.ColumnMerge.{never_fall, at_positions, if_never_fall, merged}
use Rattle.dg_columns.specs.Rows.{event_at, filled, events_in_row}

-- ---- filling

or_none : (slot : Option Event) → option_or slot None ≡ slot
or_none None = refl
or_none (Some e) = refl

or_or : (a b c : Option Event) → option_or (option_or a b) c ≡ option_or a (option_or b c)
or_or None b c = refl
or_or (Some e) b c = refl

-- a row that no event is left for
pub filled_none : (n : ℕ) (row : List (Option Event)) → filled n row [] ≡ row
filled_none n [] = refl
filled_none n (slot ∷ row) =
    ap (λ p. p ∷ filled (n + 1) row []) (or_none slot) ∙ ap (λ r. slot ∷ r) (filled_none (n + 1) row)

-- an event whose position is none of these slots
filled_other : (n : ℕ) (row : List (Option Event)) (p : Placed) (rest : List Placed) → ((k : ℕ) → n ≤ k → k < n + length row → p.at ≡ k → ⊥) → filled n row (p ∷ rest) ≡ filled n row rest
filled_other n [] p rest other = refl
filled_other n (slot ∷ row) p rest other =
    ap (λ b. option_or slot (option_map (λ (p : Placed). p.event) (cond b (Some p) (find (λ (p : Placed). p.at == n) rest))) ∷ filled (n + 1) row (p ∷ rest)) (ne_eqb p.at n (other n (omega arith) (omega arith)))
    ∙ ap (λ r. option_or slot (event_at n rest) ∷ r) (filled_other (n + 1) row p rest (λ k le lt. other k (omega arith) (omega arith)))

-- an event whose position is past the row
pub filled_past : (row : List (Option Event)) (p : Placed) (rest : List Placed) → length row ≤ p.at → filled 0 row (p ∷ rest) ≡ filled 0 row rest
filled_past row p rest past = filled_other 0 row p rest (λ k le lt e. omega arith)

-- the slot of the event, as far as it was empty
filled_here : (n : ℕ) (slot : Option Event) (p : Placed) (rest : List Placed) → p.at ≡ n → option_or slot (event_at n (p ∷ rest)) ≡ option_or (option_or slot (Some p.event)) (event_at n rest)
filled_here n slot p rest here =
    ap (λ b. option_or slot (option_map (λ (p : Placed). p.event) (cond b (Some p) (find (λ (p : Placed). p.at == n) rest)))) (eq-eqb p.at n here)
    ∙ sym (or_or slot (Some p.event) (event_at n rest))

-- an event whose slot is in the row
filled_in : (n : ℕ) (row : List (Option Event)) (i : ℕ) (p : Placed) (rest : List Placed) (d : Option Event) → p.at ≡ n + i → i < length row → filled n row (p ∷ rest) ≡ filled n (set row i (option_or (get_or row i d) (Some p.event))) rest
filled_in n [] i p rest d here lt = absurd (omega arith)
filled_in n (slot ∷ row) zero p rest d here lt =
    ap (λ q. q ∷ filled (n + 1) row (p ∷ rest)) (filled_here n slot p rest (omega arith))
    ∙ ap (λ r. option_or (option_or slot (Some p.event)) (event_at n rest) ∷ r) (filled_other (n + 1) row p rest (λ k le lt e. omega arith))
filled_in n (slot ∷ row) (suc i) p rest d here lt =
    ap (λ b. option_or slot (option_map (λ (p : Placed). p.event) (cond b (Some p) (find (λ (p : Placed). p.at == n) rest))) ∷ filled (n + 1) row (p ∷ rest)) (ne_eqb p.at n (λ e. omega arith))
    ∙ ap (λ r. option_or slot (event_at n rest) ∷ r) (filled_in (n + 1) row i p rest d (omega arith) (omega arith))

map_or : (a b : Option Placed) → option_map (λ (p : Placed). p.event) (option_or a b) ≡ option_or (option_map (λ (p : Placed). p.event) a) (option_map (λ (p : Placed). p.event) b)
map_or None b = refl
map_or (Some p) b = refl

event_in_parts : (n : ℕ) (a b : List Placed) → event_at n (a ++ b) ≡ option_or (event_at n a) (event_at n b)
event_in_parts n a b =
    let here : Placed → Bool = λ p. p.at == n in
    ap (option_map (λ (p : Placed). p.event)) (find-append here a b) ∙ map_or (find here a) (find here b)

-- events in two parts
pub filled_twice : (n : ℕ) (row : List (Option Event)) (a b : List Placed) → filled n (filled n row a) b ≡ filled n row (a ++ b)
filled_twice n [] a b = refl
filled_twice n (slot ∷ row) a b =
    ap (λ p. p ∷ filled (n + 1) (filled (n + 1) row a) b) (or_or slot (event_at n a) (event_at n b) ∙ ap (λ e. option_or slot e) (sym (event_in_parts n a b)))
    ∙ ap (λ r. option_or slot (event_at n (a ++ b)) ∷ r) (filled_twice (n + 1) row a b)

then_events : (o : Option Placed) (r : Option (List Event)) → option_and_then (λ (p : Placed). option_map (λ (events : List Event). p.event ∷ events) r) o ≡ option_and_then (λ (e : Event). option_map (λ (events : List Event). e ∷ events) r) (option_map (λ (p : Placed). p.event) o)
then_events None r = refl
then_events (Some p) r = refl

-- a row that was empty
pub filled_empty : (k n : ℕ) (placed : List Placed) → at_positions k n placed ≡ events_in_row (filled n (replicate k None) placed)
filled_empty zero n placed = refl
filled_empty (suc k) n placed =
    ap (λ r. option_and_then (λ (p : Placed). option_map (λ (events : List Event). p.event ∷ events) r) (find (λ (p : Placed). p.at == n) placed)) (filled_empty k (n + 1) placed)
    ∙ then_events (find (λ (p : Placed). p.at == n) placed) (events_in_row (filled (n + 1) (replicate k None) placed))

-- ---- reading in order

-- the events in front, and those of the row, where their times do not fall from the earliest on
abbrev pub onward : List Event → ℕ → List (Option Event) → Option (List Event)
onward front earliest row =
    option_and_then (λ (events : List Event). cond (never_fall earliest events) (Some (front ++ events)) None) (events_in_row row)

-- ---- the loop over the events of a column

-- the rest of the events leaves the first of them
pub filled_from : (row : List (Option Event)) (placed : List Placed) (i : ℕ) (d : Placed) → i < length placed → filled 0 row (drop i placed) ≡ filled 0 row (get_or placed i d ∷ drop (i + 1) placed)
filled_from row placed i d lt = ap (filled 0 row) (drop_more placed i d lt)

pub filled_empty_slot : (row : List (Option Event)) (i : ℕ) (p : Placed) (rest : List Placed) (d : Option Event) → p.at ≡ i → i < length row → is_some (get_or row i d) ≡ false → filled 0 row (p ∷ rest) ≡ filled 0 (set row i (Some p.event)) rest
filled_empty_slot row i p rest d here lt empty =
    filled_in 0 row i p rest d (omega arith) lt
    ∙ ap (λ slot. filled 0 (set row i slot) rest) (over (get_or row i d) empty)
  where
    over : (o : Option Event) → is_some o ≡ false → option_or o (Some p.event) ≡ Some p.event
    over None e = refl
    over (Some x) e = absurd (true≢false e)

pub filled_taken_slot : (row : List (Option Event)) (i : ℕ) (p : Placed) (rest : List Placed) (d : Option Event) → p.at ≡ i → i < length row → is_some (get_or row i d) ≡ true → filled 0 row (p ∷ rest) ≡ filled 0 row rest
filled_taken_slot row i p rest d here lt taken =
    filled_in 0 row i p rest d (omega arith) lt
    ∙ ap (λ slot. filled 0 (set row i slot) rest) (over (get_or row i d) taken)
    ∙ ap (λ r. filled 0 r rest) (set-get_or row i d)
  where
    over : (o : Option Event) → is_some o ≡ true → option_or o (Some p.event) ≡ o
    over None e = absurd (false≢true e)
    over (Some x) e = refl

-- ---- the row of four columns

-- a row of empty slots that four columns fill has the events at the positions
pub filled_by_four : (k : ℕ) (a b c d : List Placed) → at_positions k 0 (a ++ b ++ c ++ d) ≡ events_in_row (filled 0 (filled 0 (filled 0 (filled 0 (replicate k None) a) b) c) d)
filled_by_four k a b c d =
    filled_empty k 0 (a ++ b ++ c ++ d)
    ∙ ap events_in_row (sym (ap (λ row. filled 0 (filled 0 row c) d) (filled_twice 0 (replicate k None) a b) ∙ ap (λ row. filled 0 row d) (filled_twice 0 (replicate k None) (a ++ b) c) ∙ filled_twice 0 (replicate k None) (a ++ b ++ c) d))

-- what four columns that fill a row of empty slots in turn are merged to
pub row_merged : (len : ℕ) (a b c d : List Placed) (r0 f1 r1 f2 r2 f3 r3 f4 r4 : List (Option Event)) → length a + length b + length c + length d ≡ len → r0 ≡ replicate len None
    → f1 ≡ filled 0 r0 a → r1 ≡ f1 → f2 ≡ filled 0 r1 b → r2 ≡ f2 → f3 ≡ filled 0 r2 c → r3 ≡ f3 → f4 ≡ filled 0 r3 d → r4 ≡ f4
    → merged a b c d len ≡ option_and_then if_never_fall (events_in_row r4)
row_merged len a b c d r0 f1 r1 f2 r2 f3 r3 f4 r4 counted empty first is_first second is_second third is_third fourth is_fourth =
    let count : length (a ++ b ++ c ++ d) ≡ len = omega (arith, length-append (a ++ b ++ c) d, length-append (a ++ b) c, length-append a b) in
    let one = first ∙ ap (λ row. filled 0 row a) empty in
    let two = second ∙ ap (λ row. filled 0 row b) (is_first ∙ one) in
    let three = third ∙ ap (λ row. filled 0 row c) (is_second ∙ two) in
    let four = fourth ∙ ap (λ row. filled 0 row d) (is_third ∙ three) in
    ap (λ t. cond t (option_and_then if_never_fall (at_positions len 0 (a ++ b ++ c ++ d))) None) (eq-eqb (length (a ++ b ++ c ++ d)) len count)
    ∙ ap (option_and_then if_never_fall) (filled_by_four len a b c d ∙ ap events_in_row (sym (is_fourth ∙ four)))

-- a whole part of a row that was written
pub written_over : (n : ℕ) (written rest : List (Option Event)) → length written ≡ n → take n (written ++ rest) ≡ written
written_over n written rest e =
    take-append-le n written rest (omega arith) ∙ take_all n written (omega arith)
