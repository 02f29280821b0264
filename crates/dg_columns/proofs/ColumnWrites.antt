-- Writing events one after another, as a loop does.
use Rattle.std.proofs.Common.{◌≡◌, ℕ, ◌+◌, ◌<◌, ◌≤◌, true, false, cond, List, [], ◌∷◌, ◌++◌, length, drop, filter, get_or, Result, Ok, Err, is_ok, refl, ap, ◌∙◌, arith}
use Rattle.std.specs.Prelude.{OnOk}
use Rattle.std.specs.declared.alloc.AllocError.{AllocError}
use Rattle.std.specs.List.{flat_map}
use Rattle.std.proofs.lemmas.List.{drop_more, drop_all}
use Rattle.dg_graph.specs.declared.element.Column.{Column}
use Rattle.dg_graph.specs.declared.event.Event.{Event}
use Rattle.dg_graph.specs.declared.placed.Placed.{Placed}
use Rattle.dg_graph.specs.Columns.{four, same_column, column_of_body, placed_from, placed_bytes, counted}

-- the events of the column from the position on
abbrev pub placed_after : Column → ℕ → List Event → List Placed
placed_after col i events =
    filter (λ p. same_column (column_of_body p.event.body) col) (placed_from i (drop i events))

after_step : (col : Column) (i : ℕ) (events : List Event) (d : Event) → i < length events → placed_after col i events ≡ cond (same_column (column_of_body (get_or events i d).body) col) (record { at = i; event = get_or events i d } ∷ placed_after col (i + 1) events) (placed_after col (i + 1) events)
after_step col i events d lt =
    ap (λ rest. filter (λ p. same_column (column_of_body p.event.body) col) (placed_from i rest)) (drop_more events i d lt)

pub after_in : (col : Column) (i : ℕ) (events : List Event) (d : Event) → i < length events → same_column (column_of_body (get_or events i d).body) col ≡ true → placed_after col i events ≡ record { at = i; event = get_or events i d } ∷ placed_after col (i + 1) events
after_in col i events d lt e =
    after_step col i events d lt
    ∙ ap (λ b. cond b (record { at = i; event = get_or events i d } ∷ placed_after col (i + 1) events) (placed_after col (i + 1) events)) e

pub after_out : (col : Column) (i : ℕ) (events : List Event) (d : Event) → i < length events → same_column (column_of_body (get_or events i d).body) col ≡ false → placed_after col i events ≡ placed_after col (i + 1) events
after_out col i events d lt e =
    after_step col i events d lt
    ∙ ap (λ b. cond b (record { at = i; event = get_or events i d } ∷ placed_after col (i + 1) events) (placed_after col (i + 1) events)) e

pub after_all : (col : Column) (i : ℕ) (events : List Event) → length events ≤ i → placed_after col i events ≡ []
after_all col i events le =
    ap (λ rest. filter (λ p. same_column (column_of_body p.event.body) col) (placed_from i rest)) (drop_all i events le)

pub counted_some : (ps : List Placed) → 0 < length ps → counted ps ≡ four (length ps) ++ flat_map placed_bytes ps
counted_some [] h = absurd (omega arith)
counted_some (p ∷ ps) h = refl

pub counted_none : (ps : List Placed) → length ps ≡ 0 → counted ps ≡ []
counted_none [] e = refl
counted_none (p ∷ ps) e = absurd (omega arith)

-- what a call appended, as it is spelled
pub appended : (result : Result Unit AllocError) (old new bytes text : List ℕ) → new ≡ cond (is_ok result) (old ++ bytes) old → bytes ≡ text → OnOk result (new ≡ old ++ text)
appended (Ok u) old new bytes text e is = e ∙ ap (λ (t : List ℕ). old ++ t) is
appended (Err u) old new bytes text e is = tt
