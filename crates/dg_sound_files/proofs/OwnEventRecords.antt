-- A record of events in whose columns these events stand is read as them, and is right behind those before them.
use Rattle.std.proofs.Common.{◌≡◌, ℕ, ◌≤◌, Bool, true, List, ◌++◌, Result, Ok, length, refl, ◌∙◌, ap, arith}
use Rattle.std.proofs.lemmas.Bool.{and_from, eq-eqb}
use Rattle.dg_columns.specs.ColumnLaws.{EventsAreReadBack, EventsAreMergedBack}
use Rattle.dg_columns.specs.Ranges.{EventsFit}
use Rattle.dg_graph.specs.declared.element.Column.{Column}
use Rattle.dg_graph.specs.declared.element.Column.TheVariants as column
use Rattle.dg_graph.specs.declared.event.Event.{Event}
use Rattle.dg_text.specs.declared.limits.TheConstants.{NAMES_MAX}
use Rattle.dg_graph.specs.declared.placed.Placed.{Placed}
use Rattle.dg_graph.specs.ColumnGrammar.{events_in as read_as_events}
use Rattle.dg_graph.specs.ColumnMerge.{merged}
use Rattle.dg_graph.specs.Columns.{events_column, placed_in}
use Rattle.dg_history.specs.declared.node.Key.{Key}
use Rattle.dg_history.specs.History.{first_time_of, last_time_from}
use Rattle.dg_index.specs.OpenedIndex.{Opened, column_at, entry_at}
use Rattle.dg_sound.specs.OwnEvents.{and_own, are_ends, events_of_record, if_right, events_may_follow, merged_or, placed_in_column, spelled_or, with_record}
use Rattle.dg_columns.proofs.EventRanges.{no_fall}

abbrev by_columns : ℕ → Result (List Placed) Column → Result (List Placed) Column → Result (List Placed) Column → Result (List Placed) Column → Result (List Event) Column
by_columns count a b c d = and_own a (λ a. and_own b (λ b. and_own c (λ c. and_own d (λ d. merged_or (merged a b c d count)))))

pub record_read : EventsAreReadBack → EventsAreMergedBack → (image : List ℕ) (x : Opened) → length x.names ≤ NAMES_MAX → (k : Key) (count : ℕ) (own : List Event)
    → ((col : Column) → column_at image (entry_at x.index k) col ≡ events_column col own) → count ≡ length own → length own ≤ 65536 → EventsFit (length x.names) 0 own
    → events_of_record image x k count ≡ Ok own
record_read back merge image x few k count own there long short fit =
    let n : ℕ = length x.names in
    let col_is : (col : Column) → placed_in_column image x k col ≡ Ok (placed_in col own) =
    λ col. ap (λ (bytes : List ℕ). spelled_or col (read_as_events col n bytes)) (there col)
    ∙ ap (spelled_or col) (back col n own (omega (arith, few)) short fit) in
    (λ i. by_columns (long i) (col_is column.Structure i) (col_is column.NodeAttr i) (col_is column.EdgeAttr i) (col_is column.Transient i))
    ∙ ap merged_or (merge own (no_fall n 0 own fit))

-- the times of events are theirs
pub ends_of : (events : List Event) → are_ends (record { first = first_time_of events; last = last_time_from 0 events }) events ≡ true
ends_of events = and_from _ _ (eq-eqb (first_time_of events) (first_time_of events) refl) (eq-eqb (last_time_from 0 events) (last_time_from 0 events) refl)

pub record_right : (names : List (List ℕ)) (k : Key) (right : List Event → Bool) (before own : List Event) (r : Result (List Event) Column)
    → r ≡ Ok own → right own ≡ true → events_may_follow names before own ≡ true → with_record names k right before r ≡ Ok (before ++ own)
record_right names k right before own r is fine follows =
    ap (with_record names k right before) is
    ∙ ap (λ b. if_right b k (before ++ own)) (and_from (right own) (events_may_follow names before own) fine follows)
