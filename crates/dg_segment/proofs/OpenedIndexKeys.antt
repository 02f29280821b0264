-- A row for each key of a segment, and how many keys are due.
use Rattle.std.proofs.Common.{◌≡◌, ℕ, zero, suc, ◌+◌, ◌-◌, ◌*◌, ◌/◌, ◌^◌, ◌≤◌, Bool, true, false, cond, List, [], ◌∷◌, ◌++◌, length, map, refl, sym, ◌∙◌, arith, length-append, div-mul-le_self, mul_comm, mul-le-mul_right}
use Rattle.std.specs.Prelude.{◌==◌, is_some}
use Rattle.std.proofs.lemmas.Bool.{false≢true}
use Rattle.std.proofs.lemmas.List.{length-map}
use Rattle.dg_history.specs.declared.limits.TheConstants.{EVENTS_MAX}
use Rattle.dg_history.specs.declared.node.Key.{Key}
use Rattle.dg_history.specs.declared.node.Key.TheVariants as key
use Rattle.dg_history.specs.Keys.{is_list}
use Rattle.dg_index.specs.declared.entry.Row.{Row}
use Rattle.dg_index.specs.FileOfHistory.{Segment, Stored, StoredList}
use Rattle.dg_index.specs.Hierarchy.{numbers, leaves, children}
use Rattle.dg_index.specs.IndexGrowth.{IsDue}
use Rattle.dg_index.specs.IndexRecords.{lists_due, deltas_of, deltas_due_at, deltas_due, inner_due}
use Rattle.dg_index.specs.OpenedIndex.{Opening, delta_count, directory_of, event_total, keys_next, list_count, list_row, record_row, rows_in}
use Rattle.dg_index.proofs.HierarchyCounts.{numbers_length, deltas_fit}
use Rattle.dg_index.proofs.IndexRecordColumns.{Each, each_append, each_flat, each_number, each_map}
use Rattle.dg_catalogue.specs.declared.catalogue.TheConstants.{LISTS_MAX}
use Rattle.dg_catalogue.specs.Additions.{Suits}
use Rattle.dg_catalogue.specs.Keys.{IsNumbered}

-- a row with times, and one without
abbrev pub IsTimed : Row → Type 0
IsTimed r = is_some r.ends ≡ true

abbrev pub IsUntimed : Row → Type 0
IsUntimed r = is_some r.ends ≡ false

suits_append : (ks ls : List Key) (rs qs : List Row) → Suits ks rs → Suits ls qs → Suits (ks ++ ls) (rs ++ qs)
suits_append [] ls [] qs a b = b
suits_append [] ls (r ∷ rs) qs a b = absurd a
suits_append (k ∷ ks) ls [] qs a b = absurd a
suits_append (k ∷ ks) ls (r ∷ rs) qs a b = (a.0, a.1, suits_append ks ls rs qs a.2 b)

suits_lists : (a n : ℕ) (rows : List Row) → a + n ≤ LISTS_MAX → length rows ≡ n → Each IsTimed rows → Suits (map (λ i. key.List i) (numbers a n)) rows
suits_lists a zero [] le e all = tt
suits_lists a zero (r ∷ rows) le e all = absurd (omega (arith, e))
suits_lists a (suc n) [] le e all = absurd (omega (arith, e))
suits_lists a (suc n) (r ∷ rows) le e all = (omega (arith, le), all.0, suits_lists (a + 1) n rows (omega (arith, le)) (omega (arith, e)) all.1)

other_numbered : (k : Key) → is_list k ≡ false → IsNumbered k
other_numbered (key.List i) e = absurd (false≢true (sym e))
other_numbered (key.Piece s) e = tt
other_numbered (key.Top h) e = tt
other_numbered (key.Down h c) e = tt

suits_others : (keys : List Key) (rows : List Row) → length keys ≡ length rows → Each (λ (k : Key). is_list k ≡ false) keys → Each IsUntimed rows → Suits keys rows
suits_others [] [] e all none = tt
suits_others [] (r ∷ rows) e all none = absurd (omega (arith, e))
suits_others (k ∷ keys) [] e all none = absurd (omega (arith, e))
suits_others (k ∷ keys) (r ∷ rows) e all none = (other_numbered k all.0, none.0 ∙ sym all.0, suits_others keys rows (omega (arith, e)) all.1 none.1)

deltas_others : (k m after : ℕ) → Each (λ (x : Key). is_list x ≡ false) (deltas_due k m after)
deltas_others k m after = each_flat P (deltas_due_at k m after) (numbers 1 after) (each_number (λ h. Each P (deltas_due_at k m after h)) 1 after (λ h from to. at h))
  where
    P : Key → Type 0
    P x = is_list x ≡ false

    node : (h j : ℕ) → Each (λ (x : Key). is_list x ≡ false) (deltas_of k h j)
    node h j =
        each_append (λ (x : Key). is_list x ≡ false) (cond (j == 1) (key.Top h ∷ []) []) (map (λ c. key.Down h c) (children k j)) (top (j == 1))
        (each_map (λ (x : Key). is_list x ≡ false) (λ c. key.Down h c) (children k j) (each_number (λ c. is_list (key.Down h c) ≡ false) ((j - 1) * k + 1) k (λ c from to. refl)))
      where
        top : (b : Bool) → Each (λ (x : Key). is_list x ≡ false) (cond b (key.Top h ∷ []) [])
        top true = (refl, tt)
        top false = tt

    at : (h : ℕ) → Each (λ (x : Key). is_list x ≡ false) (deltas_due_at k m after h)
    at h = each_flat (λ (x : Key). is_list x ≡ false) (deltas_of k h) (inner_due k m after h) (each_number (λ j. Each (λ (x : Key). is_list x ≡ false) (deltas_of k h j)) (m / k ^ h + 1) (after / k ^ h - m / k ^ h) (λ j from to. node h j))

leaves_few : (l n : ℕ) → 2 ≤ l → n / l ≤ n
leaves_few l n le = omega (arith, div-mul-le_self n l, (let one : 1 ≤ l = omega (arith, le) in mul-le-mul_right (n / l) one), mul_comm l (n / l))

pub suits_due : (o : Opening) (events : ℕ) (lists deltas : List Row) (piece : Row) → 2 ≤ o.params.l → event_total o.batches + events ≤ EVENTS_MAX → length lists ≡ list_count o events → length deltas ≡ delta_count o events
    → Each IsTimed lists → Each IsUntimed deltas → IsUntimed piece → Suits (keys_next o events) (lists ++ (deltas ++ piece ∷ []))
suits_due o events lists deltas piece large few l_is d_is timed untimed last =
    let n = event_total o.batches in
    let m = leaves o.params n in
    let after = leaves o.params (n + events) in
    let a = leaves_few o.params.l n large in
    let b = leaves_few o.params.l (n + events) large in
    let first = suits_lists m (after - m) lists (omega (arith, a, b, few)) l_is timed in
    let second = suits_others (deltas_due o.params.k m after) deltas (sym d_is) (deltas_others o.params.k m after) untimed in
    suits_append (lists_due o.params n (n + events)) (deltas_due o.params.k m after ++ key.Piece (length o.batches) ∷ []) lists (deltas ++ piece ∷ []) first
    (suits_append (deltas_due o.params.k m after) (key.Piece (length o.batches) ∷ []) deltas (piece ∷ []) second (tt, last, tt))

all_timed : (lists : List StoredList) → Each IsTimed (map list_row lists)
all_timed [] = tt
all_timed (x ∷ lists) = (refl, all_timed lists)

all_untimed : (deltas : List Stored) → Each IsUntimed (map record_row deltas)
all_untimed [] = tt
all_untimed (x ∷ deltas) = (refl, all_untimed deltas)

-- the rows of a segment that is due
pub suits_segment : (o : Opening) (s : Segment) → 2 ≤ o.params.l → event_total o.batches + s.events ≤ EVENTS_MAX → IsDue o s → Suits (keys_next o s.events) (rows_in (directory_of s))
suits_segment o s large few due =
    suits_due o s.events (map list_row s.lists) (map record_row s.deltas) (record_row s.piece) large few (length-map s.lists list_row ∙ due.lists) (length-map s.deltas record_row ∙ due.deltas) (all_timed s.lists) (all_untimed s.deltas) refl

-- ---- how many records are due

pub keys_count : (o : Opening) (events : ℕ) → length (keys_next o events) ≡ list_count o events + delta_count o events + 1
keys_count o events =
    let n = event_total o.batches in
    let due = deltas_due o.params.k (leaves o.params n) (leaves o.params (n + events)) in
    omega (arith, length-append (lists_due o.params n (n + events)) (due ++ key.Piece (length o.batches) ∷ []), length-append due (key.Piece (length o.batches) ∷ []), length-map (numbers (leaves o.params n) (leaves o.params (n + events) - leaves o.params n)) (λ i. key.List i), numbers_length (leaves o.params n) (leaves o.params (n + events) - leaves o.params n))

pub keys_few : (o : Opening) (events : ℕ) → 2 ≤ o.params.l → 2 ≤ o.params.k → event_total o.batches + events ≤ EVENTS_MAX → length (keys_next o events) ≤ 4 * EVENTS_MAX + 1
keys_few o events large wide few =
    let n = event_total o.batches in
    omega (arith, keys_count o events, leaves_few o.params.l (n + events) large, deltas_fit o.params.k (leaves o.params n) (leaves o.params (n + events)) wide, few)
