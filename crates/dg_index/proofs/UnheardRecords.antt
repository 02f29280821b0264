-- Deltas have no messages, and where no event is a message no record has one.
use Rattle.std.proofs.Common.{◌≡◌, ℕ, zero, suc, ◌+◌, ◌-◌, ◌*◌, Bool, true, false, cond, not, List, [], ◌∷◌, ◌++◌, length, take, drop, map, refl, ap, ◌∙◌, filter}
use Rattle.std.specs.Prelude.{◌==◌}
use Rattle.std.specs.List.{flat_map}
use Rattle.std.proofs.lemmas.Bool.{and_from, and_parts, false≢true}
use Rattle.dg_graph.specs.declared.element.Column.TheVariants as column
use Rattle.dg_graph.specs.declared.event.Body.{Body}
use Rattle.dg_graph.specs.declared.event.Body.TheVariants as body
use Rattle.dg_graph.specs.declared.event.Event.{Event}
use Rattle.dg_graph.specs.declared.placed.Placed.{Placed}
use Rattle.dg_graph.specs.Columns.{column_of_body, counted, events_column, placed_from, same_column}
use Rattle.dg_history.specs.declared.node.Key.{Key}
use Rattle.dg_history.specs.declared.node.Key.TheVariants as key
use Rattle.dg_history.specs.declared.params.Params.{Params}
use Rattle.dg_history.specs.History.{Batch}
use Rattle.dg_history.specs.LegalHistory.{is_message, are_silent}
use Rattle.dg_index.specs.FileOfHistory.{Stored, StoredList, Segment, segment_of, stored, stored_in, stored_list}
use Rattle.dg_index.specs.Hierarchy.{children, leaves, numbers}
use Rattle.dg_index.specs.IndexRecords.{closed_list, deltas_due, deltas_due_at, deltas_of, inner_due, piece_of, record_among}
use Rattle.dg_index.specs.OpenedIndex.{AreUnheard, are_unheard, record_row}

pub unheard_append : (xs ys : List Stored) → AreUnheard xs → AreUnheard ys → AreUnheard (xs ++ ys)
unheard_append [] ys a b = b
unheard_append (x ∷ xs) ys a b = (a.0, unheard_append xs ys a.1 b)

pub unheard_parts : (xs ys : List Stored) → AreUnheard (xs ++ ys) → AreUnheard xs × AreUnheard ys
unheard_parts [] ys all = (tt, all)
unheard_parts (x ∷ xs) ys all =
    let more = unheard_parts xs ys all.1 in
    ((all.0, more.0), more.1)

-- the rows of deltas tell it
pub unheard_rows : (all : List Stored) → AreUnheard all → are_unheard (map record_row all) ≡ true
unheard_rows [] u = refl
unheard_rows (s ∷ all) u = and_from (length s.transient == 0) _ (ap (λ (l : List ℕ). length l == 0) u.0) (unheard_rows all u.1)

-- ---- deltas

module _ (f : Key → Stored) where
  keys_append : (xs ys : List Key) → AreUnheard (map f xs) → AreUnheard (map f ys) → AreUnheard (map f (xs ++ ys))
  keys_append [] ys a b = b
  keys_append (x ∷ xs) ys a b = (a.0, keys_append xs ys a.1 b)

  keys_flat : (g : ℕ → List Key) (xs : List ℕ) → ((n : ℕ) → AreUnheard (map f (g n))) → AreUnheard (map f (flat_map g xs))
  keys_flat g [] each = tt
  keys_flat g (x ∷ xs) each = keys_append (g x) (flat_map g xs) (each x) (keys_flat g xs each)

  keys_map : (g : ℕ → Key) (xs : List ℕ) → ((n : ℕ) → (f (g n)).transient ≡ []) → AreUnheard (map f (map g xs))
  keys_map g [] each = tt
  keys_map g (x ∷ xs) each = (each x, keys_map g xs each)

module _ (p : Params) (events : List Event) where
  stored_at : Key → Stored
  stored_at k = stored (record_among p events [] k)

  node_unheard : (k h j : ℕ) → AreUnheard (map (λ k. stored (record_among p events [] k)) (deltas_of k h j))
  node_unheard k h j =
      keys_append (λ k. stored (record_among p events [] k)) (cond (j == 1) (key.Top h ∷ []) []) (map (λ c. key.Down h c) (children k j)) (top (j == 1))
      (keys_map (λ k. stored (record_among p events [] k)) (λ c. key.Down h c) (children k j) (λ c. refl))
    where
      top : (b : Bool) → AreUnheard (map (λ k. stored (record_among p events [] k)) (cond b (key.Top h ∷ []) []))
      top true = (refl, tt)
      top false = tt

  pub deltas_unheard : (k m after : ℕ) → AreUnheard (map (λ k. stored (record_among p events [] k)) (deltas_due k m after))
  deltas_unheard k m after =
      keys_flat (λ k. stored (record_among p events [] k)) (deltas_due_at k m after) (numbers 1 after)
      (λ h. keys_flat (λ k. stored (record_among p events [] k)) (deltas_of k h) (inner_due k m after h) (node_unheard k h))

-- ---- events

pub silent_parts : (xs ys : List Event) → are_silent (xs ++ ys) ≡ true → (are_silent xs ≡ true) × (are_silent ys ≡ true)
silent_parts [] ys e = (refl, e)
silent_parts (x ∷ xs) ys e =
    let a = and_parts (not (is_message x.body)) _ e in
    let more = silent_parts xs ys a.1 in
    (and_from (not (is_message x.body)) _ a.0 more.0, more.1)

pub silent_append : (xs ys : List Event) → are_silent xs ≡ true → are_silent ys ≡ true → are_silent (xs ++ ys) ≡ true
silent_append [] ys a b = b
silent_append (x ∷ xs) ys a b =
    let parts = and_parts (not (is_message x.body)) _ a in
    and_from (not (is_message x.body)) _ parts.0 (silent_append xs ys parts.1 b)

silent_drop : (n : ℕ) (xs : List Event) → are_silent xs ≡ true → are_silent (drop n xs) ≡ true
silent_drop zero xs e = e
silent_drop (suc n) [] e = refl
silent_drop (suc n) (x ∷ xs) e = silent_drop n xs (and_parts (not (is_message x.body)) _ e).1

silent_take : (n : ℕ) (xs : List Event) → are_silent xs ≡ true → are_silent (take n xs) ≡ true
silent_take zero xs e = refl
silent_take (suc n) [] e = refl
silent_take (suc n) (x ∷ xs) e =
    let parts = and_parts (not (is_message x.body)) _ e in
    and_from (not (is_message x.body)) _ parts.0 (silent_take n xs parts.1)

other_column : (b : Body) → not (is_message b) ≡ true → same_column (column_of_body b) column.Transient ≡ false
other_column (body.NodeAdded id) e = refl
other_column (body.NodeRemoved id) e = refl
other_column (body.EdgeAdded directed id src dst) e = refl
other_column (body.EdgeRemoved directed id src dst) e = refl
other_column (body.NodeAttr key id old new) e = refl
other_column (body.EdgeAttr key id old new) e = refl
other_column (body.Message src dst value) e = absurd (false≢true e)

none_placed : (n : ℕ) (events : List Event) → are_silent events ≡ true → filter (λ (p : Placed). same_column (column_of_body p.event.body) column.Transient) (placed_from n events) ≡ []
none_placed n [] e = refl
none_placed n (x ∷ events) e =
    let parts = and_parts (not (is_message x.body)) _ e in
    ap (λ b. cond b (record { at = n; event = x } ∷ filter (λ (p : Placed). same_column (column_of_body p.event.body) column.Transient) (placed_from (n + 1) events)) (filter (λ (p : Placed). same_column (column_of_body p.event.body) column.Transient) (placed_from (n + 1) events))) (other_column x.body parts.0)
    ∙ none_placed (n + 1) events parts.1

-- events without a message have no column of messages
pub silent_column : (events : List Event) → are_silent events ≡ true → events_column column.Transient events ≡ []
silent_column events e = ap counted (none_placed 0 events e)

lists_unheard : (p : Params) (events : List Event) (numbers : List ℕ) → are_silent events ≡ true → AreUnheard (map (λ (x : StoredList). x.columns) (map (stored_list p events) numbers))
lists_unheard p events [] e = tt
lists_unheard p events (i ∷ more) e =
    (silent_column (closed_list p events i) (silent_take p.l (drop (i * p.l) events) (silent_drop (i * p.l) events e)), lists_unheard p events more e)

-- nor has a segment
pub segment_unheard : (p : Params) (before : List Event) (b : Batch) → are_silent (before ++ b.events) ≡ true → AreUnheard (stored_in (segment_of p before b))
segment_unheard p before b e =
    let s : Segment = segment_of p before b in
    let m : ℕ = leaves p (length before) in
    let after : ℕ = leaves p (length before + length b.events) in
    let one = silent_drop (after * p.l - length before) b.events (silent_parts before b.events e).1 in
    unheard_append (map (λ (x : StoredList). x.columns) s.lists) (s.deltas ++ s.piece ∷ []) (lists_unheard p (before ++ b.events) (numbers m (after - m)) e)
    (unheard_append s.deltas (s.piece ∷ []) (deltas_unheard p (before ++ b.events) p.k m after) (silent_column (piece_of p before b) one, tt))
