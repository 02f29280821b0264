-- The batch of a segment in the first form has no message: its piece and the lists that it closes tell of none.
use Rattle.std.proofs.Common.{◌≡◌, ℕ, zero, suc, ◌+◌, ◌-◌, ◌*◌, ◌<◌, ◌≤◌, Bool, true, false, cond, not, List, [], ◌∷◌, ◌++◌, length, take, drop, filter, refl, sym, ap, subst, ◌∙◌, arith, append_assoc, length-append, add-mul, div-mul-le_self, take-add}
use lib.Seq.{take-append-le}
use Rattle.std.proofs.lemmas.Bool.{and_from}
use Rattle.std.proofs.lemmas.List.{drop_at, drop-take, take-append-drop}
use Rattle.std.proofs.lemmas.List.Concat.{flat_map-append}
use Rattle.dg_graph.specs.declared.element.Column.TheVariants as column
use Rattle.dg_graph.specs.declared.event.Body.{Body}
use Rattle.dg_graph.specs.declared.event.Body.TheVariants as body
use Rattle.dg_graph.specs.declared.event.Event.{Event}
use Rattle.dg_graph.specs.declared.placed.Placed.{Placed}
use Rattle.dg_graph.specs.Columns.{column_of_body, counted, events_column, placed_from, same_column}
use Rattle.dg_history.specs.declared.node.Key.{Key}
use Rattle.dg_history.specs.declared.node.Key.TheVariants as key
use Rattle.dg_history.specs.History.{Batch, History, events_of}
use Rattle.dg_history.specs.LegalHistory.{are_silent, is_message}
use Rattle.dg_history.proofs.LegalHistories.{events_among}
use Rattle.dg_index.specs.Hierarchy.{leaves}
use Rattle.dg_index.specs.IndexRecords.{closed_list, column_in, piece_at}
use Rattle.dg_index.specs.OpenedIndex.{laid, total}
use Rattle.dg_index.specs.declared.entry.Row.{Row}
use Rattle.dg_index.proofs.HierarchyStability.{leaves_more}
use Rattle.dg_index.proofs.IndexRecordColumns.{Each, IsKept, list_right, piece_there}
use Rattle.dg_index.proofs.UnheardRecords.{silent_append, silent_parts}
use Rattle.dg_sound_files.proofs.ImageTextDirectories.{IsUnheard}

-- ---- events without a message

silent_front : (n : ℕ) (events : List Event) → are_silent events ≡ true → are_silent (take n events) ≡ true
silent_front n events e = (silent_parts (take n events) (drop n events) (ap are_silent (take-append-drop n events) ∙ e)).0

silent_rest : (n : ℕ) (events : List Event) → are_silent events ≡ true → are_silent (drop n events) ≡ true
silent_rest n events e = (silent_parts (take n events) (drop n events) (ap are_silent (take-append-drop n events) ∙ e)).1

-- only messages stand in their column
column_told : (b : Body) → same_column (column_of_body b) column.Transient ≡ is_message b
column_told (body.NodeAdded id) = refl
column_told (body.NodeRemoved id) = refl
column_told (body.EdgeAdded directed id src dst) = refl
column_told (body.EdgeRemoved directed id src dst) = refl
column_told (body.NodeAttr key id old new) = refl
column_told (body.EdgeAttr key id old new) = refl
column_told (body.Message src dst value) = refl

nothing_counted : (placed : List Placed) → counted placed ≡ [] → placed ≡ []
nothing_counted [] e = refl
nothing_counted (p ∷ placed) e = absurd cc

abbrev messages : List Placed → List Placed
messages placed = filter (λ (p : Placed). same_column (column_of_body p.event.body) column.Transient) placed

none_placed : (n : ℕ) (events : List Event) → messages (placed_from n events) ≡ [] → are_silent events ≡ true
none_placed n [] e = refl
none_placed n (x ∷ events) e = by (none_placed (n + 1) events) (is_message x.body) refl (ap (λ b. cond b (record { at = n; event = x } ∷ messages (placed_from (n + 1) events)) (messages (placed_from (n + 1) events))) (sym (column_told x.body)) ∙ e)
  where
    by : (messages (placed_from (n + 1) events) ≡ [] → are_silent events ≡ true) → (b : Bool) → is_message x.body ≡ b
        → cond b (record { at = n; event = x } ∷ messages (placed_from (n + 1) events)) (messages (placed_from (n + 1) events)) ≡ [] → are_silent (x ∷ events) ≡ true
    by more true is e = absurd cc
    by more false is e = and_from (not (is_message x.body)) _ (ap not is) (more e)

-- where their column has no byte, none of the events is a message
silent_of : (events : List Event) → events_column column.Transient events ≡ [] → are_silent events ≡ true
silent_of events e = none_placed 0 events (nothing_counted (messages (placed_from 0 events)) e)

-- ---- keys whose rows tell of no messages

-- the record has no messages
abbrev pub IsSilent : History → Key → Type 0
IsSilent z k = column_in z k column.Transient ≡ []

pub laid_unheard : (z : History) (image : List ℕ) (offset : ℕ) (keys : List Key) (rows : List Row) → length keys ≡ length rows → Each IsUnheard rows → Each (IsKept z image) (laid offset keys rows) → Each (IsSilent z) keys
laid_unheard z image offset [] rows long unheard kept = tt
laid_unheard z image offset (k ∷ keys) [] long unheard kept = absurd (omega (arith, long))
laid_unheard z image offset (k ∷ keys) (r ∷ rows) long unheard kept = (
  sym (kept.0 column.Transient) ∙ ap (λ n. take n (drop (offset + r.lengths.structure + r.lengths.node_attrs + r.lengths.edge_attrs) image)) unheard.0,
  laid_unheard z image (offset + total r.lengths) keys rows (omega (arith, long)) unheard.1 kept.1,
)

-- ---- one segment

module _ (z : History) (pos : 0 < z.params.l) (arity : 0 < z.params.k) (front : List Batch) (b : Batch) (more : List Batch) (is : z.batches ≡ front ++ b ∷ more) where
  abbrev before : List Event
  before = events_among front

  abbrev all : List Event
  all = events_among front ++ b.events

  abbrev m : ℕ
  m = leaves z.params (length (events_among front))

  abbrev after : ℕ
  after = leaves z.params (length (events_among front) + length b.events)

  whole : events_of z ≡ (events_among front ++ b.events) ++ events_among more
  whole = ap events_among is ∙ flat_map-append (λ (b : Batch). b.events) front (b ∷ more) ∙ sym (append_assoc before b.events (events_among more))

  after_within : after * z.params.l ≤ length all
  after_within = subst (λ c. after * z.params.l ≤ c) (sym (length-append before b.events)) (div-mul-le_self (length before + length b.events) z.params.l)

  -- as far as its lists reach there is no message
  lists_silent : are_silent before ≡ true → ((j : ℕ) → m ≤ j → j < after → IsSilent z (key.List j)) → (n : ℕ) → m + n ≤ after → are_silent (take ((m + n) * z.params.l) all) ≡ true
  lists_silent silent lists zero le =
      let l : ℕ = z.params.l in
      let under : m * l ≤ length before = div-mul-le_self (length before) l in
      ap (λ c. are_silent (take (c * l) all)) (let e : m + 0 ≡ m = omega arith in e) ∙ ap are_silent (take-append-le (m * l) before b.events under) ∙ silent_front (m * l) before silent
  lists_silent silent lists (suc n) le =
      let l : ℕ = z.params.l in
      let i : ℕ = m + n in
      let sum : (m + suc n) * l ≡ i * l + l = ap (λ c. c * l) (let e : m + suc n ≡ m + n + 1 = omega arith in e) ∙ omega (arith, add-mul (m + n) 1 l) in
      let up : (i + 1) * l ≤ after * l = subst (λ c. (i + 1) * l ≤ c * l) (let e : i + 1 + (after - (i + 1)) ≡ after = omega (arith, le) in e) (omega (arith, add-mul (i + 1) (after - (i + 1)) l)) in
      let same = list_right z all (events_among more) pos arity whole i (omega (arith, up, after_within)) in
      let here : are_silent (closed_list z.params all i) ≡ true = silent_of (closed_list z.params all i) (ap (events_column column.Transient) same ∙ lists i (omega arith) (omega (arith, le))) in
      ap (λ c. are_silent (take c all)) sum ∙ ap are_silent (take-add (i * l) l all) ∙ silent_append (take (i * l) all) (closed_list z.params all i) (lists_silent silent lists n (omega (arith, le))) here

  -- nor is there one behind them
  pub batch_silent : are_silent before ≡ true → ((j : ℕ) → m ≤ j → j < after → IsSilent z (key.List j)) → IsSilent z (key.Piece (length front)) → are_silent all ≡ true
  batch_silent silent lists piece =
      let l : ℕ = z.params.l in
      let k : ℕ = after * l - length before in
      let up : m ≤ after = leaves_more l (length before) (length b.events) pos in
      let listed : are_silent (take (after * l) all) ≡ true = ap (λ c. are_silent (take (c * l) all)) (let e : after ≡ m + (after - m) = omega (arith, up) in e) ∙ lists_silent silent lists (after - m) (omega (arith, up)) in
      let piece_is : piece_at z.params [] z.batches (length front) ≡ drop k b.events = ap (λ (l : List Batch). piece_at z.params [] l (length front)) is ∙ piece_there z.params [] front b more in
      let behind : are_silent (drop k b.events) ≡ true = silent_of (drop k b.events) (ap (events_column column.Transient) (sym piece_is) ∙ piece) in
      let first : are_silent (take k b.events) ≡ true = ap are_silent (first_part k refl) ∙ silent_rest (length before) (take (length before + k) all) (reached k refl listed) in
      silent_append before b.events silent (ap are_silent (sym (take-append-drop k b.events)) ∙ silent_append (take k b.events) (drop k b.events) first behind)
    where
      first_part : (k : ℕ) → after * z.params.l - length before ≡ k → take k b.events ≡ drop (length before) (take (length before + k) all)
      first_part k e = ap (take k) (sym (drop_at before b.events (length before) refl)) ∙ sym (drop-take (length before) k all)

      reached : (k : ℕ) → after * z.params.l - length before ≡ k → are_silent (take (after * z.params.l) all) ≡ true → are_silent (take (length before + k) all) ≡ true
      reached zero e listed =
          ap (λ c. are_silent (take c all)) (let z : length before + 0 ≡ length before = omega arith in z) ∙ ap are_silent (take-append-le (length before) before b.events (omega arith)) ∙ silent_front (length before) before silent
      reached (suc k) e listed = ap (λ c. are_silent (take c all)) (let z : length before + suc k ≡ after * z.params.l = omega (arith, e) in z) ∙ listed
