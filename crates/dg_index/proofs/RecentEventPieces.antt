-- The recent pieces by what an index keeps of its batches.
use Rattle.std.proofs.Common.{◌≡◌, ℕ, zero, suc, ◌+◌, ◌-◌, ◌*◌, ◌<◌, Bool, true, false, cond, ◌==◌, List, [], ◌∷◌, ◌++◌, length, map, refl, sym, ap, ◌∙◌, append_assoc, append-nil, length-append, take, drop, take-append-drop}
use Rattle.std.proofs.lemmas.List.{map-append}
use Rattle.std.proofs.lemmas.List.Concat.{flat_map-append}
use Rattle.dg_graph.specs.declared.event.Event.{Event}
use Rattle.dg_history.specs.declared.form.Form.{Form}
use Rattle.dg_history.specs.declared.form.Form.TheVariants as form
use Rattle.dg_history.specs.declared.params.Params.{Params}
use Rattle.dg_history.specs.History.{first_time_of, History, Batch, events_of, last_time_from}
use Rattle.dg_history.proofs.LegalHistories.{events_among}
use Rattle.dg_index.specs.Hierarchy.{leaves}
use Rattle.dg_index.specs.IndexRecords.{piece_of, piece_at, recent_of}
use Rattle.dg_index.specs.FileOfHistory.{segment_of}
use Rattle.dg_index.specs.declared.entry.BatchEntry.{BatchEntry}
use Rattle.dg_index.specs.OpenedIndex.{Opened, bare, with_marker, with_segment, opened_in, opened_onto, opened_of}
use Rattle.dg_index.specs.RecentEvents.{recent_pieces, RecentPiece, pieces_ahead}
use Rattle.dg_index.proofs.IndexRecordColumns.{piece_there}
use Rattle.dg_index.proofs.RecentEvents.{together, recent_pieces_are}

abbrev pub noted : Batch → BatchEntry
noted b = record { events = length b.events; ends = record { first = first_time_of b.events; last = last_time_from 0 b.events }; names = length b.names }

batches_onto : (p : Params) (x : Opened) (before : List Event) (batches : List Batch) → (opened_onto p x before batches).index.batches ≡ x.index.batches ++ map noted batches
batches_onto p x before [] = sym (append-nil x.index.batches)
batches_onto p x before (b ∷ batches) = batches_onto p (with_segment x (segment_of p before b)) (before ++ b.events) batches ∙ append_assoc x.index.batches (noted b ∷ []) (map noted batches)

batches_in : (f : Form) (p : Params) (batches : List Batch) → (opened_in f p batches).index.batches ≡ map noted batches
batches_in form.One p batches = batches_onto p (bare form.One p) [] batches
batches_in form.Two p batches = batches_onto p (bare form.Two p) [] batches
batches_in (form.Upgraded n) p batches =
    let xs : List Batch = take n batches in
    let ys : List Batch = drop n batches in
    let x : Opened = opened_onto p (bare form.One p) [] xs in
    batches_onto p (with_marker x) (events_among xs) ys ∙ ap (λ (l : List BatchEntry). l ++ map noted ys) (batches_onto p (bare form.One p) [] xs)
    ∙ sym (map-append noted xs ys) ∙ ap (map noted) (take-append-drop n batches)

pub batches_of : (z : History) → (opened_of z).index.batches ≡ map noted z.batches
batches_of z = batches_in z.form z.params z.batches

module _ (z : History) where
  -- the piece that is ahead
  pieces : List RecentPiece → List (List Event)
  pieces kept = map (λ (a : RecentPiece). piece_at z.params [] z.batches a.number) kept

  pub pieces_are : (front batches : List Batch) (kept : List RecentPiece) → z.batches ≡ front ++ batches
      → map (λ (a : RecentPiece). piece_at z.params [] z.batches a.number) (pieces_ahead z.params (length front) (length (events_among front)) kept (map noted batches))
      ≡ recent_pieces z.params (events_among front) (map (λ (a : RecentPiece). piece_at z.params [] z.batches a.number) kept) batches
  pieces_are front [] kept is = refl
  pieces_are front (b ∷ more) kept is =
      let p : Params = z.params in
      let before : List Event = events_among front in
      let n : ℕ = length before in
      let after : ℕ = leaves p (n + length b.events) in
      let same : Bool = after == leaves p n in
      let one : RecentPiece = record { number = length front; count = length b.events - (after * p.l - n); batch = noted b } in
      let next : List RecentPiece = cond same kept [] ++ one ∷ [] in
      let events : events_among (front ++ b ∷ []) ≡ before ++ b.events = flat_map-append (λ (b : Batch). b.events) front (b ∷ []) ∙ ap (λ (l : List Event). before ++ l) (append-nil b.events) in
      let number : length (front ++ b ∷ []) ≡ length front + 1 = length-append front (b ∷ []) in
      let count : length (events_among (front ++ b ∷ [])) ≡ n + length b.events = ap length events ∙ length-append before b.events in
      let piece : piece_at p [] z.batches (length front) ≡ piece_of p before b = ap (λ (l : List Batch). piece_at p [] l (length front)) is ∙ piece_there p [] front b more in
      let kept_are : map (λ (a : RecentPiece). piece_at z.params [] z.batches a.number) next ≡ cond same (map (λ (a : RecentPiece). piece_at z.params [] z.batches a.number) kept) [] ++ piece_of p before b ∷ [] =
      map-append (λ (a : RecentPiece). piece_at z.params [] z.batches a.number) (cond same kept []) (one ∷ []) ∙ (λ i. chosen same kept i ++ piece i ∷ []) in
      (λ i. map (λ (a : RecentPiece). piece_at z.params [] z.batches a.number) (pieces_ahead p (sym number i) (sym count i) next (map noted more)))
      ∙ pieces_are (front ++ b ∷ []) more next (is ∙ sym (append_assoc front (b ∷ []) more))
      ∙ (λ i. recent_pieces p (events i) (kept_are i) more)
    where
      chosen : (s : Bool) (kept : List RecentPiece) → map (λ (a : RecentPiece). piece_at z.params [] z.batches a.number) (cond s kept []) ≡ cond s (map (λ (a : RecentPiece). piece_at z.params [] z.batches a.number) kept) []
      chosen true kept = refl
      chosen false kept = refl

abbrev none_yet : List Event
none_yet = []

-- the pieces that an index of the history says are recent hold its recent events
pub recent_read : (z : History) → 0 < z.params.l
    → together (map (λ (a : RecentPiece). piece_at z.params [] z.batches a.number) (pieces_ahead z.params 0 0 [] (opened_of z).index.batches)) ≡ recent_of z.params (events_of z)
recent_read z pos =
    ap (λ (l : List BatchEntry). together (map (λ (a : RecentPiece). piece_at z.params [] z.batches a.number) (pieces_ahead z.params 0 0 [] l))) (batches_of z)
    ∙ ap together (pieces_are z [] z.batches [] refl)
    ∙ recent_pieces_are z.params pos z.batches [] [] (empty z.params)
  where
    none : (n : ℕ) → none_yet ≡ drop n none_yet
    none zero = refl
    none (suc n) = refl

    empty : (p : Params) → none_yet ≡ recent_of p none_yet
    empty p = none (leaves p 0 * p.l)
