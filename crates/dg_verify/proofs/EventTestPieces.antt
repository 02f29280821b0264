-- How the pieces of an index are read or compared, one after another.
use Rattle.std.proofs.Common.{◌≡◌, ℕ, ◌+◌, ◌≤◌, Bool, true, false, ◌&&◌, List, [], ◌∷◌, Option, Some, None, Result, Ok, Err, if◌then◌else◌, length, drop, take, slice_get, refl, sym, ◌∙◌, ap, subst, arith}
use Rattle.std.specs.Option.{option_or}
use Rattle.std.proofs.lemmas.List.{drop_all}
use Rattle.std.proofs.lemmas.List.Sums.{sum_by-cons}
use Rattle.dg_graph.specs.declared.element.Column.{Column}
use Rattle.dg_graph.specs.declared.element.Column.TheVariants as column
use Rattle.dg_graph.specs.declared.event.Event.{Event}
use Rattle.dg_graph.specs.Columns.{events_column}
use Rattle.dg_history.specs.declared.node.Key.{Key}
use Rattle.dg_history.specs.declared.node.Key.TheVariants as key
use Rattle.dg_index.specs.FileOfHistory.{Stored}
use Rattle.dg_index.specs.OpenedIndex.{Opened, Opening, event_total}
use Rattle.dg_index.specs.declared.entry.BatchEntry.{BatchEntry}
use Rattle.dg_sound.specs.OwnEvents.{and_own, has_batch_ends, if_columns, is_column_of, listed_events, own_events, piece_length, piece_start, with_older, with_piece_events, with_pieces}
use Rattle.dg_start.specs.EventSources.{WhereTold}
use Rattle.dg_start.proofs.EventSourceSources.{from_here}
use Rattle.dg_verify.specs.declared.own_events.OwnEvents.{OwnEvents}
use Rattle.dg_verify.specs.declared.stop.Stop.{Stop}
use Rattle.dg_verify.specs.declared.stop.Stop.TheVariants as stop
use Rattle.dg_verify.specs.EventTests.{IsStopBehind, tested}
use Rattle.dg_verify.specs.Verification.{IsStop, IsWrong, keyed_column, opened_with, unlike_events}
use Rattle.dg_verify.proofs.EventTestRecords.{stops_on, stops_so, tested_then, then_behind}

-- All pieces are read as these events, tested, with the pieces from this one on, and so many events stand before its
-- batch.
pub record PiecesGoOn (told : Option (List ℕ)) (x : Opened) (listed : OwnEvents) (number before : ℕ) (own : OwnEvents) : Type 0 where
  pub goes_on : WhereTold told (λ image. tested x.names listed (with_pieces image x listed.events.items 0 0 x.index.batches)
      ≡ tested x.names own (with_pieces image x own.events.items number before (drop number x.index.batches)))
  pub counted : before + event_total (drop number x.index.batches) ≡ event_total x.index.batches

module _ (told : Option (List ℕ)) (x : Opened) (listed : OwnEvents) (number before : ℕ) (own : OwnEvents) (b : BatchEntry)
    (there : slice_get x.index.batches number ≡ Some b) (so_far : PiecesGoOn told x listed number before own) where
  here : drop number x.index.batches ≡ b ∷ drop (number + 1) x.index.batches
  here = from_here x.index.batches number b there

  next_piece : (image : List ℕ) → told ≡ Some image → tested x.names listed (with_pieces image x listed.events.items 0 0 x.index.batches)
      ≡ tested x.names own (and_own (with_piece_events image x own.events.items number before b) (λ events. with_pieces image x events (number + 1) (before + b.events) (drop (number + 1) x.index.batches)))
  next_piece image h = so_far.goes_on image h ∙ ap (λ (bs : List BatchEntry). tested x.names own (with_pieces image x own.events.items number before bs)) here

  pub one_pieced : (after : OwnEvents) → WhereTold told (λ image. tested x.names own (with_piece_events image x own.events.items number before b) ≡ tested x.names after (Ok after.events.items))
      → PiecesGoOn told x listed (number + 1) (before + b.events) after
  one_pieced after pieced = record {
    goes_on = λ image h.
        next_piece image h
        ∙ then_behind x.names own after (with_piece_events image x own.events.items number before b)
        (λ events. with_pieces image x events (number + 1) (before + b.events) (drop (number + 1) x.index.batches)) (pieced image h);
    counted = omega (arith, so_far.counted, ap event_total here, sum_by-cons (λ (b : BatchEntry). b.events) b (drop (number + 1) x.index.batches));
  }

  pub piece_stops : (s : Stop) (after : OwnEvents) → WhereTold told (λ image. IsStopBehind x.names after s (tested x.names own (with_piece_events image x own.events.items number before b)))
      → WhereTold told (λ image. IsStopBehind x.names after s (tested x.names listed (with_pieces image x listed.events.items 0 0 x.index.batches)))
  piece_stops s after stopped image h =
      stops_so s x.names after
      (tested x.names own (and_own (with_piece_events image x own.events.items number before b) (λ events. with_pieces image x events (number + 1) (before + b.events) (drop (number + 1) x.index.batches))))
      (tested x.names listed (with_pieces image x listed.events.items 0 0 x.index.batches)) (sym (next_piece image h))
      (stops_on s x.names own after (with_piece_events image x own.events.items number before b)
      (λ events. with_pieces image x events (number + 1) (before + b.events) (drop (number + 1) x.index.batches)) (stopped image h))

pub all_pieced : (told : Option (List ℕ)) (x : Opened) (listed : OwnEvents) (number before : ℕ) (own : OwnEvents) → length x.index.batches ≤ number → PiecesGoOn told x listed number before own
    → WhereTold told (λ image. tested x.names listed (with_pieces image x listed.events.items 0 0 x.index.batches) ≡ tested x.names own (Ok own.events.items))
all_pieced told x listed number before own past so_far image h =
    so_far.goes_on image h
    ∙ ap (λ (bs : List BatchEntry). tested x.names own (with_pieces image x own.events.items number before bs)) (drop_all number x.index.batches past)

-- how many events there are at last
pub all_counted : (told : Option (List ℕ)) (x : Opened) (listed : OwnEvents) (number before : ℕ) (own : OwnEvents) → length x.index.batches ≤ number → PiecesGoOn told x listed number before own
    → before ≡ event_total x.index.batches
all_counted told x listed number before own past so_far =
    let none : event_total (drop number x.index.batches) ≡ 0 = ap event_total (drop_all number x.index.batches past) in
    omega (arith, none, so_far.counted)

-- the events of all lists, tested, with all pieces
pub own_by_pieces : (image : List ℕ) (x : Opened) (own : OwnEvents) → listed_events image x ≡ tested x.names own (Ok own.events.items)
    → own_events image x ≡ tested x.names own (with_pieces image x own.events.items 0 0 x.index.batches)
own_by_pieces image x own listed =
    ap (λ r. and_own r (λ events. with_pieces image x events 0 0 x.index.batches)) listed
    ∙ tested_then x.names own (Ok own.events.items) (λ events. with_pieces image x events 0 0 x.index.batches)

-- ---- an older piece

-- the events, or the column that is not right
abbrev as_result : Key → List Event → Option Column → Result (List Event) (Key × Column)
as_result k events None = Ok events
as_result k events (Some col) = Err (k, col)

by_columns : (a b c d ends : Bool) (k : Key) (events : List Event) → ends ≡ true
    → if_columns (a && ends) b c d k events
    ≡ as_result k events (option_or (if a then (if b then (if c then None else Some column.EdgeAttr) else Some column.NodeAttr) else Some column.Structure) (if d then None else Some column.Transient))
by_columns true true true true ends k events h = ap (λ e. if_columns e true true true k events) h
by_columns true true true false ends k events h = ap (λ e. if_columns e true true false k events) h
by_columns true true false d ends k events h = ap (λ e. if_columns e true false d k events) h
by_columns true false c d ends k events h = ap (λ e. if_columns e false c d k events) h
by_columns false b c d ends k events h = refl

stops_result : (s : Stop) (k : Key) (events : List Event) (u : Option Column) → IsWrong s (keyed_column k u) → IsStop s (as_result k events u)
stops_result (stop.Wrong key col) k events None h = absurd cc
stops_result (stop.Wrong key col) k events (Some c) h = cc
stops_result stop.Disk k events u h = tt
stops_result stop.Memory k events u h = tt

-- the piece of an older batch, whose times are right, was compared with these columns of its events
module _ (image : List ℕ) (o : Opening) (events piece : List Event) (number before : ℕ) (b : BatchEntry) (due : Stored)
    (piece_is : piece ≡ take (piece_length o before b) (drop (piece_start o before b) events)) (ends : has_batch_ends before b events ≡ true)
    (structure_is : due.structure ≡ events_column column.Structure piece) (node_attrs_are : due.node_attrs ≡ events_column column.NodeAttr piece)
    (edge_attrs_are : due.edge_attrs ≡ events_column column.EdgeAttr piece) (transient_is : due.transient ≡ events_column column.Transient piece) where
  as_compared : with_older image (opened_with o []) events number before b ≡ as_result (key.Piece number) events (unlike_events image o (key.Piece number) due)
  as_compared =
      by_columns (is_column_of image (opened_with o []) (key.Piece number) (take (piece_length o before b) (drop (piece_start o before b) events)) column.Structure)
      (is_column_of image (opened_with o []) (key.Piece number) (take (piece_length o before b) (drop (piece_start o before b) events)) column.NodeAttr)
      (is_column_of image (opened_with o []) (key.Piece number) (take (piece_length o before b) (drop (piece_start o before b) events)) column.EdgeAttr)
      (is_column_of image (opened_with o []) (key.Piece number) (take (piece_length o before b) (drop (piece_start o before b) events)) column.Transient)
      (has_batch_ends before b events) (key.Piece number) events ends
      ∙ (λ i. as_result (key.Piece number) events (unlike_events image o (key.Piece number) (record {
        structure = (ap (events_column column.Structure) (sym piece_is) ∙ sym structure_is) i;
        node_attrs = (ap (events_column column.NodeAttr) (sym piece_is) ∙ sym node_attrs_are) i;
        edge_attrs = (ap (events_column column.EdgeAttr) (sym piece_is) ∙ sym edge_attrs_are) i;
        transient = (ap (events_column column.Transient) (sym piece_is) ∙ sym transient_is) i;
      })))

  pub older_alike : unlike_events image o (key.Piece number) due ≡ None → with_older image (opened_with o []) events number before b ≡ Ok events
  older_alike alike = as_compared ∙ ap (as_result (key.Piece number) events) alike

  pub older_stops : (s : Stop) → IsWrong s (keyed_column (key.Piece number) (unlike_events image o (key.Piece number) due)) → IsStop s (with_older image (opened_with o []) events number before b)
  older_stops s h =
      subst (λ t. IsStop s t) (sym as_compared)
      (stops_result s (key.Piece number) events (unlike_events image o (key.Piece number) due) h)
