-- Where the events of an index stand: the sources of its recent events, one after another.
use Rattle.std.proofs.Common.{◌≡◌, ℕ, zero, suc, ◌+◌, ◌-◌, ◌*◌, ◌<◌, ◌≤◌, ◌^◌, Bool, true, false, List, [], ◌∷◌, ◌++◌, Some, None, if◌then◌else◌, length, map, drop, slice_get, refl, sym, ◌∙◌, ap, subst, arith}
use Rattle.std.specs.Prelude.{◌==◌}
use Rattle.std.specs.List.{All}
use Rattle.std.proofs.lemmas.List.{drop_all, map-append}
use Rattle.std.proofs.lemmas.List.Sums.{sum_by-cons}
use Rattle.std.proofs.lemmas.List.Elements.{All-append, All-cons, All-nil}
use Rattle.std.proofs.lemmas.Option.{slice_get_within}
use Rattle.dg_index.specs.declared.entry.BatchEntry.{BatchEntry}
use Rattle.dg_index.specs.Hierarchy.{leaves}
use Rattle.dg_index.specs.IndexKeys.{AreKept}
use Rattle.dg_index.specs.OpenedIndex.{Opening, event_total}
use Rattle.dg_index.specs.RecentEvents.{RecentPiece, pieces_ahead}
use Rattle.dg_start.specs.RecentEvents.{piece_source}
use Rattle.dg_index.proofs.HeldRecords.{piece_held}
use Rattle.dg_start.specs.declared.event_source.EventSource.{EventSource}
use Rattle.dg_start.specs.EventSources.{CanBeRead, source_of}

pub source_more : (old new : List EventSource) (s : EventSource) → new ≡ old ++ s ∷ [] → map source_of new ≡ map source_of old ++ source_of s ∷ []
source_more old new s is = ap (map source_of) is ∙ map-append source_of old (s ∷ [])

pub readable_more : (o : Opening) (old new : List EventSource) (s : EventSource) → new ≡ old ++ s ∷ [] → CanBeRead o (source_of s)
    → All (λ (s : EventSource). CanBeRead o (source_of s)) old → All (λ (s : EventSource). CanBeRead o (source_of s)) new
readable_more o old new s is here before =
    subst (λ (l : List EventSource). All (λ (s : EventSource). CanBeRead o (source_of s)) l) (sym is)
    (All-append (λ (s : EventSource). CanBeRead o (source_of s)) old (s ∷ []) before
    (All-cons (λ (s : EventSource). CanBeRead o (source_of s)) s [] here (All-nil (λ (s : EventSource). CanBeRead o (source_of s)))))

pub piece_readable : (o : Opening) (s : EventSource) (piece : RecentPiece) → source_of s ≡ piece_source o piece → AreKept o → piece.number < length o.batches → piece.count < 2 ^ 32 → CanBeRead o (source_of s)
piece_readable o s piece is kept lt few = subst (CanBeRead o) (sym is) (record { held = piece_held o piece.number kept lt; few = few })

-- The recent pieces once so many batches are passed, which have so many events.
pub record PiecesSoFar (o : Opening) (number before : ℕ) (found : List EventSource) : Type 0 where
  pub pieces : List RecentPiece
  pub found_are : map source_of found ≡ map (piece_source o) pieces
  pub ahead : pieces_ahead o.params 0 0 [] o.batches ≡ pieces_ahead o.params number before pieces (drop number o.batches)
  pub counted : before + event_total (drop number o.batches) ≡ event_total o.batches

pub no_pieces : (o : Opening) (found : List EventSource) → found ≡ [] → PiecesSoFar o 0 0 found
no_pieces o found none = record { pieces = []; found_are = ap (map source_of) none; ahead = refl; counted = omega arith }

pub from_here : (batches : List BatchEntry) (n : ℕ) (b : BatchEntry) → slice_get batches n ≡ Some b → drop n batches ≡ b ∷ drop (n + 1) batches
from_here [] n b there = cc
from_here (x ∷ batches) zero b there = let e : x ≡ b = cc in ap (λ (t : BatchEntry). t ∷ batches) e
from_here (x ∷ batches) (suc n) b there =
    from_here batches n b there ∙ ap (λ (m : ℕ). b ∷ drop m (x ∷ batches)) (let e : suc (n + 1) ≡ suc n + 1 = omega arith in e)

-- the events of the next batch are among those of all
pub batch_within : (o : Opening) (number before : ℕ) (b : BatchEntry) → slice_get o.batches number ≡ Some b → before + event_total (drop number o.batches) ≡ event_total o.batches
    → before + b.events ≤ event_total o.batches
batch_within o number before b there counted =
    omega (arith, counted, ap event_total (from_here o.batches number b there), sum_by-cons (λ (b : BatchEntry). b.events) b (drop (number + 1) o.batches))

pub one_piece : (o : Opening) (number before : ℕ) (b : BatchEntry) (old new : List EventSource) (s : EventSource)
    → slice_get o.batches number ≡ Some b
    → source_of s ≡ piece_source o (record { number = number; count = b.events - (leaves o.params (before + b.events) * o.params.l - before); batch = b })
    → new ≡ (if leaves o.params (before + b.events) == leaves o.params before then old else []) ++ s ∷ []
    → PiecesSoFar o number before old → PiecesSoFar o (number + 1) (before + b.events) new
one_piece o number before b old new s there source is so_far =
    let piece : RecentPiece = record { number = number; count = b.events - (leaves o.params (before + b.events) * o.params.l - before); batch = b } in
    let here : drop number o.batches ≡ b ∷ drop (number + 1) o.batches = from_here o.batches number b there in
    record {
      pieces = (if leaves o.params (before + b.events) == leaves o.params before then so_far.pieces else []) ++ piece ∷ [];
      found_are =
          source_more (if leaves o.params (before + b.events) == leaves o.params before then old else []) new s is
          ∙ (λ i. kept (leaves o.params (before + b.events) == leaves o.params before) i ++ source i ∷ [])
          ∙ sym (map-append (piece_source o) (if leaves o.params (before + b.events) == leaves o.params before then so_far.pieces else []) (piece ∷ []));
      ahead = so_far.ahead ∙ ap (pieces_ahead o.params number before so_far.pieces) here;
      counted = omega (arith, so_far.counted, ap event_total here, sum_by-cons (λ (b : BatchEntry). b.events) b (drop (number + 1) o.batches));
    }
  where
    kept : (same : Bool) → map source_of (if same then old else []) ≡ map (piece_source o) (if same then so_far.pieces else [])
    kept true = so_far.found_are
    kept false = refl

pub all_pieces : (o : Opening) (number before : ℕ) (found : List EventSource) → length o.batches ≤ number → PiecesSoFar o number before found
    → map source_of found ≡ map (piece_source o) (pieces_ahead o.params 0 0 [] o.batches)
all_pieces o number before found past so_far =
    so_far.found_are ∙ ap (map (piece_source o)) (sym (so_far.ahead ∙ ap (pieces_ahead o.params number before so_far.pieces) (drop_all number o.batches past)))

pub none_left : (batches : List BatchEntry) (n : ℕ) → slice_get batches n ≡ None → length batches ≤ n
none_left [] n none = omega arith
none_left (x ∷ batches) zero none = cc
none_left (x ∷ batches) (suc n) none = omega (arith, none_left batches n none)

pub batch_there : (batches : List BatchEntry) (n : ℕ) (b : BatchEntry) → slice_get batches n ≡ Some b → n < length batches
batch_there batches n b there = slice_get_within batches n b there

pub readable_kept : (o : Opening) (same : Bool) (old new : List EventSource) (s : EventSource) → new ≡ (if same then old else []) ++ s ∷ [] → CanBeRead o (source_of s)
    → All (λ (s : EventSource). CanBeRead o (source_of s)) old → All (λ (s : EventSource). CanBeRead o (source_of s)) new
readable_kept o same old new s is here before = readable_more o (if same then old else []) new s is here (by same)
  where
    by : (same : Bool) → All (λ (s : EventSource). CanBeRead o (source_of s)) (if same then old else [])
    by true = before
    by false = All-nil (λ (s : EventSource). CanBeRead o (source_of s))
