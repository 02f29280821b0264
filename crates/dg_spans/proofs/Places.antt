-- Which records an index has for the events of a batch.
use Rattle.std.proofs.Common.{◌≡◌, ℕ, zero, suc, ◌+◌, ◌-◌, ◌*◌, ◌/◌, ◌<◌, ◌≤◌, true, max, is_some, ap, ◌∙◌, arith, div-lt_iff_lt-mul, le-div_iff_mul-le, div-mul-le_self, add-mul}
use Rattle.std.specs.Map.{lookup}
use Rattle.std.proofs.lemmas.Bool.{lt-ltb}
use Rattle.dg_history.specs.declared.node.Key.TheVariants as key
use Rattle.dg_history.specs.Keys.{same_key}
use Rattle.dg_index.specs.Hierarchy.{leaves}
use Rattle.dg_index.specs.IndexKeys.{AreKept, among}
use Rattle.dg_index.specs.OpenedIndex.{Opening, event_total}
use Rattle.dg_index.proofs.HeldRecords.{piece_held}
use Rattle.dg_index.proofs.IndexKeyRecords.{exists_held, found}
use Rattle.dg_spans.specs.declared.place.BatchPlace.{BatchPlace}
use Rattle.dg_spans.specs.Stretches.{HasEvent, HasNumber, IsPlaced, closed_events}
use Rattle.dg_start.proofs.EventSourceSources.{batch_there, batch_within}

-- the closed lists have no more events than there are
pub closed_under : (o : Opening) → closed_events o ≤ event_total o.batches
closed_under o = div-mul-le_self (event_total o.batches) o.params.l

-- the closed list of an event is held
pub list_held : (o : Opening) (at : ℕ) → 0 < o.params.l → 2 ≤ o.params.k → AreKept o → at < closed_events o
    → is_some (lookup (same_key (key.List (leaves o.params at))) o.records) ≡ true
list_held o at some two kept lt =
    let i : ℕ = leaves o.params at in
    let below : i < leaves o.params (event_total o.batches) = (div-lt_iff_lt-mul some).1 lt in
    found o.records (key.List i)
    (ap (among (key.List i)) kept ∙ exists_held o.params some two o.batches (key.List i) (lt-ltb i (leaves o.params (event_total o.batches)) below))

-- and the event is one of it
pub list_has : (l at : ℕ) → 0 < l → HasNumber (at / l * l) l at
list_has l at some = record {
  behind = div-mul-le_self at l;
  within =
      (let over : at < (at / l + 1) * l = (div-lt_iff_lt-mul some).0 (let lt : at / l < at / l + 1 = omega arith in lt) in
      omega (arith, over, add-mul (at / l) 1 l));
}

-- the batch ends where all events end, or before
pub placed_within : (o : Opening) (p : BatchPlace) → IsPlaced o p → p.before + p.batch.events ≤ event_total o.batches
placed_within o p placed = batch_within o p.number p.before p.batch placed.there placed.counted

-- the piece of the batch is held
pub own_piece_held : (o : Opening) (p : BatchPlace) → IsPlaced o p → AreKept o → is_some (lookup (same_key (key.Piece p.number)) o.records) ≡ true
own_piece_held o p placed kept = piece_held o p.number kept (batch_there o.batches p.number p.batch placed.there)

-- and an event behind the closed lists is one of it
pub piece_has : (p : BatchPlace) (closed at : ℕ) → HasEvent p at → closed ≤ at → HasNumber (max p.before closed) (p.before + p.batch.events - max p.before closed) at
piece_has p closed at here behind = record {
  behind = omega (arith, here.behind, behind);
  within = omega (arith, here.behind, here.within, behind);
}
