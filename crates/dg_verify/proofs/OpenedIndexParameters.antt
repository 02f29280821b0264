-- How many lists some events give.
use Rattle.std.proofs.Common.{◌≡◌, ℕ, ◌+◌, ◌*◌, ◌/◌, ◌<◌, ◌≤◌, false, max, arith, div-lt_iff_lt-mul, le-div_iff_mul-le, div-mul-le_self}
use Rattle.std.proofs.lemmas.Bool.{eqb-false}
use Rattle.dg_index.specs.OpenedIndex.{Opening, event_total}
use Rattle.dg_index.specs.declared.entry.BatchEntry.{BatchEntry}
use Rattle.dg_sound.specs.OwnEvents.{is_recent, list_total}

-- ---- the events of closed lists

module _ (n l : ℕ) (some : 0 < l) where
  pub closed_under : n / l * l ≤ n
  closed_under = div-mul-le_self n l

-- ---- how many events there are behind a batch

module _ (o : Opening) (before : ℕ) (b : BatchEntry) (some : 0 < o.params.l) (within : before + b.events ≤ event_total o.batches) where
  -- a batch that is older
  pub older_count : is_recent o before b ≡ false → max (list_total o * o.params.l) before ≡ max (list_total o * o.params.l) (before + b.events)
  older_count older =
      let n : ℕ = before + b.events in
      let below : n / o.params.l ≤ list_total o = (le-div_iff_mul-le some).1 (let z : n / o.params.l * o.params.l ≤ event_total o.batches = omega (arith, closed_under n o.params.l some, within) in z) in
      let less : n / o.params.l < list_total o = omega (arith, below, eqb-false (n / o.params.l) (list_total o) older) in
      let lt : n < list_total o * o.params.l = (div-lt_iff_lt-mul some).0 less in
      omega (arith, lt)

-- all batches
pub all_count : (o : Opening) (before count : ℕ) → 0 < o.params.l → before ≡ event_total o.batches → count ≡ max (list_total o * o.params.l) before → count ≡ event_total o.batches
all_count o before count some all is = omega (arith, all, is, closed_under (event_total o.batches) o.params.l some)
