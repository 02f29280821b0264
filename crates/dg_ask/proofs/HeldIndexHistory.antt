-- What the index of a history tells of it: how many events it has, and its first and its last time.
use Rattle.std.proofs.Common.{◌≡◌, ℕ, ◌+◌, List, [], ◌∷◌, Option, Some, None, length, refl, sym, ◌∙◌, ap, arith}
use Rattle.dg_graph.specs.declared.event.Event.{Event}
use Rattle.dg_history.specs.declared.params.Params.{Params}
use Rattle.dg_history.specs.History.{History, events_of, last_time_from, names_of, span_of}
use Rattle.dg_history.specs.LegalHistory.{IsLegal}
use Rattle.dg_index.specs.declared.entry.BatchEntry.{BatchEntry}
use Rattle.dg_index.specs.OpenedIndex.{Opened, earliest_in, event_total, first_in, last_end, opened_of, span_in}
use Rattle.dg_index.proofs.OpenedIndexHistories.{IsBehind}
use Rattle.dg_planner.specs.HistoryLaws.{kept_span}
use Rattle.dg_index.proofs.OpenedLegalHistories.{behind}
use Rattle.dg_ask.specs.HeldIndex.{ends_pair, span_held}

-- the next batch begins behind the last time of the batches
earliest_last : (t : ℕ) (b : BatchEntry) (more : List BatchEntry) → earliest_in t (b ∷ more) ≡ last_end b.ends.last more + 1
earliest_last t b [] = refl
earliest_last t b (c ∷ more) = earliest_last (b.ends.last + 1) c more

-- the batches of an index behind these events tell their first and their last time
span_behind : (p : Params) (x : Opened) (before : List Event) (names : List (List ℕ)) → IsBehind p x before names → (batches : List BatchEntry) → x.index.batches ≡ batches
    → span_in batches ≡ kept_span (span_of before)
span_behind p x [] names is [] at = refl
span_behind p x (e ∷ before) names is [] at =
    absurd (let none : event_total [] ≡ length (e ∷ before) = ap event_total (sym at) ∙ is.count in omega (arith, none))
span_behind p x [] names is (b ∷ more) at =
    absurd (let last : earliest_in 0 (b ∷ more) ≡ 0 = ap (earliest_in 0) (sym at) ∙ is.earliest in omega (arith, last, earliest_last 0 b more))
span_behind p x (e ∷ before) names is (b ∷ more) at =
    let first : b.ends.first ≡ e.time = ap (λ (bs : List BatchEntry). first_in e.time bs) (sym at) ∙ is.first (e ∷ []) (omega arith) in
    let next : earliest_in 0 (b ∷ more) ≡ last_time_from e.time before + 1 = ap (earliest_in 0) (sym at) ∙ is.earliest in
    let last : last_end b.ends.last more ≡ last_time_from e.time before = omega (arith, next, earliest_last 0 b more) in
    λ i. Some (record { first = first i; last = last i })

pair_back : (span : Option (ℕ × ℕ)) → ends_pair (kept_span span) ≡ span
pair_back None = refl
pair_back (Some s) = refl

module _ (z : History) (legal : IsLegal z) where
  pub count_is : event_total (opened_of z).index.batches ≡ length (events_of z)
  count_is = (behind z legal).count

  pub kept_span_is : span_in (opened_of z).index.batches ≡ kept_span (span_of (events_of z))
  kept_span_is = span_behind z.params (opened_of z) (events_of z) (names_of z) (behind z legal) (opened_of z).index.batches refl

  pub span_is : span_held (Some (opened_of z).index) ≡ span_of (events_of z)
  span_is = ap ends_pair kept_span_is ∙ pair_back (span_of (events_of z))
