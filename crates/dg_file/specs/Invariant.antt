-- What holds of what an index keeps, and what it keeps with one batch more.
use Rattle.std.specs.Prelude.{◌≡◌, ℕ, ◌+◌, ◌≤◌, true, List, [], ◌∷◌, ◌++◌, Option, Some, None, length}
use Rattle.dg_graph.specs.declared.limits.TheConstants.{TIME_MAX}
use Rattle.dg_text.specs.declared.limits.TheConstants.{NAMES_MAX}
use Rattle.dg_history.specs.declared.limits.TheConstants.{EVENTS_MAX, FILE_BYTES_MAX}
use Rattle.dg_history.specs.History.{are_parameters}
use Rattle.dg_history.specs.declared.node.Key.{Key}
use Rattle.dg_index.specs.declared.entry.BatchEntry.{BatchEntry}
use Rattle.dg_index.specs.declared.entry.Ends.{Ends}
use Rattle.dg_index.specs.declared.entry.Entry.{Entry}
use Rattle.dg_index.specs.declared.entry.Row.{Row}
use Rattle.dg_index.specs.IndexGrowth.{AreInTurn, columns_in, name_total}
use Rattle.dg_index.specs.IndexKeys.{AreKept}
use Rattle.dg_index.specs.OpenedIndex.{Opening, earliest_in, event_total, keys_next, laid, last_list, last_or, span_in}

-- the last time of the last list, or this one
abbrev pub last_from : ℕ → Option ℕ → ℕ
last_from t None = t
last_from t (Some n) = n

abbrev pub later : Option ℕ → Option Ends → Option ℕ
later t None = t
later t (Some e) = Some e.last

-- the last time of the last list among the rows, where without one it is this
abbrev pub listed_after : Option ℕ → List Row → Option ℕ
listed_after t [] = t
listed_after t (r ∷ rows) = listed_after (later t r.ends) rows

-- a list's times begin no earlier than this, and do not fall
abbrev pub BeginsFrom : ℕ → Option Ends → Type 0
BeginsFrom t None = Unit {0}
BeginsFrom t (Some e) = (t ≤ e.first) × (e.first ≤ e.last)

-- no list among the records begins earlier than this, nor than the list before it ended
abbrev pub TimesRise : ℕ → List (Key × Entry) → Type 0
TimesRise t [] = Unit {0}
TimesRise t (r ∷ more) = BeginsFrom t r.1.ends × TimesRise (last_or t r.1.ends) more

-- what holds of the fields of an index: the events and the names of its batches, the earliest time that the next
-- one may begin with, the last time of the last list, and the first and the last time of all batches
pub record IndexIsSound (o : Opening) (events names from : ℕ) (last : Option ℕ) (span : Option Ends) : Type 0 where
  pub parameters : are_parameters o.params.l o.params.k ≡ true
  pub turns : AreInTurn 0 0 o.batches
  pub count : events ≡ event_total o.batches
  pub few : events ≤ EVENTS_MAX
  pub number : length o.batches ≤ events
  pub named : names ≡ name_total o.batches
  pub few_names : names ≤ NAMES_MAX
  pub earliest : from ≡ earliest_in 0 o.batches
  pub in_time : from ≤ TIME_MAX + 1
  pub listed : (t : ℕ) → last_list t o.records ≡ last_from t last
  pub late : last_from 0 last ≤ from
  pub rise : TimesRise 0 o.records
  pub span_is : span ≡ span_in o.batches
  pub kept : AreKept o
  pub bytes : columns_in o.records + 18 ≤ o.used
  pub within : o.used ≤ FILE_BYTES_MAX

-- the index with one batch more, whose records are these, and the offset behind its gate
abbrev pub with_rows : Opening → BatchEntry → List Row → ℕ → ℕ → Opening
with_rows o b rows offset used = record {
  params = o.params;
  form = o.form;
  batches = o.batches ++ b ∷ [];
  records = o.records ++ laid offset (keys_next o b.events) rows;
  used = used;
}
