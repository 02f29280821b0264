-- How many bytes a start reads, over an image of a history.
use Rattle.std.proofs.Common.{◌≡◌, ℕ, ◌+◌, ◌≤◌, ◌==◌, Bool, true, false, if◌then◌else◌, List, [], ◌∷◌, Option, Some, None, Result, Ok, Err, length, is_some, refl, sym, ◌∙◌, ap, arith}
use Rattle.std.specs.Prelude.{IsErr, IsErrAnd, sum_by}
use Rattle.std.specs.List.{All}
use Rattle.std.specs.Map.{lookup}
use Rattle.std.proofs.lemmas.Bool.{eqb-true, false≢true}
use Rattle.std.proofs.lemmas.List.Elements.{All-head, All-tail}
use Rattle.std.proofs.lemmas.List.Sums.{sum_by-cons}
use Rattle.dg_disk.specs.Counts.{raised_by}
use Rattle.dg_file.specs.Images.{taken_after}
use Rattle.dg_fold.proofs.ColumnFronts.{history_read}
use Rattle.dg_graph.specs.declared.element.Column.{Column}
use Rattle.dg_graph.specs.declared.element.Column.TheVariants.{Structure, NodeAttr, EdgeAttr, Transient}
use Rattle.dg_history.specs.declared.node.Key.{Key}
use Rattle.dg_history.specs.History.{History}
use Rattle.dg_history.specs.Keys.{same_key}
use Rattle.dg_index.specs.declared.entry.Entry.{Entry}
use Rattle.dg_index.specs.ImageOfHistory.{IsImageOf}
use Rattle.dg_index.specs.IndexRecords.{column_in}
use Rattle.dg_index.specs.OpenedIndex.{Opening, column_at, entry_at, entry_or_none, opened_of, total}
use Rattle.dg_index.proofs.OpenedIndexRecords.{IsTold, lengths_in, told_at}
use Rattle.dg_index.proofs.IndexRecordColumns.{columns_are_kept}
use Rattle.dg_plan.specs.HistoryGraph.{all_columns}
use Rattle.dg_records.specs.ColumnReads.{Takes, TakesAtMost, asked_length, kept_in, read_of, TakesOrFails}
use Rattle.dg_start.specs.declared.event_source.EventSource.{EventSource}
use Rattle.dg_start.specs.EventSources.{CanBeRead, bytes_in_sources, source_of, sources_in}
use Rattle.dg_start.specs.RecentEvents.{Source, recent_sources}
use Rattle.dg_start.specs.SessionStart.{recent_bytes}

-- ---- counts

-- bytes, and then more
pub takes_both : (m n a b c : ℕ) → Takes m a b → Takes n b c → Takes (m + n) a c
takes_both m n a b c f g = omega arith

pub takes_raised : (n a b : ℕ) → b ≡ raised_by n a → Takes n a b
takes_raised n a b is = omega (arith, is)

pub takes_less : (n a b : ℕ) → Takes n a b → TakesAtMost n a b
takes_less n a b f = omega arith

pub takes_part : (n k a b : ℕ) → n ≤ k → TakesAtMost n a b → TakesAtMost k a b
takes_part n k a b le f = omega arith

pub takes_then : (m n a b c : ℕ) → Takes m a b → TakesAtMost n b c → TakesAtMost (m + n) a c
takes_then m n a b c f g = omega arith

pub takes_none : (n a b : ℕ) → b ≡ a → TakesAtMost n a b
takes_none n a b is = omega arith

-- what a call hands on is its fault
abbrev pub HandsOn : {A E : Type 0} → Result A E → E → Type 0
HandsOn r fault = IsErr r × IsErrAnd r (λ y. y ≡ fault)

pub fails_with : {A E : Type 0} (r : Result A E) (fault : E) (n a b : ℕ) → HandsOn r fault → TakesAtMost n a b → TakesOrFails r n a b
fails_with (Ok x) fault n a b given f = absurd given.1
fails_with (Err e) fault n a b given f = f

-- a call behind bytes that were read
pub call_then : {A E : Type 0} (r : Result A E) (m n a b c : ℕ) → Takes m a b → TakesOrFails r n b c → TakesOrFails r (m + n) a c
call_then (Ok x) m n a b c f g = takes_both m n a b c f g
call_then (Err e) m n a b c f g = takes_then m n a b c f g

-- ---- the recent pieces

module _ (z : History) (image : List ℕ) (stands : IsImageOf z image) (o : Opening) (opened : o ≡ (opened_of z).index) where
  -- a record that is held has as many bytes as the index tells
  record_bytes : (k : Key) → is_some (lookup (same_key k) o.records) ≡ true → asked_length (kept_in image o) all_columns k ≡ total (entry_at o k).lengths
  record_bytes k held = by (lookup (same_key k) o.records) refl held
    where
      by : (e : Option Entry) → lookup (same_key k) o.records ≡ e → is_some e ≡ true → asked_length (kept_in image o) all_columns k ≡ total (entry_at o k).lengths
      by None is some = absurd (false≢true some)
      by (Some e) is some =
          let there : lookup (same_key k) (opened_of z).index.records ≡ Some e = ap (λ (x : Opening). lookup (same_key k) x.records) (sym opened) ∙ is in
          let told : IsTold z (k, e) = told_at z stands.legal k e there in
          let column : (col : Column) → length (kept_in image o k col) ≡ length (column_in z k col) =
          λ col.
          ap (λ (x : Option Entry). length (read_of k (column_at image (entry_or_none x) col))) is ∙ ap (λ l. length (read_of k l)) (columns_are_kept z image stands k e there col)
          ∙ ap length (history_read z stands.legal k col) in
          let same : (entry_at o k).lengths ≡ lengths_in z k = ap (λ (x : Option Entry). (entry_or_none x).lengths) is ∙ told.0 in
          omega (arith, column Structure, column NodeAttr, column EdgeAttr, column Transient, ap total same)

  abbrev Readable : EventSource → Type 0
  Readable s = CanBeRead o (source_of s)

  sources_bytes : (found : List EventSource) → All Readable found → bytes_in_sources image o (sources_in found) ≡ sum_by (λ (s : Source). total (entry_at o s.key).lengths) (sources_in found)
  sources_bytes [] all = refl
  sources_bytes (s ∷ found) all =
      let here : CanBeRead o (source_of s) = All-head Readable s found all in
      sum_by-cons (λ (s : Source). asked_length (kept_in image o) all_columns s.key) (source_of s) (sources_in found)
      ∙ (λ i. record_bytes s.key here.held i + sources_bytes found (All-tail Readable s found all) i)
      ∙ sym (sum_by-cons (λ (s : Source). total (entry_at o s.key).lengths) (source_of s) (sources_in found))

  pub recent_taken : (found : List EventSource) → sources_in found ≡ recent_sources o → All Readable found → bytes_in_sources image o (sources_in found) ≡ recent_bytes o
  recent_taken found are all = sources_bytes found all ∙ ap (sum_by (λ (s : Source). total (entry_at o s.key).lengths)) are

-- a column that was fetched
pub takes_after : (n a b : ℕ) → b ≡ taken_after n a → Takes n a b
takes_after n a b is = by (n == 0) refl is
  where
    by : (none : Bool) → (n == 0) ≡ none → b ≡ (if none then a else raised_by n a) → Takes n a b
    by true e h = let zero : n ≡ 0 = eqb-true n 0 e in omega (arith, zero, h)
    by false e h = omega (arith, h)

-- the four columns of a record
pub takes_record : (image : List ℕ) (o : Opening) (k : Key) (a b c d e : ℕ) → Takes (length (kept_in image o k Structure)) a b → Takes (length (kept_in image o k NodeAttr)) b c
    → Takes (length (kept_in image o k EdgeAttr)) c d → Takes (length (kept_in image o k Transient)) d e → Takes (asked_length (kept_in image o) all_columns k) a e
takes_record image o k a b c d e f g h i = omega (arith, f, g, h, i)

-- a record whose first column was not read, or not its second, third or fourth
module _ (image : List ℕ) (o : Opening) (k : Key) (a b : ℕ) where
  abbrev column_length : Column → ℕ
  column_length col = length (kept_in image o k col)

  abbrev record_length : ℕ
  record_length = asked_length (kept_in image o) all_columns k

  pub first_fails : TakesAtMost (column_length Structure) a b → TakesAtMost record_length a b
  first_fails f = omega (arith, f)

  pub second_fails : (c : ℕ) → Takes (column_length Structure) a b → TakesAtMost (column_length NodeAttr) b c → TakesAtMost record_length a c
  second_fails c f g = omega (arith, f, g)

  pub third_fails : (c d : ℕ) → Takes (column_length Structure) a b → Takes (column_length NodeAttr) b c → TakesAtMost (column_length EdgeAttr) c d → TakesAtMost record_length a d
  third_fails c d f g h = omega (arith, f, g, h)

  pub fourth_fails : (c d e : ℕ) → Takes (column_length Structure) a b → Takes (column_length NodeAttr) b c → Takes (column_length EdgeAttr) c d → TakesAtMost (column_length Transient) d e → TakesAtMost record_length a e
  fourth_fails c d e f g h i = omega (arith, f, g, h, i)
