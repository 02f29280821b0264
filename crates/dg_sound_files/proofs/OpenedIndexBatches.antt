-- What the tests of directories that stand one behind another say of batches and names.
use Rattle.std.proofs.Common.{◌≡◌, ℕ, ◌+◌, ◌≤◌, true, List, [], ◌∷◌, ◌++◌, length, drop, refl, subst, ◌∙◌, arith, length-append}
use Rattle.std.specs.Prelude.{◌==◌, ◌&&◌, nat_le}
use Rattle.std.proofs.lemmas.Bool.{leb-true, and_parts}
use Rattle.std.proofs.lemmas.List.Sums.{sum_by_push}
use Rattle.dg_text.specs.declared.limits.TheConstants.{NAMES_MAX}
use Rattle.dg_text.specs.Names.{are_new}
use Rattle.dg_history.specs.declared.limits.TheConstants.{BATCH_LINES_MAX, EVENTS_MAX}
use Rattle.dg_index.specs.ImageText.{eight_at}
use Rattle.dg_index.specs.OpenedIndex.{Opened, Directory, are_unheard, earliest_in, event_total, may_be_named, may_follow, rows_in, with_marker}
use Rattle.dg_index.specs.declared.entry.BatchEntry.{BatchEntry}
use Rattle.dg_index.proofs.ImageTextNames.{new_append}
use Rattle.dg_index.proofs.IndexRecordColumns.{Each}
use Rattle.dg_index.proofs.OpenedIndexHistories.{earliest_more}
use Rattle.dg_index.proofs.OpenedSoFar.{one_more}
use Rattle.dg_columns.proofs.Fields.{IsBytes, IsBytes-drop, IsBytes-take}
use Rattle.dg_sound_files.proofs.ImageTextDirectories.{IsSpelt, directories_are_spelt}
use Rattle.dg_sound_files.proofs.OpenedIndexColumns.{sum_of}
use Rattle.dg_sound_files.proofs.SoundnessBatches.{IsNamed}
use Rattle.dg_sound_files.proofs.OpenedIndexDirectories.{Chain, OfBatch, OfUpgrade, StandsNext, Turn, batch_entries, directories_in, new_names, text_next}

-- the directory that stands next is spelt
pub next_spelt : (image : List ℕ) (y : Opened) (d : Directory) → IsBytes image → StandsNext y image d → IsSpelt y.index (text_next y image) d
next_spelt image y d fits next =
    directories_are_spelt y.index (text_next y image) d (IsBytes-take (eight_at image y.index.used) (drop (y.index.used + 16) image) (IsBytes-drop (y.index.used + 16) image fits)) next.read

pub chain_named : (image : List ℕ) (ts : List Turn) (y x : Opened) → IsBytes image → Chain image y ts x → Each IsNamed (directories_in ts)
chain_named image [] y x fits c = tt
chain_named image (OfBatch d ∷ ts) y x fits c = ((next_spelt image y d fits c.1).names, chain_named image ts (one_more image y d) x fits c.2)
chain_named image (OfUpgrade ∷ ts) y x fits c = chain_named image ts (with_marker y) x fits c.2

-- ---- what may stand

record Passes (y : Opened) (d : Directory) : Type 0 where
  follows : may_follow (event_total y.index.batches) (earliest_in 0 y.index.batches) d.batch ≡ true
  new : are_new y.names d.names ≡ true
  few_names : length y.names + length d.names ≤ NAMES_MAX
  few : event_total y.index.batches + d.batch.events ≤ EVENTS_MAX

passes : (image : List ℕ) (y : Opened) (d : Directory) → StandsNext y image d → Passes y d
passes image y d next =
    let a = and_parts (sum_of (rows_in d) == eight_at image (y.index.used + 8)) _ next.may in
    let b = and_parts (may_follow (event_total y.index.batches) (earliest_in 0 y.index.batches) d.batch) _ a.1 in
    let c = and_parts (may_be_named y.names d.names) _ b.1 in
    let n = and_parts (are_new y.names d.names) _ c.0 in
    let f1 = and_parts (nat_le 1 d.batch.events) _ b.0 in
    let f2 = and_parts (nat_le d.batch.events BATCH_LINES_MAX) _ f1.1 in
    let f3 = and_parts (nat_le (event_total y.index.batches + d.batch.events) EVENTS_MAX) _ f2.1 in
    record {
      follows = b.0;
      new = n.0;
      few_names = leb-true (length y.names + length d.names) NAMES_MAX n.1;
      few = leb-true (event_total y.index.batches + d.batch.events) EVENTS_MAX f3.0;
    }

-- none of its deltas has messages
pub next_unheard : (image : List ℕ) (y : Opened) (d : Directory) → StandsNext y image d → are_unheard d.deltas ≡ true
next_unheard image y d next =
    let a = and_parts (sum_of (rows_in d) == eight_at image (y.index.used + 8)) _ next.may in
    let b = and_parts (may_follow (event_total y.index.batches) (earliest_in 0 y.index.batches) d.batch) _ a.1 in
    let c = and_parts (may_be_named y.names d.names) _ b.1 in
    (and_parts _ (are_unheard d.deltas) c.1).1

pub chain_new : (image : List ℕ) (ts : List Turn) (y x : Opened) → Chain image y ts x → are_new y.names (new_names (directories_in ts)) ≡ true
chain_new image [] y x c = refl
chain_new image (OfUpgrade ∷ ts) y x c = chain_new image ts (with_marker y) x c.2
chain_new image (OfBatch d ∷ ts) y x c =
    let p = passes image y d c.1 in
    let more = chain_new image ts (one_more image y d) x c.2 in
    new_append y.names d.names (new_names (directories_in ts)) ∙ (λ i. p.new i && more i)

pub chain_few_names : (image : List ℕ) (ts : List Turn) (y x : Opened) → length y.names ≤ NAMES_MAX → Chain image y ts x → length x.names ≤ NAMES_MAX
chain_few_names image [] y x le c = subst (λ (x : Opened). length x.names ≤ NAMES_MAX) c.0 le
chain_few_names image (OfUpgrade ∷ ts) y x le c = chain_few_names image ts (with_marker y) x le c.2
chain_few_names image (OfBatch d ∷ ts) y x le c =
    let p = passes image y d c.1 in
    chain_few_names image ts (one_more image y d) x (omega (arith, p.few_names, length-append y.names d.names)) c.2

pub chain_few : (image : List ℕ) (ts : List Turn) (y x : Opened) → event_total y.index.batches ≤ EVENTS_MAX → Chain image y ts x → event_total x.index.batches ≤ EVENTS_MAX
chain_few image [] y x le c = subst (λ (x : Opened). event_total x.index.batches ≤ EVENTS_MAX) c.0 le
chain_few image (OfUpgrade ∷ ts) y x le c = chain_few image ts (with_marker y) x le c.2
chain_few image (OfBatch d ∷ ts) y x le c =
    let p = passes image y d c.1 in
    chain_few image ts (one_more image y d) x (omega (arith, p.few, sum_by_push (λ (b : BatchEntry). b.events) y.index.batches d.batch)) c.2

-- ---- the batches follow one another

-- each of the batches may follow those before it
abbrev pub AllFollow : ℕ → ℕ → List BatchEntry → Type 0
AllFollow count earliest [] = Unit {0}
AllFollow count earliest (b ∷ more) = (may_follow count earliest b ≡ true) × AllFollow (count + b.events) (b.ends.last + 1) more

pub chain_follow : (image : List ℕ) (ts : List Turn) (y x : Opened) → Chain image y ts x → AllFollow (event_total y.index.batches) (earliest_in 0 y.index.batches) (batch_entries (directories_in ts))
chain_follow image [] y x c = tt
chain_follow image (OfUpgrade ∷ ts) y x c = chain_follow image ts (with_marker y) x c.2
chain_follow image (OfBatch d ∷ ts) y x c =
    let more = chain_follow image ts (one_more image y d) x c.2 in (
      (passes image y d c.1).follows,
      subst (λ n. AllFollow n (d.batch.ends.last + 1) (batch_entries (directories_in ts))) (sum_by_push (λ (b : BatchEntry). b.events) y.index.batches d.batch)
          (subst (λ t. AllFollow (event_total (y.index.batches ++ d.batch ∷ [])) t (batch_entries (directories_in ts))) (earliest_more 0 y.index.batches d.batch) more),
    )
