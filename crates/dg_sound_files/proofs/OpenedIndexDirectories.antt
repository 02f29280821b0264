-- The segments of an image that is opened, one behind another, with a marker among them where the file is upgraded.
use Rattle.std.proofs.Common.{◌≡◌, ℕ, zero, suc, ◌+◌, ◌-◌, ◌<◌, ◌≤◌, Bool, true, false, cond, List, [], ◌∷◌, ◌++◌, length, get_or, take, drop, map, Option, Some, None, Ok, refl, sym, ap, ◌∙◌, append_assoc, append-nil, arith}
use Rattle.std.specs.Prelude.{◌==◌, not, nat_le, option_and_then}
use Rattle.std.specs.List.{flat_map}
use Rattle.std.proofs.lemmas.Bool.{eqb-true, leb-true, and_parts}
use Rattle.dg_history.specs.declared.limits.TheConstants.{FILE_BYTES_MAX}
use Rattle.dg_history.specs.declared.node.Key.{Key}
use Rattle.dg_history.specs.History.{is_wide}
use Rattle.dg_index.specs.ImageText.{eight_at, gate_behind, is_within}
use Rattle.dg_index.specs.OpenedIndex.{Opened, Directory, read_on, go_on_with, directory_next, directory_in, is_marked, may_stand, if_it_may, laid, keys_next, rows_in, with_marker}
use Rattle.dg_index.specs.declared.entry.BatchEntry.{BatchEntry}
use Rattle.dg_index.specs.declared.entry.Entry.{Entry}
use Rattle.dg_index.proofs.OpenedSoFar.{marked_parts, one_more, opened_in}
use Rattle.dg_sound_files.proofs.ImageTextNames.{then_is, some_is}

-- ---- a directory that stands next

-- the bytes of the directory behind what is opened so far
abbrev pub text_next : Opened → List ℕ → List ℕ
text_next x image = take (eight_at image x.index.used) (drop (x.index.used + 16) image)

pub record StandsNext (x : Opened) (image : List ℕ) (d : Directory) : Type 0 where
  pub begins : x.index.used + 16 ≤ length image
  pub ends : gate_behind image x.index.used + 1 ≤ length image
  pub fits : gate_behind image x.index.used + 1 ≤ FILE_BYTES_MAX
  pub read : directory_in x.index (text_next x image) ≡ Some d
  pub may : may_stand x (eight_at image (x.index.used + 8)) d ≡ true

then_within : {A : Type 0} (b : Bool) (o : Option A) (y : A) → cond (not b) None o ≡ Some y → (b ≡ true) × (o ≡ Some y)
then_within true o y e = (refl, e)
then_within false o y e = absurd cc

if_may : (b : Bool) (d e : Directory) → if_it_may b d ≡ Some e → (b ≡ true) × (d ≡ e)
if_may true d e is = (refl, some_is d e is)
if_may false d e is = absurd cc

pub stands_next : (x : Opened) (image : List ℕ) (d : Directory) → directory_next x image ≡ Some d → StandsNext x image d
stands_next x image d e =
    let judge : Directory → Option Directory = λ d. if_it_may (may_stand x (eight_at image (x.index.used + 8)) d) d in
    let a = then_within (is_within image x.index.used) (option_and_then judge (directory_in x.index (text_next x image))) d e in
    let w1 = and_parts (nat_le (x.index.used + 16) (length image)) _ a.0 in
    let w2 = and_parts (nat_le (gate_behind image x.index.used + 1) (length image)) _ w1.1 in
    let b = then_is judge (directory_in x.index (text_next x image)) d a.1 in
    let c = if_may (may_stand x (eight_at image (x.index.used + 8)) b.0) b.0 d b.2 in
    record {
      begins = leb-true _ _ w1.0;
      ends = leb-true _ _ w2.0;
      fits = leb-true _ _ w2.1;
      read = b.1 ∙ ap (λ (d : Directory). Some d) c.1;
      may = ap (λ (d : Directory). may_stand x (eight_at image (x.index.used + 8)) d) (sym c.1) ∙ c.0;
    }

-- ---- the marker that stands next

pub record StandsMarked (x : Opened) (image : List ℕ) : Type 0 where
  pub narrow : is_wide x.index.form ≡ false
  pub size : eight_at image x.index.used ≡ 8
  pub columns : eight_at image (x.index.used + 8) ≡ 0
  pub events : eight_at image (x.index.used + 16) ≡ 0
  pub ends : (with_marker x).index.used ≤ length image
  pub fits : (with_marker x).index.used ≤ FILE_BYTES_MAX

stands_marked : (x : Opened) (image : List ℕ) → is_marked x image ≡ true → StandsMarked x image
stands_marked x image e =
    let m = marked_parts x image e in
    let w1 = and_parts (nat_le (x.index.used + 16) (length image)) _ m.1 in
    let w2 = and_parts (nat_le (gate_behind image x.index.used + 1) (length image)) _ w1.1 in
    let gate : gate_behind image x.index.used ≡ x.index.used + 24 = omega (arith, m.2, m.3) in
    record {
      narrow = m.0;
      size = m.2;
      columns = m.3;
      events = m.4;
      ends = omega (arith, gate, leb-true _ _ w2.0);
      fits = omega (arith, gate, leb-true _ _ w2.1);
    }

-- ---- all of them

-- what stands behind an open gate: a segment with its directory, or the marker
pub data Turn : Type 0 where
  OfBatch : Directory → Turn
  OfUpgrade : Turn

abbrev pub directories_in : List Turn → List Directory
directories_in [] = []
directories_in (OfBatch d ∷ more) = d ∷ directories_in more
directories_in (OfUpgrade ∷ more) = directories_in more

-- these stand behind what is opened so far, and with them is opened what is opened last
abbrev pub Chain : List ℕ → Opened → List Turn → Opened → Type 0
Chain image y [] x = (y ≡ x) × ((get_or image (y.index.used - 1) 0 == 1) ≡ false)
Chain image y (OfBatch d ∷ more) x = (get_or image (y.index.used - 1) 0 ≡ 1) × StandsNext y image d × Chain image (one_more image y d) more x
Chain image y (OfUpgrade ∷ more) x = (get_or image (y.index.used - 1) 0 ≡ 1) × StandsMarked y image × Chain image (with_marker y) more x

pub chain_of : (k : ℕ) (image : List ℕ) (y x : Opened) → length image < k + y.index.used → y.index.used ≤ length image → read_on k image y ≡ Ok x → (ts : List Turn) × Chain image y ts x
chain_of zero image y x enough within e = absurd (omega (arith, enough, within))
chain_of (suc k) image y x enough within e =
    by (λ d n e. chain_of k image (one_more image y d) x (omega (arith, enough)) n.ends e) (λ n e. chain_of k image (with_marker y) x (omega (arith, enough)) n.ends e)
    (get_or image (y.index.used - 1) 0 == 1) refl (is_marked y image) refl (directory_next y image) refl e
  where
    by : ((d : Directory) → StandsNext y image d → read_on k image (one_more image y d) ≡ Ok x → (ts : List Turn) × Chain image (one_more image y d) ts x)
        → (StandsMarked y image → read_on k image (with_marker y) ≡ Ok x → (ts : List Turn) × Chain image (with_marker y) ts x)
        → (b : Bool) → (get_or image (y.index.used - 1) 0 == 1) ≡ b → (m : Bool) → is_marked y image ≡ m → (o : Option Directory) → directory_next y image ≡ o
        → cond (not b) (Ok y) (cond m (read_on k image (with_marker y)) (go_on_with image y (read_on k image) o)) ≡ Ok x → (ts : List Turn) × Chain image y ts x
    by more marked false closed m is o n e = ([], (ap (opened_in x) e, closed))
    by more marked true opens true is o n e =
        let here = stands_marked y image is in
        let rest = marked here e in
        (OfUpgrade ∷ rest.0, (eqb-true (get_or image (y.index.used - 1) 0) 1 opens, here, rest.1))
    by more marked true opens false is None n e = absurd cc
    by more marked true opens false is (Some d) n e =
        let here = stands_next y image d n in
        let rest = more d here e in
        (OfBatch d ∷ rest.0, (eqb-true (get_or image (y.index.used - 1) 0) 1 opens, here, rest.1))

-- ---- what is opened with them

pub chain_params : (image : List ℕ) (ts : List Turn) (y x : Opened) → Chain image y ts x → y.index.params ≡ x.index.params
chain_params image [] y x c = ap (λ (x : Opened). x.index.params) c.0
chain_params image (OfBatch d ∷ ts) y x c = chain_params image ts (one_more image y d) x c.2
chain_params image (OfUpgrade ∷ ts) y x c = chain_params image ts (with_marker y) x c.2

abbrev pub batch_entries : List Directory → List BatchEntry
batch_entries ds = map (λ (d : Directory). d.batch) ds

pub chain_batches : (image : List ℕ) (ts : List Turn) (y x : Opened) → Chain image y ts x → x.index.batches ≡ y.index.batches ++ batch_entries (directories_in ts)
chain_batches image [] y x c = ap (λ (x : Opened). x.index.batches) (sym c.0) ∙ sym (append-nil y.index.batches)
chain_batches image (OfBatch d ∷ ts) y x c = chain_batches image ts (one_more image y d) x c.2 ∙ append_assoc y.index.batches (d.batch ∷ []) (batch_entries (directories_in ts))
chain_batches image (OfUpgrade ∷ ts) y x c = chain_batches image ts (with_marker y) x c.2

abbrev pub new_names : List Directory → List (List ℕ)
new_names ds = flat_map (λ (d : Directory). d.names) ds

pub chain_names : (image : List ℕ) (ts : List Turn) (y x : Opened) → Chain image y ts x → x.names ≡ y.names ++ new_names (directories_in ts)
chain_names image [] y x c = ap (λ (x : Opened). x.names) (sym c.0) ∙ sym (append-nil y.names)
chain_names image (OfBatch d ∷ ts) y x c = chain_names image ts (one_more image y d) x c.2 ∙ append_assoc y.names d.names (new_names (directories_in ts))
chain_names image (OfUpgrade ∷ ts) y x c = chain_names image ts (with_marker y) x c.2

-- the records behind those that are opened so far
pub chain_records : (image : List ℕ) (ts : List Turn) (y x : Opened) → Chain image y ts x → (later : List (Key × Entry)) × (x.index.records ≡ y.index.records ++ later)
chain_records image [] y x c = ([], ap (λ (x : Opened). x.index.records) (sym c.0) ∙ sym (append-nil y.index.records))
chain_records image (OfUpgrade ∷ ts) y x c = chain_records image ts (with_marker y) x c.2
chain_records image (OfBatch d ∷ ts) y x c =
    let rest = chain_records image ts (one_more image y d) x c.2 in
    let here : List (Key × Entry) = laid (y.index.used + 16 + eight_at image y.index.used) (keys_next y.index d.batch.events) (rows_in d) in
    (here ++ rest.0, rest.1 ∙ append_assoc y.index.records here rest.0)

pub chain_used : (image : List ℕ) (ts : List Turn) (y x : Opened) → Chain image y ts x → 1 ≤ y.index.used → y.index.used ≤ length image → y.index.used ≤ FILE_BYTES_MAX
    → (1 ≤ x.index.used) × (x.index.used ≤ length image) × (x.index.used ≤ FILE_BYTES_MAX) × ((get_or image (x.index.used - 1) 0 == 1) ≡ false)
chain_used image [] y x c some within fits =
    let used : y.index.used ≡ x.index.used = ap (λ (x : Opened). x.index.used) c.0 in
    (omega (arith, used, some), omega (arith, used, within), omega (arith, used, fits), ap (λ n. get_or image (n - 1) 0 == 1) (sym used) ∙ c.1)
chain_used image (OfBatch d ∷ ts) y x c some within fits = chain_used image ts (one_more image y d) x c.2 (omega arith) c.1.ends c.1.fits
chain_used image (OfUpgrade ∷ ts) y x c some within fits = chain_used image ts (with_marker y) x c.2 (omega arith) c.1.ends c.1.fits
