-- What the bytes of a directory say behind what is opened so far, and whether it may stand there.
use Rattle.std.proofs.Common.{◌≡◌, ℕ, zero, suc, ◌+◌, ◌*◌, ◌<◌, ◌≤◌, Bool, true, false, cond, List, [], ◌∷◌, ◌++◌, length, take, drop, Option, Some, None, refl, sym, ap, subst, ◌∙◌, arith, length-append}
use Rattle.std.specs.Prelude.{◌&&◌, ◌==◌, nat_le, nat_lt, option_and_then}
use Rattle.std.proofs.lemmas.Bool.{and_from, le-leb, lt-leb, lt-ltb, le-ltb, eqb-true, and_parts}
use Rattle.std.proofs.lemmas.List.{take_at, drop_at}
use Rattle.dg_history.specs.declared.limits.TheConstants.{EVENTS_MAX}
use Rattle.dg_text.specs.declared.limits.TheConstants.{NAMES_MAX}
use Rattle.dg_history.specs.declared.node.Key.{Key}
use Rattle.dg_text.specs.Names.{are_new}
use Rattle.dg_history.specs.History.{is_wide}
use Rattle.dg_index.specs.ImageText.{four_at, eight_at, names_at}
use Rattle.dg_index.specs.OpenedIndex.{may_be_named, Opening, Opened, Directory, are_unheard, list_count, delta_count, keys_next, lengths_size, list_at, list_size, record_at, rows_at, rows_in, directory_with, may_follow, may_be_listed, may_stand, if_it_may, event_total, earliest_in, last_list, first_in}
use Rattle.dg_index.specs.declared.entry.BatchEntry.{BatchEntry}
use Rattle.dg_index.specs.declared.entry.Row.{Row}
use Rattle.dg_index.proofs.IndexRecordColumns.{Each}
use Rattle.dg_segment.proofs.OpenedIndexKeys.{IsTimed, IsUntimed, suits_due}
use Rattle.dg_segment.specs.declared.found.FoundDirectory.{FoundDirectory}
use Rattle.dg_segment.specs.Directories.{TakesNames, directory_due, TakesDirectory}
use Rattle.dg_catalogue.specs.Additions.{bytes_of_rows, Suits}
use Rattle.dg_segment.proofs.OpenedIndexLists.{listed_read}
use Rattle.dg_segment.proofs.DirectoryTexts.{names_length, end_in, names_first, name_far}

-- what the bytes say that has so many lists and deltas, whose names are read as these and end at the offset
abbrev pub said : Bool → ℕ → ℕ → List ℕ → List (List ℕ) × ℕ → Directory
said wide lists deltas bytes t = record {
  batch = record {
    events = eight_at bytes 0;
    ends = record { first = eight_at bytes 8; last = eight_at bytes 16 };
    names = length t.0;
  };
  names = t.0;
  lists = rows_at (list_at wide) (list_size wide) lists bytes (t.1 + 4);
  deltas = rows_at (record_at wide) (lengths_size wide) deltas bytes (t.1 + 8 + list_size wide * lists);
  piece = record_at wide bytes (t.1 + 8 + list_size wide * lists + lengths_size wide * deltas);
}

abbrev pub has_rows : Bool → ℕ → ℕ → List ℕ → ℕ → Bool
has_rows wide lists deltas bytes end = length bytes == end + 8 + list_size wide * lists + lengths_size wide * deltas + lengths_size wide && (four_at bytes end == lists && four_at bytes (end + 4 + list_size wide * lists) == deltas)

abbrev judge : Opened → ℕ → Directory → Option Directory
judge x columns d = if_it_may (may_stand x columns d) d

cond_then : {A B : Type 0} (f : A → Option B) (b : Bool) (x : A) → option_and_then f (cond b (Some x) None) ≡ cond b (f x) None
cond_then f true x = refl
cond_then f false x = refl

and_false : (b : Bool) → (b && false) ≡ false
and_false true = refl
and_false false = refl

-- ---- by the parts of the test

module _ (d : Directory) where
  no_rows : (ok m f n l : Bool) → ok ≡ false → cond ok (if_it_may (m && (f && (n && l))) d) None ≡ None
  no_rows ok m f n l e = ap (λ b. cond b (if_it_may (m && (f && (n && l))) d) None) e

  not_measured : (ok m f n l : Bool) → m ≡ false → cond ok (if_it_may (m && (f && (n && l))) d) None ≡ None
  not_measured false m f n l e = refl
  not_measured true m f n l e = ap (λ b. if_it_may (b && (f && (n && l))) d) e

  not_following : (ok m f n l : Bool) → f ≡ false → cond ok (if_it_may (m && (f && (n && l))) d) None ≡ None
  not_following false m f n l e = refl
  not_following true false f n l e = refl
  not_following true true f n l e = ap (λ b. if_it_may (b && (n && l)) d) e

  not_named : (ok m f n l : Bool) → n ≡ false → cond ok (if_it_may (m && (f && (n && l))) d) None ≡ None
  not_named false m f n l e = refl
  not_named true false f n l e = refl
  not_named true true false n l e = refl
  not_named true true true n l e = ap (λ b. if_it_may (b && l) d) e

  not_listed : (ok m f n l : Bool) → l ≡ false → cond ok (if_it_may (m && (f && (n && l))) d) None ≡ None
  not_listed false m f n l e = refl
  not_listed true false f n l e = refl
  not_listed true true false n l e = refl
  not_listed true true true false l e = refl
  not_listed true true true true l e = ap (λ b. if_it_may b d) e

  it_stands : (ok m f n l : Bool) → ok ≡ true → m ≡ true → f ≡ true → n ≡ true → l ≡ true → cond ok (if_it_may (m && (f && (n && l))) d) None ≡ Some d
  it_stands ok m f n l eo em ef en el = λ i. cond (eo i) (if_it_may (em i && (ef i && (en i && el i))) d) None

-- ---- what a directory is

module _ (x : Opened) (columns : ℕ) (bytes : List ℕ) where
  abbrev form_of : Bool
  form_of = is_wide x.index.form

  due_is : (short : Bool) (o : Option (List (List ℕ) × ℕ)) → nat_lt (length bytes) 28 ≡ short → names_at (four_at bytes 24) bytes 28 ≡ o
      → directory_due x columns bytes ≡ option_and_then (judge x columns) (cond short None (option_and_then (directory_with form_of (list_count x.index (eight_at bytes 0)) (delta_count x.index (eight_at bytes 0)) bytes) o))
  due_is short o s n = λ i. option_and_then (judge x columns) (cond (s i) None (option_and_then (directory_with form_of (list_count x.index (eight_at bytes 0)) (delta_count x.index (eight_at bytes 0)) bytes) (n i)))

  pub due_short : length bytes < 28 → directory_due x columns bytes ≡ None
  due_short lt = due_is true (names_at (four_at bytes 24) bytes 28) (lt-ltb (length bytes) 28 lt) refl

  due_by : 28 ≤ length bytes → (t : List (List ℕ) × ℕ) → names_at (four_at bytes 24) bytes 28 ≡ Some t
      → directory_due x columns bytes ≡ cond (has_rows form_of (list_count x.index (eight_at bytes 0)) (delta_count x.index (eight_at bytes 0)) bytes t.1) (judge x columns (said form_of (list_count x.index (eight_at bytes 0)) (delta_count x.index (eight_at bytes 0)) bytes t)) None
  due_by le t n =
      let L = list_count x.index (eight_at bytes 0) in
      let D = delta_count x.index (eight_at bytes 0) in
      due_is false (Some t) (le-ltb (length bytes) 28 le) n ∙ cond_then (judge x columns) (has_rows form_of L D bytes t.1) (said form_of L D bytes t)

  -- where the names may not be added
  due_unnamed : 28 ≤ length bytes → ((t : List (List ℕ) × ℕ) → names_at (four_at bytes 24) bytes 28 ≡ Some t → may_be_named x.names t.0 ≡ false) → directory_due x columns bytes ≡ None
  due_unnamed le wrong = by (names_at (four_at bytes 24) bytes 28) refl
    where
      by : (o : Option (List (List ℕ) × ℕ)) → names_at (four_at bytes 24) bytes 28 ≡ o → directory_due x columns bytes ≡ None
      by None n = due_is false None (le-ltb (length bytes) 28 le) n
      by (Some t) n =
          let L = list_count x.index (eight_at bytes 0) in
          let D = delta_count x.index (eight_at bytes 0) in
          let d : Directory = said form_of L D bytes t in
          due_by le t n ∙ not_named d (has_rows form_of L D bytes t.1) (bytes_of_rows (rows_in d) == columns) (may_follow (event_total x.index.batches) (earliest_in 0 x.index.batches) d.batch) (may_be_named x.names d.names)
          (may_be_listed (last_list (first_in d.batch.ends.first x.index.batches) x.index.records) d.batch.ends.last d.lists && are_unheard d.deltas) (wrong t n)

  pub due_stale : 28 ≤ length bytes → ((t : List (List ℕ) × ℕ) → names_at (four_at bytes 24) bytes 28 ≡ Some t → are_new x.names t.0 ≡ false) → directory_due x columns bytes ≡ None
  due_stale le stale = due_unnamed le (λ t n. ap (λ b. b && nat_le (length x.names + length t.0) NAMES_MAX) (stale t n))

  pub due_many : 28 ≤ length bytes → (number : ℕ) → number ≡ four_at bytes 24 → NAMES_MAX < length x.names + number → directory_due x columns bytes ≡ None
  due_many le number is lt =
      due_unnamed le (λ t n. ap (λ b. are_new x.names t.0 && b) (lt-leb (length x.names + length t.0) NAMES_MAX (omega (arith, names_length (four_at bytes 24) bytes 28 t n, is, lt))) ∙ and_false (are_new x.names t.0))

rows_length : (row : List ℕ → ℕ → Row) (size n : ℕ) (bytes : List ℕ) (at : ℕ) → length (rows_at row size n bytes at) ≡ n
rows_length row size zero bytes at = refl
rows_length row size (suc n) bytes at = ap suc (rows_length row size n bytes (at + size))

all_lists : (wide : Bool) (n : ℕ) (bytes : List ℕ) (at : ℕ) → Each IsTimed (rows_at (list_at wide) (list_size wide) n bytes at)
all_lists wide zero bytes at = tt
all_lists wide (suc n) bytes at = (refl, all_lists wide n bytes (at + list_size wide))

all_others : (wide : Bool) (n : ℕ) (bytes : List ℕ) (at : ℕ) → Each IsUntimed (rows_at (record_at wide) (lengths_size wide) n bytes at)
all_others wide zero bytes at = tt
all_others wide (suc n) bytes at = (refl, all_others wide n bytes (at + lengths_size wide))

suits_said : (wide : Bool) (o : Opening) (events lists deltas : ℕ) (bytes : List ℕ) (t : List (List ℕ) × ℕ) → 2 ≤ o.params.l → event_total o.batches + events ≤ EVENTS_MAX → lists ≡ list_count o events → deltas ≡ delta_count o events → Suits (keys_next o events) (rows_in (said wide lists deltas bytes t))
suits_said wide o events lists deltas bytes t large few l_is d_is =
    suits_due o events (rows_at (list_at wide) (list_size wide) lists bytes (t.1 + 4)) (rows_at (record_at wide) (lengths_size wide) deltas bytes (t.1 + 8 + list_size wide * lists)) (record_at wide bytes (t.1 + 8 + list_size wide * lists + lengths_size wide * deltas)) large few
    (rows_length (list_at wide) (list_size wide) lists bytes (t.1 + 4) ∙ l_is) (rows_length (record_at wide) (lengths_size wide) deltas bytes (t.1 + 8 + list_size wide * lists) ∙ d_is) (all_lists wide lists bytes (t.1 + 4)) (all_others wide deltas bytes (t.1 + 8 + list_size wide * lists)) refl

-- the lists of the rows
pub first_rows : (wide : Bool) (lists : ℕ) (bytes : List ℕ) (at : ℕ) (rest rows : List Row) → rows ≡ rows_at (list_at wide) (list_size wide) lists bytes at ++ rest → take lists rows ≡ rows_at (list_at wide) (list_size wide) lists bytes at
first_rows wide lists bytes at rest rows is = ap (take lists) is ∙ take_at (rows_at (list_at wide) (list_size wide) lists bytes at) rest lists (rows_length (list_at wide) (list_size wide) lists bytes at)

-- the deltas of the rows
pub middle_rows : (wide : Bool) (lists deltas : ℕ) (bytes : List ℕ) (t : List (List ℕ) × ℕ) (rows : List Row) → rows ≡ rows_in (said wide lists deltas bytes t)
    → take deltas (drop lists rows) ≡ rows_at (record_at wide) (lengths_size wide) deltas bytes (t.1 + 8 + list_size wide * lists)
middle_rows wide lists deltas bytes t rows is =
    let l : List Row = rows_at (list_at wide) (list_size wide) lists bytes (t.1 + 4) in
    let k : List Row = rows_at (record_at wide) (lengths_size wide) deltas bytes (t.1 + 8 + list_size wide * lists) in
    let piece : Row = record_at wide bytes (t.1 + 8 + list_size wide * lists + lengths_size wide * deltas) in
    ap (λ (r : List Row). take deltas (drop lists r)) is
    ∙ ap (take deltas) (drop_at l (k ++ piece ∷ []) lists (rows_length (list_at wide) (list_size wide) lists bytes (t.1 + 4)))
    ∙ take_at k (piece ∷ []) deltas (rows_length (record_at wide) (lengths_size wide) deltas bytes (t.1 + 8 + list_size wide * lists))

-- the number of rows
pub rows_number : (wide : Bool) (lists deltas : ℕ) (bytes : List ℕ) (t : List (List ℕ) × ℕ) → length (rows_in (said wide lists deltas bytes t)) ≡ lists + deltas + 1
rows_number wide lists deltas bytes t =
    let l : List Row = rows_at (list_at wide) (list_size wide) lists bytes (t.1 + 4) in
    let k : List Row = rows_at (record_at wide) (lengths_size wide) deltas bytes (t.1 + 8 + list_size wide * lists) in
    let piece : Row = record_at wide bytes (t.1 + 8 + list_size wide * lists + lengths_size wide * deltas) in
    omega (arith, length-append l (k ++ piece ∷ []), length-append k (piece ∷ []), rows_length (list_at wide) (list_size wide) lists bytes (t.1 + 4), rows_length (record_at wide) (lengths_size wide) deltas bytes (t.1 + 8 + list_size wide * lists))

-- ---- a directory that is read

names_past : (k : ℕ) (bytes : List ℕ) (at : ℕ) (t : List (List ℕ) × ℕ) → names_at k bytes at ≡ Some t → at ≤ t.1
names_past zero bytes at t e = omega (arith, ap end_in e)
names_past (suc k) bytes at t e =
    let f = names_first k bytes at t e in
    omega (arith, name_far bytes at (f.text, f.end) f.one, names_past k bytes f.end (f.others, t.1) f.more)

least_size : (wide : Bool) → 24 ≤ lengths_size wide
least_size true = omega arith
least_size false = omega arith

module _ (x : Opened) (columns : ℕ) (bytes : List ℕ) (wide : Bool) (wide_is : wide ≡ is_wide x.index.form) (le : 28 ≤ length bytes) (count end : ℕ) (new : List (List ℕ)) (batch : BatchEntry) (is : count ≡ four_at bytes 24) (taken : TakesNames bytes count x.names new end)
    (batch_is : batch ≡ record { events = eight_at bytes 0; ends = record { first = eight_at bytes 8; last = eight_at bytes 16 }; names = count }) (lists deltas : ℕ) (lists_is : lists ≡ list_count x.index batch.events) (deltas_is : deltas ≡ delta_count x.index batch.events) where
  abbrev ok : Bool
  ok = has_rows wide lists deltas bytes end

  abbrev fits : Bool
  fits = bytes_of_rows (rows_in (said wide lists deltas bytes (taken.names, end))) == columns

  abbrev follows : Bool
  follows = may_follow (event_total x.index.batches) (earliest_in 0 x.index.batches) (said wide lists deltas bytes (taken.names, end)).batch

  abbrev is_named : Bool
  is_named = may_be_named x.names taken.names

  abbrev is_listed : Bool
  is_listed = may_be_listed (last_list (first_in (eight_at bytes 8) x.index.batches) x.index.records) (eight_at bytes 16) (rows_at (list_at wide) (list_size wide) lists bytes (end + 4))

  abbrev is_unheard : Bool
  is_unheard = are_unheard (rows_at (record_at wide) (lengths_size wide) deltas bytes (end + 8 + list_size wide * lists))

  abbrev test : Option Directory
  test = cond ok (if_it_may (fits && (follows && (is_named && (is_listed && is_unheard)))) (said wide lists deltas bytes (taken.names, end))) None

  long : length taken.names ≡ count
  long = names_length count bytes 28 (taken.names, end) taken.read

  due_at : directory_due x columns bytes ≡ test
  due_at =
      let events : batch.events ≡ eight_at bytes 0 = ap (λ (b : BatchEntry). b.events) batch_is in
      let l : list_count x.index (eight_at bytes 0) ≡ lists = ap (list_count x.index) (sym events) ∙ sym lists_is in
      let k : delta_count x.index (eight_at bytes 0) ≡ deltas = ap (delta_count x.index) (sym events) ∙ sym deltas_is in
      due_by x columns bytes le (taken.names, end) (subst (λ n. names_at n bytes 28 ≡ Some (taken.names, end)) is taken.read)
      ∙ (λ i. cond (has_rows (sym wide_is i) (l i) (k i) bytes end) (judge x columns (said (sym wide_is i) (l i) (k i) bytes (taken.names, end))) None)

  batch_same : (said wide lists deltas bytes (taken.names, end)).batch ≡ batch
  batch_same = ap (λ (n : ℕ). record { events = eight_at bytes 0; ends = record { first = eight_at bytes 8; last = eight_at bytes 16 }; names = n }) long ∙ sym batch_is

  follows_same : may_follow (event_total x.index.batches) (earliest_in 0 x.index.batches) (said wide lists deltas bytes (taken.names, end)).batch ≡ may_follow (event_total x.index.batches) (earliest_in 0 x.index.batches) batch
  follows_same = ap (may_follow (event_total x.index.batches) (earliest_in 0 x.index.batches)) batch_same

  pub due_following : may_follow (event_total x.index.batches) (earliest_in 0 x.index.batches) batch ≡ false → directory_due x columns bytes ≡ None
  due_following e = due_at ∙ not_following (said wide lists deltas bytes (taken.names, end)) ok fits follows is_named (is_listed && is_unheard) (follows_same ∙ e)

  pub due_rows : has_rows wide lists deltas bytes end ≡ false → directory_due x columns bytes ≡ None
  due_rows e = due_at ∙ no_rows (said wide lists deltas bytes (taken.names, end)) ok fits follows is_named (is_listed && is_unheard) e

  pub due_measured : (rows : List Row) → rows ≡ rows_in (said wide lists deltas bytes (taken.names, end)) → (bytes_of_rows rows == columns) ≡ false → directory_due x columns bytes ≡ None
  due_measured rows r e = due_at ∙ not_measured (said wide lists deltas bytes (taken.names, end)) ok fits follows is_named (is_listed && is_unheard) (ap (λ (l : List Row). bytes_of_rows l == columns) (sym r) ∙ e)

  listed_same : (rows : List Row) (first : ℕ) → rows ≡ rows_in (said wide lists deltas bytes (taken.names, end)) → first ≡ last_list (first_in batch.ends.first x.index.batches) x.index.records
      → may_be_listed (last_list (first_in (eight_at bytes 8) x.index.batches) x.index.records) (eight_at bytes 16) (rows_at (list_at wide) (list_size wide) lists bytes (end + 4)) ≡ may_be_listed first batch.ends.last (take lists rows)
  listed_same rows first r f =
      let from : first ≡ last_list (first_in (eight_at bytes 8) x.index.batches) x.index.records = f ∙ ap (λ (b : BatchEntry). last_list (first_in b.ends.first x.index.batches) x.index.records) batch_is in
      let last : batch.ends.last ≡ eight_at bytes 16 = ap (λ (b : BatchEntry). b.ends.last) batch_is in
      let all = first_rows wide lists bytes (end + 4) _ rows r in
      λ i. may_be_listed (sym from i) (sym last i) (sym all i)

  pub due_listed : (rows : List Row) (first : ℕ) → rows ≡ rows_in (said wide lists deltas bytes (taken.names, end)) → first ≡ last_list (first_in batch.ends.first x.index.batches) x.index.records → may_be_listed first batch.ends.last (take lists rows) ≡ false → directory_due x columns bytes ≡ None
  due_listed rows first r f e = due_at ∙ not_listed (said wide lists deltas bytes (taken.names, end)) ok fits follows is_named (is_listed && is_unheard) (ap (λ b. b && is_unheard) (listed_same rows first r f ∙ e))

  unheard_same : (rows : List Row) → rows ≡ rows_in (said wide lists deltas bytes (taken.names, end))
      → are_unheard (rows_at (record_at wide) (lengths_size wide) deltas bytes (end + 8 + list_size wide * lists)) ≡ are_unheard (take deltas (drop lists rows))
  unheard_same rows r = ap are_unheard (sym (middle_rows wide lists deltas bytes (taken.names, end) rows r))

  pub due_unheard : (rows : List Row) → rows ≡ rows_in (said wide lists deltas bytes (taken.names, end)) → are_unheard (take deltas (drop lists rows)) ≡ false → directory_due x columns bytes ≡ None
  due_unheard rows r e =
      due_at ∙ not_listed (said wide lists deltas bytes (taken.names, end)) ok fits follows is_named (is_listed && is_unheard) (ap (λ b. is_listed && b) (unheard_same rows r ∙ e) ∙ and_false is_listed)

  pub due_taken : (found : FoundDirectory) (first : ℕ) → 2 ≤ x.index.params.l → event_total x.index.batches + batch.events ≤ EVENTS_MAX → length x.names + count ≤ NAMES_MAX → found.batch ≡ batch → found.rows.items ≡ rows_in (said wide lists deltas bytes (taken.names, end))
      → found.keys.items ≡ keys_next x.index batch.events → has_rows wide lists deltas bytes end ≡ true → may_follow (event_total x.index.batches) (earliest_in 0 x.index.batches) batch ≡ true → (bytes_of_rows found.rows.items == columns) ≡ true
      → first ≡ last_list (first_in batch.ends.first x.index.batches) x.index.records → may_be_listed first batch.ends.last (take lists found.rows.items) ≡ true → are_unheard (take deltas (drop lists found.rows.items)) ≡ true → TakesDirectory x.index columns bytes x.names new found
  due_taken found first large few room fb r k tables follow measured f listed unheard =
      let named : may_be_named x.names taken.names ≡ true = and_from (are_new x.names taken.names) _ taken.fresh (le-leb (length x.names + length taken.names) NAMES_MAX (omega (arith, long, room))) in
      let ends = and_parts (length bytes == end + 8 + list_size wide * lists + lengths_size wide * deltas + lengths_size wide) _ tables in
      let all = ap length taken.gained ∙ length-append x.names taken.names in
      let number : found.batch.names ≡ count = ap (λ (b : BatchEntry). b.names) (fb ∙ batch_is) in
      record {
        directory = said wide lists deltas bytes (taken.names, end);
        due = due_at ∙ it_stands (said wide lists deltas bytes (taken.names, end)) ok fits follows is_named (is_listed && is_unheard) tables (ap (λ (l : List Row). bytes_of_rows l == columns) (sym r) ∙ measured) (follows_same ∙ follow) named (and_from is_listed is_unheard (listed_same found.rows.items first r f ∙ listed) (unheard_same found.rows.items r ∙ unheard));
        batch = fb ∙ sym batch_same;
        rows = r;
        keys = k ∙ ap (λ (b : BatchEntry). keys_next x.index b.events) (sym fb);
        gained = taken.gained;
        suits = subst (λ (l : List Key). Suits l found.rows.items) (sym k) (subst (λ (l : List Row). Suits (keys_next x.index batch.events) l) (sym r) (suits_said wide x.index batch.events lists deltas bytes (taken.names, end) large few lists_is deltas_is));
        measured = eqb-true (bytes_of_rows found.rows.items) columns measured;
        follows = ap (may_follow (event_total x.index.batches) (earliest_in 0 x.index.batches)) fb ∙ follow;
        listed =
            let o : Opening = x.index in
            let rows : List Row = rows_in (said wide lists deltas bytes (taken.names, end)) in
            let from : eight_at bytes 8 ≡ found.batch.ends.first = ap (λ (b : BatchEntry). b.ends.first) (sym (fb ∙ batch_is)) in
            let last : eight_at bytes 16 ≡ found.batch.ends.last = ap (λ (b : BatchEntry). b.ends.last) (sym (fb ∙ batch_is)) in
            let read : may_be_listed (last_list (first_in (eight_at bytes 8) o.batches) o.records) (eight_at bytes 16) rows ≡ true =
            listed_read wide (last_list (first_in (eight_at bytes 8) o.batches) o.records) (eight_at bytes 16) (rows_at (list_at wide) (list_size wide) lists bytes (end + 4)) deltas bytes (end + 8 + list_size wide * lists) (end + 8 + list_size wide * lists + lengths_size wide * deltas)
            (listed_same found.rows.items first r f ∙ listed) in
            (λ i. may_be_listed (last_list (first_in (sym from i) o.batches) o.records) (sym last i) (r i)) ∙ read;
        counted = omega (arith, all, long, number);
        few = omega (arith, all, long, room);
        long = omega (arith, eqb-true (length bytes) (end + 8 + list_size wide * lists + lengths_size wide * deltas + lengths_size wide) ends.0, least_size wide, names_past count bytes 28 (taken.names, end) taken.read);
      }
