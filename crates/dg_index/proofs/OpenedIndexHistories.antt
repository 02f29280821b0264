-- An image of a history is opened as what the history is opened as.
use Rattle.std.proofs.Common.{◌≡◌, ℕ, zero, suc, ◌+◌, ◌-◌, ◌*◌, ◌<◌, ◌≤◌, Bool, true, false, cond, List, [], ◌∷◌, ◌++◌, length, get_or, take, drop, map, Some, None, Ok, Err, refl, sym, ap, subst, ◌∙◌, append_assoc, arith, length-append, length-drop, length-take-le, take-add, drop-drop, add-mul, div-mul-le_self, div-le_self, append-nil}
use lib.Seq.{take-append-le}
use Rattle.std.specs.Prelude.{◌≢◌, nat_le, ◌==◌, ◌&&◌, ◌||◌, not}
use Rattle.std.proofs.lemmas.Bool.{and_from, and_parts, and_right, leb-true, le-leb, eq-eqb, le-ltb, ne_eqb, false≢true}
use Rattle.std.proofs.lemmas.List.{drop_more, take-append-drop, length-map}
use Rattle.std.proofs.lemmas.List.Concat.{flat_map-append}
use Rattle.std.proofs.lemmas.List.Sums.{sum_by_push}
use Rattle.std.proofs.lemmas.Option.{slice_get_within, get_or_from_slice_get}
use Rattle.dg_graph.specs.declared.event.Event.{Event}
use Rattle.dg_graph.specs.declared.limits.TheConstants.{TIME_MAX, SKEW_MAX}
use Rattle.dg_text.specs.declared.limits.TheConstants.{NAMES_MAX}
use Rattle.dg_history.specs.declared.limits.TheConstants.{BATCH_LINES_MAX, EVENTS_MAX, FILE_BYTES_MAX}
use Rattle.dg_history.specs.declared.node.Key.{Key}
use Rattle.dg_history.specs.declared.node.Key.TheVariants as key
use Rattle.dg_graph.specs.declared.function.Function.{Function}
use Rattle.dg_graph.specs.declared.function.Function.TheVariants as function
use Rattle.dg_history.specs.declared.form.Form.{Form}
use Rattle.dg_history.specs.declared.form.Form.TheVariants as form
use Rattle.dg_history.specs.declared.params.Params.{Params}
use Rattle.dg_graph.specs.Columns.{four, two as two_bytes}
use Rattle.dg_index.specs.FileOfHistory.{header, function_byte, Stored, StoredList, Segment, directory, segment_bytes, segment_of, segments_from, stored_list, stored, file, header_one, header_two, marker, share_of, segments_in}
use Rattle.dg_history.specs.EventTimes.{RisesFrom}
use Rattle.dg_history.specs.History.{first_time_of, History, Batch, are_parameters, names_of, span_of, last_time_from, earliest_next, is_form, is_function, is_skewed, is_wide, narrow_batches}
use Rattle.dg_history.specs.LegalHistory.{IsLegalBatch, AreLegalAfter, are_silent}
use Rattle.dg_history.proofs.EventTimes.{earliest_behind, first_and_last, last_earliest, last_in_time, last_some, last_two, rises_join, rises_last, rises_later, rises_parts}
use Rattle.dg_history.proofs.LegalHistories.{batch_rises, events_among, names_among}
use Rattle.dg_history.proofs.ParameterRanges.{in_range}
use Rattle.dg_index.specs.ImageOfHistory.{is_blank, IsImageOf}
use Rattle.dg_text.specs.Names.{are_new}
use Rattle.dg_index.specs.OpenedIndex.{No_index, may_be_named, rows_in, Opened, bare, opening, opened_of, opened_onto, with_segment, directory_of, list_row, record_row, laid, total, last_list, last_or, first_in, earliest_in, event_total, may_follow, may_be_listed, within, read_on, opened_or, opened_by, keys_next, MayStand, opened_in, with_marker}
use Rattle.dg_index.specs.ImageText.{params_with, function_in, four_at, header_in, header_with, shared_function_in, two_at}
use Rattle.dg_index.specs.Hierarchy.{numbers, leaves}
use Rattle.dg_index.specs.IndexRecords.{record_among, closed_list, deltas_due, lists_due}
use Rattle.dg_index.specs.declared.entry.Entry.{Entry}
use Rattle.dg_index.specs.declared.entry.BatchEntry.{BatchEntry}
use Rattle.dg_index.specs.declared.entry.Row.{Row}
use Rattle.dg_index.proofs.OpenedIndexDirectories.{map_last, stands_next, read_next, read_end, marker_next, read_marked}
use Rattle.dg_index.proofs.UnheardRecords.{deltas_unheard, segment_unheard, silent_parts}
use Rattle.dg_index.proofs.HierarchyCounts.{deltas_fit, numbers_length}
use Rattle.dg_index.proofs.HierarchyStability.{leaves_more}
use Rattle.dg_index.proofs.ImageTextNames.{new_parts}
use Rattle.dg_index.proofs.ImageTextRanges.{four_read, behind, byte_read, two_read}

record Follows (count earliest events first last : ℕ) : Type 0 where
  some : 1 ≤ events
  few : events ≤ BATCH_LINES_MAX
  all : count + events ≤ EVENTS_MAX
  later : earliest ≤ first
  rises : first ≤ last
  in_time : last ≤ TIME_MAX

follows_to : (count earliest : ℕ) (b : BatchEntry) → Follows count earliest b.events b.ends.first b.ends.last → may_follow count earliest b ≡ true
follows_to count earliest b f =
    and_from (nat_le 1 b.events) _ (le-leb _ _ f.some) (and_from (nat_le b.events BATCH_LINES_MAX) _ (le-leb _ _ f.few) (and_from (nat_le (count + b.events) EVENTS_MAX) _ (le-leb _ _ f.all)
    (and_from (nat_le earliest b.ends.first) _ (le-leb _ _ f.later) (and_from (nat_le b.ends.first b.ends.last) _ (le-leb _ _ f.rises) (le-leb _ _ f.in_time)))))

-- ---- the times of a legal batch

batch_follows : (names : List (List ℕ)) (before : List Event) (b : Batch) → IsLegalBatch names before b → length before + length b.events ≤ EVENTS_MAX → Follows (length before) (earliest_next (span_of before)) (length b.events) (first_time_of b.events) (last_time_from 0 b.events)
batch_follows names before b legal few =
    let ends = first_and_last (earliest_next (span_of before)) b.events legal.some (batch_rises names before b legal) in
    record {
      some = legal.some;
      few = legal.few;
      all = few;
      later = ends.0;
      rises = ends.1;
      in_time = last_in_time 0 b.events (omega arith) (λ i d lt. (legal.fits i d lt).0);
    }

-- ---- the header

function_read : (f : Function) → not (is_skewed f) ≡ true → function_in (function_byte f) ≡ Some f
function_read function.Intersection e = refl
function_read function.Union e = refl
function_read function.Balanced e = refl
function_read (function.Skewed r) e = absurd (false≢true e)

shared_read : (f : Function) → is_function f ≡ true → shared_function_in (function_byte f) (share_of f) ≡ Some f
shared_read function.Intersection e = refl
shared_read function.Union e = refl
shared_read function.Balanced e = refl
shared_read (function.Skewed r) e = ap (λ b. cond b (Some (function.Skewed r)) None) e

share_small : (f : Function) → is_function f ≡ true → share_of f ≤ 256
share_small function.Intersection e = omega arith
share_small function.Union e = omega arith
share_small function.Balanced e = omega arith
share_small (function.Skewed r) e = leb-true r SKEW_MAX e

-- the form with which a file begins
abbrev pub first_form : Form → Form
first_form form.One = form.One
first_form (form.Upgraded b) = form.One
first_form form.Two = form.Two

header_one_read : (params : Params) (rest : List ℕ) → are_parameters params.l params.k ≡ true → not (is_skewed params.function) ≡ true
    → header_in (header_one params ++ rest) ≡ Some (record { form = form.One; params = params })
header_one_read params rest e plain =
    let range = in_range params.l params.k e in
    let l : four_at (header_one params ++ rest) 8 ≡ params.l = four_read (header_one params ++ rest) 8 params.l (four params.k ++ (function_byte params.function ∷ rest)) (omega (arith, range.list_most)) refl in
    let k : four_at (header_one params ++ rest) 12 ≡ params.k = four_read (header_one params ++ rest) 12 params.k (function_byte params.function ∷ rest) (omega (arith, range.arity_most)) refl in
    (λ i. header_with form.One (params_with (l i) (k i) (function_read params.function plain i))) ∙ ap (λ b. header_with form.One (cond b (Some params) None)) e

header_two_read : (params : Params) (rest : List ℕ) → are_parameters params.l params.k ≡ true → is_function params.function ≡ true
    → header_in (header_two params ++ rest) ≡ Some (record { form = form.Two; params = params })
header_two_read params rest e share =
    let range = in_range params.l params.k e in
    let f : List ℕ = function_byte params.function ∷ rest in
    let l : four_at (header_two params ++ rest) 8 ≡ params.l = four_read (header_two params ++ rest) 8 params.l (two_bytes (share_of params.function) ++ (two_bytes params.k ++ f)) (omega (arith, range.list_most)) refl in
    let s : two_at (header_two params ++ rest) 12 ≡ share_of params.function = two_read (header_two params ++ rest) 12 (share_of params.function) (two_bytes params.k ++ f) (omega (arith, share_small params.function share)) refl in
    let k : two_at (header_two params ++ rest) 14 ≡ params.k = two_read (header_two params ++ rest) 14 params.k f (omega (arith, range.arity_most)) refl in
    (λ i. header_with form.Two (params_with (l i) (k i) (shared_function_in (function_byte params.function) (s i))))
    ∙ (λ i. header_with form.Two (params_with params.l params.k (shared_read params.function share i)))
    ∙ ap (λ b. header_with form.Two (cond b (Some params) None)) e

pub header_read : (f : Form) (n : ℕ) (params : Params) (rest : List ℕ) → are_parameters params.l params.k ≡ true → is_function params.function ≡ true → is_form f params.function n ≡ true
    → header_in (header f params ++ rest) ≡ Some (record { form = first_form f; params = params })
header_read form.One n params rest e share is = header_one_read params rest e is
header_read (form.Upgraded b) n params rest e share is = header_one_read params rest e (and_parts (not (is_skewed params.function)) _ is).0
header_read form.Two n params rest e share is = header_two_read params rest e share

not_blank_open : (image : List ℕ) → 18 ≤ length image → get_or image 0 0 ≡ 1 → is_blank image ≡ false
not_blank_open image long opens =
    (λ i. le-ltb (length image) 18 long i || (length image == 18 && not (eq-eqb (get_or image 0 0) 1 opens i))) ∙ and_right (length image == 18) false refl

-- an image of the history, cut at its gate
pub image_parts : (z : History) (image : List ℕ) → (h : IsImageOf z image) → image ≡ file z ++ h.gate ∷ drop (length (file z) + 1) image
image_parts z image h =
    let n = length (file z) in
    let lt = slice_get_within image n h.gate h.there in
    let rest : drop n image ≡ h.gate ∷ drop (n + 1) image = drop_more image n 0 lt ∙ ap (λ b. b ∷ drop (n + 1) image) (get_or_from_slice_get image n h.gate 0 h.there) in
    sym (take-append-drop n image) ∙ (λ i. h.begins i ++ rest i)

-- ---- the times of lists

-- a list of events that are in order, behind a time that is not later, and before others
list_within : (t last : ℕ) (list rest : List Event) → 1 ≤ length list → RisesFrom t (list ++ rest) → last ≡ last_time_from t (list ++ rest)
    → within t last (Some (record { first = first_time_of list; last = last_time_from 0 list })) ≡ true
list_within t last [] rest some r is = absurd (omega arith)
list_within t last (e ∷ list) rest some r is =
    let parts = rises_parts e.time list rest r.1 in
    let ends = rises_last e.time list parts.0 in
    let over : last_time_from e.time list ≤ last = omega (arith, is, last_two e.time list rest, rises_last (last_time_from e.time list) rest parts.1) in
    and_from (nat_le t e.time) _ (le-leb _ _ r.0) (and_from (nat_le e.time (last_time_from e.time list)) _ (le-leb _ _ ends) (le-leb _ _ over))

module _ (p : Params) (pos : 0 < p.l) where
  list_length : (events : List Event) (i : ℕ) → (i + 1) * p.l ≤ length events → length (closed_list p events i) ≡ p.l
  list_length events i le =
      let more : (i + 1) * p.l ≡ i * p.l + p.l = omega (arith, add-mul i 1 p.l) in
      length-take-le p.l (drop (i * p.l) events) (omega (arith, length-drop (i * p.l) events, le, more))

  -- the lists from number i on
  stored_lists : List Event → ℕ → ℕ → List StoredList
  stored_lists events i n = map (stored_list p events) (numbers i n)

  next_drop : (events : List Event) (i : ℕ) → drop p.l (drop (i * p.l) events) ≡ drop ((i + 1) * p.l) events
  next_drop events i = drop-drop p.l (i * p.l) events ∙ ap (λ n. drop n events) (let e : i * p.l + p.l ≡ (i + 1) * p.l = omega (arith, add-mul i 1 p.l) in e)

  pub are_listed : (events : List Event) (t i n last : ℕ) → (i + n) * p.l ≤ length events → RisesFrom t (drop (i * p.l) events) → last ≡ last_time_from t (drop (i * p.l) events)
      → may_be_listed t last (map list_row (map (stored_list p events) (numbers i n))) ≡ true
  are_listed events t i zero last le r is = refl
  are_listed events t i (suc n) last le r is =
      let list : List Event = closed_list p events i in
      let rest : List Event = drop p.l (drop (i * p.l) events) in
      let all : list ++ rest ≡ drop (i * p.l) events = take-append-drop p.l (drop (i * p.l) events) in
      let sum : (i + suc n) * p.l ≡ (i + 1) * p.l + n * p.l = omega (arith, add-mul i (suc n) p.l, add-mul i 1 p.l, add-mul n 1 p.l) in
      let long = list_length events i (omega (arith, le, sum)) in
      let some : 1 ≤ length list = omega (arith, long, pos) in
      let r_all : RisesFrom t (list ++ rest) = subst (RisesFrom t) (sym all) r in
      let parts = rises_parts t list rest r_all in
      let here = list_within t last list rest some r_all (is ∙ ap (last_time_from t) (sym all)) in
      let same : last_time_from t list ≡ last_time_from 0 list = last_some t 0 list some in
      let r_next : RisesFrom (last_time_from 0 list) (drop ((i + 1) * p.l) events) = subst (λ (l : List Event). RisesFrom (last_time_from 0 list) l) (next_drop events i) (subst (λ s. RisesFrom s rest) same parts.1) in
      let is_next : last ≡ last_time_from (last_time_from 0 list) (drop ((i + 1) * p.l) events) = is ∙ ap (last_time_from t) (sym all) ∙ last_two t list rest ∙ (λ j. last_time_from (same j) (next_drop events i j)) in
      and_from (within t last (Some (record { first = first_time_of list; last = last_time_from 0 list }))) _ here
      (are_listed events (last_time_from 0 list) (i + 1) n last (subst (λ c. c * p.l ≤ length events) (let e : i + suc n ≡ i + 1 + n = omega arith in e) le) r_next is_next)

-- ---- the last list among the records

pub last_list_more : (t : ℕ) (xs ys : List (Key × Entry)) → last_list t (xs ++ ys) ≡ last_list (last_list t xs) ys
last_list_more t [] ys = refl
last_list_more t (x ∷ xs) ys = last_list_more (last_or t x.1.ends) xs ys

laid_none : (t offset : ℕ) (keys : List Key) (others : List Stored) → last_list t (laid offset keys (map record_row others)) ≡ t
laid_none t offset [] others = refl
laid_none t offset (k ∷ keys) [] = refl
laid_none t offset (k ∷ keys) (s ∷ others) = laid_none t (offset + total (record_row s).lengths) keys others

module _ (p : Params) (pos : 0 < p.l) where
  laid_lists : (events : List Event) (t offset i n : ℕ) (keys : List Key) (others : List Stored) → (i + n) * p.l ≤ length events
      → last_list t (laid offset (map (λ i. key.List i) (numbers i n) ++ keys) (map list_row (map (stored_list p events) (numbers i n)) ++ map record_row others))
      ≡ last_time_from t (take (n * p.l) (drop (i * p.l) events))
  laid_lists events t offset i zero keys others le =
      laid_none t offset keys others ∙ ap (λ c. last_time_from t (take c (drop (i * p.l) events))) (let e : 0 ≡ 0 * p.l = omega arith in e)
  laid_lists events t offset i (suc n) keys others le =
      let list : List Event = closed_list p events i in
      let d : List Event = drop (i * p.l) events in
      let sum : (i + suc n) * p.l ≡ (i + 1) * p.l + n * p.l = omega (arith, add-mul i (suc n) p.l, add-mul i 1 p.l, add-mul n 1 p.l) in
      let long = list_length p pos events i (omega (arith, le, sum)) in
      let same : last_time_from 0 list ≡ last_time_from t list = last_some 0 t list (omega (arith, long, pos)) in
      let more = laid_lists events (last_time_from 0 list) (offset + total (list_row (stored_list p events i)).lengths) (i + 1) n keys others (subst (λ c. c * p.l ≤ length events) (let e : i + suc n ≡ i + 1 + n = omega arith in e) le) in
      more ∙ (λ j. last_time_from (same j) (take (n * p.l) (sym (next_drop p pos events i) j)))
      ∙ sym (last_two t list (take (n * p.l) (drop p.l d)))
      ∙ ap (last_time_from t) (sym (take-add p.l (n * p.l) d) ∙ ap (λ c. take c d) (let e : p.l + n * p.l ≡ suc n * p.l = omega (arith, add-mul n 1 p.l) in e))

-- ---- what is opened behind so many batches

pub first_more : (t : ℕ) (xs : List BatchEntry) (b : BatchEntry) → first_in t (xs ++ b ∷ []) ≡ first_in b.ends.first xs
first_more t [] b = refl
first_more t (x ∷ xs) b = refl

pub earliest_more : (t : ℕ) (xs : List BatchEntry) (b : BatchEntry) → earliest_in t (xs ++ b ∷ []) ≡ b.ends.last + 1
earliest_more t [] b = refl
earliest_more t (x ∷ xs) b = earliest_more (x.ends.last + 1) xs b

first_front : (xs ys : List Event) → 1 ≤ length xs → first_time_of (xs ++ ys) ≡ first_time_of xs
first_front [] ys some = absurd (omega arith)
first_front (x ∷ xs) ys some = refl

rises_first : (events : List Event) → 1 ≤ length events → RisesFrom 0 events → RisesFrom (first_time_of events) events
rises_first [] some r = absurd (omega arith)
rises_first (e ∷ events) some r = (omega arith, r.1)

-- the index and the names are those of these events and names
pub record IsBehind (p : Params) (x : Opened) (before : List Event) (names : List (List ℕ)) : Type 0 where
  pub params : x.index.params ≡ p
  pub count : event_total x.index.batches ≡ length before
  pub earliest : earliest_in 0 x.index.batches ≡ earliest_next (span_of before)
  pub names_are : x.names ≡ names
  pub first : (events : List Event) → 1 ≤ length events → first_in (first_time_of events) x.index.batches ≡ first_time_of (before ++ events)
  pub lists : (t : ℕ) → last_list t x.index.records ≡ last_time_from t (take (leaves p (length before) * p.l) before)
  pub rises : RisesFrom 0 before

pub bare_is : (f : Form) (p : Params) → IsBehind p (bare f p) [] []
bare_is f p = record {
  params = refl;
  count = refl;
  earliest = refl;
  names_are = refl;
  first = λ events some. refl;
  lists = λ t. ap (λ n. last_time_from t (take n [])) (let e : 0 ≡ 0 = refl in e) ∙ none t (leaves p 0 * p.l);
  rises = tt;
}
  where
    none : (t n : ℕ) → t ≡ last_time_from t (take n [])
    none t zero = refl
    none t (suc n) = refl

module _ (p : Params) (pos : 0 < p.l) (two : 2 ≤ p.k) (x : Opened) (before : List Event) (names all_names : List (List ℕ)) (b : Batch)
    (is : IsBehind p x before names) (legal : IsLegalBatch all_names before b) (few : length before + length b.events ≤ EVENTS_MAX)
    (named : may_be_named names b.names ≡ true) (silent : is_wide x.index.form ≡ false → are_silent (before ++ b.events) ≡ true) where
  all : List Event
  all = before ++ b.events

  m : ℕ
  m = leaves p (length before)

  after : ℕ
  after = leaves p (length before + length b.events)

  more_rises : RisesFrom 0 (before ++ b.events)
  more_rises = rises_join 0 before b.events is.rises (rises_later (last_time_from 0 before) (earliest_next (span_of before)) b.events (last_earliest before) (batch_rises all_names before b legal))

  up : leaves p (length before) ≤ leaves p (length before + length b.events)
  up = leaves_more p.l (length before) (length b.events) pos

  ends_within : (leaves p (length before) + (leaves p (length before + length b.events) - leaves p (length before))) * p.l ≤ length (before ++ b.events)
  ends_within =
      let e : leaves p (length before) + (leaves p (length before + length b.events) - leaves p (length before)) ≡ leaves p (length before + length b.events) = omega (arith, up) in
      subst (λ c. c * p.l ≤ length (before ++ b.events)) (sym e) (subst (λ c. leaves p (length before + length b.events) * p.l ≤ c) (sym (length-append before b.events)) (div-mul-le_self (length before + length b.events) p.l))

  listed : may_be_listed (last_list (first_in (first_time_of b.events) x.index.batches) x.index.records) (last_time_from 0 b.events) (map list_row (segment_of p before b).lists) ≡ true
  listed =
      let events : List Event = before ++ b.events in
      let n : ℕ = leaves p (length before) * p.l in
      let some : 1 ≤ length events = omega (arith, legal.some, length-append before b.events) in
      let front : take n before ≡ take n events = sym (take-append-le n before b.events (div-mul-le_self (length before) p.l)) in
      let start : ℕ = first_time_of events in
      let floor : last_list (first_in (first_time_of b.events) x.index.batches) x.index.records ≡ last_time_from start (take n events) =
      is.lists (first_in (first_time_of b.events) x.index.batches) ∙ (λ i. last_time_from (is.first b.events legal.some i) (front i)) in
      let whole : take n events ++ drop n events ≡ events = take-append-drop n events in
      let parts = rises_parts start (take n events) (drop n events) (subst (RisesFrom start) (sym whole) (rises_first events some more_rises)) in
      let last : last_time_from 0 b.events ≡ last_time_from (last_time_from start (take n events)) (drop n events) =
      last_some 0 (last_time_from start before) b.events legal.some ∙ sym (last_two start before b.events) ∙ ap (last_time_from start) (sym whole) ∙ last_two start (take n events) (drop n events) in
      (λ i. may_be_listed (floor i) (last_time_from 0 b.events) (map list_row (segment_of p before b).lists))
      ∙ are_listed p pos events (last_time_from start (take n events)) (leaves p (length before)) (leaves p (length before + length b.events) - leaves p (length before)) (last_time_from 0 b.events) ends_within parts.1 last

  few_leaves : leaves p (length before + length b.events) ≤ EVENTS_MAX
  few_leaves = omega (arith, div-le_self (length before + length b.events) p.l, few)

  pub may_stand : MayStand x (segment_of p before b)
  may_stand =
      let events : List Event = before ++ b.events in
      let m = leaves p (length before) in
      let after = leaves p (length before + length b.events) in
      let lists : length (segment_of p before b).lists ≡ after - m = length-map (numbers m (after - m)) (stored_list p events) ∙ numbers_length m (after - m) in
      let deltas : length (segment_of p before b).deltas ≡ length (deltas_due p.k m after) = length-map (deltas_due p.k m after) (λ k. stored (record_among p events [] k)) in
      record {
        lists = lists ∙ (λ i. leaves (sym is.params i) (sym is.count i + length b.events) - leaves (sym is.params i) (sym is.count i));
        deltas = deltas ∙ (λ i. length (deltas_due (sym is.params i).k (leaves (sym is.params i) (sym is.count i)) (leaves (sym is.params i) (sym is.count i + length b.events))));
        few_lists = omega (arith, lists, few_leaves);
        few_deltas = omega (arith, deltas, deltas_fit p.k m after two, few_leaves);
        follows = (λ i. may_follow (is.count i) (is.earliest i) (directory_of (segment_of p before b)).batch)
            ∙ follows_to (length before) (earliest_next (span_of before)) (directory_of (segment_of p before b)).batch (batch_follows all_names before b legal few);
        named = ap (λ (l : List (List ℕ)). may_be_named l b.names) is.names_are ∙ named;
        listed = listed;
        deltas_unheard = deltas_unheard p events p.k m after;
        unheard = λ h. segment_unheard p before b (silent h);
      }

  -- and so it is with the batch
  pub behind_more : IsBehind p (with_segment x (segment_of p before b)) (before ++ b.events) (names ++ b.names)
  behind_more =
      let events : List Event = before ++ b.events in
      let s : Segment = segment_of p before b in
      let m = leaves p (length before) in
      let after = leaves p (length before + length b.events) in
      let n : ℕ = m * p.l in
      let front : take n before ≡ take n events = sym (take-append-le n before b.events (div-mul-le_self (length before) p.l)) in
      let offset : ℕ = x.index.used + 16 + length (directory (is_wide x.index.form) s) in
      let keys : List Key = deltas_due p.k m after ++ key.Piece (length x.index.batches) ∷ [] in
      let keys_are : keys_next x.index (length b.events) ≡ map (λ i. key.List i) (numbers m (after - m)) ++ keys =
      λ i. lists_due (is.params i) (is.count i) (is.count i + length b.events) ++ (deltas_due (is.params i).k (leaves (is.params i) (is.count i)) (leaves (is.params i) (is.count i + length b.events)) ++ key.Piece (length x.index.batches) ∷ []) in
      let rows_are : rows_in (directory_of s) ≡ map list_row s.lists ++ map record_row (s.deltas ++ s.piece ∷ []) = ap (λ (l : List Row). map list_row s.lists ++ l) (map_last s.deltas s.piece) in
      let upto : n + (after - m) * p.l ≡ after * p.l = sym (add-mul m (after - m) p.l) ∙ ap (λ c. c * p.l) (let e : m + (after - m) ≡ after = omega (arith, up) in e) in
      record {
        params = is.params;
        count = sum_by_push (λ (b : BatchEntry). b.events) x.index.batches (directory_of s).batch ∙ ap (λ c. c + length b.events) is.count ∙ sym (length-append before b.events);
        earliest = earliest_more 0 x.index.batches (directory_of s).batch ∙ sym (earliest_behind before b.events legal.some);
        names_are = ap (λ (l : List (List ℕ)). l ++ b.names) is.names_are;
        first = λ later some. first_more (first_time_of later) x.index.batches (directory_of s).batch ∙ is.first b.events legal.some
            ∙ sym (first_front events later (omega (arith, legal.some, length-append before b.events)));
        lists = λ t.
            last_list_more t x.index.records (laid offset (keys_next x.index (length b.events)) (rows_in (directory_of s)))
            ∙ (λ i. last_list (is.lists t i) (laid offset (keys_are i) (rows_are i)))
            ∙ laid_lists p pos events (last_time_from t (take n before)) offset m (after - m) keys (s.deltas ++ s.piece ∷ []) ends_within
            ∙ ap (λ (l : List Event). last_time_from (last_time_from t l) (take ((after - m) * p.l) (drop n events))) front
            ∙ sym (last_two t (take n events) (take ((after - m) * p.l) (drop n events)))
            ∙ ap (last_time_from t) (sym (take-add n ((after - m) * p.l) events) ∙ ap (λ c. take c events) (upto ∙ ap (λ c. leaves p c * p.l) (sym (length-append before b.events))));
        rises = more_rises;
      }

-- what reading comes to behind a run of batches, with `rest` behind it
pub record Runs (p : Params) (x : Opened) (before : List Event) (names : List (List ℕ)) (batches : List Batch) (image rest : List ℕ) (n k : ℕ) : Type 0 where
  pub read : read_on n image x ≡ read_on k image (opened_onto p x before batches)
  pub behind : IsBehind p (opened_onto p x before batches) (before ++ events_among batches) (names ++ names_among batches)
  pub used : (opened_onto p x before batches).index.used ≡ x.index.used + length (segments_from (is_wide x.index.form) p before batches)
  pub left : drop ((opened_onto p x before batches).index.used - 1) image ≡ rest

-- each batch is read behind those before it
pub read_run : (p : Params) → 0 < p.l → 2 ≤ p.k → (batches : List Batch) (n k : ℕ) (x : Opened) (before : List Event) (names all_names : List (List ℕ)) (image rest : List ℕ)
    → IsBehind p x before names → AreLegalAfter all_names before batches → are_new names (names_among batches) ≡ true → length names + length (names_among batches) ≤ NAMES_MAX
    → length before + length (events_among batches) ≤ EVENTS_MAX → 1 ≤ x.index.used → drop (x.index.used - 1) image ≡ segments_from (is_wide x.index.form) p before batches ++ rest → 1 ≤ length rest
    → x.index.used + length (segments_from (is_wide x.index.form) p before batches) ≤ FILE_BYTES_MAX → n ≡ length batches + k
    → (is_wide x.index.form ≡ false → are_silent (before ++ events_among batches) ≡ true) → Runs p x before names batches image rest n k
read_run p pos two [] n k x before names all_names image rest is legal new few_names few some text over fits enough silent = record {
  read = ap (λ n. read_on n image x) (let e : n ≡ k = omega (arith, enough) in e);
  behind = subst (λ (l : List Event). IsBehind p x l (names ++ [])) (sym (append-nil before)) (subst (λ (l : List (List ℕ)). IsBehind p x before l) (sym (append-nil names)) is);
  used = omega arith;
  left = text;
}
read_run p pos two (b ∷ more) zero k x before names all_names image rest is legal new few_names few some text over fits enough silent = absurd (omega (arith, enough))
read_run p pos two (b ∷ more) (suc n) k x before names all_names image rest is legal new few_names few some text over fits enough silent =
    let wide : Bool = is_wide x.index.form in
    let s : Segment = segment_of p before b in
    let one = legal.0 in
    let others : List ℕ = segments_from wide p (before ++ b.events) more in
    let tail : List ℕ = others ++ rest in
    let count : length (b.events ++ events_among more) ≡ length b.events + length (events_among more) = length-append b.events (events_among more) in
    let number : length (b.names ++ names_among more) ≡ length b.names + length (names_among more) = length-append b.names (names_among more) in
    let few_here : length before + length b.events ≤ EVENTS_MAX = omega (arith, count, few) in
    let fresh = new_parts names b.names (names_among more) new in
    let named : may_be_named names b.names ≡ true = and_from (are_new names b.names) _ fresh.0 (le-leb (length names + length b.names) NAMES_MAX (omega (arith, number, few_names))) in
    let still : wide ≡ false → are_silent ((before ++ b.events) ++ events_among more) ≡ true = λ h. ap are_silent (append_assoc before b.events (events_among more)) ∙ silent h in
    let silent_here : wide ≡ false → are_silent (before ++ b.events) ≡ true = λ h. (silent_parts (before ++ b.events) (events_among more) (still h)).0 in
    let long : length (segment_bytes wide s ++ others) ≡ length (segment_bytes wide s) + length others = length-append (segment_bytes wide s) others in
    let here : drop (x.index.used - 1) image ≡ 1 ∷ ((segment_bytes wide s ++ others) ++ rest) = text in
    let bytes : drop x.index.used image ≡ segment_bytes wide s ++ tail = behind image (1 ∷ []) ((segment_bytes wide s ++ others) ++ rest) (x.index.used - 1) x.index.used (omega (arith, some)) here ∙ append_assoc (segment_bytes wide s) others rest in
    let opens = byte_read image (x.index.used - 1) 1 ((segment_bytes wide s ++ others) ++ rest) here in
    let may = may_stand p pos two x before names all_names b is one few_here named silent_here in
    let stands = stands_next x s image tail may bytes (omega (arith, length-append others rest, over)) (omega (arith, long, fits)) in
    let next = behind_more p pos two x before names all_names b is one few_here named silent_here in
    let runs = read_run p pos two more n k (with_segment x s) (before ++ b.events) (names ++ b.names) all_names image rest next legal.1 fresh.1 (omega (arith, number, few_names, length-append names b.names)) (omega (arith, count, few, length-append before b.events))
    (omega arith) (ap (λ n. drop n image) (let e : x.index.used + length (segment_bytes wide s) + 1 - 1 ≡ x.index.used + length (segment_bytes wide s) = omega arith in e) ∙ stands.behind) over (omega (arith, long, fits)) (omega (arith, enough)) still in
    let y : Opened = opened_onto p x before (b ∷ more) in
    record {
      read = read_next n x s image tail stands opens.0 ∙ runs.read;
      behind = subst (λ (l : List Event). IsBehind p y l (names ++ names_among (b ∷ more))) (append_assoc before b.events (events_among more)) (subst (λ (l : List (List ℕ)). IsBehind p y ((before ++ b.events) ++ events_among more) l) (append_assoc names b.names (names_among more)) runs.behind);
      used = omega (arith, runs.used, long);
      left = runs.left;
    }

pub form_onto : (p : Params) (x : Opened) (before : List Event) (batches : List Batch) → (opened_onto p x before batches).index.form ≡ x.index.form
form_onto p x before [] = refl
form_onto p x before (b ∷ more) = form_onto p (with_segment x (segment_of p before b)) (before ++ b.events) more

each_has_bytes : (wide : Bool) (p : Params) (before : List Event) (batches : List Batch) → length batches ≤ length (segments_from wide p before batches)
each_has_bytes wide p before [] = omega arith
each_has_bytes wide p before (b ∷ more) = omega (arith, each_has_bytes wide p (before ++ b.events) more, length-append (segment_bytes wide (segment_of p before b)) (segments_from wide p (before ++ b.events) more))

pub legal_parts : (names : List (List ℕ)) (before : List Event) (xs ys : List Batch) → AreLegalAfter names before (xs ++ ys) → AreLegalAfter names before xs × AreLegalAfter names (before ++ events_among xs) ys
legal_parts names before [] ys legal = (tt, subst (λ (l : List Event). AreLegalAfter names l ys) (sym (append-nil before)) legal)
legal_parts names before (x ∷ xs) ys legal =
    let more = legal_parts names (before ++ x.events) xs ys legal.1 in
    ((legal.0, more.0), subst (λ (l : List Event). AreLegalAfter names l ys) (append_assoc before x.events (events_among xs)) more.1)

-- a marker changes the form and the offset alone
pub behind_marker : (p : Params) (x : Opened) (before : List Event) (names : List (List ℕ)) → IsBehind p x before names → IsBehind p (with_marker x) before names
behind_marker p x before names is = record {
  params = is.params;
  count = is.count;
  earliest = is.earliest;
  names_are = is.names_are;
  first = is.first;
  lists = is.lists;
  rises = is.rises;
}

-- what is known of an image, behind its header, whose batches these are
record HasBatches (f : Form) (p : Params) (batches : List Batch) (all_names : List (List ℕ)) (image : List ℕ) (g : ℕ) (rest : List ℕ) : Type 0 where
  large : 0 < p.l
  arity : 2 ≤ p.k
  legal : AreLegalAfter all_names [] batches
  new : are_new [] (names_among batches) ≡ true
  few_names : length (names_among batches) ≤ NAMES_MAX
  few : length (events_among batches) ≤ EVENTS_MAX
  text : drop 17 image ≡ segments_in f p batches ++ g ∷ rest
  closed : g ≢ 1
  fits : 18 + length (segments_in f p batches) ≤ FILE_BYTES_MAX
  long : 17 + length (segments_in f p batches) < length image
  silent : are_silent (events_among (narrow_batches f batches)) ≡ true

ends_here : (k : ℕ) (x : Opened) (image : List ℕ) (g : ℕ) (rest : List ℕ) → drop (x.index.used - 1) image ≡ g ∷ rest → g ≢ 1 → read_on k image x ≡ Ok x
ends_here k x image g rest text closed = read_end k x image (ne_eqb (get_or image (x.index.used - 1) 0) 1 (λ e. closed (sym (byte_read image (x.index.used - 1) g rest text).0 ∙ e)))

read_form : (f : Form) (p : Params) (batches : List Batch) (all_names : List (List ℕ)) (image : List ℕ) (g : ℕ) (rest : List ℕ) → HasBatches f p batches all_names image g rest
    → read_on (length image) image (bare (first_form f) p) ≡ Ok (opened_in f p batches)
read_form form.One p batches all_names image g rest h =
    let k : ℕ = length image - length batches in
    let run = read_run p h.large h.arity batches (length image) k (bare form.One p) [] [] all_names image (g ∷ rest) (bare_is form.One p) h.legal h.new (omega (arith, h.few_names)) (omega (arith, h.few)) (omega arith) h.text (omega arith) h.fits
    (omega (arith, h.long, each_has_bytes false p [] batches)) (λ n. h.silent) in
    run.read ∙ ends_here k (opened_onto p (bare form.One p) [] batches) image g rest run.left h.closed
read_form form.Two p batches all_names image g rest h =
    let k : ℕ = length image - length batches in
    let run = read_run p h.large h.arity batches (length image) k (bare form.Two p) [] [] all_names image (g ∷ rest) (bare_is form.Two p) h.legal h.new (omega (arith, h.few_names)) (omega (arith, h.few)) (omega arith) h.text (omega arith) h.fits
    (omega (arith, h.long, each_has_bytes true p [] batches)) (λ n. absurd (false≢true (sym n))) in
    run.read ∙ ends_here k (opened_onto p (bare form.Two p) [] batches) image g rest run.left h.closed
read_form (form.Upgraded b) p batches all_names image g rest h =
    let xs : List Batch = take b batches in
    let ys : List Batch = drop b batches in
    let whole : batches ≡ xs ++ ys = sym (take-append-drop b batches) in
    let legal = legal_parts all_names [] xs ys (subst (λ (l : List Batch). AreLegalAfter all_names [] l) whole h.legal) in
    let names : names_among batches ≡ names_among xs ++ names_among ys = ap names_among whole ∙ flat_map-append (λ (b : Batch). b.names) xs ys in
    let events : events_among batches ≡ events_among xs ++ events_among ys = ap events_among whole ∙ flat_map-append (λ (b : Batch). b.events) xs ys in
    let count : length (events_among batches) ≡ length (events_among xs) + length (events_among ys) = ap length events ∙ length-append (events_among xs) (events_among ys) in
    let number : length (names_among batches) ≡ length (names_among xs) + length (names_among ys) = ap length names ∙ length-append (names_among xs) (names_among ys) in
    let new = new_parts [] (names_among xs) (names_among ys) (ap (are_new []) (sym names) ∙ h.new) in
    let first : List ℕ = segments_from false p [] xs in
    let second : List ℕ = segments_from true p (events_among xs) ys in
    let tail : List ℕ = second ++ g ∷ rest in
    let text : drop 17 image ≡ first ++ (1 ∷ (marker ++ tail)) = h.text ∙ append_assoc first (1 ∷ (marker ++ second)) (g ∷ rest) in
    let size : length (segments_in (form.Upgraded b) p batches) ≡ length first + 25 + length second = omega (arith, length-append first (1 ∷ (marker ++ second))) in
    let k : ℕ = length image - length xs - length ys - 1 in
    let here = each_has_bytes false p [] xs in
    let there = each_has_bytes true p (events_among xs) ys in
    let start : Opened = bare form.One p in
    let run = read_run p h.large h.arity xs (length image) (suc (length ys + k)) start [] [] all_names image (1 ∷ (marker ++ tail)) (bare_is form.One p) legal.0 new.0 (omega (arith, number, h.few_names)) (omega (arith, count, h.few)) (omega arith) text (omega arith)
    (omega (arith, h.fits, size)) (omega (arith, h.long, size, here, there)) (λ n. h.silent) in
    let y : Opened = opened_onto p start [] xs in
    let opens = byte_read image (y.index.used - 1) 1 (marker ++ tail) run.left in
    let at : drop y.index.used image ≡ marker ++ tail = behind image (1 ∷ []) (marker ++ tail) (y.index.used - 1) y.index.used (omega (arith, run.used)) run.left in
    let marks = marker_next y image tail (ap is_wide (form_onto p start [] xs)) at (omega (arith, length-append second (g ∷ rest))) (omega (arith, run.used, h.fits, size)) in
    let z : Opened = with_marker y in
    let next = read_run p h.large h.arity ys (length ys + k) k z (events_among xs) (names_among xs) all_names image (g ∷ rest) (behind_marker p y (events_among xs) (names_among xs) run.behind) legal.1 new.1 (omega (arith, number, h.few_names)) (omega (arith, count, h.few)) (omega arith)
    (ap (λ n. drop n image) (let e : y.index.used + 24 + 1 - 1 ≡ y.index.used + 24 = omega arith in e) ∙ marks.1) (omega arith) (omega (arith, run.used, h.fits, size)) refl (λ n. absurd (false≢true (sym n))) in
    run.read ∙ read_marked (length ys + k) y image marks.0 opens.0 ∙ next.read ∙ ends_here k (opened_onto p z (events_among xs) ys) image g rest next.left h.closed

pub large_parameters : (l k : ℕ) → are_parameters l k ≡ true → (2 ≤ l) × (2 ≤ k)
large_parameters l k e = let range = in_range l k e in (range.list_two, range.arity_two)

header_long : (f : Form) (params : Params) → length (header f params) ≡ 17
header_long form.One params = refl
header_long (form.Upgraded b) params = refl
header_long form.Two params = refl

pub behind_header : (f : Form) (params : Params) (rest : List ℕ) → drop 17 (header f params ++ rest) ≡ rest
behind_header form.One params rest = refl
behind_header (form.Upgraded b) params rest = refl
behind_header form.Two params rest = refl

begins_open : (f : Form) (params : Params) (rest : List ℕ) → get_or (header f params ++ rest) 0 0 ≡ 1
begins_open form.One params rest = refl
begins_open (form.Upgraded b) params rest = refl
begins_open form.Two params rest = refl

pub images_are_opened : (z : History) (image : List ℕ) → IsImageOf z image → opening image ≡ Ok (opened_of z)
images_are_opened z image h =
    let n = length (file z) in
    let rest : List ℕ = drop (n + 1) image in
    let body : List ℕ = segments_in z.form z.params z.batches in
    let large = large_parameters z.params.l z.params.k h.legal.parameters in
    let parts : image ≡ header z.form z.params ++ (body ++ h.gate ∷ rest) = image_parts z image h ∙ append_assoc (header z.form z.params) body (h.gate ∷ rest) in
    let lt = slice_get_within image n h.gate h.there in
    let long : n ≡ 17 + length body = length-append (header z.form z.params) body ∙ ap (λ m. m + length body) (header_long z.form z.params) in
    let text : drop 17 image ≡ body ++ h.gate ∷ rest = ap (drop 17) parts ∙ behind_header z.form z.params (body ++ h.gate ∷ rest) in
    let read = read_form z.form z.params z.batches (names_of z) image h.gate rest (record {
      large = omega (arith, large.0);
      arity = large.1;
      legal = h.legal.batches;
      new = h.legal.names;
      few_names = h.legal.few_names;
      few = h.legal.few;
      text = text;
      closed = h.closed;
      fits = omega (arith, h.fits, long);
      long = omega (arith, long, lt);
      silent = h.legal.silent;
    }) in
    ap (λ b. cond b (Err No_index) (opened_by image (header_in image))) (not_blank_open image (omega (arith, long, lt)) (ap (λ (l : List ℕ). get_or l 0 0) parts ∙ begins_open z.form z.params (body ++ h.gate ∷ rest)))
    ∙ ap (opened_by image) (ap header_in parts ∙ header_read z.form (length z.batches) z.params (body ++ h.gate ∷ rest) h.legal.parameters h.legal.function h.legal.form)
    ∙ ap opened_or read
