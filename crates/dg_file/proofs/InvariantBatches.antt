-- What an index holds with one segment more.
use Rattle.std.proofs.Common.{◌≡◌, ℕ, suc, ◌+◌, ◌-◌, ◌≤◌, true, List, [], ◌∷◌, ◌++◌, length, map, Option, Some, None, refl, sym, ap, subst, ◌∙◌, arith, length-append}
use Rattle.std.specs.Prelude.{nat_le, slice_get}
use Rattle.std.proofs.lemmas.Bool.{leb-true, and_parts}
use Rattle.std.proofs.lemmas.List.Sums.{sum_by-cons, sum_by_push, sum_by-append}
use Rattle.dg_history.specs.declared.limits.TheConstants.{BATCH_LINES_MAX, EVENTS_MAX, FILE_BYTES_MAX}
use Rattle.dg_graph.specs.declared.limits.TheConstants.{TIME_MAX}
use Rattle.dg_text.specs.declared.limits.TheConstants.{NAMES_MAX}
use Rattle.dg_history.specs.declared.node.Key.{Key}
use Rattle.dg_catalogue.specs.Entries.{Holdings, spanned}
use Rattle.dg_index.specs.OpenedIndex.{total, Opening, event_total, earliest_in, first_in, last_or, last_list, keys_next, laid, may_be_listed, may_follow, span_in, within}
use Rattle.dg_index.specs.IndexGrowth.{AreInTurn, columns_in, last_time_in, name_total}
use Rattle.dg_index.specs.declared.entry.Ends.{Ends}
use Rattle.dg_index.specs.declared.entry.Entry.{Entry}
use Rattle.dg_index.specs.declared.entry.BatchEntry.{BatchEntry}
use Rattle.dg_index.specs.declared.entry.Row.{Row}
use Rattle.dg_index.specs.IndexKeys.{Fresh, keys_among}
use Rattle.dg_history.specs.declared.form.Form.{Form}
use Rattle.dg_history.specs.History.{are_parameters}
use Rattle.dg_index.proofs.EverAddedBounds.{kept_laid}
use Rattle.dg_index.proofs.IndexKeyUniqueness.{fresh_next}
use Rattle.dg_index.proofs.OpenedIndexHistories.{large_parameters}
use Rattle.dg_catalogue.specs.Additions.{bytes_of_rows, Suits, IsRoomFor}
use Rattle.dg_file.specs.Invariant.{IndexIsSound, TimesRise, last_from, later, listed_after, with_rows}
use Rattle.dg_catalogue.proofs.AdditionRecords.{suits_length}
use Rattle.dg_file.proofs.InvariantLists.{span_push, times_with}

earliest_push : (t : ℕ) (batches : List BatchEntry) (b : BatchEntry) → earliest_in t (batches ++ b ∷ []) ≡ b.ends.last + 1
earliest_push t [] b = refl
earliest_push t (c ∷ batches) b = earliest_push (c.ends.last + 1) batches b

turn_push : (count t : ℕ) (batches : List BatchEntry) (b : BatchEntry) → AreInTurn count t batches → may_follow (count + event_total batches) (earliest_in t batches) b ≡ true → AreInTurn count t (batches ++ b ∷ [])
turn_push count t [] b turn e = (subst (λ n. may_follow n t b ≡ true) (let all : count + 0 ≡ count = omega arith in all) e, tt)
turn_push count t (c ∷ batches) b turn e = (
  turn.0,
  turn_push (count + c.events) (c.ends.last + 1) batches b turn.1
      (subst (λ n. may_follow n (earliest_in (c.ends.last + 1) batches) b ≡ true) (let all : count + event_total (c ∷ batches) ≡ count + c.events + event_total batches = omega (arith, sum_by-cons (λ (b : BatchEntry). b.events) c batches) in all) e),
)

last_append : (t : ℕ) (xs ys : List (Key × Entry)) → last_list t (xs ++ ys) ≡ last_list (last_list t xs) ys
last_append t [] ys = refl
last_append t (x ∷ xs) ys = last_append (last_or t x.1.ends) xs ys

later_is : (t : ℕ) (last : Option ℕ) (e : Option Ends) → last_or (last_from t last) e ≡ last_from t (later last e)
later_is t last None = refl
later_is t last (Some e) = refl

last_laid : (t : ℕ) (last : Option ℕ) (offset : ℕ) (keys : List Key) (rows : List Row) → Suits keys rows → last_list (last_from t last) (laid offset keys rows) ≡ last_from t (listed_after last rows)
last_laid t last offset [] [] s = refl
last_laid t last offset [] (r ∷ rows) s = absurd s
last_laid t last offset (k ∷ keys) [] s = absurd s
last_laid t last offset (k ∷ keys) (r ∷ rows) s =
    ap (λ n. last_list n (laid (offset + total r.lengths) keys rows)) (later_is t last r.ends) ∙ last_laid t (later last r.ends) (offset + total r.lengths) keys rows s.2

laid_bytes : (offset : ℕ) (keys : List Key) (rows : List Row) → Suits keys rows → columns_in (laid offset keys rows) ≡ bytes_of_rows rows
laid_bytes offset [] [] s = refl
laid_bytes offset [] (r ∷ rows) s = absurd s
laid_bytes offset (k ∷ keys) [] s = absurd s
laid_bytes offset (k ∷ keys) (r ∷ rows) s =
    let one : Key × Entry = (k, record { lengths = r.lengths; offset = offset; ends = r.ends }) in
    let rest : List (Key × Entry) = laid (offset + total r.lengths) keys rows in
    omega (arith, sum_by-cons (λ (e : Key × Entry). total e.1.lengths) one rest, sum_by-cons (λ (r : Row). total r.lengths) r rows, laid_bytes (offset + total r.lengths) keys rows s.2)

pub bytes_with : (o : Opening) (b : BatchEntry) (rows : List Row) (offset used : ℕ) → Suits (keys_next o b.events) rows → columns_in (with_rows o b rows offset used).records ≡ columns_in o.records + bytes_of_rows rows
bytes_with o b rows offset used s =
    sum_by-append (λ (e : Key × Entry). total e.1.lengths) o.records (laid offset (keys_next o b.events) rows) ∙ ap (λ n. columns_in o.records + n) (laid_bytes offset (keys_next o b.events) rows s)

-- a later list ends by this time too
ends_by : (first t : ℕ) (last : Option ℕ) (rows : List Row) → last_from 0 last ≤ t → may_be_listed first t rows ≡ true → last_from 0 (listed_after last rows) ≤ t
ends_by first t last [] le may = le
ends_by first t last (r ∷ rows) le may =
    let parts = and_parts (within first t r.ends) _ may in
    ends_by (last_or first r.ends) t (later last r.ends) rows (by r.ends parts.0) parts.1
  where
    by : (ends : Option Ends) → within first t ends ≡ true → last_from 0 (later last ends) ≤ t
    by None i = le
    by (Some e) i = leb-true _ _ (and_parts (nat_le e.first e.last) _ (and_parts (nat_le first e.first) _ i).1).1

-- what the test of a batch behind others says
pub record Follows (count earliest : ℕ) (b : BatchEntry) : Type 0 where
  pub some : 1 ≤ b.events
  pub few : b.events ≤ BATCH_LINES_MAX
  pub all : count + b.events ≤ EVENTS_MAX
  pub starts : earliest ≤ b.ends.first
  pub rises : b.ends.first ≤ b.ends.last
  pub in_time : b.ends.last ≤ TIME_MAX

pub follows_in : (count earliest : ℕ) (b : BatchEntry) → may_follow count earliest b ≡ true → Follows count earliest b
follows_in count earliest b e =
    let a = and_parts (nat_le 1 b.events) _ e in
    let c = and_parts (nat_le b.events BATCH_LINES_MAX) _ a.1 in
    let d = and_parts (nat_le (count + b.events) EVENTS_MAX) _ c.1 in
    let f = and_parts (nat_le earliest b.ends.first) _ d.1 in
    let g = and_parts (nat_le b.ends.first b.ends.last) _ f.1 in
    record { some = leb-true _ _ a.0; few = leb-true _ _ c.0; all = leb-true _ _ d.0; starts = leb-true _ _ f.0; rises = leb-true _ _ g.0; in_time = leb-true _ _ g.1 }

pub noted_sound : (o : Opening) (events names from : ℕ) (last : Option ℕ) (span : Option Ends) (b : BatchEntry) (rows : List Row) (offset used : ℕ) → IndexIsSound o events names from last span → Suits (keys_next o b.events) rows
    → may_follow (event_total o.batches) (earliest_in 0 o.batches) b ≡ true → may_be_listed (last_list (first_in b.ends.first o.batches) o.records) b.ends.last rows ≡ true → name_total o.batches + b.names ≤ NAMES_MAX → o.used ≤ offset → offset + bytes_of_rows rows + 1 ≡ used → used ≤ FILE_BYTES_MAX
    → IndexIsSound (with_rows o b rows offset used) (events + b.events) (names + b.names) (b.ends.last + 1) (listed_after last rows) (Some (spanned span b.ends))
noted_sound o events names from last span b rows offset used s suits follows may few behind is within =
    let f = follows_in (event_total o.batches) (earliest_in 0 o.batches) b follows in
    record {
      parameters = s.parameters;
      turns = turn_push 0 0 o.batches b s.turns (subst (λ n. may_follow n (earliest_in 0 o.batches) b ≡ true) (let all : event_total o.batches ≡ 0 + event_total o.batches = omega arith in all) follows);
      count = omega (arith, s.count, sum_by_push (λ (b : BatchEntry). b.events) o.batches b);
      few = omega (arith, s.count, f.all);
      number = omega (arith, s.number, f.some, length-append o.batches (b ∷ []));
      named = omega (arith, s.named, sum_by_push (λ (b : BatchEntry). b.names) o.batches b);
      few_names = omega (arith, s.named, few);
      earliest = sym (earliest_push 0 o.batches b);
      in_time = omega (arith, f.in_time);
      listed = λ t. last_append t o.records (laid offset (keys_next o b.events) rows) ∙ ap (λ n. last_list n (laid offset (keys_next o b.events) rows)) (s.listed t) ∙ last_laid t last offset (keys_next o b.events) rows suits;
      late = omega (arith, ends_by (last_list (first_in b.ends.first o.batches) o.records) b.ends.last last rows (omega (arith, s.late, s.earliest, f.starts, f.rises)) may);
      rise = times_with o last b rows offset s.rise s.listed may;
      span_is = ap (λ (x : Option Ends). Some (spanned x b.ends)) s.span_is ∙ span_push o.batches b;
      kept = kept_laid o b rows offset used s.kept (suits_length (keys_next o b.events) rows suits);
      bytes = omega (arith, s.bytes, behind, is, bytes_with o b rows offset used suits);
      within = within;
    }

-- the form and the bytes in use are all that an upgrade changes
pub marked_sound : (o : Opening) (events names from : ℕ) (last : Option ℕ) (span : Option Ends) (f : Form) (used : ℕ) → IndexIsSound o events names from last span → o.used ≤ used → used ≤ FILE_BYTES_MAX
    → IndexIsSound (record { params = o.params; form = f; batches = o.batches; records = o.records; used = used }) events names from last span
marked_sound o events names from last span f used s behind within = record {
  parameters = s.parameters;
  turns = s.turns;
  count = s.count;
  few = s.few;
  number = s.number;
  named = s.named;
  few_names = s.few_names;
  earliest = s.earliest;
  in_time = s.in_time;
  listed = s.listed;
  late = s.late;
  rise = s.rise;
  span_is = s.span_is;
  kept = s.kept;
  bytes = omega (arith, s.bytes, behind);
  within = within;
}

pub room_for : (o : Opening) (events names from : ℕ) (last : Option ℕ) (span : Option Ends) (c : Holdings) (b : BatchEntry) (keys : List Key) (rows : List Row) (offset used : ℕ) → IndexIsSound o events names from last span → c.entries ≡ o.records
    → length keys ≤ c.spare → keys ≡ keys_next o b.events → Suits keys rows → o.used ≤ offset → offset + bytes_of_rows rows + 1 ≡ used → used ≤ FILE_BYTES_MAX → IsRoomFor c offset keys rows
room_for o events names from last span c b keys rows offset used s same room is suits behind end within =
    let large = large_parameters o.params.l o.params.k s.parameters in
    let fresh = fresh_next o.params (omega (arith, large.0)) (omega (arith, large.1)) o.batches b.events in
    record {
      room = room;
      fresh = subst (λ (l : List (Key × Entry)). Fresh (map (λ (r : Key × Entry). r.0) l) keys) (sym same) (subst (λ (l : List Key). Fresh l keys) (sym s.kept) (subst (λ (l : List Key). Fresh (keys_among o.params 0 0 o.batches) l) (sym is) fresh));
      in_range = omega (arith, end, within);
      bytes = omega (arith, ap columns_in same, s.bytes, behind, end, within);
      suits = suits;
    }

pub bare_sound : (o : Opening) → are_parameters o.params.l o.params.k ≡ true → o.batches ≡ [] → o.records ≡ [] → o.used ≡ 18 → IndexIsSound o 0 0 0 None None
bare_sound o p b r u = record {
  parameters = p;
  turns = subst (AreInTurn 0 0) (sym b) tt;
  count = ap event_total (sym b);
  few = omega arith;
  number = omega (arith, ap length b);
  named = ap name_total (sym b);
  few_names = omega arith;
  earliest = ap (earliest_in 0) (sym b);
  in_time = omega arith;
  listed = λ t. ap (last_list t) r;
  late = omega arith;
  rise = subst (TimesRise 0) (sym r) tt;
  span_is = ap span_in (sym b);
  kept = (λ i. map (λ (x : Key × Entry). x.0) (r i)) ∙ (λ i. keys_among o.params 0 0 (sym b i));
  bytes = omega (arith, ap columns_in r, u);
  within = omega (arith, u);
}

-- the last batch tells the last time
pub last_is : (batches : List BatchEntry) (b : BatchEntry) → slice_get batches (length batches - 1) ≡ Some b → Some b.ends.last ≡ last_time_in batches
last_is [] b e = absurd cc
last_is (x ∷ []) b e = ap last_end (sym e)
  where
    last_end : Option BatchEntry → Option ℕ
    last_end None = None
    last_end (Some b) = Some b.ends.last
last_is (x ∷ y ∷ more) b e = last_is (y ∷ more) b (subst (λ n. slice_get (y ∷ more) n ≡ Some b) (let less : length more ≡ length (y ∷ more) - 1 = omega arith in less) (subst (λ n. slice_get (x ∷ y ∷ more) n ≡ Some b) (let more_is : length (x ∷ y ∷ more) - 1 ≡ suc (length more) = omega arith in more_is) e))
