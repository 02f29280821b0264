-- The lists that an index keeps have the numbers from 0 on, and none begins before an earlier one has ended.
use Rattle.std.proofs.Common.{◌≡◌, ℕ, zero, suc, ◌+◌, ◌-◌, ◌*◌, ◌/◌, ◌^◌, ◌<◌, ◌≤◌, Bool, true, false, cond, ◌==◌, List, [], ◌∷◌, ◌++◌, map, Option, Some, None, is_some, refl, sym, ap, subst, ◌∙◌, arith, append_assoc}
use Rattle.std.specs.Prelude.{nat_le, option_and_then}
use Rattle.std.specs.Map.{lookup}
use Rattle.std.proofs.lemmas.Bool.{leb-true, eqb-true, eqb-false, eq-eqb, ne_eqb, false≢true, and_parts}
use Rattle.std.proofs.lemmas.Option.{same_Some}
use Rattle.dg_history.specs.declared.node.Key.{Key}
use Rattle.dg_history.specs.declared.node.Key.TheVariants as key
use Rattle.dg_history.specs.declared.params.Params.{Params}
use Rattle.dg_history.specs.Keys.{is_list, same_key}
use Rattle.dg_index.specs.declared.entry.BatchEntry.{BatchEntry}
use Rattle.dg_index.specs.declared.entry.Ends.{Ends}
use Rattle.dg_index.specs.declared.entry.Entry.{Entry}
use Rattle.dg_index.specs.declared.entry.Row.{Row}
use Rattle.dg_index.specs.Hierarchy.{numbers, leaves, children}
use Rattle.dg_index.specs.IndexKeys.{keys_among}
use Rattle.dg_index.specs.IndexRecords.{lists_due, deltas_of, inner_due, deltas_due_at, deltas_due}
use Rattle.dg_index.specs.OpenedIndex.{Opening, first_in, keys_next, laid, last_end, last_list, last_or, may_be_listed, span_in, total, within}
use Rattle.dg_index.proofs.IndexRecordColumns.{Each, each_append, each_flat, each_map, each_number}
use Rattle.dg_index.proofs.OpenedIndexHistories.{large_parameters}
use Rattle.dg_index.proofs.HierarchyStability.{leaves_more}
use Rattle.dg_catalogue.specs.Entries.{Holdings, spanned, EndsIfList}
use Rattle.dg_catalogue.specs.Held.{entry_of}
use Rattle.dg_catalogue.specs.Points.{ListsRise}
use Rattle.dg_file.specs.Invariant.{BeginsFrom, IndexIsSound, TimesRise, last_from}

-- ---- the first and the last time of the batches

last_end_push : (t : ℕ) (batches : List BatchEntry) (b : BatchEntry) → last_end t (batches ++ b ∷ []) ≡ b.ends.last
last_end_push t [] b = refl
last_end_push t (c ∷ batches) b = last_end_push c.ends.last batches b

pub span_push : (batches : List BatchEntry) (b : BatchEntry) → Some (spanned (span_in batches) b.ends) ≡ span_in (batches ++ b ∷ [])
span_push [] b = refl
span_push (c ∷ batches) b = λ i. Some (record { first = c.ends.first; last = sym (last_end_push c.ends.last batches b) i })

-- ---- the times of the lists

begins : (t last : ℕ) (ends : Option Ends) → within t last ends ≡ true → BeginsFrom t ends
begins t last None e = tt
begins t last (Some x) e =
    let a = and_parts (nat_le t x.first) _ e in
    (leb-true _ _ a.0, leb-true _ _ (and_parts (nat_le x.first x.last) _ a.1).0)

times_laid : (t last offset : ℕ) (keys : List Key) (rows : List Row) → may_be_listed t last rows ≡ true → TimesRise t (laid offset keys rows)
times_laid t last offset [] rows e = tt
times_laid t last offset (k ∷ keys) [] e = tt
times_laid t last offset (k ∷ keys) (r ∷ rows) e =
    let b = and_parts (within t last r.ends) _ e in
    (begins t last r.ends b.0, times_laid (last_or t r.ends) last (offset + total r.lengths) keys rows b.1)

times_append : (t : ℕ) (xs ys : List (Key × Entry)) → TimesRise t xs → TimesRise (last_list t xs) ys → TimesRise t (xs ++ ys)
times_append t [] ys a b = b
times_append t (x ∷ xs) ys a b = (a.0, times_append (last_or t x.1.ends) xs ys a.1 b)

-- they begin no earlier than an earlier time
times_from : (s t : ℕ) (records : List (Key × Entry)) → s ≤ t → TimesRise t records → TimesRise s records
times_from s t [] le rise = tt
times_from s t (r ∷ more) le rise = by (times_from s t more le) r.1.ends rise
  where
    by : (TimesRise t more → TimesRise s more) → (ends : Option Ends) → BeginsFrom t ends × TimesRise (last_or t ends) more → BeginsFrom s ends × TimesRise (last_or s ends) more
    by rest None h = (tt, rest h.1)
    by rest (Some e) h = ((omega (arith, le, h.0.0), h.0.1), h.1)

from_more : (t : ℕ) (last : Option ℕ) → last_from 0 last ≤ last_from t last
from_more t None = omega arith
from_more t (Some n) = omega arith

-- with the lists of one segment more
pub times_with : (o : Opening) (last : Option ℕ) (b : BatchEntry) (rows : List Row) (offset : ℕ) → TimesRise 0 o.records → ((t : ℕ) → last_list t o.records ≡ last_from t last)
    → may_be_listed (last_list (first_in b.ends.first o.batches) o.records) b.ends.last rows ≡ true → TimesRise 0 (o.records ++ laid offset (keys_next o b.events) rows)
times_with o last b rows offset rise listed may =
    let t : ℕ = first_in b.ends.first o.batches in
    let le : last_list 0 o.records ≤ last_list t o.records = omega (arith, listed 0, listed t, from_more t last) in
    times_append 0 o.records (laid offset (keys_next o b.events) rows) rise
    (times_from (last_list 0 o.records) (last_list t o.records) (laid offset (keys_next o b.events) rows) le (times_laid (last_list t o.records) b.ends.last offset (keys_next o b.events) rows may))

-- ---- the numbers of the lists

-- the lists among the keys have the numbers from this one on
abbrev NumberedFrom : ℕ → List Key → Type 0
NumberedFrom n [] = Unit {0}
NumberedFrom n (key.List i ∷ keys) = (i ≡ n) × NumberedFrom (n + 1) keys
NumberedFrom n (key.Piece s ∷ keys) = NumberedFrom n keys
NumberedFrom n (key.Top h ∷ keys) = NumberedFrom n keys
NumberedFrom n (key.Down h c ∷ keys) = NumberedFrom n keys

numbered_lists : (a n : ℕ) (others : List Key) → NumberedFrom (a + n) others → NumberedFrom a (map (λ i. key.List i) (numbers a n) ++ others)
numbered_lists a zero others more = subst (λ m. NumberedFrom m others) (let z : a + 0 ≡ a = omega arith in z) more
numbered_lists a (suc n) others more = (refl, numbered_lists (a + 1) n others (subst (λ m. NumberedFrom m others) (let z : a + suc n ≡ a + 1 + n = omega arith in z) more))

-- a key that is no list's
abbrev IsOther : Key → Type 0
IsOther k = is_list k ≡ false

numbered_others : (n : ℕ) (keys more : List Key) → Each IsOther keys → NumberedFrom n more → NumberedFrom n (keys ++ more)
numbered_others n [] more all rest = rest
numbered_others n (key.List i ∷ keys) more all rest = absurd (false≢true (sym all.0))
numbered_others n (key.Piece s ∷ keys) more all rest = numbered_others n keys more all.1 rest
numbered_others n (key.Top h ∷ keys) more all rest = numbered_others n keys more all.1 rest
numbered_others n (key.Down h c ∷ keys) more all rest = numbered_others n keys more all.1 rest

other_deltas : (k m after : ℕ) → Each IsOther (deltas_due k m after)
other_deltas k m after = each_flat IsOther (deltas_due_at k m after) (numbers 1 after) (each_number (λ h. Each IsOther (deltas_due_at k m after h)) 1 after (λ h from to. at h))
  where
    top : (h : ℕ) (b : Bool) → Each IsOther (cond b (key.Top h ∷ []) [])
    top h true = (refl, tt)
    top h false = tt

    node : (h j : ℕ) → Each IsOther (deltas_of k h j)
    node h j =
        each_append IsOther (cond (j == 1) (key.Top h ∷ []) []) (map (λ c. key.Down h c) (children k j)) (top h (j == 1))
        (each_map IsOther (λ c. key.Down h c) (children k j) (each_number (λ c. IsOther (key.Down h c)) ((j - 1) * k + 1) k (λ c from to. refl)))

    at : (h : ℕ) → Each IsOther (deltas_due_at k m after h)
    at h = each_flat IsOther (deltas_of k h) (inner_due k m after h) (each_number (λ j. Each IsOther (deltas_of k h j)) (m / k ^ h + 1) (after / k ^ h - m / k ^ h) (λ j low high. node h j))

numbered_batches : (p : Params) → 0 < p.l → (number count : ℕ) (batches : List BatchEntry) → NumberedFrom (leaves p count) (keys_among p number count batches)
numbered_batches p pos number count [] = tt
numbered_batches p pos number count (b ∷ batches) =
    let m : ℕ = leaves p count in
    let after : ℕ = leaves p (count + b.events) in
    let lists : List Key = lists_due p count (count + b.events) in
    let deltas : List Key = deltas_due p.k m after in
    let piece : List Key = key.Piece number ∷ [] in
    let later : List Key = keys_among p (number + 1) (count + b.events) batches in
    let more : m ≤ after = leaves_more p.l count b.events pos in
    let others : NumberedFrom after ((deltas ++ piece) ++ later) = subst (NumberedFrom after) (sym (append_assoc deltas piece later)) (numbered_others after deltas (piece ++ later) (other_deltas p.k m after) (numbered_batches p pos (number + 1) (count + b.events) batches)) in
    let upto : after ≡ m + (after - m) = omega (arith, more) in
    subst (NumberedFrom m) (sym (append_assoc lists (deltas ++ piece) later)) (numbered_lists m (after - m) ((deltas ++ piece) ++ later) (subst (λ n. NumberedFrom n ((deltas ++ piece) ++ later)) upto others))

-- ---- what is held at a list

abbrev found_at : List (Key × Entry) → ℕ → Option Entry
found_at records i = lookup (same_key (key.List i)) records

abbrev times_at : List (Key × Entry) → ℕ → Option Ends
times_at records i = option_and_then (λ (e : Entry). e.ends) (found_at records i)

abbrev keys_in : List (Key × Entry) → List Key
keys_in records = map (λ (r : Key × Entry). r.0) records

-- of records whose lists have the numbers from n on, and whose times begin no earlier than t
record Rising (n t : ℕ) (records : List (Key × Entry)) : Type 0 where
  number : (j : ℕ) → is_some (found_at records j) ≡ true → n ≤ j
  held : (i j : ℕ) → n ≤ i → i ≤ j → is_some (found_at records j) ≡ true → is_some (found_at records i) ≡ true
  starts : (j : ℕ) (x : Ends) → times_at records j ≡ Some x → t ≤ x.first
  apart : (i j : ℕ) (a b : Ends) → i < j → times_at records i ≡ Some a → times_at records j ≡ Some b → a.last ≤ b.first
  within : (i : ℕ) (x : Ends) → times_at records i ≡ Some x → x.first ≤ x.last

some_found : (o : Option Entry) (x : Ends) → option_and_then (λ (e : Entry). e.ends) o ≡ Some x → is_some o ≡ true
some_found None x is = absurd cc
some_found (Some e) x is = refl

some_there : (o : Option Entry) → is_some (option_and_then (λ (e : Entry). e.ends) o) ≡ true → is_some o ≡ true
some_there None is = is
some_there (Some e) is = refl

not_before : (t : ℕ) (ends : Option Ends) → BeginsFrom t ends → t ≤ last_or t ends
not_before t None b = omega arith
not_before t (Some x) b = omega (arith, b.0, b.1)

split : {P : Type 0} (j m : ℕ) → (j ≡ m → P) → ((j ≡ m → ⊥) → P) → P
split {P} j m here there = by (j == m) refl
  where
    by : (b : Bool) → (j == m) ≡ b → P
    by true e = here (eqb-true j m e)
    by false e = there (eqb-false j m e)

none_rising : (n t : ℕ) → Rising n t []
none_rising n t = record {
  number = λ j e. absurd (false≢true e);
  held = λ i j low le e. e;
  starts = λ j x is. absurd (let no : None ≡ Some x = is in cc);
  apart = λ i j a b le at_i at_j. absurd (let no : None ≡ Some a = at_i in cc);
  within = λ i x is. absurd (let no : None ≡ Some x = is in cc);
}

-- with a record more in front that is no list's
behind_other : (n t : ℕ) (k : Key) (e : Entry) (more : List (Key × Entry)) → ((j : ℕ) → same_key (key.List j) k ≡ false) → BeginsFrom t e.ends → Rising n (last_or t e.ends) more → Rising n t ((k, e) ∷ more)
behind_other n t k e more other begin rest =
    let there : (j : ℕ) → found_at ((k, e) ∷ more) j ≡ found_at more j = λ j. ap (λ b. cond b (Some e) (found_at more j)) (other j) in
    let times : (j : ℕ) → times_at ((k, e) ∷ more) j ≡ times_at more j = λ j. ap (option_and_then (λ (e : Entry). e.ends)) (there j) in
    record {
      number = λ j held. rest.number j (sym (ap is_some (there j)) ∙ held);
      held = λ i j low le held. ap is_some (there i) ∙ rest.held i j low le (sym (ap is_some (there j)) ∙ held);
      starts = λ j x is. let h = rest.starts j x (sym (times j) ∙ is) in omega (arith, h, not_before t e.ends begin);
      apart = λ i j a b le at_i at_j. rest.apart i j a b le (sym (times i) ∙ at_i) (sym (times j) ∙ at_j);
      within = λ i x is. rest.within i x (sym (times i) ∙ is);
    }

-- with the list of the number n in front
behind_list : (n t m : ℕ) (e : Entry) (more : List (Key × Entry)) → m ≡ n → BeginsFrom t e.ends → Rising (n + 1) (last_or t e.ends) more → Rising n t ((key.List m, e) ∷ more)
behind_list n t m e more is_next begin rest =
    record { number = number; held = held; starts = starts; apart = apart; within = within }
  where
    here : (j : ℕ) → j ≡ m → found_at ((key.List m, e) ∷ more) j ≡ Some e
    here j is = ap (λ b. cond b (Some e) (found_at more j)) (eq-eqb j m is)

    there : (j : ℕ) → (j ≡ m → ⊥) → found_at ((key.List m, e) ∷ more) j ≡ found_at more j
    there j not = ap (λ b. cond b (Some e) (found_at more j)) (ne_eqb j m not)

    times_here : (j : ℕ) (x : Ends) → j ≡ m → times_at ((key.List m, e) ∷ more) j ≡ Some x → e.ends ≡ Some x
    times_here j x is at = sym (ap (option_and_then (λ (e : Entry). e.ends)) (here j is)) ∙ at

    times_there : (j : ℕ) (x : Ends) → (j ≡ m → ⊥) → times_at ((key.List m, e) ∷ more) j ≡ Some x → times_at more j ≡ Some x
    times_there j x not at = sym (ap (option_and_then (λ (e : Entry). e.ends)) (there j not)) ∙ at

    number : (j : ℕ) → is_some (found_at ((key.List m, e) ∷ more) j) ≡ true → n ≤ j
    number j held =
        split j m (λ is. let h : n ≤ j = omega (arith, is, is_next) in h) (λ not. let h = rest.number j (sym (ap is_some (there j not)) ∙ held) in let g : n ≤ j = omega (arith, h) in g)

    held : (i j : ℕ) → n ≤ i → i ≤ j → is_some (found_at ((key.List m, e) ∷ more) j) ≡ true → is_some (found_at ((key.List m, e) ∷ more) i) ≡ true
    held i j low le later =
        split i m (λ is. ap is_some (here i is))
        (λ not.
        let next : n + 1 ≤ i = omega (arith, low, not, is_next) in
        let far : j ≡ m → ⊥ = λ is. absurd (omega (arith, is, next, le, is_next)) in
        ap is_some (there i not) ∙ rest.held i j next le (sym (ap is_some (there j far)) ∙ later))

    starts : (j : ℕ) (x : Ends) → times_at ((key.List m, e) ∷ more) j ≡ Some x → t ≤ x.first
    starts j x at =
        split j m (λ is. (subst (BeginsFrom t) (times_here j x is at) begin).0)
        (λ not. let h = rest.starts j x (times_there j x not at) in let g : t ≤ x.first = omega (arith, h, not_before t e.ends begin) in g)

    apart : (i j : ℕ) (a b : Ends) → i < j → times_at ((key.List m, e) ∷ more) i ≡ Some a → times_at ((key.List m, e) ∷ more) j ≡ Some b → a.last ≤ b.first
    apart i j a b less at_i at_j =
        split i m
        (λ is.
        let far : j ≡ m → ⊥ = λ same. absurd (omega (arith, is, same, less)) in
        let h = rest.starts j b (times_there j b far at_j) in
        let end : last_or t e.ends ≡ a.last = ap (last_or t) (times_here i a is at_i) in
        let g : a.last ≤ b.first = omega (arith, h, end) in
        g)
        (λ not.
        let next = rest.number i (some_found (found_at more i) a (times_there i a not at_i)) in
        let far : j ≡ m → ⊥ = λ is. absurd (omega (arith, is, next, less, is_next)) in
        rest.apart i j a b less (times_there i a not at_i) (times_there j b far at_j))

    within : (i : ℕ) (x : Ends) → times_at ((key.List m, e) ∷ more) i ≡ Some x → x.first ≤ x.last
    within i x at =
        split i m (λ is. (subst (BeginsFrom t) (times_here i x is at) begin).1)
        (λ not. rest.within i x (times_there i x not at))

rising : (n t : ℕ) (records : List (Key × Entry)) → NumberedFrom n (keys_in records) → TimesRise t records → Rising n t records
rising n t [] numbered times = none_rising n t
rising n t (r ∷ more) numbered times = by (λ m. rising m (last_or t r.1.ends) more) r.0 numbered
  where
    by : ((m : ℕ) → NumberedFrom m (keys_in more) → TimesRise (last_or t r.1.ends) more → Rising m (last_or t r.1.ends) more) → (k : Key) → NumberedFrom n (k ∷ keys_in more) → Rising n t ((k, r.1) ∷ more)
    by rest (key.List m) numbered = behind_list n t m r.1 more numbered.0 times.0 (rest (n + 1) numbered.1 times.1)
    by rest (key.Piece s) numbered = behind_other n t (key.Piece s) r.1 more (λ j. refl) times.0 (rest n numbered times.1)
    by rest (key.Top h) numbered = behind_other n t (key.Top h) r.1 more (λ j. refl) times.0 (rest n numbered times.1)
    by rest (key.Down h c) numbered = behind_other n t (key.Down h c) r.1 more (λ j. refl) times.0 (rest n numbered times.1)

-- no list begins before an earlier one
firsts : {n t : ℕ} {records : List (Key × Entry)} → Rising n t records → (i j : ℕ) (a b : Ends) → i ≤ j → times_at records i ≡ Some a → times_at records j ≡ Some b → a.first ≤ b.first
firsts {records = records} all i j a b le at_i at_j =
    split i j
    (λ is.
    let one : a ≡ b = same_Some _ _ (sym at_i ∙ ap (times_at records) is ∙ at_j) in
    let same : a.first ≡ b.first = ap (λ (x : Ends). x.first) one in
    let g : a.first ≤ b.first = omega (arith, same) in
    g)
    (λ not.
    let less : i < j = omega (arith, le, not) in
    let ended = all.apart i j a b less at_i at_j in
    let g : a.first ≤ b.first = omega (arith, ended, all.within i a at_i) in
    g)

-- the catalogue of an index, in which each list has times
pub lists_rise : (o : Opening) (events names from : ℕ) (last : Option ℕ) (span : Option Ends) (c : Holdings) → IndexIsSound o events names from last span → c.entries ≡ o.records
    → ((k : Key) (e : Entry) → entry_of c k ≡ Some e → EndsIfList (k, e)) → ListsRise c
lists_rise o events names from last span c s same told =
    let large = large_parameters o.params.l o.params.k s.parameters in
    let none : leaves o.params 0 ≡ 0 = omega arith in
    let numbered : NumberedFrom 0 (keys_in o.records) = subst (NumberedFrom 0) (sym s.kept) (subst (λ n. NumberedFrom n (keys_among o.params 0 0 o.batches)) none (numbered_batches o.params (omega (arith, large.0)) 0 0 o.batches)) in
    let all : Rising 0 0 c.entries = subst (Rising 0 0) (sym same) (rising 0 0 o.records numbered s.rise) in
    record {
      held = λ i j le later. by i (found_at c.entries i) refl (all.held i j (omega arith) le (some_there (found_at c.entries j) later));
      rise = λ i j earlier later le at_i at_j. firsts all i j earlier later le at_i at_j;
      apart = λ i j earlier later less at_i at_j. all.apart i j earlier later less at_i at_j;
      within = λ i ends at. all.within i ends at;
    }
  where
    by : (i : ℕ) (f : Option Entry) → found_at c.entries i ≡ f → is_some f ≡ true → is_some (option_and_then (λ (e : Entry). e.ends) f) ≡ true
    by i None is some = absurd (false≢true some)
    by i (Some e) is some = told (key.List i) e is
