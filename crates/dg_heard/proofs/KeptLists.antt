-- What an index of a history keeps of its lists: their number, their times and the bytes of their columns of messages.
use Rattle.std.proofs.Common.{◌≡◌, ℕ, ◌+◌, ◌*◌, ◌<◌, ◌≤◌, Bool, true, false, cond, List as ListOf, [], ◌∷◌, filter, length, map, Option, Some, refl, ap, ◌∙◌, arith}
use Rattle.std.specs.Prelude.{is_some}
use Rattle.std.specs.List.{list_any}
use Rattle.std.specs.Map.{lookup}
use Rattle.std.proofs.lemmas.Bool.{lt-ltb}
use Rattle.dg_catalogue.specs.Entries.{column_length_in}
use Rattle.dg_graph.specs.declared.element.Column.TheVariants.{Transient}
use Rattle.dg_history.specs.declared.node.Key.TheVariants.{List}
use Rattle.dg_history.specs.History.{History, events_of, first_time_of, last_time_from}
use Rattle.dg_history.specs.Keys.{same_key}
use Rattle.dg_history.specs.LegalHistory.{IsLegal}
use Rattle.dg_index.specs.declared.entry.Ends.{Ends}
use Rattle.dg_index.specs.declared.entry.Entry.{Entry}
use Rattle.dg_index.specs.HeardLists.{heard, lies_in_list}
use Rattle.dg_index.specs.Hierarchy.{leaves, numbers}
use Rattle.dg_index.specs.IndexRecords.{closed_list, column_in}
use Rattle.dg_index.specs.OpenedIndex.{Opening, entry_at, opened_of}
use Rattle.dg_index.proofs.HeldRecords.{IsHeld, held_at, known}
use Rattle.dg_index.proofs.IndexRecordColumns.{Each, each_number}
use Rattle.dg_index.proofs.OpenedIndexRecords.{record_held, told_at}
use Rattle.dg_index.specs.declared.per_column.PerColumn.{PerColumn}
use Rattle.dg_heard.specs.Heard.{heard_over, is_heard, lies_between}

-- ---- lists of numbers

pub each_filter : {A : Type 0} (P : A → Type 0) (keeps : A → Bool) (xs : ListOf A) → Each P xs → Each P (filter keeps xs)
each_filter P keeps [] all = tt
each_filter P keeps (x ∷ xs) all = by (keeps x) (each_filter P keeps xs all.1)
  where
    by : (b : Bool) → Each P (filter keeps xs) → Each P (cond b (x ∷ filter keeps xs) (filter keeps xs))
    by true more = (all.0, more)
    by false more = more

pub filter_alike : {A : Type 0} (f g : A → Bool) (xs : ListOf A) → Each (λ x. f x ≡ g x) xs → filter f xs ≡ filter g xs
filter_alike f g [] same = refl
filter_alike f g (x ∷ xs) same = λ i. cond (same.0 i) (x ∷ filter_alike f g xs same.1 i) (filter_alike f g xs same.1 i)

pub map_alike : {A B : Type 0} (f g : A → B) (xs : ListOf A) → Each (λ x. f x ≡ g x) xs → map f xs ≡ map g xs
map_alike f g [] same = refl
map_alike f g (x ∷ xs) same = λ i. same.0 i ∷ map_alike f g xs same.1 i

-- ---- the lists of an index of a history

module _ (z : History) (legal : IsLegal z) where
  abbrev pub index : Opening
  index = (opened_of z).index

  -- the numbers of the closed lists
  abbrev pub lists : ListOf ℕ
  lists = numbers 0 (leaves z.params (length (events_of z)))

  -- one of the instants lies between the times of the list
  abbrev pub may_tell : ListOf ℕ → ℕ → Bool
  may_tell times i = list_any (lies_in_list z.params (events_of z) i) times

  -- what is kept of a list
  pub record IsKept (i : ℕ) : Type 0 where
    pub held : is_some (lookup (same_key (List i)) (opened_of z).index.records) ≡ true
    pub full : (i + 1) * z.params.l ≤ length (events_of z)
    pub ends : (entry_at (opened_of z).index (List i)).ends ≡ Some (record { first = first_time_of (closed_list z.params (events_of z) i); last = last_time_from 0 (closed_list z.params (events_of z) i) })
    pub bytes : column_length_in (entry_at (opened_of z).index (List i)) Transient ≡ length (column_in z (List i) Transient)

  list_kept : (i : ℕ) → i < leaves z.params (length (events_of z)) → IsKept i
  list_kept i lt =
      let there = record_held z legal (List i) (lt-ltb i (leaves z.params (length (events_of z))) lt) in
      let e : IsHeld index (List i) = held_at index (List i) there in
      let told = told_at z legal (List i) e.entry e.found in
      record {
        held = there;
        full = told.2;
        ends = ap (λ (x : Entry). x.ends) e.is ∙ told.1;
        bytes = ap (λ (x : Entry). column_length_in x Transient) e.is ∙ ap (λ (l : PerColumn ℕ). l.transient) told.0;
      }

  each_kept : (P : ℕ → Type 0) → ((i : ℕ) → IsKept i → P i) → (some : ListOf ℕ) → Each IsKept some → Each P some
  each_kept P f [] all = tt
  each_kept P f (i ∷ some) all = (f i all.0, each_kept P f some all.1)

  -- what holds of each list that is kept holds of each closed list
  pub each_list : (P : ℕ → Type 0) → ((i : ℕ) → IsKept i → P i) → Each P lists
  each_list P f = each_kept P f lists (each_number IsKept 0 (leaves z.params (length (events_of z))) (λ i from to. list_kept i (omega (arith, to))))

  -- and of each that is heard
  pub each_heard : (P : ℕ → Type 0) → ((i : ℕ) → IsKept i → P i) → (times : ListOf ℕ) → Each P (heard z times)
  each_heard P f times = each_filter P (may_tell times) lists (each_list P f)

  -- the same lists are heard
  pub heard_is : (times : ListOf ℕ) → heard_over index times ≡ heard z times
  heard_is times =
      (λ i. filter (is_heard index times) (numbers 0 (leaves ((known z).params i) ((known z).count i))))
      ∙ filter_alike (is_heard index times) (may_tell times) lists
      (each_list (λ i. is_heard index times i ≡ may_tell times i) (λ i kept. ap (λ (o : Option Ends). list_any (λ t. lies_between t o) times) kept.ends))
