-- How the lists of an index are read, one after another.
use Rattle.std.proofs.Common.{◌≡◌, ℕ, suc, ◌+◌, ◌-◌, ◌*◌, ◌<◌, ◌≤◌, true, List, [], ◌∷◌, Option, Some, Ok, is_some, length, sym, ◌∙◌, ap, arith, add-mul}
use Rattle.std.specs.Map.{lookup}
use Rattle.std.proofs.lemmas.Bool.{lt-ltb}
use Rattle.dg_history.specs.declared.node.Key.TheVariants as key
use Rattle.dg_history.specs.Keys.{same_key}
use Rattle.dg_index.specs.Hierarchy.{numbers}
use Rattle.dg_index.specs.IndexKeys.{AreKept, among}
use Rattle.dg_index.specs.OpenedIndex.{Opened, Opening}
use Rattle.dg_index.proofs.IndexKeyRecords.{exists_held, found}
use Rattle.dg_sound.specs.OwnEvents.{and_own, list_total, listed_events, with_list, with_lists}
use Rattle.dg_start.specs.EventSources.{WhereTold}
use Rattle.dg_verify.specs.declared.own_events.OwnEvents.{OwnEvents}
use Rattle.dg_verify.specs.declared.stop.Stop.{Stop}
use Rattle.dg_verify.specs.EventTests.{IsRead, IsStopBehind, tested, unless}
use Rattle.dg_verify.proofs.EventTestRecords.{none_unfit, stops_on, stops_so, then_behind}

-- a closed list is held
pub list_held : (o : Opening) (i : ℕ) → 0 < o.params.l → 2 ≤ o.params.k → AreKept o → i < list_total o → is_some (lookup (same_key (key.List i)) o.records) ≡ true
list_held o i some two kept lt =
    found o.records (key.List i)
    (ap (among (key.List i)) kept ∙ exists_held o.params some two o.batches (key.List i) (lt-ltb i (list_total o) lt))

-- ---- the next list

numbers_next : (i total : ℕ) → i < total → numbers i (total - i) ≡ i ∷ numbers (i + 1) (total - (i + 1))
numbers_next i total lt = ap (numbers i) (let e : total - i ≡ suc (total - (i + 1)) = omega (arith, lt) in e)

-- all lists are read as these events, tested, with the lists from this one on
abbrev pub ListsGoOn : Option (List ℕ) → Opened → ℕ → ℕ → OwnEvents → Type 0
ListsGoOn told x total i own = WhereTold told (λ image. listed_events image x ≡ tested x.names own (with_lists image x own.events.items (numbers i (total - i))))

-- before the first list nothing was read
pub lists_begin : (told : Option (List ℕ)) (x : Opened) (total : ℕ) (own : OwnEvents) → total ≡ list_total x.index → IsRead (length x.names) own → own.events.items ≡ [] → ListsGoOn told x total 0 own
lists_begin told x total own is read none image h =
    let all : list_total x.index ≡ total - 0 = omega (arith, is) in
    (λ j. with_lists image x (sym none j) (numbers 0 (all j)))
    ∙ sym (ap (λ u. unless u (with_lists image x own.events.items (numbers 0 (total - 0)))) (none_unfit x.names own read none))

module _ (told : Option (List ℕ)) (x : Opened) (total i : ℕ) (lt : i < total) (own : OwnEvents) (so_far : ListsGoOn told x total i own) where
  next_list : (image : List ℕ) → told ≡ Some image
      → listed_events image x ≡ tested x.names own (and_own (with_list image x own.events.items i) (λ events. with_lists image x events (numbers (i + 1) (total - (i + 1)))))
  next_list image h = so_far image h ∙ ap (λ (ns : List ℕ). tested x.names own (with_lists image x own.events.items ns)) (numbers_next i total lt)

  pub one_listed : (after : OwnEvents) → WhereTold told (λ image. tested x.names own (with_list image x own.events.items i) ≡ tested x.names after (Ok after.events.items)) → ListsGoOn told x total (i + 1) after
  one_listed after listed image h =
      next_list image h
      ∙ then_behind x.names own after (with_list image x own.events.items i) (λ events. with_lists image x events (numbers (i + 1) (total - (i + 1)))) (listed image h)

  pub list_stops : (s : Stop) (after : OwnEvents) → WhereTold told (λ image. IsStopBehind x.names after s (tested x.names own (with_list image x own.events.items i)))
      → WhereTold told (λ image. IsStopBehind x.names after s (listed_events image x))
  list_stops s after stopped image h =
      stops_so s x.names after (tested x.names own (and_own (with_list image x own.events.items i) (λ events. with_lists image x events (numbers (i + 1) (total - (i + 1))))))
      (listed_events image x) (sym (next_list image h))
      (stops_on s x.names own after (with_list image x own.events.items i) (λ events. with_lists image x events (numbers (i + 1) (total - (i + 1)))) (stopped image h))

pub all_listed : (told : Option (List ℕ)) (x : Opened) (total i : ℕ) (own : OwnEvents) → total ≤ i → ListsGoOn told x total i own
    → WhereTold told (λ image. listed_events image x ≡ tested x.names own (Ok own.events.items))
all_listed told x total i own past so_far image h =
    so_far image h ∙ ap (λ n. tested x.names own (with_lists image x own.events.items (numbers i n))) (let e : total - i ≡ 0 = omega (arith, past) in e)

pub many_more : (i size before after : ℕ) → before ≡ i * size → after ≡ before + size → after ≡ (i + 1) * size
many_more i size before after so_far more = omega (arith, so_far, more, add-mul i 1 size)
