-- The lists that are heard for instants, gone over by rising number: what is read so far, then the rest, is all.
use Rattle.std.proofs.Common.{◌≡◌, ℕ, zero, suc, ◌+◌, ◌-◌, ◌<◌, ◌≤◌, true, false, cond, List, [], ◌∷◌, ◌++◌, filter, map, sum, Option, Some, None, Result, Ok, Err, refl, sym, ap, ◌∙◌, subst, Vec, Global, append_assoc, arith}
use Rattle.std.specs.Prelude.{IfSome, IfOk, IsErr, IsErrAnd}
use Rattle.std.proofs.lemmas.Bool.{false≢true}
use Rattle.std.proofs.lemmas.List.Elements.{All-append, All-nil}
use Rattle.std.proofs.lemmas.List.Sums.{sum_by-cons}
use Rattle.dg_graph.specs.declared.element.Column.TheVariants.{Transient}
use Rattle.dg_graph.specs.declared.element.Element.{Element}
use Rattle.dg_graph.specs.declared.event.Event.{Event}
use Rattle.dg_heard.specs.Heard.{and_others, before_others, heard_bytes, heard_events, heard_over, is_heard, list_total, messages_along, messages_in}
use Rattle.dg_heard.specs.ListColumns.{IsColumnRead, bytes_at}
use Rattle.dg_heard.proofs.ListColumns.{both_told, takes_less, told_so}
use Rattle.dg_index.specs.Hierarchy.{numbers}
use Rattle.dg_index.specs.OpenedIndex.{Opening}
use Rattle.dg_messages.specs.Calls.{TakesHeard, TellsMessageDamage}
use Rattle.dg_messages.specs.Collected.{AreAdded, AreCollected}
use Rattle.dg_messages.proofs.CollectedMessages.{collected_more}
use Rattle.dg_records.specs.ColumnReads.{Takes, TakesAtMost}
use Rattle.dg_records.specs.declared.fault.RecordFault.{RecordFault}
use Rattle.dg_records.specs.declared.fault.RecordFault.TheVariants as fault
use Rattle.dg_records.specs.EventNames.{BodyHasNamesThere, EventNamesAreThere}

-- the bytes of the column of messages of a list
abbrev pub message_bytes : Opening → ℕ → ℕ
message_bytes o i = bytes_at o i Transient

-- ---- the lists from a number on

module _ (o : Opening) (times : List ℕ) where
  -- those that are heard
  abbrev pub rest_from : ℕ → List ℕ
  rest_from from = filter (is_heard o times) (numbers from (list_total o - from))

  rest_step : (from : ℕ) → from < list_total o → rest_from from ≡ cond (is_heard o times from) (from ∷ rest_from (from + 1)) (rest_from (from + 1))
  rest_step from lt =
      ap (λ n. filter (is_heard o times) (numbers from n)) (let e : list_total o - from ≡ suc (list_total o - (from + 1)) = omega (arith, lt) in e)

  -- the next that is heard is the first of them
  rest_next : (skipped from : ℕ) → from + skipped < list_total o → ((k : ℕ) → from ≤ k → k < from + skipped → is_heard o times k ≡ false) → is_heard o times (from + skipped) ≡ true
      → rest_from from ≡ (from + skipped) ∷ rest_from (from + skipped + 1)
  rest_next zero from lt none here =
      let at : from + 0 ≡ from = omega arith in
      subst (λ i. is_heard o times i ≡ true → rest_from from ≡ i ∷ rest_from (i + 1)) (sym at)
      (λ here. rest_step from (omega (arith, lt)) ∙ ap (λ b. cond b (from ∷ rest_from (from + 1)) (rest_from (from + 1))) here) here
  rest_next (suc skipped) from lt none here =
      let at : from + 1 + skipped ≡ from + suc skipped = omega arith in
      rest_step from (omega (arith, lt))
      ∙ ap (λ b. cond b (from ∷ rest_from (from + 1)) (rest_from (from + 1))) (none from (omega arith) (omega arith))
      ∙ rest_next skipped (from + 1) (omega (arith, lt)) (λ k low high. none k (omega (arith, low)) (omega (arith, high))) (ap (is_heard o times) at ∙ here)
      ∙ ap (λ i. i ∷ rest_from (i + 1)) at

  pub rest_at : (from i : ℕ) → from ≤ i → i < list_total o → ((k : ℕ) → from ≤ k → k < i → is_heard o times k ≡ false) → is_heard o times i ≡ true → rest_from from ≡ i ∷ rest_from (i + 1)
  rest_at from i low high none here =
      let at : from + (i - from) ≡ i = omega (arith, low) in
      rest_next (i - from) from (omega (arith, high, at)) (λ k low high. none k low (omega (arith, high, at))) (ap (is_heard o times) at ∙ here)
      ∙ ap (λ i. i ∷ rest_from (i + 1)) at

  -- where none is heard any more, none is left
  rest_none : (left from : ℕ) → list_total o - from ≡ left → ((k : ℕ) → from ≤ k → k < list_total o → is_heard o times k ≡ false) → rest_from from ≡ []
  rest_none zero from is none = ap (λ n. filter (is_heard o times) (numbers from n)) is
  rest_none (suc left) from is none =
      rest_step from (omega (arith, is))
      ∙ ap (λ b. cond b (from ∷ rest_from (from + 1)) (rest_from (from + 1))) (none from (omega arith) (omega (arith, is)))
      ∙ rest_none left (from + 1) (omega (arith, is)) (λ k low high. none k (omega (arith, low)) high)

  pub rest_end : (from : ℕ) → ((k : ℕ) → from ≤ k → k < list_total o → is_heard o times k ≡ false) → rest_from from ≡ []
  rest_end from none = rest_none (list_total o - from) from refl none

  pub rest_all : rest_from 0 ≡ heard_over o times
  rest_all = ap (λ n. filter (is_heard o times) (numbers 0 n)) (let e : list_total o - 0 ≡ list_total o = omega arith in e)

  -- the bytes of their columns
  abbrev pub bytes_from : ℕ → ℕ
  bytes_from from = sum (map (message_bytes o) (rest_from from))

  bytes_next : (from i : ℕ) → rest_from from ≡ i ∷ rest_from (i + 1) → bytes_from from ≡ message_bytes o i + bytes_from (i + 1)
  bytes_next from i next = ap (λ l. sum (map (message_bytes o) l)) next ∙ sum_by-cons (λ (n : ℕ). n) (message_bytes o i) (map (message_bytes o) (rest_from (i + 1)))

-- ---- events behind events

others_none : (r : Result (List Event) ℕ) → and_others [] r ≡ r
others_none (Ok events) = refl
others_none (Err i) = refl

others_more : (events more : List Event) (r : Result (List Event) ℕ) → and_others events (and_others more r) ≡ and_others (events ++ more) r
others_more events more (Ok rest) = ap (λ l. Ok l) (sym (append_assoc events more rest))
others_more events more (Err i) = refl

-- ---- what is read so far

-- Of the lists before this number the messages of the instants are collected: in this image their events and those of
-- the rest are all, and so are the bytes of their columns, which were read.
pub record HeardSoFar (names : ℕ) (told : Option (List ℕ)) (o : Opening) (times : List ℕ) (from : ℕ) (lists : List (Vec Element Global)) (before now : ℕ) : Type 0 where
  pub events : List Event
  pub read : IfSome told (λ image. heard_events names image o times ≡ and_others events (messages_along names image o (rest_from o times from)))
  pub named : EventNamesAreThere names events
  pub collected : AreCollected events times lists
  pub count : ℕ
  pub takes : IfSome told (λ image. Takes count before now)
  pub bytes : count + bytes_from o times from ≡ heard_bytes o times

takes_none : (n : ℕ) → Takes 0 n n
takes_none n = refl

module _ (names : ℕ) (told : Option (List ℕ)) (o : Opening) (times : List ℕ) where
  always : (P : List ℕ → Type 0) → ((image : List ℕ) → P image) → IfSome told P
  always P f = by told
    where
      by : (t : Option (List ℕ)) → IfSome t P
      by None = tt
      by (Some image) = f image

  -- nothing is read yet
  pub heard_none : (lists : List (Vec Element Global)) (now : ℕ) → AreCollected [] times lists → HeardSoFar names told o times 0 lists now now
  heard_none lists now collected = record {
    events = [];
    read = always (λ image. heard_events names image o times ≡ and_others [] (messages_along names image o (rest_from o times 0)))
        (λ image. ap (messages_along names image o) (sym (rest_all o times)) ∙ sym (others_none (messages_along names image o (rest_from o times 0))));
    named = All-nil (λ (e : Event). BodyHasNamesThere names e.body);
    collected = collected;
    count = 0;
    takes = always (λ image. Takes 0 now now) (λ image. takes_none now);
    bytes = (let none : 0 + bytes_from o times 0 ≡ bytes_from o times 0 = omega arith in none) ∙ ap (λ l. sum (map (message_bytes o) l)) (rest_all o times);
  }

  module _ (from i : ℕ) (lists : List (Vec Element Global)) (before now : ℕ) (h : HeardSoFar names told o times from lists before now) (next : rest_from o times from ≡ i ∷ rest_from o times (i + 1)) where
    along_next : (image : List ℕ) → messages_along names image o (rest_from o times from) ≡ before_others (messages_in names image o i) (messages_along names image o (rest_from o times (i + 1)))
    along_next image = ap (messages_along names image o) next

    -- with one list more
    pub heard_more : (after : ℕ) (more : List Event) (new : List (Vec Element Global)) → IfSome told (λ image. messages_in names image o i ≡ Ok more) → EventNamesAreThere names more → AreAdded more times lists new
        → IfSome told (λ image. Takes (message_bytes o i) now after) → HeardSoFar names told o times (i + 1) new before after
    heard_more after more new read named added takes = record {
      events = h.events ++ more;
      read =
          both_told told (λ image. messages_in names image o i ≡ Ok more) (λ image. heard_events names image o times ≡ and_others h.events (messages_along names image o (rest_from o times from)))
          (λ image. heard_events names image o times ≡ and_others (h.events ++ more) (messages_along names image o (rest_from o times (i + 1))))
          (λ image one so_far.
          let rest = messages_along names image o (rest_from o times (i + 1)) in
          so_far ∙ ap (and_others h.events) (along_next image ∙ ap (λ r. before_others r rest) one) ∙ others_more h.events more rest)
          read h.read;
      named = All-append (λ (e : Event). BodyHasNamesThere names e.body) h.events more h.named named;
      collected = collected_more h.events more times lists new h.collected added;
      count = h.count + message_bytes o i;
      takes =
          both_told told (λ image. Takes h.count before now) (λ image. Takes (message_bytes o i) now after) (λ image. Takes (h.count + message_bytes o i) before after)
          (λ image one two. omega (arith, one, two)) h.takes takes;
      bytes = omega (arith, h.bytes, bytes_next o times from i next);
    }

    -- where the column of the next list is damaged, it is the first
    pub heard_damaged : IfSome told (λ image. messages_in names image o i ≡ Err i) → IfSome told (λ image. heard_events names image o times ≡ Err i)
    heard_damaged read =
        both_told told (λ image. messages_in names image o i ≡ Err i) (λ image. heard_events names image o times ≡ and_others h.events (messages_along names image o (rest_from o times from)))
        (λ image. heard_events names image o times ≡ Err i)
        (λ image one so_far. so_far ∙ ap (and_others h.events) (along_next image ∙ ap (λ r. before_others r (messages_along names image o (rest_from o times (i + 1)))) one))
        read h.read

    -- no more is read than all
    pub most_heard : (after : ℕ) → IfSome told (λ image. TakesAtMost (message_bytes o i) now after) → IfSome told (λ image. TakesAtMost (heard_bytes o times) before after)
    most_heard after most =
        both_told told (λ image. Takes h.count before now) (λ image. TakesAtMost (message_bytes o i) now after) (λ image. TakesAtMost (heard_bytes o times) before after)
        (λ image one two. omega (arith, one, two, h.bytes, bytes_next o times from i next)) h.takes most

  -- at the end
  module _ (from : ℕ) (lists : List (Vec Element Global)) (before now : ℕ) (h : HeardSoFar names told o times from lists before now) (end : rest_from o times from ≡ []) where
    pub all_heard : IfSome told (λ image. heard_events names image o times ≡ Ok h.events)
    all_heard =
        told_so told (λ image. heard_events names image o times ≡ and_others h.events (messages_along names image o (rest_from o times from))) (λ image. heard_events names image o times ≡ Ok h.events)
        (λ image is. is ∙ ap (λ l. and_others h.events (messages_along names image o l)) end ∙ ap (λ l. Ok l) (append_none h.events)) h.read
      where
        append_none : (l : List Event) → l ++ [] ≡ l
        append_none [] = refl
        append_none (e ∷ l) = ap (λ m. e ∷ m) (append_none l)

    pub all_taken : IfSome told (λ image. Takes (heard_bytes o times) before now)
    all_taken =
        let none : bytes_from o times from ≡ 0 = ap (λ l. sum (map (message_bytes o) l)) end in
        told_so told (λ image. Takes h.count before now) (λ image. Takes (heard_bytes o times) before now) (λ image one. omega (arith, one, h.bytes, none)) h.takes

-- ---- what is handed on

-- the next list from the number on that is heard
abbrev pub IsNext : Opening → List ℕ → ℕ → ℕ → Type 0
IsNext o times from i = (from ≤ i) × (i < list_total o) × (is_heard o times i ≡ true) × ((k : ℕ) → from ≤ k → k < i → is_heard o times k ≡ false)

pub rest_is : (o : Opening) (times : List ℕ) (from i : ℕ) → IsNext o times from i → rest_from o times from ≡ i ∷ rest_from o times (i + 1)
rest_is o times from i next = rest_at o times from i next.0 next.1 next.3 next.2

-- no list from the number on is heard
abbrev pub IsLast : Opening → List ℕ → ℕ → Type 0
IsLast o times from = (k : ℕ) → from ≤ k → k < list_total o → is_heard o times k ≡ false

-- what a call hands on is its fault
abbrev pub HandsOn : {A E : Type 0} → Result A E → E → Type 0
HandsOn r fault = IsErr r × IsErrAnd r (λ y. y ≡ fault)

pub takes_fails : {A : Type 0} (told : Option (List ℕ)) (o : Opening) (times : List ℕ) (before after : ℕ) (r : Result A RecordFault) → IsErr r
    → IfSome told (λ image. TakesAtMost (heard_bytes o times) before after) → IfSome told (λ image. TakesHeard o times before after r)
takes_fails told o times before after r err most =
    told_so told (λ image. TakesAtMost (heard_bytes o times) before after) (λ image. TakesHeard o times before after r) (λ image most. record { takes = by r err; most = most }) most
  where
    by : {A : Type 0} (r : Result A RecordFault) → IsErr r → IfOk r (λ x. Takes (heard_bytes o times) before after)
    by (Ok x) err = absurd (false≢true err)
    by (Err f) err = tt

pub takes_done : {A : Type 0} (told : Option (List ℕ)) (o : Opening) (times : List ℕ) (before after : ℕ) (x : A) → IfSome told (λ image. Takes (heard_bytes o times) before after)
    → IfSome told (λ image. TakesHeard {A = A} o times before after (Ok x))
takes_done {A = A} told o times before after x all =
    told_so told (λ image. Takes (heard_bytes o times) before after) (λ image. TakesHeard {A = A} o times before after (Ok x))
    (λ image all. record { takes = all; most = takes_less (heard_bytes o times) before after all }) all

module _ (A : Type 0) (names : ℕ) (told : Option (List ℕ)) (o : Opening) (times : List ℕ) (from i : ℕ) (lists : List (Vec Element Global)) (before now : ℕ) (h : HeardSoFar names told o times from lists before now)
    (next : rest_from o times from ≡ i ∷ rest_from o times (i + 1)) where
  -- where the next list was not read
  damage_told : (f : RecordFault) → IfSome told (λ image. IsColumnRead names image o i Transient (Err f)) → IfSome told (λ image. TellsMessageDamage {A = A} names o times image (Err f))
  damage_told fault.Disk read = always names told o times (λ image. Unit {0}) (λ image. tt)
  damage_told fault.Memory read = always names told o times (λ image. Unit {0}) (λ image. tt)
  damage_told (fault.Damaged k col) read =
      both_told told (λ image. heard_events names image o times ≡ Err i) (λ image. IsColumnRead names image o i Transient (Err (fault.Damaged k col)))
      (λ image. TellsMessageDamage {A = A} names o times image (Err (fault.Damaged k col))) (λ image all one. (i, all, one.1, one.2))
      (heard_damaged names told o times from i lists before now h next
      (told_so told (λ image. IsColumnRead names image o i Transient (Err (fault.Damaged k col))) (λ image. messages_in names image o i ≡ Err i) (λ image one. one.0) read)) read

  pub damage_fails : (r : Result A RecordFault) (f : RecordFault) → HandsOn r f → IfSome told (λ image. IsColumnRead names image o i Transient (Err f)) → IfSome told (λ image. TellsMessageDamage names o times image r)
  damage_fails (Ok x) f on read = absurd on.1
  damage_fails (Err e) f on read = subst (λ (g : RecordFault). IfSome told (λ image. TellsMessageDamage {A = A} names o times image (Err g))) (sym on.1) (damage_told f read)
