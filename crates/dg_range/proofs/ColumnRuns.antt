-- Columns of lists, read one after another: what is read so far, then the rest, is all.
use Rattle.std.proofs.Common.{◌≡◌, ℕ, ◌+◌, List as ListOf, [], ◌∷◌, ◌++◌, Option, Some, None, Result, Ok, Err, refl, sym, ap, ◌∙◌, subst, append_assoc, arith}
use Rattle.std.specs.Prelude.{IfSome, IfOk, IsErr, IsErrAnd}
use Rattle.std.proofs.lemmas.Bool.{false≢true}
use Rattle.std.proofs.lemmas.List.Sums.{sum_by-cons}
use Rattle.dg_graph.specs.declared.element.Column.{Column}
use Rattle.dg_graph.specs.declared.event.Event.{Event}
use Rattle.dg_index.specs.OpenedIndex.{Opening}
use Rattle.dg_range.specs.ColumnRuns.{TakesColumns, TellsColumnDamage, and_more, before_more, bytes_along, events_along}
use Rattle.dg_heard.specs.ListColumns.{IsColumnRead, bytes_at, events_at}
use Rattle.dg_heard.proofs.ListColumns.{both_told, takes_less, told_so}
use Rattle.dg_records.specs.ColumnReads.{Takes, TakesAtMost}
use Rattle.dg_records.specs.declared.fault.RecordFault.{RecordFault}
use Rattle.dg_records.specs.declared.fault.RecordFault.TheVariants as fault

-- ---- events behind events

pub more_none : (r : Result (ListOf Event) (ℕ × Column)) → and_more [] r ≡ r
more_none (Ok events) = refl
more_none (Err p) = refl

pub more_more : (events more : ListOf Event) (r : Result (ListOf Event) (ℕ × Column)) → and_more events (and_more more r) ≡ and_more (events ++ more) r
more_more events more (Ok rest) = ap (λ l. Ok l) (sym (append_assoc events more rest))
more_more events more (Err p) = refl

pub append_none : (l : ListOf Event) → l ++ [] ≡ l
append_none [] = refl
append_none (e ∷ l) = ap (λ m. e ∷ m) (append_none l)

-- ---- what is read so far

-- Of all columns these are left: in this image the events that were read and those of the rest are all, and so are the
-- bytes, which were read. Something is kept of the events.
pub record ReadSoFar (names : ℕ) (told : Option (ListOf ℕ)) (o : Opening) (all rest : ListOf (ℕ × Column)) (kept : ListOf Event → Type 0) (before now : ℕ) : Type 0 where
  pub events : ListOf Event
  pub read : IfSome told (λ image. events_along names image o all ≡ and_more events (events_along names image o rest))
  pub keeps : kept events
  pub count : ℕ
  pub takes : IfSome told (λ image. Takes count before now)
  pub bytes : count + bytes_along o rest ≡ bytes_along o all

pub takes_none : (n : ℕ) → Takes 0 n n
takes_none n = refl

pub always : (told : Option (ListOf ℕ)) (P : ListOf ℕ → Type 0) → ((image : ListOf ℕ) → P image) → IfSome told P
always None P f = tt
always (Some image) P f = f image

module _ (names : ℕ) (told : Option (ListOf ℕ)) (o : Opening) (all : ListOf (ℕ × Column)) where
  -- nothing is read yet
  pub read_none : (rest : ListOf (ℕ × Column)) (kept : ListOf Event → Type 0) (now : ℕ) → rest ≡ all → kept [] → ReadSoFar names told o all rest kept now now
  read_none rest kept now same keeps = record {
    events = [];
    read = always told (λ image. events_along names image o all ≡ and_more [] (events_along names image o rest))
        (λ image. ap (events_along names image o) (sym same) ∙ sym (more_none (events_along names image o rest)));
    keeps = keeps;
    count = 0;
    takes = always told (λ image. Takes 0 now now) (λ image. takes_none now);
    bytes = ap (λ l. 0 + bytes_along o l) same ∙ (let e : 0 + bytes_along o all ≡ bytes_along o all = omega arith in e);
  }

  module _ (rest left : ListOf (ℕ × Column)) (i : ℕ) (col : Column) (kept : ListOf Event → Type 0) (before now : ℕ) (h : ReadSoFar names told o all rest kept before now) (next : rest ≡ (i, col) ∷ left) where
    along_next : (image : ListOf ℕ) → events_along names image o rest ≡ before_more (i, col) (events_at names image o i col) (events_along names image o left)
    along_next image = ap (events_along names image o) next

    bytes_next : bytes_along o rest ≡ bytes_at o i col + bytes_along o left
    bytes_next = ap (bytes_along o) next ∙ sum_by-cons (λ (p : ℕ × Column). bytes_at o p.0 p.1) (i, col) left

    -- with one column more
    pub read_more : (after : ℕ) (more : ListOf Event) (keeps : ListOf Event → Type 0) → IfSome told (λ image. events_at names image o i col ≡ Ok more) → ((events : ListOf Event) → kept events → keeps (events ++ more))
        → IfSome told (λ image. Takes (bytes_at o i col) now after) → ReadSoFar names told o all left keeps before after
    read_more after more keeps read step takes = record {
      events = h.events ++ more;
      read =
          both_told told (λ image. events_at names image o i col ≡ Ok more) (λ image. events_along names image o all ≡ and_more h.events (events_along names image o rest))
          (λ image. events_along names image o all ≡ and_more (h.events ++ more) (events_along names image o left))
          (λ image one so_far.
          let others = events_along names image o left in
          so_far ∙ ap (and_more h.events) (along_next image ∙ ap (λ r. before_more (i, col) r others) one) ∙ more_more h.events more others)
          read h.read;
      keeps = step h.events h.keeps;
      count = h.count + bytes_at o i col;
      takes =
          both_told told (λ image. Takes h.count before now) (λ image. Takes (bytes_at o i col) now after) (λ image. Takes (h.count + bytes_at o i col) before after)
          (λ image one two. omega (arith, one, two)) h.takes takes;
      bytes = omega (arith, h.bytes, bytes_next);
    }

    -- where the next column is damaged, it is the first
    pub next_damaged : IfSome told (λ image. events_at names image o i col ≡ Err i) → IfSome told (λ image. events_along names image o all ≡ Err (i, col))
    next_damaged read =
        both_told told (λ image. events_at names image o i col ≡ Err i) (λ image. events_along names image o all ≡ and_more h.events (events_along names image o rest))
        (λ image. events_along names image o all ≡ Err (i, col))
        (λ image one so_far. so_far ∙ ap (and_more h.events) (along_next image ∙ ap (λ r. before_more (i, col) r (events_along names image o left)) one))
        read h.read

    -- no more is read than all
    pub most_read : (after : ℕ) → IfSome told (λ image. TakesAtMost (bytes_at o i col) now after) → IfSome told (λ image. TakesAtMost (bytes_along o all) before after)
    most_read after most =
        both_told told (λ image. Takes h.count before now) (λ image. TakesAtMost (bytes_at o i col) now after) (λ image. TakesAtMost (bytes_along o all) before after)
        (λ image one two. omega (arith, one, two, h.bytes, bytes_next)) h.takes most

  -- at the end
  module _ (rest : ListOf (ℕ × Column)) (kept : ListOf Event → Type 0) (before now : ℕ) (h : ReadSoFar names told o all rest kept before now) (end : rest ≡ []) where
    pub all_read : IfSome told (λ image. events_along names image o all ≡ Ok h.events)
    all_read =
        told_so told (λ image. events_along names image o all ≡ and_more h.events (events_along names image o rest)) (λ image. events_along names image o all ≡ Ok h.events)
        (λ image is. is ∙ ap (λ l. and_more h.events (events_along names image o l)) end ∙ ap (λ l. Ok l) (append_none h.events)) h.read

    pub all_taken : IfSome told (λ image. Takes (bytes_along o all) before now)
    all_taken =
        let none : bytes_along o rest ≡ 0 = ap (bytes_along o) end in
        told_so told (λ image. Takes h.count before now) (λ image. Takes (bytes_along o all) before now) (λ image one. omega (arith, one, h.bytes, none)) h.takes

-- ---- what is handed on

-- what a call hands on is its fault
abbrev pub HandsOn : {A E : Type 0} → Result A E → E → Type 0
HandsOn r fault = IsErr r × IsErrAnd r (λ y. y ≡ fault)

pub takes_fails : {A : Type 0} (told : Option (ListOf ℕ)) (o : Opening) (ps : ListOf (ℕ × Column)) (before after : ℕ) (r : Result A RecordFault) → IsErr r
    → IfSome told (λ image. TakesAtMost (bytes_along o ps) before after) → IfSome told (λ image. TakesColumns o ps before after r)
takes_fails told o ps before after r err most =
    told_so told (λ image. TakesAtMost (bytes_along o ps) before after) (λ image. TakesColumns o ps before after r) (λ image most. record { takes = by r err; most = most }) most
  where
    by : {A : Type 0} (r : Result A RecordFault) → IsErr r → IfOk r (λ x. Takes (bytes_along o ps) before after)
    by (Ok x) err = absurd (false≢true err)
    by (Err f) err = tt

pub takes_done : {A : Type 0} (told : Option (ListOf ℕ)) (o : Opening) (ps : ListOf (ℕ × Column)) (before after : ℕ) (x : A) → IfSome told (λ image. Takes (bytes_along o ps) before after)
    → IfSome told (λ image. TakesColumns {A = A} o ps before after (Ok x))
takes_done {A = A} told o ps before after x all =
    told_so told (λ image. Takes (bytes_along o ps) before after) (λ image. TakesColumns {A = A} o ps before after (Ok x))
    (λ image all. record { takes = all; most = takes_less (bytes_along o ps) before after all }) all

module _ (A : Type 0) (names : ℕ) (told : Option (ListOf ℕ)) (o : Opening) (all rest left : ListOf (ℕ × Column)) (i : ℕ) (col : Column) (kept : ListOf Event → Type 0) (before now : ℕ)
    (h : ReadSoFar names told o all rest kept before now) (next : rest ≡ (i, col) ∷ left) where
  -- where the next column was not read
  damage_told : (f : RecordFault) → IfSome told (λ image. IsColumnRead names image o i col (Err f)) → IfSome told (λ image. TellsColumnDamage {A = A} names o all image (Err f))
  damage_told fault.Disk read = always told (λ image. Unit {0}) (λ image. tt)
  damage_told fault.Memory read = always told (λ image. Unit {0}) (λ image. tt)
  damage_told (fault.Damaged k c) read =
      both_told told (λ image. events_along names image o all ≡ Err (i, col)) (λ image. IsColumnRead names image o i col (Err (fault.Damaged k c)))
      (λ image. TellsColumnDamage {A = A} names o all image (Err (fault.Damaged k c))) (λ image whole one. ((i, col), whole, one.1, one.2))
      (next_damaged names told o all rest left i col kept before now h next
      (told_so told (λ image. IsColumnRead names image o i col (Err (fault.Damaged k c))) (λ image. events_at names image o i col ≡ Err i) (λ image one. one.0) read)) read

  pub damage_fails : (r : Result A RecordFault) (f : RecordFault) → HandsOn r f → IfSome told (λ image. IsColumnRead names image o i col (Err f)) → IfSome told (λ image. TellsColumnDamage names o all image r)
  damage_fails (Ok x) f on read = absurd on.1
  damage_fails (Err e) f on read = subst (λ (g : RecordFault). IfSome told (λ image. TellsColumnDamage {A = A} names o all image (Err g))) (sym on.1) (damage_told f read)
