-- The values of lists, read one list after another: what is read so far, then the rest, is all.
use Rattle.std.proofs.Common.{◌≡◌, ℕ, suc, ◌+◌, ◌-◌, ◌<◌, ◌≤◌, Bool, true, false, List as ListOf, [], ◌∷◌, ◌++◌, Option, Result, Ok, Err, if◌then◌else◌, refl, sym, ap, ◌∙◌, subst, arith}
use Rattle.std.specs.Prelude.{IfSome}
use Rattle.std.specs.Global.{Vec}
use Rattle.std.specs.List.{list_all}
use Rattle.std.proofs.lemmas.List.Sums.{sum_by-cons}
use Rattle.dg_records.specs.ColumnReads.{Takes, TakesAtMost}
use Rattle.dg_graph.specs.declared.element.Column.{Column}
use Rattle.dg_graph.specs.declared.element.Column.TheVariants.{NodeAttr}
use Rattle.dg_graph.specs.declared.event.Event.{Event}
use Rattle.dg_heard.specs.Heard.{list_total}
use Rattle.dg_history.specs.declared.node.Key.TheVariants as key
use Rattle.dg_index.specs.Hierarchy.{numbers}
use Rattle.dg_index.specs.OpenedIndex.{Opening, entry_at}
use Rattle.dg_range.specs.ColumnRuns.{and_more, before_more, bytes_along}
use Rattle.dg_heard.specs.ListColumns.{IsColumnRead, bytes_at}
use Rattle.dg_range.specs.ListValues.{IsListRead, TellsValueDamage, all_node_columns, in_time, lies_in, node_columns, values_along, values_at, values_of_lists}
use Rattle.dg_range.proofs.ColumnRuns.{HandsOn, always, append_none, more_more, more_none, takes_none}
use Rattle.dg_heard.proofs.ListColumns.{both_told, told_so}
use Rattle.dg_records.specs.declared.fault.RecordFault.{RecordFault}
use Rattle.dg_records.specs.declared.fault.RecordFault.TheVariants as fault

-- ---- the lists from a number on

pub lists_next : (from total : ℕ) → from < total → numbers from (total - from) ≡ from ∷ numbers (from + 1) (total - (from + 1))
lists_next from total lt = ap (numbers from) (let e : total - from ≡ suc (total - (from + 1)) = omega (arith, lt) in e)

pub lists_end : (from total : ℕ) → total ≤ from → numbers from (total - from) ≡ []
lists_end from total le = ap (numbers from) (let e : total - from ≡ 0 = omega (arith, le) in e)

pub lists_all : (total : ℕ) → numbers 0 (total - 0) ≡ numbers 0 total
lists_all total = ap (numbers 0) (let e : total - 0 ≡ total = omega arith in e)

-- ---- a list

module _ (names : ℕ) (image : ListOf ℕ) (o : Opening) (i : ℕ) where
  -- the column that was read, by the test of its times
  pub within_read : (events : Vec Event) → IsColumnRead names image o i NodeAttr (Ok events) → list_all (lies_in (entry_at o (key.List i)).ends) events.items ≡ true → IsListRead names image o i (Ok events)
  within_read events read all =
      ap (in_time i (entry_at o (key.List i)).ends) read ∙ by (list_all (lies_in (entry_at o (key.List i)).ends) events.items) all
    where
      by : (b : Bool) → b ≡ true → (if b then Ok events.items else Err i) ≡ Ok events.items
      by true e = refl
      by false e = cc

  pub outside_damaged : (events : Vec Event) → IsColumnRead names image o i NodeAttr (Ok events) → list_all (lies_in (entry_at o (key.List i)).ends) events.items ≡ false → values_at names image o i ≡ Err i
  outside_damaged events read out =
      ap (in_time i (entry_at o (key.List i)).ends) read ∙ by (list_all (lies_in (entry_at o (key.List i)).ends) events.items) out
    where
      by : (b : Bool) → b ≡ false → (if b then Ok events.items else Err i) ≡ Err i
      by false e = refl
      by true e = cc

  -- a column that was not read
  pub unread : (f : RecordFault) → IsColumnRead names image o i NodeAttr (Err f) → IsListRead names image o i (Err f)
  unread fault.Disk read = tt
  unread fault.Memory read = tt
  unread (fault.Damaged k c) read = (ap (in_time i (entry_at o (key.List i)).ends) read.0, read.1, read.2)

-- ---- what is read so far

-- Of all lists these are left: in this image the events that were read and those of the rest are all, and so are the
-- bytes, which were read. Something is kept of the events.
pub record ValuesSoFar (names : ℕ) (told : Option (ListOf ℕ)) (o : Opening) (rest : ListOf ℕ) (kept : ListOf Event → Type 0) (before now : ℕ) : Type 0 where
  pub events : ListOf Event
  pub read : IfSome told (λ image. values_along names image o ≡ and_more events (values_of_lists names image o rest))
  pub keeps : kept events
  pub count : ℕ
  pub takes : IfSome told (λ image. Takes count before now)
  pub bytes : count + bytes_along o (node_columns rest) ≡ bytes_along o (all_node_columns o)

module _ (names : ℕ) (told : Option (ListOf ℕ)) (o : Opening) where
  -- nothing is read yet
  pub values_none : (rest : ListOf ℕ) (kept : ListOf Event → Type 0) (now : ℕ) → rest ≡ numbers 0 (list_total o) → kept [] → ValuesSoFar names told o rest kept now now
  values_none rest kept now same keeps = record {
    events = [];
    read = always told (λ image. values_along names image o ≡ and_more [] (values_of_lists names image o rest))
        (λ image. ap (values_of_lists names image o) (sym same) ∙ sym (more_none (values_of_lists names image o rest)));
    keeps = keeps;
    count = 0;
    takes = always told (λ image. Takes 0 now now) (λ image. takes_none now);
    bytes = ap (λ l. 0 + bytes_along o (node_columns l)) same ∙ (let e : 0 + bytes_along o (all_node_columns o) ≡ bytes_along o (all_node_columns o) = omega arith in e);
  }

  module _ (rest left : ListOf ℕ) (i : ℕ) (kept : ListOf Event → Type 0) (before now : ℕ) (h : ValuesSoFar names told o rest kept before now) (next : rest ≡ i ∷ left) where
    along_next : (image : ListOf ℕ) → values_of_lists names image o rest ≡ before_more (i, NodeAttr) (values_at names image o i) (values_of_lists names image o left)
    along_next image = ap (values_of_lists names image o) next

    bytes_next : bytes_along o (node_columns rest) ≡ bytes_at o i NodeAttr + bytes_along o (node_columns left)
    bytes_next = ap (λ l. bytes_along o (node_columns l)) next ∙ sum_by-cons (λ (p : ℕ × Column). bytes_at o p.0 p.1) (i, NodeAttr) (node_columns left)

    -- with one list more
    pub values_more : (after : ℕ) (more : ListOf Event) (keeps : ListOf Event → Type 0) → IfSome told (λ image. values_at names image o i ≡ Ok more) → ((events : ListOf Event) → kept events → keeps (events ++ more))
        → IfSome told (λ image. Takes (bytes_at o i NodeAttr) now after) → ValuesSoFar names told o left keeps before after
    values_more after more keeps read step takes = record {
      events = h.events ++ more;
      read =
          both_told told (λ image. values_at names image o i ≡ Ok more) (λ image. values_along names image o ≡ and_more h.events (values_of_lists names image o rest))
          (λ image. values_along names image o ≡ and_more (h.events ++ more) (values_of_lists names image o left))
          (λ image one so_far.
          let others = values_of_lists names image o left in
          so_far ∙ ap (and_more h.events) (along_next image ∙ ap (λ r. before_more (i, NodeAttr) r others) one) ∙ more_more h.events more others)
          read h.read;
      keeps = step h.events h.keeps;
      count = h.count + bytes_at o i NodeAttr;
      takes =
          both_told told (λ image. Takes h.count before now) (λ image. Takes (bytes_at o i NodeAttr) now after) (λ image. Takes (h.count + bytes_at o i NodeAttr) before after)
          (λ image one two. omega (arith, one, two)) h.takes takes;
      bytes = omega (arith, h.bytes, bytes_next);
    }

    -- where the next list is damaged, it is the first
    pub next_damaged : IfSome told (λ image. values_at names image o i ≡ Err i) → IfSome told (λ image. values_along names image o ≡ Err (i, NodeAttr))
    next_damaged read =
        both_told told (λ image. values_at names image o i ≡ Err i) (λ image. values_along names image o ≡ and_more h.events (values_of_lists names image o rest))
        (λ image. values_along names image o ≡ Err (i, NodeAttr))
        (λ image one so_far. so_far ∙ ap (and_more h.events) (along_next image ∙ ap (λ r. before_more (i, NodeAttr) r (values_of_lists names image o left)) one))
        read h.read

    -- no more is read than all
    pub most_read : (after : ℕ) → IfSome told (λ image. TakesAtMost (bytes_at o i NodeAttr) now after) → IfSome told (λ image. TakesAtMost (bytes_along o (all_node_columns o)) before after)
    most_read after most =
        both_told told (λ image. Takes h.count before now) (λ image. TakesAtMost (bytes_at o i NodeAttr) now after) (λ image. TakesAtMost (bytes_along o (all_node_columns o)) before after)
        (λ image one two. omega (arith, one, two, h.bytes, bytes_next)) h.takes most

    -- where the next list was not read
    module _ (A : Type 0) where
      damage_told : (f : RecordFault) → IfSome told (λ image. IsListRead names image o i (Err f)) → IfSome told (λ image. TellsValueDamage {A = A} names o image (Err f))
      damage_told fault.Disk read = always told (λ image. Unit {0}) (λ image. tt)
      damage_told fault.Memory read = always told (λ image. Unit {0}) (λ image. tt)
      damage_told (fault.Damaged k c) read =
          both_told told (λ image. values_along names image o ≡ Err (i, NodeAttr)) (λ image. IsListRead names image o i (Err (fault.Damaged k c)))
          (λ image. TellsValueDamage {A = A} names o image (Err (fault.Damaged k c))) (λ image whole one. ((i, NodeAttr), whole, one.1, one.2))
          (next_damaged (told_so told (λ image. IsListRead names image o i (Err (fault.Damaged k c))) (λ image. values_at names image o i ≡ Err i) (λ image one. one.0) read)) read

      pub damage_fails : (r : Result A RecordFault) (f : RecordFault) → HandsOn r f → IfSome told (λ image. IsListRead names image o i (Err f)) → IfSome told (λ image. TellsValueDamage names o image r)
      damage_fails (Ok x) f on read = absurd on.1
      damage_fails (Err e) f on read = subst (λ (g : RecordFault). IfSome told (λ image. TellsValueDamage {A = A} names o image (Err g))) (sym on.1) (damage_told f read)

  -- at the end
  module _ (rest : ListOf ℕ) (kept : ListOf Event → Type 0) (before now : ℕ) (h : ValuesSoFar names told o rest kept before now) (end : rest ≡ []) where
    pub all_read : IfSome told (λ image. values_along names image o ≡ Ok h.events)
    all_read =
        told_so told (λ image. values_along names image o ≡ and_more h.events (values_of_lists names image o rest)) (λ image. values_along names image o ≡ Ok h.events)
        (λ image is. is ∙ ap (λ l. and_more h.events (values_of_lists names image o l)) end ∙ ap (λ l. Ok l) (append_none h.events)) h.read

    pub all_taken : IfSome told (λ image. Takes (bytes_along o (all_node_columns o)) before now)
    all_taken =
        let none : bytes_along o (node_columns rest) ≡ 0 = ap (λ l. bytes_along o (node_columns l)) end in
        told_so told (λ image. Takes h.count before now) (λ image. Takes (bytes_along o (all_node_columns o)) before now) (λ image one. omega (arith, one, h.bytes, none)) h.takes
