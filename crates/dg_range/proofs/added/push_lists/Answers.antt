use Rattle.std.proofs.Common.{◌≡◌, ℕ, ◌-◌, ◌∷◌, sym, ap, List, Option, Ok, Err, subst, ◌∙◌, ◌≤◌, arith}
use Rattle.std.specs.Prelude.{IfSome}
use Rattle.dg_disk.proofs.FrameLemmas.{reads_none, reads_then}
use Rattle.dg_graph.specs.declared.element.Column.{Column}
use Rattle.dg_graph.specs.declared.element.Column.TheVariants.{Structure}
use Rattle.dg_heard.specs.ListColumns.{IsColumnRead, TakesColumn, bytes_at, events_at}
use Rattle.dg_index.specs.Hierarchy.{numbers}
use Rattle.dg_index.specs.OpenedIndex.{Opening}
use Rattle.dg_range.specs.Added.{asked_columns, following, place_after}
use Rattle.dg_range.specs.ColumnRuns.{bytes_along, events_along}
use Rattle.dg_range.proofs.AddedPlaces.{ArePut, place_within, put_more, put_none, rest_end, rest_first, rest_less, rest_next, rest_of}
use Rattle.dg_range.proofs.ColumnRuns.{all_read, all_taken, damage_fails, most_read, read_more, read_none, takes_done, takes_fails}
use Rattle.dg_heard.proofs.ListColumns.{told_so}
use Rattle.dg_range.proofs.added.push_lists.Given.{Over}
use Rattle.dg_records.specs.ColumnReads.{Takes, TakesAtMost}
use Rattle.dg_range.proofs.added.push_lists.Goals as goal
use Rattle.dg_range.proofs.added.push_lists.Goals.{After-read_column}

pub loop-list-init : goal.loop-list-init
loop-list-init g c =
    let o : Opening = c.args.index.now.opening in
    record {
      frame = reads_none;
      few = c.requires.ordered;
      so_far =
          read_none c.args.name_count (g.D.Disk.image c.args.disk.now) o (asked_columns c.args.cols (numbers c.args.low (c.args.high - c.args.low))) (rest_of c.args.cols c.args.high (c.args.low, Structure)) _ (g.D.Disk.taken c.args.disk.now)
          (rest_first c.args.cols c.args.low c.args.high c.requires.ordered) (put_none c.args.name_count c.args.from c.args.until c.args.put.now.items);
    }

-- ---- a column

-- what is said of the image as the loop has it
said : (g : Over) (c : After-read_column g) (P : List ℕ → Type 0) → IfSome (g.D.Disk.image c.loop-list.disk) P → IfSome (g.D.Disk.image c.args.disk.now) P
said g c P = subst (λ (told : Option (List ℕ)). IfSome told P) c.loop-list.invariant.frame.same_image

-- the column is the next
next : (g : Over) (c : After-read_column g) → rest_of c.args.cols c.args.high (c.loop-list.list, c.loop-list.column) ≡ (c.loop-list.list, c.loop-list.column) ∷ rest_of c.args.cols c.args.high (place_after c.loop-list.list (following c.args.cols c.loop-list.column))
next g c = rest_next c.args.cols c.args.high c.loop-list.list c.loop-list.column c.loop-list-test.true

pub loop-list-preserved : goal.loop-list-preserved
loop-list-preserved g c =
    let o : Opening = c.args.index.now.opening in
    let told = g.D.Disk.image c.args.disk.now in
    let i = c.loop-list.list in
    let col = c.loop-list.column in
    let now = g.D.Disk.taken c.loop-list.disk in
    let after = g.D.Disk.taken c.read_column.new.disk in
    let more = c.in_ok-events.events.items in
    let here = (goal.at.loop-list-preserved g c).After-read_column in
    let place = c.place_behind-next.ensures in
    record {
      frame = reads_then c.loop-list.invariant.frame c.read_column.ensures.reads.disk;
      few = subst (λ (p : ℕ × Column). p.0 ≤ c.args.high) (sym place) (place_within c.args.high i (following c.args.cols col) c.loop-list-test.true);
      so_far =
          read_more c.args.name_count told o (asked_columns c.args.cols (numbers c.args.low (c.args.high - c.args.low))) _ (rest_of c.args.cols c.args.high c.place_behind-next.result) i col _ (g.D.Disk.taken c.args.disk.now) now c.loop-list.invariant.so_far
          (next g here ∙ ap (λ p. (i, col) ∷ rest_of c.args.cols c.args.high p) (sym place))
          after more (ArePut c.args.name_count c.args.from c.args.until c.args.put.now.items c.push_added.new.put.items)
          (said g here (λ image. events_at c.args.name_count image o i col ≡ Ok more) c.in_ok-events.ensures.read)
          (put_more c.args.name_count c.args.from c.args.until c.args.put.now.items c.loop-list.put.items c.push_added.new.put.items c.deref.result.now more
          c.deref.ensures.value c.in_ok-push_added.ensures c.in_ok-events.ensures.named)
          (said g here (λ image. Takes (bytes_at o i col) now after)
          (told_so (g.D.Disk.image c.loop-list.disk) (λ image. TakesColumn o i col now after (Ok c.in_ok-events.events)) (λ image. Takes (bytes_at o i col) now after)
          (λ image h. h.takes) c.in_ok-events.ensures.takes));
    }

pub loop-list-smaller : goal.loop-list-smaller
loop-list-smaller g c =
    rest_less c.args.cols c.args.high c.loop-list.list c.loop-list.column c.place_behind-next.result c.loop-list-test.true c.place_behind-next.ensures

-- no more is read than all
most : (g : Over) (c : After-read_column g) → IfSome (g.D.Disk.image c.args.disk.now) (λ image. TakesAtMost (bytes_along c.args.index.now.opening (asked_columns c.args.cols (numbers c.args.low (c.args.high - c.args.low)))) (g.D.Disk.taken c.args.disk.now) (g.D.Disk.taken c.read_column.new.disk))
most g c =
    let o : Opening = c.args.index.now.opening in
    let i = c.loop-list.list in
    let col = c.loop-list.column in
    let now = g.D.Disk.taken c.loop-list.disk in
    let after = g.D.Disk.taken c.read_column.new.disk in
    most_read c.args.name_count (g.D.Disk.image c.args.disk.now) o (asked_columns c.args.cols (numbers c.args.low (c.args.high - c.args.low))) _ (rest_of c.args.cols c.args.high (place_after i (following c.args.cols col))) i col _ (g.D.Disk.taken c.args.disk.now) now
    c.loop-list.invariant.so_far (next g c) after
    (said g c (λ image. TakesAtMost (bytes_at o i col) now after)
    (told_so (g.D.Disk.image c.loop-list.disk) (λ image. TakesColumn o i col now after c.read_column.result) (λ image. TakesAtMost (bytes_at o i col) now after)
    (λ image h. h.most) c.read_column.ensures.takes))

pub returns-in_err-events-clause-takes : goal.returns-in_err-events-clause-takes
returns-in_err-events-clause-takes g c =
    takes_fails (g.D.Disk.image c.args.disk.now) c.args.index.now.opening (asked_columns c.args.cols (numbers c.args.low (c.args.high - c.args.low))) (g.D.Disk.taken c.args.disk.now) (g.D.Disk.taken c.read_column.new.disk)
    c.from_residual.result c.from_residual.ensures.0 (most g (goal.at.returns-in_err-events-clause-takes g c).After-read_column)

pub returns-in_err-push_added-clause-takes : goal.returns-in_err-push_added-clause-takes
returns-in_err-push_added-clause-takes g c =
    takes_fails (g.D.Disk.image c.args.disk.now) c.args.index.now.opening (asked_columns c.args.cols (numbers c.args.low (c.args.high - c.args.low))) (g.D.Disk.taken c.args.disk.now) (g.D.Disk.taken c.read_column.new.disk)
    c.from_residual-in_err-push_added.result c.from_residual-in_err-push_added.ensures.0 (most g (goal.at.returns-in_err-push_added-clause-takes g c).After-read_column)

pub returns-in_err-events-clause-damage : goal.returns-in_err-events-clause-damage
returns-in_err-events-clause-damage g c =
    let o : Opening = c.args.index.now.opening in
    let i = c.loop-list.list in
    let col = c.loop-list.column in
    let here = (goal.at.returns-in_err-events-clause-damage g c).After-read_column in
    damage_fails (Unit {0}) c.args.name_count (g.D.Disk.image c.args.disk.now) o (asked_columns c.args.cols (numbers c.args.low (c.args.high - c.args.low))) _ (rest_of c.args.cols c.args.high (place_after i (following c.args.cols col))) i col _ (g.D.Disk.taken c.args.disk.now) (g.D.Disk.taken c.loop-list.disk)
    c.loop-list.invariant.so_far (next g here) c.from_residual.result c.in_err-events.field-0.0 c.from_residual.ensures
    (said g here (λ image. IsColumnRead c.args.name_count image o i col (Err c.in_err-events.field-0.0)) c.in_err-events.ensures.read)

-- ---- the end

pub returns-clause-put : goal.returns-clause-put
returns-clause-put g c =
    let o : Opening = c.args.index.now.opening in
    let h = c.loop-list.invariant.so_far in
    record {
      events = h.events;
      read =
          all_read c.args.name_count (g.D.Disk.image c.args.disk.now) o (asked_columns c.args.cols (numbers c.args.low (c.args.high - c.args.low))) _ _ (g.D.Disk.taken c.args.disk.now) (g.D.Disk.taken c.loop-list.disk) h
          (rest_end c.args.cols c.args.high (c.loop-list.list, c.loop-list.column) (omega (arith, c.loop-list-test.false)));
      put = h.keeps.put;
      named = h.keeps.named;
    }

pub returns-clause-damage : goal.returns-clause-damage
returns-clause-damage g c =
    let o : Opening = c.args.index.now.opening in
    let ps = asked_columns c.args.cols (numbers c.args.low (c.args.high - c.args.low)) in
    let h = c.loop-list.invariant.so_far in
    told_so (g.D.Disk.image c.args.disk.now) (λ image. events_along c.args.name_count image o ps ≡ Ok h.events)
    _ (λ image is. (h.events, is))
    (all_read c.args.name_count (g.D.Disk.image c.args.disk.now) o ps _ _ (g.D.Disk.taken c.args.disk.now) (g.D.Disk.taken c.loop-list.disk) h
    (rest_end c.args.cols c.args.high (c.loop-list.list, c.loop-list.column) (omega (arith, c.loop-list-test.false))))

pub returns-clause-takes : goal.returns-clause-takes
returns-clause-takes g c =
    let o : Opening = c.args.index.now.opening in
    let ps = asked_columns c.args.cols (numbers c.args.low (c.args.high - c.args.low)) in
    let told = g.D.Disk.image c.args.disk.now in
    let before = g.D.Disk.taken c.args.disk.now in
    let now = g.D.Disk.taken c.loop-list.disk in
    takes_done told o ps before now tt
    (all_taken c.args.name_count told o ps _ _ before now c.loop-list.invariant.so_far
    (rest_end c.args.cols c.args.high (c.loop-list.list, c.loop-list.column) (omega (arith, c.loop-list-test.false))))
