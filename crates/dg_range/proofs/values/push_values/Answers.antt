use Rattle.std.proofs.Common.{◌≡◌, ℕ, ◌+◌, ◌-◌, ◌∷◌, refl, List, Option, Ok, Err, subst, ◌∙◌, ◌++◌, arith}
use Rattle.std.specs.Prelude.{IfSome}
use Rattle.dg_aux.specs.Turns.{turns_of}
use Rattle.dg_disk.proofs.FrameLemmas.{reads_none, reads_then}
use Rattle.dg_graph.specs.declared.element.Column.TheVariants.{NodeAttr}
use Rattle.dg_graph.specs.declared.event.Event.{Event}
use Rattle.dg_heard.specs.Heard.{list_total}
use Rattle.dg_index.specs.Hierarchy.{numbers}
use Rattle.dg_index.specs.OpenedIndex.{Opening}
use Rattle.dg_range.specs.ColumnRuns.{bytes_along}
use Rattle.dg_heard.specs.ListColumns.{TakesColumn, bytes_at}
use Rattle.dg_range.specs.ListValues.{IsListRead, all_node_columns, values_along, values_at}
use Rattle.dg_range.proofs.ColumnRuns.{takes_done, takes_fails}
use Rattle.dg_heard.proofs.ListColumns.{told_so}
use Rattle.dg_range.proofs.ValueRuns.{all_read, all_taken, damage_fails, lists_all, lists_end, lists_next, most_read, values_more, values_none}
use Rattle.dg_range.proofs.ValueTurns.{applied, turns_more, turns_none}
use Rattle.dg_range.proofs.values.push_values.Given.{Over}
use Rattle.dg_records.specs.ColumnReads.{Takes, TakesAtMost}
use Rattle.dg_range.proofs.values.push_values.Goals as goal
use Rattle.dg_range.proofs.values.push_values.Goals.{After-list_values}

pub loop-list-init : goal.loop-list-init
loop-list-init g c =
    let o : Opening = c.args.index.now.opening in
    record {
      frame = reads_none;
      few = omega arith;
      key = refl;
      so_far =
          values_none c.args.name_count (g.D.Disk.image c.args.disk.now) o (numbers 0 (list_total o - 0)) _ (g.D.Disk.taken c.args.disk.now) (lists_all (list_total o))
          (turns_none c.args.aux.now.key c.args.aux.now.turns);
    }

-- ---- a list

-- what is said of the image as the loop has it
said : (g : Over) (c : After-list_values g) (P : List ℕ → Type 0) → IfSome (g.D.Disk.image c.loop-list.disk) P → IfSome (g.D.Disk.image c.args.disk.now) P
said g c P = subst (λ (told : Option (List ℕ)). IfSome told P) c.loop-list.invariant.frame.same_image

-- the list is the next
next : (g : Over) (c : After-list_values g) → numbers c.loop-list.list (list_total c.args.index.now.opening - c.loop-list.list) ≡ c.loop-list.list ∷ numbers (c.loop-list.list + 1) (list_total c.args.index.now.opening - (c.loop-list.list + 1))
next g c = lists_next c.loop-list.list (list_total c.args.index.now.opening) (omega (arith, c.loop-list-test.true, c.list_total-total.ensures))

pub loop-list-preserved : goal.loop-list-preserved
loop-list-preserved g c =
    let o : Opening = c.args.index.now.opening in
    let told = g.D.Disk.image c.args.disk.now in
    let i = c.loop-list.list in
    let now = g.D.Disk.taken c.loop-list.disk in
    let after = g.D.Disk.taken c.list_values.new.disk in
    let more = c.in_ok-events.events.items in
    let here = (goal.at.loop-list-preserved g c).After-list_values in
    let name = c.args.aux.now.key in
    record {
      frame = reads_then c.loop-list.invariant.frame c.list_values.ensures.reads.disk;
      few = omega (arith, c.loop-list-test.true);
      key = c.apply.ensures.key ∙ c.in_ok-reserve.ensures.key ∙ c.loop-list.invariant.key;
      so_far =
          values_more c.args.name_count told o _ (numbers (i + 1) (list_total o - (i + 1))) i _ (g.D.Disk.taken c.args.disk.now) now c.loop-list.invariant.so_far (next g here)
          after more (λ (events : List Event). c.apply.new.self.turns ≡ c.args.aux.now.turns ++ turns_of name events)
          (said g here (λ image. values_at c.args.name_count image o i ≡ Ok more) c.in_ok-events.ensures.read)
          (turns_more name c.args.aux.now.turns c.loop-list.aux.turns c.apply.new.self.turns more
          (applied name c.loop-list.aux.key c.reserve.new.self.key c.loop-list.aux.turns c.reserve.new.self.turns c.apply.new.self.turns c.deref.result.now more
          c.loop-list.invariant.key c.in_ok-reserve.ensures.key c.in_ok-reserve.ensures.turns c.deref.ensures.value c.apply.ensures.turns))
          (said g here (λ image. Takes (bytes_at o i NodeAttr) now after)
          (told_so (g.D.Disk.image c.loop-list.disk) (λ image. TakesColumn o i NodeAttr now after (Ok c.in_ok-events.events)) (λ image. Takes (bytes_at o i NodeAttr) now after)
          (λ image h. h.takes) c.in_ok-events.ensures.takes));
    }

-- no more is read than all
most : (g : Over) (c : After-list_values g) → IfSome (g.D.Disk.image c.args.disk.now) (λ image. TakesAtMost (bytes_along c.args.index.now.opening (all_node_columns c.args.index.now.opening)) (g.D.Disk.taken c.args.disk.now) (g.D.Disk.taken c.list_values.new.disk))
most g c =
    let o : Opening = c.args.index.now.opening in
    let i = c.loop-list.list in
    let now = g.D.Disk.taken c.loop-list.disk in
    let after = g.D.Disk.taken c.list_values.new.disk in
    most_read c.args.name_count (g.D.Disk.image c.args.disk.now) o _ (numbers (i + 1) (list_total o - (i + 1))) i _ (g.D.Disk.taken c.args.disk.now) now
    c.loop-list.invariant.so_far (next g c) after
    (said g c (λ image. TakesAtMost (bytes_at o i NodeAttr) now after)
    (told_so (g.D.Disk.image c.loop-list.disk) (λ image. TakesColumn o i NodeAttr now after c.list_values.result) (λ image. TakesAtMost (bytes_at o i NodeAttr) now after)
    (λ image h. h.most) c.list_values.ensures.takes))

pub returns-in_err-events-clause-takes : goal.returns-in_err-events-clause-takes
returns-in_err-events-clause-takes g c =
    takes_fails (g.D.Disk.image c.args.disk.now) c.args.index.now.opening (all_node_columns c.args.index.now.opening) (g.D.Disk.taken c.args.disk.now) (g.D.Disk.taken c.list_values.new.disk)
    c.from_residual.result c.from_residual.ensures.0 (most g (goal.at.returns-in_err-events-clause-takes g c).After-list_values)

pub returns-in_err-reserve-clause-takes : goal.returns-in_err-reserve-clause-takes
returns-in_err-reserve-clause-takes g c =
    takes_fails (g.D.Disk.image c.args.disk.now) c.args.index.now.opening (all_node_columns c.args.index.now.opening) (g.D.Disk.taken c.args.disk.now) (g.D.Disk.taken c.list_values.new.disk)
    c.from_residual-in_err-reserve.result c.from_residual-in_err-reserve.ensures.0 (most g (goal.at.returns-in_err-reserve-clause-takes g c).After-list_values)

pub returns-in_err-events-clause-damage : goal.returns-in_err-events-clause-damage
returns-in_err-events-clause-damage g c =
    let o : Opening = c.args.index.now.opening in
    let i = c.loop-list.list in
    let here = (goal.at.returns-in_err-events-clause-damage g c).After-list_values in
    damage_fails c.args.name_count (g.D.Disk.image c.args.disk.now) o _ (numbers (i + 1) (list_total o - (i + 1))) i _ (g.D.Disk.taken c.args.disk.now) (g.D.Disk.taken c.loop-list.disk)
    c.loop-list.invariant.so_far (next g here) (Unit {0}) c.from_residual.result c.in_err-events.field-0.0 c.from_residual.ensures
    (said g here (λ image. IsListRead c.args.name_count image o i (Err c.in_err-events.field-0.0)) c.in_err-events.ensures.read)

-- ---- the end

pub returns-clause-turns : goal.returns-clause-turns
returns-clause-turns g c =
    let o : Opening = c.args.index.now.opening in
    let h = c.loop-list.invariant.so_far in
    record {
      events = h.events;
      read =
          all_read c.args.name_count (g.D.Disk.image c.args.disk.now) o _ _ (g.D.Disk.taken c.args.disk.now) (g.D.Disk.taken c.loop-list.disk) h
          (lists_end c.loop-list.list (list_total o) (omega (arith, c.loop-list-test.false, c.list_total-total.ensures)));
      turns = h.keeps;
    }

pub returns-clause-damage : goal.returns-clause-damage
returns-clause-damage g c =
    let o : Opening = c.args.index.now.opening in
    let h = c.loop-list.invariant.so_far in
    told_so (g.D.Disk.image c.args.disk.now) (λ image. values_along c.args.name_count image o ≡ Ok h.events)
    _ (λ image is. (h.events, is))
    (all_read c.args.name_count (g.D.Disk.image c.args.disk.now) o _ _ (g.D.Disk.taken c.args.disk.now) (g.D.Disk.taken c.loop-list.disk) h
    (lists_end c.loop-list.list (list_total o) (omega (arith, c.loop-list-test.false, c.list_total-total.ensures))))

pub returns-clause-takes : goal.returns-clause-takes
returns-clause-takes g c =
    let o : Opening = c.args.index.now.opening in
    let told = g.D.Disk.image c.args.disk.now in
    let before = g.D.Disk.taken c.args.disk.now in
    let now = g.D.Disk.taken c.loop-list.disk in
    takes_done told o (all_node_columns o) before now tt
    (all_taken c.args.name_count told o _ _ before now c.loop-list.invariant.so_far
    (lists_end c.loop-list.list (list_total o) (omega (arith, c.loop-list-test.false, c.list_total-total.ensures))))
