use Rattle.std.proofs.Common.{◌≡◌, ℕ, ◌+◌, ◌∙◌, subst, arith}
use Rattle.std.specs.Prelude.{Ok}
use Rattle.dg_disk.proofs.FrameLemmas.{reads_then}
use Rattle.dg_records.specs.ColumnReads.{TakesAtMost}
use Rattle.dg_history.specs.declared.node.Key.TheVariants as key
use Rattle.dg_index.specs.Hierarchy.{leaves}
use Rattle.dg_index.specs.OpenedIndex.{Opening, entry_at, event_total, total}
use Rattle.dg_sound.specs.OwnEvents.{list_total, listed_events, with_list}
use Rattle.dg_start.specs.EventSources.{WhereTold}
use Rattle.dg_start.proofs.EventSourceOutcomes.{err_is, said_before}
use Rattle.dg_verify.specs.declared.stop.Stop.{Stop}
use Rattle.dg_verify.specs.EventTests.{IsStopBehind, tested}
use Rattle.dg_verify.specs.Verification.{opened_with}
use Rattle.dg_verify.proofs.EventTestLists.{all_listed, list_stops, many_more, one_listed}
use Rattle.dg_verify.proofs.RecordReads.{all_read, lists_bytes, next_read}
use Rattle.dg_verify.proofs.lists.add_lists.Goals as goal

pub returns-in_err-add_list-clause-stopped : goal.returns-in_err-add_list-clause-stopped
returns-in_err-add_list-clause-stopped g c =
    let o : Opening = c.args.index.now.opening in
    let told = g.D.Disk.image c.args.disk.now in
    let x = opened_with o c.args.names.now in
    let s : Stop = c.in_err-add_list.field-0.0 in
    err_is c.from_residual.result s (λ (s : Stop). WhereTold told (λ image. IsStopBehind c.args.names.now c.add_list.new.own s (listed_events image x))) c.from_residual.ensures
    (list_stops told x c.leaves-total.result c.loop-number.number c.loop-number-test.true c.loop-number.own c.loop-number.invariant.so_far s c.add_list.new.own
    (said_before (g.D.Disk.image c.loop-number.disk) told
    (λ image. IsStopBehind c.args.names.now c.add_list.new.own s
    (tested c.args.names.now c.loop-number.own (with_list image (opened_with o c.args.names.now) c.loop-number.own.events.items c.loop-number.number)))
    c.loop-number.invariant.frame.same_image c.in_err-add_list.ensures.stopped))

pub loop-number-preserved : goal.loop-number-preserved
loop-number-preserved g c =
    let o : Opening = c.args.index.now.opening in
    let told = g.D.Disk.image c.args.disk.now in
    let x = opened_with o c.args.names.now in
    record {
      frame = reads_then c.loop-number.invariant.frame c.add_list.ensures.disk;
      read = c.in_ok-add_list.ensures.read;
      many = many_more c.loop-number.number o.params.l _ _ c.loop-number.invariant.many c.in_ok-add_list.ensures.many;
      so_far =
          one_listed told x c.leaves-total.result c.loop-number.number c.loop-number-test.true c.loop-number.own c.loop-number.invariant.so_far c.add_list.new.own
          (said_before (g.D.Disk.image c.loop-number.disk) told
          (λ image. tested c.args.names.now c.loop-number.own (with_list image (opened_with o c.args.names.now) c.loop-number.own.events.items c.loop-number.number)
          ≡ tested c.args.names.now c.add_list.new.own (Ok c.add_list.new.own.events.items))
          c.loop-number.invariant.frame.same_image c.in_ok-add_list.ensures.listed);
      takes = λ image h.
          let i : ℕ = c.loop-number.number in
          let a = g.D.Disk.taken c.args.disk.now in
          let b = g.D.Disk.taken c.loop-number.disk in
          let d = g.D.Disk.taken c.add_list.new.disk in
          next_read o (λ i. key.List i) i a b d (c.loop-number.invariant.takes image h)
          (said_before (g.D.Disk.image c.loop-number.disk) told (λ image. TakesAtMost (total (entry_at o (key.List i)).lengths) b d)
          c.loop-number.invariant.frame.same_image c.add_list.ensures.takes image h);
      numbered = (let lt = c.loop-number-test.true in omega (arith, lt));
    }

pub returns-clause-listed : goal.returns-clause-listed
returns-clause-listed g c =
    all_listed (g.D.Disk.image c.args.disk.now) (opened_with c.args.index.now.opening c.args.names.now) c.leaves-total.result c.loop-number.number c.loop-number.own
    (let past = c.loop-number-test.false in omega (arith, past)) c.loop-number.invariant.so_far

pub returns-in_err-add_list-clause-takes : goal.returns-in_err-add_list-clause-takes
returns-in_err-add_list-clause-takes g c image h =
    let o : Opening = c.args.index.now.opening in
    let told = g.D.Disk.image c.args.disk.now in
    let i : ℕ = c.loop-number.number in
    let a = g.D.Disk.taken c.args.disk.now in
    let b = g.D.Disk.taken c.loop-number.disk in
    let d = g.D.Disk.taken c.add_list.new.disk in
    let count : c.leaves-total.result ≡ list_total o = c.leaves-total.ensures.leaves ∙ (λ j. leaves (c.params.ensures j) (c.events_len.ensures.events j)) in
    subst (λ n. TakesAtMost n a d) (lists_bytes o (event_total o.batches))
    (all_read o (λ i. key.List i) (i + 1) (list_total o) a d (omega (arith, c.loop-number-test.true, count))
    (next_read o (λ i. key.List i) i a b d (c.loop-number.invariant.takes image h)
    (said_before (g.D.Disk.image c.loop-number.disk) told (λ image. TakesAtMost (total (entry_at o (key.List i)).lengths) b d)
    c.loop-number.invariant.frame.same_image c.add_list.ensures.takes image h)))

pub returns-clause-takes : goal.returns-clause-takes
returns-clause-takes g c image h =
    let o : Opening = c.args.index.now.opening in
    let a = g.D.Disk.taken c.args.disk.now in
    let b = g.D.Disk.taken c.loop-number.disk in
    let count : c.leaves-total.result ≡ list_total o = c.leaves-total.ensures.leaves ∙ (λ j. leaves (c.params.ensures j) (c.events_len.ensures.events j)) in
    let past = c.loop-number.invariant.numbered in
    subst (λ n. TakesAtMost n a b) (lists_bytes o (event_total o.batches))
    (all_read o (λ i. key.List i) c.loop-number.number (list_total o) a b (omega (arith, past, count)) (c.loop-number.invariant.takes image h))
