use Rattle.std.proofs.Common.{◌≡◌, ◌-◌, ◌+◌, ◌≤◌, ℕ, List, Option, length, map, take, drop, refl, sym, ap, subst, ◌∙◌, arith}
use Rattle.std.specs.Prelude.{IfSome}
use Rattle.std.proofs.lemmas.List.{take_rest}
use Rattle.dg_append.specs.AddedBatches.{AddsBatch, FailsBatch}
use Rattle.dg_append.specs.declared.batch.Batch.{Batch}
use Rattle.dg_append.specs.declared.front.Front.TheVariants.{Whole}
use Rattle.dg_changes.specs.EventChanges.{change_of}
use Rattle.dg_graph.specs.declared.event.Event.{Event}
use Rattle.dg_index.specs.OpenedIndex.{Opening}
use Rattle.dg_part_files.specs.declared.fault.PartFault.TheVariants as fault
use Rattle.dg_part_files.specs.PartFaults.{StopsPart}
use Rattle.dg_part_files.specs.WrittenParts.{known_behind, written}
use Rattle.dg_part_files.proofs.CutSteps.{known_all}
use Rattle.dg_part_files.proofs.PartSteps.{cause_of, front_left, goes_on, may_add, not_refused, reason, uncut}
use Rattle.dg_part_files.proofs.batches.add_next.Goals.{then-done-eq0, else-done-eq0}
use Rattle.dg_part_files.proofs.batches.add_next.Goals as goal
use Rattle.dg_partition.specs.Cuts.{cut_of}

cut_is : (events : List Event) (done n : ℕ) → n ≡ cut_of (take (length events - done) (drop done events)) → n ≡ cut_of (drop done events)
cut_is events done n is = is ∙ ap cut_of (take_rest events done)

within_is : (events : List Event) (done n : ℕ) → n ≤ length (take (length events - done) (drop done events)) → n ≤ length (drop done events)
within_is events done n le = subst (λ (l : List Event). n ≤ length l) (take_rest events done) le

known_zero : (names : List (List ℕ)) (done : ℕ) → done ≡ 0 → known_behind names done ≡ 0
known_zero names done is = ap (known_behind names) is

pub returns-then-count-eq0-clause-stops : goal.returns-then-count-eq0-clause-stops
returns-then-count-eq0-clause-stops g c =
    let events = c.args.part.now.events.now in
    subst (λ (k : ℕ). StopsPart g.D.Disk c.args.limit (written c.args.part.now.params c.args.part.now.names.now events) events c.args.out.now c.args.out.now (fault.Crowded (c.args.done + k + 1)))
    (sym c.from.ensures)
    (uncut g.D.Disk c.args.out.now c.args.limit c.args.part.now.params c.args.part.now.names.now events c.args.done c.next_cut-count.result c.args.live.now c.requires.at c.requires.left
    (cut_is events c.args.done _ c.next_cut-count.ensures.cut) (within_is events c.args.done _ c.next_cut-count.ensures.within) c.if-count-eq0.true)

pub add_batch-requires-clause-may : goal.add_batch-requires-clause-may
add_batch-requires-clause-may g c =
    let events = c.args.part.now.events.now in
    may_add c.args.limit c.args.part.now.params c.args.part.now.names.now events c.requires.good c.args.done c.next_cut-count.result c.args.live.now (g.D.Disk.image c.args.out.now) c.requires.at
    (omega (arith, c.if-count-eq0.false)) (within_is events c.args.done _ c.next_cut-count.ensures.within) c.requires.left (cut_is events c.args.done _ c.next_cut-count.ensures.cut)
    _ (elim c.if-done-eq0.branch [ then-done-eq0 w ↦ w.batch-is ∙ sym (known_zero c.args.part.now.names.now c.args.done w.if-done-eq0.true) | else-done-eq0 w ↦ w.batch-is ∙ w.len.ensures.len ∙ sym (known_all c.args.part.now.names.now c.args.done (omega (arith, w.if-done-eq0.false))) ]) refl
    (c.in_ok-changes_of.ensures ∙ ap (λ (l : List Event). map change_of (take c.next_cut-count.result l)) (take_rest events c.args.done)) c.next_cut-count.ensures.few

pub fault_of-requires : goal.fault_of-requires
fault_of-requires g c =
    let events = c.args.part.now.events.now in
    let b : Batch = record { known = c.if-done-eq0.batch; front = Whole; changes = c.in_ok-changes_of.field-0 } in
    not_refused c.args.limit c.args.part.now.params c.args.part.now.names.now events c.requires.good c.args.done c.next_cut-count.result c.args.live.now (g.D.Disk.image c.args.out.now) c.requires.at
    (omega (arith, c.if-count-eq0.false)) (within_is events c.args.done _ c.next_cut-count.ensures.within) c.requires.left (cut_is events c.args.done _ c.next_cut-count.ensures.cut)
    b (elim c.if-done-eq0.branch [ then-done-eq0 w ↦ w.batch-is ∙ sym (known_zero c.args.part.now.names.now c.args.done w.if-done-eq0.true) | else-done-eq0 w ↦ w.batch-is ∙ w.len.ensures.len ∙ sym (known_all c.args.part.now.names.now c.args.done (omega (arith, w.if-done-eq0.false))) ]) refl
    (c.in_ok-changes_of.ensures ∙ ap (λ (l : List Event). map change_of (take c.next_cut-count.result l)) (take_rest events c.args.done))
    (g.D.Disk.image c.args.out.now) (g.D.Disk.image c.add_batch.new.disk) c.in-Err.fault
    (subst (λ (o : Option Opening). IfSome o (λ o. FailsBatch o c.args.limit b c.args.live.now.history (g.D.Disk.image c.args.out.now) (g.D.Disk.image c.add_batch.new.disk) c.in-Err.fault)) c.requires.at.there c.in-Err.ensures.fails)

pub returns-in-Ok-clause-at : goal.returns-in-Ok-clause-at
returns-in-Ok-clause-at g c =
    let events = c.args.part.now.events.now in
    let b : Batch = record { known = c.if-done-eq0.batch; front = Whole; changes = c.in_ok-changes_of.field-0 } in
    goes_on c.args.limit c.args.part.now.params c.args.part.now.names.now events c.requires.good c.args.done c.next_cut-count.result c.args.live.now (g.D.Disk.image c.args.out.now) c.requires.at
    (omega (arith, c.if-count-eq0.false)) (within_is events c.args.done _ c.next_cut-count.ensures.within) c.requires.left (cut_is events c.args.done _ c.next_cut-count.ensures.cut)
    b (elim c.if-done-eq0.branch [ then-done-eq0 w ↦ w.batch-is ∙ sym (known_zero c.args.part.now.names.now c.args.done w.if-done-eq0.true) | else-done-eq0 w ↦ w.batch-is ∙ w.len.ensures.len ∙ sym (known_all c.args.part.now.names.now c.args.done (omega (arith, w.if-done-eq0.false))) ]) refl
    (c.in_ok-changes_of.ensures ∙ ap (λ (l : List Event). map change_of (take c.next_cut-count.result l)) (take_rest events c.args.done))
    c.add_batch.new.live (g.D.Disk.image c.add_batch.new.disk) c.in-Ok._added c.in-Ok.ensures.disk.used.told
    (subst (λ (o : Option Opening). IfSome o (λ o. AddsBatch o c.args.limit b c.args.live.now c.add_batch.new.live (g.D.Disk.image c.args.out.now) (g.D.Disk.image c.add_batch.new.disk) c.in-Ok._added)) c.requires.at.there c.in-Ok.ensures.adds)
    c.in-Ok.ensures.live

pub returns-in-Err-clause-stops : goal.returns-in-Err-clause-stops
returns-in-Err-clause-stops g c =
    let events = c.args.part.now.events.now in
    let b : Batch = record { known = c.if-done-eq0.batch; front = Whole; changes = c.in_ok-changes_of.field-0 } in
    let known : b.known ≡ known_behind c.args.part.now.names.now c.args.done =
    elim c.if-done-eq0.branch [ then-done-eq0 w ↦ w.batch-is ∙ sym (known_zero c.args.part.now.names.now c.args.done w.if-done-eq0.true) | else-done-eq0 w ↦ w.batch-is ∙ w.len.ensures.len ∙ sym (known_all c.args.part.now.names.now c.args.done (omega (arith, w.if-done-eq0.false))) ] in
    let changes = c.in_ok-changes_of.ensures ∙ ap (λ (l : List Event). map change_of (take c.next_cut-count.result l)) (take_rest events c.args.done) in
    let fails = subst (λ (o : Option Opening). IfSome o (λ o. FailsBatch o c.args.limit b c.args.live.now.history (g.D.Disk.image c.args.out.now) (g.D.Disk.image c.add_batch.new.disk) c.in-Err.fault)) c.requires.at.there c.in-Err.ensures.fails in
    subst (StopsPart g.D.Disk c.args.limit (written c.args.part.now.params c.args.part.now.names.now events) events c.args.out.now c.add_batch.new.disk) (sym c.fault_of.ensures)
    (record {
      reason = reason c.args.limit c.args.part.now.params c.args.part.now.names.now events c.requires.good c.args.done c.next_cut-count.result c.args.live.now (g.D.Disk.image c.args.out.now) c.requires.at
          (omega (arith, c.if-count-eq0.false)) (within_is events c.args.done _ c.next_cut-count.ensures.within) c.requires.left (cut_is events c.args.done _ c.next_cut-count.ensures.cut)
          b known refl changes (g.D.Disk.image c.add_batch.new.disk) c.in-Err.ensures.disk.used.told c.in-Err.fault fails;
      cause = cause_of g.D.Disk c.args.out.now c.add_batch.new.disk c.in-Err.fault c.in-Err.ensures.disk.causes;
      front = front_left c.args.limit c.args.part.now.params c.args.part.now.names.now events c.requires.good c.args.done c.next_cut-count.result c.args.live.now (g.D.Disk.image c.args.out.now) c.requires.at
          (omega (arith, c.if-count-eq0.false)) (within_is events c.args.done _ c.next_cut-count.ensures.within) c.requires.left (cut_is events c.args.done _ c.next_cut-count.ensures.cut)
          b known refl changes (g.D.Disk.image c.add_batch.new.disk) c.in-Err.ensures.disk.used.told c.in-Err.fault fails;
    })
