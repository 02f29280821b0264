use Rattle.std.proofs.Common.{◌≡◌, ◌+◌, Ok, sym, ◌∙◌, arith}
use Rattle.dg_index.specs.IndexRecords.{lists_due}
use Rattle.dg_index.specs.OpenedIndex.{Opening, event_total}
use Rattle.dg_sound.specs.OwnEvents.{own_events, with_pieces}
use Rattle.dg_start.specs.EventSources.{WhereTold}
use Rattle.dg_start.proofs.EventSourceOutcomes.{said_before}
use Rattle.dg_verify.specs.declared.own_events.OwnEvents.{OwnEvents}
use Rattle.dg_verify.specs.declared.stop.Stop.{Stop}
use Rattle.dg_verify.specs.EventTests.{IsStopBehind, tested}
use Rattle.dg_verify.specs.RecordBytes.{columns_bytes, piece_keys}
use Rattle.dg_verify.specs.Verification.{opened_with}
use Rattle.dg_verify.proofs.Outcomes.{if_err, on_ok}
use Rattle.dg_verify.proofs.EventTestPieces.{own_by_pieces}
use Rattle.dg_verify.proofs.EventTestRecords.{stops_so}
use Rattle.dg_verify.proofs.RecordReads.{events_bytes, events_parted, told_part, told_then}
use Rattle.dg_verify.proofs.verification.read_all.Goals as goal

pub returns-clause-own : goal.returns-clause-own
returns-clause-own g c =
    let o : Opening = c.args.index.now.opening in
    let names = c.args.names.now in
    let x = opened_with o names in
    let told = g.D.Disk.image c.args.disk.now in
    let own : OwnEvents = c.add_lists.new.own in
    let after : OwnEvents = c.add_pieces.new.own in
    on_ok c.add_pieces.result
    (WhereTold (g.D.Disk.image c.add_lists.new.disk) (λ image. tested names own (with_pieces image x own.events.items 0 0 o.batches) ≡ tested names after (Ok after.events.items)))
    (WhereTold told (λ image. own_events image x ≡ tested names after (Ok after.events.items)))
    (λ pieced image h. own_by_pieces image x own (c.in_ok-add_lists.ensures.listed image h)
    ∙ said_before (g.D.Disk.image c.add_lists.new.disk) told
    (λ image. tested names own (with_pieces image (opened_with o names) own.events.items 0 0 o.batches) ≡ tested names after (Ok after.events.items))
    c.add_lists.ensures.disk.same_image pieced image h)
    c.add_pieces.ensures.pieced

pub returns-clause-stopped : goal.returns-clause-stopped
returns-clause-stopped g c =
    let o : Opening = c.args.index.now.opening in
    let names = c.args.names.now in
    let x = opened_with o names in
    let told = g.D.Disk.image c.args.disk.now in
    let own : OwnEvents = c.add_lists.new.own in
    let after : OwnEvents = c.add_pieces.new.own in
    if_err c.add_pieces.result
    (λ (s : Stop). WhereTold (g.D.Disk.image c.add_lists.new.disk) (λ image. IsStopBehind names after s (tested names own (with_pieces image x own.events.items 0 0 o.batches))))
    (λ (s : Stop). WhereTold told (λ image. IsStopBehind names after s (own_events image x)))
    (λ s stopped image h. stops_so s names after (tested names own (with_pieces image x own.events.items 0 0 o.batches)) (own_events image x)
    (sym (own_by_pieces image x own (c.in_ok-add_lists.ensures.listed image h)))
    (said_before (g.D.Disk.image c.add_lists.new.disk) told
    (λ image. IsStopBehind names after s (tested names own (with_pieces image (opened_with o names) own.events.items 0 0 o.batches)))
    c.add_lists.ensures.disk.same_image stopped image h))
    c.add_pieces.ensures.stopped

pub returns-in_err-add_lists-clause-takes : goal.returns-in_err-add_lists-clause-takes
returns-in_err-add_lists-clause-takes g c =
    let o : Opening = c.args.index.now.opening in
    told_part (g.D.Disk.image c.args.disk.now) (columns_bytes o (lists_due o.params 0 (event_total o.batches))) (events_bytes o) (g.D.Disk.taken c.args.disk.now) (g.D.Disk.taken c.add_lists.new.disk)
    (omega (arith, events_parted o)) c.add_lists.ensures.takes

pub returns-clause-takes : goal.returns-clause-takes
returns-clause-takes g c =
    let o : Opening = c.args.index.now.opening in
    let told = g.D.Disk.image c.args.disk.now in
    let lists = columns_bytes o (lists_due o.params 0 (event_total o.batches)) in
    let a = g.D.Disk.taken c.args.disk.now in
    let b = g.D.Disk.taken c.add_lists.new.disk in
    let d = g.D.Disk.taken c.add_pieces.new.disk in
    told_part told (lists + columns_bytes o (piece_keys o)) (events_bytes o) a d (omega (arith, events_parted o))
    (told_then told (g.D.Disk.image c.add_lists.new.disk) (columns_bytes o (piece_keys o)) lists a b d
    c.add_lists.ensures.disk.same_image c.add_lists.ensures.takes c.add_pieces.ensures.takes)
