use Rattle.std.proofs.Common.{ℕ, ◌+◌, ◌-◌, ◌/◌, ◌++◌, length, refl, ap, arith, length-append}
use Rattle.std.proofs.lemmas.Result.{err_from_is_err_and}
use Rattle.dg_index.specs.FileOfHistory.{Segment}
use Rattle.dg_build.proofs.SpelledRecordLists.{lists_long}
use Rattle.dg_build.proofs.SpelledRecordTimes.{lists_behind, lists_may}
use Rattle.dg_build.proofs.SpelledRecordSegments.{lists_within, none_heard, whole}
use Rattle.dg_build.proofs.batch.build.Goals as goal

pub returns-clause-batch : goal.returns-clause-batch
returns-clause-batch c =
    let is = c.in_ok-add_batch.ensures.written in
    (ap (λ (s : Segment). s.events) is, ap (λ (s : Segment). s.first) is, ap (λ (s : Segment). s.last) is, ap (λ (s : Segment). s.names) is)

pub returns-clause-lists : goal.returns-clause-lists
returns-clause-lists c = lists_long c.args.messages c.args.params.l _ (c.args.recent.now ++ c.args.events.now) c.add_batch.new.segment.lists (ap (λ (s : Segment). s.lists) c.in_ok-add_batch.ensures.written)

pub returns-clause-deltas : goal.returns-clause-deltas
returns-clause-deltas c = c.in_ok-add_batch.ensures.count

pub returns-clause-times : goal.returns-clause-times
returns-clause-times c floor rises =
    let l : ℕ = c.args.params.l in
    let n : ℕ = (c.args.before + length c.args.events.now) / l - c.args.before / l in
    lists_may c.args.messages l n floor (c.args.recent.now ++ c.args.events.now) c.add_batch.new.segment.lists c.requires.list.0
    (omega (arith, lists_within l c.args.before (length c.args.events.now) c.requires.list.0, c.requires.recent, length-append c.args.recent.now c.args.events.now))
    rises (ap (λ (s : Segment). s.lists) c.in_ok-add_batch.ensures.written)

pub returns-clause-behind : goal.returns-clause-behind
returns-clause-behind c floor rises =
    let l : ℕ = c.args.params.l in
    let n : ℕ = (c.args.before + length c.args.events.now) / l - c.args.before / l in
    lists_behind c.args.messages l n floor (c.args.recent.now ++ c.args.events.now) c.add_batch.new.segment.lists c.requires.list.0
    (omega (arith, lists_within l c.args.before (length c.args.events.now) c.requires.list.0, c.requires.recent, length-append c.args.recent.now c.args.events.now))
    rises (ap (λ (s : Segment). s.lists) c.in_ok-add_batch.ensures.written)

pub returns-clause-is : goal.returns-clause-is
returns-clause-is c past long is_recent is_now changes steps e1 e2 e3 =
    let more = c.args.events.now in
    whole c.args.messages c.args.params past more c.args.before (c.args.recent.now ++ more) c.args.recent.now c.args.segment c.add_batch.new.segment c.add_batch.new.segment.deltas c.requires.list.0 long is_recent refl e1 e2 e3
    (record { is = c.in_ok-add_batch.ensures.written }) (c.in_ok-add_batch.ensures.is past long is_recent is_now changes steps)

pub returns-clause-unheard : goal.returns-clause-unheard
returns-clause-unheard c =
    let l : ℕ = c.args.params.l in
    none_heard c.args.messages l ((c.args.before + length c.args.events.now) / l - c.args.before / l) (c.args.recent.now ++ c.args.events.now) c.args.segment c.add_batch.new.segment _
    (record { is = c.in_ok-add_batch.ensures.written }) c.facts.ensures

pub returns-in_err-add_batch-clause-fault : goal.returns-in_err-add_batch-clause-fault
returns-in_err-add_batch-clause-fault c =
    let failed = err_from_is_err_and c.from_residual.result c.from_residual.ensures.1 in
    rw (failed.1, failed.2) c.in_err-add_batch.ensures.fault

pub returns-in_err-add_batch-clause-wide : goal.returns-in_err-add_batch-clause-wide
returns-in_err-add_batch-clause-wide c =
    let failed = err_from_is_err_and c.from_residual.result c.from_residual.ensures.1 in
    rw (failed.1, failed.2) c.in_err-add_batch.ensures.wide

pub returns-clause-given : goal.returns-clause-given
returns-clause-given c = c.in_ok-add_batch.ensures.given

pub returns-in_err-add_batch-clause-first : goal.returns-in_err-add_batch-clause-first
returns-in_err-add_batch-clause-first c =
    let failed = err_from_is_err_and c.from_residual.result c.from_residual.ensures.1 in
    rw (failed.1, failed.2) c.in_err-add_batch.ensures.first
