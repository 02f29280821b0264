use Rattle.std.proofs.Common.{refl}
use Rattle.dg_run.proofs.machine.SessionMachineMachine.carry.Goals as goal

pub returns-in-Ok-clause-answered : goal.returns-in-Ok-clause-answered
returns-in-Ok-clause-answered g c =
    let answers = c.in-Ok.ensures.answers in
    let step = answers.step in (
      step.0,
      step.1,
      record {
        moves = step.2;
        crash = step.5;
        reads = answers.reads;
        no_index = answers.no_index;
        store_read = λ e. (answers.store_read e).0;
        named = answers.named;
        keeps_names = answers.keeps_names;
        settled = answers.settled;
        exact = answers.exact;
        used = c.step.ensures.disk;
      },
    )

pub returns-in-Err-Read-clause-cut : goal.returns-in-Err-Read-clause-cut
returns-in-Err-Read-clause-cut g c = λ other.
    let stops = rw c.in-Err-Read.field-0-is at c.in-Err-Read.ensures.stops in
    (stops.stopped.lines (λ e. cc), record { same = (stops.stopped.as_before (λ e. cc)).same; asked = stops.unwritten (λ e. cc); unread = stops.stopped.unread (λ e. cc) })

pub returns-in-Err-Read-clause-read : goal.returns-in-Err-Read-clause-read
returns-in-Err-Read-clause-read g c = λ e.
    let stops = rw c.in-Err-Read.field-0-is at c.in-Err-Read.ensures.stops in stops.stopped.read refl

pub returns-in-Err-Limit-clause-cut : goal.returns-in-Err-Limit-clause-cut
returns-in-Err-Limit-clause-cut g c = λ other.
    let stops = rw c.in-Err-Limit.field-0-is at c.in-Err-Limit.ensures.stops in
    (stops.stopped.lines (λ e. cc), record { same = (stops.stopped.as_before (λ e. cc)).same; asked = stops.unwritten (λ e. cc); unread = stops.stopped.unread (λ e. cc) })

pub returns-in-Err-Limit-clause-limit : goal.returns-in-Err-Limit-clause-limit
returns-in-Err-Limit-clause-limit g c = λ e.
    let stops = rw c.in-Err-Limit.field-0-is at c.in-Err-Limit.ensures.stops in stops.stopped.limit refl

pub returns-in-Err-Store-clause-broken : goal.returns-in-Err-Store-clause-broken
returns-in-Err-Store-clause-broken g c = λ e.
    let stops = rw c.in-Err-Store.field-0-is at c.in-Err-Store.ensures.stops in
    let cut = stops.stopped.store refl in
    (cut.0, cut.1, record { cut = cut.3; crash = cut.4; reads = stops.reads; cause = stops.stopped.store_cause refl; used = c.step.ensures.disk })
