use Rattle.std.proofs.Common.{[], length, ◌∙◌, sym}
use borrow.Author.Tests.{eqb-true}
use Rattle.dg_current.specs.Now.{earliest_time_after}
use Rattle.dg_append.proofs.FrontRefusals.{none_completed}
use Rattle.dg_append.proofs.completion.refusal_of_front.Goals as goal

pub returns-then-is_empty-clause-done : goal.returns-then-is_empty-clause-done
returns-then-is_empty-clause-done c =
    ([], none_completed 1 (earliest_time_after c.args.last) c.args.now.now.graph c.args.changes.now (eqb-true (length c.args.changes.now) 0 (sym c.is_empty.ensures ∙ c.if-is_empty.true)))
