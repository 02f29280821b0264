use Rattle.std.proofs.lemmas.Result.{on_ok_weaker}
use Rattle.dg_delta.specs.Stacks.{stacked}
use Rattle.dg_fold.proofs.PartStacks.{columns_stand}
use Rattle.dg_fold.proofs.column.push_exact.Goals as goal

pub returns-clause-ok : goal.returns-clause-ok
returns-clause-ok c =
    on_ok_weaker c.push_column-3.result
    (columns_stand c.args.name_count c.args.part.now (stacked c.args.stack.now) (stacked c.push_column.new.stack) (stacked c.push_column-2.new.stack) (stacked c.push_column-3.new.stack)
    c.in_ok-push_column.ensures.ok c.in_ok-push_column-2.ensures.ok)
    c.push_column-3.ensures.ok
