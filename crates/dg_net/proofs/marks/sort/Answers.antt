use Rattle.std.proofs.Common.{rules}
use Rattle.std.proofs.lemmas.Result.{on_ok_weaker}
use Rattle.std.proofs.lemmas.List.Sorted.{answers_always}
use Rattle.dg_net.specs.EventMarks.{earlier}
use Rattle.dg_net.proofs.EventMarks.{earlier_ranks}
use Rattle.dg_net.proofs.marks.sort.Goals as goal

pub returns-clause-sorted : goal.returns-clause-sorted
returns-clause-sorted c =
    on_ok_weaker c.sort_by.result (λ f. f earlier earlier_ranks (answers_always _ _ _ (λ f a r q k. search rules))) c.sort_by.ensures.sorted

pub returns-clause-stable : goal.returns-clause-stable
returns-clause-stable c = c.sort_by.ensures.stable earlier earlier_ranks (answers_always _ _ _ (λ f a r q k. search rules))
