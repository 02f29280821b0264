use Rattle.std.proofs.Common.{rules}
use Rattle.std.proofs.lemmas.Result.{on_ok_weaker}
use Rattle.std.proofs.lemmas.List.Sorted.{answers_always}
use Rattle.dg_aux.specs.Turns.{earlier}
use Rattle.dg_aux.proofs.Sorted.{earlier_ranks, sorted_alike}
use Rattle.dg_aux.proofs.turns.sort.Goals as goal

pub returns-clause-sorted : goal.returns-clause-sorted
returns-clause-sorted c =
    on_ok_weaker c.sort_by.result (λ f. f earlier earlier_ranks (answers_always _ _ _ (λ f a r q k. search rules))) c.sort_by.ensures.sorted

pub returns-clause-alike : goal.returns-clause-alike
returns-clause-alike c =
    sorted_alike c.args.turns.now.items c.sort_by.new.self.items c.sort_by.ensures.permutation
    (c.sort_by.ensures.stable earlier earlier_ranks (answers_always _ _ _ (λ f a r q k. search rules)))
