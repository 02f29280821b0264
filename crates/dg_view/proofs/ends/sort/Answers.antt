use Rattle.std.proofs.Common.{rules}
use Rattle.std.proofs.lemmas.Result.{on_ok_weaker}
use Rattle.std.proofs.lemmas.List.Sorted.{answers_always, IsNonDecreasingBy-from_sort_by_key}
use Rattle.dg_view.specs.declared.ends.EdgeEnd.{EdgeEnd}
use Rattle.dg_view.proofs.EdgeEnds.{still_at}
use Rattle.dg_view.proofs.ends.sort.Goals as goal

pub returns-clause-rises : goal.returns-clause-rises
returns-clause-rises c =
    on_ok_weaker c.sort_by_key.result (λ sorted. IsNonDecreasingBy-from_sort_by_key (λ (end : EdgeEnd). end.node) _ sorted (λ a r q k. search rules)) c.sort_by_key.ensures.sorted

pub returns-clause-stays : goal.returns-clause-stays
returns-clause-stays c = λ n.
    still_at c.args.ends.now.items c.sort_by_key.new.self.items n (c.sort_by_key.ensures.stable (λ (end : EdgeEnd). end.node) (answers_always _ _ _ (λ f a r q k. search rules)))
