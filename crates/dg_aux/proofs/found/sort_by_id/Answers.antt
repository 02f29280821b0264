use Rattle.std.proofs.Common.{rules}
use Rattle.std.proofs.lemmas.Result.{on_ok_weaker}
use Rattle.std.proofs.lemmas.List.Sorted.{answers_always, IsNonDecreasingBy-from_sort_by_key}
use Rattle.dg_aux.specs.declared.turns.Turn.{Turn}
use Rattle.dg_aux.proofs.Told.{still_told}
use Rattle.dg_aux.proofs.found.sort_by_id.Goals as goal

pub returns-clause-rises : goal.returns-clause-rises
returns-clause-rises c =
    on_ok_weaker c.sort_by_key.result (λ sorted. IsNonDecreasingBy-from_sort_by_key (λ (turn : Turn). turn.id) _ sorted (λ a r q k. search rules)) c.sort_by_key.ensures.sorted

pub returns-clause-stays : goal.returns-clause-stays
returns-clause-stays c = λ i.
    still_told c.args.turns.now.items c.sort_by_key.new.self.items i (c.sort_by_key.ensures.stable (λ (turn : Turn). turn.id) (answers_always _ _ _ (λ f a r q k. search rules)))
