use Rattle.std.proofs.Common.{◌≡◌, IfOk, OnOk, map, subst, ◌∙◌}
use Rattle.std.specs.List.{All}
use Rattle.std.proofs.lemmas.Result.{IfOk-weaker}
use Rattle.dg_graph.specs.DifferentialFunction.{all_of}
use Rattle.dg_graph.specs.Elements.{IsSet}
use Rattle.dg_graph.specs.Sets.{unioned}
use Rattle.dg_gather.specs.Gathered.{shown_by}
use Rattle.dg_gather.proofs.Unions.{on_ok, sets_both, union_both}
use Rattle.dg_gather.proofs.union.+compose_parts+fn-compose_parts-join+arg2+fn-compose_parts-join+arg3.Goals as goal

pub returns-clause-value : goal.returns-clause-value
returns-clause-value g t c =
    let left = c.split_at.result.0.now in
    let right = c.split_at.result.1.now in
    let first = subst (λ r. IfOk r (λ set. set ≡ all_of (map shown_by left))) c.in_ok-first.was c.join-first.ensures.first.0 in
    let then = subst (λ r. IfOk r (λ set. set ≡ all_of (map shown_by right))) c.in_ok-then.was c.join-first.ensures.second.0 in
    let firsts = subst (λ r. OnOk r (All IsSet (map shown_by left))) c.in_ok-first.was c.join-first.ensures.first.1 in
    let thens = subst (λ r. OnOk r (All IsSet (map shown_by right))) c.in_ok-then.was c.join-first.ensures.second.1 in
    IfOk-weaker c.union.result _ _
    (λ set is. is ∙ (λ i. unioned (first i) (then i)) ∙ union_both shown_by c.args.parts.now left right c.split_at.ensures.by_index.0 firsts thens)
    c.union.ensures.value

pub returns-clause-sets : goal.returns-clause-sets
returns-clause-sets g t c =
    let left = c.split_at.result.0.now in
    let right = c.split_at.result.1.now in
    let firsts = subst (λ r. OnOk r (All IsSet (map shown_by left))) c.in_ok-first.was c.join-first.ensures.first.1 in
    let thens = subst (λ r. OnOk r (All IsSet (map shown_by right))) c.in_ok-then.was c.join-first.ensures.second.1 in
    on_ok _ c.union.result (sets_both shown_by c.args.parts.now left right c.split_at.ensures.by_index.0 firsts thens)
