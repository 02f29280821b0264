use Rattle.std.proofs.Common.{◌≡◌, IfOk, ◌∷◌, [], length, map, subst}
use Rattle.std.proofs.lemmas.Result.{err_from_is_err_and, MatchResult-weaker}
use Rattle.dg_graph.specs.Composition.{Delta, chained, reversed}
use Rattle.dg_build.proofs.InteriorDeltaWays.{last_down}
use Rattle.dg_build.proofs.SpelledRecordDeltas.{first_fault, later_fault, later_narrow}
use Rattle.dg_build.proofs.InteriorDeltaNodes.{deltas_length}
use Rattle.dg_build.proofs.family.add_downs.Goals as goal

pub returns-in_err-add_delta-clause-fault : goal.returns-in_err-add_delta-clause-fault
returns-in_err-add_delta-clause-fault c =
    let failed = err_from_is_err_and c.from_residual.result c.from_residual.ensures.1 in
    rw (failed.1, failed.2)
    (first_fault (length c.args.segment.now.deltas) c.args.inner c.reverse-to_first.result c.args.ways.items c.in_err-add_delta.field-0.0 c.reverse-to_first.ensures (c.in_err-add_delta.ensures.fault (map (λ (d : Delta). chained (reversed c.args.inner) d) c.args.ways.items)))

pub returns-clause-last : goal.returns-clause-last
returns-clause-last c =
    subst (λ (d : Delta). IfOk c.add_others.result (λ last. last ≡ d)) (last_down c.args.inner c.reverse-to_first.result c.args.ways.items c.reverse-to_first.ensures c.requires) c.add_others.ensures.last

pub returns-clause-narrow : goal.returns-clause-narrow
returns-clause-narrow c =
    MatchResult-weaker c.add_others.result c.add_others.ensures.narrow
    (λ _ none. later_narrow (length c.args.segment.now.deltas) (length c.add_delta.new.segment.deltas) c.args.inner c.reverse-to_first.result c.args.ways.items c.reverse-to_first.ensures c.in_ok-add_delta.ensures.narrow
    (deltas_length c.args.segment.now c.add_delta.new.segment (c.reverse-to_first.result ∷ []) c.in_ok-add_delta.ensures.ok) none) (λ _ none. none)

pub returns-clause-fault : goal.returns-clause-fault
returns-clause-fault c =
    MatchResult-weaker c.add_others.result c.add_others.ensures.fault (λ _ none. none)
    (λ e is. later_fault (length c.args.segment.now.deltas) (length c.add_delta.new.segment.deltas) c.args.inner c.reverse-to_first.result c.args.ways.items e c.reverse-to_first.ensures c.in_ok-add_delta.ensures.narrow
    (deltas_length c.args.segment.now c.add_delta.new.segment (c.reverse-to_first.result ∷ []) c.in_ok-add_delta.ensures.ok) is)
