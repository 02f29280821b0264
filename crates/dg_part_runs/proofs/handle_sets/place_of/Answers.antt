use Rattle.std.proofs.Common.{ap, below_more, sym, ◌∙◌}
use Rattle.std.proofs.lemmas.List.{get_or-map}
use Rattle.dg_part_runs.specs.declared.handle_sets.HeldSet.{HeldSet}
use Rattle.dg_part_runs.proofs.handle_sets.place_of.Goals as goal

pub loop-place-preserved : goal.loop-place-preserved
loop-place-preserved c =
    below_more _ _ c.loop-place.invariant
    (λ is. c.if-entry-handle.false (ap (λ (e : HeldSet). e.handle) c.index-held-place.is
    ∙ sym (get_or-map (λ (e : HeldSet). e.handle) c.args.held.now c.loop-place.place c.index-held-place.result 0 c.loop-place-test.true) ∙ is))
