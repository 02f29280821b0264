use Rattle.std.proofs.Common.{◌++◌, ◌∙◌, ◌∷◌, [], ap, arith, rules}
use Rattle.dg_append.proofs.OlderChildSteps.{all_steps, one_step}
use Rattle.dg_append.proofs.older_sets.steps_between.Goals as goal
use Rattle.dg_append.specs.OlderChildSteps.{set_among}
use Rattle.dg_graph.specs.Composition.{Delta}

pub loop-i-preserved : goal.loop-i-preserved
loop-i-preserved c = record {
  count = search rules;
  is = one_step (set_among c.args.nodes.now c.args.sets.now c.args.end.now) c.args.in_time.now c.loop-i.i _ c.args.end.now c.set_of_node-from.result.now c.next_set-to.result.now c.loop-i.steps.items _ _ (omega (arith, c.loop-i-test.true))
      (c.in_ok-push.ensures.items ∙ ap (λ (d : Delta). c.loop-i.steps.items ++ d ∷ []) c.in_ok-step.ensures)
      c.set_of_node-from.ensures c.next_set-to.ensures c.loop-i.invariant.is;
}

pub returns-clause-steps : goal.returns-clause-steps
returns-clause-steps c =
    all_steps (set_among c.args.nodes.now c.args.sets.now c.args.end.now) c.args.in_time.now c.loop-i.i c.args.end.now c.loop-i.steps.items _ (omega (arith, c.loop-i-test.false)) c.loop-i.invariant.is
