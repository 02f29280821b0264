use Rattle.std.proofs.Common.{◌≡◌, ℕ, ◌+◌, ◌-◌, ◌++◌, ap, sym, subst, ◌∙◌, length, List, arith}
use Rattle.std.proofs.lemmas.List.{take_at}
use Rattle.dg_graph.specs.declared.event.Event.{Event}
use Rattle.dg_index.specs.Hierarchy.{leaves}
use Rattle.dg_index.specs.ExactSteps.{steps_at}
use Rattle.dg_index.proofs.HierarchySteps.{IsSet-node}
use Rattle.dg_build.specs.GivenDeltas.{IsExactNet}
use Rattle.dg_build.proofs.InteriorDeltaLeaves.{leaf_first}
use Rattle.dg_build.proofs.leaves.new_leaves.Goals as goal

pub returns-clause-is : goal.returns-clause-is
returns-clause-is c before more some is_tail changes =
    let p = c.args.params in
    let m : ℕ = leaves p (length before) in
    record {
      start_is = IsSet-node p (before ++ more) 0 m;
      up_is = leaf_first p before more (c.args.first_list.now ++ c.args.later.now) c.args.first_list.now c.in_ok-up.up some is_tail changes
          (sym (take_at c.args.first_list.now c.args.later.now p.l c.requires.first)) c.in_ok-up.ensures;
      steps_are = c.in_ok-steps.ensures.is before more some is_tail changes ∙ ap (steps_at p (before ++ more) 0 (m + 1)) (let e : c.args.count - 1 ≡ m + c.args.count - m - 1 = omega arith in e);
    }

pub returns-clause-given : goal.returns-clause-given
returns-clause-given c = record {
  first = subst (λ (list : List Event). IsExactNet list c.in_ok-up.up) (sym (take_at c.args.first_list.now c.args.later.now c.args.params.l c.requires.first)) c.in_ok-up.ensures;
  long = c.in_ok-steps.ensures.long;
  steps = c.in_ok-steps.ensures.nets;
}
