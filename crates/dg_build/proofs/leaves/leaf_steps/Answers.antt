use Rattle.std.proofs.Common.{◌≡◌, ℕ, ◌+◌, ◌-◌, ◌*◌, ◌≤◌, ◌<◌, ◌++◌, ◌∷◌, [], List, take, drop, ap, sym, subst, ◌∙◌, length, length-append, arith}
use Rattle.dg_graph.specs.declared.event.Event.{Event}
use Rattle.dg_graph.specs.Composition.{Delta}
use Rattle.dg_index.specs.Hierarchy.{leaves}
use Rattle.dg_index.specs.ExactSteps.{steps_at}
use Rattle.dg_build.specs.GivenDeltas.{IsExactNet}
use Rattle.dg_build.proofs.FirstList.{list_within}
use Rattle.dg_build.proofs.GivenDeltas.{nets_on}
use Rattle.dg_build.proofs.InteriorDeltaLeaves.{steps_next}
use Rattle.dg_build.proofs.leaves.leaf_steps.Goals as goal

pub loop-i-preserved : goal.loop-i-preserved
loop-i-preserved c =
    let i : ℕ = c.loop-i.i in
    let tail : List Event = c.args.first_list.now ++ c.args.later.now in
    record {
      long = omega (arith, ap (λ (l : List Delta). length l) c.in_ok-push.ensures.items, length-append c.loop-i.steps.items (c.in_ok-exact_net.field-0 ∷ []), c.loop-i.invariant.long);
      is = λ before more some is_tail changes.
          steps_next c.args.params before more i tail c.list_at.result.now c.in_ok-exact_net.field-0 c.loop-i.steps.items c.push.new.self.items some (let far : 1 ≤ i = omega arith in far) is_tail changes
          c.list_at.ensures c.in_ok-exact_net.ensures c.in_ok-push.ensures.items (c.loop-i.invariant.is before more some is_tail changes);
      nets = nets_on (λ (j : ℕ) (d : Delta). IsExactNet (take c.args.params.l (drop ((j + 1) * c.args.params.l) tail)) d) c.loop-i.steps.items c.push.new.self.items c.in_ok-exact_net.field-0 c.in_ok-push.ensures.items
          (subst (λ (cut : List Event). IsExactNet cut c.in_ok-exact_net.field-0) (c.list_at.ensures ∙ ap (λ n. take c.args.params.l (drop (n * c.args.params.l) tail)) (sym c.loop-i.invariant.long)) c.in_ok-exact_net.ensures) c.loop-i.invariant.nets;
    }

pub list_at-requires-clause-there : goal.list_at-requires-clause-there
list_at-requires-clause-there c =
    list_within c.args.params.l c.args.count c.loop-i.i (length c.args.first_list.now) (length c.args.later.now) (let below : c.loop-i.i < c.args.count = omega arith in below) c.requires.first c.requires.long

pub returns-clause-is : goal.returns-clause-is
returns-clause-is c before more some is_tail changes =
    let p = c.args.params in
    let end : c.loop-i.i ≡ c.args.count = omega arith in
    (c.loop-i.invariant.is before more some is_tail changes).are ∙ ap (λ n. steps_at p (before ++ more) 0 (leaves p (length before) + 1) (n - 1)) end
