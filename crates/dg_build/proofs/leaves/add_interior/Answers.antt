use Rattle.std.proofs.Common.{◌<◌, ◌++◌, [], List, map, refl, ap, sym, ◌∙◌, length, arith, append-nil}
use Rattle.std.proofs.lemmas.Result.{MatchResult-weaker, on_ok_weaker}
use Rattle.dg_graph.specs.declared.element.Element.{Element}
use Rattle.dg_graph.specs.Composition.{nothing}
use Rattle.dg_history.specs.declared.node.Key.{Key}
use Rattle.dg_build.proofs.InteriorDeltaHeights.{written_at}
use Rattle.dg_build.proofs.InteriorDeltaNodes.{differs_not}
use Rattle.dg_build.proofs.InteriorDeltaLeaves.{base_back, new_up_to, none_at_all, more_there}
use Rattle.dg_build.specs.GivenDeltas.{AreGivenBetween, Nodes, given_on, gone_back, taken_back}
use Rattle.dg_build.proofs.GivenDeltas.{none_added, none_given, such_fault}
use Rattle.dg_build.proofs.leaves.add_interior.Goals as goal

pub new_leaves-requires-clause-some : goal.new_leaves-requires-clause-some
new_leaves-requires-clause-some c = let lt : c.args.m < c.args.after = more_there c.args.params.k c.args.m c.args.after c.requires.arity c.if-m-k.false in omega (arith, lt)

pub new_leaves-requires-clause-first : goal.new_leaves-requires-clause-first
new_leaves-requires-clause-first c = c.requires.first (more_there c.args.params.k c.args.m c.args.after c.requires.arity c.if-m-k.false)

pub add_heights-requires-clause-some : goal.add_heights-requires-clause-some
add_heights-requires-clause-some c = more_there c.args.params.k c.args.m c.args.after c.requires.arity c.if-m-k.false

pub returns-then-m-k-clause-frame : goal.returns-then-m-k-clause-frame
returns-then-m-k-clause-frame c = differs_not c.args.segment.now

pub returns-then-m-k-clause-count : goal.returns-then-m-k-clause-count
returns-then-m-k-clause-count c =
    omega (arith, ap (λ (l : List Key). length l) (none_at_all c.args.params.k c.args.m c.args.after c.requires.arity c.if-m-k.true))

pub returns-then-m-k-clause-is : goal.returns-then-m-k-clause-is
returns-then-m-k-clause-is c before more some em is_recent is_tail is_now changes steps =
    sym (ap (λ (l : List Key). c.args.segment.now.deltas ++ map (written_at c.args.params (before ++ more)) l) (none_at_all c.args.params.k c.args.m c.args.after c.requires.arity c.if-m-k.true) ∙ append-nil c.args.segment.now.deltas)

pub returns-clause-is : goal.returns-clause-is
returns-clause-is c =
    on_ok_weaker c.add_heights.result
    (λ is before more some em is_recent is_tail is_now changes steps.
    let p = c.args.params in
    let lt : c.args.m < c.args.after = more_there p.k c.args.m c.args.after c.requires.arity c.if-m-k.false in
    let new = c.in_ok-fresh.ensures.is before more some is_tail changes in
    is before more some em (new_up_to p before more c.args.m c.args.after c.in_ok-fresh.fresh.up c.in_ok-fresh.fresh.steps.items em lt new) steps
    (λ top. base_back p before more c.args.recent.now c.args.after c.args.older_steps.now c.args.now.now c.in_ok-base.base some is_recent (is_now top) changes steps (c.in_ok-base.ensures.is top)))
    c.add_heights.ensures.is

pub returns-clause-fault : goal.returns-clause-fault
returns-clause-fault c =
    MatchResult-weaker c.add_heights.result c.add_heights.ensures.fault (λ _ none. none)
    (λ e is before more some em is_recent is_tail is_now changes steps few.
    let p = c.args.params in
    let lt : c.args.m < c.args.after = more_there p.k c.args.m c.args.after c.requires.arity c.if-m-k.false in
    let new = c.in_ok-fresh.ensures.is before more some is_tail changes in
    is before more some em (new_up_to p before more c.args.m c.args.after c.in_ok-fresh.fresh.up c.in_ok-fresh.fresh.steps.items em lt new) steps
    (λ top. base_back p before more c.args.recent.now c.args.after c.args.older_steps.now c.args.now.now c.in_ok-base.base some is_recent (is_now top) changes steps (c.in_ok-base.ensures.is top)) few)

pub returns-then-m-k-clause-given : goal.returns-then-m-k-clause-given
returns-then-m-k-clause-given c =
    let new : Nodes = record { up = nothing; steps = [] } in
    let base : List Element = gone_back c.args.older_steps.now (taken_back c.args.now.now c.args.recent.now) in
    record {
      deltas = [];
      are = record {
        new = new;
        new_leaves = λ lt. absurd (omega (arith, lt, c.if-m-k.true));
        base = base;
        base_is = λ _. refl;
        are = sym (none_given c.args.params c.args.after c.args.m c.args.after c.args.older_steps.now base new c.if-m-k.true);
      };
      added = none_added c.args.segment.now.deltas;
    }

pub returns-clause-given : goal.returns-clause-given
returns-clause-given c =
    let new : Nodes = record { up = c.in_ok-fresh.fresh.up; steps = c.in_ok-fresh.fresh.steps.items } in
    on_ok_weaker c.add_heights.result
    (λ added. record {
      deltas = given_on c.args.params c.args.after c.args.m c.args.after c.args.older_steps.now c.in_ok-base.base new;
      are = record {
        new = new;
        new_leaves = λ _. c.in_ok-fresh.ensures.given;
        base = c.in_ok-base.base;
        base_is = c.in_ok-base.ensures.back;
        are = refl;
      };
      added = added;
    })
    c.add_heights.ensures.given

pub returns-clause-first : goal.returns-clause-first
returns-clause-first c =
    let new : Nodes = record { up = c.in_ok-fresh.fresh.up; steps = c.in_ok-fresh.fresh.steps.items } in
    MatchResult-weaker c.add_heights.result c.add_heights.ensures.first (λ _ none. none)
    (λ e is. such_fault (AreGivenBetween c.args.params c.args.m c.args.after c.args.now.now c.args.recent.now (c.args.first_list.now ++ c.args.later.now) c.args.older_steps.now)
    (given_on c.args.params c.args.after c.args.m c.args.after c.args.older_steps.now c.in_ok-base.base new) (length c.args.segment.now.deltas) e
    (record {
      new = new;
      new_leaves = λ _. c.in_ok-fresh.ensures.given;
      base = c.in_ok-base.base;
      base_is = c.in_ok-base.ensures.back;
      are = refl;
    }) is)
