use Rattle.std.proofs.Common.{◌≤◌, ◌⊎◌, inl, inr, length, ap, ◌++◌, ◌∙◌, arith}
use Rattle.std.proofs.lemmas.List.{take_rest}
use Rattle.dg_graph.specs.declared.element.Element.TheVariants.{Node}
use Rattle.dg_set.proofs.SetMerges.{IsSet-rest, length_rest}
use Rattle.dg_set.proofs.SetReplacements.{step_gained, step_lost, step_passed, written_gained, written_front, replaced_done}
use Rattle.dg_set.proofs.replace.replaced.Goals as goal
use Rattle.dg_set.proofs.replace.replaced.Goals.{else-loop-i-test, then-loop-i-test+else-idle-eq-FEW+in-End}

pub pass_before-requires-clause-gained : goal.pass_before-requires-clause-gained
pass_before-requires-clause-gained c = IsSet-rest c.loop-i.j c.args.gained.now c.requires.gained

pub pass_before-requires-clause-lost : goal.pass_before-requires-clause-lost
pass_before-requires-clause-lost c = IsSet-rest c.loop-i.k c.args.lost.now c.requires.lost

pub keep_before-requires-clause-set : goal.keep_before-requires-clause-set
keep_before-requires-clause-set c = IsSet-rest c.loop-i.i c.args.set.now c.requires.set

pub keep_before-requires-in-Loss-clause-set : goal.keep_before-requires-in-Loss-clause-set
keep_before-requires-in-Loss-clause-set c = IsSet-rest c.loop-i.i c.args.set.now c.requires.set

pub loop-i-preserved-then-idle-eq-FEW : goal.loop-i-preserved-then-idle-eq-FEW
loop-i-preserved-then-idle-eq-FEW c =
    let set = c.args.set.now in
    let lost = c.args.lost.now in
    let gained = c.args.gained.now in
    let i = c.loop-i.i in
    let j = c.loop-i.j in
    let k = c.loop-i.k in
    let made = c.in_ok-gains.ensures in
    let added = rw (take_rest gained j) at made.added in
    let gains = rw (take_rest gained j) at made.gained in
    let losses = rw (take_rest lost k) at made.lost in
    let next = step_passed set lost gained i j k c.in_ok-gains.gains c.in_ok-gains.losses (Node 0) c.requires.set c.requires.gained c.loop-i-test.true gains losses in
    record {
      merged = written_front _ _ _ _ _ _ added c.loop-i.invariant.merged next;
      set_in = omega arith;
      gained_in = omega (arith, length_rest gained j, made.within.0);
      lost_in = omega (arith, length_rest lost k, made.within.1);
      room = omega (arith, length_rest gained j, made.within.0, made.long, made.capacity);
      idle = omega arith;
    }

pub loop-i-preserved-in-Gain : goal.loop-i-preserved-in-Gain
loop-i-preserved-in-Gain c =
    let set = c.args.set.now in
    let lost = c.args.lost.now in
    let gained = c.args.gained.now in
    let i = c.loop-i.i in
    let j = c.loop-i.j in
    let k = c.loop-i.k in
    let taken = c.in_ok-taken-in-Gain.taken in
    let made = c.in_ok-taken-in-Gain.ensures in
    let rest = rw (take_rest set i) at made.rest in
    let kept = rw (take_rest set i) at made.kept in
    let next = step_gained set lost gained i j k taken (Node 0) c.requires.set c.requires.lost c.requires.gained c.in-Gain.ensures.0 (c.in-Gain.ensures.1 (Node 0)) rest in
    record {
      merged = written_gained _ _ _ _ _ _ _ _ kept c.push_reserved.ensures.items c.loop-i.invariant.merged next;
      set_in = omega (arith, length_rest set i, made.within);
      gained_in = omega (arith, c.in-Gain.ensures.0);
      lost_in = omega arith;
      room = omega (arith, length_rest set i, made.within, made.long, made.capacity, c.in-Gain.ensures.0);
      idle = omega arith;
    }

pub loop-i-preserved : goal.loop-i-preserved
loop-i-preserved c =
    let set = c.args.set.now in
    let lost = c.args.lost.now in
    let gained = c.args.gained.now in
    let i = c.loop-i.i in
    let j = c.loop-i.j in
    let k = c.loop-i.k in
    let taken = c.in_ok-taken-in-Loss.taken in
    let made = c.in_ok-taken-in-Loss.ensures in
    let rest = rw (take_rest set i) at made.rest in
    let kept = rw (take_rest set i) at made.kept in
    let next = step_lost set lost gained i j k taken (Node 0) c.requires.set c.requires.lost c.requires.gained c.in-Loss.ensures.0 (c.in-Loss.ensures.1 (Node 0)) rest in
    record {
      merged = written_front _ _ _ _ _ _ kept c.loop-i.invariant.merged next;
      set_in = omega (arith, length_rest set i, made.within);
      gained_in = omega arith;
      lost_in = omega (arith, c.in-Loss.ensures.0);
      room = omega (arith, length_rest set i, made.within, made.long, made.capacity);
      idle = omega arith;
    }

pub returns : goal.returns
returns c =
    let set = c.args.set.now in
    let lost = c.args.lost.now in
    let gained = c.args.gained.now in
    let i = c.loop-i.i in
    let j = c.loop-i.j in
    let k = c.loop-i.k in
    let written = c.loop-i.out.items in
    let ended : (length set ≤ i) ⊎ ((length gained ≤ j) × (length lost ≤ k)) =
    elim c.loop-i-test.branch [ else-loop-i-test w ↦ inl w.loop-i-test.false | then-loop-i-test+else-idle-eq-FEW+in-End w ↦ inr w.in-End.ensures ] in
    c.in_ok-extend_from_slice-2.ensures.items
    ∙ (λ t. (c.in_ok-extend_from_slice.ensures.items ∙ ap (λ l. written ++ l) (take_rest set i)) t ++ take_rest gained j t)
    ∙ replaced_done set lost gained written _ i j k c.requires.gained c.loop-i.invariant.merged ended
