use Rattle.std.proofs.Common.{◌≡◌, ℕ, List, ◌+◌, ◌-◌, ◌*◌, ◌/◌, ◌≤◌, length, take, drop, sym, subst, ◌∙◌, arith, length-drop, length-take-le}
use Rattle.std.proofs.lemmas.Result.{err_from_is_err_and}
use Rattle.std.proofs.lemmas.List.{take_all}
use Rattle.dg_graph.specs.Composition.{Delta}
use Rattle.dg_index.specs.IndexRecords.{deltas_due}
use Rattle.dg_build.specs.InteriorDeltas.{deltas_added}
use Rattle.dg_build.proofs.OlderSteps.{half}
use Rattle.dg_build.proofs.StepsBack.{last_there, rest_there}
use Rattle.dg_build.proofs.InteriorDeltaHeights.{RisesSoFar, base_here, counts_first, counts_next, counts_within, counts_done, older_left, steps_here, rises_first, rises_next, rises_done}
use Rattle.dg_build.proofs.SpelledRecordDeltas.{below_more}
use Rattle.dg_build.proofs.InteriorDeltaNodes.{differs_not, differs_on}
use Rattle.dg_build.proofs.GivenDeltas.{heights_given_first, heights_given_on, heights_added, heights_fault}
use Rattle.dg_build.proofs.heights.add_heights.Goals as goal

pub overflow_sub-next-in-loop-q : goal.overflow_sub-next-in-loop-q
overflow_sub-next-in-loop-q c =
    let l = c.loop-q in
    let k : ℕ = c.args.params.k in
    let left : l.q - l.q / k * k ≤ l.at = older_left k c.args.m c.args.after l.q l.end l.at (length l.nodes.steps.items) (length c.args.segment.now.deltas) (length l.segment.deltas) c.requires.arity c.loop-q-test.true l.invariant.counts in
    omega (arith, left)

pub rise-requires-clause-older : goal.rise-requires-clause-older
rise-requires-clause-older c =
    let l = c.loop-q in
    let k : ℕ = c.args.params.k in
    let older : List Delta = c.args.older_steps.now in
    let n : ℕ = l.q - l.q / k * k in
    let few : n ≤ l.at = older_left k c.args.m c.args.after l.q l.end l.at (length l.nodes.steps.items) (length c.args.segment.now.deltas) (length l.segment.deltas) c.requires.arity c.loop-q-test.true l.invariant.counts in
    let there : l.at - (l.at - n) ≤ length (drop (l.at - n) older) = omega (arith, length-drop (l.at - n) older, l.invariant.within) in
    length-take-le (l.at - (l.at - n)) (drop (l.at - n) older) there ∙ (let e : l.at - (l.at - n) ≡ n = omega (arith, few) in e)

pub loop-q-smaller : goal.loop-q-smaller
loop-q-smaller c = let k : ℕ = c.args.params.k in omega (arith, half c.loop-q.end k c.requires.arity, c.loop-q-test.true)

pub loop-q-init : goal.loop-q-init
loop-q-init c =
    let older : List Delta = c.args.older_steps.now in
    let all : take (length older) older ≡ older = take_all (length older) older (omega arith) in
    record {
      within = omega arith;
      frame = differs_not c.args.segment.now;
      counts = counts_first c.args.params.k c.args.m c.args.after (length older) (length c.args.new_leaves.steps.items) (length c.args.segment.now.deltas) c.requires.some c.requires.long c.requires.older;
      is = λ before more some em nodes steps base. rises_first c.args.params before more c.args.m c.args.after older (take (length older) older) c.args.base.now c.args.new_leaves.up c.args.new_leaves.steps.items c.args.segment.now c.requires.some em nodes steps base all;
      given = heights_given_first c.args.params c.args.m c.args.after older (take (length older) older) c.args.base.now (record { up = c.args.new_leaves.up; steps = c.args.new_leaves.steps.items }) c.args.segment.now.deltas all;
    }

pub loop-q-preserved : goal.loop-q-preserved
loop-q-preserved c =
    let l = c.loop-q in
    let p = c.args.params in
    let e = c.in_ok-nodes.ensures in
    let older : List Delta = c.args.older_steps.now in
    let n : ℕ = l.q - l.q / p.k * p.k in
    let few : n ≤ l.at = older_left p.k c.args.m c.args.after l.q l.end l.at (length l.nodes.steps.items) (length c.args.segment.now.deltas) (length l.segment.deltas) c.requires.arity c.loop-q-test.true l.invariant.counts in
    let here = last_there older l.at n l.invariant.within few in
    let rest = rest_there older l.at n l.invariant.within few in
    record {
      within = omega (arith, l.invariant.within);
      frame = differs_on c.args.segment.now l.segment c.rise.new.segment l.invariant.frame e.frame;
      counts = counts_next p.k c.args.m c.args.after l.q l.end l.at (length l.nodes.steps.items) (length c.args.segment.now.deltas) (length l.segment.deltas) (length c.in_ok-nodes.nodes.steps.items) (length c.rise.new.segment.deltas)
          c.requires.arity c.loop-q-test.true l.invariant.counts e.long e.adds;
      is = λ before more some em nodes steps base.
          let so = l.invariant.is before more some em nodes steps base in
          let there = steps_here p before more c.args.m c.args.after l.q l.end (take l.at older) c.args.base.now l.nodes.up l.nodes.steps.items c.args.segment.now l.segment some em c.requires.arity c.loop-q-test.true so in
          let base_is = base_here p before more c.args.m c.args.after l.q l.end (take l.at older) c.args.base.now l.nodes.up l.nodes.steps.items c.args.segment.now l.segment some em c.requires.arity c.loop-q-test.true so in
          subst (λ (left : List Delta). RisesSoFar p before more c.args.m c.args.after (l.q / p.k) (l.end / p.k) left c.args.base.now c.in_ok-nodes.nodes.up c.in_ok-nodes.nodes.steps.items c.args.segment.now c.rise.new.segment) (sym rest)
          (rises_next p before more c.args.m c.args.after l.q l.end (take l.at older) c.args.base.now l.nodes.up l.nodes.steps.items c.args.segment.now l.segment some em c.requires.arity c.loop-q-test.true so
          c.in_ok-nodes.nodes.up c.in_ok-nodes.nodes.steps.items c.rise.new.segment (e.is _ so.h so.start so.nodes (here ∙ there) base_is));
      given = heights_given_on p c.args.m c.args.after l.q l.end older (take l.at older) c.args.base.now (record { up = c.args.new_leaves.up; steps = c.args.new_leaves.steps.items }) (record { up = l.nodes.up; steps = l.nodes.steps.items }) c.args.segment.now.deltas l.segment.deltas l.invariant.given
          (take (l.at - (l.at - n)) (drop (l.at - n) older)) (take (l.at - n) older) (record { up = c.in_ok-nodes.nodes.up; steps = c.in_ok-nodes.nodes.steps.items }) c.rise.new.segment.deltas here rest c.requires.arity c.loop-q-test.true e.up e.given;
    }

pub returns-clause-count : goal.returns-clause-count
returns-clause-count c =
    let l = c.loop-q in
    counts_done c.args.params.k c.args.m c.args.after l.q l.end l.at (length l.nodes.steps.items) (length c.args.segment.now.deltas) (length l.segment.deltas) c.requires.arity c.loop-q-test.false l.invariant.counts

pub returns-clause-is : goal.returns-clause-is
returns-clause-is c before more some em nodes steps base =
    let l = c.loop-q in
    rises_done c.args.params before more c.args.m c.args.after l.q l.end (take l.at c.args.older_steps.now) c.args.base.now l.nodes.up l.nodes.steps.items c.args.segment.now l.segment c.requires.arity c.loop-q-test.false (l.invariant.is before more some em nodes steps base)

pub returns-in_err-nodes-clause-fault : goal.returns-in_err-nodes-clause-fault
returns-in_err-nodes-clause-fault c =
    let failed = err_from_is_err_and c.from_residual.result c.from_residual.ensures.1 in
    rw (failed.1, failed.2) (λ before more some em nodes steps base few.
    let l = c.loop-q in
    let p = c.args.params in
    let older : List Delta = c.args.older_steps.now in
    let n : ℕ = l.q - l.q / p.k * p.k in
    let left : n ≤ l.at = older_left p.k c.args.m c.args.after l.q l.end l.at (length l.nodes.steps.items) (length c.args.segment.now.deltas) (length l.segment.deltas) c.requires.arity c.loop-q-test.true l.invariant.counts in
    let so = l.invariant.is before more some em nodes steps base in
    let there = steps_here p before more c.args.m c.args.after l.q l.end (take l.at older) c.args.base.now l.nodes.up l.nodes.steps.items c.args.segment.now l.segment some em c.requires.arity c.loop-q-test.true so in
    let base_is = base_here p before more c.args.m c.args.after l.q l.end (take l.at older) c.args.base.now l.nodes.up l.nodes.steps.items c.args.segment.now l.segment some em c.requires.arity c.loop-q-test.true so in
    c.in_err-nodes.ensures.fault _ so.h so.start so.nodes (last_there older l.at n l.invariant.within left ∙ there) base_is few)

pub returns-in_err-nodes-clause-wide : goal.returns-in_err-nodes-clause-wide
returns-in_err-nodes-clause-wide c =
    let failed = err_from_is_err_and c.from_residual.result c.from_residual.ensures.1 in
    let l = c.loop-q in
    let k : ℕ = c.args.params.k in
    rw (failed.1, failed.2)
    (below_more (length l.segment.deltas + deltas_added k (l.q / k) (l.end / k)) (length c.args.segment.now.deltas + length (deltas_due k c.args.m c.args.after)) c.in_err-nodes.field-0.0
    (counts_within k c.args.m c.args.after l.q l.end l.at (length l.nodes.steps.items) (length c.args.segment.now.deltas) (length l.segment.deltas) c.loop-q-test.true l.invariant.counts)
    c.in_err-nodes.ensures.wide)

pub returns-clause-given : goal.returns-clause-given
returns-clause-given c =
    let l = c.loop-q in
    heights_added c.args.params c.args.m c.args.after l.q l.end c.args.older_steps.now (take l.at c.args.older_steps.now) c.args.base.now (record { up = c.args.new_leaves.up; steps = c.args.new_leaves.steps.items }) (record { up = l.nodes.up; steps = l.nodes.steps.items }) c.args.segment.now.deltas l.segment.deltas l.invariant.given c.loop-q-test.false

pub returns-in_err-nodes-clause-first : goal.returns-in_err-nodes-clause-first
returns-in_err-nodes-clause-first c =
    let failed = err_from_is_err_and c.from_residual.result c.from_residual.ensures.1 in
    let l = c.loop-q in
    let p = c.args.params in
    let older : List Delta = c.args.older_steps.now in
    let n : ℕ = l.q - l.q / p.k * p.k in
    let few : n ≤ l.at = older_left p.k c.args.m c.args.after l.q l.end l.at (length l.nodes.steps.items) (length c.args.segment.now.deltas) (length l.segment.deltas) c.requires.arity c.loop-q-test.true l.invariant.counts in
    rw (failed.1, failed.2)
    (heights_fault p c.args.m c.args.after l.q l.end older (take l.at older) c.args.base.now (record { up = c.args.new_leaves.up; steps = c.args.new_leaves.steps.items }) (record { up = l.nodes.up; steps = l.nodes.steps.items }) c.args.segment.now.deltas l.segment.deltas l.invariant.given
    (take (l.at - (l.at - n)) (drop (l.at - n) older)) (take (l.at - n) older) c.in_err-nodes.field-0.0 (last_there older l.at n l.invariant.within few) (rest_there older l.at n l.invariant.within few) c.requires.arity c.loop-q-test.true c.in_err-nodes.ensures.first)
