use Rattle.std.proofs.Common.{◌≡◌, ℕ, ◌+◌, ◌-◌, ◌*◌, ◌<◌, ◌≤◌, ◌∷◌, [], List, length, sym, ap, subst, ◌∙◌, arith, add-mul, length-append}
use Rattle.std.proofs.lemmas.Result.{err_from_is_err_and}
use Rattle.dg_graph.specs.Composition.{Delta}
use Rattle.dg_build.specs.InteriorDeltas.{AreMade}
use Rattle.dg_build.proofs.SpelledRecordDeltas.{below_more}
use Rattle.dg_build.proofs.InteriorDeltaNodes.{differs_not, differs_on}
use Rattle.dg_build.proofs.InteriorDeltaGroups.{NodesSoFar, nodes_first, nodes_more, so_many, row_left, row_after}
use Rattle.dg_build.proofs.GivenDeltas.{nodes_given_first, nodes_given_on, nodes_up, nodes_added, nodes_fault}
use Rattle.dg_build.proofs.climb.later_nodes.Goals as goal

pub loop-alloc-init : goal.loop-alloc-init
loop-alloc-init c =
    let none : length c.in_ok-steps.steps.items ≡ 0 = ap (λ (l : List Delta). length l) c.in_ok-steps.ensures.items in
    record {
      within = omega (arith, none);
      row = c.requires.long ∙ ap (λ n. n * c.args.params.k) (let e : c.args.more ≡ c.args.more - length c.in_ok-steps.steps.items = omega (arith, none) in e);
      frame = differs_not c.args.segment.now;
      adds = (let e : length c.args.segment.now.deltas ≡ length c.args.segment.now.deltas + 0 * c.args.params.k = omega arith in e) ∙ ap (λ n. length c.args.segment.now.deltas + n * c.args.params.k) (let e : 0 ≡ length c.in_ok-steps.steps.items = omega (arith, none) in e);
      is = λ events h j behind.
          subst (λ n. NodesSoFar c.args.params events h j c.args.more n c.in_ok-steps.steps.items c.args.last c.args.row.items c.args.segment.now c.args.segment.now) (sym none)
          (nodes_first c.args.params events h j c.args.more c.in_ok-steps.steps.items c.args.last c.args.row.items c.args.segment.now c.in_ok-steps.ensures.items behind);
      given = nodes_given_first c.args.params c.args.more c.args.last c.args.row.items c.in_ok-steps.steps.items c.args.segment.now.deltas c.in_ok-steps.ensures.items;
    }

pub next_node-requires-clause-there : goal.next_node-requires-clause-there
next_node-requires-clause-there c =
    row_left c.args.params.k c.args.more (length c.loop-alloc.steps.items) (length c.loop-alloc.row.items) (let lt : length c.loop-alloc.steps.items < c.args.more = omega (arith, c.loop-alloc-test.true) in lt) c.loop-alloc.invariant.row

pub loop-alloc-preserved : goal.loop-alloc-preserved
loop-alloc-preserved c =
    let l = c.loop-alloc in
    let p = c.args.params in
    let e = c.in_ok-step.ensures in
    let i : ℕ = length l.steps.items in
    let lt : i < c.args.more = omega (arith, c.loop-alloc-test.true) in
    let more : length c.push.new.self.items ≡ i + 1 = ap (λ (l : List Delta). length l) c.in_ok-push.ensures.items ∙ length-append l.steps.items (c.in_ok-step.step ∷ []) in
    record {
      within = omega (arith, more, lt);
      row = row_after p.k c.args.more i (length c.push.new.self.items) l.row.items c.next_node.new.row.items lt more l.invariant.row e.rest;
      frame = differs_on c.args.segment.now l.segment c.next_node.new.segment l.invariant.frame e.frame;
      adds = omega (arith, e.adds, l.invariant.adds, add-mul i 1 p.k, ap (λ n. n * p.k) more);
      is = λ events h j behind.
          let so = l.invariant.is events h j behind in
          subst (λ n. NodesSoFar p events h j c.args.more n c.push.new.self.items c.in_ok-step.down c.next_node.new.row.items c.args.segment.now c.next_node.new.segment) (sym more)
          (nodes_more p events h j c.args.more i l.steps.items l.last l.row.items c.args.segment.now l.segment c.in_ok-step.step c.in_ok-step.down c.next_node.new.row.items c.push.new.self.items c.next_node.new.segment so
          (e.is events h (j + i) (c.args.more - i) (let some : 1 ≤ c.args.more - i = omega (arith, lt) in some) so.behind) c.in_ok-push.ensures.items);
      given = nodes_given_on p c.args.more c.args.last l.last c.args.row.items l.row.items l.steps.items c.args.segment.now.deltas l.segment.deltas l.invariant.given
          c.in_ok-step.step c.in_ok-step.down c.next_node.new.row.items c.push.new.self.items c.next_node.new.segment.deltas lt e.step e.last e.rest c.in_ok-push.ensures.items e.given;
    }

pub returns-clause-adds : goal.returns-clause-adds
returns-clause-adds c =
    let end : length c.loop-alloc.steps.items ≡ c.args.more = omega (arith, c.loop-alloc.invariant.within, c.loop-alloc-test.false) in
    c.loop-alloc.invariant.adds ∙ ap (λ n. length c.args.segment.now.deltas + n * c.args.params.k) end

pub returns-clause-is : goal.returns-clause-is
returns-clause-is c events h j behind =
    let l = c.loop-alloc in
    let end : length l.steps.items ≡ c.args.more = omega (arith, l.invariant.within, c.loop-alloc-test.false) in
    subst (λ n. AreMade c.args.params events h j n l.steps.items c.args.segment.now l.segment) end (l.invariant.is events h j behind).made

pub returns-in_err-step-clause-fault : goal.returns-in_err-step-clause-fault
returns-in_err-step-clause-fault c =
    let failed = err_from_is_err_and c.from_residual-in_err-step.result c.from_residual-in_err-step.ensures.1 in
    rw (failed.1, failed.2) (λ events h j behind few.
    let l = c.loop-alloc in
    let i : ℕ = length l.steps.items in
    c.in_err-step.ensures.fault events h (j + i) (c.args.more - i) (let some : 1 ≤ c.args.more - i = omega (arith, c.loop-alloc-test.true) in some) (l.invariant.is events h j behind).behind few)

pub returns-in_err-step-clause-wide : goal.returns-in_err-step-clause-wide
returns-in_err-step-clause-wide c =
    let failed = err_from_is_err_and c.from_residual-in_err-step.result c.from_residual-in_err-step.ensures.1 in
    let l = c.loop-alloc in
    let k : ℕ = c.args.params.k in
    rw (failed.1, failed.2)
    (below_more (length l.segment.deltas + k) (length c.args.segment.now.deltas + c.args.more * k) c.in_err-step.field-0.0 (omega (arith, l.invariant.adds, so_many k c.args.more (length l.steps.items) (let lt : length l.steps.items < c.args.more = omega (arith, c.loop-alloc-test.true) in lt))) c.in_err-step.ensures.wide)

pub returns-clause-up : goal.returns-clause-up
returns-clause-up c =
    let l = c.loop-alloc in
    nodes_up c.args.params c.args.more c.args.last l.last c.args.row.items l.row.items l.steps.items c.args.segment.now.deltas l.segment.deltas l.invariant.given (omega (arith, c.loop-alloc-test.false))

pub returns-clause-given : goal.returns-clause-given
returns-clause-given c =
    let l = c.loop-alloc in
    nodes_added c.args.params c.args.more c.args.last l.last c.args.row.items l.row.items l.steps.items c.args.segment.now.deltas l.segment.deltas l.invariant.given (omega (arith, c.loop-alloc-test.false))

pub returns-in_err-step-clause-first : goal.returns-in_err-step-clause-first
returns-in_err-step-clause-first c =
    let failed = err_from_is_err_and c.from_residual-in_err-step.result c.from_residual-in_err-step.ensures.1 in
    let l = c.loop-alloc in
    let lt : length l.steps.items < c.args.more = omega (arith, c.loop-alloc-test.true) in
    rw (failed.1, failed.2)
    (nodes_fault c.args.params c.args.more c.args.last l.last c.args.row.items l.row.items l.steps.items c.args.segment.now.deltas l.segment.deltas l.invariant.given c.in_err-step.field-0.0 lt c.in_err-step.ensures.first)
