use Rattle.std.proofs.Common.{ap, drop, length, refl, reverse, sym, true, false, ◌∙◌}
use Rattle.std.proofs.lemmas.Iterator.Adapters.{YieldsList-from_rev_slice}
use Rattle.std.proofs.lemmas.Iterator.Consumers.{YieldsList-turn}
use Rattle.std.proofs.lemmas.List.{length_push}
use Rattle.dg_plan.specs.IndexGraph.{is_root}
use Rattle.dg_retrieval.specs.Beginnings.{begun_behind}
use Rattle.dg_retrieval.proofs.BeginningLeads.{found_at}
use Rattle.dg_retrieval.proofs.beginnings.beginning_of.Goals as goal

pub returns-then-is_root : goal.returns-then-is_root
returns-then-is_root c =
    let walk = c.args.walk.now in
    let old = c.loop-edge in
    let here = YieldsList-turn (YieldsList-from_rev_slice walk cc) old.yielded _ old.yielded_by _ _ c.in-Some.edge c.in-Some.is c.next.ensures.steps in
    c.begun_by.ensures
    ∙ sym (found_at (reverse walk) (length old.yielded) c.in-Some.edge.now old.node here true true (sym c.is_same.ensures ∙ c.if-is_same.true) (sym c.is_root.ensures ∙ c.if-is_root.true)) ∙ old.invariant

pub loop-edge-preserved-then-is_same : goal.loop-edge-preserved-then-is_same
loop-edge-preserved-then-is_same c =
    let walk = c.args.walk.now in
    let old = c.loop-edge in
    let edge = c.in-Some.edge.now in
    let here = YieldsList-turn (YieldsList-from_rev_slice walk cc) old.yielded _ old.yielded_by _ _ c.in-Some.edge c.in-Some.is c.next.ensures.steps in
    ap (λ k. begun_behind (drop k (reverse walk)) edge.from) (length_push old.yielded c.in-Some.edge)
    ∙ sym (found_at (reverse walk) (length old.yielded) edge old.node here true false (sym c.is_same.ensures ∙ c.if-is_same.true) (sym c.is_root.ensures ∙ c.if-is_root.false)) ∙ old.invariant

pub loop-edge-preserved : goal.loop-edge-preserved
loop-edge-preserved c =
    let walk = c.args.walk.now in
    let old = c.loop-edge in
    let edge = c.in-Some.edge.now in
    let here = YieldsList-turn (YieldsList-from_rev_slice walk cc) old.yielded _ old.yielded_by _ _ c.in-Some.edge c.in-Some.is c.next.ensures.steps in
    ap (λ k. begun_behind (drop k (reverse walk)) old.node) (length_push old.yielded c.in-Some.edge)
    ∙ sym (found_at (reverse walk) (length old.yielded) edge old.node here false (is_root edge.from) (sym c.is_same.ensures ∙ c.if-is_same.false) refl) ∙ old.invariant
