-- None of the graphs that were looked at is in the columns, and behind the loop these are all that are kept.
use Rattle.std.proofs.Common.{◌≡◌, ◌≢◌, ◌∙◌, ap, refl, sym, subst, take}
use Rattle.std.specs.List.{All}
use Rattle.std.proofs.lemmas.List.{take_all}
use Rattle.std.proofs.lemmas.List.Elements.{All-contains, All-more, All-same}
use Rattle.dg_graph.specs.declared.element.Columns.{Columns}
use Rattle.dg_planner.specs.Whole.{PlannerGraph}
use Rattle.dg_ask.proofs.kept_planner.KeptPlanner.find.Goals as goal

pub loop-kept-preserved : goal.loop-kept-preserved
loop-kept-preserved c =
    let Other = λ (k : Columns × PlannerGraph). k.0 ≢ c.args.cols in
    All-more Other c.deref-kept-items.result.now c.loop-kept.kept-index c.kept-item.result c.loop-kept-test.true c.loop-kept.invariant
    (subst Other c.kept-item.is (λ e. c.if-are_same.ensures.other refl (ap (λ (k : Columns × PlannerGraph). k.0) c.kept.view_is ∙ e)))

pub returns-clause-none : goal.returns-clause-none
returns-clause-none c =
    let Other = λ (k : Columns × PlannerGraph). k.0 ≢ c.args.cols in
    let seen = take c.loop-kept.kept-index c.deref-kept-items.result.now in
    let whole : c.args.self.now ≡ seen =
    sym c.self.view_is ∙ sym c.deref-kept-items.ensures.value ∙ sym (take_all c.loop-kept.kept-index c.deref-kept-items.result.now c.loop-kept-test.false) in
    let none : All Other c.args.self.now = All-same Other c.args.self.now seen whole c.loop-kept.invariant in
    λ g keeps. All-contains Other c.args.self.now (c.args.cols, g) none keeps refl
