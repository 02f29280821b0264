use Rattle.std.proofs.Common.{◌≡◌, ◌<◌, List, [], ◌∷◌, ◌++◌, Result, Ok, Err, length, refl, sym, ap, subst, ◌∙◌, arith}
use Rattle.std.specs.Prelude.{OnOk}
use Rattle.dg_path.proofs.SearchStarts.{put_back}
use Rattle.dg_path.specs.declared.search.Cost.{Cost as Label}
use Rattle.dg_path.specs.Search.{IsTable, arcs}
use Rattle.dg_plan.specs.Walks.{entered}
use Rattle.dg_planner.specs.Trees.{costs_now}
use Rattle.dg_planner.proofs.tree.grow_on.Goals as goal

-- costs that have grown are those of the tree
grown_now : (kept costs : List Label) → 0 < length costs → costs_now kept costs ≡ costs
grown_now kept [] some = absurd (omega arith)
grown_now kept (c ∷ costs) some = refl

on_more : {T E : Type 0} (r : Result T E) (P Q : Type 0) → OnOk r P → (P → Q) → OnOk r Q
on_more (Ok x) P Q p more = more p
on_more (Err e) P Q p more = tt

pub returns-clause-table : goal.returns-clause-table
returns-clause-table c =
    let links = c.args.links.now in
    let steps = c.args.steps.now in
    let old = costs_now c.args.kept.now c.args.grown.now.items in
    let new = c.grow.new.costs in
    let items = c.begin.new.grown.items in
    let begun : items ≡ old = c.in_ok-begin.ensures in
    let lent : c.deref_mut.result.now ≡ old = c.deref_mut.ensures.value ∙ begun in
    let held : length items ≡ c.begin.new.grown.len = (let a = c.begin.new.grown.ok.0 in omega arith) in
    let len : length new ≡ c.begin.new.grown.len = (let a = c.grow.auto.costs in let b = ap length c.deref_mut.ensures.value in let h = held in omega arith) in
    let some : 0 < length new = (let a = c.requires.some in let b = ap length begun in let h = held in let l = len in omega arith) in
    let back = put_back c.begin.new.grown.len new items len held in
    let now = ap (costs_now c.args.kept.now) back ∙ grown_now c.args.kept.now new some in
    on_more c.grow.result _ _ c.grow.ensures.table
    (λ table starts t. subst (IsTable (arcs links) (starts ++ entered (arcs links) steps)) (sym now) (table starts (subst (IsTable (arcs links) starts) (sym lent) t)))
