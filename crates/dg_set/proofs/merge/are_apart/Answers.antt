use Rattle.std.proofs.Common.{[], inl, inr, get_or, refl, sym, ◌∙◌, arith}
use Rattle.std.specs.declared.cmp.Ordering.TheVariants.{Less, Equal, Greater}
use Rattle.std.proofs.lemmas.Bool.{false≢true}
use Rattle.dg_graph.specs.declared.element.Element.TheVariants.{Node}
use Rattle.dg_graph.specs.Sets.{met}
use Rattle.dg_set.proofs.Indices.{compared}
use Rattle.dg_set.proofs.SetMerges.{kept_Less, kept_Equal, kept_Greater, met_done}
use Rattle.dg_set.proofs.Apart.{apart_from_met, not_apart}
use Rattle.dg_set.proofs.merge.are_apart.Goals as goal

pub loop-i-preserved-in-Less : goal.loop-i-preserved-in-Less
loop-i-preserved-in-Less c =
    let left = c.args.left.now in
    let right = c.args.right.now in
    let i = c.loop-i.i in
    let j = c.loop-i.j in
    let order = compared (get_or left i (Node 0)) (get_or right j (Node 0)) Less c.cmp.result c.cmp.ensures c.in-Less.is in
    let next =
    kept_Less left right i j (Node 0) c.requires.left_set c.requires.right_set c.loop-i-test.true c.if-j-right.true (λ b. b) order in
    record {
      to_come = sym next ∙ c.loop-i.invariant.to_come;
      left_in = omega arith;
      right_in = omega arith;
    }

pub loop-i-preserved : goal.loop-i-preserved
loop-i-preserved c =
    let left = c.args.left.now in
    let right = c.args.right.now in
    let i = c.loop-i.i in
    let j = c.loop-i.j in
    let order = compared (get_or left i (Node 0)) (get_or right j (Node 0)) Greater c.cmp.result c.cmp.ensures c.in-Greater.is in
    let next =
    kept_Greater left right i j (Node 0) c.requires.left_set c.requires.right_set c.loop-i-test.true c.if-j-right.true (λ b. b) order in
    record {
      to_come = sym next ∙ c.loop-i.invariant.to_come;
      left_in = omega arith;
      right_in = omega arith;
    }

pub returns-in-Equal : goal.returns-in-Equal
returns-in-Equal c =
    let left = c.args.left.now in
    let right = c.args.right.now in
    let i = c.loop-i.i in
    let j = c.loop-i.j in
    let order = compared (get_or left i (Node 0)) (get_or right j (Node 0)) Equal c.cmp.result c.cmp.ensures c.in-Equal.is in
    let next =
    kept_Equal left right i j (Node 0) c.requires.left_set c.requires.right_set c.loop-i-test.true c.if-j-right.true (λ b. b) order in
    (λ e. absurd (false≢true e), λ apart. absurd (not_apart left right _ _ (sym c.loop-i.invariant.to_come ∙ next) apart))

pub returns-else-j-right : goal.returns-else-j-right
returns-else-j-right c =
    let left = c.args.left.now in
    let right = c.args.right.now in
    let ended =
    met_done [] (met left right) left right c.loop-i.i c.loop-i.j c.loop-i.invariant.to_come (inr c.if-j-right.false) in
    (λ e. apart_from_met left right ended, λ apart. refl)

pub returns-after-loop-i : goal.returns-after-loop-i
returns-after-loop-i c =
    let left = c.args.left.now in
    let right = c.args.right.now in
    let ended =
    met_done [] (met left right) left right c.loop-i.i c.loop-i.j c.loop-i.invariant.to_come (inl c.loop-i-test.false) in
    (λ e. apart_from_met left right ended, λ apart. refl)
