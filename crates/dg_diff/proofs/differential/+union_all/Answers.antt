use Rattle.std.proofs.lemmas.Result.{IfOk-weaker}
use Rattle.dg_diff.proofs.DifferentialFunctionElements.{union_two, union_three, union_halves}
use Rattle.dg_diff.proofs.differential.+union_all.Goals as goal

pub returns-then-sets-eq2 : goal.returns-then-sets-eq2
returns-then-sets-eq2 t c =
    IfOk-weaker c.union.result _ _
    (λ set is. union_two c.args.sets.now c.index-sets-0.result c.index-sets-1.result set c.if-sets-eq2.true c.index-sets-0.is c.index-sets-1.is is)
    c.union.ensures.members

pub returns-then-sets-eq3 : goal.returns-then-sets-eq3
returns-then-sets-eq3 t c =
    IfOk-weaker c.union-then-sets-eq3-3.result _ _
    (λ set is. union_three c.args.sets.now c.index-sets-0-then-sets-eq3.result c.index-sets-1-then-sets-eq3.result c.index-sets-2.result c.in_ok-union.field-0 set
    c.if-sets-eq3.true c.index-sets-0-then-sets-eq3.is c.index-sets-1-then-sets-eq3.is c.index-sets-2.is c.in_ok-union.ensures.members is)
    c.union-then-sets-eq3-3.ensures.members

pub returns : goal.returns
returns t c =
    IfOk-weaker c.union-4.result _ _
    (λ set is. union_halves c.args.sets.now c.split_at.result.0.now c.split_at.result.1.now c.in_ok-union_all.field-0 c.in_ok-union_all-2.field-0 set
    c.split_at.ensures.by_index.0 is c.in_ok-union_all.ensures c.in_ok-union_all-2.ensures)
    c.union-4.ensures.members
