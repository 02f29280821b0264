use Rattle.std.proofs.Common.{◌≡◌, ◌+◌, None, arith}
use Rattle.std.proofs.lemmas.Result.{err_from_is_err_and}
use Rattle.dg_graph.specs.ColumnGrammar.{element_size, elements_at}
use Rattle.dg_columns.proofs.FieldElements.{goes_on, stops}
use Rattle.dg_columns.proofs.delta_reader.elements_at.Goals as goal

pub returns-in_err-element-clause-elements : goal.returns-in_err-element-clause-elements
returns-in_err-element-clause-elements c =
    let others = c.args.others.now in
    let total = elements_at c.args.count c.args.col c.args.name_count c.args.bytes.now others c.args.start None in
    let failed = err_from_is_err_and c.from_residual-in_err-element.result c.from_residual-in_err-element.ensures.1 in
    rw (failed.1, failed.2) (stops c.args.col c.args.name_count c.args.bytes.now others c.loop.items.items c.args.count c.loop.counter c.loop.offset c.loop.last total c.loop-test.true c.in_err-element.field-0.0 c.in_err-element.ensures.element c.loop.invariant.so_far)

pub loop-preserved : goal.loop-preserved
loop-preserved c =
    let x = c.in_ok-element.element in
    let others = c.args.others.now in
    let total = elements_at c.args.count c.args.col c.args.name_count c.args.bytes.now others c.args.start None in
    let next : c.loop.offset + c.element_size-offset.result ≡ c.loop.offset + element_size x = omega (arith, c.element_size-offset.ensures) in
    record {
      so_far = rw c.in_ok-push.ensures.items (goes_on c.args.col c.args.name_count c.args.bytes.now others c.loop.items.items c.args.count c.loop.counter c.loop.offset c.loop.last total c.loop-test.true x _ next c.in_ok-element.ensures.element c.loop.invariant.so_far);
      within = omega (arith, c.in_ok-element.ensures.fits, c.element_size-offset.ensures);
    }
