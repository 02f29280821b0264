use Rattle.dg_delta.specs.Stacks.{stacked}
use Rattle.dg_fold.proofs.Foldings.{failed_as, first_fails, first_stands, then_fails, then_stands}
use Rattle.dg_fold.proofs.PartStacks.{both_stand, first_is_delta, minus_in_order, minus_is_within, plus_in_order, plus_is_within, then_is_delta}
use Rattle.dg_fold.specs.Parts.{beside}
use Rattle.dg_fold.proofs.folding.compose_both.Goals as goal

pub compose-requires-clause-minus_order : goal.compose-requires-clause-minus_order
compose-requires-clause-minus_order c =
    let r = c.requires in
    let top = stacked c.args.stack.now in
    minus_in_order r.0 r.1 r.2 r.3 top
    (first_stands c.args.pushed c.args.on c.args.first c.args.then top r.0 r.1 r.2 r.3 r.4 c.in_ok-pushed.field-0 c.in_ok-pushed.was)
    (then_stands c.args.pushed c.args.on c.args.first c.args.then top r.0 r.1 r.2 r.3 r.4 c.in_ok-on.field-0 c.in_ok-on.was)
    c.args.first c.args.then r.4.begins r.4.goes_on

pub compose-requires-clause-plus_order : goal.compose-requires-clause-plus_order
compose-requires-clause-plus_order c =
    let r = c.requires in
    let top = stacked c.args.stack.now in
    plus_in_order r.0 r.1 r.2 r.3 top
    (first_stands c.args.pushed c.args.on c.args.first c.args.then top r.0 r.1 r.2 r.3 r.4 c.in_ok-pushed.field-0 c.in_ok-pushed.was)
    (then_stands c.args.pushed c.args.on c.args.first c.args.then top r.0 r.1 r.2 r.3 r.4 c.in_ok-on.field-0 c.in_ok-on.was)
    c.args.first c.args.then r.4.begins r.4.goes_on

pub compose-requires-clause-minus_within : goal.compose-requires-clause-minus_within
compose-requires-clause-minus_within c =
    let r = c.requires in
    let top = stacked c.args.stack.now in
    minus_is_within r.0 r.1 r.2 r.3 top
    (first_stands c.args.pushed c.args.on c.args.first c.args.then top r.0 r.1 r.2 r.3 r.4 c.in_ok-pushed.field-0 c.in_ok-pushed.was)
    (then_stands c.args.pushed c.args.on c.args.first c.args.then top r.0 r.1 r.2 r.3 r.4 c.in_ok-on.field-0 c.in_ok-on.was)
    c.args.then r.4.goes_on

pub compose-requires-clause-plus_within : goal.compose-requires-clause-plus_within
compose-requires-clause-plus_within c =
    let r = c.requires in
    let top = stacked c.args.stack.now in
    plus_is_within r.0 r.1 r.2 r.3 top
    (first_stands c.args.pushed c.args.on c.args.first c.args.then top r.0 r.1 r.2 r.3 r.4 c.in_ok-pushed.field-0 c.in_ok-pushed.was)
    (then_stands c.args.pushed c.args.on c.args.first c.args.then top r.0 r.1 r.2 r.3 r.4 c.in_ok-on.field-0 c.in_ok-on.was)
    c.args.then r.4.goes_on

pub compose-requires-clause-first : goal.compose-requires-clause-first
compose-requires-clause-first c =
    let r = c.requires in
    let top = stacked c.args.stack.now in
    first_is_delta r.0 r.1 r.2 r.3 top
    (first_stands c.args.pushed c.args.on c.args.first c.args.then top r.0 r.1 r.2 r.3 r.4 c.in_ok-pushed.field-0 c.in_ok-pushed.was)
    (then_stands c.args.pushed c.args.on c.args.first c.args.then top r.0 r.1 r.2 r.3 r.4 c.in_ok-on.field-0 c.in_ok-on.was)
    c.args.first c.args.then r.4.begins r.4.goes_on

pub compose-requires-clause-then : goal.compose-requires-clause-then
compose-requires-clause-then c =
    let r = c.requires in
    let top = stacked c.args.stack.now in
    then_is_delta r.0 r.1 r.2 r.3 top
    (first_stands c.args.pushed c.args.on c.args.first c.args.then top r.0 r.1 r.2 r.3 r.4 c.in_ok-pushed.field-0 c.in_ok-pushed.was)
    (then_stands c.args.pushed c.args.on c.args.first c.args.then top r.0 r.1 r.2 r.3 r.4 c.in_ok-on.field-0 c.in_ok-on.was)
    c.args.then r.4.goes_on

pub returns-in_err-pushed : goal.returns-in_err-pushed
returns-in_err-pushed c = λ a b old mid are.
    let top = stacked c.args.stack.now in
    failed_as c.from_residual.result c.in_err-pushed.field-0.0 (beside a b) old top c.from_residual.ensures
    (first_fails c.args.pushed c.args.on c.args.first c.args.then top a b old mid are c.in_err-pushed.field-0.0 c.in_err-pushed.was)

pub returns-in_err-on : goal.returns-in_err-on
returns-in_err-on c = λ a b old mid are.
    let top = stacked c.args.stack.now in
    failed_as c.from_residual-in_err-on.result c.in_err-on.field-0.0 (beside a b) old top c.from_residual-in_err-on.ensures
    (then_fails c.args.pushed c.args.on c.args.first c.args.then top a b old mid are c.in_ok-pushed.field-0 c.in_err-on.field-0.0 c.in_ok-pushed.was c.in_err-on.was)

pub returns : goal.returns
returns c = λ a b old mid are.
    let top = stacked c.args.stack.now in
    both_stand a b old mid top
    (first_stands c.args.pushed c.args.on c.args.first c.args.then top a b old mid are c.in_ok-pushed.field-0 c.in_ok-pushed.was)
    (then_stands c.args.pushed c.args.on c.args.first c.args.then top a b old mid are c.in_ok-on.field-0 c.in_ok-on.was)
    c.args.first c.args.then (stacked c.compose.new.self) are.begins are.goes_on c.in_ok-compose.ensures
