use Rattle.std.proofs.Common.{ap, sym, subst, ◌∙◌, Err}
use Rattle.dg_delta.specs.Stacks.{stacked}
use Rattle.dg_fold.specs.Parts.{parts_in, Folds, StandsOnTop}
use Rattle.dg_fold.proofs.PartCompositions.{cut_anywhere, fails_behind, fails_first}
use Rattle.dg_fold.proofs.PartStacks.{both_stand, failed_so, no_parts_stand}
use Rattle.dg_fold.proofs.plan.+push_composed.Goals as goal

pub returns-in-0-clause-ok : goal.returns-in-0-clause-ok
returns-in-0-clause-ok g t c = no_parts_stand c.args.name_count c.args.parts.now (stacked c.args.stack.now) c.in-0.is

pub returns-in_err-push_composed-in_default-clause-err :
    goal.returns-in_err-push_composed-in_default-clause-err
returns-in_err-push_composed-in_default-clause-err g t c =
    let names = c.args.name_count in
    let left = c.split_at_mut-left.result.0.now in
    let right = c.split_at_mut-left.result.1.now in
    let f = c.in_err-push_composed-in_default.field-0.0 in
    failed_so c.from_residual.result f (λ e. Folds (Err e) (parts_in names c.args.parts.now)) c.from_residual.ensures
    (subst (Folds (Err f)) (sym (ap (parts_in names) c.split_at_mut-left.ensures.value ∙ cut_anywhere names left right))
    (fails_first f (parts_in names left) (parts_in names right) c.in_err-push_composed-in_default.ensures.err))

pub returns-in_err-push_composed-in_default-2-clause-err :
    goal.returns-in_err-push_composed-in_default-2-clause-err
returns-in_err-push_composed-in_default-2-clause-err g t c =
    let names = c.args.name_count in
    let left = c.split_at_mut-left.result.0.now in
    let right = c.split_at_mut-left.result.1.now in
    let f = c.in_err-push_composed-in_default-2.field-0.0 in
    let first = c.in_ok-push_composed-in_default.ensures.ok in
    failed_so c.from_residual-in_err-push_composed-in_default-2.result f (λ e. Folds (Err e) (parts_in names c.args.parts.now)) c.from_residual-in_err-push_composed-in_default-2.ensures
    (subst (Folds (Err f)) (sym (ap (parts_in names) c.split_at_mut-left.ensures.value ∙ cut_anywhere names left right))
    (fails_behind f first.2.0 (parts_in names left) (parts_in names right) first.2.1 c.in_err-push_composed-in_default-2.ensures.err))

pub returns-in_ok-compose-in_default-clause-ok : goal.returns-in_ok-compose-in_default-clause-ok
returns-in_ok-compose-in_default-clause-ok g t c =
    let names = c.args.name_count in
    let left = c.split_at_mut-left.result.0.now in
    let right = c.split_at_mut-left.result.1.now in
    subst (λ a. StandsOnTop a (stacked c.args.stack.now) (stacked c.compose.new.self)) (sym (ap (parts_in names) c.split_at_mut-left.ensures.value ∙ cut_anywhere names left right))
    (both_stand (parts_in names left) (parts_in names right) (stacked c.args.stack.now) (stacked c.push_composed.new.stack) (stacked c.push_composed-in_default.new.stack)
    c.in_ok-push_composed-in_default.ensures.ok c.in_ok-push_composed-in_default-2.ensures.ok c.height-first.result c.height-then.result (stacked c.compose.new.self) c.height-first.ensures
    c.height-then.ensures c.in_ok-compose-in_default.ensures)
