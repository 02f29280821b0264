use Rattle.std.proofs.Common.{◌≡◌, ◌∙◌, sym, ap, Some, None, slice_get, drop}
use Rattle.std.specs.Option.{option_copied}
use Rattle.dg_append.proofs.BatchSegmentNames.{name_more, names_done, with_names}
use Rattle.dg_append.proofs.segment.add_names.Goals as goal

pub loop-text-preserved : goal.loop-text-preserved
loop-text-preserved c =
    let there : slice_get c.args.names.now c.loop-text.number ≡ Some c.in-Some.text.now = sym c.text.ensures.text ∙ ap option_copied c.in-Some.is in
    name_more c.loop-text.segment c.add_name.new.self c.args.names.now c.loop-text.number c.in-Some.text.now c.in_ok-add_name.ensures.ok there
    ∙ c.loop-text.invariant

pub returns : goal.returns
returns c =
    let none : slice_get c.args.names.now c.loop-text.number ≡ None = sym c.text.ensures.text ∙ ap option_copied c.in_default.is in
    names_done c.loop-text.segment (with_names c.args.segment.now (drop c.args.known c.args.names.now)) c.args.names.now c.loop-text.number c.loop-text.invariant none
