use Rattle.std.proofs.Common.{ap, subst, sym, ◌∙◌}
use Rattle.std.specs.Option.{option_copied}
use Rattle.std.proofs.lemmas.Result.{IfOk-weaker}
use Rattle.dg_steps.specs.TreeStepWalks.{IsCrossing}
use Rattle.dg_steps.proofs.CrossingSteps.{part_is}
use Rattle.dg_steps.proofs.crossing.crossing_by.Goals as goal

pub returns-in-Some-clause-ok : goal.returns-in-Some-clause-ok
returns-in-Some-clause-ok g c =
    let part = part_is c.args.via c.args.parts.now c.in-Some.part.now (sym c.is_record.ensures ∙ c.if-not-is_record.false) (ap option_copied (sym c.in-Some.is) ∙ c.first.ensures.value) in
    IfOk-weaker c.crossing_of.result _ _ (λ kept h. subst (λ p. IsCrossing c.args.name_count p c.args.takes.items kept) (sym part) h) c.crossing_of.ensures.ok
