use Rattle.std.proofs.Common.{ℕ, Option, ap, sym, ◌∙◌}
use Rattle.dg_part_runs.specs.PartTimes.{time_within}
use Rattle.dg_part_runs.proofs.GatheredParts.{gathers_at, gathers_nothing}
use Rattle.dg_part_runs.proofs.PartDamages.{met_at, met_nothing}
use Rattle.dg_part_runs.proofs.gather.gather_part.Goals as goal

pub returns-in-Some-clause-gathers : goal.returns-in-Some-clause-gathers
returns-in-Some-clause-gathers g c = λ limits.
    gathers_at limits c.args.session.now (g.D.Disk.image c.args.disk.now) c.args.t c.args.cols c.in-Some.time (g.D.Disk.taken c.args.disk.now) (g.D.Disk.taken c.gather.new.disk) c.gather.result
    (ap (λ (ends : Option (ℕ × ℕ)). time_within ends c.args.t) (sym c.span.ensures) ∙ sym c.time_within.ensures ∙ c.in-Some.is)
    c.gather.ensures.over

pub returns-in-Some-clause-damage : goal.returns-in-Some-clause-damage
returns-in-Some-clause-damage g c =
    met_at c.args.t c.args.cols c.args.session.now (g.D.Disk.image c.args.disk.now) c.in-Some.time c.gather.result
    (ap (λ (ends : Option (ℕ × ℕ)). time_within ends c.args.t) (sym c.span.ensures) ∙ sym c.time_within.ensures ∙ c.in-Some.is)
    c.gather.ensures.damage

pub returns-in-None-clause-gathers : goal.returns-in-None-clause-gathers
returns-in-None-clause-gathers g c = λ limits.
    gathers_nothing limits c.args.session.now (g.D.Disk.image c.args.disk.now) c.args.t c.args.cols c.nothing.result
    (ap (λ (ends : Option (ℕ × ℕ)). time_within ends c.args.t) (sym c.span.ensures) ∙ sym c.time_within.ensures ∙ c.in-None.is)
    c.nothing.ensures.shown c.nothing.ensures.weight

pub returns-in-None-clause-damage : goal.returns-in-None-clause-damage
returns-in-None-clause-damage g c =
    met_nothing c.args.t c.args.cols c.args.session.now (g.D.Disk.image c.args.disk.now)
    (ap (λ (ends : Option (ℕ × ℕ)). time_within ends c.args.t) (sym c.span.ensures) ∙ sym c.time_within.ensures ∙ c.in-None.is)
