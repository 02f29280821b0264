use Rattle.std.proofs.Common.{◌≡◌, [], ap, refl, ◌∙◌}
use Rattle.dg_machine.specs.declared.command.Command.TheVariants as command
use Rattle.dg_machine.specs.declared.query.Query.{Query}
use Rattle.dg_machine.specs.declared.query.Query.TheVariants as query
use Rattle.dg_part_runs.proofs.CarriedCommands.{answered_by, answers_back, ready_after}
use Rattle.dg_part_runs.proofs.PartSteps.{lists, releases}
use Rattle.dg_part_runs.proofs.sessions.PartSessionsMachineVec.carry.Goals as goal

pub returns-in-At-clause-holds : goal.returns-in-At-clause-holds
returns-in-At-clause-holds g c =
    ready_after g.D.Disk (command.At c.in-At.t c.in-At.cols) [] c.args.self.now c.at.new.self c.args.world.now.items _ c.at.result c.requires.holds
    (answers_back g.D.Disk c.args.world.now c.deref_mut.result.now c.at.new.disks (command.At c.in-At.t c.in-At.cols) c.args.self.now c.at.new.self c.at.result c.deref_mut.ensures.value c.at.ensures.answers)

pub returns-in-Ask-default-List-clause-answered : goal.returns-in-Ask-default-List-clause-answered
returns-in-Ask-default-List-clause-answered g c =
    let listed : c.in-Ask-default-List.query ≡ query.List = rw c.in-Ask-default-List.is at c.in-Ask-default-List.query-is in
    answered_by g.D.Disk c.args.command.now (command.Ask c.in-Ask-default-List.handle query.List) c.args.lines.now (g.S.Source.left c.args.source.now) c.args.self.now c.args.self.now
    c.args.world.now.items c.args.world.now.items c.list.result (c.in-Ask-default-List.is ∙ ap (λ (q : Query). command.Ask c.in-Ask-default-List.handle q) listed) refl
    (lists g.D.Disk c.in-Ask-default-List.handle c.args.self.now c.args.world.now.items c.list.result c.list.ensures)

pub returns-in-Release-clause-answered : goal.returns-in-Release-clause-answered
returns-in-Release-clause-answered g c =
    answered_by g.D.Disk c.args.command.now (command.Release c.in-Release.handle) c.args.lines.now (g.S.Source.left c.args.source.now) c.args.self.now c.release.new.self
    c.args.world.now.items c.args.world.now.items c.release.result c.in-Release.is refl
    (releases g.D.Disk c.in-Release.handle c.args.self.now c.args.world.now.items c.release.new.self c.release.result
    c.release.ensures.released c.release.ensures.sets c.release.ensures.next
    (ap (λ v. v.items) c.release.ensures.sessions) c.release.ensures.nameless)
