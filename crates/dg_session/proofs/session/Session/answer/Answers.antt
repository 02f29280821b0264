use Rattle.std.proofs.Common.{[], sym, subst}
use Rattle.dg_machine.specs.declared.command.Command.{Command}
use Rattle.dg_machine.specs.CommandGrammar.{CountIsInRange}
use Rattle.dg_session.specs.Session.{Accepts, ComesTo}
use Rattle.dg_session.proofs.session.Session.answer.Goals as goal

pub returns-in-Ask-clause-comes : goal.returns-in-Ask-clause-comes
returns-in-Ask-clause-comes c image = subst (λ (x : Command). ComesTo x [] c.args.self.now.parts image c.ask.new.self.parts image c.ask.result) (sym c.in-Ask.is) (c.ask.ensures.comes image)

pub returns-in-Release-clause-comes : goal.returns-in-Release-clause-comes
returns-in-Release-clause-comes c image = subst (λ (x : Command). ComesTo x [] c.args.self.now.parts image c.release.new.self.parts image c.release.result) (sym c.in-Release.is) (c.release.ensures.comes image)

pub returns-in-Clean-clause-comes : goal.returns-in-Clean-clause-comes
returns-in-Clean-clause-comes c image = subst (λ (x : Command). Accepts x [] c.args.self.now.parts image c.clean.new.self.parts image c.clean.result) (sym c.in-Clean.is) (c.clean.ensures.comes image)

pub returns-in-CleanAll-clause-comes : goal.returns-in-CleanAll-clause-comes
returns-in-CleanAll-clause-comes c image = subst (λ (x : Command). Accepts x [] c.args.self.now.parts image c.clean_all.new.self.parts image c.clean_all.result) (sym c.in-CleanAll.is) (c.clean_all.ensures.comes image)

pub returns-in-Pool-clause-comes : goal.returns-in-Pool-clause-comes
returns-in-Pool-clause-comes c image = subst (λ (x : Command). Accepts x [] c.args.self.now.parts image c.args.self.now.parts image c.pool_size.result) (sym c.in-Pool.is) (c.pool_size.ensures.comes image)

pub returns-in-Plan-clause-comes : goal.returns-in-Plan-clause-comes
returns-in-Plan-clause-comes c image = subst (λ (x : Command). ComesTo x [] c.args.self.now.parts image c.plan.new.self.parts image c.plan.result) (sym c.in-Plan.is) (c.plan.ensures.comes image)

pub returns-in-Tree-clause-comes : goal.returns-in-Tree-clause-comes
returns-in-Tree-clause-comes c image = subst (λ (x : Command). ComesTo x [] c.args.self.now.parts image c.args.self.now.parts image c.tree.result) (sym c.in-Tree.is) (c.tree.ensures.comes image)

pub find-requires-clause-key : goal.find-requires-clause-key
find-requires-clause-key c = (subst CountIsInRange c.in-Find.is c.requires.command).0

pub find-requires-clause-value : goal.find-requires-clause-value
find-requires-clause-value c = (subst CountIsInRange c.in-Find.is c.requires.command).1

pub returns-in-Find-clause-comes : goal.returns-in-Find-clause-comes
returns-in-Find-clause-comes c image = subst (λ (x : Command). ComesTo x [] c.args.self.now.parts image c.args.self.now.parts image c.find.result) (sym c.in-Find.is) (c.find.ensures.comes image)
