use Rattle.std.proofs.Common.{◌≡◌, ◌∙◌, ap, true, false, refl, rules, subst, sym}
use Rattle.std.proofs.lemmas.Bool.{false≢true}
use Rattle.dg_disk.proofs.FrameLemmas as frames
use Rattle.dg_disk.specs.Calls.{LeftByCrash}
use Rattle.dg_session.proofs.CommandCrashes.{reading_left}
use Rattle.dg_cuts.specs.TakenLines.{CutsWithin, TakesBehind}
use Rattle.dg_machine.specs.declared.command.Command.{Command}
use Rattle.dg_machine.specs.declared.command.Command.TheVariants as command
use Rattle.dg_machine.specs.declared.selection.Selection.{Selection}
use Rattle.dg_machine.specs.declared.selection.Selection.TheVariants.{Added, Chosen}
use Rattle.dg_machine.specs.CommandGrammar.{CountIsInRange}
use Rattle.dg_session.specs.Session.{is_at_hand}
use Rattle.dg_session.specs.Verified.{is_verify}
use Rattle.dg_session.proofs.CarriedSteps.{hand_carries, no_file, others_carry, reading_carries, unverified_all, writing_carries}
use Rattle.dg_session.proofs.ReadsStep.{fails_no_read}
use Rattle.dg_session.proofs.SessionSteps.{alone, with_crash}
use Rattle.dg_session.proofs.CommandDisks.{reading_treats}
use Rattle.dg_session.proofs.session.Session.carry_out.Goals as goal

pub add-requires-clause-some : goal.add-requires-clause-some
add-requires-clause-some g c = (subst CountIsInRange c.in-Load.is c.requires.command).0

pub add-requires-clause-few : goal.add-requires-clause-few
add-requires-clause-few g c = (subst CountIsInRange c.in-Load.is c.requires.command).1

pub add-requires-in-Append-clause-some : goal.add-requires-in-Append-clause-some
add-requires-in-Append-clause-some g c = (subst CountIsInRange c.in-Append.is c.requires.command).0

pub add-requires-in-Append-clause-few : goal.add-requires-in-Append-clause-few
add-requires-in-Append-clause-few g c = (subst CountIsInRange c.in-Append.is c.requires.command).1

pub certify-requires : goal.certify-requires
certify-requires g c = record { few = subst CountIsInRange c.in-Certify.is c.requires.command }

pub several-requires-clause-some : goal.several-requires-clause-some
several-requires-clause-some g c = (subst CountIsInRange c.in-Several.is c.requires.command).0

pub several-requires-clause-few : goal.several-requires-clause-few
several-requires-clause-few g c = (subst CountIsInRange c.in-Several.is c.requires.command).1

pub workload-requires-clause-some : goal.workload-requires-clause-some
workload-requires-clause-some g c = (subst CountIsInRange c.in-Workload.is c.requires.command).0

pub workload-requires-clause-few : goal.workload-requires-clause-few
workload-requires-clause-few g c = (subst CountIsInRange c.in-Workload.is c.requires.command).1

pub choose-requires-clause-expression : goal.choose-requires-clause-expression
choose-requires-clause-expression g c =
    let what : c.in-Select-Chosen-default.what ≡ Chosen c.in-Select-Chosen-default.expr = rw c.in-Select-Chosen-default.is at c.in-Select-Chosen-default.what-is in
    let is : c.args.command.now ≡ command.Select (Chosen c.in-Select-Chosen-default.expr) c.in-Select-Chosen-default.cols = c.in-Select-Chosen-default.is ∙ ap (λ (w : Selection). command.Select w c.in-Select-Chosen-default.cols) what in
    (subst CountIsInRange is c.requires.command).0

pub choose-requires-clause-words : goal.choose-requires-clause-words
choose-requires-clause-words g c =
    let what : c.in-Select-Chosen-default.what ≡ Chosen c.in-Select-Chosen-default.expr = rw c.in-Select-Chosen-default.is at c.in-Select-Chosen-default.what-is in
    let is : c.args.command.now ≡ command.Select (Chosen c.in-Select-Chosen-default.expr) c.in-Select-Chosen-default.cols = c.in-Select-Chosen-default.is ∙ ap (λ (w : Selection). command.Select w c.in-Select-Chosen-default.cols) what in
    (subst CountIsInRange is c.requires.command).1

pub index_values-requires-clause-short : goal.index_values-requires-clause-short
index_values-requires-clause-short g c = subst CountIsInRange c.in-Index.is c.requires.command

pub returns-in-At-clause-carries : goal.returns-in-At-clause-carries
returns-in-At-clause-carries g c =
    reading_carries {d = g.D.Disk} c.at.result g.met.D.Disk.only_now c.args.command.now (command.At c.in-At.t c.in-At.cols) c.in-At.is refl tt c.at.ensures.comes c.at.ensures.no_stop (unverified_all (command.At c.in-At.t c.in-At.cols) c.args.self.now.parts (g.D.Disk.image c.args.disk.now) c.at.result refl)
    c.at.ensures.store_read c.at.ensures.disk c.at.ensures.file

pub returns-in-Several-clause-carries : goal.returns-in-Several-clause-carries
returns-in-Several-clause-carries g c =
    reading_carries {d = g.D.Disk} c.several.result g.met.D.Disk.only_now c.args.command.now (command.Several c.in-Several.cols c.in-Several.times c.in-Several.count) c.in-Several.is refl tt c.several.ensures.comes c.several.ensures.no_stop (unverified_all (command.Several c.in-Several.cols c.in-Several.times c.in-Several.count) c.args.self.now.parts (g.D.Disk.image c.args.disk.now) c.several.result refl)
    c.several.ensures.store_read c.several.ensures.disk c.several.ensures.file

pub returns-in-Materialise-clause-carries : goal.returns-in-Materialise-clause-carries
returns-in-Materialise-clause-carries g c =
    reading_carries {d = g.D.Disk} c.materialise.result g.met.D.Disk.only_now c.args.command.now (command.Materialise c.in-Materialise.node c.in-Materialise.cols) c.in-Materialise.is refl tt c.materialise.ensures.comes c.materialise.ensures.no_stop (unverified_all (command.Materialise c.in-Materialise.node c.in-Materialise.cols) c.args.self.now.parts (g.D.Disk.image c.args.disk.now) c.materialise.result refl)
    c.materialise.ensures.store_read c.materialise.ensures.disk c.materialise.ensures.file

pub returns-in-Select-Chosen-default-clause-carries : goal.returns-in-Select-Chosen-default-clause-carries
returns-in-Select-Chosen-default-clause-carries g c =
    let what : c.in-Select-Chosen-default.what ≡ Chosen c.in-Select-Chosen-default.expr = rw c.in-Select-Chosen-default.is at c.in-Select-Chosen-default.what-is in
    let is : c.args.command.now ≡ command.Select (Chosen c.in-Select-Chosen-default.expr) c.in-Select-Chosen-default.cols = c.in-Select-Chosen-default.is ∙ ap (λ (w : Selection). command.Select w c.in-Select-Chosen-default.cols) what in
    let done : Command = command.Select (Chosen c.in-Select-Chosen-default.expr) c.in-Select-Chosen-default.cols in
    reading_carries {d = g.D.Disk} c.choose.result g.met.D.Disk.only_now c.args.command.now done is refl tt c.choose.ensures.comes c.choose.ensures.no_stop (unverified_all done c.args.self.now.parts (g.D.Disk.image c.args.disk.now) c.choose.result refl)
    c.choose.ensures.store_read c.choose.ensures.disk c.choose.ensures.file

pub returns-in-Select-Added-default-clause-carries : goal.returns-in-Select-Added-default-clause-carries
returns-in-Select-Added-default-clause-carries g c =
    let what : c.in-Select-Added-default.what ≡ Added c.in-Select-Added-default.from c.in-Select-Added-default.until = rw c.in-Select-Added-default.is at c.in-Select-Added-default.what-is in
    let done : Command = command.Select (Added c.in-Select-Added-default.from c.in-Select-Added-default.until) c.in-Select-Added-default.cols in
    let is : c.args.command.now ≡ done = c.in-Select-Added-default.is ∙ ap (λ (w : Selection). command.Select w c.in-Select-Added-default.cols) what in
    reading_carries {d = g.D.Disk} c.interval.result g.met.D.Disk.only_now c.args.command.now done is refl tt c.interval.ensures.comes c.interval.ensures.no_stop (unverified_all done c.args.self.now.parts (g.D.Disk.image c.args.disk.now) c.interval.result refl)
    c.interval.ensures.store_read c.interval.ensures.disk c.interval.ensures.file

pub returns-in-Index-clause-carries : goal.returns-in-Index-clause-carries
returns-in-Index-clause-carries g c =
    let done : Command = command.Index c.in-Index.key in
    reading_carries {d = g.D.Disk} c.index_values.result g.met.D.Disk.only_now c.args.command.now done c.in-Index.is refl tt c.index_values.ensures.comes c.index_values.ensures.no_stop (unverified_all done c.args.self.now.parts (g.D.Disk.image c.args.disk.now) c.index_values.result refl)
    c.index_values.ensures.store_read c.index_values.ensures.disk c.index_values.ensures.file

pub returns-in-Verify-clause-carries : goal.returns-in-Verify-clause-carries
returns-in-Verify-clause-carries g c =
    reading_carries {d = g.D.Disk} c.verify.result g.met.D.Disk.only_now c.args.command.now command.Verify c.in-Verify.is refl tt c.verify.ensures.comes c.verify.ensures.no_stop c.verify.ensures.verified
    c.verify.ensures.store_read c.verify.ensures.disk c.verify.ensures.file

pub returns-in-Load-clause-carries : goal.returns-in-Load-clause-carries
returns-in-Load-clause-carries g c =
    let r = c.add in
    others_carry r.result c.args.command.now (command.Load c.in-Load.count) c.in-Load.is refl tt r.ensures.comes r.ensures.causes r.ensures.file r.ensures.disk (λ e. absurd (false≢true (sym e)))

pub returns-in-Append-clause-carries : goal.returns-in-Append-clause-carries
returns-in-Append-clause-carries g c =
    let r = c.add-in-Append in
    others_carry r.result c.args.command.now (command.Append c.in-Append.count) c.in-Append.is refl tt r.ensures.comes r.ensures.causes r.ensures.file r.ensures.disk (λ e. absurd (false≢true (sym e)))

pub returns-in-Workload-clause-carries : goal.returns-in-Workload-clause-carries
returns-in-Workload-clause-carries g c =
    let x = command.Workload c.in-Workload.seed c.in-Workload.count in
    let r = c.workload in
    others_carry r.result c.args.command.now x c.in-Workload.is refl tt
    (alone x c.args.lines.now (g.S.Source.left c.args.source.now) c.args.self.now.parts (g.D.Disk.image c.args.disk.now) r.new.self.parts (g.D.Disk.image r.new.disk) r.result (LeftByCrash g.D.Disk c.args.disk.now r.new.disk) refl (λ e. r.ensures.no_read e, λ e. r.ensures.no_limit e) r.ensures.comes r.ensures.crash)
    (record { store = r.ensures.store; read = λ e. absurd (r.ensures.no_read e); limit = λ e. absurd (r.ensures.no_limit e); store_read = r.ensures.store_read }) r.ensures.file r.ensures.disk (λ e. absurd (false≢true (sym e)))

pub returns-in-Create-clause-carries : goal.returns-in-Create-clause-carries
returns-in-Create-clause-carries g c =
    let r = c.create in
    writing_carries r.result c.args.command.now (command.Create c.in-Create.l c.in-Create.k c.in-Create.function) c.in-Create.is refl refl tt refl refl r.ensures.comes r.ensures.store
    (λ e. r.ensures.no_read e, λ e. r.ensures.no_limit e) r.ensures.reads r.ensures.disk r.ensures.crash

pub returns-in-CreateSkewed-clause-carries : goal.returns-in-CreateSkewed-clause-carries
returns-in-CreateSkewed-clause-carries g c =
    let r = c.create-in-CreateSkewed in
    writing_carries r.result c.args.command.now (command.CreateSkewed c.in-CreateSkewed.l c.in-CreateSkewed.k c.in-CreateSkewed.r) c.in-CreateSkewed.is refl refl tt refl refl r.ensures.comes r.ensures.store
    (λ e. r.ensures.no_read e, λ e. r.ensures.no_limit e) r.ensures.reads r.ensures.disk r.ensures.crash

pub returns-in-Upgrade-clause-carries : goal.returns-in-Upgrade-clause-carries
returns-in-Upgrade-clause-carries g c =
    let r = c.upgrade in
    writing_carries r.result c.args.command.now command.Upgrade c.in-Upgrade.is refl refl tt refl refl r.ensures.comes r.ensures.store
    (λ e. r.ensures.no_read e, λ e. r.ensures.no_limit e) r.ensures.reads r.ensures.disk r.ensures.crash

pub returns-in-Certify-clause-carries : goal.returns-in-Certify-clause-carries
returns-in-Certify-clause-carries g c =
    let x = command.Certify c.in-Certify.t c.in-Certify.cols c.in-Certify.count in
    let p = c.args.self.now.parts in
    let image = g.D.Disk.image c.args.disk.now in
    let r = c.certify in
    let comes = r.ensures.comes image in
    let takes = TakesBehind c.in-Certify.count c.args.lines.now (g.S.Source.left c.args.source.now) r.new.lines (g.S.Source.left r.new.source) in
    let short = CutsWithin c.in-Certify.count c.args.lines.now (g.S.Source.left c.args.source.now) r.new.lines (g.S.Source.left r.new.source) in
    others_carry r.result c.args.command.now x c.in-Certify.is refl tt
    (with_crash x takes short p image r.new.self.parts image r.result (LeftByCrash g.D.Disk c.args.disk.now c.args.disk.now) comes
    (λ got. reading_left g.D.Disk g.met.D.Disk.only_now c.args.disk.now c.args.disk.now frames.reads_none x got p r.result r.ensures.no_store))
    (record {
      store = λ e. absurd (r.ensures.no_store e);
      read = r.ensures.read;
      limit = r.ensures.limit;
      store_read = λ e. absurd (fails_no_read x comes.0 p image r.new.self.parts image r.result refl comes.2 e);
    })
    (no_file g.D.Disk x comes.0 p r.new.self.parts c.args.disk.now c.args.disk.now r.result refl comes.2 refl) (reading_treats g.D.Disk c.args.disk.now c.args.disk.now r.result frames.reads_none) (λ e. frames.reads_none)

pub returns-in_default-clause-carries : goal.returns-in_default-clause-carries
returns-in_default-clause-carries g c =
    let hand : is_at_hand c.args.command.now ≡ true = search (rules, c.in_default) in
    let plain : is_verify c.args.command.now ≡ false = search (rules, c.in_default) in
    hand_carries {d = g.D.Disk} {at = c.args.disk.now} c.answer.result g.met.D.Disk.only_now c.args.command.now hand plain (c.answer.ensures.comes (g.D.Disk.image c.args.disk.now)) c.answer.ensures.no_stop c.answer.ensures.swept c.answer.ensures.unswept
