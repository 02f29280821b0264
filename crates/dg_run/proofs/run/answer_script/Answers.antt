use Rattle.std.proofs.Common.{refl, sym, ◌∙◌, subst}
use Rattle.dg_disk.specs.Calls.{LeftByCrash}
use Rattle.dg_turns.specs.Ends.{streams}
use Rattle.dg_run.specs.declared.status.Status.{Status}
use Rattle.dg_run.specs.Outside.{outside}
use Rattle.dg_run.specs.Turns.{ScriptAnswered}
use Rattle.dg_run.proofs.ServedRuns.{script_answered, stays_on_device}
use Rattle.dg_run.proofs.run.answer_script.Goals as goal

pub answer_script-end-requires-clause-takes : goal.answer_script-end-requires-clause-takes
answer_script-end-requires-clause-takes g c κs within = λ line command is. tt

pub returns-clause-answered : goal.returns-clause-answered
returns-clause-answered g c =
    subst (λ (s : Status). ScriptAnswered c.args.limit c.args.session.parts s (outside g.S.Source g.K.Sink g.D.Disk c.args.source.now c.args.sink.now c.args.disk.now)
    (outside g.S.Source g.K.Sink g.D.Disk c.answer_script-end.new.source c.answer_script-end.new.sink c.answer_script-end.new.world) (LeftByCrash g.D.Disk c.args.disk.now c.answer_script-end.new.world)) (sym c.from.ensures)
    (script_answered {parts = λ m. m.session.parts} c.args.limit (streams g.S.Source g.K.Sink c.args.source.now c.args.sink.now) (streams g.S.Source g.K.Sink c.answer_script-end.new.source c.answer_script-end.new.sink)
    _ c.answer_script-end.new.machine c.args.disk.now c.answer_script-end.new.world c.answer_script-end.result c.answer_script-end.ensures.ran
    (record { texts = λ m. refl; answers = λ command got m at then_m then_at reply a. a; breaks = λ command got m at then_m then_at b. b; stays = λ m at then_m then_at s. s; only_now = g.met.D.Disk.only_now }))

pub returns-clause-on_device : goal.returns-clause-on_device
returns-clause-on_device g c = λ other.
    stays_on_device {d = g.D.Disk} {parts = λ m. m.session.parts} c.args.limit (streams g.S.Source g.K.Sink c.args.source.now c.args.sink.now) (streams g.S.Source g.K.Sink c.answer_script-end.new.source c.answer_script-end.new.sink)
    _ c.answer_script-end.new.machine c.args.disk.now c.answer_script-end.new.world c.answer_script-end.result c.answer_script-end.ensures.ran
    (record { texts = λ m. refl; answers = λ command got m at then_m then_at reply a. a; breaks = λ command got m at then_m then_at b. b; stays = λ m at then_m then_at s. s; only_now = g.met.D.Disk.only_now })
    (λ e. other (c.from.ensures ∙ e))
