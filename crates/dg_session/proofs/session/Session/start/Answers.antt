use Rattle.std.proofs.Common.{◌≡◌, ℕ, Option, false}
use Rattle.std.specs.Prelude.{IfErr, IfSome}
use Rattle.dg_history.specs.History.{History}
use Rattle.dg_index.specs.ImageOfHistory.{StandsAs}
use Rattle.dg_session.proofs.SessionStartChecks.{IsNoFault, begins_unchecked, checked_begins, checked_new, checked_never, checked_refused, checked_standing, checked_stands, never_started}
use Rattle.dg_session.proofs.CommandDisks.{answers_stay}
use Rattle.dg_session.proofs.SessionSteps.{handed_out}
use Rattle.dg_session.proofs.StartReads.{failing_reads, not_both}
use Rattle.dg_start.specs.Calls.{TakesStart}
use Rattle.dg_session.specs.declared.session_fault.SessionFault.TheVariants as fault
use Rattle.dg_session.proofs.session.Session.start.Goals as goal

-- ---- it is not started from

pub returns-in_err-session-clause-never : goal.returns-in_err-session-clause-never
returns-in_err-session-clause-never g c =
    let told = g.D.Disk.image c.args.disk.now in
    handed_out c.from_residual.result (fault.Start c.in_err-session.field-0.0)
    (λ r. IfErr r (λ f. IfSome told (λ image. (index : Option History) → StandsAs index image → IsNoFault f))) c.from_residual.ensures
    (never_started c.in_err-session.field-0.0 told c.in_err-session.ensures.never)

-- ---- it is not checked

pub returns-else-checked-clause-started : goal.returns-else-checked-clause-started
returns-else-checked-clause-started g c =
    begins_unchecked c.args.checked c.in_ok-session.session.parts (g.D.Disk.image c.args.disk.now) c.if-checked.false c.in_ok-session.ensures.started

-- ---- it is checked

pub returns-then-checked-clause-started : goal.returns-then-checked-clause-started
returns-then-checked-clause-started g c =
    checked_begins c.args.checked c.in_ok-session.session c.checked.result (g.D.Disk.image c.args.disk.now) (g.D.Disk.image c.begin.new.disk)
    c.checked.ensures.same c.begin.ensures.disk.same_image c.in_ok-session.ensures.started c.checked.ensures.sound

pub returns-then-checked-clause-new : goal.returns-then-checked-clause-new
returns-then-checked-clause-new g c =
    checked_new c.args.limits c.in_ok-session.session c.checked.result (g.D.Disk.image c.begin.new.disk) (g.D.Disk.image c.checked.new.disk)
    c.checked.ensures.same c.checked.ensures.disk.same_image c.in_ok-session.ensures.new c.in_ok-session.ensures.held

pub returns-then-checked-clause-settled : goal.returns-then-checked-clause-settled
returns-then-checked-clause-settled g c = answers_stay g.D.Disk c.checked.result c.begin.new.disk c.checked.new.disk c.checked.ensures.disk c.in_ok-session.ensures.settled

pub returns-then-checked-clause-stands : goal.returns-then-checked-clause-stands
returns-then-checked-clause-stands g c =
    checked_stands c.args.limits c.in_ok-session.session c.checked.result (g.D.Disk.image c.args.disk.now) c.checked.ensures.same c.in_ok-session.ensures.stands

pub returns-then-checked-clause-checked : goal.returns-then-checked-clause-checked
returns-then-checked-clause-checked g c =
    checked_standing _ c.law_sound_files_stand.ensures c.in_ok-session.session c.checked.result (g.D.Disk.image c.args.disk.now) (g.D.Disk.image c.begin.new.disk)
    c.begin.ensures.disk.same_image c.in_ok-session.ensures.held c.checked.ensures.sound

pub returns-then-checked-clause-takes : goal.returns-then-checked-clause-takes
returns-then-checked-clause-takes g c off = absurd (not_both c.args.checked c.if-checked.true off)

pub returns-in_err-session-clause-takes : goal.returns-in_err-session-clause-takes
returns-in_err-session-clause-takes g c =
    let told = g.D.Disk.image c.args.disk.now in
    let before : ℕ = g.D.Disk.taken c.args.disk.now in
    let after : ℕ = g.D.Disk.taken c.begin.new.disk in
    handed_out c.from_residual.result (fault.Start c.in_err-session.field-0.0) (λ r. c.args.checked ≡ false → IfSome told (λ image. TakesStart r image before after)) c.from_residual.ensures
    (λ off. failing_reads _ _ _ _ before after c.in_err-session.field-0.0 (fault.Start c.in_err-session.field-0.0) told c.in_err-session.ensures.takes)

pub returns-then-checked-clause-refused : goal.returns-then-checked-clause-refused
returns-then-checked-clause-refused g c =
    checked_refused c.args.checked c.in_ok-session.session c.checked.result (g.D.Disk.image c.args.disk.now) (g.D.Disk.image c.begin.new.disk)
    c.if-checked.true c.begin.ensures.disk.same_image c.in_ok-session.ensures.started c.checked.ensures.fails

pub returns-then-checked-clause-never : goal.returns-then-checked-clause-never
returns-then-checked-clause-never g c =
    checked_never c.law_images_are_opened.ensures c.law_standing_files_are_sound.ensures c.checked.result (g.D.Disk.image c.args.disk.now) (g.D.Disk.image c.begin.new.disk)
    c.begin.ensures.disk.same_image c.checked.ensures.fails
