use Rattle.std.proofs.Common.{◌≡◌, true, length, ap, arith}
use Rattle.dg_disk.specs.Image.{PartWritten}
use Rattle.dg_disk.proofs.CrashTold.{told_widens}
use Rattle.dg_index.specs.ImageOfHistory.{is_blank}
use Rattle.dg_file.specs.Images.{IsMadeInPart}
use Rattle.dg_file.proofs.GrowthCrashes.{told_then}
use Rattle.std.proofs.lemmas.Result.{on_ok_weaker, on_err_weaker}
use Rattle.dg_file.proofs.GrowthMoves.{on_err_any}
use Rattle.dg_file.proofs.GrowthCreations.{offset_zero, offset_one, made_first, made_first_part, made_second, made_second_part, made_third, made_third_part, torn_first, torn_second, torn_third, rest_long, Closed, Written}
use Rattle.dg_file.proofs.TidyWrites.{made_exact}
use Rattle.dg_file.proofs.creation.write_header.Goals as goal

pub put_down-requires : goal.put_down-requires
put_down-requires g c = offset_zero _

pub put_down-requires-2 : goal.put_down-requires-2
put_down-requires-2 g c = offset_one c.args.form c.args.params _ _ (made_first c.args.form c.args.params _ _ c.requires.blank c.in_ok-put_down.ensures.written)

pub put_down-requires-3 : goal.put_down-requires-3
put_down-requires-3 g c = offset_zero _

pub returns-in_err-put_down-clause-part : goal.returns-in_err-put_down-clause-part
returns-in_err-put_down-clause-part g c = on_err_any c.from_residual.result (made_first_part c.args.form c.args.params _ _ c.requires.blank c.in_err-put_down.ensures.part)

pub returns-in_err-put_down-2-clause-part : goal.returns-in_err-put_down-2-clause-part
returns-in_err-put_down-2-clause-part g c =
    let w = c.in_err-put_down-2.ensures.part in
    on_err_any c.from_residual-in_err-put_down-2.result (made_second_part c.args.form c.args.params _ _ _ (made_first c.args.form c.args.params _ _ c.requires.blank c.in_ok-put_down.ensures.written) (w.0, omega (arith, w.1, ap length c.header_behind_gate.ensures, rest_long c.args.form c.args.params), w.2))

pub returns-clause-part : goal.returns-clause-part
returns-clause-part g c =
    on_err_weaker c.put_down-3.result (made_third_part c.args.form c.args.params _ _ _ (record { parameters = c.requires.parameters; function = c.requires.function; form = c.requires.form; first = c.requires.first }) (made_second c.args.form c.args.params _ _ _ _ c.header_behind_gate.ensures (made_first c.args.form c.args.params _ _ c.requires.blank c.in_ok-put_down.ensures.written) c.in_ok-put_down-2.ensures.written)) c.put_down-3.ensures.part

pub returns-clause-image : goal.returns-clause-image
returns-clause-image g c =
    on_ok_weaker c.put_down-3.result (made_third c.args.form c.args.params _ _ _ (record { parameters = c.requires.parameters; function = c.requires.function; form = c.requires.form; first = c.requires.first }) (made_second c.args.form c.args.params _ _ _ _ c.header_behind_gate.ensures (made_first c.args.form c.args.params _ _ c.requires.blank c.in_ok-put_down.ensures.written) c.in_ok-put_down-2.ensures.written)) c.put_down-3.ensures.written

pub returns-in_err-put_down-clause-crash : goal.returns-in_err-put_down-clause-crash
returns-in_err-put_down-clause-crash g c =
    told_widens g.D.Disk.moment g.D.Disk.left_since g.D.Disk.may_leave (g.D.Disk.image c.args.disk.now) c.args.disk.now c.put_down.new.disk (λ a. is_blank a ≡ true) (PartWritten 0 1) (IsMadeInPart c.args.form c.args.params) (λ a e blank part. torn_first c.args.form c.args.params a e blank part) c.requires.blank c.put_down.ensures.crash

pub returns-in_err-put_down-2-clause-crash : goal.returns-in_err-put_down-2-clause-crash
returns-in_err-put_down-2-clause-crash g c =
    told_then g.D.Disk.moment g.D.Disk.left_since g.D.Disk.may_leave (g.D.Disk.image c.args.disk.now) (g.D.Disk.image c.put_down.new.disk) c.args.disk.now c.put_down.new.disk c.put_down-2.new.disk
    Closed (PartWritten 1 (length c.header_behind_gate.result)) (IsMadeInPart c.args.form c.args.params) (λ a b e closed part. torn_second c.args.form c.args.params a b e closed (part.0, omega (arith, part.1, ap length c.header_behind_gate.ensures, rest_long c.args.form c.args.params), part.2)) (made_first c.args.form c.args.params _ _ c.requires.blank c.in_ok-put_down.ensures.written)
    (told_widens g.D.Disk.moment g.D.Disk.left_since g.D.Disk.may_leave (g.D.Disk.image c.args.disk.now) c.args.disk.now c.put_down.new.disk (λ a. is_blank a ≡ true) (PartWritten 0 1) (IsMadeInPart c.args.form c.args.params) (λ a e blank part. torn_first c.args.form c.args.params a e blank part) c.requires.blank c.put_down.ensures.crash) c.in_ok-put_down.ensures.settled c.put_down-2.ensures.crash

pub returns-clause-crash : goal.returns-clause-crash
returns-clause-crash g c =
    told_then g.D.Disk.moment g.D.Disk.left_since g.D.Disk.may_leave (g.D.Disk.image c.args.disk.now) (g.D.Disk.image c.put_down-2.new.disk) c.args.disk.now c.put_down-2.new.disk c.put_down-3.new.disk
    (Written c.args.form c.args.params) (PartWritten 0 1) (IsMadeInPart c.args.form c.args.params) (λ a b e written part. torn_third c.args.form c.args.params (record { parameters = c.requires.parameters; function = c.requires.function; form = c.requires.form; first = c.requires.first }) a b e written part)
    (made_second c.args.form c.args.params _ _ _ _ c.header_behind_gate.ensures (made_first c.args.form c.args.params _ _ c.requires.blank c.in_ok-put_down.ensures.written) c.in_ok-put_down-2.ensures.written)
    (told_then g.D.Disk.moment g.D.Disk.left_since g.D.Disk.may_leave (g.D.Disk.image c.args.disk.now) (g.D.Disk.image c.put_down.new.disk) c.args.disk.now c.put_down.new.disk c.put_down-2.new.disk
    Closed (PartWritten 1 (length c.header_behind_gate.result)) (IsMadeInPart c.args.form c.args.params) (λ a b e closed part. torn_second c.args.form c.args.params a b e closed (part.0, omega (arith, part.1, ap length c.header_behind_gate.ensures, rest_long c.args.form c.args.params), part.2)) (made_first c.args.form c.args.params _ _ c.requires.blank c.in_ok-put_down.ensures.written)
    (told_widens g.D.Disk.moment g.D.Disk.left_since g.D.Disk.may_leave (g.D.Disk.image c.args.disk.now) c.args.disk.now c.put_down.new.disk (λ a. is_blank a ≡ true) (PartWritten 0 1) (IsMadeInPart c.args.form c.args.params) (λ a e blank part. torn_first c.args.form c.args.params a e blank part) c.requires.blank c.put_down.ensures.crash) c.in_ok-put_down.ensures.settled c.put_down-2.ensures.crash)
    c.in_ok-put_down-2.ensures.settled c.put_down-3.ensures.crash

pub returns-clause-exact : goal.returns-clause-exact
returns-clause-exact g c =
    on_ok_weaker c.put_down-3.result
    (made_exact c.args.form c.args.params _ _ _ c.requires.first (made_second c.args.form c.args.params _ _ _ _ c.header_behind_gate.ensures (made_first c.args.form c.args.params _ _ c.requires.blank c.in_ok-put_down.ensures.written) c.in_ok-put_down-2.ensures.written))
    c.put_down-3.ensures.written
