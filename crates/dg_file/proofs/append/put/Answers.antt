use Rattle.std.proofs.Common.{◌≡◌, ◌≤◌, [], length, refl, sym, ◌∙◌}
use Rattle.std.proofs.lemmas.Bool.{eqb-true}
use Rattle.std.proofs.lemmas.List.{nil_from_length}
use Rattle.dg_disk.proofs.CrashLeavesOnly.{nothing_behind, writes_behind}
use Rattle.dg_file.proofs.GrowthMoves.{moved_same, moved_put, moved_part, none_grows, none_keeps, put_grows, put_keeps}
use Rattle.dg_file.proofs.TidyWrites.{none_ends, put_ends}
use Rattle.dg_file.proofs.append.put.Goals as goal

pub returns-then-is_empty-clause-written : goal.returns-then-is_empty-clause-written
returns-then-is_empty-clause-written g c =
    let none : c.args.piece.now ≡ [] = nil_from_length c.args.piece.now (eqb-true _ _ (sym c.is_empty.ensures ∙ c.if-is_empty.true)) in
    moved_same _ _ (λ a. c.args.offset ≤ length a) _ (λ a le. none_grows c.args.offset c.args.piece.now a none le) c.requires.offset refl

pub returns-then-is_empty-clause-part : goal.returns-then-is_empty-clause-part
returns-then-is_empty-clause-part g c = moved_same _ _ (λ a. c.args.offset ≤ length a) _ (λ a le. none_keeps c.args.offset a le) c.requires.offset refl

pub returns-in_err-write_at-clause-part : goal.returns-in_err-write_at-clause-part
returns-in_err-write_at-clause-part g c =
    moved_part _ _ c.args.offset (length c.args.piece.now) (λ a. c.args.offset ≤ length a) _ (λ a bytes le few. put_keeps c.args.offset bytes a le) c.requires.offset c.in_err-write_at.ensures.part

pub returns-clause-written : goal.returns-clause-written
returns-clause-written g c =
    moved_put _ _ c.args.offset c.args.piece.now (λ a. c.args.offset ≤ length a) _ (λ a le. put_grows c.args.offset c.args.piece.now a le) c.requires.offset c.in_ok-write_at.ensures.written

pub returns-clause-part : goal.returns-clause-part
returns-clause-part g c =
    moved_put _ _ c.args.offset c.args.piece.now (λ a. c.args.offset ≤ length a) _ (λ a le. put_keeps c.args.offset c.args.piece.now a le) c.requires.offset c.in_ok-write_at.ensures.written

pub returns-then-is_empty-clause-crash : goal.returns-then-is_empty-clause-crash
returns-then-is_empty-clause-crash g c =
    nothing_behind g.D.Disk.moment g.D.Disk.left_since g.D.Disk.may_leave g.met.D.Disk.only_now c.args.disk.now c.args.offset

pub returns-in_err-write_at-clause-crash : goal.returns-in_err-write_at-clause-crash
returns-in_err-write_at-clause-crash g c =
    writes_behind g.D.Disk.moment g.D.Disk.left_since g.D.Disk.may_leave g.met.D.Disk.only_now c.args.disk.now c.write_at.new.self c.args.offset (length c.args.piece.now) c.write_at.ensures.crash c.write_at.ensures.time

pub returns-clause-crash : goal.returns-clause-crash
returns-clause-crash g c =
    writes_behind g.D.Disk.moment g.D.Disk.left_since g.D.Disk.may_leave g.met.D.Disk.only_now c.args.disk.now c.write_at.new.self c.args.offset (length c.args.piece.now) c.write_at.ensures.crash c.write_at.ensures.time

pub returns-then-is_empty-clause-ends : goal.returns-then-is_empty-clause-ends
returns-then-is_empty-clause-ends g c = moved_same _ _ (λ a. c.args.offset ≤ length a) _ (λ a le. none_ends c.args.offset c.args.piece.now a) c.requires.offset refl

pub returns-clause-ends : goal.returns-clause-ends
returns-clause-ends g c =
    moved_put _ _ c.args.offset c.args.piece.now (λ a. c.args.offset ≤ length a) _ (λ a le. put_ends c.args.offset c.args.piece.now a le) c.requires.offset c.in_ok-write_at.ensures.written
