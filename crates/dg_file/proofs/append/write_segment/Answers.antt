use Rattle.std.proofs.Common.{◌≡◌, ℕ, ◌+◌, ◌++◌, ◌∷◌, List, [], length, refl, sym, subst, append_assoc, arith, length-append}
use Rattle.dg_disk.proofs.CrashLeavesOnly.{behind_then, keeps_on}
use Rattle.dg_disk.specs.Crash.{LeavesOnly, TornBehind}
use Rattle.dg_index.specs.FileOfHistory.{blobs}
use Rattle.dg_file.specs.Growth.{EndsBy, Moved, Grown, KeepsFront}
use Rattle.dg_file.proofs.GrowthMoves.{offset_behind, keep_then, grow_then, on_ok_any}
use Rattle.dg_file.proofs.TidyWrites.{ends_then}
use Rattle.dg_file.proofs.append.write_segment.Goals as goal

pub put-requires-clause-fits : goal.put-requires-clause-fits
put-requires-clause-fits g c = omega (arith, c.requires.fits)

pub put_columns-requires-clause-offset : goal.put_columns-requires-clause-offset
put_columns-requires-clause-offset g c = offset_behind _ _ c.args.offset _ _ c.in_ok-columns_offset.ensures.behind c.in_ok-columns_offset.ensures.written

pub put_columns-requires-clause-fits : goal.put_columns-requires-clause-fits
put_columns-requires-clause-fits g c = omega (arith, c.requires.fits, c.in_ok-columns_offset.ensures.behind)

pub put-requires-2-clause-offset : goal.put-requires-2-clause-offset
put-requires-2-clause-offset g c = offset_behind _ _ c.in_ok-columns_offset.columns_offset _ _ c.in_ok-gate_offset.ensures.behind c.in_ok-gate_offset.ensures.written

pub put-requires-2-clause-fits : goal.put-requires-2-clause-fits
put-requires-2-clause-fits g c = omega (arith, c.requires.fits, c.in_ok-columns_offset.ensures.behind, c.in_ok-gate_offset.ensures.behind)

pub returns-in_err-gate_offset-clause-part : goal.returns-in_err-gate_offset-clause-part
returns-in_err-gate_offset-clause-part g c =
    keep_then _ _ _ c.args.offset c.in_ok-columns_offset.columns_offset (omega (arith, c.in_ok-columns_offset.ensures.behind)) c.put.ensures.part c.in_err-gate_offset.ensures.part

pub returns-in_err-put-clause-part : goal.returns-in_err-put-clause-part
returns-in_err-put-clause-part g c =
    keep_then _ _ _ c.args.offset c.in_ok-columns_offset.columns_offset (omega (arith, c.in_ok-columns_offset.ensures.behind)) c.put.ensures.part
    (keep_then _ _ _ c.in_ok-columns_offset.columns_offset c.in_ok-gate_offset.gate_offset (omega (arith, c.in_ok-gate_offset.ensures.behind)) c.put_columns.ensures.part c.in_err-put.ensures.part)

pub returns-clause-part : goal.returns-clause-part
returns-clause-part g c =
    let all : Moved (g.D.Disk.image c.args.disk.now) (g.D.Disk.image c.put-2.new.disk) (KeepsFront c.args.offset) =
    keep_then _ _ _ c.args.offset c.in_ok-columns_offset.columns_offset (omega (arith, c.in_ok-columns_offset.ensures.behind)) c.put.ensures.part
    (keep_then _ _ _ c.in_ok-columns_offset.columns_offset c.in_ok-gate_offset.gate_offset (omega (arith, c.in_ok-gate_offset.ensures.behind)) c.put_columns.ensures.part c.put-2.ensures.part) in
    subst (λ z. Moved (g.D.Disk.image c.args.disk.now) z (KeepsFront c.args.offset)) (sym c.sync.ensures.frame.same_image) all

pub returns-clause-written : goal.returns-clause-written
returns-clause-written g c =
    let text : List ℕ = c.args.head.now ++ blobs c.args.segment.now ++ 0 ∷ [] in
    let all : Moved (g.D.Disk.image c.args.disk.now) (g.D.Disk.image c.put-2.new.disk) (Grown c.args.offset (c.args.head.now ++ (blobs c.args.segment.now ++ 0 ∷ []))) =
    grow_then _ _ _ c.args.offset c.in_ok-columns_offset.columns_offset _ _ c.in_ok-columns_offset.ensures.behind c.in_ok-columns_offset.ensures.written
    (grow_then _ _ _ c.in_ok-columns_offset.columns_offset c.in_ok-gate_offset.gate_offset _ _ c.in_ok-gate_offset.ensures.behind c.in_ok-gate_offset.ensures.written c.in_ok-put.ensures.written) in
    let spelled : Moved (g.D.Disk.image c.args.disk.now) (g.D.Disk.image c.put-2.new.disk) (Grown c.args.offset text) =
    subst (λ (l : List ℕ). Moved (g.D.Disk.image c.args.disk.now) (g.D.Disk.image c.put-2.new.disk) (Grown c.args.offset l)) (sym (append_assoc c.args.head.now (blobs c.args.segment.now) (0 ∷ []))) all in
    on_ok_any c.sync.result (subst (λ z. Moved (g.D.Disk.image c.args.disk.now) z (Grown c.args.offset text)) (sym c.sync.ensures.frame.same_image) spelled)

pub returns-in_err-gate_offset-clause-crash : goal.returns-in_err-gate_offset-clause-crash
returns-in_err-gate_offset-clause-crash g c =
    behind_then g.D.Disk.moment g.D.Disk.left_since g.D.Disk.may_leave g.met.D.Disk.counts_now c.args.disk.now c.put.new.disk c.put_columns.new.disk c.args.offset c.in_ok-columns_offset.columns_offset (omega (arith, c.in_ok-columns_offset.ensures.behind)) c.put.ensures.crash c.put_columns.ensures.crash

pub returns-in_err-put-clause-crash : goal.returns-in_err-put-clause-crash
returns-in_err-put-clause-crash g c =
    behind_then g.D.Disk.moment g.D.Disk.left_since g.D.Disk.may_leave g.met.D.Disk.counts_now c.args.disk.now c.put.new.disk c.put-2.new.disk c.args.offset c.in_ok-columns_offset.columns_offset (omega (arith, c.in_ok-columns_offset.ensures.behind)) c.put.ensures.crash
    (behind_then g.D.Disk.moment g.D.Disk.left_since g.D.Disk.may_leave g.met.D.Disk.counts_now c.put.new.disk c.put_columns.new.disk c.put-2.new.disk c.in_ok-columns_offset.columns_offset c.in_ok-gate_offset.gate_offset (omega (arith, c.in_ok-gate_offset.ensures.behind)) c.put_columns.ensures.crash c.put-2.ensures.crash)

pub returns-clause-crash : goal.returns-clause-crash
returns-clause-crash g c =
    let run : LeavesOnly g.D.Disk.moment g.D.Disk.left_since c.args.disk.now c.put-2.new.disk (TornBehind c.args.offset (g.D.Disk.may_leave c.args.disk.now)) =
    behind_then g.D.Disk.moment g.D.Disk.left_since g.D.Disk.may_leave g.met.D.Disk.counts_now c.args.disk.now c.put.new.disk c.put-2.new.disk c.args.offset c.in_ok-columns_offset.columns_offset (omega (arith, c.in_ok-columns_offset.ensures.behind)) c.put.ensures.crash
    (behind_then g.D.Disk.moment g.D.Disk.left_since g.D.Disk.may_leave g.met.D.Disk.counts_now c.put.new.disk c.put_columns.new.disk c.put-2.new.disk c.in_ok-columns_offset.columns_offset c.in_ok-gate_offset.gate_offset (omega (arith, c.in_ok-gate_offset.ensures.behind)) c.put_columns.ensures.crash c.put-2.ensures.crash) in
    keeps_on g.D.Disk.moment g.D.Disk.left_since c.args.disk.now c.put-2.new.disk c.sync.new.self (TornBehind c.args.offset (g.D.Disk.may_leave c.args.disk.now)) run c.sync.ensures.frame.later c.sync.ensures.frame.since

pub returns-clause-ends : goal.returns-clause-ends
returns-clause-ends g c =
    let first : ℕ = length c.args.head.now in
    let second : ℕ = length (blobs c.args.segment.now) in
    let many : ℕ = length (c.args.head.now ++ blobs c.args.segment.now) + 1 in
    let all : many ≡ first + (second + 1) = omega (arith, length-append c.args.head.now (blobs c.args.segment.now)) in
    let run : Moved (g.D.Disk.image c.args.disk.now) (g.D.Disk.image c.put-2.new.disk) (EndsBy c.args.offset many) =
    ends_then _ _ _ c.args.offset c.in_ok-columns_offset.columns_offset first (second + 1) _ c.in_ok-columns_offset.ensures.behind all c.in_ok-columns_offset.ensures.ends
    (ends_then _ _ _ c.in_ok-columns_offset.columns_offset c.in_ok-gate_offset.gate_offset second 1 _ c.in_ok-gate_offset.ensures.behind refl c.in_ok-gate_offset.ensures.ends c.in_ok-put.ensures.ends) in
    on_ok_any c.sync.result (subst (λ z. Moved (g.D.Disk.image c.args.disk.now) z (EndsBy c.args.offset many)) (sym c.sync.ensures.frame.same_image) run)
