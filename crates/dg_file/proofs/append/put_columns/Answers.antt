use Rattle.std.proofs.Common.{◌≡◌, ℕ, ◌+◌, ◌++◌, List, length, refl, ap, subst, ◌∙◌, arith, length-append}
use Rattle.std.proofs.lemmas.Result.{IfOk-weaker, on_ok_weaker}
use Rattle.dg_disk.proofs.CrashLeavesOnly.{behind_then}
use Rattle.dg_index.specs.FileOfHistory.{Segment, blobs, bytes_of, delta_blobs, list_blobs}
use Rattle.dg_file.specs.Growth.{Moved, Grown}
use Rattle.dg_file.proofs.GrowthMoves.{offset_behind, keep_then, grow_then}
use Rattle.dg_file.proofs.SegmentText.{columns_are}
use Rattle.dg_file.proofs.TidyWrites.{ends_then}
use Rattle.dg_file.proofs.append.put_columns.Goals as goal

-- the bytes of the three parts are those of all columns
sum_is : (s : Segment) → length (list_blobs s.lists) + (length (delta_blobs s.deltas) + length (bytes_of s.piece)) ≡ length (blobs s)
sum_is s =
    let all = ap length (columns_are s) in
    omega (arith, all, length-append (list_blobs s.lists) (delta_blobs s.deltas ++ bytes_of s.piece), length-append (delta_blobs s.deltas) (bytes_of s.piece))

pub put-requires-clause-fits : goal.put-requires-clause-fits
put-requires-clause-fits g c = omega (arith, c.requires.fits, sum_is c.args.segment.now, ap length c.list_columns.ensures)

pub put-requires-2-clause-offset : goal.put-requires-2-clause-offset
put-requires-2-clause-offset g c = offset_behind _ _ c.args.offset _ _ c.in_ok-deltas_offset.ensures.behind c.in_ok-deltas_offset.ensures.written

pub put-requires-2-clause-fits : goal.put-requires-2-clause-fits
put-requires-2-clause-fits g c = omega (arith, c.requires.fits, sum_is c.args.segment.now, c.in_ok-deltas_offset.ensures.behind, ap length c.list_columns.ensures, ap length c.delta_columns.ensures)

pub put-requires-3-clause-offset : goal.put-requires-3-clause-offset
put-requires-3-clause-offset g c = offset_behind _ _ c.in_ok-deltas_offset.deltas_offset _ _ c.in_ok-piece_offset.ensures.behind c.in_ok-piece_offset.ensures.written

pub put-requires-3-clause-fits : goal.put-requires-3-clause-fits
put-requires-3-clause-fits g c =
    omega (arith, c.requires.fits, sum_is c.args.segment.now, c.in_ok-deltas_offset.ensures.behind, c.in_ok-piece_offset.ensures.behind, ap length c.list_columns.ensures, ap length c.delta_columns.ensures, ap length c.piece_columns.ensures)

pub returns-in_err-piece_offset-clause-part : goal.returns-in_err-piece_offset-clause-part
returns-in_err-piece_offset-clause-part g c =
    keep_then _ _ _ c.args.offset c.in_ok-deltas_offset.deltas_offset (omega (arith, c.in_ok-deltas_offset.ensures.behind)) c.put.ensures.part c.in_err-piece_offset.ensures.part

pub returns-clause-behind : goal.returns-clause-behind
returns-clause-behind g c =
    IfOk-weaker c.put-3.result (λ n. n ≡ c.in_ok-piece_offset.piece_offset + length c.piece_columns.result.now) (λ n. n ≡ c.args.offset + length (blobs c.args.segment.now))
    (λ n e. omega (arith, e, sum_is c.args.segment.now, c.in_ok-deltas_offset.ensures.behind, c.in_ok-piece_offset.ensures.behind, ap length c.list_columns.ensures, ap length c.delta_columns.ensures, ap length c.piece_columns.ensures)) c.put-3.ensures.behind

pub returns-clause-part : goal.returns-clause-part
returns-clause-part g c =
    keep_then _ _ _ c.args.offset c.in_ok-deltas_offset.deltas_offset (omega (arith, c.in_ok-deltas_offset.ensures.behind)) c.put.ensures.part
    (keep_then _ _ _ c.in_ok-deltas_offset.deltas_offset c.in_ok-piece_offset.piece_offset (omega (arith, c.in_ok-piece_offset.ensures.behind)) c.put-2.ensures.part c.put-3.ensures.part)

pub returns-clause-written : goal.returns-clause-written
returns-clause-written g c =
    let text : c.list_columns.result.now ++ (c.delta_columns.result.now ++ c.piece_columns.result.now) ≡ blobs c.args.segment.now = (λ i. c.list_columns.ensures i ++ (c.delta_columns.ensures i ++ c.piece_columns.ensures i)) ∙ columns_are c.args.segment.now in
    on_ok_weaker c.put-3.result (λ third. subst (λ (l : List ℕ). Moved (g.D.Disk.image c.args.disk.now) (g.D.Disk.image c.put-3.new.disk) (Grown c.args.offset l)) text
    (grow_then _ _ _ c.args.offset c.in_ok-deltas_offset.deltas_offset _ _ c.in_ok-deltas_offset.ensures.behind c.in_ok-deltas_offset.ensures.written
    (grow_then _ _ _ c.in_ok-deltas_offset.deltas_offset c.in_ok-piece_offset.piece_offset _ _ c.in_ok-piece_offset.ensures.behind c.in_ok-piece_offset.ensures.written third))) c.put-3.ensures.written

pub returns-in_err-piece_offset-clause-crash : goal.returns-in_err-piece_offset-clause-crash
returns-in_err-piece_offset-clause-crash g c =
    behind_then g.D.Disk.moment g.D.Disk.left_since g.D.Disk.may_leave g.met.D.Disk.counts_now c.args.disk.now c.put.new.disk c.put-2.new.disk c.args.offset c.in_ok-deltas_offset.deltas_offset (omega (arith, c.in_ok-deltas_offset.ensures.behind)) c.put.ensures.crash c.put-2.ensures.crash

pub returns-clause-crash : goal.returns-clause-crash
returns-clause-crash g c =
    behind_then g.D.Disk.moment g.D.Disk.left_since g.D.Disk.may_leave g.met.D.Disk.counts_now c.args.disk.now c.put.new.disk c.put-3.new.disk c.args.offset c.in_ok-deltas_offset.deltas_offset (omega (arith, c.in_ok-deltas_offset.ensures.behind)) c.put.ensures.crash
    (behind_then g.D.Disk.moment g.D.Disk.left_since g.D.Disk.may_leave g.met.D.Disk.counts_now c.put.new.disk c.put-2.new.disk c.put-3.new.disk c.in_ok-deltas_offset.deltas_offset c.in_ok-piece_offset.piece_offset (omega (arith, c.in_ok-piece_offset.ensures.behind)) c.put-2.ensures.crash c.put-3.ensures.crash)

pub returns-clause-ends : goal.returns-clause-ends
returns-clause-ends g c =
    let first : ℕ = length c.list_columns.result.now in
    let second : ℕ = length c.delta_columns.result.now in
    let third : ℕ = length c.piece_columns.result.now in
    let all : length (blobs c.args.segment.now) ≡ first + (second + third) =
    omega (arith, sum_is c.args.segment.now, ap length c.list_columns.ensures, ap length c.delta_columns.ensures, ap length c.piece_columns.ensures) in
    on_ok_weaker c.put-3.result (λ last.
    ends_then _ _ _ c.args.offset c.in_ok-deltas_offset.deltas_offset first (second + third) _ c.in_ok-deltas_offset.ensures.behind all c.in_ok-deltas_offset.ensures.ends
    (ends_then _ _ _ c.in_ok-deltas_offset.deltas_offset c.in_ok-piece_offset.piece_offset second third _ c.in_ok-piece_offset.ensures.behind refl c.in_ok-piece_offset.ensures.ends last)) c.put-3.ensures.ends
