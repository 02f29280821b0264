use Rattle.std.proofs.Common.{◌≡◌, ℕ, ◌+◌, ◌≤◌, length, sym, ap, subst, ◌∙◌, arith}
use Rattle.std.specs.Prelude.{IfSome}
use Rattle.dg_disk.proofs.CrashTold.{settled_on}
use Rattle.dg_disk.specs.Counts.{raised_by}
use Rattle.dg_index.specs.OpenedIndex.{Opening}
use Rattle.dg_file.specs.Headers.{IsFoundIn}
use Rattle.dg_file.specs.Index.{opening_bytes}
use Rattle.dg_file.proofs.ImageParts.{found_length, some_weaker}
use Rattle.dg_file.proofs.GrowthMoves.{on_err_any}
use Rattle.dg_index.specs.IndexGrowth.{name_total}
use Rattle.dg_file.proofs.HeaderSegments.{begun}
use Rattle.dg_file.proofs.OpenedBytes.{never_blank}
use Rattle.dg_file.specs.Images.{RefusesOpening, taken_after}
use Rattle.dg_file.specs.OpeningBytes.{blank_bytes}
use Rattle.dg_index.specs.OpenedIndex.{opening}
use Rattle.dg_file.proofs.index.Index.reopen.Goals as goal

pub read_segments-requires-clause-so_far : goal.read_segments-requires-clause-so_far
read_segments-requires-clause-so_far g c =
    let h = subst (λ x. IfSome x (λ image. IsFoundIn image c.in_ok-found.found)) (sym c.read_header.ensures.frame.same_image) c.in_ok-found.ensures.found in
    begun _ c.in_ok-found.found c.empty-index.result.opening c.args.names.now c.in_ok-found.ensures.long c.empty-index.ensures c.requires.names h

pub read_segments-requires-clause-len : goal.read_segments-requires-clause-len
read_segments-requires-clause-len g c =
    let h = subst (λ x. IfSome x (λ image. IsFoundIn image c.in_ok-found.found)) (sym c.read_header.ensures.frame.same_image) c.in_ok-found.ensures.found in
    found_length _ c.in_ok-found.found h

pub read_segments-requires-clause-within : goal.read_segments-requires-clause-within
read_segments-requires-clause-within g c = omega (arith, c.in_ok-found.ensures.long, ap (λ (o : Opening). o.used) c.empty-index.ensures)

pub read_segments-requires-clause-counted_names : goal.read_segments-requires-clause-counted_names
read_segments-requires-clause-counted_names g c =
    ap length c.requires.names ∙ sym (ap (λ (o : Opening). name_total o.batches) c.empty-index.ensures)

pub returns-in_err-read_segments-clause-bounded : goal.returns-in_err-read_segments-clause-bounded
returns-in_err-read_segments-clause-bounded g c =
    let was = g.D.Disk.taken c.args.disk.now in
    on_err_any c.from_residual-in_err-read_segments.result
    (some_weaker (g.D.Disk.image c.args.disk.now) (λ image. (t : ℕ) → g.D.Disk.taken c.read_header.new.disk ≡ raised_by (opening_bytes c.empty-index.result.opening) t → g.D.Disk.taken c.read_segments.new.disk ≤ t + length image) (λ image. g.D.Disk.taken c.read_segments.new.disk ≤ was + length image)
    (λ image most. most was (omega (arith, c.in_ok-found.ensures.taken, ap opening_bytes c.empty-index.ensures)))
    (subst (λ x. IfSome x (λ image. (t : ℕ) → g.D.Disk.taken c.read_header.new.disk ≡ raised_by (opening_bytes c.empty-index.result.opening) t → g.D.Disk.taken c.read_segments.new.disk ≤ t + length image)) c.read_header.ensures.frame.same_image c.in_err-read_segments.ensures.bounded))

pub returns-in_err-read_segments-clause-blank : goal.returns-in_err-read_segments-clause-blank
returns-in_err-read_segments-clause-blank g c is =
    let told = g.D.Disk.image c.args.disk.now in
    never_blank told c.from_residual-in_err-read_segments.result c.in_err-read_segments.field-0.0 c.in_ok-found.found
    (λ image. g.D.Disk.taken c.read_segments.new.disk ≡ taken_after (blank_bytes image) (g.D.Disk.taken c.args.disk.now)) c.from_residual-in_err-read_segments.ensures c.in_ok-found.ensures.found
    (subst (λ x. IfSome x (λ image. RefusesOpening c.in_err-read_segments.field-0.0 (opening image))) c.read_header.ensures.frame.same_image c.in_err-read_segments.ensures.refused) is

pub returns-clause-settled : goal.returns-clause-settled
returns-clause-settled g c =
    settled_on _ _ _ _ c.read_segments.ensures.frame.same_image c.read_segments.ensures.frame.leaves c.in_ok-found.ensures.settled

pub returns-in_err-read_segments-clause-settled_blank : goal.returns-in_err-read_segments-clause-settled_blank
returns-in_err-read_segments-clause-settled_blank g c = λ _.
    settled_on _ _ _ _ c.read_segments.ensures.frame.same_image c.read_segments.ensures.frame.leaves c.in_ok-found.ensures.settled
