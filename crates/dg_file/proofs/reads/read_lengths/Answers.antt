use Rattle.std.proofs.Common.{◌≡◌, false, refl, sym, subst, ◌∙◌, arith}
use Rattle.dg_disk.specs.Image.{HasRange, IsLengthOf, IsRangeOf}
use Rattle.dg_index.specs.ImageText.{is_within}
use Rattle.dg_file.proofs.ImageParts.{some_weaker, range_within, within_short, within_wrong, found_lengths}
use Rattle.dg_file.proofs.reads.read_lengths.Goals as goal

pub read_at-requires : goal.read_at-requires
read_at-requires g c =
    subst (λ x. HasRange x c.args.offset 16) (sym c.length_again.ensures.frame.same_image)
    (range_within _ c.args.offset 16 c.in_ok-begun.begun (omega (arith, c.if-begun-offset.false)) c.in_ok-begun.ensures.len)

pub returns-then-begun-offset-clause-refused : goal.returns-then-begun-offset-clause-refused
returns-then-begun-offset-clause-refused g c =
    some_weaker _ (λ image. is_within image c.args.offset ≡ false) _ (λ image e. (refl, e)) (within_short _ c.args.offset c.in_ok-begun.begun (omega (arith, c.if-begun-offset.true)) c.in_ok-begun.ensures.len)

pub returns-then-fit_in-clause-lengths : goal.returns-then-fit_in-clause-lengths
returns-then-fit_in-clause-lengths g c =
    found_lengths _ c.read_at.new.into c.args.offset c.read-lengths.result (omega (arith, c.read_at.auto.into)) c.read-lengths.ensures
    (subst (λ x. IsRangeOf x c.args.offset c.read_at.new.into) c.length_again.ensures.frame.same_image c.in_ok-read_at.ensures.read)

pub returns-else-fit_in-clause-refused : goal.returns-else-fit_in-clause-refused
returns-else-fit_in-clause-refused g c =
    let first = c.length_again.ensures.frame.same_image in
    some_weaker _ (λ image. is_within image c.args.offset ≡ false) _ (λ image e. (refl, e))
    (within_wrong (g.D.Disk.image c.args.disk.now) c.read_at.new.into c.args.offset c.in_ok-ended.ended c.read-lengths.result (omega (arith, c.read_at.auto.into)) c.read-lengths.ensures (sym c.fit_in-2.ensures ∙ c.if-fit_in.false)
    (subst (λ x. IsLengthOf x c.in_ok-ended.ended) (c.read_at.ensures.frame.same_image ∙ first) c.in_ok-ended.ensures.len)
    (subst (λ x. IsRangeOf x c.args.offset c.read_at.new.into) first c.in_ok-read_at.ensures.read))
