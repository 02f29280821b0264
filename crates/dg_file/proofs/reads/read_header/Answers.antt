use Rattle.std.proofs.Common.{refl, sym, subst, ◌∙◌, arith}
use Rattle.dg_disk.specs.Image.{IsLengthOf, IsRangeOf}
use Rattle.dg_disk.proofs.CrashTold.{settled_on}
use Rattle.dg_file.proofs.ImageParts.{range_within, blank_short_image, blank_closed_image, foreign_image, found_image}
use Rattle.dg_file.proofs.OpenedBytes.{foreign_reads}
use Rattle.dg_file.proofs.reads.read_header.Goals as goal

pub read_at-requires : goal.read_at-requires
read_at-requires g c =
    range_within _ 0 18 c.in_ok-len.len (omega (arith, c.if-len.false)) (subst (λ x. IsLengthOf x c.in_ok-len.len) (sym c.len.ensures.frame.same_image) c.in_ok-len.ensures.len)

pub returns-then-len-clause-refused : goal.returns-then-len-clause-refused
returns-then-len-clause-refused g c =
    blank_short_image _ c.in_ok-len.len (omega (arith, c.if-len.true)) (subst (λ x. IsLengthOf x c.in_ok-len.len) c.sync.ensures.frame.same_image c.in_ok-len.ensures.len)

pub returns-then-is_closed-clause-refused : goal.returns-then-is_closed-clause-refused
returns-then-is_closed-clause-refused g c =
    let l = subst (λ x. IsLengthOf x c.in_ok-len.len) c.sync.ensures.frame.same_image c.in_ok-len.ensures.len in
    let h = subst (λ x. IsRangeOf x 0 c.read_at.new.into) (c.len.ensures.frame.same_image ∙ c.sync.ensures.frame.same_image) c.in_ok-read_at.ensures.read in
    blank_closed_image _ c.in_ok-len.len c.read_at.new.into (omega (arith, c.read_at.auto.into)) (sym c.is_closed.ensures ∙ c.if-is_closed.true) l h

pub returns-in-None-clause-refused : goal.returns-in-None-clause-refused
returns-in-None-clause-refused g c =
    let l = subst (λ x. IsLengthOf x c.in_ok-len.len) c.sync.ensures.frame.same_image c.in_ok-len.ensures.len in
    let h = subst (λ x. IsRangeOf x 0 c.read_at.new.into) (c.len.ensures.frame.same_image ∙ c.sync.ensures.frame.same_image) c.in_ok-read_at.ensures.read in
    foreign_image _ c.in_ok-len.len c.read_at.new.into (omega (arith, c.read_at.auto.into)) (omega (arith, c.if-len.false)) (sym c.is_closed.ensures ∙ c.if-is_closed.false) (sym c.header_of.ensures.header ∙ c.in-None.is) l h

pub returns-in-Some-clause-found : goal.returns-in-Some-clause-found
returns-in-Some-clause-found g c =
    let l = subst (λ x. IsLengthOf x c.in_ok-len.len) c.sync.ensures.frame.same_image c.in_ok-len.ensures.len in
    let h = subst (λ x. IsRangeOf x 0 c.read_at.new.into) (c.len.ensures.frame.same_image ∙ c.sync.ensures.frame.same_image) c.in_ok-read_at.ensures.read in
    found_image _ c.in_ok-len.len _ c.read_at.new.into c.in-Some.said (omega (arith, c.read_at.auto.into)) (omega (arith, c.if-len.false)) (sym c.is_closed.ensures ∙ c.if-is_closed.false) (sym c.header_of.ensures.header ∙ c.in-Some.is) refl l h

pub returns-in-None-clause-within : goal.returns-in-None-clause-within
returns-in-None-clause-within g c =
    let l = subst (λ x. IsLengthOf x c.in_ok-len.len) c.sync.ensures.frame.same_image c.in_ok-len.ensures.len in
    let h = subst (λ x. IsRangeOf x 0 c.read_at.new.into) (c.len.ensures.frame.same_image ∙ c.sync.ensures.frame.same_image) c.in_ok-read_at.ensures.read in
    foreign_reads _ _ _
    (foreign_image _ c.in_ok-len.len c.read_at.new.into (omega (arith, c.read_at.auto.into)) (omega (arith, c.if-len.false)) (sym c.is_closed.ensures ∙ c.if-is_closed.false) (sym c.header_of.ensures.header ∙ c.in-None.is) l h)

pub returns-then-len-clause-settled_blank : goal.returns-then-len-clause-settled_blank
returns-then-len-clause-settled_blank g c = λ _.
    settled_on _ _ _ _ c.len.ensures.frame.same_image c.len.ensures.frame.leaves c.in_ok-sync.ensures.settled

pub returns-then-is_closed-clause-settled_blank : goal.returns-then-is_closed-clause-settled_blank
returns-then-is_closed-clause-settled_blank g c = λ _.
    settled_on _ _ _ _ c.read_at.ensures.frame.same_image c.read_at.ensures.frame.leaves (settled_on _ _ _ _ c.len.ensures.frame.same_image c.len.ensures.frame.leaves c.in_ok-sync.ensures.settled)

pub returns-in-Some-clause-settled : goal.returns-in-Some-clause-settled
returns-in-Some-clause-settled g c =
    settled_on _ _ _ _ c.read_at.ensures.frame.same_image c.read_at.ensures.frame.leaves (settled_on _ _ _ _ c.len.ensures.frame.same_image c.len.ensures.frame.leaves c.in_ok-sync.ensures.settled)
