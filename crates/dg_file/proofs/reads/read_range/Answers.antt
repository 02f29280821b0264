use Rattle.std.proofs.Common.{◌≡◌, length, take, drop, sym, ap, subst, ◌∙◌, arith}
use Rattle.dg_disk.specs.Image.{HasRange}
use Rattle.dg_file.proofs.ImageParts.{some_all, range_filled, filled, taken_none, taken_some}
use Rattle.dg_file.proofs.reads.read_range.Goals as goal

pub read_at-requires : goal.read_at-requires
read_at-requires g c = subst (λ n. HasRange (g.D.Disk.image c.args.disk.now) c.args.offset n) (sym (c.deref_mut.ensures.len ∙ c.in_ok-bytes.ensures.len)) c.requires

pub returns-then-len-eq0-clause-bytes : goal.returns-then-len-eq0-clause-bytes
returns-then-len-eq0-clause-bytes g c = some_all _ _ (λ image. c.new.ensures.items ∙ ap (λ n. take n (drop c.args.offset image)) (sym c.if-len-eq0.true))

pub returns-then-len-eq0-clause-taken : goal.returns-then-len-eq0-clause-taken
returns-then-len-eq0-clause-taken g c = taken_none c.args.len _ c.if-len-eq0.true

pub returns-clause-bytes : goal.returns-clause-bytes
returns-clause-bytes g c =
    let long : length c.read_at.new.into ≡ c.args.len = omega (arith, c.read_at.auto.into, c.deref_mut.ensures.len, c.in_ok-bytes.ensures.len) in
    range_filled (g.D.Disk.image c.args.disk.now) c.read_at.new.into c.in_ok-bytes.bytes.items c.args.offset c.args.len c.in_ok-bytes.bytes.len long c.in_ok-bytes.ensures.len c.in_ok-read_at.ensures.read

pub returns-clause-len : goal.returns-clause-len
returns-clause-len g c =
    let long : length c.read_at.new.into ≡ c.args.len = omega (arith, c.read_at.auto.into, c.deref_mut.ensures.len, c.in_ok-bytes.ensures.len) in
    ap length (filled c.in_ok-bytes.bytes.len c.read_at.new.into c.in_ok-bytes.bytes.items (omega (arith, long, c.in_ok-bytes.ensures.len))) ∙ long

pub returns-clause-taken : goal.returns-clause-taken
returns-clause-taken g c =
    let long : length c.read_at.new.into ≡ c.args.len = omega (arith, c.read_at.auto.into, c.deref_mut.ensures.len, c.in_ok-bytes.ensures.len) in
    taken_some c.args.len (length c.read_at.new.into) _ _ c.if-len-eq0.false long c.in_ok-read_at.ensures.taken
