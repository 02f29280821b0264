use Rattle.std.proofs.Common.{length, refl, sym, subst}
use Rattle.dg_disk.specs.Image.{IsRangeOf}
use Rattle.dg_cached_disk.proofs.StandingRanges.{found_range, kept_more, kept_still}
use Rattle.dg_cached_disk.proofs.cached_disk.CachedDiskDisk.read_at.Goals as goal

pub invariant_of-self : goal.invariant_of-self
invariant_of-self g c = record {
  kept = kept_still (g.D.Disk.image c.args.self.now.disk) (g.D.Disk.image c.read_at.new.self) c.args.self.now.ranges.ranges c.args.self.now.ranges.ranges c.read_at.ensures.frame.same_image c.args.self.now.kept (λ image are. are);
  unkept = c.args.self.now.unkept;
}

pub invariant_of-self-then-give : goal.invariant_of-self-then-give
invariant_of-self-then-give g c = record {
  kept = kept_still (g.D.Disk.image c.args.self.now.disk) (g.D.Disk.image c.args.self.now.disk) c.args.self.now.ranges.ranges c.give.new.self.ranges refl c.args.self.now.kept c.give.ensures.still;
  unkept = λ e. let on = c.if-not-self.false in absurd (cc);
}

pub returns-then-give-clause-read : goal.returns-then-give-clause-read
returns-then-give-clause-read g c =
    found_range (g.D.Disk.image c.args.self.now.disk) c.args.self.now.ranges.ranges c.args.offset (length c.args.into.now) c.give.new.into c.args.self.now.kept c.give.auto.into
    (λ image are. c.give.ensures.given image are c.if-give.true)

pub invariant_of-self-in-Break-1 : goal.invariant_of-self-in-Break-1
invariant_of-self-in-Break-1 g c = record {
  kept = kept_still (g.D.Disk.image c.args.self.now.disk) (g.D.Disk.image c.read_at-2.new.self) c.args.self.now.ranges.ranges c.give.new.self.ranges c.read_at-2.ensures.frame.same_image c.args.self.now.kept c.give.ensures.still;
  unkept = λ e. let on = c.if-not-self.false in absurd (cc);
}

pub invariant_of-self-in-Ok : goal.invariant_of-self-in-Ok
invariant_of-self-in-Ok g c =
    let x = g.D.Disk.image c.args.self.now.disk in
    let still = kept_still x x c.args.self.now.ranges.ranges c.give.new.self.ranges refl c.args.self.now.kept c.give.ensures.still in
    record {
      kept = kept_more x (g.D.Disk.image c.read_at-2.new.self) c.give.new.self.ranges c.keep.new.self.ranges c.args.offset c.in-Ok.bytes.items c.read_at-2.ensures.frame.same_image
          (subst (λ b. IsRangeOf x c.args.offset b) (sym c.in-Ok.ensures.items) c.in_ok-read_at.ensures.read) still c.keep.ensures.still;
      unkept = λ e. let on = c.if-not-self.false in absurd (cc);
    }

pub invariant_of-self-in_default : goal.invariant_of-self-in_default
invariant_of-self-in_default g c = record {
  kept = kept_still (g.D.Disk.image c.args.self.now.disk) (g.D.Disk.image c.read_at-2.new.self) c.args.self.now.ranges.ranges c.give.new.self.ranges c.read_at-2.ensures.frame.same_image c.args.self.now.kept c.give.ensures.still;
  unkept = λ e. let on = c.if-not-self.false in absurd (cc);
}
