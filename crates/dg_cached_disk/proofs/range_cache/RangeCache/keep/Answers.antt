use Rattle.std.proofs.Common.{ℕ, List, sym, ap, subst}
use Rattle.dg_cached_disk.specs.Ranges.{AreRangesOf, Kept}
use Rattle.dg_cached_disk.proofs.KeptRanges.{Stand, either, stand_put}
use Rattle.dg_cached_disk.proofs.range_cache.RangeCache.keep.Goals as goal

pub returns-clause-still : goal.returns-clause-still
returns-clause-still c = λ image a s.
    let before = subst (λ (v : Kept). AreRangesOf image v.ranges) (sym c.self.view_is) a in
    either c.put.result _ _ (Stand (λ v. v.items) image c.put.new.self.entries)
    (λ is. subst (λ es. Stand (λ v. v.items) image es) (sym (ap (λ l. l.entries) is)) (stand_put (λ v. v.items) image c.self.inside.ranges c.args.offset c.args.bytes before s))
    (λ is. subst (λ es. Stand (λ v. v.items) image es) (sym (ap (λ l. l.entries) is)) before)
    c.put.ensures.entries c.put.ensures.err
