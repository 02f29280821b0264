use Rattle.std.proofs.Common.{◌≡◌, ℕ, List, Some, length, take, drop, nat_eq, sym, ap, subst, ◌∙◌, arith}
use Rattle.std.specs.Map.{lookup}
use Rattle.dg_cached_disk.specs.Ranges.{AreRangesOf, Kept}
use Rattle.dg_cached_disk.proofs.KeptRanges.{Stand, stand_promoted, value_stands}
use Rattle.dg_cached_disk.proofs.range_cache.RangeCache.give.Goals as goal

pub returns-in_default-clause-still : goal.returns-in_default-clause-still
returns-in_default-clause-still c = λ image a.
    let before = subst (λ (v : Kept). AreRangesOf image v.ranges) (sym c.self.view_is) a in
    subst (λ es. Stand (λ v. v.items) image es) (sym (ap (λ l. l.entries) c.promote.ensures.entries)) (stand_promoted (λ v. v.items) image (nat_eq c.args.offset) c.self.inside.ranges.entries before)

pub returns-then-len-into-clause-still : goal.returns-then-len-into-clause-still
returns-then-len-into-clause-still c = λ image a.
    let before = subst (λ (v : Kept). AreRangesOf image v.ranges) (sym c.self.view_is) a in
    subst (λ es. Stand (λ v. v.items) image es) (sym (ap (λ l. l.entries) c.promote.ensures.entries)) (stand_promoted (λ v. v.items) image (nat_eq c.args.offset) c.self.inside.ranges.entries before)

pub returns-clause-still : goal.returns-clause-still
returns-clause-still c = λ image a.
    let before = subst (λ (v : Kept). AreRangesOf image v.ranges) (sym c.self.view_is) a in
    subst (λ es. Stand (λ v. v.items) image es) (sym (ap (λ l. l.entries) c.promote.ensures.entries)) (stand_promoted (λ v. v.items) image (nat_eq c.args.offset) c.self.inside.ranges.entries before)

pub returns-clause-given : goal.returns-clause-given
returns-clause-given c = λ image a same.
    let before = subst (λ (v : Kept). AreRangesOf image v.ranges) (sym c.self.view_is) a in
    let after = subst (λ es. Stand (λ v. v.items) image es) (sym (ap (λ l. l.entries) c.promote.ensures.entries)) (stand_promoted (λ v. v.items) image (nat_eq c.args.offset) c.self.inside.ranges.entries before) in
    let here : lookup (nat_eq c.args.offset) c.promote.new.self.entries ≡ Some c.in-Some.bytes.now = cc (c.peek.ensures, c.in-Some.is, c.in-Some.bytes-is, c.in-Some.ensures) in
    let copied : c.copy_from_slice.new.self ≡ c.in-Some.bytes.now.items = c.copy_from_slice.ensures.after ∙ c.deref.ensures.value in
    let len : length c.in-Some.bytes.now.items ≡ length c.args.into.now = omega (arith, c.if-len-into.false, c.len.ensures) in
    copied ∙ value_stands (λ v. v.items) image c.args.offset c.promote.new.self.entries c.in-Some.bytes.now here after ∙ ap (λ n. take n (drop c.args.offset image)) len
