use Rattle.std.specs.Prelude.{slice_set}
use Rattle.std.specs.Int.{bit_at}
use Rattle.std.proofs.Common.{arith, eqb, ◌≡◌, ℕ, ◌*◌, ◌%◌, List, ap, ◌∙◌}
use Rattle.std.proofs.lemmas.List.{length-set, get_or-set_same, get_or-set_other}
use Rattle.std.proofs.lemmas.Nat.Bits.{bit_at-zero}
use Rattle.dg_query.specs.declared.answers.Counts.{Counts}
use Rattle.dg_pool.specs.Counts.{counts_at, no_elements}
use Rattle.dg_pool.specs.Changes.{counted}
use Rattle.dg_pool.proofs.WordCounts.{slot_of, set_here, even_next, fits_next, moved_next, nothing_moved}
use Rattle.dg_pool.proofs.changes.count_moved.Goals as goal

pub change_count-requires-clause-more : goal.change_count-requires-clause-more
change_count-requires-clause-more c =
    let e = c.split_lowest-bit.ensures in
    let v = c.loop-left.invariant in
    (v.fit (slot_of c.args.own c.args.element.now c.args.word c.loop-left.left c.split_lowest-bit.result.0 e.place e.set v.even) (omega arith)
    (set_here c.args.own c.args.element.now c.args.word c.loop-left.left c.split_lowest-bit.result.0 e.place e.set v.even)).more

pub change_count-requires-clause-less : goal.change_count-requires-clause-less
change_count-requires-clause-less c =
    let e = c.split_lowest-bit.ensures in
    let v = c.loop-left.invariant in
    (v.fit (slot_of c.args.own c.args.element.now c.args.word c.loop-left.left c.split_lowest-bit.result.0 e.place e.set v.even) (omega arith)
    (set_here c.args.own c.args.element.now c.args.word c.loop-left.left c.split_lowest-bit.result.0 e.place e.set v.even)).less

pub loop-left-preserved : goal.loop-left-preserved
loop-left-preserved c =
    let e = c.split_lowest-bit.ensures in
    let v = c.loop-left.invariant in
    let own = c.args.own in
    let x = c.args.element.now in
    let index = c.args.word in
    let left = c.loop-left.left in
    let k = c.split_lowest-bit.result.0 in
    let rest = c.split_lowest-bit.result.1 in
    let before = c.loop-left.counts in
    let len = v.len in
    let slot = slot_of own x index left k e.place e.set v.even in
    let after : List Counts = slice_set before slot c.change_count.new.counts in
    let now : counts_at after slot ≡ counted own x (counts_at before slot) = get_or-set_same before slot c.change_count.new.counts no_elements (omega arith) ∙ c.change_count.ensures in
    let past : (s : ℕ) → (s ≡ slot → ⊥) → counts_at after s ≡ counts_at before s = λ s d. get_or-set_other before slot s c.change_count.new.counts no_elements d in
    record {
      len = length-set before slot c.change_count.new.counts ∙ len;
      even = even_next own x index left k e.place e.set v.even rest e.off e.others;
      fit = fits_next own x index left k e.place e.set v.even rest e.off e.others before after now past v.fit;
      counts = λ s. moved_next own x index left k e.place e.set v.even rest e.off e.others before after now past s ∙ v.counts s;
    }

pub returns-clause-counts : goal.returns-clause-counts
returns-clause-counts c = λ s.
    let none : c.loop-left.left ≡ 0 = omega arith in
    nothing_moved c.args.own c.args.element.now c.args.word c.loop-left.left c.loop-left.counts (λ t. ap (λ w. eqb (bit_at w (2 * (t % 32))) 1) none ∙ ap (λ n. eqb n 1) (bit_at-zero (2 * (t % 32)))) s
    ∙ c.loop-left.invariant.counts s
