use Rattle.std.proofs.Common.{arith, ◌≡◌, ◌+◌, ◌≤◌, sym, ap, ◌∙◌}
use Rattle.std.proofs.lemmas.Bool.{eqb-true}
use Rattle.dg_cells.specs.Rows.{Row}
use Rattle.dg_pool.specs.Changes.{numbers_of}
use Rattle.dg_pool.proofs.CurrentGraph.{one_row}
use Rattle.dg_pool.proofs.WordCounts.{recounts_first, recounts_last, can_count, recounts_next}
use Rattle.dg_pool.proofs.changes.recount.Goals as goal

pub moved_in-moved-requires-clause-word : goal.moved_in-moved-requires-clause-word
moved_in-moved-requires-clause-word c =
    let few = c.requires.targets.words.few in
    let one = eqb-true (c.args.targets.now.first_word + 1) c.args.targets.now.end_word (sym c.is_one_word.ensures ∙ c.if-is_one_word.true) in
    omega (arith, few, one)

pub count_moved-requires-clause-word : goal.count_moved-requires-clause-word
count_moved-requires-clause-word c =
    let few = c.requires.targets.words.few in
    let one = eqb-true (c.args.targets.now.first_word + 1) c.args.targets.now.end_word (sym c.is_one_word.ensures ∙ c.if-is_one_word.true) in
    omega (arith, few, one)

pub count_moved-requires-clause-even : goal.count_moved-requires-clause-even
count_moved-requires-clause-even c = let h = c.requires.holds in (c.moved_in-moved.ensures h.row h.there).no_own

pub count_moved-requires-clause-fit : goal.count_moved-requires-clause-fit
count_moved-requires-clause-fit c =
    let h = c.requires.holds in
    let t = c.args.targets.now in
    let numbers = numbers_of t.slots.now in
    can_count t.states.now numbers c.args.own h.row c.args.counts.now c.args.element.now h.element t.first_word c.moved_in-moved.result (c.moved_in-moved.ensures h.row h.there)
    c.args.counts.now (recounts_first t.states.now numbers c.args.own h.row c.args.counts.now t.first_word t.end_word c.requires.targets.words) (c.requires.fit h.row h.there)

pub returns-then-is_one_word-clause-counts : goal.returns-then-is_one_word-clause-counts
returns-then-is_one_word-clause-counts c = λ r there.
    let h = c.requires.holds in
    let t = c.args.targets.now in
    let numbers = numbers_of t.slots.now in
    let same : r.element ≡ c.args.element.now = ap (λ (z : Row). z.element) (one_row c.args.cells.now c.args.n r h.row there h.there) ∙ h.element in
    let one = eqb-true (t.first_word + 1) t.end_word (sym c.is_one_word.ensures ∙ c.if-is_one_word.true) in
    let last : t.end_word ≤ t.first_word + 1 = omega (arith, one) in
    recounts_last t.states.now numbers c.args.own r c.args.counts.now t.first_word t.end_word c.requires.targets.words (t.first_word + 1) last c.count_moved.new.counts
    (recounts_next t.states.now numbers c.args.own r c.args.counts.now c.args.element.now same t.first_word c.moved_in-moved.result (c.moved_in-moved.ensures r there)
    c.args.counts.now (recounts_first t.states.now numbers c.args.own r c.args.counts.now t.first_word t.end_word c.requires.targets.words) c.count_moved.new.counts c.count_moved.ensures.counts)
