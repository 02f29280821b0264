use Rattle.std.proofs.Common.{arith, ◌≡◌, ap, ◌∙◌}
use Rattle.dg_cells.specs.Rows.{Row}
use Rattle.dg_pool.specs.Changes.{numbers_of}
use Rattle.dg_pool.proofs.CurrentGraph.{one_row}
use Rattle.dg_pool.proofs.WordCounts.{recounts_first, recounts_last, can_count, recounts_next}
use Rattle.dg_pool.proofs.changes.recount_words.Goals as goal

pub moved_in-moved-requires-clause-word : goal.moved_in-moved-requires-clause-word
moved_in-moved-requires-clause-word c = let few = c.requires.targets.words.few in omega arith

pub count_moved-requires-clause-word : goal.count_moved-requires-clause-word
count_moved-requires-clause-word c = let few = c.requires.targets.words.few in omega arith

pub count_moved-requires-clause-even : goal.count_moved-requires-clause-even
count_moved-requires-clause-even c = let h = c.requires.holds in (c.moved_in-moved.ensures h.row h.there).no_own

pub count_moved-requires-clause-fit : goal.count_moved-requires-clause-fit
count_moved-requires-clause-fit c =
    let h = c.requires.holds in
    let t = c.args.targets.now in
    can_count t.states.now (numbers_of t.slots.now) c.args.own h.row c.args.counts.now c.args.element.now h.element c.loop-word.word c.moved_in-moved.result (c.moved_in-moved.ensures h.row h.there)
    c.loop-word.counts (c.loop-word.invariant.counts h.row h.there) (c.requires.fit h.row h.there)

pub loop-word-init : goal.loop-word-init
loop-word-init c =
    let t = c.args.targets.now in
    record {
      len = omega arith;
      counts = λ r there. recounts_first t.states.now (numbers_of t.slots.now) c.args.own r c.args.counts.now t.first_word t.end_word c.requires.targets.words;
    }

pub loop-word-preserved : goal.loop-word-preserved
loop-word-preserved c =
    let h = c.requires.holds in
    let t = c.args.targets.now in
    record {
      len = c.count_moved.ensures.len;
      counts = λ r there.
          let same : r.element ≡ c.args.element.now = ap (λ (z : Row). z.element) (one_row c.args.cells.now c.args.n r h.row there h.there) ∙ h.element in
          recounts_next t.states.now (numbers_of t.slots.now) c.args.own r c.args.counts.now c.args.element.now same c.loop-word.word c.moved_in-moved.result (c.moved_in-moved.ensures r there)
          c.loop-word.counts (c.loop-word.invariant.counts r there) c.count_moved.new.counts c.count_moved.ensures.counts;
    }

pub returns-clause-counts : goal.returns-clause-counts
returns-clause-counts c = λ r there.
    let t = c.args.targets.now in
    recounts_last t.states.now (numbers_of t.slots.now) c.args.own r c.args.counts.now t.first_word t.end_word c.requires.targets.words c.loop-word.word (omega arith) c.loop-word.counts (c.loop-word.invariant.counts r there)
