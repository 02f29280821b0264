use Rattle.std.proofs.Common.{arith, ◌+◌, ◌≤◌, true, sym, ◌∙◌}
use Rattle.std.proofs.lemmas.Bool.{eqb-true}
use Rattle.dg_pool.specs.Changes.{SetsPairs, numbers_of}
use Rattle.dg_pool.proofs.ChangeMasks.{zero_unlisted}
use Rattle.dg_pool.proofs.ChangeCells.{writes_as}
use Rattle.dg_pool.proofs.WordPairs.{SetsPairsBelow, pairs_first, pairs_last, writes_next, writes_none}
use Rattle.dg_pool.proofs.changes.set_pairs.Goals as goal

pub pair_word-on-requires-clause-word : goal.pair_word-on-requires-clause-word
pair_word-on-requires-clause-word c =
    let few = c.requires.targets.words.few in
    let one = eqb-true (c.args.targets.now.first_word + 1) c.args.targets.now.end_word (sym c.is_one_word.ensures ∙ c.if-is_one_word.true) in
    omega (arith, few, one)

pub pair_word-off-requires-clause-word : goal.pair_word-off-requires-clause-word
pair_word-off-requires-clause-word c =
    let few = c.requires.targets.words.few in
    let one = eqb-true (c.args.targets.now.first_word + 1) c.args.targets.now.end_word (sym c.is_one_word.ensures ∙ c.if-is_one_word.true) in
    omega (arith, few, one)

pub write_word-requires-clause-index : goal.write_word-requires-clause-index
write_word-requires-clause-index c =
    let few = c.requires.targets.words.few in
    let one = eqb-true (c.args.targets.now.first_word + 1) c.args.targets.now.end_word (sym c.is_one_word.ensures ∙ c.if-is_one_word.true) in
    omega (arith, few, one)

pub returns-then-is_one_word : goal.returns-then-is_one_word
returns-then-is_one_word c =
    let t = c.args.targets.now in
    let own = c.args.own in
    let numbers = numbers_of t.slots.now in
    let none = zero_unlisted t.states.now numbers c.requires.targets.can in
    let one = eqb-true (t.first_word + 1) t.end_word (sym c.is_one_word.ensures ∙ c.if-is_one_word.true) in
    let last : t.end_word ≤ t.first_word + 1 = omega (arith, one) in
    let first = writes_none (SetsPairsBelow t.first_word numbers (true, own)) c.args.cells.now c.args.n c.requires.there (pairs_first numbers own none t.first_word t.end_word c.requires.targets.words) in
    writes_as c.args.cells.now c.write_word.new.self c.args.n (SetsPairsBelow (t.first_word + 1) numbers (true, own)) (SetsPairs numbers (true, own))
    (writes_next numbers own none t.first_word c.pair_word-on.result c.pair_word-off.result c.pair_word-on.ensures c.pair_word-off.ensures
    c.args.cells.now c.args.cells.now c.write_word.new.self c.args.n first c.write_word.ensures)
    (pairs_last numbers own none t.first_word t.end_word c.requires.targets.words (t.first_word + 1) last)
