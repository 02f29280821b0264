use Rattle.std.proofs.Common.{true, arith}
use Rattle.dg_pool.specs.Changes.{SetsPairs, numbers_of}
use Rattle.dg_pool.proofs.ChangeMasks.{zero_unlisted}
use Rattle.dg_pool.proofs.ChangeCells.{writes_as}
use Rattle.dg_pool.proofs.WordPairs.{SetsPairsBelow, pairs_first, pairs_last, writes_next, still_there, writes_none}
use Rattle.dg_pool.proofs.changes.set_words.Goals as goal

pub loop-word-init : goal.loop-word-init
loop-word-init c =
    let t = c.args.targets.now in
    let numbers = numbers_of t.slots.now in
    let none = zero_unlisted t.states.now numbers c.requires.targets.can in
    writes_none (SetsPairsBelow t.first_word numbers (true, c.args.own)) c.args.cells.now c.args.n c.requires.there (pairs_first numbers c.args.own none t.first_word t.end_word c.requires.targets.words)

pub loop-word-preserved : goal.loop-word-preserved
loop-word-preserved c =
    let t = c.args.targets.now in
    let numbers = numbers_of t.slots.now in
    let none = zero_unlisted t.states.now numbers c.requires.targets.can in
    writes_next numbers c.args.own none c.loop-word.word c.pair_word-on.result c.pair_word-off.result c.pair_word-on.ensures c.pair_word-off.ensures
    c.args.cells.now c.loop-word.cells c.write_word.new.self c.args.n c.loop-word.invariant c.write_word.ensures

pub returns : goal.returns
returns c =
    let t = c.args.targets.now in
    let numbers = numbers_of t.slots.now in
    let none = zero_unlisted t.states.now numbers c.requires.targets.can in
    writes_as c.args.cells.now c.loop-word.cells c.args.n (SetsPairsBelow c.loop-word.word numbers (true, c.args.own)) (SetsPairs numbers (true, c.args.own)) c.loop-word.invariant
    (pairs_last numbers c.args.own none t.first_word t.end_word c.requires.targets.words c.loop-word.word (omega arith))

pub pair_word-on-requires-clause-word : goal.pair_word-on-requires-clause-word
pair_word-on-requires-clause-word c = let few = c.requires.targets.words.few in omega arith

pub pair_word-off-requires-clause-word : goal.pair_word-off-requires-clause-word
pair_word-off-requires-clause-word c = let few = c.requires.targets.words.few in omega arith

pub write_word-requires-clause-there : goal.write_word-requires-clause-there
write_word-requires-clause-there c =
    still_there c.args.cells.now c.loop-word.cells c.args.n (SetsPairsBelow c.loop-word.word (numbers_of c.args.targets.now.slots.now) (true, c.args.own)) c.loop-word.invariant

pub write_word-requires-clause-index : goal.write_word-requires-clause-index
write_word-requires-clause-index c = let few = c.requires.targets.words.few in omega arith
