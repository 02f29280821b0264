use Rattle.std.proofs.Common.{get_or, Bool, sym, subst}
use Rattle.dg_pool.specs.Changes.{numbers_of, IsPairWord}
use Rattle.dg_pool.proofs.WordSlots.{both_word, explicit_word}
use Rattle.dg_pool.proofs.targets.pair_word.Goals as goal

pub returns-then-own : goal.returns-then-own
returns-then-own c =
    let t = c.args.targets.now in
    subst (λ (o : Bool). IsPairWord (numbers_of t.slots.now) o c.args.word (get_or t.both c.args.word 0)) (sym c.if-own.true)
    (both_word (numbers_of t.slots.now) t.explicit t.both c.requires.targets.marks c.args.word c.requires.word)

pub returns-else-own : goal.returns-else-own
returns-else-own c =
    let t = c.args.targets.now in
    subst (λ (o : Bool). IsPairWord (numbers_of t.slots.now) o c.args.word (get_or t.explicit c.args.word 0)) (sym c.if-own.false)
    (explicit_word (numbers_of t.slots.now) t.explicit t.both c.requires.targets.marks c.args.word c.requires.word)
