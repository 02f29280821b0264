use Rattle.std.proofs.Common.{◌≡◌, take, [], subst, arith, IsTrue, ◌↔◌, List, ℕ}
use Rattle.std.specs.List.{Contains}
use Rattle.std.proofs.lemmas.Bool.{false≢true}
use Rattle.std.proofs.lemmas.List.{get_or-map, length-map, take_all}
use Rattle.dg_grammar.specs.Prefixes.{IsLongestPrefix}
use Rattle.dg_grammar.specs.Symbols.{word_texts}
use Rattle.dg_grammar.proofs.ListElements.{contains_none}
use Rattle.dg_grammar.proofs.Prefixes.{no_prefix, words_more}
use Rattle.dg_grammar.proofs.grammar.words_prefix.Goals as goal

pub loop-word-init : goal.loop-word-init
loop-word-init c = record {
  longest = no_prefix (Contains []) c.args.rest.now contains_none;
  whole = (λ t. absurd (false≢true t), λ h. absurd (contains_none [] h));
}

pub loop-word-preserved : goal.loop-word-preserved
loop-word-preserved c =
    let i = c.loop-word.word-index in
    let size = length-map c.args.words.now (λ w. w.now) in
    let more = words_more (word_texts c.args.words.now) i _ c.args.rest.now c.loop-word.longest.bytes c.word_prefix.result.bytes c.longer-longest.result.bytes
    c.loop-word.longest.whole c.word_prefix.result.whole c.longer-longest.result.whole (omega arith) (get_or-map (λ w. w.now) c.args.words.now i _ [] (omega arith))
    c.loop-word.invariant.longest c.word_prefix.ensures.longest c.longer-longest.ensures.bytes c.loop-word.invariant.whole
    c.word_prefix.ensures.whole c.longer-longest.ensures.whole in
    record { longest = more.0; whole = more.1 }

pub returns-clause-longest : goal.returns-clause-longest
returns-clause-longest c =
    let texts = word_texts c.args.words.now in
    let size = length-map c.args.words.now (λ w. w.now) in
    let all : take c.loop-word.word-index texts ≡ texts = take_all c.loop-word.word-index texts (omega arith) in
    subst (λ (ws : List (List ℕ)). IsLongestPrefix (Contains ws) c.args.rest.now c.loop-word.longest.bytes) all c.loop-word.invariant.longest

pub returns-clause-whole : goal.returns-clause-whole
returns-clause-whole c =
    let texts = word_texts c.args.words.now in
    let size = length-map c.args.words.now (λ w. w.now) in
    let all : take c.loop-word.word-index texts ≡ texts = take_all c.loop-word.word-index texts (omega arith) in
    subst (λ (ws : List (List ℕ)). IsTrue c.loop-word.longest.whole ↔ Contains ws (take c.loop-word.longest.bytes c.args.rest.now)) all c.loop-word.invariant.whole
