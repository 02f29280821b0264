use Rattle.std.proofs.Common.{◌≡◌, ℕ, ◌+◌, Bool, cond, List, [], ◌∷◌, ◌-◌, length, take, drop, sym, ◌∙◌, ap}
use Rattle.std.proofs.lemmas.List.{take_rest}
use Rattle.dg_text.specs.Words.{words}
use Rattle.dg_grammar.proofs.Space.{first_word, last_word}
use Rattle.dg_grammar.proofs.words.Words.next.Goals as goal

pub returns-in-Some : goal.returns-in-Some
returns-in-Some c =
    let line = c.self.inside.rest.now in
    let at = c.in-Some.index in
    let left : Bool → List ℕ → List (List ℕ) = λ b rest. cond b [] (words rest) in
    let here : c.args.self.now ≡ take at line ∷ words (drop (at + 1) line) =
    sym c.self.view_is ∙ ap (λ b. left b line) c.if-self.false ∙ first_word line at cc in
    let rest = take_rest line (at + 1) in
    here ∙ ap (λ rest. take at line ∷ words rest) (sym rest) ∙ ap (λ b. take at line ∷ left b (take (length line - (at + 1)) (drop (at + 1) line))) (sym c.if-self.false)

pub returns-in-None : goal.returns-in-None
returns-in-None c =
    let line = c.self.inside.rest.now in
    let left : Bool → List (List ℕ) = λ b. cond b [] (words line) in
    sym c.self.view_is ∙ ap left c.if-self.false ∙ last_word line cc
