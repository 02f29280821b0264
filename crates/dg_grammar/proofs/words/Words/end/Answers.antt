use Rattle.std.proofs.Common.{◌≡◌, ℕ, Bool, cond, List, [], length, sym, ap, ◌∙◌, arith}
use Rattle.std.proofs.lemmas.List.Splits.{length-slice_split}
use Rattle.dg_text.specs.Words.{words}
use Rattle.dg_grammar.specs.Space.{is_space}
use Rattle.dg_grammar.proofs.words.Words.end.Goals as goal

pub returns-else-self : goal.returns-else-self
returns-else-self c = λ e.
    let line = c.self.inside.rest.now in
    let left : Bool → List (List ℕ) = λ b. cond b [] (words line) in
    let none : words line ≡ [] = sym (ap left c.if-self.false) ∙ c.self.view_is ∙ e in
    omega (arith, length-slice_split is_space line, ap length none)
