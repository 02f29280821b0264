use Rattle.std.proofs.Common.{Bool, cond, List, ℕ, [], sym, ap, ◌∙◌}
use Rattle.dg_text.specs.Words.{words}
use Rattle.dg_grammar.specs.Space.{rest_of}
use Rattle.dg_grammar.proofs.Space.{whole_rest}
use Rattle.dg_grammar.proofs.words.Words.rest.Goals as goal

pub returns-else-self : goal.returns-else-self
returns-else-self c =
    let line = c.self.inside.rest.now in
    let left : Bool → List (List ℕ) = λ b. cond b [] (words line) in
    whole_rest line ∙ ap rest_of (sym (ap left c.if-self.false) ∙ c.self.view_is)
