use Rattle.std.proofs.Common.{◌∷◌, ◌∙◌, refl, sym}
use Rattle.dg_grammar.specs.Symbols.{row_of}
use Rattle.dg_line.proofs.FirstWords.{other_verb}
use Rattle.dg_line.proofs.table.Row.has_verb.Goals as goal

pub returns-clause-other : goal.returns-clause-other
returns-clause-other c = λ no rest.
    other_verb c.args.self.0.now c.args.word.now (row_of c.args.self.1.now) c.args.self.2 (c.args.word.now ∷ rest) rest refl (sym c.is.ensures ∙ no)
