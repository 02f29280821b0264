use Rattle.std.proofs.Common.{sym, ap, ◌∙◌}
use Rattle.dg_graph.specs.ColumnGrammar.{delta_in}
use Rattle.dg_fold.specs.Parts.{taken_as}
use Rattle.dg_fold.proofs.PartCompositions.{exact_is}
use Rattle.dg_fold.proofs.column.exact_column.Goals as goal

pub returns-in-Ok-clause-ok : goal.returns-in-Ok-clause-ok
returns-in-Ok-clause-ok c =
    λ way until.
    exact_is c.args.name_count (taken_as c.args.part.now way until) c.args.col c.in-Ok.delta c.requires
    (ap (delta_in c.args.col c.args.name_count) (sym c.bytes_of.ensures) ∙ c.in-Ok.ensures.ok)
