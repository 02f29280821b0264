use Rattle.std.proofs.Common.{subst}
use Rattle.dg_grammar.specs.Prefixes.{IsLongestPrefix}
use Rattle.dg_grammar.proofs.Prefixes.{same_prefix}
use Rattle.dg_expr.specs.declared.reading.Owing.{Owing}
use Rattle.dg_expr.specs.ExpressionGrammar.{IsExpressionText}
use Rattle.dg_expr.specs.Owing.{Completes, start}
use Rattle.dg_expr.proofs.ExpressionTexts.{complete_is, is_complete, prefix_short}
use Rattle.dg_expr.proofs.reading.expression_prefix.Goals as goal

pub returns-clause-prefix : goal.returns-clause-prefix
returns-clause-prefix c =
    same_prefix (Completes start) IsExpressionText c.args.text.now c.prefix.result complete_is is_complete
    (subst (λ (o : Owing). IsLongestPrefix (Completes o) c.args.text.now c.prefix.result) c.start.ensures c.prefix.ensures)

pub returns-clause-short : goal.returns-clause-short
returns-clause-short c =
    prefix_short c.args.text.now c.prefix.result
    (subst (λ (o : Owing). IsLongestPrefix (Completes o) c.args.text.now c.prefix.result) c.start.ensures c.prefix.ensures)
