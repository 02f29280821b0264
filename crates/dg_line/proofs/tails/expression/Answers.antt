use Rattle.std.proofs.Common.{◌≡◌, ◌∙◌, ℕ, List, [], ◌∷◌, Option, Some, None, sym, ap}
use Rattle.std.specs.Option.{option_map}
use Rattle.dg_graph.specs.declared.element.Columns.{Columns}
use Rattle.dg_expr.specs.declared.expression.Expr.{Expr}
use Rattle.dg_expr.specs.declared.expression.Word.{Word}
use Rattle.dg_expr.specs.ExpressionGrammar.{expression_of}
use Rattle.dg_expr.specs.Expressions.{expr_of}
use Rattle.dg_grammar.specs.Space.{rest_of}
use Rattle.dg_line.specs.Table.{choice_with}
use Rattle.dg_machine.specs.declared.command.Command.{Command}
use Rattle.dg_machine.specs.declared.command.Command.TheVariants as command
use Rattle.dg_machine.specs.declared.selection.Selection.TheVariants.{Chosen}
use Rattle.std.proofs.lemmas.Option.{none-some, same_Some}
use Rattle.dg_line.proofs.tails.expression.Goals as goal

abbrev made : Columns → Option Expr → Option Command
made cols None = None
made cols (Some e) = Some (command.Select (Chosen e) cols)

-- the command of columns and the expression that the rest of the line is
choice_is : (ws : List (List ℕ)) (text : List ℕ) (c : Columns) (o : Option Expr) → rest_of ws ≡ Some text
    → option_map expr_of (expression_of text) ≡ o → choice_with c ws ≡ made c o
choice_is [] text c o rest read = absurd (none-some text rest)
choice_is (word ∷ more) text c o rest read =
    ap (λ (l : List ℕ). option_map (λ vs. command.Select (Chosen (expr_of vs)) c) (expression_of l)) (same_Some _ _ rest)
    ∙ by_words (expression_of text) o read
  where
    by_words : (p : Option (List Word)) (o : Option Expr) → option_map expr_of p ≡ o → option_map (λ vs. command.Select (Chosen (expr_of vs)) c) p ≡ made c o
    by_words None o e = ap (made c) e
    by_words (Some vs) o e = ap (made c) e

pub returns-in-Ok-clause-command : goal.returns-in-Ok-clause-command
returns-in-Ok-clause-command c =
    sym (choice_is c.args.words c.in-Some.found.now c.args.cols (Some c.in-Ok.expr) (sym c.in-Some.ensures) (sym c.in-Ok.ensures.expression))

pub returns-in-Err-clause-command : goal.returns-in-Err-clause-command
returns-in-Err-clause-command c =
    sym (choice_is c.args.words c.in-Some.found.now c.args.cols None (sym c.in-Some.ensures) (sym c.in-Err.ensures.expression))
