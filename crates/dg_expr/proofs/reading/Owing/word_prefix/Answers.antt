use Rattle.std.proofs.Common.{IsTrue, ◌↔◌}
use Rattle.std.specs.List.{Contains}
use Rattle.dg_graph.specs.declared.limits.TheConstants.{TIME_MAX}
use Rattle.dg_grammar.specs.Symbols.{Number, IsWordOf}
use Rattle.dg_grammar.proofs.Prefixes.{either, either_whole}
use Rattle.dg_expr.specs.Owing.{MayCome, operators_of}
use Rattle.dg_expr.proofs.ExpressionTexts.{comes_as, number_comes, operator_comes}
use Rattle.dg_expr.proofs.reading.Owing.word_prefix.Goals as goal

pub returns-clause-longest : goal.returns-clause-longest
returns-clause-longest c =
    either (Contains (operators_of c.args.self)) (IsWordOf (Number 0 TIME_MAX)) (MayCome c.args.self) c.args.rest.now
    c.operator_prefix.result.bytes c.number_prefix.result.bytes c.longer.result.bytes
    c.operator_prefix.ensures.longest c.number_prefix.ensures.longest c.longer.ensures.bytes
    (operator_comes c.args.self) (λ w. number_comes c.args.self w c.requires.owes c.requires.room) (comes_as c.args.self)

pub returns-clause-whole : goal.returns-clause-whole
returns-clause-whole c =
    either_whole (Contains (operators_of c.args.self)) (IsWordOf (Number 0 TIME_MAX)) (MayCome c.args.self) c.args.rest.now
    c.operator_prefix.result.bytes c.number_prefix.result.bytes c.longer.result.bytes
    c.operator_prefix.result.whole c.number_prefix.result.whole c.longer.result.whole
    c.operator_prefix.ensures.longest c.number_prefix.ensures.longest c.longer.ensures.bytes
    (operator_comes c.args.self) (λ w. number_comes c.args.self w c.requires.owes c.requires.room) (comes_as c.args.self)
    c.operator_prefix.ensures.whole c.number_prefix.ensures.whole c.longer.ensures.whole
