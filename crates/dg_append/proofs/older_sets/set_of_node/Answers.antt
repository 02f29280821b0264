use Rattle.std.proofs.Common.{◌∙◌, arith, sym}
use Rattle.std.proofs.lemmas.Bool.{true≢false}
use Rattle.dg_append.proofs.OlderChildSteps.{among_hit, among_miss, among_none}
use Rattle.dg_append.proofs.older_sets.set_of_node.Goals as goal

pub returns-then-is_same_node : goal.returns-then-is_same_node
returns-then-is_same_node c =
    c.index-sets-i.is
    ∙ sym (among_hit c.args.node c.args.other.now c.args.nodes.now c.args.sets.now c.loop-i.i _ _ c.requires (omega (arith, c.loop-i-test.true)) (c.is_same_node.ensures.same c.if-is_same_node.true)) ∙ c.loop-i.invariant

pub loop-i-preserved : goal.loop-i-preserved
loop-i-preserved c =
    among_miss c.args.node c.args.other.now c.args.nodes.now c.args.sets.now c.loop-i.i _ c.requires (omega (arith, c.loop-i-test.true)) (λ e. true≢false (sym (c.is_same_node.ensures.all e) ∙ c.if-is_same_node.false))
    ∙ c.loop-i.invariant

pub returns : goal.returns
returns c = sym (among_none c.args.node c.args.other.now c.args.nodes.now _ c.loop-i.i (omega (arith, c.loop-i-test.false))) ∙ c.loop-i.invariant
