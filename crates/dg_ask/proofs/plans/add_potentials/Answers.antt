use Rattle.std.proofs.Common.{◌≡◌, ℕ, Bool, true, false, ◌++◌, length, get_or, sym, ◌∙◌, ap, arith, refl}
use Rattle.std.specs.Prelude.{nat_le}
use Rattle.std.proofs.lemmas.List.{append-nil}
use Rattle.std.proofs.lemmas.Bool.{leb-true, leb-false}
use Rattle.dg_history.specs.declared.node.NodeId.TheVariants.{Root}
use Rattle.dg_machine.specs.Answer.{potential_lines}
use Rattle.dg_ask.proofs.AnswerPlans.{line_hidden, line_shown, nodes_done, potential_more, potentials_done}
use Rattle.dg_ask.proofs.plans.add_potentials.Goals as goal
use Rattle.dg_ask.proofs.plans.add_potentials.Goals.{then-potentials-i+in_ok-push, else-potentials-i}

pub loop-i-preserved : goal.loop-i-preserved
loop-i-preserved c =
    let i : ℕ = c.loop-i.i in
    let now = c.loop-i.lines.items in
    let below = c.loop-i-test.true in
    elim c.if-potentials-i.branch [
      | then-potentials-i+in_ok-push w ↦ rw w.lines-is
          (potential_more c.args.weight c.args.nodes.now c.args.potentials.now c.args.lines.now.items now _ i Root
          (grind (arith, c.min-count.ensures, below)) (grind (arith, c.min-count.ensures, below)) c.loop-i.invariant
          (w.in_ok-push.ensures.items ∙ ap (λ l. now ++ l) (sym (line_shown c.args.weight (get_or c.args.potentials.now i 0) (get_or c.args.nodes.now i Root) w.if-potentials-i.true))))
      | else-potentials-i w ↦ rw w.lines-is
          (potential_more c.args.weight c.args.nodes.now c.args.potentials.now c.args.lines.now.items now now i Root
          (grind (arith, c.min-count.ensures, below)) (grind (arith, c.min-count.ensures, below)) c.loop-i.invariant
          (sym (append-nil now) ∙ ap (λ l. now ++ l) (sym (line_hidden c.args.weight (get_or c.args.potentials.now i 0) (get_or c.args.nodes.now i Root) (omega (arith, w.if-potentials-i.false))))))
    ]

pub returns : goal.returns
returns c = by (nat_le (length c.args.nodes.now) c.loop-i.i) refl
  where
    by : (b : Bool) → nat_le (length c.args.nodes.now) c.loop-i.i ≡ b → c.loop-i.lines.items ≡ c.args.lines.now.items ++ potential_lines c.args.weight c.args.nodes.now c.args.potentials.now
    by true e = nodes_done c.args.weight c.args.nodes.now c.args.potentials.now c.args.lines.now.items c.loop-i.lines.items c.loop-i.i (leb-true _ _ e) c.loop-i.invariant
    by false e = potentials_done c.args.weight c.args.nodes.now c.args.potentials.now c.args.lines.now.items c.loop-i.lines.items c.loop-i.i (grind (arith, c.min-count.ensures, c.loop-i-test.false, leb-false _ _ e)) c.loop-i.invariant
