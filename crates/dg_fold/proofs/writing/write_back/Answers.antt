use Rattle.std.proofs.Common.{◌<◌, ℕ, ap, arith, get_or, length, refl, subst, sym, reverse, ◌∙◌}
use Rattle.dg_history.specs.declared.node.NodeId.TheVariants.{Root}
use Rattle.dg_fold.specs.Writings.{is_for}
use Rattle.dg_fold.specs.WritingSteps.{GoesBack, IsWritten}
use Rattle.dg_fold.specs.declared.writing.Writing.{Writing}
use Rattle.dg_fold.proofs.Trees.{none_left}
use Rattle.dg_fold.proofs.WritingSteps.{Backed, all_written, backed_none, backed_on, put_back, reverse_push}
use Rattle.dg_fold.proofs.writing.write_back.Goals as goal

pub loop-step-init : goal.loop-step-init
loop-step-init c =
    backed_none c.args.steps.items c.args.ends.items (reverse c.in_ok-writings.writings.items) c.requires.entered (ap reverse c.in_ok-writings.ensures.items)

pub loop-step-preserved : goal.loop-step-preserved
loop-step-preserved c =
    let old = c.loop-step in
    let next = c.all_go_back.new.at in
    let value = c.deref_mut.ensures.value in
    let as_long = ap length value in
    let w : Writing = record { delta = c.in-Some.step.delta; targets = c.in_ok-targets.targets } in
    let long = c.all_go_back.ensures.len in
    let back = put_back old.at.len next old.at.items (let ok = old.at.ok.0 in omega arith) in
    let written = ap reverse c.in_ok-push.ensures.items ∙ reverse_push old.writings.items w in
    subst (λ l. Backed c.args.steps.items c.pop.new.self.items c.args.ends.items l (reverse c.push.new.self.items)) (sym back)
    (subst (Backed c.args.steps.items c.pop.new.self.items c.args.ends.items next) (sym written)
    (backed_on c.args.steps.items old.rest.items c.pop.new.self.items c.in-Some.step c.args.ends.items old.at.items next (reverse old.writings.items) w
    c.requires.rooted old.invariant c.in-Some.ensures.items refl
    (subst (λ l. (n : ℕ) → n < length l → GoesBack c.in-Some.step.edge (get_or l n Root) (get_or next n Root) (is_for n w)) value c.in_ok-targets.ensures.back) (long ∙ as_long)))

pub returns : goal.returns
returns c =
    let rest = c.loop-step.rest.items in
    λ n less.
    subst (IsWritten c.args.steps.items n _) (sym c.reverse.ensures.items)
    (all_written c.args.steps.items rest c.args.ends.items c.loop-step.at.items (reverse c.loop-step.writings.items) c.loop-step.invariant (none_left rest (sym c.loop-step.rest.ok.0 ∙ c.in_default.ensures.cases.0)) n less)
