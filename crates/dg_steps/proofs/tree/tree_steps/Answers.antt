use Rattle.std.proofs.Common.{◌<◌, ◌+◌, ℕ, get_or, length, reverse, subst, sym, ◌∙◌}
use Rattle.std.specs.List.{All}
use Rattle.dg_fold.specs.Steps.{paired}
use Rattle.dg_fold.specs.Trees.{all_edges}
use Rattle.dg_graph.specs.Composition.{nothing}
use Rattle.dg_history.specs.declared.node.NodeId.TheVariants.{Root}
use Rattle.dg_steps.specs.TreeStepWalks.{AreKept, AreRooted, GoesBackOver, IsEntered, IsOver}
use Rattle.dg_steps.proofs.CrossingSteps.{Has}
use Rattle.dg_steps.proofs.CrossingWalks.{are_between}
use Rattle.dg_steps.proofs.GoingBack.{entered, rooted}
use Rattle.dg_steps.proofs.tree.tree_steps.Goals as goal

pub paths_to-requires-clause-rooted : goal.paths_to-requires-clause-rooted
paths_to-requires-clause-rooted g c =
    subst AreRooted (sym (c.deref.ensures.value ∙ c.in_ok-edges.ensures)) (rooted c.args.branches.now c.requires.grow c.requires.lead)

pub paths_to-requires-clause-entered : goal.paths_to-requires-clause-entered
paths_to-requires-clause-entered g c =
    subst (λ l. All (λ n. IsEntered n l) c.args.nodes.now) (sym (c.deref.ensures.value ∙ c.in_ok-edges.ensures)) (entered c.args.branches.now c.args.nodes.now c.requires.grow c.requires.lead c.requires.reached)

pub returns-clause-ok : goal.returns-clause-ok
returns-clause-ok g c =
    let names = c.args.name_count in
    let parts = c.args.parts.now in
    let nodes = c.args.nodes.now in
    let paths = c.in_ok-paths.paths.items in
    let kept = c.in-Ok.kept.items in
    let steps = c.in_ok-steps_over.field-0.items in
    are_between names (all_edges c.args.branches.now) parts nodes paths kept steps
    (subst (λ l. (n : ℕ) → n < length nodes → GoesBackOver n (get_or nodes n Root) l (reverse paths) Root) (c.deref.ensures.value ∙ c.in_ok-edges.ensures) c.in_ok-paths.ensures.paths)
    c.in_ok-paths.ensures.all
    (subst (λ l. (n m : ℕ) → All (Has n m) paths → AreKept names n m (paired l parts) (reverse paths) kept) (c.deref-2.ensures.value ∙ c.in_ok-edges.ensures) c.in-Ok.ensures.kept)
    c.in_ok-steps_over.ensures.count
    (subst (λ l. (n : ℕ) → n + 1 < length nodes → IsOver n (n + 1) l (get_or steps n nothing)) c.deref-3.ensures.value c.in_ok-steps_over.ensures.each)
