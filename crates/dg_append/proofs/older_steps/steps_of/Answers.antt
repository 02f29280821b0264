use Rattle.std.proofs.Common.{◌≡◌, List, subst, sym, ℕ, Option, Some, None, Result, Ok, Err, inl, inr}
use Rattle.std.specs.List.{All, Contains}
use Rattle.std.specs.Prelude.{IfOk, IfSome}
use Rattle.dg_append.proofs.BatchSegmentHistory.{index_over}
use Rattle.dg_append.proofs.OlderGroupSets.{some_map}
use Rattle.dg_append.proofs.older_steps.steps_of.Goals as goal
use Rattle.dg_history.specs.declared.node.NodeId.{NodeId}

pub returns-then-has_one_tree-clause-over : goal.returns-then-has_one_tree-clause-over
returns-then-has_one_tree-clause-over g c =
    some_map (g.D.Disk.image c.args.disk.now) _ _ (λ image gives z is. gives z (index_over z image c.args.index.now.opening c.args.next.now c.args.next.now.current.now.graph is c.requires.known)) c.steps_by_tree.ensures.over

pub returns-clause-over : goal.returns-clause-over
returns-clause-over g c =
    some_map (g.D.Disk.image c.args.disk.now) _ _ (λ image gives z is. gives z (index_over z image c.args.index.now.opening c.args.next.now c.args.next.now.current.now.graph is c.requires.known) is) c.steps_by_sets.ensures.over

there : (given all nodes : List NodeId) → given ≡ all → All (Contains all) nodes → All (Contains given) nodes
there given all nodes same each = subst (λ (ns : List NodeId). All (Contains ns) nodes) (sym same) each

pub steps_by_tree-requires-clause-nodes : goal.steps_by_tree-requires-clause-nodes
steps_by_tree-requires-clause-nodes g c = there _ _ c.args.nodes.now c.in_ok-planner.ensures.nodes c.requires.nodes

pub steps_by_sets-requires-clause-nodes : goal.steps_by_sets-requires-clause-nodes
steps_by_sets-requires-clause-nodes g c = there _ _ c.args.nodes.now c.in_ok-planner.ensures.nodes c.requires.nodes

-- what is told of what is given is told more widely
given_map : {A E : Type 0} (told : Option (List ℕ)) (r : Result A E) (P Q : List ℕ → A → Type 0) → ((image : List ℕ) (x : A) → P image x → Q image x) → IfSome told (λ image. IfOk r (P image)) → IfSome told (λ image. IfOk r (Q image))
given_map None r P Q f h = tt
given_map (Some image) (Ok x) P Q f h = f image x h
given_map (Some image) (Err e) P Q f h = tt

pub returns-then-has_one_tree-clause-led : goal.returns-then-has_one_tree-clause-led
returns-then-has_one_tree-clause-led g c = given_map (g.D.Disk.image c.args.disk.now) c.steps_by_tree.result _ _ (λ image steps led. inl led) c.steps_by_tree.ensures.led

pub returns-clause-led : goal.returns-clause-led
returns-clause-led g c = given_map (g.D.Disk.image c.args.disk.now) c.steps_by_sets.result _ _ (λ image steps led. inr led) c.steps_by_sets.ensures.led
