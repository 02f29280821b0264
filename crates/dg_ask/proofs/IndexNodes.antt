-- The nodes that handles hold are nodes of the graph in which plans are made.
use Rattle.std.proofs.Common.{◌≡◌, ℕ, ◌≤◌, Bool, true, false, List as ListOf, [], ◌∷◌, Option, Some, None, Result, Ok, Err}
use Rattle.std.specs.Prelude.{IfOk, IfSome}
use Rattle.std.specs.List.{All, Contains}
use Rattle.std.proofs.lemmas.Bool.{false≢true}
use Rattle.std.proofs.lemmas.List.Elements.{All-append, All-cons, All-head, All-nil, All-tail}
use Rattle.dg_graph.specs.declared.element.Columns.{Columns}
use Rattle.dg_history.specs.declared.node.NodeId.{NodeId}
use Rattle.dg_history.specs.declared.node.NodeId.TheVariants.{Root, Now, Recent, Leaf, List, Inner}
use Rattle.dg_history.specs.declared.params.Params.{Params}
use Rattle.dg_index.specs.Hierarchy.{leaves}
use Rattle.dg_index.specs.OpenedIndex.{Opening, event_total}
use Rattle.dg_machine.specs.declared.stands.Stands.{Stands}
use Rattle.dg_machine.specs.MachineState.{base_node}
use Rattle.dg_machine.specs.Needs.{can_be_held}
use Rattle.dg_machine.specs.Planning.{base_if, bases_in, includes, usable}
use Rattle.dg_plan.specs.IndexGraph.{Ground, nodes_of}
use Rattle.dg_planner.specs.Bases.{AreBasesAmong}
use Rattle.dg_planner.specs.IndexNodes.{NodesAreListed}
use Rattle.dg_ask.specs.HeldIndex.{HasNode, HasNodeOf, HasNodes}

-- what follows from two facts of a value that is given
pub both_given : {X E : Type 0} (r : Result X E) (P Q R : X → Type 0) → ((x : X) → P x → Q x → R x) → IfOk r P → IfOk r Q → IfOk r R
both_given (Ok x) P Q R f p q = f x p q
both_given (Err e) P Q R f p q = tt

-- a leaf or an interior node that can be held is a node of the graph
pub node_listed : NodesAreListed → (p : Params) (n : ℕ) → 2 ≤ p.k → (g : Ground) → g.leaves ≡ leaves p n → g.arity ≡ p.k
    → (node : NodeId) → can_be_held p n node ≡ true → Contains (nodes_of g) node
node_listed listed p n wide g many arity Root there = absurd (false≢true there)
node_listed listed p n wide g many arity Now there = absurd (false≢true there)
node_listed listed p n wide g many arity Recent there = absurd (false≢true there)
node_listed listed p n wide g many arity (Leaf j) there = listed p n wide g many arity (Leaf j) tt there
node_listed listed p n wide g many arity (List i) there = absurd (false≢true there)
node_listed listed p n wide g many arity (Inner h j) there = listed p n wide g many arity (Inner h j) tt there

-- and so is the node of each handle that can serve
pub bases_listed : NodesAreListed → (o : Opening) → 2 ≤ o.params.k → (g : Ground) → g.leaves ≡ leaves o.params (event_total o.batches) → g.arity ≡ o.params.k
    → (cols : Columns) (table : ListOf (ℕ × Stands)) → HasNodes (Some o) table → AreBasesAmong (nodes_of g) (bases_in cols table)
bases_listed listed o wide g many arity cols [] has = All-nil (λ (b : ℕ × NodeId). Contains (nodes_of g) b.1)
bases_listed listed o wide g many arity cols (e ∷ table) has =
    All-append (λ (b : ℕ × NodeId). Contains (nodes_of g) b.1) (usable cols e) (bases_in cols table)
    (one e.0 (includes e.1.cols cols) (base_node e.1.what) (All-head (λ (x : ℕ × Stands). HasNodeOf (Some o) x.1) e table has))
    (bases_listed listed o wide g many arity cols table (All-tail (λ (x : ℕ × Stands). HasNodeOf (Some o) x.1) e table has))
  where
    one : (handle : ℕ) (serves : Bool) (held : Option NodeId) → IfSome held (HasNode (Some o)) → All (λ (b : ℕ × NodeId). Contains (nodes_of g) b.1) (base_if serves handle held)
    one handle serves None has = All-nil (λ (b : ℕ × NodeId). Contains (nodes_of g) b.1)
    one handle false (Some node) has = All-nil (λ (b : ℕ × NodeId). Contains (nodes_of g) b.1)
    one handle true (Some node) has =
        All-cons (λ (b : ℕ × NodeId). Contains (nodes_of g) b.1) (handle, node) [] (node_listed listed o.params (event_total o.batches) wide g many arity node has) (All-nil (λ (b : ℕ × NodeId). Contains (nodes_of g) b.1))
