-- The set of the last leaf: its node is one of the graph of the records, and why there is none.
use Rattle.std.proofs.Common.{◌≡◌, ℕ, zero, suc, ◌+◌, List as ListOf, [], ◌∷◌, ◌++◌, Option, Result, Ok, Err, map, refl, subst, sym, arith}
use Rattle.std.specs.Prelude.{IfSome}
use Rattle.std.specs.List.{Contains}
use Rattle.std.proofs.lemmas.List.Elements.{Contains-append_left}
use Rattle.std.proofs.lemmas.Option.{IfSome_then}
use Rattle.dg_graph.specs.declared.element.Element.{Element}
use Rattle.dg_history.specs.declared.node.NodeId.{NodeId}
use Rattle.dg_history.specs.declared.node.NodeId.TheVariants.{Leaf, List, Root}
use Rattle.dg_history.specs.History.{History}
use Rattle.dg_index.specs.Hierarchy.{numbers}
use Rattle.dg_index.specs.OpenedIndex.{Opening}
use Rattle.dg_plan.specs.declared.edge.Edge.{Edge}
use Rattle.dg_plan.specs.IndexGraph.{arcs_of, inner_nodes, leaf}
use Rattle.dg_plan.specs.Walks.{IsPlan, weight_of}
use Rattle.dg_plan.proofs.IndexGraphReachability.{contains_mapped, contains_number}
use Rattle.dg_records.specs.ColumnReads.{Takes, TakesAtMost}
use Rattle.dg_records.specs.declared.fault.RecordFault.{RecordFault}
use Rattle.dg_records.specs.declared.fault.RecordFault.TheVariants as retrieval_fault
use Rattle.dg_records.specs.ColumnReads.{TakesOrFails}
use Rattle.dg_retrieval.specs.Calls.{GivesSetOver, TellsPlan}
use Rattle.dg_retrieval.specs.KeptGraph.{record_edges, record_ground, record_nodes}
use Rattle.dg_retrieval.specs.NodeSets.{IsIndexOver}
use Rattle.dg_start.specs.declared.fault.StartFault.{StartFault}
use Rattle.dg_start.specs.Calls.{TakesAlongPlan, plan_bytes}
use Rattle.dg_start.specs.Faults.{start_fault_of}
use Rattle.dg_start.specs.Refusals.{RefusesPlan}
use Rattle.dg_start.specs.SessionStart.{PlansLastLeaf, last_leaf, lists_in}
use Rattle.dg_start.proofs.EventSourceBytes.{HandsOn, fails_with, takes_less, takes_none}
use Rattle.dg_start.proofs.EventSourceOutcomes.{if_told}

-- the last leaf is a node of the graph of the records
pub leaf_there : (o : Opening) → Contains (record_nodes o) (last_leaf o)
leaf_there o = by (lists_in o) refl
  where
    inside : (m : ℕ) → lists_in o ≡ suc m → Contains (map (λ j. Leaf j) (numbers 1 (lists_in o))) (Leaf (suc m))
    inside m is =
        contains_mapped (λ j. Leaf j) (numbers 1 (lists_in o)) (suc m)
        (subst (Contains (numbers 1 (lists_in o))) (let h : 1 + m ≡ suc m = omega arith in h) (contains_number 1 (lists_in o) m (omega (arith, is))))

    by : (m : ℕ) → lists_in o ≡ m → Contains (record_nodes o) (leaf m)
    by zero is = (0, omega arith, refl)
    by (suc m) is =
        let there = Contains-append_left (map (λ j. Leaf j) (numbers 1 (lists_in o))) (map (λ i. List i) (numbers 0 (lists_in o)) ++ inner_nodes (record_ground o)) (Leaf (suc m)) (inside m is) in
        (suc there.0, (let h = there.1 in omega arith), there.2)

-- why there is no set
pub refused_so : (told : Option (ListOf ℕ)) (names : ℕ) (o : Opening) (node : NodeId) (f : RecordFault) → node ≡ last_leaf o → IfSome told (λ image. TellsPlan names image o node (Err f))
    → IfSome told (λ image. RefusesPlan names image o (start_fault_of f))
refused_so told names o node f is telling = IfSome_then told telling (λ image h. of_fault image f (subst (λ (n : NodeId). TellsPlan names image o n (Err f)) is h))
  where
    of_fault : (image : ListOf ℕ) (f : RecordFault) → TellsPlan names image o (last_leaf o) (Err f) → RefusesPlan names image o (start_fault_of f)
    of_fault image retrieval_fault.Disk h = tt
    of_fault image retrieval_fault.Memory h = tt
    of_fault image (retrieval_fault.Damaged key col) h = h

-- ---- the bytes read, over an image of a history

pub plan_unread : {A : Type 0} (told : Option (ListOf ℕ)) (r : Result A StartFault) (f : StartFault) (n : ListOf ℕ → ℕ) (o : Opening) (count a b : ℕ) → HandsOn r f → b ≡ a
    → IfSome told (λ image. TakesAlongPlan r n image o count a b)
plan_unread told r f n o count a b given is =
    if_told told (λ image. TakesAlongPlan r n image o count a b) (λ image h z over steps plan. fails_with r f (n steps) a b given (takes_none (n steps) a b is))

pub at_most : {A E : Type 0} (s : Result A E) (n a b : ℕ) → TakesOrFails s n a b → TakesAtMost n a b
at_most (Ok x) n a b h = takes_less n a b h
at_most (Err e) n a b h = h

-- a call that fails behind another one, which read the bytes
pub plan_handed : {A B E : Type 0} (told : Option (ListOf ℕ)) (r : Result A StartFault) (f : StartFault) (s : Result B E) (n : ListOf ℕ → ℕ) (o : Opening) (count a b : ℕ) → HandsOn r f
    → IfSome told (λ image. TakesAlongPlan s n image o count a b) → IfSome told (λ image. TakesAlongPlan r n image o count a b)
plan_handed told r f s n o count a b given h =
    IfSome_then told h (λ image along z over steps plan. fails_with r f (n steps) a b given (at_most s (n steps) a b (along z over steps plan)))

module _ (told : Option (ListOf ℕ)) (o : Opening) (count : ℕ) (edges : ListOf Edge) (node : NodeId) (a b : ℕ) (edges_are : edges ≡ record_edges o) (node_is : node ≡ last_leaf o) where
  abbrev Along : ListOf Edge → NodeId → ListOf ℕ → Type 0
  Along es n steps = IsPlan (arcs_of es) (Root ∷ []) n steps

  -- the plan of the last leaf is one in the graph that was planned over
  along : (P : ListOf Edge → ListOf ℕ → Type 0) (steps : ListOf ℕ) → ((steps : ListOf ℕ) → Along edges node steps → P edges steps) → PlansLastLeaf o steps → P (record_edges o) steps
  along P steps h plan =
      subst (λ (es : ListOf Edge). P es steps) edges_are
      (h steps (subst (λ (es : ListOf Edge). Along es node steps) (sym edges_are) (subst (λ (n : NodeId). Along (record_edges o) n steps) (sym node_is) plan)))

  pub set_fails : {A : Type 0} (r : Result A StartFault) (f : StartFault) (g : RecordFault) → HandsOn r f
      → IfSome told (λ image. (z : History) → IsIndexOver z image o count → GivesSetOver z edges node a b (Err g))
      → IfSome told (λ image. TakesAlongPlan r (plan_bytes o) image o count a b)
  set_fails r f g given h =
      IfSome_then told h (λ image gives z over steps plan.
      fails_with r f (plan_bytes o steps) a b given (along (λ es steps. TakesAtMost (weight_of (arcs_of es) steps) a b) steps (gives z over).most plan))

  pub set_taken : (set : ListOf Element) → IfSome told (λ image. (z : History) → IsIndexOver z image o count → GivesSetOver z edges node a b (Ok set))
      → IfSome told (λ image. TakesAlongPlan (let r : Result (ListOf Element) StartFault = Ok set in r) (plan_bytes o) image o count a b)
  set_taken set h =
      IfSome_then told h (λ image gives z over steps plan. along (λ es steps. Takes (weight_of (arcs_of es) steps) a b) steps (gives z over).takes plan)
