-- What the steps between nodes are, and what is known where they are not made, by the tree that is read.
use Rattle.std.proofs.Common.{◌≡◌, ◌-◌, ℕ, false, List, [], ◌∷◌, Option, Result, Ok, Err, IfSome, inr, length, map, refl, sym, ap, subst, ◌∙◌, arith, Vec, Global}
use Rattle.std.specs.List.{All, Contains, sum}
use Rattle.std.proofs.lemmas.List.Elements.{All-nil}
use Rattle.std.proofs.lemmas.Option.{IfSome_then}
use Rattle.dg_graph.specs.declared.element.Column.{Column}
use Rattle.dg_graph.specs.Composition.{Delta}
use Rattle.dg_history.specs.declared.node.Key.{Key}
use Rattle.dg_history.specs.declared.node.NodeId.{NodeId}
use Rattle.dg_history.specs.declared.node.NodeId.TheVariants.{Root}
use Rattle.dg_history.specs.History.{History, names_of}
use Rattle.dg_index.specs.IndexRecords.{column_in}
use Rattle.dg_index.specs.OpenedIndex.{Opening}
use Rattle.dg_plan.specs.declared.edge.Edge.{Edge}
use Rattle.dg_plan.specs.HistoryGraph.{all_columns}
use Rattle.dg_plan.specs.IndexGraph.{arcs_of}
use Rattle.dg_plan.specs.TreePaths.{edges_at}
use Rattle.dg_plan.specs.Walks.{AreSingles, Graft, IsTree, steps_of}
use Rattle.dg_fold.specs.declared.fault.FoldFault.{FoldFault}
use Rattle.dg_fold.specs.declared.fault.FoldFault.TheVariants as fold_fault
use Rattle.dg_fold.specs.declared.part.Part.{Part}
use Rattle.dg_fold.specs.declared.tree.Branch.{Branch}
use Rattle.dg_fold.specs.BytesRead.{AreParts, TakesAtMost, kept_in, named_along}
use Rattle.dg_fold.specs.Ends.{FailsIn}
use Rattle.dg_fold.specs.Parts.{beside}
use Rattle.dg_fold.specs.PathIndependence.{contents}
use Rattle.dg_fold.specs.Steps.{PartedStep, paired, steps_in}
use Rattle.dg_fold.specs.Trees.{all_edges}
use Rattle.dg_fold.proofs.LegalHistories.{legal_is_indexed}
use Rattle.dg_records.specs.declared.fault.RecordFault.{RecordFault}
use Rattle.dg_retrieval.specs.Branches.{AreBranches}
use Rattle.dg_fold.specs.Faults.{of_fold}
use Rattle.dg_retrieval.specs.KeptGraph.{record_edges, record_ground}
use Rattle.dg_retrieval.specs.NodeSets.{IsIndexOver, IsUndamaged, sets_of}
use Rattle.dg_retrieval.specs.Retrieval.{IsFirstDamage, IsNoDamage}
use Rattle.dg_retrieval.specs.TreeLeads.{AreIndexEdges}
use Rattle.dg_retrieval.specs.TreeParts.{IsTreeWalk}
use Rattle.dg_retrieval.proofs.BeginningGraphs.{ends_are}
use Rattle.dg_retrieval.proofs.BranchTrees.{branches_hold}
use Rattle.dg_retrieval.proofs.CallRecords.{HandsOut}
use Rattle.dg_retrieval.proofs.KeptGraphRecords.{graph_of_index}
use Rattle.dg_retrieval.proofs.KeptGraphWalks.{walk_among, walk_records}
use Rattle.dg_retrieval.proofs.PartDamages.{damage_is, parts_are_whole}
use Rattle.dg_steps.specs.NodeSteps.{AreLedSteps, GivesStepsOver, steps_among}
use Rattle.dg_steps.specs.TreeSteps.{AreStepsBetween, IsStepBetween}
use Rattle.dg_steps.proofs.StepLaws.{step_exact, steps_lead}
use Rattle.dg_steps.proofs.StepWalks.{all_read}

-- the records of an index alone are those without the current graph and without bases
pub alone : (o : Opening) (edges : List Edge) → edges ≡ record_edges o → AreIndexEdges o all_columns edges
alone o edges is = (false, [], All-nil (λ (b : ℕ × NodeId). _), is)

-- there is a step from each node to the next
pub steps_many : (names : ℕ) (all : List PartedStep) (nodes : List NodeId) (steps : List Delta) → AreStepsBetween names all nodes steps → length steps ≡ length nodes - 1
steps_many names all [] [] are = refl
steps_many names all [] (d ∷ steps) are = elim are [ ]
steps_many names all (u ∷ []) [] are = refl
steps_many names all (u ∷ []) (d ∷ steps) are = elim are [ ]
steps_many names all (u ∷ v ∷ nodes) [] are = elim are [ ]
steps_many names all (u ∷ v ∷ nodes) (d ∷ steps) are = (let rest = steps_many names all (v ∷ nodes) steps are.1 in omega arith)

-- The branches and the parts are those that were read.
module _ {edges : List Edge} {targets : List NodeId} {grafts : List (Graft NodeId)} {walk : List Edge} {made branches : List Branch} {kept parts : List Part}
    (planned : IsTreeWalk edges targets grafts made walk) (alike : branches ≡ made) (same : parts ≡ kept) where
  walked : IsTreeWalk edges targets grafts branches walk
  walked = subst (λ (bs : List Branch). IsTreeWalk edges targets grafts bs walk) (sym alike) planned

  -- a path leads to each of the targets
  pub reached : (nodes : List NodeId) → All (Contains targets) nodes → All (Contains (map (λ (b : Branch). b.to) branches)) nodes
  reached nodes all = subst (λ (ns : List NodeId). All (Contains ns) nodes) (sym (ends_are edges targets grafts branches walked.made)) all

  in_steps : all_edges branches ≡ edges_at edges (steps_of grafts)
  in_steps = branches_hold edges targets grafts branches walked.made

  module _ (o : Opening) (image : Option (List ℕ)) (held : IfSome image (λ im. AreParts (kept_in im o) all_columns (named_along walk) kept)) (names : ℕ) where
    -- the parts are those of the branches, and of the tree's steps
    of_branches : IfSome image (λ im. AreParts (kept_in im o) all_columns (named_along (all_edges branches)) parts)
    of_branches =
        subst (λ (w : List Edge). IfSome image (λ im. AreParts (kept_in im o) all_columns (named_along w) parts)) walked.along
        (subst (λ (ps : List Part). IfSome image (λ im. AreParts (kept_in im o) all_columns (named_along walk) ps)) (sym same) held)

    of_steps : (im : List ℕ) → AreParts (kept_in im o) all_columns (named_along (all_edges branches)) parts → AreParts (kept_in im o) all_columns (named_along (edges_at edges (steps_of grafts))) parts
    of_steps im there = subst (λ (w : List Edge). AreParts (kept_in im o) all_columns (named_along w) parts) in_steps there

    -- a fault names the first damage of the tree's parts
    pub damage_of : (f : FoldFault) → FailsIn f (steps_in names [] (paired (all_edges branches) parts)) → IfSome image (λ im. IsFirstDamage names edges o all_columns targets im (of_fold f))
    damage_of fold_fault.Memory fails = IfSome_then image of_branches (λ im there. tt)
    damage_of (fold_fault.Damaged key col) fails = IfSome_then image of_branches (λ im there. (
      grafts,
      walked.tree,
      parts,
      of_steps im there,
      damage_is names [] (kept_in im o) all_columns (all_edges branches) parts [] [] (key, col) there (ap (λ (due : Result (List Delta) (Key × Column)). beside due (Ok [])) fails),
    ))

    -- where the steps are made, none of the parts is damaged
    pub whole_of : (list : List Delta) → steps_in names [] (paired (all_edges branches) parts) ≡ Ok list → IfSome image (λ im. IsUndamaged names edges o all_columns targets im)
    whole_of list ok = IfSome_then image of_branches (λ im there.
        let whole = parts_are_whole names [] (kept_in im o) all_columns (all_edges branches) parts list there ok in
        (grafts, walked.tree, parts, of_steps im there, whole.0, whole.1))

    module _ (is : edges ≡ record_edges o) where
      -- the steps are those of the tree
      pub led_of : (nodes : List NodeId) (steps : List Delta) → AreStepsBetween names (paired (all_edges branches) parts) nodes steps → IfSome image (λ im. AreLedSteps names im o targets nodes steps)
      led_of nodes steps are = IfSome_then image of_branches (λ im there. (
        grafts,
        subst (λ (es : List Edge). IsTree (arcs_of es) (Root ∷ []) targets grafts) is walked.tree,
        branches,
        subst (λ (es : List Edge). AreBranches es targets grafts branches) is walked.made,
        parts,
        there,
        are,
      ))

      module _ (im : List ℕ) (there : AreParts (kept_in im o) all_columns (named_along (all_edges branches)) parts) (z : History) (over : IsIndexOver z im o names) where
        among : All (Contains (record_edges o)) (all_edges branches)
        among = walk_among o all_columns false [] edges is (steps_of grafts) (all_edges branches) in_steps

        -- they hold the columns of the history's records
        records : AreParts (λ key col. column_in z key col) all_columns (named_along (all_edges branches)) parts
        records = walk_records o all_columns false [] edges is (steps_of grafts) (all_edges branches) in_steps z im over.stands over.opened parts there

        -- nothing along the tree is damaged
        no_damage : (x : Key × Column) → steps_in names [] (paired (all_edges branches) parts) ≡ Err x → ⊥
        no_damage x damaged =
            let indexed = (legal_is_indexed z over.stands.legal).0 in
            let read =
            all_read (length (names_of z)) indexed.names_fit (contents z) (paired (all_edges branches) parts)
            (steps_lead (length (names_of z)) z indexed (record_ground o) (graph_of_index z o over.opened all_columns false []) refl refl (all_edges branches) among parts records) in
            let is_damage : Ok read.0 ≡ Err x = sym read.1 ∙ ap (λ n. steps_in n [] (paired (all_edges branches) parts)) (sym over.names) ∙ damaged in
            absurd cc

        -- the steps between these nodes are those between their sets
        exact : (nodes : List NodeId) (steps : List Delta) → AreStepsBetween names (paired (all_edges branches) parts) nodes steps → steps ≡ steps_among (sets_of z nodes)
        exact [] [] are = refl
        exact [] (d ∷ steps) are = elim are [ ]
        exact (u ∷ []) [] are = refl
        exact (u ∷ []) (d ∷ steps) are = elim are [ ]
        exact (u ∷ v ∷ nodes) [] are = elim are [ ]
        exact (u ∷ v ∷ nodes) (d ∷ steps) are =
            let one =
            step_exact (length (names_of z)) z (legal_is_indexed z over.stands.legal).0 (record_ground o) (graph_of_index z o over.opened all_columns false []) refl refl
            (all_edges branches) among parts records u v d (subst (λ n. IsStepBetween n (paired (all_edges branches) parts) u v d) over.names are.0) in
            let rest = exact (v ∷ nodes) steps are.1 in
            λ i. one i ∷ rest i

      pub exact_of_history : (nodes : List NodeId) (steps : List Delta) → AreStepsBetween names (paired (all_edges branches) parts) nodes steps
          → IfSome image (λ im. (z : History) → IsIndexOver z im o names → steps ≡ steps_among (sets_of z nodes))
      exact_of_history nodes steps are = IfSome_then image of_branches (λ im there z over. exact im there z over nodes steps are)

      pub never_of : (f : FoldFault) → FailsIn f (steps_in names [] (paired (all_edges branches) parts)) → IfSome image (λ im. (z : History) → IsIndexOver z im o names → IsNoDamage (of_fold f))
      never_of fold_fault.Memory fails = IfSome_then image of_branches (λ im there z over. inr refl)
      never_of (fold_fault.Damaged key col) fails = IfSome_then image of_branches (λ im there z over. absurd (no_damage im there z over (key, col) fails))

-- ---- over an image of a history

-- without steps, whatever was read
pub steps_failed : {z : History} {edges : List Edge} {targets nodes : List NodeId} {before after : ℕ} (r : Result (Vec Delta Global) RecordFault) (f : RecordFault) → HandsOut r f
    → ((singles : List ℕ) → AreSingles (arcs_of edges) (Root ∷ []) targets singles → TakesAtMost (sum singles) before after) → IsNoDamage f → GivesStepsOver z edges targets nodes before after r
steps_failed (Ok steps) f h most none = cc
steps_failed (Err y) f h most none = record { steps = tt; most = most; never = subst IsNoDamage (sym h.1) none }
