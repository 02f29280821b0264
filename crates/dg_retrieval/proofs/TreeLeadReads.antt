-- What is read and composed along a tree, by the tree that is planned and the records that it enters.
use Rattle.std.proofs.Common.{◌≡◌, ℕ, suc, ◌≤◌, true, List as ListOf, [], ◌∷◌, ◌++◌, Option, Some, None, Result, Ok, Err, IfSome, inl, inr, arith, length, map, reverse, refl, sym, ap, subst, ◌∙◌}
use Rattle.std.specs.Prelude.{IsErr, IsErrAnd}
use Rattle.std.specs.List.{All, AllZip, Contains, sum}
use Rattle.std.proofs.lemmas.List.{length-map}
use Rattle.std.proofs.lemmas.List.Elements.{All-cons, All-contains_itself, All-nil}
use Rattle.std.proofs.lemmas.Option.{IfSome_then}
use Rattle.dg_fold.specs.declared.fault.FoldFault.{FoldFault}
use Rattle.dg_fold.specs.declared.fault.FoldFault.TheVariants as fold_fault
use Rattle.dg_fold.specs.declared.part.Part.{Part}
use Rattle.dg_fold.specs.declared.tree.Branch.{Branch}
use Rattle.dg_fold.specs.BytesRead.{AreParts, HoldsWhatIsEntered, IsKept, Takes, TakesAtMost, entered_length, kept_in, named_along}
use Rattle.dg_fold.specs.Ends.{AreLedUntil, FailsIn, Lead, lasts_in}
use Rattle.dg_fold.specs.Parts.{beside, parts_in}
use Rattle.dg_plan.specs.TreePaths.{base_behind, edges_at}
use Rattle.dg_fold.specs.Steps.{paired, steps_in}
use Rattle.dg_fold.specs.Trees.{Grow, LeadsToTarget, all_edges}
use Rattle.dg_fold.specs.Writings.{AreWrittenFrom}
use Rattle.dg_fold.specs.declared.writing.Writing.{Writing}
use Rattle.dg_graph.specs.declared.element.Column.{Column}
use Rattle.dg_graph.specs.declared.element.Columns.{Columns}
use Rattle.dg_graph.specs.declared.event.Event.{Event}
use Rattle.dg_graph.specs.Composition.{Delta}
use Rattle.dg_history.specs.declared.node.Key.{Key}
use Rattle.dg_history.specs.declared.node.NodeId.{NodeId}
use Rattle.dg_history.specs.declared.node.NodeId.TheVariants.{Root}
use Rattle.dg_history.specs.History.{History, are_parameters, events_of, names_of}
use Rattle.dg_index.specs.ImageOfHistory.{IsImageOf}
use Rattle.dg_index.specs.IndexKeys.{AreKept}
use Rattle.dg_index.specs.IndexRecords.{recent_of}
use Rattle.dg_index.specs.OpenedIndex.{Opening, opened_of}
use Rattle.dg_plan.specs.declared.edge.Edge.{Edge}
use Rattle.dg_plan.specs.IndexGraph.{arcs_of}
use Rattle.dg_plan.specs.Walks.{AreSingles, Arc, Graft, IsTree, entered, steps_of, tree_weight, weight_of}
use Rattle.dg_plan.proofs.WalkPlans.{one_plan}
use Rattle.dg_plan.proofs.WalkTrees.{tree_grows}
use Rattle.dg_planner.specs.declared.tree.Graft.{Graft as PlannedGraft}
use Rattle.dg_planner.specs.Trees.{node_graft, node_grafts}
use Rattle.dg_retrieval.specs.Branches.{AreBranches}
use Rattle.dg_fold.specs.Faults.{of_fold}
use Rattle.dg_records.specs.declared.fault.RecordFault.{RecordFault}
use Rattle.dg_retrieval.specs.declared.graph_lead.Beginning.{Beginning}
use Rattle.dg_retrieval.specs.Beginnings.{GraphLead, IsOffered, LeadsAs, BeginningStandsFor, base_handle, begun_within, leads_from}
use Rattle.dg_retrieval.specs.Calls.{LeadNamesAreThere}
use Rattle.dg_retrieval.specs.KeptGraph.{index_ground}
use Rattle.dg_retrieval.specs.NodeSets.{IsIndexOver, IsUndamaged}
use Rattle.dg_retrieval.specs.Retrieval.{IsFirstDamage, IsNoDamage, TakesAtMostTree}
use Rattle.dg_retrieval.specs.TreeLeads.{AreIndexEdges, LeadAlongTree}
use Rattle.dg_retrieval.specs.TreeParts.{IsTreeWalk}
use Rattle.dg_retrieval.proofs.PartDamages.{damage_is, none_damaged, parts_are_whole}
use Rattle.dg_retrieval.proofs.HistoryTreeLaws.{trees_reach}
use Rattle.dg_retrieval.proofs.KeptGraphWalks.{walk_among, walk_entered, walk_kept, walk_records, walk_weighs}
use Rattle.dg_retrieval.proofs.KeptGraphRecords.{graph_of_index}
use Rattle.dg_retrieval.proofs.BeginningGraphs.{ends_are}
use Rattle.dg_retrieval.proofs.BeginningLeads.{leads_many}
use Rattle.dg_retrieval.proofs.BeginningBases.{EdgesGrow, EntersNow, all_back, base_found, base_offered, edges_enter, edges_grow, path_stands}
use Rattle.dg_retrieval.proofs.BranchTrees.{all_at, branches_grow, branches_hold, branches_lead, branches_many}
use Rattle.dg_retrieval.proofs.NamesThere.{leads_there}
use Rattle.dg_retrieval.proofs.KeptGraphWeights.{one_weight, tree_steps_weigh}

-- ---- what was planned

-- a tree has a graft for each target
tree_many : {N : Type 0} (g : ListOf (Arc N)) (tree targets : ListOf N) (grafts : ListOf (Graft N)) → IsTree g tree targets grafts → length grafts ≡ length targets
tree_many g tree [] [] t = refl
tree_many g tree [] (x ∷ grafts) t = elim t [ ]
tree_many g tree (v ∷ targets) [] t = elim t [ ]
tree_many g tree (v ∷ targets) (x ∷ grafts) t = ap (λ n. suc n) (tree_many g (tree ++ entered g x.steps) targets grafts t.3)

pub grafts_many : (edges : ListOf Edge) (targets : ListOf NodeId) (xs ys : ListOf PlannedGraft) → ys ≡ xs → IsTree (arcs_of edges) (Root ∷ []) targets (node_grafts xs) → length ys ≡ length targets
grafts_many edges targets xs ys is t = ap length is ∙ sym (length-map xs node_graft) ∙ tree_many (arcs_of edges) (Root ∷ []) targets (node_grafts xs) t

-- branches of the same edges and grafts
branches_as : (edges edges' : ListOf Edge) (targets : ListOf NodeId) (xs xs' : ListOf PlannedGraft) (branches : ListOf Branch) → edges' ≡ edges → xs' ≡ xs
    → AreBranches edges' targets (node_grafts xs') branches → AreBranches edges targets (node_grafts xs) branches
branches_as edges edges' targets xs xs' branches same alike are =
    subst (λ (es : ListOf Edge). AreBranches es targets (node_grafts xs) branches) same (subst (λ (ys : ListOf PlannedGraft). AreBranches edges' targets (node_grafts ys) branches) alike are)

-- the walk along the branches that are made of the grafts goes along the tree
pub walk_of : (edges edges' : ListOf Edge) (targets : ListOf NodeId) (xs xs' : ListOf PlannedGraft) (branches branches' : ListOf Branch) (walk : ListOf Edge)
    → IsTree (arcs_of edges) (Root ∷ []) targets (node_grafts xs) → edges' ≡ edges → xs' ≡ xs → AreBranches edges' targets (node_grafts xs') branches → branches' ≡ branches → walk ≡ all_edges branches'
    → IsTreeWalk edges targets (node_grafts xs) branches walk
walk_of edges edges' targets xs xs' branches branches' walk tree same alike are whole along =
    record { tree = tree; made = branches_as edges edges' targets xs xs' branches same alike are; along = along ∙ ap all_edges whole }

-- the single plans of the same targets weigh the same
one_singles : {N : Type 0} (g : ListOf (Arc N)) (starts targets : ListOf N) (xs ys : ListOf ℕ) → AreSingles g starts targets xs → AreSingles g starts targets ys → xs ≡ ys
one_singles g starts [] [] [] a b = refl
one_singles g starts [] [] (y ∷ ys) a b = elim b [ ]
one_singles g starts [] (x ∷ xs) ys a b = elim a [ ]
one_singles g starts (v ∷ targets) [] ys a b = elim a [ ]
one_singles g starts (v ∷ targets) (x ∷ xs) [] a b = elim b [ ]
one_singles g starts (v ∷ targets) (x ∷ xs) (y ∷ ys) a b =
    let one : x ≡ y = a.0.2 ∙ ap (weight_of g) (one_plan g starts v a.0.0 b.0.0 a.0.1 b.0.1) ∙ sym b.0.2 in
    let rest = one_singles g starts targets xs ys a.1 b.1 in
    λ i. one i ∷ rest i

-- ---- what leads to the targets, with the beginnings that are found for them

-- their bases are those that are found behind the targets
bases_are : (walk : ListOf Edge) (n : ℕ) (targets : ListOf NodeId) (writings : ListOf Writing)
    → map (λ (l : GraphLead). base_handle l.begins) (leads_from n (map (begun_within walk) targets) writings) ≡ map (base_behind (reverse walk)) targets
bases_are walk n [] writings = refl
bases_are walk n (v ∷ targets) writings = λ i. base_found (reverse walk) v i ∷ bases_are walk (suc n) targets writings i

-- and are offered
leads_offered : (edges walk : ListOf Edge) → All (Contains edges) walk → (n : ℕ) (targets : ListOf NodeId) (writings : ListOf Writing)
    → All (IsOffered edges) (leads_from n (map (begun_within walk) targets) writings)
leads_offered edges walk among n [] writings = All-nil (IsOffered edges)
leads_offered edges walk among n (v ∷ targets) writings =
    All-cons (IsOffered edges) _ (leads_from (suc n) (map (begun_within walk) targets) writings)
    (λ handle found. base_offered edges (reverse walk) (all_back (Contains edges) walk among) v handle found) (leads_offered edges walk among (suc n) targets writings)

-- each begins as the tree's path to its target, and goes on with what is written for it
leads_stand : (edges walk : ListOf Edge) (parts : ListOf Part) → EdgesGrow (Root ∷ []) walk → All (Contains edges) walk → All EntersNow walk
    → (names : ℕ) (recent : ListOf Event) (writings : ListOf Writing) (n : ℕ) (branches : ListOf Branch) (times : ListOf ℕ) (targets : ListOf NodeId) (paths : ListOf Lead)
    → map (λ (b : Branch). b.to) branches ≡ targets → AreLedUntil names recent parts (paired walk parts) branches times paths → AreWrittenFrom n paths writings
    → AllZip (LeadsAs edges) paths (leads_from n (map (begun_within walk) targets) writings)
leads_stand edges walk parts grow among enter names recent writings n [] times [] [] ends led written = tt
leads_stand edges walk parts grow among enter names recent writings n [] times (v ∷ targets) [] ends led written = absurd cc
leads_stand edges walk parts grow among enter names recent writings n [] times targets (l ∷ paths) ends led written = elim led [ ]
leads_stand edges walk parts grow among enter names recent writings n (b ∷ branches) [] targets paths ends led written = elim led [ ]
leads_stand edges walk parts grow among enter names recent writings n (b ∷ branches) (t ∷ times) targets [] ends led written = elim led [ ]
leads_stand edges walk parts grow among enter names recent writings n (b ∷ branches) (t ∷ times) [] (l ∷ paths) ends led written = absurd cc
leads_stand edges walk parts grow among enter names recent writings n (b ∷ branches) (t ∷ times) (v ∷ targets) (l ∷ paths) ends led written =
    let path = led.0 in
    let here : b.to ≡ v = cc in
    let rest : map (λ (x : Branch). x.to) branches ≡ targets = cc in
    let stands : BeginningStandsFor edges l.begun (begun_within walk b.to) =
    subst (λ (m : NodeId). BeginningStandsFor edges m (begun_within walk b.to)) path.2 (path_stands edges walk parts grow among enter b.to path.0 path.1) in (
      record { delta = sym written.0; begins = subst (λ (m : NodeId). BeginningStandsFor edges l.begun (begun_within walk m)) here stands },
      leads_stand edges walk parts grow among enter names recent writings (suc n) branches times targets paths rest led.1 written.1,
    )

-- ---- why nothing does

pub handed_out : {A E : Type 0} (r : Result A E) (x : E) (P : Result A E → Type 0) → IsErr r × IsErrAnd r (λ y. y ≡ x) → P (Err x) → P r
handed_out (Ok a) x P h p = cc
handed_out (Err e) x P h p = subst (λ y. P (Err y)) (sym h.1) p

-- the fault that is handed out is that one
pub fault_handed : {A F : Type 0} (r : Result A F) (x : F) → IsErr r × IsErrAnd r (λ y. y ≡ x) → {f : F} → r ≡ Err f → x ≡ f
fault_handed (Ok a) x h is = cc
fault_handed (Err y) x h is = sym h.1 ∙ cc

-- no damage is no first damage
pub no_first_damage : (names : ℕ) (edges : ListOf Edge) (o : Opening) (cols : Columns) (targets : ListOf NodeId) (image : Option (ListOf ℕ)) (f : RecordFault) → IsNoDamage f
    → IfSome image (λ im. IsFirstDamage names edges o cols targets im f)
no_first_damage names edges o cols targets None f none = tt
no_first_damage names edges o cols targets (Some im) f (inl disk) = subst (IsFirstDamage names edges o cols targets im) (sym disk) tt
no_first_damage names edges o cols targets (Some im) f (inr memory) = subst (IsFirstDamage names edges o cols targets im) (sym memory) tt

-- ---- what is read

at_most_more : (n m before after : ℕ) → n ≤ m → TakesAtMost n before after → TakesAtMost m before after
at_most_more n m before after below at = omega (arith, below, at)

module _ {edges : ListOf Edge} {targets : ListOf NodeId} {grafts : ListOf (Graft NodeId)} {branches : ListOf Branch} {walk : ListOf Edge}
    (walked : IsTreeWalk edges targets grafts branches walk) where
  -- the walk goes by the tree's steps
  in_tree : walk ≡ edges_at edges (steps_of grafts)
  in_tree = walked.along ∙ branches_hold edges targets grafts branches walked.made

  pub walked_many : length branches ≡ length targets
  walked_many = (branches_many edges targets grafts branches walked.made).0

  pub walked_lead : All LeadsToTarget branches
  walked_lead = branches_lead edges (Root ∷ []) targets grafts branches walked.tree walked.made

  pub walked_grow : Grow [] branches
  walked_grow = branches_grow edges targets grafts branches walked.tree walked.made

  module _ (o : Opening) (cols : Columns) (is : AreIndexEdges o cols edges) where
    module _ {fetched : ListOf Edge} (same : fetched ≡ walk) where
      along : fetched ≡ edges_at edges (steps_of grafts)
      along = same ∙ in_tree

      -- the index keeps each record
      pub all_kept : are_parameters o.params.l o.params.k ≡ true → AreKept o → All (λ (e : Edge). IsKept o e.via) fetched
      all_kept = walk_kept o cols is.0 is.1 edges is.3 (steps_of grafts) fetched along

      -- each record is entered before it is held
      pub all_entered : HoldsWhatIsEntered [] fetched
      all_entered = walk_entered o cols is.0 is.1 edges is.3 (steps_of grafts) fetched along is.2 targets grafts walked.tree refl

      -- over an image of a history, the asked bytes of the records are what the tree weighs
      all_weigh : (z : History) (im : ListOf ℕ) → IsImageOf z im → o ≡ (opened_of z).index → entered_length (kept_in im o) cols fetched ≡ tree_weight (arcs_of edges) grafts
      all_weigh z im stands opened =
          walk_weighs o cols is.0 is.1 edges is.3 (steps_of grafts) fetched along z im stands opened ∙ sym (tree_steps_weigh (arcs_of edges) grafts)

      module _ (image : Option (ListOf ℕ)) (before after names : ℕ) where
        -- where all is read, just as much
        pub takes_of : (weight : ℕ) → weight ≡ tree_weight (arcs_of edges) grafts → IfSome image (λ im. Takes (entered_length (kept_in im o) cols fetched) before after)
            → IfSome image (λ im. (z : History) → IsIndexOver z im o names → Takes weight before after)
        takes_of weight weighs read = IfSome_then image read (λ im at z over. subst (λ n. Takes n before after) (all_weigh z im over.stands over.opened ∙ sym weighs) at)

        module _ (read : IfSome image (λ im. TakesAtMost (entered_length (kept_in im o) cols fetched) before after)) where
          -- at most what any tree of the targets weighs
          pub most_of : IfSome image (λ im. (z : History) → IsIndexOver z im o names → TakesAtMostTree edges targets before after)
          most_of = IfSome_then image read (λ im at z over others another.
              subst (λ n. TakesAtMost n before after) (all_weigh z im over.stands over.opened ∙ one_weight (arcs_of edges) (Root ∷ []) targets grafts others walked.tree another) at)

          -- and at most what their single plans do
          pub shared_of : (weight : ℕ) (singles : ListOf ℕ) → weight ≡ tree_weight (arcs_of edges) grafts → AreSingles (arcs_of edges) (Root ∷ []) targets singles → weight ≤ sum singles
              → IfSome image (λ im. (z : History) → IsIndexOver z im o names → (others : ListOf ℕ) → AreSingles (arcs_of edges) (Root ∷ []) targets others → TakesAtMost (sum others) before after)
          shared_of weight singles weighs these below = IfSome_then image read (λ im at z over others another.
              let same : sum singles ≡ sum others = ap sum (one_singles (arcs_of edges) (Root ∷ []) targets singles others these another) in
              at_most_more (entered_length (kept_in im o) cols fetched) (sum others) before after (omega (arith, same, below, weighs, all_weigh z im over.stands over.opened)) at)

-- ---- what comes of it

-- The branches and the parts from which deltas are made are those that were read.
module _ {edges : ListOf Edge} {targets : ListOf NodeId} {grafts : ListOf (Graft NodeId)} {walk : ListOf Edge} {made branches : ListOf Branch} {kept parts : ListOf Part}
    (planned : IsTreeWalk edges targets grafts made walk) (alike : branches ≡ made) (same : parts ≡ kept) (o : Opening) (cols : Columns) (image : Option (ListOf ℕ))
    (held : IfSome image (λ im. AreParts (kept_in im o) cols (named_along walk) kept)) (names : ℕ) (recent : ListOf Event) (times : ListOf ℕ) where
  walked : IsTreeWalk edges targets grafts branches walk
  walked = subst (λ (bs : ListOf Branch). IsTreeWalk edges targets grafts bs walk) (sym alike) planned

  -- the parts are those of the branches, and of the tree's steps
  of_branches : IfSome image (λ im. AreParts (kept_in im o) cols (named_along (all_edges branches)) parts)
  of_branches =
      subst (λ (w : ListOf Edge). IfSome image (λ im. AreParts (kept_in im o) cols (named_along w) parts)) walked.along
      (subst (λ (ps : ListOf Part). IfSome image (λ im. AreParts (kept_in im o) cols (named_along walk) ps)) (sym same) held)

  of_steps : (im : ListOf ℕ) → AreParts (kept_in im o) cols (named_along (all_edges branches)) parts → AreParts (kept_in im o) cols (named_along (edges_at edges (steps_of grafts))) parts
  of_steps im there = subst (λ (w : ListOf Edge). AreParts (kept_in im o) cols (named_along w) parts) (branches_hold edges targets grafts branches walked.made) there

  abbrev Composed : Result (ListOf Delta) (Key × Column)
  Composed = beside (steps_in names recent (paired (all_edges branches) parts)) (lasts_in names recent parts branches times)

  -- a fault of the composing names the first damage of the tree's parts
  pub damage_of : (f : FoldFault) → FailsIn f Composed → IfSome image (λ im. IsFirstDamage names edges o cols targets im (of_fold f))
  damage_of fold_fault.Memory fails = IfSome_then image of_branches (λ im there. tt)
  damage_of (fold_fault.Damaged key col) fails = IfSome_then image of_branches (λ im there. (
    grafts,
    walked.tree,
    parts,
    of_steps im there,
    damage_is names recent (kept_in im o) cols (all_edges branches) parts branches times (key, col) there fails,
  ))

  -- where the deltas are made, none of the parts is damaged
  pub whole_of : (list : ListOf Delta) → steps_in names recent (paired (all_edges branches) parts) ≡ Ok list → IfSome image (λ im. IsUndamaged names edges o cols targets im)
  whole_of list ok = IfSome_then image of_branches (λ im there.
      let whole = parts_are_whole names recent (kept_in im o) cols (all_edges branches) parts list there ok in
      (grafts, walked.tree, parts, of_steps im there, whole.0, whole.1))

  module _ (is : AreIndexEdges o cols edges) where
    in_steps : all_edges branches ≡ edges_at edges (steps_of grafts)
    in_steps = branches_hold edges targets grafts branches walked.made

    -- over an image of a history none of the parts is damaged
    no_damage : (im : ListOf ℕ) → AreParts (kept_in im o) cols (named_along (all_edges branches)) parts → (z : History) → IsIndexOver z im o names → (x : Key × Column) → Composed ≡ Err x → ⊥
    no_damage im there z over x damaged =
        let whole =
        (trees_reach z over.stands.legal (index_ground o cols is.0 is.1) (graph_of_index z o over.opened cols is.0 is.1) is.2 cols (all_edges branches)
        (walk_among o cols is.0 is.1 edges is.3 (steps_of grafts) (all_edges branches) in_steps) parts
        (walk_records o cols is.0 is.1 edges is.3 (steps_of grafts) (all_edges branches) in_steps z im over.stands over.opened parts there)).0 in
        let first : parts_in names parts ≡ Err x = damage_is names recent (kept_in im o) cols (all_edges branches) parts branches times x there damaged in
        none_damaged (length (names_of z)) (recent_of z.params (events_of z)) (kept_in im o) cols (all_edges branches) parts whole.0 x there whole.1 (subst (λ n. parts_in n parts ≡ Err x) over.names first)

    pub never_of : (f : FoldFault) → FailsIn f Composed → IfSome image (λ im. (z : History) → IsIndexOver z im o names → IsNoDamage (of_fold f))
    never_of fold_fault.Memory fails = IfSome_then image of_branches (λ im there z over. inr refl)
    never_of (fold_fault.Damaged key col) fails = IfSome_then image of_branches (λ im there z over. absurd (no_damage im there z over (key, col) fails))

    -- what is written for the targets leads there as the paths do
    module _ (writings : ListOf Writing) (paths : ListOf Lead) (led : AreLedUntil names recent parts (paired (all_edges branches) parts) branches times paths) (written : AreWrittenFrom 0 paths writings) where
      among : All (Contains edges) (all_edges branches)
      among = subst (λ (es : ListOf Edge). All (Contains edges) es) (sym in_steps) (all_at (Contains edges) edges (steps_of grafts) (All-contains_itself edges))

      abbrev leads : ListOf GraphLead
      leads = leads_from 0 (map (begun_within (all_edges branches)) targets) writings

      stand : AllZip (LeadsAs edges) paths leads
      stand =
          leads_stand edges (all_edges branches) parts grow among
          (subst (λ (w : ListOf Edge). All EntersNow w) (sym in_steps) (all_at EntersNow edges (steps_of grafts) enter))
          names recent writings 0 branches times targets paths (ends_are edges targets grafts branches walked.made) led written
        where
          grow : EdgesGrow (Root ∷ []) (all_edges branches)
          grow = subst (EdgesGrow (Root ∷ [])) (sym in_steps) (edges_grow edges (Root ∷ []) (steps_of grafts) (tree_grows (arcs_of edges) (Root ∷ []) targets grafts walked.tree))

          enter : All EntersNow edges
          enter = subst (λ (es : ListOf Edge). All EntersNow es) (sym is.3) (edges_enter (index_ground o cols is.0 is.1))

      by_paths : LeadAlongTree names recent edges o cols targets grafts times image leads
      by_paths = record {
        count = leads_many 0 (map (begun_within (all_edges branches)) targets) writings ∙ length-map targets (begun_within (all_edges branches));
        bases = bases_are (all_edges branches) 0 targets writings ∙ ap (λ (es : ListOf Edge). map (base_behind (reverse es)) targets) in_steps;
        offered = leads_offered edges (all_edges branches) among 0 targets writings;
        there = IfSome_then image of_branches (λ im there. (branches, walked.made, parts, there, paths, led, stand));
      }

      -- and puts in names that are there
      by_names : LeadNamesAreThere names recent leads
      by_names there = leads_there names recent there parts (paired (all_edges branches) parts) edges branches times paths leads led stand

    pub written_along : (writings : ListOf Writing)
        → ((paths : ListOf Lead) × AreLedUntil names recent parts (paired (all_edges branches) parts) branches times paths × AreWrittenFrom 0 paths writings)
        → (within : ListOf Edge) → within ≡ walk → (begins : ListOf Beginning) → begins ≡ map (begun_within within) targets
        → LeadAlongTree names recent edges o cols targets grafts times image (leads_from 0 begins writings) × LeadNamesAreThere names recent (leads_from 0 begins writings)
    written_along writings written within is_walk begins are =
        subst (λ (bs : ListOf Beginning). LeadAlongTree names recent edges o cols targets grafts times image (leads_from 0 bs writings) × LeadNamesAreThere names recent (leads_from 0 bs writings))
        (sym (are ∙ ap (λ (w : ListOf Edge). map (begun_within w) targets) (is_walk ∙ walked.along)))
        (by_paths writings written.0 written.1 written.2, by_names writings written.0 written.1 written.2)
