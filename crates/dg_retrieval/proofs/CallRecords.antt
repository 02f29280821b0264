-- What the calls answer, put together of what the calls within them do.
use Rattle.std.proofs.Common.{◌≡◌, ℕ, List, [], ◌∷◌, Option, Some, None, Result, Ok, Err, IfSome, inl, inr, arith, refl, sym, subst, Vec, Global}
use Rattle.std.specs.Prelude.{IsErr, IsErrAnd}
use Rattle.std.specs.List.{sum}
use Rattle.std.proofs.lemmas.Option.{IfSome_then}
use Rattle.dg_file.specs.declared.fault.FetchFault.{FetchFault}
use Rattle.dg_file.specs.declared.fault.FetchFault.TheVariants as fetch_fault
use Rattle.dg_fold.specs.BytesRead.{TakesAtMost}
use Rattle.dg_graph.specs.Composition.{applied}
use Rattle.dg_graph.specs.declared.element.Columns.{Columns}
use Rattle.dg_graph.specs.declared.element.Element.{Element}
use Rattle.dg_history.specs.declared.node.NodeId.{NodeId}
use Rattle.dg_history.specs.declared.node.NodeId.TheVariants.{Root}
use Rattle.dg_history.specs.History.{History}
use Rattle.dg_index.specs.OpenedIndex.{Opening}
use Rattle.dg_plan.specs.declared.edge.Edge.{Edge}
use Rattle.dg_plan.specs.HistoryGraph.{all_columns}
use Rattle.dg_plan.specs.IndexGraph.{arcs_of}
use Rattle.dg_plan.specs.Walks.{AreSingles, IsPlan, weight_of}
use Rattle.dg_retrieval.specs.Calls.{GivesSetOver, GivesSetsOver, LeadsToNodeOver, RetrievesOver, TakesAlongTree, TakesTree, TellsDamage, TellsPlan}
use Rattle.dg_records.specs.Faults.{of_fetch}
use Rattle.dg_records.specs.declared.fault.RecordFault.{RecordFault}
use Rattle.dg_records.specs.declared.fault.RecordFault.TheVariants as fault
use Rattle.dg_retrieval.specs.declared.node_lead.NodeLead.{NodeLead}
use Rattle.dg_retrieval.specs.declared.retrieval.Retrieved.{Retrieved}
use Rattle.dg_retrieval.specs.KeptGraph.{record_edges}
use Rattle.dg_retrieval.specs.NodeSets.{IsIndexOver}
use Rattle.dg_retrieval.specs.Retrieval.{IsFirstDamage, IsNoDamage, TakesAtMostTree}
use Rattle.dg_retrieval.proofs.NodeSetPlans.{set_damaged, set_is, set_takes}
use Rattle.dg_retrieval.proofs.TreeLeadReads.{no_first_damage}

pub of_any : {X : Type 0} (o : Option X) {P : X → Type 0} → ((x : X) → P x) → IfSome o P
of_any None p = tt
of_any (Some x) p = p x

pub of_both : {X : Type 0} (o : Option X) {P Q R : X → Type 0} → IfSome o P → IfSome o Q → ((x : X) → P x → Q x → R x) → IfSome o R
of_both None p q r = tt
of_both (Some x) p q r = r x p q

pub of_three : {X : Type 0} (o : Option X) {P Q R S : X → Type 0} → IfSome o P → IfSome o Q → IfSome o R → ((x : X) → P x → Q x → R x → S x) → IfSome o S
of_three None p q r s = tt
of_three (Some x) p q r s = s x p q r

-- ---- faults

-- the call hands out this fault
abbrev pub HandsOut : {A : Type 0} → Result A RecordFault → RecordFault → Type 0
HandsOut r f = IsErr r × IsErrAnd r (λ y. y ≡ f)

-- a read that fails is no damage
pub fetch_is_none : (f : FetchFault) → IsNoDamage (of_fetch f)
fetch_is_none fetch_fault.Disk = inl refl
fetch_is_none fetch_fault.Memory = inr refl

pub memory_is_none : IsNoDamage fault.Memory
memory_is_none = inr refl

module _ (names : ℕ) (edges : List Edge) (o : Opening) (cols : Columns) (targets : List NodeId) (image : Option (List ℕ)) where
  -- a fault that is handed out names the first damage
  pub damage_told : {A : Type 0} (r : Result A RecordFault) (f : RecordFault) → HandsOut r f
      → IfSome image (λ im. IsFirstDamage names edges o cols targets im f) → IfSome image (λ im. TellsDamage names edges o cols targets im r)
  damage_told (Ok a) f h damage = cc
  damage_told (Err y) f h damage = IfSome_then image damage (λ im first. subst (IsFirstDamage names edges o cols targets im) (sym h.1) first)

  -- and one that is no damage names none
  pub no_damage_told : {A : Type 0} (r : Result A RecordFault) (f : RecordFault) → HandsOut r f → IsNoDamage f → IfSome image (λ im. TellsDamage names edges o cols targets im r)
  no_damage_told r f h none = damage_told r f h (no_first_damage names edges o cols targets image f none)

-- ---- one tree

-- where nothing is read, no more is than anything weighs
nothing_taken : (n before : ℕ) → TakesAtMost n before before
nothing_taken n before = omega arith

module _ {A : Type 0} (weight : A → ℕ) {edges : List Edge} {targets : List NodeId} where
  pub tree_unread : {before after : ℕ} (r : Result A RecordFault) → IsErr r → TakesAtMostTree edges targets before after
      → ((singles : List ℕ) → AreSingles (arcs_of edges) (Root ∷ []) targets singles → TakesAtMost (sum singles) before after) → TakesTree edges targets before after weight r
  tree_unread (Ok a) h most shared = cc
  tree_unread (Err f) h most shared = record { takes = tt; most = most; shared = shared }

  pub tree_unplanned : {before : ℕ} (r : Result A RecordFault) → IsErr r → TakesTree edges targets before before weight r
  tree_unplanned {before} r h = tree_unread r h (λ grafts tree. nothing_taken _ before) (λ singles are. nothing_taken _ before)

-- a retrieval that fails behind the reading of the tree has read as much
pub retrieve_failed : {A : Type 0} {weight : A → ℕ} {read : Result A RecordFault} {edges : List Edge} {targets : List NodeId} {before after : ℕ} (r : Result Retrieved RecordFault) (f : RecordFault)
    → HandsOut r f → TakesTree edges targets before after weight read → IsNoDamage f → TakesAlongTree edges targets before after r
retrieve_failed (Ok t) f h reads none = cc
retrieve_failed (Err y) f h reads none = record { takes = tt; most = reads.most; shared = reads.shared; never = subst IsNoDamage (sym h.1) none }

-- ---- graphs

-- where nothing leads along the tree, no graph comes
pub no_graphs : {z : History} {now : List Element} {edges : List Edge} {cols : Columns} {targets : List NodeId} {times : List ℕ} {before after : ℕ}
    (r : Result Retrieved RecordFault) → IsErr r → TakesAlongTree edges targets before after r → RetrievesOver z now edges cols targets times before after r
no_graphs (Ok t) h taken = cc
no_graphs (Err y) h taken = record { graphs = tt; takes = tt; most = taken.most; never = λ points. taken.never }

-- ---- the set of a node

module _ {z : History} {edges : List Edge} {node : NodeId} where
  pub node_failed : {cols : Columns} {before after : ℕ} (r : Result NodeLead RecordFault) (f : RecordFault) → HandsOut r f
      → ((steps : List ℕ) → IsPlan (arcs_of edges) (Root ∷ []) node steps → TakesAtMost (weight_of (arcs_of edges) steps) before after)
      → IsNoDamage f → LeadsToNodeOver z edges cols node before after r
  node_failed (Ok lead) f h most none = cc
  node_failed (Err y) f h most none = record { set = tt; takes = tt; most = most; never = subst IsNoDamage (sym h.1) none }

  -- where no plan is made
  pub node_unplanned : {cols : Columns} {before : ℕ} (r : Result NodeLead RecordFault) (f : RecordFault) → HandsOut r f → IsNoDamage f → LeadsToNodeOver z edges cols node before before r
  node_unplanned {cols} {before} r f h none = node_failed r f h (λ steps plan. nothing_taken _ before) none

  -- without a lead there is no set
  pub set_failed : {cols : Columns} {before after : ℕ} (r : Result (List Element) RecordFault) (f : RecordFault) → HandsOut r f
      → LeadsToNodeOver z edges cols node before after (Err f) → GivesSetOver z edges node before after r
  set_failed (Ok set) f h led = cc
  set_failed (Err y) f h led = record { set = tt; takes = tt; most = led.most; never = subst IsNoDamage (sym h.1) led.never }

module _ (names : ℕ) (image : Option (List ℕ)) (o : Opening) (edges : List Edge) (is : edges ≡ record_edges o) (node : NodeId) where
  -- the first damage of the tree of one target is that of its plan
  pub plan_told : (r : Result (List Element) RecordFault) (f : RecordFault) → HandsOut r f → IfSome image (λ im. IsFirstDamage names edges o all_columns (node ∷ []) im f)
      → IfSome image (λ im. TellsPlan names im o node r)
  plan_told (Ok set) f h damage = cc
  plan_told (Err fault.Disk) f h damage = of_any image (λ im. tt)
  plan_told (Err fault.Memory) f h damage = of_any image (λ im. tt)
  plan_told (Err (fault.Damaged key col)) f h damage = set_damaged names image o edges is node f key col (sym h.1) damage

  -- with a lead there is the set to which it comes
  pub set_given : (before after : ℕ) (lead : NodeLead) → (steps : List ℕ) × IsPlan (arcs_of edges) (Root ∷ []) node steps × (lead.weight ≡ weight_of (arcs_of edges) steps)
      → IfSome image (λ im. (z : History) → IsIndexOver z im o names → LeadsToNodeOver z edges all_columns node before after (Ok lead))
      → (set : List Element) → set ≡ applied lead.delta []
      → IfSome image (λ im. (z : History) → IsIndexOver z im o names → GivesSetOver z edges node before after (Ok set))
  set_given before after lead plan led set comes =
      let sets = set_is names image o edges is node lead.delta (IfSome_then image led (λ im at z over. (at z over).set)) set comes in
      let takes = set_takes names image o edges is node lead.weight before after plan (IfSome_then image led (λ im at z over. (at z over).takes)) in
      of_three image led sets takes (λ im at s t z over. record { set = s z over; takes = t z over; most = (at z over).most; never = tt })

-- ---- the sets of several nodes

module _ {z : History} {edges : List Edge} {nodes : List NodeId} where
  -- without leads there are no sets
  pub sets_failed : {before after : ℕ} (r : Result (Vec (List Element) Global) RecordFault) (f : RecordFault) → HandsOut r f
      → ((singles : List ℕ) → AreSingles (arcs_of edges) (Root ∷ []) nodes singles → TakesAtMost (sum singles) before after)
      → IsNoDamage f → GivesSetsOver z edges nodes before after r
  sets_failed (Ok sets) f h most none = cc
  sets_failed (Err y) f h most none = record { sets = tt; most = most; never = subst IsNoDamage (sym h.1) none }

  -- where no tree is planned
  pub sets_unplanned : {before : ℕ} (r : Result (Vec (List Element) Global) RecordFault) (f : RecordFault) → HandsOut r f → IsNoDamage f → GivesSetsOver z edges nodes before before r
  sets_unplanned {before} r f h none = sets_failed r f h (λ singles are. nothing_taken _ before) none
