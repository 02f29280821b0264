-- The answer to the retrieval of one instant.
use Rattle.std.proofs.Common.{◌≡◌, ℕ, true, false, ◌+◌, List, [], ◌∷◌, Option, None, map, length, refl, sym, ◌∙◌, ap, subst, arith}
use Rattle.std.specs.Prelude.{IfSome}
use Rattle.std.proofs.lemmas.List.{append-nil}
use Rattle.dg_fold.specs.BytesRead.{TakesAtMost}
use Rattle.dg_graph.specs.declared.element.Columns.{Columns}
use Rattle.dg_graph.specs.declared.element.Element.{Element}
use Rattle.dg_text.specs.Lines.{ScriptLine}
use Rattle.dg_handles.specs.Handles.{overlays_on}
use Rattle.dg_history.specs.declared.node.NodeId.{NodeId}
use Rattle.dg_history.specs.declared.node.NodeId.TheVariants.{Root}
use Rattle.dg_machine.specs.declared.command.Command.TheVariants as command
use Rattle.dg_machine.specs.declared.reply.Head.TheVariants as head
use Rattle.dg_machine.specs.declared.reply.Reply.{Reply}
use Rattle.dg_machine.specs.Answer.{accepted, base_for, headed, heard_for, is_refusal, overlays, weight_told, with_handles}
use Rattle.dg_machine.specs.MachineState.{MachineState}
use Rattle.dg_machine.specs.Planning.{IsPlanned, Planned, edges_in, no_plan, point_for, points_for}
use Rattle.dg_plan.specs.IndexGraph.{arcs_of}
use Rattle.dg_plan.specs.TreePaths.{base_under}
use Rattle.dg_plan.specs.Walks.{Arc, Graft, IsPlan, IsTree, steps_of, tree_weight, weight_of}
use Rattle.dg_session.proofs.ReplyNames.{head_names}
use Rattle.dg_session.proofs.SessionRetrievals.{handles_stand, if_some, moved_with, overlays_same, reads_failed, retrieval_accepted}
use Rattle.dg_session.proofs.PartStates.{one_image, one_told}
use Rattle.dg_session.specs.Decided.{Fits}
use Rattle.dg_session.specs.Parts.{Parts}
use Rattle.dg_session.specs.BatchReads.{is_early}
use Rattle.dg_session.specs.Reads.{IsRetrieved, Reads, TakesAtMostRetrieval, with_new_handles}
use Rattle.dg_session.specs.Session.{Accepts, StandsFor, refused_by, retrieval_needs}

-- a tree of one target is the plan of the target
plan_alone : {N : Type 0} (g : List (Arc N)) (starts : List N) (v : N) (grafts : List (Graft N)) → IsTree g starts (v ∷ []) grafts
    → (steps : List ℕ) × IsPlan g starts v steps × (tree_weight g grafts ≡ weight_of g steps) × (steps_of grafts ≡ steps)
plan_alone g starts v [] h = elim h [ ]
plan_alone g starts v (x ∷ []) h = (x.steps, h.0, (let e : 0 + weight_of g x.steps ≡ weight_of g x.steps = omega arith in e), append-nil x.steps)
plan_alone g starts v (x ∷ y ∷ more) h = elim h.3 [ ]

-- and the plan is such a tree
tree_alone : {N : Type 0} (g : List (Arc N)) (starts : List N) (v : N) (steps : List ℕ) → IsPlan g starts v steps
    → (grafts : List (Graft N)) × IsTree g starts (v ∷ []) grafts × (tree_weight g grafts ≡ weight_of g steps)
tree_alone g starts v steps h = (
  record { from = h.walk.0; steps = steps } ∷ [],
  (h, h.walk.1, h.walk.2, tt),
  (let e : 0 + weight_of g steps ≡ weight_of g steps = omega arith in e),
)

-- the overlay rests on what its path begins with
overlays_are : (m : MachineState) (t : ℕ) (cols : Columns) (grafts : List (Graft NodeId)) (steps : List ℕ) (bases : List (Option ℕ))
    → bases ≡ map (base_under (edges_in m cols) (steps_of grafts)) (points_for m (t ∷ [])) → steps_of grafts ≡ steps
    → overlays_on cols (t ∷ []) bases ≡ overlays cols (base_for m cols steps) (t ∷ [])
overlays_are m t cols grafts steps bases is same =
    ap (overlays_on cols (t ∷ [])) is ∙ overlays_same cols (point_for m) (base_under (edges_in m cols) (steps_of grafts)) (t ∷ [])
    ∙ ap (λ (ss : List ℕ). overlays cols (base_for m cols ss) (t ∷ [])) same

pub at_answers : (p q : Parts) (t : ℕ) (cols : Columns) (before after : Option (List ℕ)) (weight : ℕ) (singles : List ℕ) (bases : List (Option ℕ)) (graphs : List (List Element)) (reply : Reply)
    → refused_by p 0 (retrieval_needs (t ∷ []) 1) ≡ None → after ≡ before
    → IfSome before (λ image. (m : MachineState) → StandsFor p image m → IsRetrieved m (t ∷ []) cols weight singles bases graphs)
    → q ≡ with_new_handles p (overlays_on cols (t ∷ []) bases) graphs → reply ≡ headed (head.At p.next weight)
    → Accepts (command.At t cols) [] p before q after reply
at_answers p q t cols before after weight singles bases graphs reply none same got is reply_is =
    retrieval_accepted (command.At t cols) p q before after (overlays_on cols (t ∷ []) bases) graphs reply
    (moved_with (command.At t cols) p q before after reply none
    (λ m x y a b s.
    let r = one_told before (λ image. (k : MachineState) → StandsFor p image k → IsRetrieved k (t ∷ []) cols weight singles bases graphs) x got a m s in
    let plan = plan_alone (arcs_of (edges_in m cols)) (Root ∷ []) (point_for m t) r.tree.1.0 r.tree.1.1 in
    let heard : ℕ = heard_for m cols (t ∷ []) in
    let weighs : weight ≡ weight_of (arcs_of (edges_in m cols)) plan.0 + heard = r.tree.2 ∙ ap (λ w. w + heard) (r.tree.1.2 ∙ plan.2) in (
      record no_plan { steps = plan.0 },
      with_handles m (overlays_on cols (t ∷ []) bases),
      plan.1,
      (λ i. record {
        reply = (ap (λ n. headed (head.At n (weight_of (arcs_of (edges_in m cols)) plan.0 + heard))) (sym s.next) ∙ ap (λ w. headed (head.At p.next w)) (sym weighs) ∙ sym reply_is) i;
        state = with_handles m (sym (overlays_are m t cols r.tree.1.0 plan.0 bases r.tree.1.3 plan.3) i);
      }),
      handles_stand p q x y m (t ∷ []) cols weight singles bases graphs s (one_image before after x y same a b) (omega arith) none r is,
    )))
    (ap is_refusal reply_is) none (subst (Fits (command.At t cols)) (sym reply_is) tt) same is (head_names (length q.names) (head.At p.next weight) reply reply_is)

-- where it fails, the bytes read are at most what its reply would tell
pub at_fails : (p : Parts) (t : ℕ) (cols : Columns) (image : Option (List ℕ)) (reply : Reply) (before after : ℕ) → is_refusal reply ≡ true → is_early reply ≡ false → refused_by p 0 (retrieval_needs (t ∷ []) 1) ≡ None
    → IfSome image (λ bytes. (m : MachineState) → StandsFor p bytes m → TakesAtMostRetrieval m (t ∷ []) cols before after)
    → Reads (command.At t cols) p image reply before after
at_fails p t cols image reply before after refuses late none most =
    reads_failed (command.At t cols) p image reply before after refl refuses late (λ m got reads. reads) (λ got. none)
    (if_some image (λ bytes. (m : MachineState) → StandsFor p bytes m → TakesAtMostRetrieval m (t ∷ []) cols before after)
    (λ bytes. (m : MachineState) → StandsFor p bytes m → (got : List ScriptLine) (plan : Planned) → IsPlanned m (command.At t cols) plan
    → TakesAtMost (weight_told (accepted m (command.At t cols) got plan).reply) before after)
    (λ x f m s got plan planned.
    let tree = tree_alone (arcs_of (edges_in m cols)) (Root ∷ []) (point_for m t) plan.steps planned in
    subst (λ w. TakesAtMost (w + heard_for m cols (t ∷ [])) before after) tree.2 (f m s tree.0 tree.1)) most)
