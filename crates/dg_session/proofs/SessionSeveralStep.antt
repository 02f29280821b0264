-- The answer to the retrieval of several instants.
use Rattle.std.proofs.Common.{◌≡◌, ℕ, ◌+◌, true, false, ◌≤◌, List, [], Option, None, length, map, take, refl, sym, ◌∙◌, ap, subst}
use Rattle.std.specs.Prelude.{IfSome}
use Rattle.std.specs.List.{sum}
use Rattle.dg_fold.specs.BytesRead.{TakesAtMost}
use Rattle.dg_graph.specs.declared.element.Columns.{Columns}
use Rattle.dg_graph.specs.declared.element.Element.{Element}
use Rattle.dg_text.specs.Lines.{ScriptLine}
use Rattle.dg_handles.specs.Handles.{overlays_on}
use Rattle.dg_machine.specs.declared.command.Command.TheVariants as command
use Rattle.dg_machine.specs.declared.reply.BodyLine.{BodyLine}
use Rattle.dg_machine.specs.declared.reply.Head.TheVariants as head
use Rattle.dg_machine.specs.declared.reply.Reply.{Reply}
use Rattle.dg_machine.specs.declared.reply.Reply.TheVariants as replied
use Rattle.dg_machine.specs.Answer.{accepted, base_for, handle_lines, heard_for, is_refusal, overlays, several_reply, weight_told, with_handles, with_heard}
use Rattle.dg_machine.specs.MachineState.{MachineState}
use Rattle.dg_machine.specs.Needs.{needs}
use Rattle.dg_machine.specs.Planning.{IsPlanned, Planned, edges_in, no_plan, point_for, points_for}
use Rattle.dg_plan.specs.IndexGraph.{arcs_of}
use Rattle.dg_history.specs.declared.node.NodeId.{NodeId}
use Rattle.dg_plan.specs.TreePaths.{base_under}
use Rattle.dg_plan.specs.Walks.{Graft, steps_of, tree_weight}
use Rattle.dg_session.proofs.ReplyNames.{handle_names}
use Rattle.std.specs.List.{All}
use Rattle.dg_session.proofs.SessionRetrievals.{handles_stand, if_some, moved_with, overlays_same, reads_failed, retrieval_accepted}
use Rattle.dg_session.proofs.PartStates.{one_image, one_told}
use Rattle.dg_session.specs.Decided.{Fits}
use Rattle.dg_session.specs.Parts.{Parts}
use Rattle.dg_session.specs.BatchReads.{is_early}
use Rattle.dg_session.specs.Reads.{IsRetrieved, Reads, TakesAtMostRetrieval, with_new_handles}
use Rattle.dg_session.specs.Session.{Accepts, StandsFor, refused_by, retrieval_needs}
use Rattle.dg_ask.specs.ReplyNames.{LineNamesAreThere, ReplyNamesAreThere}

module _ (p : Parts) (cols : Columns) (times : List ℕ) (count : ℕ) (number : length (take count times) ≡ count) (some : 1 ≤ count) where
  -- what the command needs, by the instants that are asked for
  pub needed : refused_by p 0 (needs (command.Several cols times count)) ≡ refused_by p 0 (retrieval_needs (take count times) (length (take count times)))
  needed = ap (λ n. refused_by p 0 (retrieval_needs (take count times) n)) (sym number)

  -- the overlays rest on what their paths within the tree begin with
  overlays_are : (m : MachineState) (grafts : List (Graft NodeId)) (bases : List (Option ℕ)) → bases ≡ map (base_under (edges_in m cols) (steps_of grafts)) (points_for m (take count times))
      → overlays_on cols (take count times) bases ≡ overlays cols (base_for m cols (steps_of grafts)) (take count times)
  overlays_are m grafts bases is =
      ap (overlays_on cols (take count times)) is ∙ overlays_same cols (point_for m) (base_under (edges_in m cols) (steps_of grafts)) (take count times)

  module _ (free : refused_by p 0 (retrieval_needs (take count times) (length (take count times))) ≡ None) where
    pub several_answers : (q : Parts) (before after : Option (List ℕ)) (weight total : ℕ) (singles : List ℕ) (bases : List (Option ℕ)) (graphs : List (List Element)) (lines : List BodyLine) (reply : Reply) → after ≡ before
        → IfSome before (λ image. (m : MachineState) → StandsFor p image m → IsRetrieved m (take count times) cols weight singles bases graphs)
        → q ≡ with_new_handles p (overlays_on cols (take count times) bases) graphs
        → total ≡ sum singles → lines ≡ handle_lines p.next (take count times) singles → reply ≡ replied.Answered (head.Several weight total) lines
        → Accepts (command.Several cols times count) [] p before q after reply
    several_answers q before after weight total singles bases graphs lines reply same got is total_is lines_are reply_is =
        retrieval_accepted (command.Several cols times count) p q before after (overlays_on cols (take count times) bases) graphs reply
        (moved_with (command.Several cols times count) p q before after reply (needed ∙ free)
        (λ m x y a b s.
        let r = one_told before (λ image. (k : MachineState) → StandsFor p image k → IsRetrieved k (take count times) cols weight singles bases graphs) x got a m s in
        let due : several_reply p.next weight (take count times) singles ≡ reply =
        (λ i. replied.Answered (head.Several weight (sym total_is i)) (sym lines_are i)) ∙ sym reply_is in
        let heard : ℕ = heard_for m cols (take count times) in
        let tree : ℕ = tree_weight (arcs_of (edges_in m cols)) r.tree.1.0 in
        let weighs : weight ≡ tree + heard = r.tree.2 ∙ ap (λ w. w + heard) r.tree.1.2 in
        let plans : List ℕ = with_heard m cols (take count times) r.single_plans.0 in (
          record no_plan { grafts = r.tree.1.0; singles = r.single_plans.0 },
          with_handles m (overlays_on cols (take count times) bases),
          (r.tree.1.1, r.single_plans.1),
          (λ i. record {
            reply =
                (ap (λ n. several_reply n (tree + heard) (take count times) plans) (sym s.next) ∙ ap (λ w. several_reply p.next w (take count times) plans) (sym weighs)
                ∙ ap (several_reply p.next weight (take count times)) (sym r.single_plans.2) ∙ due) i;
            state = with_handles m (sym (overlays_are m r.tree.1.0 bases r.tree.1.3) i);
          }),
          handles_stand p q x y m (take count times) cols weight singles bases graphs s (one_image before after x y same a b) (subst (λ n. 1 ≤ n) (sym number) some) free r is,
        )))
        (ap is_refusal reply_is) (needed ∙ free) (subst (Fits (command.Several cols times count)) (sym reply_is) tt) same is
        (subst (ReplyNamesAreThere (length q.names)) (sym reply_is)
        (subst (All (LineNamesAreThere (length q.names))) (sym lines_are) (handle_names (length q.names) p.next (take count times) singles)))

    -- where it fails, the bytes read are at most what its reply would tell
    pub several_fails : (image : Option (List ℕ)) (reply : Reply) (before after : ℕ) → is_refusal reply ≡ true → is_early reply ≡ false
        → IfSome image (λ bytes. (m : MachineState) → StandsFor p bytes m → TakesAtMostRetrieval m (take count times) cols before after)
        → Reads (command.Several cols times count) p image reply before after
    several_fails image reply before after refuses late most =
        reads_failed (command.Several cols times count) p image reply before after refl refuses late (λ m got reads. reads) (λ got. needed ∙ free)
        (if_some image (λ bytes. (m : MachineState) → StandsFor p bytes m → TakesAtMostRetrieval m (take count times) cols before after)
        (λ bytes. (m : MachineState) → StandsFor p bytes m → (got : List ScriptLine) (plan : Planned) → IsPlanned m (command.Several cols times count) plan
        → TakesAtMost (weight_told (accepted m (command.Several cols times count) got plan).reply) before after)
        (λ x f m s got plan planned. f m s plan.grafts planned.0) most)
