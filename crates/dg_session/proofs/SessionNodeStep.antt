-- The answer to the holding of a node.
use Rattle.std.proofs.Common.{◌≡◌, ℕ, ◌+◌, ◌≤◌, true, false, List, [], ◌∷◌, Option, Some, None, refl, sym, ◌∙◌, ap, subst, length, arith}
use Rattle.std.specs.Prelude.{IfOk, IfSome, Result, Ok, Err, is_some}
use Rattle.std.proofs.lemmas.List.Elements.{All-cons, All-nil}
use Rattle.dg_fold.specs.BytesRead.{Takes, TakesAtMost}
use Rattle.dg_graph.specs.declared.element.Columns.{Columns}
use Rattle.dg_graph.specs.declared.element.Element.{Element}
use Rattle.dg_text.specs.Lines.{ScriptLine}
use Rattle.dg_history.specs.declared.node.NodeId.{NodeId}
use Rattle.dg_history.specs.declared.node.NodeId.TheVariants.{Root}
use Rattle.dg_history.specs.History.{History}
use Rattle.dg_machine.specs.declared.command.Command.TheVariants as command
use Rattle.dg_machine.specs.declared.limits.TheConstants.{HANDLE_MAX, LIVE_HANDLES_MAX}
use Rattle.dg_machine.specs.declared.reply.Head.TheVariants as head
use Rattle.dg_machine.specs.declared.reply.Reply.{Reply}
use Rattle.dg_machine.specs.declared.stands.Stands.{Stands}
use Rattle.dg_machine.specs.declared.stands.Shown.TheVariants.{Base}
use Rattle.dg_machine.specs.Answer.{accepted, headed, is_refusal, weight_told, with_handle}
use Rattle.dg_machine.specs.MachineState.{MachineState, elements, history_in}
use Rattle.dg_machine.specs.Needs.{can_be_held}
use Rattle.dg_machine.specs.Planning.{IsPlanned, Planned, no_plan, record_edges_in}
use Rattle.dg_plan.specs.IndexGraph.{arcs_of}
use Rattle.dg_plan.specs.Walks.{IsPlan, weight_of}
use Rattle.dg_graph.specs.Composition.{applied}
use Rattle.dg_graph.specs.Elements.{shown}
use Rattle.dg_index.specs.OpenedIndex.{Opening}
use Rattle.dg_plan.specs.declared.edge.Edge.{Edge}
use Rattle.dg_records.specs.declared.fault.RecordFault.{RecordFault}
use Rattle.dg_retrieval.specs.declared.node_lead.NodeLead.{NodeLead}
use Rattle.dg_retrieval.specs.KeptGraph.{index_edges}
use Rattle.dg_retrieval.specs.NodeSets.{IsIndexOver, IsLedAlong}
use Rattle.dg_retrieval.specs.Retrieval.{IsNoDamage}
use Rattle.dg_handles.specs.Handles.{with_messages}
use Rattle.dg_session.proofs.NodeLeads.{led_with_messages}
use Rattle.dg_session.proofs.ReplyNames.{head_names}
use Rattle.dg_session.proofs.PlanStep.{records_edges_in}
use Rattle.dg_session.proofs.SessionRetrievals.{every_some, handles_taken, if_some, moved_with, reads_failed, retrieval_accepted, z_of}
use Rattle.dg_session.proofs.PartStates.{events_are, events_there, is_of, one_image, one_told, params_are}
use Rattle.dg_ask.specs.HeldIndex.{has_node_held}
use Rattle.dg_session.specs.Decided.{Fits}
use Rattle.dg_session.specs.Parts.{Parts}
use Rattle.dg_retrieval.specs.Calls.{LeadsToNode, LeadsToNodeOver}
use Rattle.dg_retrieval.specs.NamesThere.{NamesAreThere}
use Rattle.dg_session.specs.BatchReads.{is_early}
use Rattle.dg_session.specs.Reads.{HoldsNodeFor, IsNodeHeld, Reads, with_new_handles}
use Rattle.dg_session.proofs.Needed.{has_needed}
use Rattle.dg_session.specs.Session.{Accepts, StandsFor, is_reached, node_needs, refused_by}

-- ---- what is not refused

-- what a holding that is not refused finds: an index that has the node, and room for the handle
pub found_free : (p : Parts) (node : NodeId) → refused_by p 0 (node_needs node) ≡ None
    → (is_some p.index ≡ true) × (has_node_held p.index node ≡ true) × (length p.table + 1 ≤ LIVE_HANDLES_MAX) × (p.next + 1 ≤ HANDLE_MAX + 1)
found_free p node none =
    let has = has_needed p 0 (node_needs node) none in
    (has.index refl, has.node node refl, has.room (omega arith), has.numbers (omega arith))

-- ---- the answer

-- a node that the index has is one of the history
node_reached : (p : Parts) (image : List ℕ) (m : MachineState) (node : NodeId) (cols : Columns) → StandsFor p image m → has_node_held p.index node ≡ true
    → is_reached (history_in m.index) (record { what = Base node; cols = cols }) ≡ true
node_reached p image m node cols s has =
    ap (λ es. can_be_held (history_in m.index).params (length es) node) (events_there m.index)
    ∙ (λ i. can_be_held (sym (params_are p image m s) i) (sym (events_are p image m s) i) node) ∙ has

pub node_answers : (p q : Parts) (node : NodeId) (cols : Columns) (before after : Option (List ℕ)) (weight : ℕ) (graph : List Element) (reply : Reply)
    → refused_by p 0 (node_needs node) ≡ None → after ≡ before
    → IfSome before (λ image. (m : MachineState) → StandsFor p image m → IsNodeHeld m node cols weight graph)
    → q ≡ with_new_handles p (record { what = Base node; cols = cols } ∷ []) (graph ∷ []) → reply ≡ headed (head.Materialised p.next weight)
    → Accepts (command.Materialise node cols) [] p before q after reply
node_answers p q node cols before after weight graph reply none same got is reply_is =
    retrieval_accepted (command.Materialise node cols) p q before after (record { what = Base node; cols = cols } ∷ []) (graph ∷ []) reply
    (moved_with (command.Materialise node cols) p q before after reply none
    (λ m x y a b s.
    let r = one_told before (λ image. (k : MachineState) → StandsFor p image k → IsNodeHeld k node cols weight graph) x got a m s in
    let free = found_free p node none in
    let reaches : Stands → Type 0 = λ e. is_reached (history_in m.index) e ≡ true in (
      record no_plan { steps = r.plan.0 },
      with_handle m (record { what = Base node; cols = cols }),
      r.plan.1,
      (λ i. record { reply = (ap (λ n. headed (head.Materialised n (weight_of (arcs_of (record_edges_in m cols)) r.plan.0))) (sym s.next) ∙ ap (λ w. headed (head.Materialised p.next w)) (sym r.plan.2) ∙ sym reply_is) i; state = with_handle m (record { what = Base node; cols = cols }) }),
      handles_taken p q y m (record { what = Base node; cols = cols } ∷ []) (subst (λ image. StandsFor p image m) (one_image before after x y same a b) s) free.0
          (All-cons reaches (record { what = Base node; cols = cols }) [] (node_reached p x m node cols s free.1) (All-nil reaches))
          (is ∙ ap (λ g. with_new_handles p (record { what = Base node; cols = cols } ∷ []) (g ∷ [])) r.listed),
    )))
    (ap is_refusal reply_is) none (subst (Fits (command.Materialise node cols)) (sym reply_is) tt) same is (head_names (length q.names) (head.Materialised p.next weight) reply reply_is)

-- where it fails, the bytes read are at most what its reply would tell
pub node_fails : (p : Parts) (node : NodeId) (cols : Columns) (image : Option (List ℕ)) (reply : Reply) (before after : ℕ) → is_refusal reply ≡ true → is_early reply ≡ false → refused_by p 0 (node_needs node) ≡ None
    → IfSome image (λ bytes. (m : MachineState) → StandsFor p bytes m → (steps : List ℕ) → IsPlan (arcs_of (record_edges_in m cols)) (Root ∷ []) node steps
    → TakesAtMost (weight_of (arcs_of (record_edges_in m cols)) steps) before after)
    → Reads (command.Materialise node cols) p image reply before after
node_fails p node cols image reply before after refuses late none most =
    reads_failed (command.Materialise node cols) p image reply before after refl refuses late (λ m got reads. reads) (λ got. none)
    (if_some image (λ bytes. (m : MachineState) → StandsFor p bytes m → (steps : List ℕ) → IsPlan (arcs_of (record_edges_in m cols)) (Root ∷ []) node steps
    → TakesAtMost (weight_of (arcs_of (record_edges_in m cols)) steps) before after)
    (λ bytes. (m : MachineState) → StandsFor p bytes m → (got : List ScriptLine) (plan : Planned) → IsPlanned m (command.Materialise node cols) plan
    → TakesAtMost (weight_told (accepted m (command.Materialise node cols) got plan).reply) before after)
    (λ x f m s got plan planned. f m s plan.steps planned) most)

-- what two facts of the image come to, where it is told
both_some : (o : Option (List ℕ)) (P Q R : List ℕ → Type 0) → ((x : List ℕ) → P x → Q x → R x) → IfSome o P → IfSome o Q → IfSome o R
both_some None P Q R f p q = tt
both_some (Some x) P Q R f p q = f x p q

-- ---- what leads to the node

-- what is led to over the index is led to for the machine, where the names are so many
module _ (p : Parts) (o : Opening) (node : NodeId) (cols : Columns) (told : Option (List ℕ)) (names : ℕ) (there : p.index ≡ Some o) (count : names ≡ length p.names) where
  over_index : (image : List ℕ) (m : MachineState) (s : StandsFor p image m) → IsIndexOver (z_of p o image m there s) image o names
  over_index image m s = record {
    stands = (is_of p o image m there s).1.stands;
    opened = (is_of p o image m there s).1.opened;
    names = count ∙ ap length (is_of p o image m there s).1.names;
  }

  -- a plan over these edges leads to the node, and weighs so much
  abbrev LedBy : ℕ → List Edge → Type 0
  LedBy weight edges = (steps : List ℕ) × IsPlan (arcs_of edges) (Root ∷ []) node steps × (weight ≡ weight_of (arcs_of edges) steps)

  -- no plan over these edges weighs less than was read
  abbrev MostOf : ℕ → ℕ → List Edge → Type 0
  MostOf before after edges = (steps : List ℕ) → IsPlan (arcs_of edges) (Root ∷ []) node steps → TakesAtMost (weight_of (arcs_of edges) steps) before after

  -- the records along the plan, where the image is told
  led_of : (r : Result NodeLead RecordFault) → IfOk r (LeadsToNode names (index_edges o cols false []) o cols node told)
      → IfSome told (λ image. IfOk r (λ x. IsLedAlong names image o cols (index_edges o cols false []) node x.delta))
  led_of (Err f) done = every_some told (λ image. Unit {0}) (λ image. tt)
  led_of (Ok x) done = done.led

  pub holds_node_for : (r : Result NodeLead RecordFault) (before after : ℕ) → IfOk r (LeadsToNode names (index_edges o cols false []) o cols node told)
      → IfSome told (λ image. (z : History) → IsIndexOver z image o names → LeadsToNodeOver z (index_edges o cols false []) cols node before after r)
      → IfSome told (λ image. (m : MachineState) → StandsFor p image m → HoldsNodeFor m node cols before after r)
  holds_node_for r before after done over =
      both_some told (λ image. IfOk r (λ x. IsLedAlong names image o cols (index_edges o cols false []) node x.delta)) (λ image. (z : History) → IsIndexOver z image o names → LeadsToNodeOver z (index_edges o cols false []) cols node before after r)
      (λ image. (m : MachineState) → StandsFor p image m → HoldsNodeFor m node cols before after r)
      (λ image led f m s.
      let x : LeadsToNodeOver (z_of p o image m there s) (index_edges o cols false []) cols node before after r = f (z_of p o image m there s) (over_index image m s) in
      record {
        held = held_over r image m s done led;
        takes = x.takes;
        most = subst (λ (es : List Edge). MostOf before after es) (records_edges_in p o image m there s cols) x.most;
        never = x.never;
      }) (led_of r done) over
    where
      held_over : (r : Result NodeLead RecordFault) (image : List ℕ) (m : MachineState) (s : StandsFor p image m) → IfOk r (LeadsToNode names (index_edges o cols false []) o cols node told)
          → IfOk r (λ x. IsLedAlong names image o cols (index_edges o cols false []) node x.delta)
          → IfOk r (λ x. IsNodeHeld m node cols x.weight (shown (applied x.delta []) (with_messages cols)))
      held_over (Err f) image m s done led = tt
      held_over (Ok x) image m s done led = record {
        plan = subst (λ (es : List Edge). LedBy x.weight es) (records_edges_in p o image m there s cols) done.plan;
        listed = led_with_messages (z_of p o image m there s) image o names cols node x.delta (over_index image m s) led
            ∙ sym (ap (λ (i : Option History). elements (history_in i) (record { what = Base node; cols = cols })) (is_of p o image m there s).1.index);
      }

  -- the names that the delta puts in are among those of the session
  pub node_named : (r : Result NodeLead RecordFault) → IfOk r (LeadsToNode names (index_edges o cols false []) o cols node told) → IfOk r (λ x. NamesAreThere (length p.names) x.delta.plus)
  node_named (Err f) done = tt
  node_named (Ok x) done = subst (λ n. NamesAreThere n x.delta.plus) count done.named

-- ---- what the lead to a node is said to be for each state

module _ (p : Parts) (node : NodeId) (cols : Columns) (told : Option (List ℕ)) (before after : ℕ) where
  abbrev pub ForNode : Result NodeLead RecordFault → Type 0
  ForNode r = IfSome told (λ image. (m : MachineState) → StandsFor p image m → HoldsNodeFor m node cols before after r)

  pub node_held_of : (x : NodeLead) → ForNode (Ok x) → IfSome told (λ image. (m : MachineState) → StandsFor p image m → IsNodeHeld m node cols x.weight (shown (applied x.delta []) (with_messages cols)))
  node_held_of x over = if_some told (λ image. (m : MachineState) → StandsFor p image m → HoldsNodeFor m node cols before after (Ok x)) _ (λ image f m s. (f m s).held) over

  pub node_taken_of : (x : NodeLead) → ForNode (Ok x) → IfSome told (λ image. (m : MachineState) → StandsFor p image m → Takes x.weight before after)
  node_taken_of x over = if_some told (λ image. (m : MachineState) → StandsFor p image m → HoldsNodeFor m node cols before after (Ok x)) _ (λ image f m s. (f m s).takes) over

  pub node_most_of : (r : Result NodeLead RecordFault) → ForNode r
      → IfSome told (λ image. (m : MachineState) → StandsFor p image m → (steps : List ℕ) → IsPlan (arcs_of (record_edges_in m cols)) (Root ∷ []) node steps → TakesAtMost (weight_of (arcs_of (record_edges_in m cols)) steps) before after)
  node_most_of r over = if_some told (λ image. (m : MachineState) → StandsFor p image m → HoldsNodeFor m node cols before after r) _ (λ image f m s. (f m s).most) over

  pub node_never_of : (f : RecordFault) → ForNode (Err f) → IfSome told (λ image. (m : MachineState) → StandsFor p image m → IsNoDamage f)
  node_never_of f over = if_some told (λ image. (m : MachineState) → StandsFor p image m → HoldsNodeFor m node cols before after (Err f)) _ (λ image h m s. (h m s).never) over
