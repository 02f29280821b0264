-- The answer to an expression over instants.
use Rattle.std.proofs.Common.{◌≡◌, ℕ, ◌+◌, true, false, not, List, [], ◌∷◌, ◌++◌, Option, None, length, map, refl, sym, ◌∙◌, ap, subst, arith}
use Rattle.std.specs.Prelude.{IfSome}
use Rattle.std.specs.List.{list_any}
use Rattle.std.proofs.lemmas.List.{append-nil}
use Rattle.std.proofs.lemmas.List.Elements.{All-cons, All-nil}
use Rattle.dg_ask.specs.HeldIndex.{span_held}
use Rattle.dg_expr.specs.Chosen.{chosen}
use Rattle.dg_expr.specs.declared.expression.Expr.{Expr}
use Rattle.dg_expr.specs.ExpressionLaws.{ChosenAreShown}
use Rattle.dg_expr.specs.Expressions.{instants_of, words_of}
use Rattle.dg_fold.specs.BytesRead.{TakesAtMost}
use Rattle.dg_fold.specs.Parts.{graph_columns}
use Rattle.dg_graph.proofs.ExactEvents.{IsSet-replay_from}
use Rattle.dg_graph.proofs.Sets.{IsSet-filter}
use Rattle.dg_graph.specs.declared.element.Columns.{Columns}
use Rattle.dg_graph.specs.declared.element.Element.{Element}
use Rattle.dg_graph.specs.Elements.{asks, column_of, shown}
use Rattle.dg_graph.specs.Replay.{events_until, replay_at}
use Rattle.dg_handles.specs.Handles.{overlays_on, with_messages}
use Rattle.dg_history.specs.declared.node.NodeId.{NodeId}
use Rattle.dg_history.specs.declared.node.NodeId.TheVariants.{Root}
use Rattle.dg_history.specs.History.{History, events_of, span_of}
use Rattle.dg_machine.specs.declared.command.Command.{Command}
use Rattle.dg_machine.specs.declared.command.Command.TheVariants as command
use Rattle.dg_machine.specs.declared.reply.Head.TheVariants as head
use Rattle.dg_machine.specs.declared.reply.Reply.{Reply}
use Rattle.dg_machine.specs.declared.selection.Selection.TheVariants.{Chosen}
use Rattle.dg_machine.specs.declared.stands.Stands.{Stands}
use Rattle.dg_machine.specs.declared.stands.Shown.TheVariants.{Overlay, Selected}
use Rattle.dg_machine.specs.Answer.{accepted, headed, is_refusal, weight_told, with_handle}
use Rattle.dg_machine.specs.MachineState.{MachineState, elements, history_in}
use Rattle.dg_machine.specs.Planning.{IsPlanned, Planned, bases_in, edges_in, ground_in, no_plan, points_for, usable}
use Rattle.dg_plan.specs.declared.edge.Edge.{Edge}
use Rattle.dg_plan.specs.IndexGraph.{arcs_of, edges_of}
use Rattle.dg_plan.specs.Walks.{Graft, IsTree, tree_weight}
use Rattle.dg_retrieval.specs.Retrieval.{IsTreeOf}
use Rattle.dg_session.proofs.GraphSets.{shown_again, shown_without}
use Rattle.dg_session.proofs.PartStates.{events_there, instants_are, one_image, one_told}
use Rattle.dg_session.proofs.ReplyNames.{head_names}
use Rattle.dg_session.proofs.SessionRetrievals.{handles_taken, if_some, is_out, moved_with, reads_failed, retrieval_accepted, retrieval_free}
use Rattle.dg_session.specs.BatchReads.{is_early}
use Rattle.dg_session.specs.Decided.{Fits}
use Rattle.dg_session.specs.Parts.{Parts}
use Rattle.dg_session.specs.Reads.{IsRetrieved, Reads, TakesAtMostRetrieval, with_new_handles}
use Rattle.dg_session.specs.Session.{Accepts, StandsFor, is_reached, refused_by, retrieval_needs}
use Rattle.dg_text.specs.Lines.{ScriptLine}

-- ---- plans without messages

bases_same : (cols : Columns) (table : List (ℕ × Stands)) → bases_in (graph_columns cols) table ≡ bases_in cols table
bases_same cols [] = refl
bases_same cols (e ∷ table) = λ i. usable cols e ++ bases_same cols table i

-- no plan looks at messages
pub edges_same : (m : MachineState) (cols : Columns) → edges_in m (graph_columns cols) ≡ edges_in m cols
edges_same m cols = ap (λ (bases : List (ℕ × NodeId)). edges_of (record (ground_in m cols) { bases = bases })) (bases_same cols m.table)

-- ---- what is chosen

-- the graphs as of the instants, in these columns
abbrev pub graph_in : History → Columns → ℕ → List Element
graph_in z cols t = shown (replay_at (events_of z) t) cols

-- the graphs that a retrieval of the instants gives without messages
pub graphs_listed : (z : History) (cols : Columns) (times : List ℕ) (bases : List (Option ℕ)) → length bases ≡ length times
    → map (elements z) (overlays_on (graph_columns cols) times bases) ≡ map (graph_in z cols) times
graphs_listed z cols [] bases many = refl
graphs_listed z cols (t ∷ times) [] many = absurd (omega (arith, many))
graphs_listed z cols (t ∷ times) (b ∷ bases) many =
    let one : elements z (record { what = Overlay t b; cols = graph_columns cols }) ≡ graph_in z cols t = append-nil (shown (replay_at (events_of z) t) (graph_columns cols)) ∙ shown_without (events_of z) t cols in
    λ i. one i ∷ graphs_listed z cols times bases (omega (arith, many)) i

-- all of what is chosen is shown in the slot, which has the messages with its columns
pub chosen_again : ChosenAreShown → (z : History) (e : Expr) (cols : Columns)
    → shown (chosen (words_of e) (graph_in z cols)) (with_messages cols) ≡ elements z (record { what = Selected (Chosen e); cols = cols })
chosen_again law z e cols =
    law (words_of e) (graph_in z cols) (with_messages cols)
    (λ t. IsSet-filter (λ x. asks cols (column_of x)) (replay_at (events_of z) t) (IsSet-replay_from (events_until (events_of z) t) [] tt))
    (λ t. shown_again cols (replay_at (events_of z) t))

-- ---- the answer

-- the instants are in the history
chosen_reached : (p : Parts) (image : List ℕ) (m : MachineState) (e : Expr) (cols : Columns) → StandsFor p image m → list_any (is_out (span_held p.index)) (instants_of (words_of e)) ≡ false
    → is_reached (history_in m.index) (record { what = Selected (Chosen e); cols = cols }) ≡ true
chosen_reached p image m e cols s inside =
    ap (λ (ends : Option (ℕ × ℕ)). not (list_any (is_out ends) (instants_of (words_of e)))) (ap span_of (events_there m.index) ∙ sym (instants_are p image m s)) ∙ ap not inside

module _ (law : ChosenAreShown) (p : Parts) (e : Expr) (cols : Columns) (free : refused_by p 0 (retrieval_needs (instants_of (words_of e)) 1) ≡ None) where
  pub chosen_answers : (q : Parts) (before after : Option (List ℕ)) (weight : ℕ) (singles : List ℕ) (bases : List (Option ℕ)) (graphs : List (List Element)) (set : List Element) (reply : Reply) → after ≡ before
      → IfSome before (λ image. (m : MachineState) → StandsFor p image m → IsRetrieved m (instants_of (words_of e)) (graph_columns cols) weight singles bases graphs)
      → length bases ≡ length (instants_of (words_of e)) → ((graph : ℕ → List Element) → graphs ≡ map graph (instants_of (words_of e)) → set ≡ chosen (words_of e) graph)
      → q ≡ with_new_handles p (record { what = Selected (Chosen e); cols = cols } ∷ []) (shown set (with_messages cols) ∷ []) → reply ≡ headed (head.Chosen p.next weight)
      → Accepts (command.Select (Chosen e) cols) [] p before q after reply
  chosen_answers q before after weight singles bases graphs set reply same got many is_chosen is reply_is =
      let c : Command = command.Select (Chosen e) cols in
      let new : Stands = record { what = Selected (Chosen e); cols = cols } in
      retrieval_accepted c p q before after (new ∷ []) (shown set (with_messages cols) ∷ []) reply
      (moved_with c p q before after reply free
      (λ m x y a b s.
      let r = one_told before (λ image. (k : MachineState) → StandsFor p image k → IsRetrieved k (instants_of (words_of e)) (graph_columns cols) weight singles bases graphs) x got a m s in
      let z : History = history_in m.index in
      let edges = edges_same m cols in
      let tree : IsTreeOf (edges_in m cols) (points_for m (instants_of (words_of e))) r.tree.0 bases = subst (λ (es : List Edge). IsTreeOf es (points_for m (instants_of (words_of e))) r.tree.0 bases) edges r.tree.1 in
      let weighs : weight ≡ tree_weight (arcs_of (edges_in m cols)) tree.0 = r.tree.2 ∙ (let e : r.tree.0 + 0 ≡ r.tree.0 = omega arith in e) ∙ tree.2 in
      let listed : shown set (with_messages cols) ≡ elements z new =
      ap (λ (l : List Element). shown l (with_messages cols)) (is_chosen (graph_in z cols) (r.listed ∙ graphs_listed z cols (instants_of (words_of e)) bases many)) ∙ chosen_again law z e cols in
      let room = retrieval_free p (instants_of (words_of e)) 1 (omega arith) free in
      let reaches : Stands → Type 0 = λ (k : Stands). is_reached z k ≡ true in (
        record no_plan { grafts = tree.0 },
        with_handle m new,
        tree.1,
        (λ i. record {
          reply = (ap (λ n. headed (head.Chosen n (tree_weight (arcs_of (edges_in m cols)) tree.0))) (sym s.next) ∙ ap (λ w. headed (head.Chosen p.next w)) (sym weighs) ∙ sym reply_is) i;
          state = with_handle m new;
        }),
        handles_taken p q y m (new ∷ []) (subst (λ image. StandsFor p image m) (one_image before after x y same a b) s) room.0
            (All-cons reaches new [] (chosen_reached p x m e cols s room.1) (All-nil reaches))
            (is ∙ ap (λ g. with_new_handles p (new ∷ []) (g ∷ [])) listed),
      )))
      (ap is_refusal reply_is) free (subst (Fits c) (sym reply_is) tt) same is (head_names (length q.names) (head.Chosen p.next weight) reply reply_is)

  -- where it fails, the bytes read are at most what its reply would tell
  pub chosen_fails : (image : Option (List ℕ)) (reply : Reply) (before after : ℕ) → is_refusal reply ≡ true → is_early reply ≡ false
      → IfSome image (λ bytes. (m : MachineState) → StandsFor p bytes m → TakesAtMostRetrieval m (instants_of (words_of e)) (graph_columns cols) before after)
      → Reads (command.Select (Chosen e) cols) p image reply before after
  chosen_fails image reply before after refuses late most =
      let c : Command = command.Select (Chosen e) cols in
      reads_failed c p image reply before after refl refuses late (λ m got reads. reads) (λ got. free)
      (if_some image (λ bytes. (m : MachineState) → StandsFor p bytes m → TakesAtMostRetrieval m (instants_of (words_of e)) (graph_columns cols) before after)
      (λ bytes. (m : MachineState) → StandsFor p bytes m → (got : List ScriptLine) (plan : Planned) → IsPlanned m c plan → TakesAtMost (weight_told (accepted m c got plan).reply) before after)
      (λ x f m s got plan planned.
      let least : (grafts : List (Graft NodeId)) → IsTree (arcs_of (edges_in m cols)) (Root ∷ []) (points_for m (instants_of (words_of e))) grafts → TakesAtMost (tree_weight (arcs_of (edges_in m cols)) grafts + 0) before after =
      subst (λ (es : List Edge). (grafts : List (Graft NodeId)) → IsTree (arcs_of es) (Root ∷ []) (points_for m (instants_of (words_of e))) grafts → TakesAtMost (tree_weight (arcs_of es) grafts + 0) before after) (edges_same m cols) (f m s) in
      subst (λ w. TakesAtMost w before after) (let e : tree_weight (arcs_of (edges_in m cols)) plan.grafts + 0 ≡ tree_weight (arcs_of (edges_in m cols)) plan.grafts = omega arith in e) (least plan.grafts planned)) most)
