-- The answers to a plan and to a certificate.
use Rattle.std.proofs.Common.{◌≡◌, ℕ, ◌+◌, Bool, true, false, not, List, [], ◌∷◌, Option, Some, None, Err, length, map, refl, sym, ◌∙◌, ap, subst, nat_lt}
use Rattle.std.specs.Prelude.{unwrap_or, ◌||◌}
use Rattle.std.specs.List.{AllZip}
use Rattle.std.proofs.lemmas.Bool.{not-false}
use Rattle.dg_graph.specs.declared.element.Columns.{Columns}
use Rattle.dg_text.specs.Lines.{ScriptLine}
use Rattle.dg_history.specs.declared.node.Key.{Key}
use Rattle.dg_history.specs.declared.node.NodeId.{NodeId}
use Rattle.dg_history.specs.declared.params.Params.{Params}
use Rattle.dg_index.specs.declared.entry.Entry.{Entry}
use Rattle.dg_history.specs.declared.node.NodeId.TheVariants.{Root}
use Rattle.dg_history.specs.History.{History, events_of, in_range, span_of}
use Rattle.dg_append.specs.OlderGroups.{older_children}
use Rattle.dg_index.specs.Hierarchy.{leaves}
use Rattle.dg_index.specs.OlderNodes.{older}
use Rattle.dg_index.specs.OpenedIndex.{Opening, event_total, opened_of}
use Rattle.dg_machine.specs.declared.command.Command.TheVariants as command
use Rattle.dg_machine.specs.declared.reply.Head.TheVariants as head
use Rattle.dg_machine.specs.declared.reply.Reply.{Reply}
use Rattle.dg_machine.specs.Answer.{headed, is_refusal, plan_reply}
use Rattle.dg_machine.specs.CommandGrammar.{plan_line_in}
use Rattle.dg_machine.specs.MachineState.{MachineState, history_in}
use Rattle.dg_machine.specs.Needs.{is_out_of_range, needs}
use Rattle.dg_machine.specs.Planning.{IsPlanned, bases_in, edges_in, nodes_in, point_for, record_edges_in}
use Rattle.dg_plan.specs.declared.certificate.Verdict.{Verdict}
use Rattle.dg_plan.specs.declared.edge.Edge.{Edge}
use Rattle.dg_plan.specs.CertificateLines.{judged}
use Rattle.dg_plan.specs.HistoryGraph.{all_columns, ground_of_history, ground_of_records}
use Rattle.dg_plan.specs.IndexGraph.{Ground, arcs_of, edges_of, nodes_of}
use Rattle.dg_plan.specs.InstantPoint.{point}
use Rattle.dg_plan.specs.Walks.{IsPlan, IsPotential, weight_of}
use Rattle.dg_planner.specs.Bases.{ground_of}
use Rattle.dg_planner.specs.HistoryLaws.{first_time_in}
use Rattle.dg_planner.proofs.HistoryLawGraphs.{edges_are as edges_of_records, graph_of_history}
use Rattle.dg_planner.proofs.HistoryLawPoints.{points_of_history}
use Rattle.dg_catalogue.specs.Points.{point_of}
use Rattle.dg_ask.proofs.HeldIndexHistory.{count_is, kept_span_is, span_is}
use Rattle.dg_index.proofs.OpenedLegalHistories.{behind}
use Rattle.dg_session.proofs.ReplyNames.{head_names, names_stay, plan_names}
use Rattle.dg_session.proofs.PartStates.{IsOf, is_of, one_image, opening_of, stands_on}
use Rattle.dg_batch.specs.declared.halt.Halt.TheVariants as halt
use Rattle.dg_batch.specs.declared.stop.Stop.{Stop}
use Rattle.dg_batch.specs.declared.stop.Stop.TheVariants as stop
use Rattle.dg_session.proofs.SessionSteps.{Comes, moved, moved_by}
use Rattle.dg_session.proofs.Needed.{has_needed}
use Rattle.dg_session.specs.Decided.{Fits}
use Rattle.dg_session.specs.Parts.{Parts}
use Rattle.dg_retrieval.specs.KeptGraph.{holding, index_edges, kept_edges, kept_nodes, record_edges, shape_with}
use Rattle.dg_ask.specs.HeldIndex.{catalogue_of, point_over, span_held}
use Rattle.dg_ask.specs.Plans.{IsPlanReply}
use Rattle.dg_session.specs.BatchReads.{older_for}
use Rattle.dg_session.specs.Session.{Accepts, StandsFor, refused_by}

-- ---- what is not refused

or_none : (a : Bool) → (a || false) ≡ a
or_none true = refl
or_none false = refl

-- an instant that is not refused is in the history of the index
pub inside_of : (p : Parts) (t : ℕ) (o : Opening) → p.index ≡ Some o → is_out_of_range (span_held p.index) (t ∷ []) None ≡ false → in_range (span_held (Some o)) t ≡ true
inside_of p t o there within =
    not-false (in_range (span_held (Some o)) t)
    (sym (or_none (not (in_range (span_held (Some o)) t))) ∙ ap (λ (i : Option Opening). is_out_of_range (span_held i) (t ∷ []) None) (sym there) ∙ within)

-- ---- the graph

-- the edges of the graph of an index with these parameters, so many events and these records
abbrev kept_edges_over : Params → ℕ → List (Key × Entry) → Columns → List (ℕ × NodeId) → List Edge
kept_edges_over params n records cols bases = edges_of (let g : Ground = record (ground_of (shape_with params n) (holding records) cols [] (nat_lt 0 n)) { bases = bases } in g)

-- what the index has, it has of the history that the session stands for
module _ (p : Parts) (o : Opening) (image : List ℕ) (m : MachineState) (there : p.index ≡ Some o) (s : StandsFor p image m) where
  abbrev z : History
  z = (is_of p o image m there s).0

  of_z : IsOf p o image m z
  of_z = (is_of p o image m there s).1

  params_are : o.params ≡ z.params
  params_are = ap (λ (x : Opening). x.params) of_z.opened ∙ (behind z of_z.stands.legal).params

  records_are : o.records ≡ (opened_of z).index.records
  records_are = ap (λ (x : Opening). x.records) of_z.opened

  pub many_are : event_total o.batches ≡ length (events_of z)
  many_are = ap (λ (x : Opening). event_total x.batches) of_z.opened ∙ count_is z of_z.stands.legal

  pub span_there : span_held (Some o) ≡ span_of (events_of z)
  span_there = ap (λ (x : Opening). span_held (Some x)) of_z.opened ∙ span_is z of_z.stands.legal

  pub edges_are : (cols : Columns) → kept_edges o (event_total o.batches) cols (bases_in cols p.table) ≡ edges_in m cols
  edges_are cols =
      (λ i. kept_edges_over (params_are i) (many_are i) (records_are i) cols (bases_in cols (s.table i)))
      ∙ (graph_of_history z of_z.stands.legal (holding (opened_of z).index.records) refl cols (bases_in cols m.table)).0
      ∙ sym (ap (λ (i : Option History). edges_of (let g : Ground = record (ground_of_history (history_in i) cols) { bases = bases_in cols m.table } in g)) of_z.index)

  pub nodes_are : (cols : Columns) → kept_nodes o (event_total o.batches) cols ≡ nodes_in m cols
  nodes_are cols =
      (λ i. nodes_of (ground_of (shape_with (params_are i) (many_are i)) (holding (records_are i)) cols [] (nat_lt 0 (many_are i))))
      ∙ (graph_of_history z of_z.stands.legal (holding (opened_of z).index.records) refl cols []).1
      ∙ sym (ap (λ (i : Option History). nodes_of (ground_of_history (history_in i) cols)) of_z.index)

  -- the same of the records alone
  pub records_edges_are : record_edges o ≡ record_edges_in m all_columns
  records_edges_are =
      (λ i. edges_of (ground_of (shape_with (params_are i) (many_are i)) (holding (records_are i)) all_columns [] false))
      ∙ edges_of_records z of_z.stands.legal (holding (opened_of z).index.records) refl all_columns [] false
      ∙ sym (ap (λ (i : Option History). edges_of (ground_of_records (history_in i) all_columns)) of_z.index)

  -- the same in any columns
  pub records_edges_in : (cols : Columns) → index_edges o cols false [] ≡ record_edges_in m cols
  records_edges_in cols =
      (λ i. edges_of (let g : Ground = record (ground_of (shape_with (params_are i) (many_are i)) (holding (records_are i)) cols [] false) { bases = [] } in g))
      ∙ edges_of_records z of_z.stands.legal (holding (opened_of z).index.records) refl cols [] false
      ∙ sym (ap (λ (i : Option History). edges_of (ground_of_records (history_in i) cols)) of_z.index)

  -- the older children of the interior nodes that a batch of so many lines completes
  pub older_are : (count : ℕ) → older_children o count ≡ older_for m count
  older_are count =
      (λ i. older (params_are i).k (leaves (params_are i) (many_are i)) (leaves (params_are i) (many_are i + count)))
      ∙ sym (ap (λ (i : Option History). older (history_in i).params.k (leaves (history_in i).params (length (events_of (history_in i)))) (leaves (history_in i).params (length (events_of (history_in i)) + count))) of_z.index)

  -- of an instant of the history
  pub point_here : (t : ℕ) → in_range (span_held (Some o)) t ≡ true → point_over o p.recent t ≡ point z.params (events_of z) t
  point_here t inside =
      let law = (points_of_history z of_z.stands.legal (catalogue_of (opening_of z)) refl).1 (kept_span_is z of_z.stands.legal) t (ap (λ ends. in_range ends t) (sym span_there) ∙ inside) in
      (λ i. unwrap_or (point_of (catalogue_of (of_z.opened i)) t (first_time_in (of_z.recent i))) Root) ∙ ap (λ (x : Option NodeId). unwrap_or x Root) law

  pub point_is : (t : ℕ) → in_range (span_held (Some o)) t ≡ true → point_over o p.recent t ≡ point_for m t
  point_is t inside =
      point_here t inside ∙ sym (ap (λ (i : Option History). point (history_in i).params (events_of (history_in i)) t) of_z.index)

  -- what is planned over the index is planned for the machine
  pub is_planned : (t : ℕ) (cols : Columns) (reply : Reply) → in_range (span_held (Some o)) t ≡ true → (r : IsPlanReply o p.recent (bases_in cols p.table) t cols reply) → IsPlanned m (command.Plan t cols) r.plan
  is_planned t cols reply inside r = (
    subst (λ (es : List Edge). IsPlan (arcs_of es) (Root ∷ []) (point_for m t) r.plan.steps) (edges_are cols)
        (subst (λ (a : NodeId). IsPlan (arcs_of (kept_edges o (event_total o.batches) cols (bases_in cols p.table))) (Root ∷ []) a r.plan.steps) (point_is t inside) r.least),
    subst (λ (ns : List NodeId). AllZip (IsPotential (arcs_of (edges_in m cols)) (Root ∷ []) (weight_of (arcs_of (edges_in m cols)) r.plan.steps)) ns r.plan.potentials) (nodes_are cols)
        (subst (λ (es : List Edge). AllZip (IsPotential (arcs_of es) (Root ∷ []) (weight_of (arcs_of es) r.plan.steps)) (kept_nodes o (event_total o.batches) cols) r.plan.potentials) (edges_are cols) r.certified),
  )

  pub plan_due : (t : ℕ) (cols : Columns) (reply : Reply) (r : IsPlanReply o p.recent (bases_in cols p.table) t cols reply)
      → plan_reply (edges_in m cols) (nodes_in m cols) (weight_of (arcs_of (edges_in m cols)) r.plan.steps) r.plan.steps r.plan.potentials ≡ reply
  plan_due t cols reply r =
      sym (r.says ∙ (λ i. plan_reply (edges_are cols i) (nodes_are cols i) (weight_of (arcs_of (edges_are cols i)) r.plan.steps) r.plan.steps r.plan.potentials))

  pub verdict_due : (t : ℕ) (cols : Columns) (got : List ScriptLine) → in_range (span_held (Some o)) t ≡ true
      → judged (kept_edges o (event_total o.batches) cols (bases_in cols p.table)) (kept_nodes o (event_total o.batches) cols) (point_over o p.recent t) (map plan_line_in got)
      ≡ judged (edges_in m cols) (nodes_in m cols) (point_for m t) (map plan_line_in got)
  verdict_due t cols got inside = λ i. judged (edges_are cols i) (nodes_are cols i) (point_is t inside i) (map plan_line_in got)

-- ---- the answers

pub plan_answers : (p : Parts) (t : ℕ) (cols : Columns) (image : Option (List ℕ)) (o : Opening) (reply : Reply) → p.index ≡ Some o → refused_by p 0 (needs (command.Plan t cols)) ≡ None → IsPlanReply o p.recent (bases_in cols p.table) t cols reply
    → Accepts (command.Plan t cols) [] p image p image reply
plan_answers p t cols image o reply there free r = record {
  moves =
      moved_by (command.Plan t cols) [] r.plan p p image image reply free
      (λ m x y a b s none. (
        m,
        is_planned p o x m there s t cols reply (inside_of p t o there (has_needed p 0 (needs (command.Plan t cols)) free).instants) r,
        (λ i. record { reply = plan_due p o x m there s t cols reply r i; state = m }),
        stands_on p p x y m refl (one_image image image x y refl a b) s,
      ));
  accepted = ap is_refusal r.says;
  free = free;
  fits = subst (Fits (command.Plan t cols)) (sym r.says) tt;
  held = λ h. h;
  no_index = λ h. (h, refl);
  quiet = λ h. refl;
  named = plan_names (length p.names) (kept_edges o (event_total o.batches) cols (bases_in cols p.table)) (kept_nodes o (event_total o.batches) cols)
      (weight_of (arcs_of (kept_edges o (event_total o.batches) cols (bases_in cols p.table))) r.plan.steps) r.plan.steps r.plan.potentials reply r.says;
  keeps_names = names_stay p.names p.names refl;
}

pub certificate_answers : (p : Parts) (t : ℕ) (cols : Columns) (count : ℕ) (got : List ScriptLine) (image : Option (List ℕ)) (o : Opening) (verdict : Verdict) (reply : Reply)
    → p.index ≡ Some o → refused_by p (length got) (needs (command.Certify t cols count)) ≡ None
    → verdict ≡ judged (kept_edges o (event_total o.batches) cols (bases_in cols p.table)) (kept_nodes o (event_total o.batches) cols) (point_over o p.recent t) (map plan_line_in got) → reply ≡ headed (head.Certified verdict)
    → Accepts (command.Certify t cols count) got p image p image reply
certificate_answers p t cols count got image o verdict reply there free is reply_is = record {
  moves =
      moved (command.Certify t cols count) got p p image image reply (λ m. refl) free
      (λ m x y a b s none. (
        m,
        (λ i. record { reply = sym (reply_is ∙ ap (λ v. headed (head.Certified v)) (is ∙ verdict_due p o x m there s t cols got (inside_of p t o there (has_needed p (length got) (needs (command.Certify t cols count)) free).instants))) i; state = m }),
        stands_on p p x y m refl (one_image image image x y refl a b) s,
      ));
  accepted = ap is_refusal reply_is;
  free = free;
  fits = subst (Fits (command.Certify t cols count)) (sym reply_is) tt;
  held = λ h. h;
  no_index = λ h. (h, refl);
  quiet = λ h. refl;
  named = head_names (length p.names) (head.Certified verdict) reply reply_is;
  keeps_names = names_stay p.names p.names refl;
}

-- the script was cut within its lines
pub certificate_stopped : (p : Parts) (t : ℕ) (cols : Columns) (count : ℕ) (taken : List ScriptLine → Type 0) (cut : Type 0) (image : Option (List ℕ)) (s : Stop) → cut → (s ≡ stop.Store → ⊥)
    → Comes (command.Certify t cols count) taken cut p image p image (Err (halt.Stop s))
certificate_stopped p t cols count taken cut image stop.Read short no_store = ([], short, record { same = refl; same_image = refl })
certificate_stopped p t cols count taken cut image stop.Limit short no_store = ([], short, record { same = refl; same_image = refl })
certificate_stopped p t cols count taken cut image stop.Store short no_store = absurd (no_store refl)
