-- What leads to the graphs as of instants is, with their messages, that of each state for which a session stands.
use Rattle.std.proofs.Common.{◌≡◌, ℕ, ◌+◌, Bool, true, false, List, [], ◌∷◌, Option, Some, Ok, Err, length, map, refl, sym, ◌∙◌, ap, subst, arith}
use Rattle.std.specs.Prelude.{IfErr, IfOk, IfSome, Result, if◌then◌else◌}
use Rattle.std.specs.List.{All, list_any}
use Rattle.std.proofs.lemmas.List.{length-map}
use Rattle.std.proofs.lemmas.Option.{IfSome_then}
use Rattle.dg_fold.specs.BytesRead.{Takes, TakesAtMost}
use Rattle.dg_graph.specs.declared.element.Columns.{Columns}
use Rattle.dg_graph.specs.declared.element.Element.{Element}
use Rattle.dg_graph.specs.declared.event.Event.{Event}
use Rattle.dg_handles.specs.Handles.{BeginsOn, HoldsNode, held_by, overlays_on}
use Rattle.dg_heard.specs.Heard.{heard_bytes}
use Rattle.dg_heard.specs.HistoryLaw.{HeardBytesAreTheHistorys}
use Rattle.dg_history.specs.declared.node.NodeId.{NodeId}
use Rattle.dg_history.specs.declared.node.NodeId.TheVariants.{Root}
use Rattle.dg_history.specs.History.{History}
use Rattle.dg_index.specs.HeardLists.{heard_length}
use Rattle.dg_index.specs.OpenedIndex.{Opening, event_total}
use Rattle.dg_machine.specs.declared.stands.Stands.{Stands}
use Rattle.dg_machine.specs.declared.stands.Shown.TheVariants.{Overlay}
use Rattle.dg_machine.specs.Answer.{heard_for, with_heard}
use Rattle.dg_machine.specs.MachineState.{MachineState, elements, history_in}
use Rattle.dg_machine.specs.Planning.{bases_in, edges_in, points_for}
use Rattle.dg_messages.specs.Told.{shown_with_messages}
use Rattle.dg_plan.specs.declared.edge.Edge.{Edge}
use Rattle.dg_plan.specs.IndexGraph.{arcs_of}
use Rattle.dg_plan.specs.Walks.{AreSingles, Graft, IsTree, tree_weight}
use Rattle.dg_retrieval.specs.Beginnings.{GraphLead, base_handle, leads_in, led_to}
use Rattle.dg_records.specs.declared.fault.RecordFault.{RecordFault}
use Rattle.dg_retrieval.specs.declared.retrieval.Retrieved.{Retrieved}
use Rattle.dg_retrieval.specs.KeptGraph.{kept_edges, kept_ground}
use Rattle.dg_retrieval.specs.NamesThere.{EventNamesAreThere, NamesAreThere}
use Rattle.dg_retrieval.specs.Retrieval.{AreHeld, ArePoints, IsNoDamage, IsOver, IsTreeOf}
use Rattle.dg_session.proofs.HandleBases.{bases_are_held}
use Rattle.dg_session.proofs.PartStates.{is_of}
use Rattle.dg_session.proofs.PlanStep.{edges_are}
use Rattle.dg_session.proofs.SessionRetrievals.{IsSession, at_points, is_out, is_over, points_are, z_of}
use Rattle.dg_ask.specs.HeldIndex.{point_over, points_over, span_held}
use Rattle.dg_session.specs.Parts.{Parts}
use Rattle.dg_session.specs.Reads.{HasRetrieved, IsRetrieved, RetrievesFor, TakesAtMostRetrieval, bases_of, listed_by}
use Rattle.dg_session.specs.Retrievals.{LeadsOver, LeadsToInstants, heard_if, with_heard_if}
use Rattle.dg_session.specs.Session.{StandsFor}

-- there is a weight for each target
singles_many : (edges : List Edge) (targets : List NodeId) (plans : List ℕ) → AreSingles (arcs_of edges) (Root ∷ []) targets plans → length plans ≡ length targets
singles_many edges [] [] are = refl
singles_many edges [] (plan ∷ plans) are = elim are [ ]
singles_many edges (v ∷ targets) [] are = elim are [ ]
singles_many edges (v ∷ targets) (plan ∷ plans) are = let rest = singles_many edges targets plans are.1 in omega (arith, rest)

-- ---- the state that the session stands for

module _ (law : HeardBytesAreTheHistorys) (p : Parts) (o : Opening) (image : List ℕ) (m : MachineState) (there : p.index ≡ Some o) (s : StandsFor p image m) where
  bytes_are : (times : List ℕ) → heard_bytes o times ≡ heard_length (history_in m.index) times
  bytes_are times =
      ap (λ x. heard_bytes x times) (is_of p o image m there s).1.opened
      ∙ law (z_of p o image m there s) image (is_of p o image m there s).1.stands times
      ∙ sym (ap (λ (i : Option History). heard_length (history_in i) times) (is_of p o image m there s).1.index)

  -- the bytes of messages that the index keeps are those of the history
  pub heard_are : (cols : Columns) (times : List ℕ) → heard_if cols.transient o times ≡ heard_for m cols times
  heard_are cols times = ap (λ n. if cols.transient then n else 0) (bytes_are times)

  weights_by : (asked : Bool) (cols : Columns) (times plans : List ℕ) → asked ≡ cols.transient → length plans ≡ length times → with_heard_if asked o times plans ≡ with_heard m cols times plans
  weights_by true cols [] plans is many = refl
  weights_by true cols (t ∷ times) [] is many = refl
  weights_by true cols (t ∷ times) (plan ∷ plans) is many =
      let one : heard_bytes o (t ∷ []) ≡ heard_for m cols (t ∷ []) = ap (λ b. heard_if b o (t ∷ [])) is ∙ heard_are cols (t ∷ []) in
      λ i. (plan + one i) ∷ weights_by true cols times plans is (omega (arith, many)) i
  weights_by false cols [] [] is many = refl
  weights_by false cols [] (plan ∷ plans) is many = absurd (omega (arith, many))
  weights_by false cols (t ∷ times) [] is many = refl
  weights_by false cols (t ∷ times) (plan ∷ plans) is many =
      let none : 0 ≡ heard_for m cols (t ∷ []) = ap (λ b. heard_if b o (t ∷ [])) is ∙ heard_are cols (t ∷ []) in
      let same : plan ≡ plan + heard_for m cols (t ∷ []) = omega (arith, none) in
      λ i. same i ∷ weights_by false cols times plans is (omega (arith, many)) i

  mapped : (times : List ℕ) (bases : List (Option ℕ)) (cols : Columns) → length bases ≡ length times
      → shown_with_messages (z_of p o image m there s) times cols ≡ map (elements (z_of p o image m there s)) (overlays_on cols times bases)
  mapped [] bases cols many = refl
  mapped (t ∷ times) [] cols many = absurd (omega arith)
  mapped (t ∷ times) (b ∷ bases) cols many = λ i. elements (z_of p o image m there s) (record { what = Overlay t b; cols = cols }) ∷ mapped times bases cols (omega arith) i

  -- the graphs as of the instants with their messages are those that new handles list
  listed : (times : List ℕ) (bases : List (Option ℕ)) (cols : Columns) → length bases ≡ length times
      → shown_with_messages (z_of p o image m there s) times cols ≡ map (elements (history_in m.index)) (overlays_on cols times bases)
  listed times bases cols many =
      mapped times bases cols many ∙ sym (ap (λ (i : Option History). map (elements (history_in i)) (overlays_on cols times bases)) (is_of p o image m there s).1.index)

  is_retrieved : (names : ℕ) (recent : List Event) (times : List ℕ) (cols : Columns) (x : Retrieved) (graphs : List (List Element)) → list_any (is_out (span_held (Some o))) times ≡ false
      → LeadsToInstants names recent (kept_edges o (event_total o.batches) cols (bases_in cols p.table)) o (points_over o p.recent times) times cols x
      → graphs ≡ shown_with_messages (z_of p o image m there s) times cols
      → IsRetrieved m times cols x.weight x.singles.items (bases_of (leads_in x.leads)) graphs
  is_retrieved names recent times cols x graphs inside leads graphs_are =
      let bases : List (Option ℕ) = bases_of (leads_in x.leads) in
      let edges = edges_are p o image m there s cols in
      let points = points_are p o image m there s times inside in
      let many = singles_many (kept_edges o (event_total o.batches) cols (bases_in cols p.table)) (points_over o p.recent times) leads.singles.0 leads.singles.1 ∙ length-map times (point_over o p.recent) in
      record {
        tree = (
          leads.tree.0,
          subst (λ (ns : List NodeId). IsTreeOf (edges_in m cols) ns leads.tree.0 bases) points (subst (λ (es : List Edge). IsTreeOf es (points_over o p.recent times) leads.tree.0 bases) edges leads.tree.1),
          leads.tree.2 ∙ ap (λ n. leads.tree.0 + n) (heard_are cols times),
        );
        single_plans = (
          leads.singles.0,
          subst (λ (ns : List NodeId). AreSingles (arcs_of (edges_in m cols)) (Root ∷ []) ns leads.singles.0) points
              (subst (λ (es : List Edge). AreSingles (arcs_of es) (Root ∷ []) (points_over o p.recent times) leads.singles.0) edges leads.singles.1),
          leads.singles.2 ∙ weights_by cols.transient cols times leads.singles.0 refl many,
        );
        listed = graphs_are ∙ listed times bases cols (length-map (leads_in x.leads) (λ (l : GraphLead). base_handle l.begins) ∙ leads.count);
      }

-- ---- a retrieval over what the session has in memory

module _ (p : Parts) (o : Opening) (times : List ℕ) (cols : Columns) (told : Option (List ℕ)) (names : ℕ) (recent : List Event) (is : IsSession p o names recent)
    (inside : list_any (is_out (span_held (Some o))) times ≡ false)
    (edges : List Edge) (edges_is : edges ≡ kept_edges o (event_total o.batches) cols (bases_in cols p.table)) (hold : All (HoldsNode p.table cols) (bases_in cols p.table)) where
  over_session : (image : List ℕ) (m : MachineState) (s : StandsFor p image m) → IsOver (z_of p o image m is.there s) image o names p.graph recent
  over_session image m s =
      subst (λ es. IsOver (z_of p o image m is.there s) image o names p.graph es) (sym is.all)
      (subst (λ n. IsOver (z_of p o image m is.there s) image o n p.graph p.recent) (sym is.count) (is_over p o image m is.there s))

  points_of_session : (image : List ℕ) (m : MachineState) (s : StandsFor p image m) → ArePoints (z_of p o image m is.there s) (points_over o recent times) times
  points_of_session image m s = ap (λ es. points_over o es times) is.all ∙ at_points p o image m is.there s times inside

  -- the handles that can serve list what is shown of their nodes
  held_there : (image : List ℕ) (m : MachineState) (s : StandsFor p image m) → AreHeld (z_of p o image m is.there s) edges cols (listed_by p)
  held_there image m s =
      let z : History = z_of p o image m is.there s in
      let graphs : p.graphs ≡ map (λ (e : ℕ × Stands). elements z e.1) p.table =
      s.graphs ∙ (λ i. map (λ (e : ℕ × Stands). elements (history_in ((is_of p o image m is.there s).1.index i)) e.1) (sym s.table i)) in
      subst (λ (gs : List (List Element)). AreHeld z edges cols (held_by p.table gs)) (sym graphs)
      (subst (λ (es : List Edge). AreHeld z es cols (held_by p.table (map (λ (e : ℕ × Stands). elements z e.1) p.table))) (sym edges_is)
      (bases_are_held z p.table cols (kept_ground o (event_total o.batches) cols (bases_in cols p.table)) hold))

  -- the bytes read are at most what a tree over these edges weighs, and so many more
  abbrev TakesMost : List Edge → List NodeId → ℕ → ℕ → ℕ → Type 0
  TakesMost es ns more before after = (grafts : List (Graft NodeId)) → IsTree (arcs_of es) (Root ∷ []) ns grafts → TakesAtMost (tree_weight (arcs_of es) grafts + more) before after

  -- what a retrieval over a history is, is that of each state that the session stands for
  pub retrieves_for : HeardBytesAreTheHistorys → (r : Result Retrieved RecordFault) (before after : ℕ) → IfOk r (LeadsToInstants names recent edges o (points_over o recent times) times cols)
      → IfSome told (λ image. (z : History) (now : List Element) → IsOver z image o names now recent → LeadsOver z now edges o (points_over o recent times) times cols before after r)
      → IfSome told (λ image. (m : MachineState) → StandsFor p image m → RetrievesFor m p times cols before after r)
  retrieves_for law r before after done over =
      IfSome_then told over
      (λ image f m s.
      let z : History = z_of p o image m is.there s in
      let x : LeadsOver z p.graph edges o (points_over o recent times) times cols before after r = f z p.graph (over_session image m s) in
      record {
        retrieved = retrieved_over r image m s done x.graphs;
        takes = x.takes;
        most = subst (λ n. TakesMost (edges_in m cols) (points_for m times) n before after) (heard_are law p o image m is.there s cols times)
            (subst (λ (ns : List NodeId). TakesMost (edges_in m cols) ns (heard_if cols.transient o times) before after) (points_are p o image m is.there s times inside)
            (subst (λ (es : List Edge). TakesMost es (points_over o p.recent times) (heard_if cols.transient o times) before after) (edges_is ∙ edges_are p o image m is.there s cols)
            (subst (λ es. TakesMost edges (points_over o es times) (heard_if cols.transient o times) before after) is.all x.most)));
        never = no_damage_here r image m s x.never;
      })
    where
      retrieved_over : (r : Result Retrieved RecordFault) (image : List ℕ) (m : MachineState) (s : StandsFor p image m) → IfOk r (LeadsToInstants names recent edges o (points_over o recent times) times cols)
          → IfOk r (λ x. (held : ℕ → List Element) → AreHeld (z_of p o image m is.there s) edges cols held → ArePoints (z_of p o image m is.there s) (points_over o recent times) times
          → map (led_to p.graph held cols) (leads_in x.leads) ≡ shown_with_messages (z_of p o image m is.there s) times cols)
          → IfOk r (λ x. IsRetrieved m times cols x.weight x.singles.items (bases_of (leads_in x.leads)) (map (led_to p.graph (listed_by p) cols) (leads_in x.leads)))
      retrieved_over (Err f) image m s done graphs = tt
      retrieved_over (Ok x) image m s done graphs =
          is_retrieved law p o image m is.there s names recent times cols x (map (led_to p.graph (listed_by p) cols) (leads_in x.leads)) inside
          (subst (λ es. LeadsToInstants names recent es o (points_over o p.recent times) times cols x) edges_is (subst (λ es. LeadsToInstants names recent edges o (points_over o es times) times cols x) is.all done))
          (graphs (listed_by p) (held_there image m s) (points_of_session image m s))

      no_damage_here : (r : Result Retrieved RecordFault) (image : List ℕ) (m : MachineState) (s : StandsFor p image m)
          → IfErr r (λ f. ArePoints (z_of p o image m is.there s) (points_over o recent times) times → IsNoDamage f) → IfErr r IsNoDamage
      no_damage_here (Ok x) image m s never = tt
      no_damage_here (Err f) image m s never = never (points_of_session image m s)

  -- whatever the image is, there is a lead for each instant
  pub has_retrieved : (r : Result Retrieved RecordFault) → EventNamesAreThere names recent → IfOk r (λ x. All (BeginsOn p.table cols) (leads_in x.leads))
      → IfOk r (LeadsToInstants names recent edges o (points_over o recent times) times cols) → IfOk r (HasRetrieved p times cols)
  has_retrieved (Err f) there bases done = tt
  has_retrieved (Ok x) there bases done = record {
    bases = bases;
    count = done.count;
    sum = done.sum;
    named = subst (λ n. All (λ (l : GraphLead). NamesAreThere n l.delta.plus) (leads_in x.leads)) is.count (done.named there);
  }

-- ---- what a retrieval is said to be for each state

module _ (p : Parts) (times : List ℕ) (cols : Columns) (told : Option (List ℕ)) (before after : ℕ) where
  abbrev pub For : Result Retrieved RecordFault → Type 0
  For r = IfSome told (λ image. (m : MachineState) → StandsFor p image m → RetrievesFor m p times cols before after r)

  pub retrieved_of : (x : Retrieved) → For (Ok x)
      → IfSome told (λ image. (m : MachineState) → StandsFor p image m → IsRetrieved m times cols x.weight x.singles.items (bases_of (leads_in x.leads)) (map (led_to p.graph (listed_by p) cols) (leads_in x.leads)))
  retrieved_of x over = IfSome_then told over (λ image f m s. (f m s).retrieved)

  pub taken_of : (x : Retrieved) → For (Ok x) → IfSome told (λ image. (m : MachineState) → StandsFor p image m → Takes x.weight before after)
  taken_of x over = IfSome_then told over (λ image f m s. (f m s).takes)

  pub most_of : (r : Result Retrieved RecordFault) → For r → IfSome told (λ image. (m : MachineState) → StandsFor p image m → TakesAtMostRetrieval m times cols before after)
  most_of r over = IfSome_then told over (λ image f m s. (f m s).most)

  pub never_of : (f : RecordFault) → For (Err f) → IfSome told (λ image. (m : MachineState) → StandsFor p image m → IsNoDamage f)
  never_of f over = IfSome_then told over (λ image h m s. (h m s).never)
