-- What leads to graphs with the messages of their instants, put together of what leads to the graphs and of the messages
-- behind it.
use Rattle.std.proofs.Common.{◌≡◌, inr, ℕ, ◌+◌, Bool, true, false, List, [], ◌∷◌, ◌++◌, Option, Some, Result, Ok, Err, length, map, refl, sym, ◌∙◌, ap, subst, arith}
use Rattle.std.specs.Prelude.{IfErr, IfOk, if◌then◌else◌}
use Rattle.std.specs.List.{All, Contains}
use Rattle.std.proofs.lemmas.List.{append-nil}
use Rattle.std.proofs.lemmas.List.Elements.{All-cons, All-head, All-nil, All-tail, All-weaker}
use Rattle.dg_fold.specs.BytesRead.{Takes, TakesAtMost}
use Rattle.dg_graph.proofs.ExactEvents.{IsSet-replay_from}
use Rattle.dg_graph.specs.declared.element.Columns.{Columns}
use Rattle.dg_graph.specs.declared.element.Element.{Element}
use Rattle.dg_graph.specs.declared.event.Event.{Event}
use Rattle.dg_graph.specs.Elements.{IsSet, shown}
use Rattle.dg_graph.specs.Replay.{replay_at, shown_at, told_at}
use Rattle.dg_heard.specs.Heard.{heard_bytes}
use Rattle.dg_history.specs.declared.node.NodeId.{NodeId}
use Rattle.dg_history.specs.History.{History, events_of}
use Rattle.dg_index.specs.OpenedIndex.{Opening}
use Rattle.dg_messages.specs.Calls.{HasMessages, HearsOver, TakesHeard, TellsMessageDamage}
use Rattle.dg_messages.specs.Told.{TellBehind, shown_with_messages}
use Rattle.dg_plan.specs.declared.edge.Edge.{Edge}
use Rattle.dg_plan.specs.declared.edge.Via.TheVariants as via
use Rattle.dg_plan.specs.IndexGraph.{arcs_of}
use Rattle.dg_plan.specs.Walks.{tree_weight}
use Rattle.dg_retrieval.specs.Beginnings.{GraphLead, IsOffered, base_handle, begun_with, leads_in, led_to}
use Rattle.dg_retrieval.specs.Calls.{IsRetrieval, RetrievesOver, TellsDamage}
use Rattle.dg_records.specs.declared.fault.RecordFault.{RecordFault}
use Rattle.dg_retrieval.specs.declared.graph_lead.Beginning.{Beginning}
use Rattle.dg_retrieval.specs.declared.graph_lead.Beginning.TheVariants as begins
use Rattle.dg_retrieval.specs.declared.retrieval.Retrieved.{Retrieved}
use Rattle.dg_retrieval.specs.Retrieval.{AreHeld, ArePoints, IsNoDamage, IsOver, IsTreeOf, graphs_at}
use Rattle.dg_session.specs.Retrievals.{LeadsOver, LeadsToInstants, TellsLeadDamage, heard_if, with_heard_if}

-- ---- what leads begin with

-- what holds of each beginning holds where messages are behind
carried : (P : Beginning → Type 0) (old new : List GraphLead) (sets : List (List Element)) → TellBehind old new sets → All (λ (l : GraphLead). P l.begins) old → All (λ (l : GraphLead). P l.begins) new
carried P [] [] [] behind all = All-nil (λ (l : GraphLead). P l.begins)
carried P [] [] (set ∷ sets) behind all = elim behind [ ]
carried P [] (told ∷ new) sets behind all = elim behind [ ]
carried P (lead ∷ old) [] sets behind all = elim behind [ ]
carried P (lead ∷ old) (told ∷ new) [] behind all = elim behind [ ]
carried P (lead ∷ old) (told ∷ new) (set ∷ sets) behind all =
    All-cons (λ (l : GraphLead). P l.begins) told new (subst P (sym behind.0.begins) (All-head (λ (l : GraphLead). P l.begins) lead old all))
    (carried P old new sets behind.1 (All-tail (λ (l : GraphLead). P l.begins) lead old all))

same_bases : (old new : List GraphLead) (sets : List (List Element)) → TellBehind old new sets → map (λ (l : GraphLead). base_handle l.begins) old ≡ map (λ (l : GraphLead). base_handle l.begins) new
same_bases [] [] [] behind = refl
same_bases [] [] (set ∷ sets) behind = elim behind [ ]
same_bases [] (told ∷ new) sets behind = elim behind [ ]
same_bases (lead ∷ old) [] sets behind = elim behind [ ]
same_bases (lead ∷ old) (told ∷ new) [] behind = elim behind [ ]
same_bases (lead ∷ old) (told ∷ new) (set ∷ sets) behind = λ i. base_handle (sym behind.0.begins i) ∷ same_bases old new sets behind.1 i

-- where the leads begin with bases of the graph, they begin with sets
begun_sets : (z : History) (now : List Element) (held : ℕ → List Element) (edges : List Edge) (cols : Columns) → IsSet now → AreHeld z edges cols held
    → (leads : List GraphLead) → All (IsOffered edges) leads → All (λ (l : GraphLead). IsSet (begun_with now held l.begins)) leads
begun_sets z now held edges cols set are leads offered = All-weaker (IsOffered edges) (λ (l : GraphLead). IsSet (begun_with now held l.begins)) (λ l offers. by l.begins offers) leads offered
  where
    by : (b : Beginning) → ((handle : ℕ) → base_handle b ≡ Some handle → (e : Edge) × Contains edges e × (e.via ≡ via.Base handle)) → IsSet (begun_with now held b)
    by begins.Nothing offers = tt
    by begins.Now offers = set
    by (begins.Base handle) offers = let e = offers handle refl in (are e.0 handle e.1 e.2).0

-- ---- bytes

takes_both : (m n whole a b c : ℕ) → whole ≡ m + n → Takes m a b → Takes n b c → Takes whole a c
takes_both m n whole a b c is f g = omega (arith, is, f, g)

most_both : (m n a b c : ℕ) → TakesAtMost m a b → TakesAtMost n b c → TakesAtMost (m + n) a c
most_both m n a b c f g = omega (arith, f, g)

most_more : (m n a b : ℕ) → TakesAtMost m a b → TakesAtMost (m + n) a b
most_more m n a b f = omega (arith, f)

-- ---- without messages

graphs_plain : (z : History) (cols : Columns) (times : List ℕ) → cols.transient ≡ false → graphs_at z times cols ≡ shown_with_messages z times cols
graphs_plain z cols [] plain = refl
graphs_plain z cols (t ∷ times) plain = λ i. same i ∷ graphs_plain z cols times plain i
  where
    graph : List Element
    graph = shown (replay_at (events_of z) t) cols

    same : graph ≡ shown_at (events_of z) t cols
    same = sym (ap (λ (b : Bool). graph ++ (if b then told_at (events_of z) t else [])) plain ∙ append-nil graph)

module _ (names : ℕ) (recent : List Event) (edges : List Edge) (o : Opening) (targets : List NodeId) (times : List ℕ) (cols : Columns) where
  -- the tree was not read
  pub tree_fails : (z : History) (now : List Element) (before after : ℕ) (f : RecordFault) → RetrievesOver z now edges cols targets times before after (Err f)
      → LeadsOver z now edges o targets times cols before after (Err f)
  tree_fails z now before after f over = record {
    graphs = tt;
    takes = tt;
    most = λ grafts tree. most_more (tree_weight (arcs_of edges) grafts) (heard_if cols.transient o times) before after (over.most grafts tree);
    never = over.never;
  }

  -- no message is asked for
  module _ (plain : cols.transient ≡ false) where
    pub plain_leads : (x : Retrieved) → length targets ≡ length times → IsRetrieval names recent edges targets x → LeadsToInstants names recent edges o targets times cols x
    plain_leads x many done =
        let weight : x.weight ≡ x.weight + heard_if false o times = omega arith in
        record {
          count = done.count ∙ many;
          tree = (x.weight, done.tree, weight ∙ sym (ap (λ b. x.weight + heard_if b o times) plain));
          singles = (x.singles.items, done.singles, sym (ap (λ b. with_heard_if b o times x.singles.items) plain));
          sum = done.sum;
          offered = done.offered;
          named = done.named;
        }

    pub plain_over : (z : History) (now : List Element) (before after : ℕ) (x : Retrieved) → RetrievesOver z now edges cols targets times before after (Ok x)
        → LeadsOver z now edges o targets times cols before after (Ok x)
    plain_over z now before after x over = record {
      graphs = λ held are points. over.graphs held are points ∙ graphs_plain z cols times plain;
      takes = over.takes;
      most = λ grafts tree. most_more (tree_weight (arcs_of edges) grafts) (heard_if cols.transient o times) before after (over.most grafts tree);
      never = tt;
    }

  -- messages are asked for
  module _ (asked : cols.transient ≡ true) (x : Retrieved) (done : IsRetrieval names recent edges targets x) where
    heard_is : heard_bytes o times ≡ heard_if cols.transient o times
    heard_is = sym (ap (λ b. heard_if b o times) asked)

    heard_leads_in : (image : Option (List ℕ)) (y : Retrieved) → HasMessages names o image recent times x y → LeadsToInstants names recent edges o targets times cols y
    heard_leads_in image y heard = record {
      count = heard.count;
      tree = (
        x.weight,
        subst (λ bases. IsTreeOf edges targets x.weight bases) (same_bases (leads_in x.leads) (leads_in y.leads) heard.sets heard.behind) done.tree,
        heard.weight ∙ ap (λ n. x.weight + n) heard_is,
      );
      singles = (x.singles.items, done.singles, heard.singles ∙ sym (ap (λ b. with_heard_if b o times x.singles.items) asked));
      sum = heard.sum;
      offered = carried (λ b. (handle : ℕ) → base_handle b ≡ Some handle → (e : Edge) × Contains edges e × (e.via ≡ via.Base handle)) (leads_in x.leads) (leads_in y.leads) heard.sets heard.behind done.offered;
      named = λ there. heard.named there (done.named there);
    }

    pub heard_leads : (image : Option (List ℕ)) (r : Result Retrieved RecordFault) → IfOk r (HasMessages names o image recent times x) → IfOk r (LeadsToInstants names recent edges o targets times cols)
    heard_leads image (Ok y) heard = heard_leads_in image y heard
    heard_leads image (Err f) heard = tt

    pub heard_over : (z : History) (image : List ℕ) (now : List Element) (told : Option (List ℕ)) (before middle after : ℕ) (r : Result Retrieved RecordFault) → IsOver z image o names now recent
        → RetrievesOver z now edges cols targets times before middle (Ok x) → IfOk r (HasMessages names o told recent times x) → HearsOver z times x r → TakesHeard o times middle after r
        → LeadsOver z now edges o targets times cols before after r
    heard_over z image now told before middle after r is over heard hears takes = record {
      graphs = graphs r hears.graphs;
      takes = taken r heard takes.takes;
      most = λ grafts tree.
          subst (λ n. TakesAtMost (tree_weight (arcs_of edges) grafts + n) before after) heard_is
          (most_both (tree_weight (arcs_of edges) grafts) (heard_bytes o times) before middle after (over.most grafts tree) takes.most);
      never = never r hears.never;
    }
      where
        set : IsSet now
        set = subst IsSet (sym is.now) (IsSet-replay_from (events_of z) [] tt)

        graphs : (r : Result Retrieved RecordFault)
            → IfOk r (λ y. (now : List Element) (held : ℕ → List Element) (cols : Columns) → cols.transient ≡ true → All (λ (l : GraphLead). IsSet (begun_with now held l.begins)) (leads_in x.leads)
            → map (led_to now held cols) (leads_in x.leads) ≡ graphs_at z times cols → map (led_to now held cols) (leads_in y.leads) ≡ shown_with_messages z times cols)
            → IfOk r (λ y. (held : ℕ → List Element) → AreHeld z edges cols held → ArePoints z targets times → map (led_to now held cols) (leads_in y.leads) ≡ shown_with_messages z times cols)
        graphs (Ok y) come = λ held are points. come now held cols asked (begun_sets z now held edges cols set are (leads_in x.leads) done.offered) (over.graphs held are points)
        graphs (Err f) come = tt

        taken : (r : Result Retrieved RecordFault) → IfOk r (HasMessages names o told recent times x) → IfOk r (λ y. Takes (heard_bytes o times) middle after) → IfOk r (λ y. Takes y.weight before after)
        taken (Ok y) heard takes = takes_both x.weight (heard_bytes o times) y.weight before middle after heard.weight over.takes takes
        taken (Err f) heard takes = tt

        never : (r : Result Retrieved RecordFault) → IfErr r IsNoDamage → IfErr r (λ f. ArePoints z targets times → IsNoDamage f)
        never (Ok y) none = tt
        never (Err f) none = λ points. none

    -- a column of messages is damaged, or none is
    pub heard_damage : (image : List ℕ) (r : Result Retrieved RecordFault) → TellsDamage names edges o cols targets image (Ok x) → TellsMessageDamage names o times image r
        → TellsLeadDamage names edges o targets times cols image r
    heard_damage image (Ok y) undamaged tells = (undamaged, λ e. tells)
    heard_damage image (Err f) undamaged tells = inr (asked, undamaged, tells)
