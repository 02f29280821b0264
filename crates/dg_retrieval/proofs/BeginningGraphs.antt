-- The graphs to which the paths of a tree lead over the index of a history.
use Rattle.std.proofs.Common.{◌≡◌, ℕ, List as ListOf, [], ◌∷◌, map, refl, sym, ap, subst, ◌∙◌}
use Rattle.std.specs.List.{AllZip}
use Rattle.dg_fold.specs.declared.part.Part.{Part}
use Rattle.dg_fold.specs.declared.tree.Branch.{Branch}
use Rattle.dg_fold.specs.Ends.{AreLedUntil, Lead, LeadsUntil}
use Rattle.dg_fold.specs.Steps.{paired}
use Rattle.dg_graph.specs.declared.element.Columns.{Columns}
use Rattle.dg_graph.specs.declared.element.Element.{Element}
use Rattle.dg_graph.specs.declared.event.Event.{Event}
use Rattle.dg_graph.specs.Composition.{Delta, applied}
use Rattle.dg_graph.specs.Elements.{shown}
use Rattle.dg_graph.specs.Replay.{replay, replay_at}
use Rattle.dg_history.specs.declared.node.NodeId.{NodeId}
use Rattle.dg_history.specs.declared.node.NodeId.TheVariants as node
use Rattle.dg_history.specs.History.{History, events_of}
use Rattle.dg_index.specs.Hierarchy.{set_of}
use Rattle.dg_index.specs.IndexRecords.{recent_of}
use Rattle.dg_graph.proofs.ExactEvents.{IsSet-replay_from}
use Rattle.dg_plan.specs.declared.edge.Edge.{Edge}
use Rattle.dg_plan.specs.InstantPoint.{point}
use Rattle.dg_plan.specs.Walks.{Graft}
use Rattle.dg_retrieval.specs.declared.graph_lead.Beginning.{Beginning}
use Rattle.dg_retrieval.specs.declared.graph_lead.Beginning.TheVariants as begins
use Rattle.dg_retrieval.specs.Beginnings.{GraphLead, LeadsAs, BeginningStandsFor, begun_with, led_to}
use Rattle.dg_retrieval.specs.Branches.{AreBranches}
use Rattle.dg_retrieval.specs.Retrieval.{AreHeld, ArePoints, graphs_at}
use Rattle.dg_retrieval.proofs.HistoryTreeLaws.{ReachesInstants}

-- the branches lead to the targets
pub ends_are : (edges : ListOf Edge) (targets : ListOf NodeId) (grafts : ListOf (Graft NodeId)) (branches : ListOf Branch) → AreBranches edges targets grafts branches → map (λ (b : Branch). b.to) branches ≡ targets
ends_are edges [] [] [] are = refl
ends_are edges [] [] (b ∷ branches) are = elim are [ ]
ends_are edges [] (x ∷ grafts) branches are = elim are [ ]
ends_are edges (v ∷ targets) [] branches are = elim are [ ]
ends_are edges (v ∷ targets) (x ∷ grafts) [] are = elim are [ ]
ends_are edges (v ∷ targets) (x ∷ grafts) (b ∷ branches) are = λ i. are.0.to i ∷ ends_are edges targets grafts branches are.1 i

-- Over the index of a history with these bases, where along each path to the point of an instant a set that shows what
-- the path begins with comes to what is shown of the graph as of the instant.
module _ (names : ℕ) (z : History) (cols : Columns) (edges : ListOf Edge) (held : ℕ → ListOf Element) (are_held : AreHeld z edges cols held)
    (walk : ListOf Edge) (parts : ListOf Part) (reached : ReachesInstants names z cols walk parts) where
  abbrev recent : ListOf Event
  recent = recent_of z.params (events_of z)

  abbrev now : ListOf Element
  now = replay (events_of z)

  abbrev point_of : ℕ → NodeId
  point_of t = point z.params (events_of z) t

  -- the graph of one lead
  one_led : (t : ℕ) (path : Lead) (lead : GraphLead) → LeadsUntil names recent parts (paired walk parts) (point_of t) t path.begun path.delta → LeadsAs edges path lead
      → led_to now held cols lead ≡ shown (replay_at (events_of z) t) cols
  one_led t path lead led alike = ap (λ (d : Delta). shown (applied d (begun_with now held lead.begins)) cols) alike.delta ∙ by lead.begins alike.begins
    where
      shows : (a b : NodeId) → a ≡ b → shown (set_of z.params (events_of z) a) cols ≡ shown (set_of z.params (events_of z) b) cols
      shows a b is = ap (λ n. shown (set_of z.params (events_of z) n) cols) is

      by : (b : Beginning) → BeginningStandsFor edges path.begun b → shown (applied path.delta (begun_with now held b)) cols ≡ shown (replay_at (events_of z) t) cols
      by begins.Nothing root = reached t path.begun path.delta led [] tt (shows node.Root path.begun (sym root))
      by begins.Now whole = reached t path.begun path.delta led now (IsSet-replay_from (events_of z) [] tt) (shows node.Now path.begun (sym whole))
      by (begins.Base handle) base =
          let set = are_held base.0 handle base.1 base.2 in
          reached t path.begun path.delta led (held handle) set.0 (set.1 ∙ shows base.0.to path.begun base.3)

  -- the graphs of all leads
  all_led : (branches : ListOf Branch) (times : ListOf ℕ) (paths : ListOf Lead) (leads : ListOf GraphLead) → map (λ (b : Branch). b.to) branches ≡ map point_of times
      → AreLedUntil names recent parts (paired walk parts) branches times paths → AllZip (LeadsAs edges) paths leads → map (led_to now held cols) leads ≡ graphs_at z times cols
  all_led [] [] [] [] are led alike = refl
  all_led [] [] [] (g ∷ leads) are led alike = elim alike [ ]
  all_led [] [] (l ∷ paths) leads are led alike = elim led [ ]
  all_led [] (t ∷ times) paths leads are led alike = absurd cc
  all_led (b ∷ branches) [] paths leads are led alike = elim led [ ]
  all_led (b ∷ branches) (t ∷ times) [] leads are led alike = elim led [ ]
  all_led (b ∷ branches) (t ∷ times) (l ∷ paths) [] are led alike = elim alike [ ]
  all_led (b ∷ branches) (t ∷ times) (l ∷ paths) (g ∷ leads) are led alike =
      let here : b.to ≡ point_of t = head_of are in
      let one : led_to now held cols g ≡ shown (replay_at (events_of z) t) cols =
      one_led t l g (subst (λ (n : NodeId). LeadsUntil names recent parts (paired walk parts) n t l.begun l.delta) here led.0) alike.0 in
      let rest : map (led_to now held cols) leads ≡ graphs_at z times cols = all_led branches times paths leads (tail_of are) led.1 alike.1 in
      λ i. one i ∷ rest i
    where
      head_of : {A : Type 0} {x y : A} {xs ys : ListOf A} → x ∷ xs ≡ y ∷ ys → x ≡ y
      head_of is = cc

      tail_of : {A : Type 0} {x y : A} {xs ys : ListOf A} → x ∷ xs ≡ y ∷ ys → xs ≡ ys
      tail_of is = cc

  pub graphs_are : (targets : ListOf NodeId) (grafts : ListOf (Graft NodeId)) (branches : ListOf Branch) (times : ListOf ℕ) (paths : ListOf Lead) (leads : ListOf GraphLead)
      → AreBranches edges targets grafts branches → ArePoints z targets times → AreLedUntil names recent parts (paired walk parts) branches times paths → AllZip (LeadsAs edges) paths leads
      → map (led_to now held cols) leads ≡ graphs_at z times cols
  graphs_are targets grafts branches times paths leads are points led alike = all_led branches times paths leads (ends_are edges targets grafts branches are ∙ points) led alike
