-- The names that records are read with are there, and so are those of what the records, and recent events, compose to.
use Rattle.std.proofs.Common.{◌≡◌, ℕ, Bool, true, false, cond, List, [], ◌∷◌, ◌++◌, map, filter, reverse, Option, Some, None, Result, Ok, Err, refl, sym, ap, subst, ◌∙◌}
use Rattle.std.specs.Prelude.{IfSome}
use Rattle.std.specs.List.{All, AllZip}
use Rattle.std.proofs.lemmas.List.{reverse-append}
use Rattle.std.proofs.lemmas.List.Elements.{All-nil, All-cons, All-head, All-tail, All-append, All-filter}
use Rattle.dg_fold.specs.declared.part.Part.{Part}
use Rattle.dg_fold.specs.declared.tree.Branch.{Branch}
use Rattle.dg_fold.specs.Ends.{AreLedUntil, Lead, last_in, list_part, part_until}
use Rattle.dg_fold.specs.Parts.{Folds, and_then, beside, bytes_in, deltas_in_part, fault_named, is_events, part_column_in, parts_in, record_in, taken_as}
use Rattle.dg_fold.specs.PathIndependence.{taken}
use Rattle.dg_fold.specs.Steps.{PartedStep, part_deltas, step_by, steps_in}
use Rattle.dg_graph.specs.ColumnGrammar.{delta_in, events_in}
use Rattle.dg_graph.specs.Composition.{As_it_was, Delta, In, Out, Says, applied, composition, reversed, says, then_says}
use Rattle.dg_graph.specs.declared.element.Column.{Column}
use Rattle.dg_graph.specs.declared.element.Column.TheVariants as column
use Rattle.dg_graph.specs.declared.element.Columns.{Columns}
use Rattle.dg_graph.specs.declared.element.Element.{Element}
use Rattle.dg_graph.specs.declared.element.Element.TheVariants as element
use Rattle.dg_graph.specs.declared.event.Body.{Body}
use Rattle.dg_graph.specs.declared.event.Body.TheVariants as body
use Rattle.dg_graph.specs.declared.event.Event.{Event}
use Rattle.dg_graph.specs.declared.placed.Placed.{Placed}
use Rattle.dg_graph.specs.Effect.{added_by, forwards, removed_by}
use Rattle.dg_graph.specs.Elements.{asks, column_of, has}
use Rattle.dg_graph.specs.ExactEvents.{effect_of}
use Rattle.dg_graph.specs.Replay.{replay_from}
use Rattle.dg_history.specs.declared.node.Key.{Key}
use Rattle.dg_history.specs.declared.node.NodeId.{NodeId}
use Rattle.dg_history.specs.declared.node.NodeId.TheVariants as node
use Rattle.dg_index.specs.IndexRecords.{Events, Exact, Record}
use Rattle.dg_net.specs.Lists.{counts}
use Rattle.dg_plan.specs.declared.edge.Edge.{Edge}
use Rattle.dg_plan.specs.declared.edge.Via.{Via}
use Rattle.dg_plan.specs.declared.edge.Via.TheVariants as via
use Rattle.dg_plan.specs.declared.edge.Way.{Way}
use Rattle.dg_plan.specs.declared.edge.Way.TheVariants.{Same, Forward, Back}
use Rattle.dg_retrieval.specs.Beginnings.{GraphLead, LeadsAs, begun_with, led_to}
use Rattle.dg_retrieval.specs.NamesThere.{BodyHasNamesThere, EventNamesAreThere, HasNamesThere, NamesAreThere}
use Rattle.dg_retrieval.proofs.NamesRead.{DeltaHasNamesThere, read_delta_there, read_events_there}
use Rattle.dg_retrieval.proofs.NamesMoved.{moved_value}
use Rattle.dg_retrieval.proofs.PutElements.{of_applied, of_filtered, of_one, past_event, past_events}

module _ (names : ℕ) where
  -- ---- events

  added_there : (b : Body) → BodyHasNamesThere names b → IfSome (added_by b) (HasNamesThere names)
  added_there (body.NodeAdded id) f = tt
  added_there (body.NodeRemoved id) f = tt
  added_there (body.EdgeAdded directed id src dst) f = tt
  added_there (body.EdgeRemoved directed id src dst) f = tt
  added_there (body.NodeAttr key id old new) f = moved_value names (HasNamesThere names) (element.NodeAttr id key) new old (λ n h. (f.0, h)) f.2
  added_there (body.EdgeAttr key id old new) f = moved_value names (HasNamesThere names) (element.EdgeAttr id key) new old (λ n h. (f.0, h)) f.2
  added_there (body.Message src dst value) f = tt

  removed_there : (b : Body) → BodyHasNamesThere names b → IfSome (removed_by b) (HasNamesThere names)
  removed_there (body.NodeAdded id) f = tt
  removed_there (body.NodeRemoved id) f = tt
  removed_there (body.EdgeAdded directed id src dst) f = tt
  removed_there (body.EdgeRemoved directed id src dst) f = tt
  removed_there (body.NodeAttr key id old new) f = moved_value names (HasNamesThere names) (element.NodeAttr id key) old new (λ n h. (f.0, h)) f.1
  removed_there (body.EdgeAttr key id old new) f = moved_value names (HasNamesThere names) (element.EdgeAttr id key) old new (λ n h. (f.0, h)) f.1
  removed_there (body.Message src dst value) f = tt

  -- the graph past the event
  pub forwards_there : (set : List Element) (e : Event) → NamesAreThere names set → BodyHasNamesThere names e.body → NamesAreThere names (forwards set e)
  forwards_there = past_event (HasNamesThere names) (BodyHasNamesThere names) added_there

  pub replay_there : (set : List Element) (events : List Event) → NamesAreThere names set → EventNamesAreThere names events → NamesAreThere names (replay_from set events)
  replay_there = past_events (HasNamesThere names) (BodyHasNamesThere names) added_there

  -- what is shown of the graph to which a lead comes
  pub led_there : (now : List Element) (held : ℕ → List Element) (cols : Columns) (lead : GraphLead) → NamesAreThere names lead.delta.plus
      → NamesAreThere names (begun_with now held lead.begins) → NamesAreThere names (led_to now held cols lead)
  led_there now held cols lead puts begun =
      of_filtered (HasNamesThere names) (λ x. asks cols (column_of x)) (applied lead.delta (begun_with now held lead.begins))
      (of_applied (HasNamesThere names) lead.delta (begun_with now held lead.begins) puts begun)

  abbrev EventThere : Event → Type 0
  EventThere e = BodyHasNamesThere names e.body

  -- ---- deltas

  abbrev DeltaThere : Delta → Type 0
  DeltaThere = DeltaHasNamesThere names

  effect_there : (e : Event) → EventThere e → DeltaThere (effect_of e)
  effect_there e f = (of_one (HasNamesThere names) (removed_by e.body) (removed_there e.body f), of_one (HasNamesThere names) (added_by e.body) (added_there e.body f))

  effects_there : (events : List Event) → All EventThere events → All DeltaThere (map effect_of events)
  effects_there [] f = All-nil DeltaThere
  effects_there (e ∷ events) f = All-cons DeltaThere (effect_of e) (map effect_of events) (effect_there e (All-head EventThere e events f)) (effects_there events (All-tail EventThere e events f))

  back_there : (events : List Event) → All EventThere events → All DeltaThere (map (λ e. reversed (effect_of e)) events)
  back_there [] f = All-nil DeltaThere
  back_there (e ∷ events) f =
      let d = effect_there e (All-head EventThere e events f) in
      All-cons DeltaThere (reversed (effect_of e)) (map (λ e. reversed (effect_of e)) events) (d.1, d.0) (back_there events (All-tail EventThere e events f))

  reverse_there : (events : List Event) → All EventThere events → All EventThere (reverse events)
  reverse_there [] f = All-nil EventThere
  reverse_there (e ∷ events) f =
      subst (All EventThere) (sym (reverse-append (e ∷ []) events))
      (All-append EventThere (reverse events) (e ∷ []) (reverse_there events (All-tail EventThere e events f)) (All-cons EventThere e [] (All-head EventThere e events f) (All-nil EventThere)))

  abbrev RecordThere : Record → Type 0
  RecordThere (Events events) = All EventThere events
  RecordThere (Exact d) = DeltaThere d

  taken_there : (way : Way) (until : Option ℕ) (r : Record) → RecordThere r → All DeltaThere (taken way until r)
  taken_there Same until r f = All-nil DeltaThere
  taken_there Forward until (Events events) f = effects_there (filter (counts until) events) (All-filter (counts until) EventThere events f)
  taken_there Forward until (Exact d) f = All-cons DeltaThere d [] f (All-nil DeltaThere)
  taken_there Back until (Events events) f = back_there (reverse events) (reverse_there events f)
  taken_there Back until (Exact d) f = All-cons DeltaThere (reversed d) [] (f.1, f.0) (All-nil DeltaThere)

  -- what they put in together
  composed_there : (list : List Delta) (x : Element) → All DeltaThere list → composition list x ≡ In → HasNamesThere names x
  composed_there [] x f h = absurd cc
  composed_there (d ∷ later) x f h = by (composition later x) h (composed_there later x (All-tail DeltaThere d later f))
    where
      says_in : (a b : Bool) → has d.plus x ≡ a → cond a In (cond b Out As_it_was) ≡ In → HasNamesThere names x
      says_in true b is e = (All-head DeltaThere d later f).1 x is
      says_in false true is e = absurd cc
      says_in false false is e = absurd cc

      by : (w : Says) → then_says (says d x) w ≡ In → (w ≡ In → HasNamesThere names x) → HasNamesThere names x
      by In e next = next refl
      by Out e next = absurd cc
      by As_it_was e next = says_in (has d.plus x) (has d.minus x) refl e

  -- ---- parts

  abbrev AllThere : Result (List Delta) (Key × Column) → Type 0
  AllThere r = (list : List Delta) → r ≡ Ok list → All DeltaThere list

  record_there : (b : Bool) (col : Column) (bytes : List ℕ) (r : Record) → record_in names b col bytes ≡ Ok r → RecordThere r
  record_there true col bytes r e = by (events_in col names bytes) refl e
    where
      by : (s : Result (List Placed) ℕ) → events_in col names bytes ≡ s → and_then s (λ (placed : List Placed). Ok (Events (map (λ (p : Placed). p.event) placed))) ≡ Ok r → RecordThere r
      by (Err x) is h = absurd cc
      by (Ok placed) is h = let s : Events (map (λ (p : Placed). p.event) placed) ≡ r = cc in subst RecordThere s (read_events_there names col bytes placed is)
  record_there false col bytes r e = by (delta_in col names bytes) refl e
    where
      by : (s : Result Delta ℕ) → delta_in col names bytes ≡ s → and_then s (λ (d : Delta). Ok (Exact d)) ≡ Ok r → RecordThere r
      by (Err x) is h = absurd cc
      by (Ok d) is h = let s : Exact d ≡ r = cc in subst RecordThere s (read_delta_there names col bytes d is)

  column_there : (p : Part) (col : Column) → AllThere (part_column_in names p col)
  column_there p col list e = by (record_in names (is_events p.key) col (bytes_in p.bytes col)) refl e
    where
      by : (s : Result Record ℕ) → record_in names (is_events p.key) col (bytes_in p.bytes col) ≡ s
          → fault_named {G = Key × Column} (λ (offset : ℕ). (p.key, col)) (and_then s (λ (r : Record). Ok (taken p.way p.until r))) ≡ Ok list → All DeltaThere list
      by (Err x) is h = absurd cc
      by (Ok r) is h =
          let s : taken p.way p.until r ≡ list = cc in
          subst (All DeltaThere) s (taken_there p.way p.until r (record_there (is_events p.key) col (bytes_in p.bytes col) r is))

  both_there : (a b : Result (List Delta) (Key × Column)) → AllThere a → AllThere b → AllThere (beside a b)
  both_there (Err x) b f g list e = absurd cc
  both_there (Ok xs) (Err y) f g list e = absurd cc
  both_there (Ok xs) (Ok ys) f g list e = let s : xs ++ ys ≡ list = cc in subst (All DeltaThere) s (All-append DeltaThere xs ys (f xs refl) (g ys refl))

  parts_there : (parts : List Part) → AllThere (parts_in names parts)
  parts_there [] list e = let s : [] ≡ list = cc in subst (All DeltaThere) s (All-nil DeltaThere)
  parts_there (p ∷ parts) list e =
      both_there (deltas_in_part names p) (parts_in names parts)
      (both_there (part_column_in names p column.Structure) (beside (part_column_in names p column.NodeAttr) (part_column_in names p column.EdgeAttr)) (column_there p column.Structure)
      (both_there (part_column_in names p column.NodeAttr) (part_column_in names p column.EdgeAttr) (column_there p column.NodeAttr) (column_there p column.EdgeAttr)))
      (parts_there parts) list e

  -- what they compose to puts in names that are there
  folds_there : (due : Result (List Delta) (Key × Column)) → AllThere due → (d : Delta) → Folds (Ok d) due → NamesAreThere names d.plus
  folds_there due all d folds x h =
      let put_in : says d x ≡ In = ap (λ (t : Bool). cond t In (cond (has d.minus x) Out As_it_was)) h in
      composed_there folds.0 x (all folds.0 folds.1) (sym (folds.2 x) ∙ put_in)

  pub folded_there : (parts : List Part) (d : Delta) → Folds (Ok d) (parts_in names parts) → NamesAreThere names d.plus
  folded_there parts d folds = folds_there (parts_in names parts) (parts_there parts) d folds

  -- ---- leads

  none_there : AllThere (Ok [])
  none_there list e = let s : [] ≡ list = cc in subst (All DeltaThere) s (All-nil DeltaThere)

  part_there : (p : Part) → AllThere (deltas_in_part names p)
  part_there p =
      both_there (part_column_in names p column.Structure) (beside (part_column_in names p column.NodeAttr) (part_column_in names p column.EdgeAttr)) (column_there p column.Structure)
      (both_there (part_column_in names p column.NodeAttr) (part_column_in names p column.EdgeAttr) (column_there p column.NodeAttr) (column_there p column.EdgeAttr))

  module _ (recent : List Event) (there : EventNamesAreThere names recent) where
    recent_there : (way : Way) (until : Option ℕ) → AllThere (Ok (taken way until (Events recent)))
    recent_there way until list e = let s : taken way until (Events recent) ≡ list = cc in subst (All DeltaThere) s (taken_there way until (Events recent) there)

    named_there : (part : Option Part) → AllThere (part_deltas names part)
    named_there None = none_there
    named_there (Some p) = part_there p

    step_there : (v : Via) (part : Option Part) → AllThere (step_by names recent v part)
    step_there via.Now part = none_there
    step_there (via.Base handle) part = none_there
    step_there (via.Paid key way) part = named_there part
    step_there (via.Held key way) part = named_there part
    step_there (via.Recent way) part = recent_there way None

    steps_there : (walk : List PartedStep) → AllThere (steps_in names recent walk)
    steps_there [] = none_there
    steps_there (s ∷ walk) = both_there (step_by names recent s.0.via s.1) (steps_in names recent walk) (step_there s.0.via s.1) (steps_there walk)

    last_there : (parts : List Part) (to : NodeId) (t : ℕ) → AllThere (last_in names recent parts to t)
    last_there parts node.Root t = none_there
    last_there parts node.Now t = none_there
    last_there parts node.Recent t = recent_there Forward (Some t)
    last_there parts (node.Leaf j) t = none_there
    last_there parts (node.List i) t = by (list_part i parts)
      where
        by : (part : Option Part) → AllThere (part_until names t part)
        by None = none_there
        by (Some p) = part_there (taken_as p Forward (Some t))
    last_there parts (node.Inner h j) t = none_there

    -- what leads along a tree's paths puts in names that are there
    pub leads_there : (parts : List Part) (all : List PartedStep) (edges : List Edge) (branches : List Branch) (times : List ℕ) (paths : List Lead) (leads : List GraphLead)
        → AreLedUntil names recent parts all branches times paths → AllZip (LeadsAs edges) paths leads → All (λ (l : GraphLead). NamesAreThere names l.delta.plus) leads
    leads_there parts all edges [] times [] [] led alike = All-nil (λ (l : GraphLead). NamesAreThere names l.delta.plus)
    leads_there parts all edges [] times [] (g ∷ leads) led alike = elim alike [ ]
    leads_there parts all edges [] times (l ∷ paths) leads led alike = elim led [ ]
    leads_there parts all edges (b ∷ branches) [] paths leads led alike = elim led [ ]
    leads_there parts all edges (b ∷ branches) (t ∷ times) [] leads led alike = elim led [ ]
    leads_there parts all edges (b ∷ branches) (t ∷ times) (l ∷ paths) [] led alike = elim alike [ ]
    leads_there parts all edges (b ∷ branches) (t ∷ times) (l ∷ paths) (g ∷ leads) led alike =
        let walk = led.0.0 in
        let puts : NamesAreThere names l.delta.plus =
        folds_there (beside (steps_in names recent walk) (last_in names recent parts b.to t))
        (both_there (steps_in names recent walk) (last_in names recent parts b.to t) (steps_there walk) (last_there parts b.to t)) l.delta led.0.3 in
        All-cons (λ (l : GraphLead). NamesAreThere names l.delta.plus) g leads
        (subst (λ (d : Delta). NamesAreThere names d.plus) (sym alike.0.delta) puts)
        (leads_there parts all edges branches times paths leads led.1 alike.1)
