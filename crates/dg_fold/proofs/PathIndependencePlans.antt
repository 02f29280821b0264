-- Path independence over the parts of a plan.
use Rattle.std.proofs.Common.{◌≡◌, ◌<◌, ◌^◌, ℕ, true, cond, List, [], ◌∷◌, ◌++◌, map, Option, Some, None, Result, Ok, refl, sym, ap, subst, ◌∙◌}
use Rattle.std.specs.List.{All}
use Rattle.std.proofs.lemmas.List.Elements.{All-head, All-tail}
use Rattle.dg_graph.specs.declared.element.Column.{Column}
use Rattle.dg_graph.specs.declared.element.Columns.{Columns}
use Rattle.dg_graph.specs.declared.element.Element.{Element}
use Rattle.dg_graph.specs.declared.event.Event.{Event}
use Rattle.dg_history.specs.declared.node.Key.{Key}
use Rattle.dg_graph.specs.Composition.{Delta, As_it_was, then_says, composition}
use Rattle.dg_graph.specs.Elements.{asks, column_of}
use Rattle.dg_delta.proofs.Deltas.{can_be_cut}
use Rattle.dg_fold.specs.declared.part.Part.{Part}
use Rattle.dg_plan.specs.declared.edge.Via.{Via}
use Rattle.dg_plan.specs.declared.edge.Via.TheVariants as via
use Rattle.dg_plan.specs.declared.edge.Way.{Way}
use Rattle.dg_index.specs.IndexRecords.{Record, Events}
use Rattle.dg_fold.specs.PathIndependence.{taken, forward, Contents, via_deltas, walk_deltas}
use Rattle.dg_fold.specs.Parts.{beside, deltas_in_part, PartHasRecord, RecordFits}
use Rattle.dg_fold.specs.Steps.{PartedStep, part_deltas, step_by, steps_in, PartHolds, StepHolds, FoldGoesOn, By_part, By_events, PlansLead, PlansReach}
use Rattle.dg_fold.proofs.PartColumns.{parts_are_read}
use Rattle.dg_fold.proofs.PathIndependenceWalks.{walks_lead, instants_are_reached}

-- the deltas that are read say, in the columns that are asked for, what these say
abbrev pub Agrees : Columns → Result (List Delta) (Key × Column) → List Delta → Type 0
Agrees cols due all =
    (list : List Delta) × (due ≡ Ok list) × ((x : Element) → asks cols (column_of x) ≡ true → composition list x ≡ composition all x)

agrees_itself : (cols : Columns) (list : List Delta) → Agrees cols (Ok list) list
agrees_itself cols list = (list, refl, λ x asked. refl)

agrees_both : (cols : Columns) (a b : Result (List Delta) (Key × Column)) (xs ys : List Delta) → Agrees cols a xs → Agrees cols b ys → Agrees cols (beside a b) (xs ++ ys)
agrees_both cols a b xs ys f g = (
  f.0 ++ g.0,
  (λ i. beside (f.1 i) (g.1 i)),
  λ x asked.
      can_be_cut f.0 g.0 x
      ∙ (λ i. then_says (f.2 x asked i) (g.2 x asked i))
      ∙ sym (can_be_cut xs ys x),
)

-- a part that holds a record
part_agrees : (names : ℕ) → names < 2 ^ 32 → (cols : Columns) (r : Record) → RecordFits names r → (p : Part) → PartHasRecord cols r p → Agrees cols (deltas_in_part names p) (taken p.way p.until r)
part_agrees names few cols r fits p h =
    let read = parts_are_read names few cols r fits p h in (
      read.0,
      read.1,
      λ x asked. read.2 x ∙ ap (λ b. cond b (composition (taken p.way p.until r) x) As_it_was) asked,
    )

held_agrees : (names : ℕ) → names < 2 ^ 32 → (cols : Columns) (r : Record) (w : Way) (part : Option Part) → PartHolds names cols r w part → Agrees cols (part_deltas names part) (taken w None r)
held_agrees names few cols r w part h =
    let at = part_agrees names few cols r h.5 h.0 h.4 in
    subst (λ o. Agrees cols (part_deltas names o) (taken w None r)) (sym h.1)
    (subst (λ v. Agrees cols (deltas_in_part names h.0) (taken v None r)) h.2
    (subst (λ u. Agrees cols (deltas_in_part names h.0) (taken h.0.way u r)) h.3 at))

step_agrees : (names : ℕ) → names < 2 ^ 32 → (cols : Columns) (x : Contents) (v : Via) (part : Option Part) → StepHolds names cols x v part
    → Agrees cols (step_by names x.recent v part) (via_deltas x v)
step_agrees names few cols x via.Now part h = agrees_itself cols []
step_agrees names few cols x (via.Base handle) part h = agrees_itself cols []
step_agrees names few cols x (via.Paid key way) part h = held_agrees names few cols (x.record_of key) way part h
step_agrees names few cols x (via.Held key way) part h = held_agrees names few cols (x.record_of key) way part h
step_agrees names few cols x (via.Recent way) part h = agrees_itself cols (taken way None (Events x.recent))

steps_agree : (names : ℕ) → names < 2 ^ 32 → (cols : Columns) (x : Contents) (steps : List PartedStep) → All (λ s. StepHolds names cols x s.0.via s.1) steps
    → Agrees cols (steps_in names x.recent steps) (walk_deltas x (map (λ s. s.0) steps))
steps_agree names few cols x [] h = agrees_itself cols []
steps_agree names few cols x (s ∷ steps) h =
    let P = λ (s : PartedStep). StepHolds names cols x s.0.via s.1 in
    agrees_both cols (step_by names x.recent s.0.via s.1) (steps_in names x.recent steps) (via_deltas x s.0.via) (walk_deltas x (map (λ s. s.0) steps))
    (step_agrees names few cols x s.0.via s.1 (All-head P s steps h))
    (steps_agree names few cols x steps (All-tail P s steps h))

pub plans_lead : PlansLead
plans_lead names cols x u steps v plan =
    let agree = steps_agree names plan.names_fit cols x steps plan.parts in (
      agree.0,
      agree.1,
      λ d composes set begins.
          walks_lead x plan.sets (map (λ s. s.0) steps) plan.sound u v plan.walk cols d (λ y asked. composes y ∙ agree.2 y asked) set begins.0 begins.1,
    )

more_agrees : (names : ℕ) → names < 2 ^ 32 → (cols : Columns) (t : ℕ) (next : List Event) (more : Result (List Delta) (Key × Column)) → FoldGoesOn names cols t next more
    → Agrees cols more (forward (Some t) (Events next))
more_agrees names few cols t next more (By_part p way until holds fits) =
    subst (λ w. Agrees cols (deltas_in_part names p) (taken w (Some t) (Events next))) way
    (subst (λ u. Agrees cols (deltas_in_part names p) (taken p.way u (Events next))) until (part_agrees names few cols (Events next) fits p holds))
more_agrees names few cols t next more By_events = agrees_itself cols (forward (Some t) (Events next))

pub plans_reach : PlansReach
plans_reach names cols x u steps v plan first next last t at f l more goes_on =
    let walk = map (λ (s : PartedStep). s.0) steps in
    let agree =
    agrees_both cols (steps_in names x.recent steps) more (walk_deltas x walk) (forward (Some t) (Events next))
    (steps_agree names plan.names_fit cols x steps plan.parts) (more_agrees names plan.names_fit cols t next more goes_on) in (
      agree.0,
      agree.1,
      λ d composes set begins.
          instants_are_reached x plan.sets walk plan.sound u v plan.walk first next last t at f l cols d (λ y asked. composes y ∙ agree.2 y asked) set begins.0 begins.1,
    )
