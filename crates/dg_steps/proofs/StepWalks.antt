-- Walks over the records of an index, with their parts: what the parts compose to leads from the set of the one end to that
-- of the other, and by the way back.
use Rattle.std.proofs.Common.{◌≡◌, ◌<◌, ◌^◌, ℕ, Bool, true, cond, List, [], ◌∷◌, ◌++◌, Option, None, Result, Ok, refl, sym, ap, subst, ◌∙◌, inl, inr}
use Rattle.std.specs.List.{flat_map}
use Rattle.std.proofs.lemmas.Bool.{false≢true}
use Rattle.dg_graph.specs.declared.element.Column.{Column}
use Rattle.dg_graph.specs.declared.element.Column.TheVariants as column
use Rattle.dg_graph.specs.declared.element.Element.{Element}
use Rattle.dg_graph.specs.Composition.{As_it_was, Composes, Delta, Says, applied, composition, then_says}
use Rattle.dg_graph.specs.Elements.{IsSet, asks, column_of}
use Rattle.dg_delta.specs.Deltas.{applied_in_turn}
use Rattle.dg_delta.proofs.Deltas.{applies_each_in_turn, can_be_cut, in_turn-append}
use Rattle.dg_history.specs.declared.node.Key.{Key}
use Rattle.dg_history.specs.declared.node.NodeId.{NodeId}
use Rattle.dg_history.specs.declared.node.NodeId.TheVariants.{Root}
use Rattle.dg_index.specs.IndexRecords.{Record}
use Rattle.dg_plan.specs.declared.edge.Via.{Via}
use Rattle.dg_plan.specs.declared.edge.Via.TheVariants as via
use Rattle.dg_plan.specs.declared.edge.Way.{Way}
use Rattle.dg_plan.specs.HistoryGraph.{all_columns}
use Rattle.dg_fold.specs.declared.part.Part.{Part}
use Rattle.dg_fold.specs.Parts.{Folds, beside, taken_as}
use Rattle.dg_fold.specs.PathIndependence.{Contents, DeltasLead, taken, via_deltas}
use Rattle.dg_fold.specs.Steps.{PartHolds, PartedStep, StepHolds, names_record, part_deltas, step_by, steps_in}
use Rattle.dg_fold.specs.Trees.{IsStepOf, PathIn}
use Rattle.dg_fold.specs.Trees.PathIn.{Begins_at_root, Steps_on}
use Rattle.dg_fold.proofs.PartColumns.{parts_are_read}
use Rattle.dg_steps.specs.TreeSteps.{GoApart, turned, turned_part, turned_via, turned_way, walk_over, way_back}
use Rattle.dg_steps.proofs.RecordEdges.{LeadsBothWays, turned_leads}

-- ---- walks

-- what holds of each step
abbrev pub Each : (PartedStep → Type 0) → List PartedStep → Type 0
Each P [] = Unit {0}
Each P (s ∷ walk) = P s × Each P walk

each_both : (P : PartedStep → Type 0) (xs ys : List PartedStep) → Each P xs → Each P ys → Each P (xs ++ ys)
each_both P [] ys f g = g
each_both P (s ∷ xs) ys f g = (f.0, each_both P xs ys f.1 g)

each_behind : (P : PartedStep → Type 0) (xs ys : List PartedStep) → Each P (xs ++ ys) → Each P ys
each_behind P [] ys f = f
each_behind P (s ∷ xs) ys f = each_behind P xs ys f.1

-- each step leaves the node that the one before it enters
abbrev pub Chained : NodeId → List PartedStep → NodeId → Type 0
Chained a [] b = a ≡ b
Chained a (s ∷ walk) b = (s.0.from ≡ a) × Chained s.0.to walk b

chained_on : (xs ys : List PartedStep) (a b c : NodeId) → Chained a xs b → Chained b ys c → Chained a (xs ++ ys) c
chained_on [] ys a b c f g = subst (λ n. Chained n ys c) (sym f) g
chained_on (s ∷ xs) ys a b c f g = (f.0, chained_on xs ys s.0.to b c f.1 g)

chained_cut : (xs ys : List PartedStep) (a c : NodeId) → Chained a (xs ++ ys) c → (b : NodeId) × Chained a xs b × Chained b ys c
chained_cut [] ys a c f = (a, refl, f)
chained_cut (s ∷ xs) ys a c f = (let rest = chained_cut xs ys s.0.to c f.1 in (rest.0, (f.0, rest.1), rest.2))

one_end : (xs : List PartedStep) (a b c : NodeId) → Chained a xs b → Chained a xs c → b ≡ c
one_end [] a b c f g = sym f ∙ g
one_end (s ∷ xs) a b c f g = one_end xs s.0.to b c f.1 g.1

chained_back : (walk : List PartedStep) (a b : NodeId) → Chained a walk b → Chained b (way_back walk) a
chained_back [] a b f = sym f
chained_back (s ∷ walk) a b f =
    chained_on (way_back walk) (turned s ∷ []) b s.0.to a (chained_back walk s.0.to b f.1) (refl, f.0)

path_chained : (all : List PartedStep) (v : NodeId) (path : List PartedStep) → PathIn all v path → Chained Root path v
path_chained all v path Begins_at_root = refl
path_chained all v path (Steps_on s before among rest) =
    chained_on before (s ∷ []) Root s.0.from s.0.to (path_chained all s.0.from before rest) (refl, refl)

path_each : (P : PartedStep → Type 0) (all : List PartedStep) → ((s : PartedStep) → IsStepOf s all → P s) → (v : NodeId) (path : List PartedStep) → PathIn all v path → Each P path
path_each P all each v path Begins_at_root = tt
path_each P all each v path (Steps_on s before among rest) =
    each_both P before (s ∷ []) (path_each P all each s.0.from before rest) (each s among, tt)

-- ---- the walk between two nodes

-- it goes from the one to the other
pub over_chained : (all : List PartedStep) (u v : NodeId) (to_u to_v : List PartedStep) → GoApart all u v to_u to_v → Chained u (walk_over to_u to_v) v
over_chained all u v to_u to_v apart =
    let first = chained_cut apart.shared to_u Root u (path_chained all u (apart.shared ++ to_u) apart.path_u) in
    let second = chained_cut apart.shared to_v Root v (path_chained all v (apart.shared ++ to_v) apart.path_v) in
    let same : second.0 ≡ first.0 = one_end apart.shared Root second.0 first.0 second.1 first.1 in
    chained_on (way_back to_u) to_v u first.0 v (chained_back to_u first.0 u first.2) (subst (λ n. Chained n to_v v) same second.2)

pub apart_swapped : (all : List PartedStep) (u v : NodeId) (to_u to_v : List PartedStep) → GoApart all u v to_u to_v → GoApart all v u to_v to_u
apart_swapped all u v to_u to_v apart = record { shared = apart.shared; path_u = apart.path_v; path_v = apart.path_u }

-- ---- what the steps come to

all_asked : (c : Column) → asks all_columns c ≡ true
all_asked column.Structure = refl
all_asked column.NodeAttr = refl
all_asked column.EdgeAttr = refl
all_asked column.Transient = refl

-- The step takes a record that leads both ways, with a part that holds all its columns.
pub record IsRecordStep (names : ℕ) (x : Contents) (s : PartedStep) : Type 0 where
  pub edge : LeadsBothWays x s.0
  pub part : StepHolds names all_columns x s.0.via s.1

module _ (names : ℕ) (few : names < 2 ^ 32) (x : Contents) where
  abbrev Step : PartedStep → Type 0
  Step s = IsRecordStep names x s

  part_turned : (r : Record) (way : Way) (part : Option Part) → PartHolds names all_columns r way part → PartHolds names all_columns r (turned_way way) (turned_part part)
  part_turned r way part h = (
    taken_as h.0 (turned_way h.0.way) h.0.until,
    ap turned_part h.1,
    ap turned_way h.2,
    h.3,
    record { kind = h.4.kind; bytes = h.4.bytes },
    h.5,
  )

  via_turned : (v : Via) (part : Option Part) → StepHolds names all_columns x v part → StepHolds names all_columns x (turned_via v) (turned_part part)
  via_turned via.Now part h = tt
  via_turned (via.Base handle) part h = tt
  via_turned (via.Paid k way) part h = part_turned (x.record_of k) way part h
  via_turned (via.Held k way) part h = part_turned (x.record_of k) way part h
  via_turned (via.Recent way) part h = tt

  step_turned : (s : PartedStep) → Step s → Step (turned s)
  step_turned s h = record { edge = turned_leads x s.0 h.edge; part = via_turned s.0.via s.1 h.part }

  back_each : (walk : List PartedStep) → Each Step walk → Each Step (way_back walk)
  back_each [] h = tt
  back_each (s ∷ walk) h = each_both Step (way_back walk) (turned s ∷ []) (back_each walk h.1) (step_turned s h.0, tt)

  pub over_each : (all : List PartedStep) → ((s : PartedStep) → IsStepOf s all → Step s) → (u v : NodeId) (to_u to_v : List PartedStep) → GoApart all u v to_u to_v
      → Each Step (walk_over to_u to_v)
  over_each all each u v to_u to_v apart =
      let first = path_each Step all each u (apart.shared ++ to_u) apart.path_u in
      let second = path_each Step all each v (apart.shared ++ to_v) apart.path_v in
      each_both Step (way_back to_u) to_v (back_each to_u (each_behind Step apart.shared to_u first)) (each_behind Step apart.shared to_v second)

  -- the deltas of the records
  abbrev deltas_along : List PartedStep → List Delta
  deltas_along walk = flat_map (λ (s : PartedStep). via_deltas x s.0.via) walk

  -- what is read says of each element what these deltas say
  abbrev Reads : Result (List Delta) (Key × Column) → List Delta → Type 0
  Reads due deltas = (list : List Delta) × (due ≡ Ok list) × ((y : Element) → composition list y ≡ composition deltas y)

  part_reads : (r : Record) (way : Way) (part : Option Part) → PartHolds names all_columns r way part → Reads (part_deltas names part) (taken way None r)
  part_reads r way part h =
      let read = parts_are_read names few all_columns r h.5 h.0 h.4 in (
        read.0,
        ap (part_deltas names) h.1 ∙ read.1,
        λ y. read.2 y ∙ (λ i. word_of y (all_asked (column_of y) i) (h.2 i) (h.3 i)),
      )
    where
      word_of : (y : Element) (b : Bool) (way : Way) (until : Option ℕ) → Says
      word_of y b way until = cond b (composition (taken way until r) y) As_it_was

  step_reads : (v : Via) (part : Option Part) → names_record v ≡ true → StepHolds names all_columns x v part → Reads (step_by names [] v part) (via_deltas x v)
  step_reads via.Now part takes h = absurd (false≢true takes)
  step_reads (via.Base handle) part takes h = absurd (false≢true takes)
  step_reads (via.Paid k way) part takes h = part_reads (x.record_of k) way part h
  step_reads (via.Held k way) part takes h = part_reads (x.record_of k) way part h
  step_reads (via.Recent way) part takes h = absurd (false≢true takes)

  pub walk_reads : (walk : List PartedStep) → Each Step walk → Reads (steps_in names [] walk) (deltas_along walk)
  walk_reads [] h = ([], refl, λ y. refl)
  walk_reads (s ∷ walk) h =
      let one = step_reads s.0.via s.1 h.0.edge.takes h.0.part in
      let rest = walk_reads walk h.1 in (
        one.0 ++ rest.0,
        (λ i. beside (one.1 i) (rest.1 i)),
        λ y. can_be_cut one.0 rest.0 y ∙ (λ i. then_says (one.2 y i) (rest.2 y i)) ∙ sym (can_be_cut (via_deltas x s.0.via) (deltas_along walk) y),
      )

  -- so nothing is damaged along all steps
  pub all_read : (all : List PartedStep) → ((s : PartedStep) → IsStepOf s all → Step s) → (list : List Delta) × (steps_in names [] all ≡ Ok list)
  all_read all each = (let read = walk_reads all (each_of all each) in (read.0, read.1))
    where
      each_of : (some : List PartedStep) → ((s : PartedStep) → IsStepOf s some → Step s) → Each Step some
      each_of [] each = tt
      each_of (s ∷ some) each = (each s (inl refl), each_of some (λ t at. each t (inr at)))

  deltas_lead : (walk : List PartedStep) (a b : NodeId) → Each Step walk → Chained a walk b → DeltasLead (deltas_along walk) (x.set a) (x.set b)
  deltas_lead [] a b h on = ap x.set on
  deltas_lead (s ∷ walk) a b h on =
      in_turn-append (via_deltas x s.0.via) (deltas_along walk) (x.set a)
      ∙ ap (λ n. applied_in_turn (deltas_along walk) (applied_in_turn (via_deltas x s.0.via) (x.set n))) (sym on.0)
      ∙ ap (applied_in_turn (deltas_along walk)) h.0.edge.on
      ∙ deltas_lead walk s.0.to b h.1 on.1

  -- what the parts of a walk compose to leads from the set of its one end to that of the other
  pub walk_leads : (walk : List PartedStep) (a b : NodeId) → IsSet (x.set a) → Each Step walk → Chained a walk b
      → (d : Delta) → Folds (Ok d) (steps_in names [] walk) → applied d (x.set a) ≡ x.set b
  walk_leads walk a b set h on d folds =
      let read = walk_reads walk h in
      let same : folds.0 ≡ read.0 = (let is = sym folds.1 ∙ read.1 in cc) in
      let composes : Composes d (deltas_along walk) = λ y. folds.2 y ∙ ap (λ l. composition l y) same ∙ read.2 y in
      applies_each_in_turn d (deltas_along walk) (x.set a) composes set ∙ deltas_lead walk a b h on
