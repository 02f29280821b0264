-- An image comes to one start.
use Rattle.std.proofs.Common.{◌≡◌, ℕ, List as ListOf, [], ◌∷◌, Option, Some, None, Result, Ok, Err, length, refl, sym, ◌∙◌, ap, subst}
use Rattle.dg_fold.specs.BytesRead.{AreParts, IsPartOf, named_along}
use Rattle.dg_fold.specs.declared.part.Part.{Part}
use Rattle.dg_fold.specs.Parts.{and_then, beside, fault_named, graph_columns, part_column_in, deltas_in_part, parts_in, record_in}
use Rattle.dg_fold.specs.PathIndependence.{taken}
use Rattle.dg_plan.specs.TreePaths.{edges_at}
use Rattle.dg_graph.specs.declared.element.Column.{Column}
use Rattle.dg_graph.specs.declared.element.Column.TheVariants.{Structure, NodeAttr, EdgeAttr}
use Rattle.dg_graph.specs.declared.element.Columns.{Columns}
use Rattle.dg_graph.specs.declared.element.Element.{Element}
use Rattle.dg_graph.specs.declared.event.Event.{Event}
use Rattle.dg_graph.specs.Composition.{Delta}
use Rattle.dg_graph.specs.Graph.{IsGraph}
use Rattle.dg_graph.specs.Replay.{replay_from}
use Rattle.dg_history.specs.declared.node.Key.{Key}
use Rattle.dg_history.specs.declared.node.NodeId.{NodeId}
use Rattle.dg_history.specs.declared.node.NodeId.TheVariants.{Root}
use Rattle.dg_index.specs.declared.entry.Ends.{Ends}
use Rattle.dg_index.specs.IndexRecords.{Record}
use Rattle.dg_index.specs.OpenedIndex.{Unopened, No_index, Not_ours, Damaged_at, Opened, Opening, opening}
use Rattle.dg_plan.specs.declared.edge.Way.{Way}
use Rattle.dg_plan.specs.HistoryGraph.{all_columns}
use Rattle.dg_plan.specs.IndexGraph.{arcs_of}
use Rattle.dg_plan.proofs.WalkPlans.{one_plan}
use Rattle.dg_records.specs.ColumnReads.{ColumnBytes, asked_column, kept_in, is_events}
use Rattle.dg_retrieval.specs.KeptGraph.{record_edges}
use Rattle.dg_retrieval.specs.NodeSets.{IsLedByPlan, set_after}
use Rattle.dg_start.specs.declared.fault.StartFault.{StartFault}
use Rattle.dg_start.specs.declared.fault.StartFault.TheVariants as fault
use Rattle.dg_start.specs.RecentEvents.{events_read, first_wrong_event, recent_in_image}
use Rattle.dg_start.specs.SessionStart.{Bad_event, Bad_piece, Bad_plan, Good, Not_graph, Started, StartsAreDetermined, StartsBy, StartsIndex, first_recent, last_leaf}

-- ---- parts of the same bytes come to the same

module _ (names : ℕ) (bytes : ColumnBytes) (cols : Columns) where
  abbrev column_by : Key → Way → Option ℕ → Column → ListOf ℕ → Result (ListOf Delta) (Key × Column)
  column_by key way until col text =
      fault_named (λ (offset : ℕ). (key, col)) (and_then (record_in names (is_events key) col text) (λ (r : Record). Ok (taken way until r)))

  column_is : (n : Key × Way) (p : Part) → IsPartOf bytes cols n p → (col : Column) → part_column_in names p col ≡ column_by n.0 n.1 None col (asked_column bytes (graph_columns cols) n.0 col)
  column_is n p is col = λ i. column_by (is.key i) (is.way i) (is.until i) col (is.columns col i)

  part_is : (n : Key × Way) (p q : Part) → IsPartOf bytes cols n p → IsPartOf bytes cols n q → deltas_in_part names p ≡ deltas_in_part names q
  part_is n p q a b =
      let one : (col : Column) → part_column_in names p col ≡ part_column_in names q col = λ col. column_is n p a col ∙ sym (column_is n q b col) in
      λ i. beside (one Structure i) (beside (one NodeAttr i) (one EdgeAttr i))

  parts_are : (all : ListOf (Key × Way)) (ps qs : ListOf Part) → AreParts bytes cols all ps → AreParts bytes cols all qs → parts_in names ps ≡ parts_in names qs
  parts_are [] [] [] a b = refl
  parts_are [] [] (q ∷ qs) a b = absurd b
  parts_are [] (p ∷ ps) qs a b = absurd a
  parts_are (n ∷ all) [] qs a b = absurd a
  parts_are (n ∷ all) (p ∷ ps) [] a b = absurd b
  parts_are (n ∷ all) (p ∷ ps) (q ∷ qs) a b = λ i. beside (part_is n p q a.0 b.0 i) (parts_are all ps qs a.1 b.1 i)

-- a plan comes to one set, or to one damage
led_once : (names : ℕ) (image : ListOf ℕ) (o : Opening) (node : NodeId) (a b : Result (ListOf Element) (Key × Column)) → IsLedByPlan names image o node a → IsLedByPlan names image o node b → a ≡ b
led_once names image o node a b f g =
    let same : f.0 ≡ g.0 = one_plan (arcs_of (record_edges o)) (Root ∷ []) node f.0 g.0 f.1 g.1 in
    let there : AreParts (kept_in image o) all_columns (named_along (edges_at (record_edges o) g.0)) f.2 =
    subst (λ (steps : ListOf ℕ). AreParts (kept_in image o) all_columns (named_along (edges_at (record_edges o) steps)) f.2) same f.3 in
    f.4 ∙ ap set_after (parts_are names (kept_in image o) all_columns (named_along (edges_at (record_edges o) g.0)) f.2 g.2 there g.3) ∙ sym g.4

-- ---- starts

module _ (image : ListOf ℕ) (x : Opened) where
  abbrev Pairs : Type 0
  Pairs = ListOf (Ends × Event)

  abbrev Due : Type 0
  Due = Result (Option Started) StartFault

  abbrev Read : Result Pairs StartFault → Type 0
  Read r = recent_in_image image (length x.names) x.index ≡ r

  abbrev Led : Result (ListOf Element) (Key × Column) → Type 0
  Led r = IsLedByPlan (length x.names) image x.index (last_leaf x.index) r

  -- what was read is one
  read_once : (a b : Pairs) → Read (Ok a) → Read (Ok b) → a ≡ b
  read_once a b f g = cc

  -- so is the set, and none is where there is damage
  set_once : (a b : ListOf Element) → Led (Ok a) → Led (Ok b) → a ≡ b
  set_once a b f g = let e = led_once (length x.names) image x.index (last_leaf x.index) (Ok a) (Ok b) f g in cc

  set_or_damage : (a : ListOf Element) (d : Key × Column) → Led (Ok a) → Led (Err d) → ⊥
  set_or_damage a d f g = let e = led_once (length x.names) image x.index (last_leaf x.index) (Ok a) (Err d) f g in cc

  piece : (f : StartFault) → Read (Err f) → (due : Due) → StartsIndex image x due → Err f ≡ due
  piece f e due (Bad_piece g e') = (let s : f ≡ g = cc in ap (λ (y : StartFault). Err y) s)
  piece f e due (Bad_plan pairs e' key col l) = cc
  piece f e due (Not_graph pairs e' set l none) = cc
  piece f e due (Bad_event pairs e' set l graph n wrong) = cc
  piece f e due (Good pairs e' set l graph right) = cc

  plan : (pairs : Pairs) → Read (Ok pairs) → (key : Key) (col : Column) → Led (Err (key, col)) → (due : Due) → StartsIndex image x due → Err (fault.BadRecord key col) ≡ due
  plan pairs e key col l due (Bad_piece g e') = cc
  plan pairs e key col l due (Bad_plan others e' key' col' l') =
      let first : Key × Column = (key, col) in
      let second : Key × Column = (key', col') in
      let s : first ≡ second = (let t = led_once (length x.names) image x.index (last_leaf x.index) (Err first) (Err second) l l' in cc) in
      (λ i. Err (fault.BadRecord (s i).0 (s i).1))
  plan pairs e key col l due (Not_graph others e' set l' none) = absurd (set_or_damage set (key, col) l' l)
  plan pairs e key col l due (Bad_event others e' set l' graph n wrong) = absurd (set_or_damage set (key, col) l' l)
  plan pairs e key col l due (Good others e' set l' graph right) = absurd (set_or_damage set (key, col) l' l)

  module _ (pairs : Pairs) (e : Read (Ok pairs)) (set : ListOf Element) (l : Led (Ok set)) where
    no_graph : (IsGraph set → ⊥) → (due : Due) → StartsIndex image x due → Err fault.NotGraph ≡ due
    no_graph none due (Bad_piece g e') = cc
    no_graph none due (Bad_plan others e' key col l') = absurd (set_or_damage set (key, col) l l')
    no_graph none due (Not_graph others e' set' l' none') = refl
    no_graph none due (Bad_event others e' set' l' graph n wrong) = absurd (none (subst IsGraph (set_once set' set l' l) graph))
    no_graph none due (Good others e' set' l' graph right) = absurd (none (subst IsGraph (set_once set' set l' l) graph))

    wrong_is : (others : Pairs) → Read (Ok others) → (set' : ListOf Element) → Led (Ok set')
        → first_wrong_event x.names (first_recent x.index) set pairs ≡ first_wrong_event x.names (first_recent x.index) set' others
    wrong_is others e' set' l' = λ i. first_wrong_event x.names (first_recent x.index) (set_once set set' l l' i) (read_once pairs others e e' i)

    event : IsGraph set → (n : ℕ) → first_wrong_event x.names (first_recent x.index) set pairs ≡ Some n → (due : Due) → StartsIndex image x due → Err (fault.BadRecent n) ≡ due
    event graph n wrong due (Bad_piece g e') = cc
    event graph n wrong due (Bad_plan others e' key col l') = absurd (set_or_damage set (key, col) l l')
    event graph n wrong due (Not_graph others e' set' l' none) = absurd (none (subst IsGraph (set_once set set' l l') graph))
    event graph n wrong due (Bad_event others e' set' l' graph' m wrong') =
        let s : Some n ≡ Some m = sym wrong ∙ wrong_is others e' set' l' ∙ wrong' in
        let t : n ≡ m = cc in ap (λ (k : ℕ). Err (fault.BadRecent k)) t
    event graph n wrong due (Good others e' set' l' graph' right) =
        let s : Some n ≡ None = sym wrong ∙ wrong_is others e' set' l' ∙ right in cc

    good : IsGraph set → first_wrong_event x.names (first_recent x.index) set pairs ≡ None → (due : Due) → StartsIndex image x due
        → Ok (Some (record { opened = x; graph = replay_from set (events_read pairs); recent = events_read pairs })) ≡ due
    good graph right due (Bad_piece g e') = cc
    good graph right due (Bad_plan others e' key col l') = absurd (set_or_damage set (key, col) l l')
    good graph right due (Not_graph others e' set' l' none) = absurd (none (subst IsGraph (set_once set set' l l') graph))
    good graph right due (Bad_event others e' set' l' graph' m wrong') =
        let s : Some m ≡ None = sym wrong' ∙ sym (wrong_is others e' set' l') ∙ right in cc
    good graph right due (Good others e' set' l' graph' right') =
        (λ i. Ok (Some (record { opened = x; graph = replay_from (set_once set set' l l' i) (events_read (read_once pairs others e e' i)); recent = events_read (read_once pairs others e e' i) })))

  index_once : (a b : Due) → StartsIndex image x a → StartsIndex image x b → a ≡ b
  index_once a b (Bad_piece f e) s = piece f e b s
  index_once a b (Bad_plan pairs e key col l) s = plan pairs e key col l b s
  index_once a b (Not_graph pairs e set l none) s = no_graph pairs e set l none b s
  index_once a b (Bad_event pairs e set l graph n wrong) s = event pairs e set l graph n wrong b s
  index_once a b (Good pairs e set l graph right) s = good pairs e set l graph right b s

once : (image : ListOf ℕ) (r : Result Opened Unopened) (a b : Result (Option Started) StartFault) → StartsBy image r a → StartsBy image r b → a ≡ b
once image (Ok x) a b s t = index_once image x a b s t
once image (Err No_index) a b s t = s ∙ sym t
once image (Err Not_ours) a b s t = s ∙ sym t
once image (Err (Damaged_at offset)) a b s t = s ∙ sym t

pub starts_are_determined : StartsAreDetermined
starts_are_determined image a b s t = once image (opening image) a b s t
