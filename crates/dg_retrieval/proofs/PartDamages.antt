-- Where what the paths of a tree compose to is damaged, the first damaged part is.
use Rattle.std.proofs.Common.{◌≡◌, ℕ, Bool, true, false, cond, List as ListOf, [], ◌∷◌, ◌++◌, Option, Some, Result, Ok, Err, refl, sym, ap, subst, ◌∙◌, find}
use Rattle.dg_fold.specs.declared.part.Part.{Part}
use Rattle.dg_fold.specs.declared.tree.Branch.{Branch}
use Rattle.dg_fold.specs.BytesRead.{AreParts, ColumnBytes, named_along, named_by}
use Rattle.dg_fold.specs.Ends.{last_in, lasts_in, part_until}
use Rattle.dg_fold.specs.Parts.{and_then, beside, bytes_in, is_events, fault_named, part_column_in, deltas_in_part, parts_in, record_in, taken_as}
use Rattle.dg_fold.specs.PathIndependence.{taken}
use Rattle.dg_fold.specs.Steps.{paired, steps_in}
use Rattle.dg_graph.specs.declared.element.Column.{Column}
use Rattle.dg_graph.specs.declared.element.Column.TheVariants.{Structure, NodeAttr, EdgeAttr}
use Rattle.dg_graph.specs.declared.element.Columns.{Columns}
use Rattle.dg_graph.specs.declared.event.Event.{Event}
use Rattle.dg_graph.specs.Composition.{Delta}
use Rattle.dg_history.specs.declared.node.Key.{Key}
use Rattle.dg_history.specs.declared.node.NodeId.{NodeId}
use Rattle.dg_history.specs.declared.node.NodeId.TheVariants as node
use Rattle.dg_index.specs.IndexRecords.{Record}
use Rattle.dg_plan.specs.declared.edge.Edge.{Edge}
use Rattle.dg_plan.specs.declared.edge.Via.{Via}
use Rattle.dg_plan.specs.declared.edge.Via.TheVariants as via
use Rattle.dg_plan.specs.declared.edge.Way.{Way}
use Rattle.dg_plan.specs.declared.edge.Way.TheVariants.{Forward}

abbrev Deltas : Type 0
Deltas = Result (ListOf Delta) (Key × Column)

-- ---- results

-- there is no fault
abbrev IsWhole : {A F : Type 0} → Result A F → Type 0
IsWhole (Ok x) = Unit {0}
IsWhole (Err f) = ⊥

-- both have the same fault, or none
abbrev SameFault : Deltas → Deltas → Type 0
SameFault (Ok x) (Ok y) = Unit {0}
SameFault (Ok x) (Err g) = ⊥
SameFault (Err f) (Ok y) = ⊥
SameFault (Err f) (Err g) = f ≡ g

same_fault : (a : Deltas) → SameFault a a
same_fault (Ok x) = tt
same_fault (Err f) = refl

both_same : (a b c d : Deltas) → SameFault a b → SameFault c d → SameFault (beside a c) (beside b d)
both_same (Ok x) (Ok y) (Ok u) (Ok v) one other = tt
both_same (Ok x) (Ok y) (Ok u) (Err g) one other = elim other [ ]
both_same (Ok x) (Ok y) (Err f) (Ok v) one other = elim other [ ]
both_same (Ok x) (Ok y) (Err f) (Err g) one other = other
both_same (Ok x) (Err g) c d one other = elim one [ ]
both_same (Err f) (Ok y) c d one other = elim one [ ]
both_same (Err f) (Err g) c d one other = one

-- deltas before it change no fault
behind_same : (xs : ListOf Delta) (c d : Deltas) → SameFault c d → SameFault (beside (Ok xs) c) d
behind_same xs (Ok u) (Ok v) same = tt
behind_same xs (Ok u) (Err g) same = elim same [ ]
behind_same xs (Err f) (Ok v) same = elim same [ ]
behind_same xs (Err f) (Err g) same = same

both_whole : (a b : Deltas) → IsWhole a → IsWhole b → IsWhole (beside a b)
both_whole (Ok x) (Ok y) one other = tt
both_whole (Ok x) (Err g) one other = elim other [ ]
both_whole (Err f) b one other = elim one [ ]

parts_whole : (a b : Deltas) → IsWhole (beside a b) → IsWhole a × IsWhole b
parts_whole (Ok x) (Ok y) whole = (tt, tt)
parts_whole (Ok x) (Err g) whole = elim whole [ ]
parts_whole (Err f) b whole = elim whole [ ]

-- ---- the steps of a walk

module _ (names : ℕ) (recent : ListOf Event) (bytes : ColumnBytes) (cols : Columns) where
  abbrev by_way : Edge → Via → Edge
  by_way e v = record { from = e.from; to = e.to; weight = e.weight; via = v }

  -- along a walk the first damage is that of its parts
  pub steps_same : (walk : ListOf Edge) (parts : ListOf Part) → AreParts bytes cols (named_along walk) parts
      → SameFault (steps_in names recent (paired walk parts)) (parts_in names parts)
  steps_same [] [] are = tt
  steps_same [] (p ∷ parts) are = elim are [ ]
  steps_same (e ∷ walk) parts are = by (λ rest there. steps_same walk rest there) e.via parts are
    where
      by : ((rest : ListOf Part) → AreParts bytes cols (named_along walk) rest → SameFault (steps_in names recent (paired walk rest)) (parts_in names rest))
          → (v : Via) (parts : ListOf Part) → AreParts bytes cols (named_by v ++ named_along walk) parts
          → SameFault (steps_in names recent (paired (by_way e v ∷ walk) parts)) (parts_in names parts)
      by more via.Now parts are = behind_same [] _ _ (more parts are)
      by more (via.Base handle) parts are = behind_same [] _ _ (more parts are)
      by more (via.Paid key way) [] are = elim are [ ]
      by more (via.Paid key way) (p ∷ parts) are = both_same (deltas_in_part names p) (deltas_in_part names p) _ _ (same_fault (deltas_in_part names p)) (more parts are.1)
      by more (via.Held key way) [] are = elim are [ ]
      by more (via.Held key way) (p ∷ parts) are = both_same (deltas_in_part names p) (deltas_in_part names p) _ _ (same_fault (deltas_in_part names p)) (more parts are.1)
      by more (via.Recent way) parts are = behind_same _ _ _ (more parts are)

-- ---- the last events of the paths

record_whole : (r : Result Record ℕ) (f : ℕ → Key × Column) (g h : Record → ListOf Delta) → IsWhole (fault_named f (and_then r (λ (x : Record). Ok (g x)))) → IsWhole (fault_named f (and_then r (λ (x : Record). Ok (h x))))
record_whole (Ok x) f g h whole = tt
record_whole (Err n) f g h whole = elim whole [ ]

column_whole : (names : ℕ) (p : Part) (way : Way) (until : Option ℕ) (col : Column) → IsWhole (part_column_in names p col) → IsWhole (part_column_in names (taken_as p way until) col)
column_whole names p way until col whole =
    record_whole (record_in names (is_events p.key) col (bytes_in p.bytes col)) (λ offset. (p.key, col)) (λ r. taken p.way p.until r) (λ r. taken way until r) whole

-- whether a part is damaged is not a matter of the way in which it is taken
part_whole : (names : ℕ) (p : Part) (way : Way) (until : Option ℕ) → IsWhole (deltas_in_part names p) → IsWhole (deltas_in_part names (taken_as p way until))
part_whole names p way until whole =
    let a = parts_whole (part_column_in names p Structure) (beside (part_column_in names p NodeAttr) (part_column_in names p EdgeAttr)) whole in
    let b = parts_whole (part_column_in names p NodeAttr) (part_column_in names p EdgeAttr) a.1 in
    both_whole (part_column_in names (taken_as p way until) Structure) (beside (part_column_in names (taken_as p way until) NodeAttr) (part_column_in names (taken_as p way until) EdgeAttr))
    (column_whole names p way until Structure a.0)
    (both_whole (part_column_in names (taken_as p way until) NodeAttr) (part_column_in names (taken_as p way until) EdgeAttr) (column_whole names p way until NodeAttr b.0) (column_whole names p way until EdgeAttr b.1))

until_whole : (names t : ℕ) (test : Part → Bool) (parts : ListOf Part) → IsWhole (parts_in names parts) → IsWhole (part_until names t (find test parts))
until_whole names t test [] whole = tt
until_whole names t test (p ∷ parts) whole =
    let both = parts_whole (deltas_in_part names p) (parts_in names parts) whole in
    let rest = until_whole names t test parts both.1 in
    elim (test p) as (λ b. IsWhole (part_until names t (cond b (Some p) (find test parts)))) [ true ↦ part_whole names p Forward (Some t) both.0 | false ↦ rest ]

last_whole : (names : ℕ) (recent : ListOf Event) (parts : ListOf Part) (v : NodeId) (t : ℕ) → IsWhole (parts_in names parts) → IsWhole (last_in names recent parts v t)
last_whole names recent parts node.Root t whole = tt
last_whole names recent parts node.Now t whole = tt
last_whole names recent parts node.Recent t whole = tt
last_whole names recent parts (node.Leaf j) t whole = tt
last_whole names recent parts (node.List i) t whole = until_whole names t _ parts whole
last_whole names recent parts (node.Inner h j) t whole = tt

lasts_whole : (names : ℕ) (recent : ListOf Event) (parts : ListOf Part) (branches : ListOf Branch) (times : ListOf ℕ) → IsWhole (parts_in names parts) → IsWhole (lasts_in names recent parts branches times)
lasts_whole names recent parts [] times whole = tt
lasts_whole names recent parts (b ∷ branches) [] whole = tt
lasts_whole names recent parts (b ∷ branches) (t ∷ times) whole =
    both_whole (last_in names recent parts b.to t) (lasts_in names recent parts branches times) (last_whole names recent parts b.to t whole) (lasts_whole names recent parts branches times whole)

-- ---- the first damage

first_damage : (steps parts lasts : Deltas) (x : Key × Column) → SameFault steps parts → (IsWhole parts → IsWhole lasts) → beside steps lasts ≡ Err x → parts ≡ Err x
first_damage (Ok a) (Ok b) (Ok l) x same whole is = absurd cc
first_damage (Ok a) (Ok b) (Err y) x same whole is = elim (whole tt) [ ]
first_damage (Ok a) (Err y) lasts x same whole is = elim same [ ]
first_damage (Err y) (Ok b) lasts x same whole is = elim same [ ]
first_damage (Err y) (Err z) lasts x same whole is = ap Err (sym same) ∙ is

-- the first damage of what the paths compose to is the first of the parts
pub damage_is : (names : ℕ) (recent : ListOf Event) (bytes : ColumnBytes) (cols : Columns) (walk : ListOf Edge) (parts : ListOf Part) (branches : ListOf Branch) (times : ListOf ℕ) (x : Key × Column)
    → AreParts bytes cols (named_along walk) parts → beside (steps_in names recent (paired walk parts)) (lasts_in names recent parts branches times) ≡ Err x → parts_in names parts ≡ Err x
damage_is names recent bytes cols walk parts branches times x are =
    first_damage (steps_in names recent (paired walk parts)) (parts_in names parts) (lasts_in names recent parts branches times) x
    (steps_same names recent bytes cols walk parts are) (lasts_whole names recent parts branches times)

-- where nothing along the walk is damaged, no part is
pub none_damaged : (names : ℕ) (recent : ListOf Event) (bytes : ColumnBytes) (cols : Columns) (walk : ListOf Edge) (parts : ListOf Part) (list : ListOf Delta) (x : Key × Column)
    → AreParts bytes cols (named_along walk) parts → steps_in names recent (paired walk parts) ≡ Ok list → parts_in names parts ≡ Err x → ⊥
none_damaged names recent bytes cols walk parts list x are ok damaged =
    subst (λ (b : Deltas). SameFault (Ok list) b) damaged (subst (λ (a : Deltas). SameFault a (parts_in names parts)) ok (steps_same names recent bytes cols walk parts are))

-- where nothing along the walk is damaged, all parts are whole
pub parts_are_whole : (names : ℕ) (recent : ListOf Event) (bytes : ColumnBytes) (cols : Columns) (walk : ListOf Edge) (parts : ListOf Part) (list : ListOf Delta)
    → AreParts bytes cols (named_along walk) parts → steps_in names recent (paired walk parts) ≡ Ok list → (all : ListOf Delta) × (parts_in names parts ≡ Ok all)
parts_are_whole names recent bytes cols walk parts list are ok =
    by (parts_in names parts) (subst (λ (a : Deltas). SameFault a (parts_in names parts)) ok (steps_same names recent bytes cols walk parts are))
  where
    by : (due : Deltas) → SameFault (Ok list) due → (all : ListOf Delta) × (due ≡ Ok all)
    by (Ok all) same = (all, refl)
    by (Err x) same = elim same [ ]
