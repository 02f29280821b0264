-- How compositions of parts go together.
use Rattle.std.proofs.Common.{◌≡◌, ◌≤◌, length, Some, slice_get, arith, ℕ, Bool, true, false, map, List, [], ◌∷◌, ◌++◌, Result, Ok, Err, refl, sym, ap, ◌∙◌}
use Rattle.std.specs.Prelude.{IfOk, is_ok}
use Rattle.std.proofs.lemmas.Bool.{false≢true}
use Rattle.std.proofs.lemmas.List.{append-nil}
use Rattle.dg_graph.specs.declared.element.Column.{Column}
use Rattle.dg_graph.specs.declared.event.Event.{Event}
use Rattle.dg_history.specs.declared.node.Key.{Key}
use Rattle.dg_graph.specs.declared.placed.Placed.{Placed}
use Rattle.dg_graph.specs.ColumnGrammar.{events_in, delta_in}
use Rattle.dg_columns.specs.declared.fault.ReadFault.{ReadFault}
use Rattle.dg_columns.specs.declared.fault.ReadFault.TheVariants as read
use Rattle.dg_columns.specs.ReadOutcome.{IsFaultOf}
use Rattle.dg_index.specs.IndexRecords.{Record, Events, Exact}
use Rattle.dg_fold.specs.PathIndependence.{taken}
use Rattle.dg_graph.specs.Composition.{Delta, Composes}
use Rattle.dg_net.proofs.ReplayNets.{composes_halves}
use Rattle.dg_fold.specs.declared.fault.FoldFault.{FoldFault}
use Rattle.dg_fold.specs.declared.fault.FoldFault.TheVariants as fault
use Rattle.dg_fold.specs.declared.part.Part.{Part}
use Rattle.dg_fold.specs.Parts.{and_then, fault_named, bytes_in, record_in, part_column_in, beside, deltas_in_part, parts_in, Folds, fault_at}
use Rattle.dg_fold.proofs.TreeStepPaths.{beside_associates}
use Rattle.dg_records.specs.ColumnReads.{is_events}

abbrev pub Due : Type 0
Due = Result (List Delta) (Key × Column)

-- the first fault is that of both
pub fails_first : (f : FoldFault) (a b : Due) → Folds (Err f) a → Folds (Err f) (beside a b)
fails_first (fault.Damaged k col) a b h = ap (λ r. beside r b) h
fails_first fault.Memory a b h = tt

-- and that of the later, where the first has none
pub fails_then : (f : FoldFault) (d : Delta) (a b : Due) → Folds (Ok d) a → Folds (Err f) b → Folds (Err f) (beside a b)
fails_then (fault.Damaged k col) d a b first h =
    ap (λ r. beside r b) first.1 ∙ ap (beside (Ok first.0)) h
fails_then fault.Memory d a b first h = tt

-- the same, where the first has deltas
pub fails_behind : (f : FoldFault) (list : List Delta) (a b : Due) → a ≡ Ok list → Folds (Err f) b → Folds (Err f) (beside a b)
fails_behind (fault.Damaged k col) list a b first h =
    ap (λ r. beside r b) first ∙ ap (beside (Ok list)) h
fails_behind fault.Memory list a b first h = tt

-- where neither has a fault, the one and then the other
pub folds_both : (d first then : Delta) (a b : Due) → Folds (Ok first) a → Folds (Ok then) b → Composes d (first ∷ then ∷ []) → Folds (Ok d) (beside a b)
folds_both d first then a b f g composes = (
  f.0 ++ g.0,
  ap (λ r. beside r b) f.1 ∙ ap (beside (Ok f.0)) g.1,
  composes_halves d first then f.0 g.0 (f.0 ++ g.0) composes f.2 g.2 refl,
)

-- what was read, where something was
pub read_well : {X F : Type 0} (r : Result X F) (P : X → Type 0) → IfOk r P → is_ok r ≡ true → (x : X) × P x
read_well (Ok x) P h some = (x, h)
read_well (Err f) P h some = absurd (false≢true some)

-- it has no fault
abbrev pub HasDeltas : Due → Type 0
HasDeltas a = (list : List Delta) × (a ≡ Ok list)

pub both_have_deltas : (a b : Due) → HasDeltas a → HasDeltas b → HasDeltas (beside a b)
both_have_deltas a b x y = (x.0 ++ y.0, ap (λ r. beside r b) x.1 ∙ ap (beside (Ok x.0)) y.1)

beside_empty : (a : Due) → a ≡ beside (Ok []) a
beside_empty (Ok list) = refl
beside_empty (Err f) = refl

-- wherever the parts are cut in two
pub cut_anywhere : (names : ℕ) (xs ys : List Part) → parts_in names (xs ++ ys) ≡ beside (parts_in names xs) (parts_in names ys)
cut_anywhere names [] ys = beside_empty (parts_in names ys)
cut_anywhere names (p ∷ xs) ys =
    ap (beside (deltas_in_part names p)) (cut_anywhere names xs ys)
    ∙ sym (beside_associates (deltas_in_part names p) (parts_in names xs) (parts_in names ys))

beside_end : (a : Due) → a ≡ beside a (Ok [])
beside_end (Ok list) = ap (λ l. Ok l) (sym (append-nil list))
beside_end (Err f) = refl

-- one part alone
pub one_part : (names : ℕ) (p : Part) → deltas_in_part names p ≡ parts_in names (p ∷ [])
one_part names p = beside_end (deltas_in_part names p)

-- ---- one column

module _ (names : ℕ) (p : Part) (col : Column) where
  abbrev pub due_of : Bool → Due
  due_of b = fault_named (λ (offset : ℕ). (p.key, col)) (and_then (record_in names b col (bytes_in p.bytes col)) (λ (r : Record). Ok (taken p.way p.until r)))

  pub folds_events : (d : Delta) (placed : List Placed) (events : List Event) → is_events p.key ≡ true
      → events_in col names (bytes_in p.bytes col) ≡ Ok placed → events ≡ map (λ (q : Placed). q.event) placed
      → Composes d (taken p.way p.until (Events events)) → Folds (Ok d) (part_column_in names p col)
  folds_events d placed events is read are composes = (
    taken p.way p.until (Events events),
    ap due_of is
        ∙ ap (λ r. fault_named (λ (offset : ℕ). (p.key, col)) (and_then (and_then r (λ (q : List Placed). Ok (Events (map (λ (o : Placed). o.event) q)))) (λ (x : Record). Ok (taken p.way p.until x)))) read
        ∙ ap (λ l. Ok (taken p.way p.until (Events l))) (sym are),
    composes,
  )

  pub fails_events : (f : ReadFault) → is_events p.key ≡ true → IsFaultOf f (events_in col names (bytes_in p.bytes col)) → Folds (Err (fault_at p.key col f)) (part_column_in names p col)
  fails_events (read.Damaged offset) is h =
      ap due_of is
      ∙ ap (λ r. fault_named (λ (n : ℕ). (p.key, col)) (and_then (and_then r (λ (q : List Placed). Ok (Events (map (λ (o : Placed). o.event) q)))) (λ (x : Record). Ok (taken p.way p.until x)))) h
  fails_events read.Memory is h = tt

  pub exact_is : (e : Delta) → is_events p.key ≡ false → delta_in col names (bytes_in p.bytes col) ≡ Ok e → part_column_in names p col ≡ Ok (taken p.way p.until (Exact e))
  exact_is e is read =
      ap due_of is
      ∙ ap (λ r. fault_named (λ (offset : ℕ). (p.key, col)) (and_then (and_then r (λ (q : Delta). Ok (Exact q))) (λ (x : Record). Ok (taken p.way p.until x)))) read

  pub fails_exact : (f : ReadFault) → is_events p.key ≡ false → IsFaultOf f (delta_in col names (bytes_in p.bytes col)) → Folds (Err (fault_at p.key col f)) (part_column_in names p col)
  fails_exact (read.Damaged offset) is h =
      ap due_of is
      ∙ ap (λ r. fault_named (λ (n : ℕ). (p.key, col)) (and_then (and_then r (λ (q : Delta). Ok (Exact q))) (λ (x : Record). Ok (taken p.way p.until x)))) h
  fails_exact read.Memory is h = tt

  -- what is read of the column, of whatever kind, has deltas
  pub events_have_deltas : (placed : List Placed) → is_events p.key ≡ true → events_in col names (bytes_in p.bytes col) ≡ Ok placed → HasDeltas (part_column_in names p col)
  events_have_deltas placed is read = (
    taken p.way p.until (Events (map (λ (q : Placed). q.event) placed)),
    ap due_of is
        ∙ ap (λ r. fault_named (λ (offset : ℕ). (p.key, col)) (and_then (and_then r (λ (q : List Placed). Ok (Events (map (λ (o : Placed). o.event) q)))) (λ (x : Record). Ok (taken p.way p.until x)))) read,
  )

  pub delta_has_deltas : is_events p.key ≡ false → (d : Delta) × (delta_in col names (bytes_in p.bytes col) ≡ Ok d) → HasDeltas (part_column_in names p col)
  delta_has_deltas is d = (taken p.way p.until (Exact d.0), exact_is d.0 is d.1)

-- a list of at most one part, whose first is this one
pub one_only : (parts : List Part) (p : Part) → length parts ≤ 1 → Some p ≡ slice_get parts 0 → p ∷ [] ≡ parts
one_only [] p few is = cc
one_only (q ∷ []) p few is = let e : p ≡ q = cc in ap (λ x. x ∷ []) e
one_only (q ∷ r ∷ more) p few is = absurd (omega arith)
