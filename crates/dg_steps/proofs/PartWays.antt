-- Whether a part is damaged, and where, does not depend on the way in which it is taken.
use Rattle.std.proofs.Common.{◌≡◌, ℕ, List, Ok, Option, Err, Result, ap, refl, sym, ◌∙◌}
use Rattle.dg_fold.specs.declared.fault.FoldFault.{FoldFault}
use Rattle.dg_fold.specs.declared.fault.FoldFault.TheVariants as fault
use Rattle.dg_fold.specs.declared.part.Part.{Part}
use Rattle.dg_fold.specs.Ends.{FailsIn}
use Rattle.dg_fold.specs.PathIndependence.{taken}
use Rattle.dg_fold.specs.Parts.{Folds, and_then, beside, bytes_in, deltas_in_part, fault_named, is_events, part_column_in, record_in, taken_as}
use Rattle.dg_graph.specs.Composition.{Delta}
use Rattle.dg_graph.specs.declared.element.Column.{Column}
use Rattle.dg_graph.specs.declared.element.Column.TheVariants.{EdgeAttr, NodeAttr, Structure}
use Rattle.dg_history.specs.declared.node.Key.{Key}
use Rattle.dg_index.specs.IndexRecords.{Record}
use Rattle.dg_plan.specs.declared.edge.Way.{Way}

abbrev Due : Type 0
Due = Result (List Delta) (Key × Column)

-- both have deltas, or both the same damage
abbrev Alike : Due → Due → Type 0
Alike (Ok xs) (Ok ys) = Unit {0}
Alike (Ok xs) (Err g) = ⊥
Alike (Err f) (Ok ys) = ⊥
Alike (Err f) (Err g) = f ≡ g

alike_beside : (a b c d : Due) → Alike a b → Alike c d → Alike (beside a c) (beside b d)
alike_beside (Ok xs) (Ok ys) (Ok zs) (Ok ws) h k = tt
alike_beside (Ok xs) (Ok ys) (Ok zs) (Err g) h k = absurd k
alike_beside (Ok xs) (Ok ys) (Err f) (Ok ws) h k = absurd k
alike_beside (Ok xs) (Ok ys) (Err f) (Err g) h k = k
alike_beside (Ok xs) (Err g) c d h k = absurd h
alike_beside (Err f) (Ok ys) c d h k = absurd h
alike_beside (Err f) (Err g) c d h k = h

alike_damage : (a b : Due) (f : Key × Column) → Alike a b → a ≡ Err f → b ≡ Err f
alike_damage (Ok xs) b f h is = absurd cc
alike_damage (Err g) (Ok ys) f h is = absurd h
alike_damage (Err g) (Err k) f h is = ap (λ e. Err e) (sym h) ∙ is

module _ (names : ℕ) (p : Part) (way other : Way) (until : Option ℕ) where
  alike_column : (col : Column) → Alike (part_column_in names (taken_as p way until) col) (part_column_in names (taken_as p other until) col)
  alike_column col = by (record_in names (is_events p.key) col (bytes_in p.bytes col))
    where
      by : (r : Result Record ℕ) → Alike (fault_named (λ (offset : ℕ). (p.key, col)) (and_then r (λ (x : Record). Ok (taken way until x))))
          (fault_named (λ (offset : ℕ). (p.key, col)) (and_then r (λ (x : Record). Ok (taken other until x))))
      by (Ok x) = tt
      by (Err e) = refl

  alike : Alike (deltas_in_part names (taken_as p way until)) (deltas_in_part names (taken_as p other until))
  alike =
      let a = part_column_in names (taken_as p way until) in
      let b = part_column_in names (taken_as p other until) in
      alike_beside (a Structure) (b Structure) (beside (a NodeAttr) (a EdgeAttr)) (beside (b NodeAttr) (b EdgeAttr)) (alike_column Structure)
      (alike_beside (a NodeAttr) (b NodeAttr) (a EdgeAttr) (b EdgeAttr) (alike_column NodeAttr) (alike_column EdgeAttr))

  pub fails_alike : (f : FoldFault) → Folds (Err f) (deltas_in_part names (taken_as p way until)) → FailsIn f (deltas_in_part names (taken_as p other until))
  fails_alike (fault.Damaged k col) h =
      alike_damage (deltas_in_part names (taken_as p way until)) (deltas_in_part names (taken_as p other until)) (k, col) alike h
  fails_alike fault.Memory h = tt
