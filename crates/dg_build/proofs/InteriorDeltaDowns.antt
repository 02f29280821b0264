-- The deltas from an interior node to its children but the first, one after another.
use Rattle.std.proofs.Common.{◌≡◌, ◌+◌, ◌<◌, ◌≤◌, false, cond, List, [], ◌∷◌, ◌++◌, Some, None, length, map, sym, ap, ◌∙◌, arith, append_assoc, length-append}
use Rattle.dg_graph.specs.Composition.{Delta, chained}
use Rattle.dg_index.specs.FileOfHistory.{Segment, Stored}
use Rattle.dg_build.specs.InteriorDeltas.{DiffersInDeltas, last_way, stored_delta}
use Rattle.dg_build.specs.SpelledRecords.{first_wide, is_wide}
use Rattle.dg_build.proofs.InteriorDeltaWays.{last_behind, none_left}
use Rattle.dg_build.proofs.InteriorDeltaNodes.{differs_by, differs_not, differs_on}

-- those to the children behind `left` are spelled
pub record DownsSoFar (first : Delta) (ways left : List Delta) (old now : Segment) : Type 0 where
  pub some : 1 ≤ length left
  pub frame : DiffersInDeltas old now
  pub made : now.deltas ++ map stored_delta (map (λ (d : Delta). chained first d) left) ≡ old.deltas ++ map stored_delta (map (λ (d : Delta). chained first d) ways)
  pub wide : first_wide (length now.deltas) (map (λ (d : Delta). chained first d) left) ≡ first_wide (length old.deltas) (map (λ (d : Delta). chained first d) ways)
  pub last : last_way (map (λ (d : Delta). chained first d) left) ≡ last_way (map (λ (d : Delta). chained first d) ways)

pub downs_first : (first : Delta) (ways left : List Delta) (old : Segment) → 1 ≤ length ways → left ≡ ways → DownsSoFar first ways left old old
downs_first first ways left old some is =
    let f = λ (d : Delta). chained first d in
    record {
      some = omega (arith, some, ap (λ (l : List Delta). length l) is);
      frame = differs_not old;
      made = ap (λ (l : List Delta). old.deltas ++ map stored_delta (map f l)) is;
      wide = ap (λ (l : List Delta). first_wide (length old.deltas) (map f l)) is;
      last = ap (λ (l : List Delta). last_way (map f l)) is;
    }

pub downs_more : (first way : Delta) (ways left rest : List Delta) (old now new : Segment) → 1 < length left → DownsSoFar first ways left old now → left ≡ way ∷ rest
    → new ≡ record now { deltas = now.deltas ++ stored_delta (chained first way) ∷ [] } → is_wide (chained first way) ≡ false → DownsSoFar first ways rest old new
downs_more first way ways left rest old now new lt so left_is new_is narrow =
    let f = λ (d : Delta). chained first d in
    let more : 1 ≤ length rest = omega (arith, lt, ap (λ (l : List Delta). length l) left_is) in
    let n : length new.deltas ≡ length now.deltas + 1 = ap (λ (s : Segment). length s.deltas) new_is ∙ length-append now.deltas (stored_delta (f way) ∷ []) in
    record {
      some = more;
      frame = differs_on old now new so.frame (differs_by now new _ new_is);
      made = (λ i. (new_is i).deltas ++ map stored_delta (map f rest)) ∙ append_assoc now.deltas (stored_delta (f way) ∷ []) (map stored_delta (map f rest)) ∙ ap (λ (l : List Delta). now.deltas ++ map stored_delta (map f l)) (sym left_is) ∙ so.made;
      wide = (λ i. first_wide (n i) (map f rest)) ∙ sym (λ i. cond (narrow i) (Some (length now.deltas)) (first_wide (length now.deltas + 1) (map f rest))) ∙ ap (λ (l : List Delta). first_wide (length now.deltas) (map f l)) (sym left_is) ∙ so.wide;
      last = sym (last_behind first way rest more) ∙ ap (λ (l : List Delta). last_way (map f l)) (sym left_is) ∙ so.last;
    }

-- with the one that is left
pub downs_done : (first way : Delta) (ways left rest : List Delta) (old now new : Segment) → length left ≤ 1 → DownsSoFar first ways left old now → left ≡ way ∷ rest
    → new ≡ record now { deltas = now.deltas ++ stored_delta (chained first way) ∷ [] } → new ≡ record old { deltas = old.deltas ++ map stored_delta (map (λ (d : Delta). chained first d) ways) }
downs_done first way ways left rest old now new few so left_is new_is =
    let f = λ (d : Delta). chained first d in
    let one : left ≡ way ∷ [] = left_is ∙ ap (λ (l : List Delta). way ∷ l) (none_left way left rest left_is few) in
    differs_on old now new so.frame (differs_by now new _ new_is)
    ∙ ap (λ (l : List Stored). record old { deltas = l }) (ap (λ (s : Segment). s.deltas) new_is ∙ ap (λ (l : List Delta). now.deltas ++ map stored_delta (map f l)) (sym one) ∙ so.made)

pub last_done : (first way down : Delta) (ways left rest : List Delta) (old now : Segment) → length left ≤ 1 → DownsSoFar first ways left old now → left ≡ way ∷ rest → down ≡ chained first way → down ≡ last_way (map (λ (d : Delta). chained first d) ways)
last_done first way down ways left rest old now few so left_is down_is =
    let f = λ (d : Delta). chained first d in
    let one : left ≡ way ∷ [] = left_is ∙ ap (λ (l : List Delta). way ∷ l) (none_left way left rest left_is few) in
    down_is ∙ ap (λ (l : List Delta). last_way (map f l)) (sym one) ∙ so.last

-- none of them is too wide
pub downs_narrow : (first way : Delta) (ways left rest : List Delta) (old now : Segment) → length left ≤ 1 → DownsSoFar first ways left old now → left ≡ way ∷ rest → is_wide (chained first way) ≡ false
    → first_wide (length old.deltas) (map (λ (d : Delta). chained first d) ways) ≡ None
downs_narrow first way ways left rest old now few so left_is narrow =
    let f = λ (d : Delta). chained first d in
    let one : left ≡ way ∷ [] = left_is ∙ ap (λ (l : List Delta). way ∷ l) (none_left way left rest left_is few) in
    sym so.wide ∙ ap (λ (l : List Delta). first_wide (length now.deltas) (map f l)) one ∙ (λ i. cond (narrow i) (Some (length now.deltas)) None)
