-- How the deltas of an index are compared with those that are due, one after another.
use Rattle.std.proofs.Common.{◌≡◌, ℕ, zero, suc, ◌+◌, ◌<◌, ◌≤◌, List, [], ◌∷◌, ◌++◌, Option, Some, None, length, drop, take, map, get_or, refl, sym, ◌∙◌, ap, subst, arith, append_assoc, length-append}
use Rattle.std.proofs.lemmas.List.{drop_more, length-map}
use Rattle.dg_graph.specs.declared.element.Column.{Column}
use Rattle.dg_history.specs.declared.node.Key.{Key}
use Rattle.dg_index.specs.declared.entry.Row.{Row}
use Rattle.dg_index.specs.FileOfHistory.{Stored, bytes_of, delta_blobs}
use Rattle.dg_index.specs.OpenedIndex.{AreUnheard, Opening, record_row}
use Rattle.dg_sound.specs.Soundness.{or_later}
use Rattle.dg_start.specs.EventSources.{WhereTold}
use Rattle.dg_verify.specs.declared.deltas.DeltaKind.{DeltaKind}
use Rattle.dg_verify.specs.declared.stop.Stop.{Stop}
use Rattle.dg_verify.specs.declared.stop.Stop.TheVariants as stop
use Rattle.dg_verify.specs.Deltas.{first_unlike, unlike_of}
use Rattle.dg_verify.specs.Verification.{IsWrong, keyed_column}

-- ---- the columns of the next record

-- the record at an index, by its row: it has no messages
pub record IsAt (due : List Stored) (i : ℕ) (row : Row) : Type 0 where
  pub stored : Stored
  pub row_is : row ≡ record_row stored
  pub unheard : stored.transient ≡ []
  pub rest : drop i due ≡ stored ∷ drop (i + 1) due

pub at_index : (due : List Stored) (i : ℕ) (d : Row) → AreUnheard due → i < length due → IsAt due i (get_or (map record_row due) i d)
at_index [] i d unheard lt = absurd (omega (arith, lt))
at_index (s ∷ due) zero d unheard lt = record { stored = s; row_is = refl; unheard = unheard.0; rest = refl }
at_index (s ∷ due) (suc i) d unheard lt =
    let below = at_index due i d unheard.1 (omega (arith, lt)) in
    record {
      stored = below.stored;
      row_is = below.row_is;
      unheard = below.unheard;
      rest = below.rest ∙ ap (λ n. below.stored ∷ drop n (s ∷ due)) (let e : suc (i + 1) ≡ suc i + 1 = omega arith in e);
    }

pub next_row : (due : List Stored) (rows : List Row) (i : ℕ) (d : Row) → AreUnheard due → rows ≡ map record_row due → i < length rows → IsAt due i (get_or rows i d)
next_row due rows i d unheard are lt =
    subst (λ (rs : List Row). IsAt due i (get_or rs i d)) (sym are) (at_index due i d unheard (omega (arith, lt, ap length are, length-map due record_row)))

take_front : (a b : List ℕ) → take (length a) (a ++ b) ≡ a
take_front [] b = refl
take_front (x ∷ a) b = ap (λ (l : List ℕ). x ∷ l) (take_front a b)

drop_front : (a b : List ℕ) → drop (length a) (a ++ b) ≡ b
drop_front [] b = refl
drop_front (x ∷ a) b = drop_front a b

-- bytes with a column in front
module _ (column rest bytes : List ℕ) (n : ℕ) (is : bytes ≡ column ++ rest) (long : n ≡ length column) where
  front_is : take n bytes ≡ column
  front_is = (λ i. take (long i) (is i)) ∙ take_front column rest

  behind_is : drop n bytes ≡ rest
  behind_is = (λ i. drop (long i) (is i)) ∙ drop_front column rest

  is_within : n ≤ length bytes
  is_within = omega (arith, long, ap length is, length-append column rest)

as_parts : (s : Stored) (rest bytes : List ℕ) → s.transient ≡ [] → bytes ≡ bytes_of s ++ rest → bytes ≡ s.structure ++ (s.node_attrs ++ (s.edge_attrs ++ rest))
as_parts s rest bytes unheard is =
    is ∙ append_assoc s.structure (s.node_attrs ++ (s.edge_attrs ++ s.transient)) rest
    ∙ ap (λ (l : List ℕ). s.structure ++ l) (append_assoc s.node_attrs (s.edge_attrs ++ s.transient) rest)
    ∙ ap (λ (l : List ℕ). s.structure ++ (s.node_attrs ++ l)) (append_assoc s.edge_attrs s.transient rest)
    ∙ ap (λ (l : List ℕ). s.structure ++ (s.node_attrs ++ (s.edge_attrs ++ (l ++ rest)))) unheard

-- the record at the index is cut off from the columns that are left
module _ (due : List Stored) (i : ℕ) (row : Row) (columns : List ℕ) (at : IsAt due i row) (left : columns ≡ delta_blobs (drop i due)) where
  columns_are : columns ≡ at.stored.structure ++ (at.stored.node_attrs ++ (at.stored.edge_attrs ++ delta_blobs (drop (i + 1) due)))
  columns_are = as_parts at.stored (delta_blobs (drop (i + 1) due)) columns at.unheard (left ∙ ap delta_blobs at.rest)

  structure_long : row.lengths.structure ≡ length at.stored.structure
  structure_long = ap (λ (r : Row). r.lengths.structure) at.row_is

  nodes_long : row.lengths.node_attrs ≡ length at.stored.node_attrs
  nodes_long = ap (λ (r : Row). r.lengths.node_attrs) at.row_is

  edges_long : row.lengths.edge_attrs ≡ length at.stored.edge_attrs
  edges_long = ap (λ (r : Row). r.lengths.edge_attrs) at.row_is

  pub structure_within : row.lengths.structure ≤ length columns
  structure_within = is_within at.stored.structure (at.stored.node_attrs ++ (at.stored.edge_attrs ++ delta_blobs (drop (i + 1) due))) columns row.lengths.structure columns_are structure_long

  pub structure_is : (a : List ℕ) → a ≡ take row.lengths.structure columns → a ≡ at.stored.structure
  structure_is a is = is ∙ front_is at.stored.structure (at.stored.node_attrs ++ (at.stored.edge_attrs ++ delta_blobs (drop (i + 1) due))) columns row.lengths.structure columns_are structure_long

  module _ (after : List ℕ) (after_is : after ≡ drop row.lengths.structure columns) where
    after_are : after ≡ at.stored.node_attrs ++ (at.stored.edge_attrs ++ delta_blobs (drop (i + 1) due))
    after_are = after_is ∙ behind_is at.stored.structure (at.stored.node_attrs ++ (at.stored.edge_attrs ++ delta_blobs (drop (i + 1) due))) columns row.lengths.structure columns_are structure_long

    pub nodes_within : row.lengths.node_attrs ≤ length after
    nodes_within = is_within at.stored.node_attrs (at.stored.edge_attrs ++ delta_blobs (drop (i + 1) due)) after row.lengths.node_attrs after_are nodes_long

    pub nodes_are : (b : List ℕ) → b ≡ take row.lengths.node_attrs after → b ≡ at.stored.node_attrs
    nodes_are b is = is ∙ front_is at.stored.node_attrs (at.stored.edge_attrs ++ delta_blobs (drop (i + 1) due)) after row.lengths.node_attrs after_are nodes_long

    module _ (last : List ℕ) (last_is : last ≡ drop row.lengths.node_attrs after) where
      last_are : last ≡ at.stored.edge_attrs ++ delta_blobs (drop (i + 1) due)
      last_are = last_is ∙ behind_is at.stored.node_attrs (at.stored.edge_attrs ++ delta_blobs (drop (i + 1) due)) after row.lengths.node_attrs after_are nodes_long

      pub edges_within : row.lengths.edge_attrs ≤ length last
      edges_within = is_within at.stored.edge_attrs (delta_blobs (drop (i + 1) due)) last row.lengths.edge_attrs last_are edges_long

      pub edges_are : (c : List ℕ) → c ≡ take row.lengths.edge_attrs last → c ≡ at.stored.edge_attrs
      edges_are c is = is ∙ front_is at.stored.edge_attrs (delta_blobs (drop (i + 1) due)) last row.lengths.edge_attrs last_are edges_long

      pub behind_record : (more : List ℕ) → more ≡ drop row.lengths.edge_attrs last → more ≡ delta_blobs (drop (i + 1) due)
      behind_record more is = is ∙ behind_is at.stored.edge_attrs (delta_blobs (drop (i + 1) due)) last row.lengths.edge_attrs last_are edges_long

-- ---- the next record

pub next_key : (keys : List Key) (i : ℕ) (k : Key) → i < length keys → k ≡ get_or keys i k → drop i keys ≡ k ∷ drop (i + 1) keys
next_key keys i k lt there = drop_more keys i k lt ∙ ap (λ (x : Key). x ∷ drop (i + 1) keys) (sym there)

abbrev pub DeltasGoOn : Option (List ℕ) → Opening → DeltaKind → List Key → List Stored → ℕ → Type 0
DeltasGoOn told o kind keys due i = WhereTold told (λ image. first_unlike image o kind keys due ≡ first_unlike image o kind (drop i keys) (drop i due))

module _ (told : Option (List ℕ)) (o : Opening) (kind : DeltaKind) (keys : List Key) (due : List Stored) (i : ℕ) (k : Key) (next : drop i keys ≡ k ∷ drop (i + 1) keys)
    (s : Stored) (rest : drop i due ≡ s ∷ drop (i + 1) due) (so_far : DeltasGoOn told o kind keys due i) where
  next_delta : (image : List ℕ) → told ≡ Some image → first_unlike image o kind keys due
      ≡ or_later k (unlike_of image o kind k s) (first_unlike image o kind (drop (i + 1) keys) (drop (i + 1) due))
  next_delta image h = so_far image h ∙ (λ j. first_unlike image o kind (next j) (rest j))

  pub one_compared : WhereTold told (λ image. unlike_of image o kind k s ≡ None) → DeltasGoOn told o kind keys due (i + 1)
  one_compared alike image h =
      next_delta image h ∙ ap (λ u. or_later k u (first_unlike image o kind (drop (i + 1) keys) (drop (i + 1) due))) (alike image h)

  pub delta_stops : (x : Stop) → WhereTold told (λ image. IsWrong x (keyed_column k (unlike_of image o kind k s)))
      → WhereTold told (λ image. IsWrong x (first_unlike image o kind keys due))
  delta_stops x stopped image h =
      subst (λ u. IsWrong x u) (sym (next_delta image h))
      (goes_first x k (unlike_of image o kind k s) (first_unlike image o kind (drop (i + 1) keys) (drop (i + 1) due)) (stopped image h))
    where
      goes_first : (x : Stop) (k : Key) (u : Option Column) (later : Option (Key × Column)) → IsWrong x (keyed_column k u) → IsWrong x (or_later k u later)
      goes_first (stop.Wrong key col) k None later h = absurd cc
      goes_first (stop.Wrong key col) k (Some c) later h = h
      goes_first stop.Disk k u later h = tt
      goes_first stop.Memory k u later h = tt
