-- Records one behind another, taken out of their rows and their columns.
use Rattle.std.proofs.Common.{◌≡◌, ℕ, ◌+◌, ◌<◌, ◌^◌, List, [], ◌∷◌, ◌++◌, length, map, take, drop, refl, sym, ap, ◌∙◌, append_assoc, append-nil, arith, length-append}
use Rattle.std.proofs.lemmas.List.{take_at, drop_at, drop-drop, map-append}
use Rattle.std.proofs.lemmas.List.Concat.{flat_map-append}
use Rattle.dg_index.specs.declared.entry.Row.{Row}
use Rattle.dg_index.specs.FileOfHistory.{Stored, bytes_of}
use Rattle.dg_index.specs.OpenedIndex.{lengths_of, record_row, total}
use Rattle.dg_segment.specs.PackedRecords.{StoredRecord, stored_row, stored_bytes, stored_at, unpacked, ArePacked, IsPacked}

-- four columns in front of other bytes
pub stored_first : (s : Stored) (rest : List ℕ) → stored_at (lengths_of s) (bytes_of s ++ rest) ≡ s
stored_first s rest =
    let a = s.structure in
    let b = s.node_attrs in
    let d = s.edge_attrs in
    let e = s.transient in
    let one : bytes_of s ++ rest ≡ a ++ (b ++ (d ++ (e ++ rest))) =
    append_assoc a (b ++ (d ++ e)) rest ∙ ap (λ (l : List ℕ). a ++ l) (append_assoc b (d ++ e) rest ∙ ap (λ (l : List ℕ). b ++ l) (append_assoc d e rest)) in
    let second : drop (length a) (bytes_of s ++ rest) ≡ b ++ (d ++ (e ++ rest)) = ap (drop (length a)) one ∙ drop_at a (b ++ (d ++ (e ++ rest))) (length a) refl in
    let third : drop (length a + length b) (bytes_of s ++ rest) ≡ d ++ (e ++ rest) =
    sym (drop-drop (length b) (length a) (bytes_of s ++ rest)) ∙ ap (drop (length b)) second ∙ drop_at b (d ++ (e ++ rest)) (length b) refl in
    let last : drop (length a + length b + length d) (bytes_of s ++ rest) ≡ e ++ rest =
    sym (drop-drop (length d) (length a + length b) (bytes_of s ++ rest)) ∙ ap (drop (length d)) third ∙ drop_at d (e ++ rest) (length d) refl in
    λ i. record {
      structure = (ap (take (length a)) one ∙ take_at a (b ++ (d ++ (e ++ rest))) (length a) refl) i;
      node_attrs = (ap (take (length b)) second ∙ take_at b (d ++ (e ++ rest)) (length b) refl) i;
      edge_attrs = (ap (take (length d)) third ∙ take_at d (e ++ rest) (length d) refl) i;
      transient = (ap (take (length e)) last ∙ take_at e rest (length e) refl) i;
    }

pub stored_alone : (s : Stored) → stored_at (lengths_of s) (bytes_of s) ≡ s
stored_alone s = ap (stored_at (lengths_of s)) (sym (append-nil (bytes_of s))) ∙ stored_first s []

stored_behind : (s : Stored) (rest : List ℕ) → drop (total (lengths_of s)) (bytes_of s ++ rest) ≡ rest
stored_behind s rest =
    drop_at (bytes_of s) rest (total (lengths_of s)) (omega (arith, length-append s.structure (s.node_attrs ++ (s.edge_attrs ++ s.transient)), length-append s.node_attrs (s.edge_attrs ++ s.transient), length-append s.edge_attrs s.transient))

-- records are those of their rows and their columns
pub unpacked_is : (records : List StoredRecord) → unpacked (map stored_row records) (stored_bytes records) ≡ records
unpacked_is [] = refl
unpacked_is (r ∷ records) =
    let rest = stored_bytes records in
    λ i. record { ends = r.ends; columns = stored_first r.columns rest i }
    ∷ (ap (unpacked (map stored_row records)) (stored_behind r.columns rest) ∙ unpacked_is records) i

pub packed_none : ArePacked [] []
packed_none = record { rows_are = refl; bytes_are = refl; few = omega arith }

-- one record more
module _ (rows : List Row) (bytes : List ℕ) (r : StoredRecord) (new_rows : List Row) (new_bytes : List ℕ) where
  more_rows : ArePacked rows bytes → new_rows ≡ rows ++ stored_row r ∷ [] → map stored_row (unpacked rows bytes ++ r ∷ []) ≡ new_rows
  more_rows p is = map-append stored_row (unpacked rows bytes) (r ∷ []) ∙ ap (λ (l : List Row). l ++ stored_row r ∷ []) p.rows_are ∙ sym is

  more_bytes : ArePacked rows bytes → new_bytes ≡ bytes ++ bytes_of r.columns → stored_bytes (unpacked rows bytes ++ r ∷ []) ≡ new_bytes
  more_bytes p is =
      flat_map-append (λ (r : StoredRecord). bytes_of r.columns) (unpacked rows bytes) (r ∷ []) ∙ (λ i. p.bytes_are i ++ append-nil (bytes_of r.columns) i) ∙ sym is

  pub unpacked_more : ArePacked rows bytes → new_rows ≡ rows ++ stored_row r ∷ [] → new_bytes ≡ bytes ++ bytes_of r.columns → unpacked new_rows new_bytes ≡ unpacked rows bytes ++ r ∷ []
  unpacked_more p rows_are bytes_are =
      (λ i. unpacked (sym (more_rows p rows_are) i) (sym (more_bytes p bytes_are) i)) ∙ unpacked_is (unpacked rows bytes ++ r ∷ [])

  pub packed_more : ArePacked rows bytes → new_rows ≡ rows ++ stored_row r ∷ [] → new_bytes ≡ bytes ++ bytes_of r.columns → length rows + 1 < 2 ^ 32 → ArePacked new_rows new_bytes
  packed_more p rows_are bytes_are few =
      let is = unpacked_more p rows_are bytes_are in
      record {
        rows_are = ap (map stored_row) is ∙ more_rows p rows_are;
        bytes_are = ap stored_bytes is ∙ more_bytes p bytes_are;
        few = omega (arith, ap length rows_are, length-append rows (stored_row r ∷ []), few);
      }

-- one record in the place of another
pub packed_alone : (s : Stored) (row : Row) (bytes : List ℕ) → row ≡ record_row s → bytes ≡ bytes_of s → IsPacked row bytes
packed_alone s row bytes row_is bytes_are =
    let is : stored_at row.lengths bytes ≡ s = (λ i. stored_at ((row_is i).lengths) (bytes_are i)) ∙ stored_alone s in
    record { row_is = ap record_row is ∙ sym row_is; bytes_are = ap bytes_of is ∙ sym bytes_are }
