-- The parts of a directory, put one behind another.
use Rattle.std.proofs.Common.{◌≡◌, ℕ, Bool, true, false, List, ◌++◌, length, map, refl, append_assoc}
use Rattle.std.specs.List.{flat_map}
use Rattle.std.proofs.lemmas.List.{length-map}
use Rattle.std.proofs.lemmas.List.Folds.{flat_map-map}
use Rattle.dg_graph.specs.Columns.{four}
use Rattle.dg_index.specs.FileOfHistory.{Segment, Stored, StoredList, directory, lengths_bytes, list_bytes}
use Rattle.dg_index.specs.OpenedIndex.{list_row, record_row}
use Rattle.dg_segment.specs.DirectoryParts.{batch_text, records_text}
use Rattle.dg_segment.specs.RowTexts.{row_text}

pub directory_is : (wide : Bool) (s : Segment) → directory wide s ≡ batch_text s ++ records_text wide s
directory_is wide s = simp append_assoc

-- the tables of lists and of deltas have the bytes of the definition
pub list_table : (wide : Bool) (lists : List StoredList)
    → four (length (map list_row lists)) ++ flat_map (row_text wide) (map list_row lists) ≡ four (length lists) ++ flat_map (list_bytes wide) lists
list_table false lists = λ i. four (length-map lists list_row i) ++ flat_map-map (row_text false) list_row lists i
list_table true lists = λ i. four (length-map lists list_row i) ++ flat_map-map (row_text true) list_row lists i

pub delta_table : (wide : Bool) (deltas : List Stored)
    → four (length (map record_row deltas)) ++ flat_map (row_text wide) (map record_row deltas) ≡ four (length deltas) ++ flat_map (lengths_bytes wide) deltas
delta_table false deltas = λ i. four (length-map deltas record_row i) ++ flat_map-map (row_text false) record_row deltas i
delta_table true deltas = λ i. four (length-map deltas record_row i) ++ flat_map-map (row_text true) record_row deltas i

-- the row of a piece
pub piece_row : (wide : Bool) (s : Stored) → row_text wide (record_row s) ≡ lengths_bytes wide s
piece_row false s = refl
piece_row true s = refl

-- five texts behind another, put one by one
pub five_put : (o a b c d e : List ℕ) → ((((o ++ a) ++ b) ++ c) ++ d) ++ e ≡ o ++ (a ++ (b ++ (c ++ (d ++ e))))
five_put o a b c d e = simp append_assoc

-- two pairs of texts and a text behind another, put one by one
pub pairs_put : (o a b c d e : List ℕ) → ((o ++ (a ++ b)) ++ (c ++ d)) ++ e ≡ o ++ (a ++ (b ++ (c ++ (d ++ e))))
pairs_put o a b c d e = simp append_assoc
