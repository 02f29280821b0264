-- A segment as its bytes, by the parts that are written.
use Rattle.std.proofs.Common.{◌≡◌, ℕ, Bool, List, [], ◌∷◌, ◌++◌, length, map, refl, sym, ap, ◌∙◌, append_assoc, append-nil}
use Rattle.std.specs.List.{flat_map}
use Rattle.std.proofs.lemmas.List.Concat.{flat_map-append}
use Rattle.dg_graph.specs.Columns.{eight}
use Rattle.dg_index.specs.FileOfHistory.{Segment, StoredList, blobs, bytes_of, delta_blobs, directory, head_of, list_blobs, segment_bytes}

lists_are : (lists : List StoredList) → flat_map bytes_of (map (λ (x : StoredList). x.columns) lists) ≡ list_blobs lists
lists_are [] = refl
lists_are (x ∷ lists) = ap (λ (l : List ℕ). bytes_of x.columns ++ l) (lists_are lists)

pub columns_are : (s : Segment) → list_blobs s.lists ++ (delta_blobs s.deltas ++ bytes_of s.piece) ≡ blobs s
columns_are s =
    (λ i. sym (lists_are s.lists) i ++ (delta_blobs s.deltas ++ sym (append-nil (bytes_of s.piece)) i))
    ∙ ap (λ (l : List ℕ). flat_map bytes_of (map (λ (x : StoredList). x.columns) s.lists) ++ l) (sym (flat_map-append bytes_of s.deltas (s.piece ∷ [])))
    ∙ sym (flat_map-append bytes_of (map (λ (x : StoredList). x.columns) s.lists) (s.deltas ++ s.piece ∷ []))

-- the columns stand behind the head
pub text_is : (wide : Bool) (s : Segment) → head_of wide s ++ blobs s ≡ segment_bytes wide s
text_is wide s =
    let d : List ℕ = eight (length (directory wide s)) in
    let c : List ℕ = eight (length (blobs s)) in
    append_assoc d (c ++ directory wide s) (blobs s) ∙ ap (λ (l : List ℕ). d ++ l) (append_assoc c (directory wide s) (blobs s))
