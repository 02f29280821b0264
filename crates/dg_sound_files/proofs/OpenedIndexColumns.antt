-- Columns that stand one behind another are the bytes of what is stored.
use Rattle.std.proofs.Common.{◌≡◌, ℕ, ◌+◌, ◌≤◌, List, [], ◌∷◌, ◌++◌, length, take, drop, refl, sym, ap, ◌∙◌, arith}
use Rattle.std.specs.Prelude.{sum_by}
use Rattle.std.specs.List.{flat_map}
use Rattle.std.proofs.lemmas.List.{take-append-drop, drop-drop, length-take-le, length-drop}
use Rattle.std.proofs.lemmas.List.Sums.{sum_by-cons}
use Rattle.dg_graph.specs.declared.element.Column.TheVariants as column
use Rattle.dg_history.specs.declared.node.Key.{Key}
use Rattle.dg_history.specs.History.{History}
use Rattle.dg_index.specs.FileOfHistory.{Stored, bytes_of}
use Rattle.dg_index.specs.OpenedIndex.{laid, total, lengths_of}
use Rattle.dg_index.specs.declared.entry.Row.{Row}
use Rattle.dg_index.proofs.IndexRecordColumns.{Each, Match, Tell, IsKept}
use Rattle.dg_columns.proofs.Fields.{Stands, stands_then}

-- the bytes of all columns
abbrev pub sum_of : List Row → ℕ
sum_of rows = sum_by (λ (r : Row). total r.lengths) rows

-- a text of so many bytes at the offset stands there
range_stands : (image text : List ℕ) (at n next : ℕ) → take n (drop at image) ≡ text → next ≡ at + n → at + n ≤ length image → (n ≡ length text) × Stands image at text next
range_stands image text at n next is e long =
    let len : length (take n (drop at image)) ≡ n = length-take-le n (drop at image) (omega (arith, length-drop at image, long)) in (
      sym len ∙ ap length is,
      sym (take-append-drop n (drop at image)) ∙ (λ i. is i ++ drop-drop n at image i) ∙ ap (λ m. text ++ drop m image) (sym e),
    )

-- what is told of the columns, and the bytes that they are
pub record AreLaid (image : List ℕ) (offset : ℕ) (rows : List Row) (all : List Stored) : Type 0 where
  pub tell : Tell rows all
  pub stands : Stands image offset (flat_map bytes_of all) (offset + sum_of rows)

pub laid_stands : (z : History) (image : List ℕ) (offset : ℕ) (keys : List Key) (rows : List Row) (all : List Stored) → length keys ≡ length rows → length all ≡ length rows → Match z keys all
    → Each (IsKept z image) (laid offset keys rows) → offset + sum_of rows ≤ length image → AreLaid image offset rows all
laid_stands z image offset [] [] [] a b match kept long = record { tell = tt; stands = ap (λ n. drop n image) (let e : offset ≡ offset + 0 = omega arith in e) }
laid_stands z image offset [] [] (s ∷ all) a b match kept long = absurd (omega (arith, b))
laid_stands z image offset [] (r ∷ rows) all a b match kept long = absurd (omega (arith, a))
laid_stands z image offset (k ∷ keys) [] all a b match kept long = absurd (omega (arith, a))
laid_stands z image offset (k ∷ keys) (r ∷ rows) [] a b match kept long = absurd (omega (arith, b))
laid_stands z image offset (k ∷ keys) (r ∷ rows) (s ∷ all) a b match kept long =
    let sum : sum_of (r ∷ rows) ≡ total r.lengths + sum_of rows = sum_by-cons (λ (r : Row). total r.lengths) r rows in
    let c0 = range_stands image s.structure offset r.lengths.structure (offset + r.lengths.structure) (kept.0 column.Structure ∙ sym (match.0 column.Structure)) refl (omega (arith, sum, long)) in
    let c1 = range_stands image s.node_attrs (offset + r.lengths.structure) r.lengths.node_attrs (offset + r.lengths.structure + r.lengths.node_attrs) (kept.0 column.NodeAttr ∙ sym (match.0 column.NodeAttr)) refl (omega (arith, sum, long)) in
    let c2 = range_stands image s.edge_attrs (offset + r.lengths.structure + r.lengths.node_attrs) r.lengths.edge_attrs (offset + r.lengths.structure + r.lengths.node_attrs + r.lengths.edge_attrs) (kept.0 column.EdgeAttr ∙ sym (match.0 column.EdgeAttr)) refl (omega (arith, sum, long)) in
    let c3 = range_stands image s.transient (offset + r.lengths.structure + r.lengths.node_attrs + r.lengths.edge_attrs) r.lengths.transient (offset + total r.lengths) (kept.0 column.Transient ∙ sym (match.0 column.Transient)) (omega arith) (omega (arith, sum, long)) in
    let one : Stands image offset (bytes_of s) (offset + total r.lengths) =
    stands_then image offset s.structure (offset + r.lengths.structure) (s.node_attrs ++ (s.edge_attrs ++ s.transient)) (offset + total r.lengths) c0.1
    (stands_then image (offset + r.lengths.structure) s.node_attrs (offset + r.lengths.structure + r.lengths.node_attrs) (s.edge_attrs ++ s.transient) (offset + total r.lengths) c1.1
    (stands_then image (offset + r.lengths.structure + r.lengths.node_attrs) s.edge_attrs (offset + r.lengths.structure + r.lengths.node_attrs + r.lengths.edge_attrs) s.transient (offset + total r.lengths) c2.1 c3.1)) in
    let more = laid_stands z image (offset + total r.lengths) keys rows all (omega (arith, a)) (omega (arith, b)) match.1 kept.1 (omega (arith, sum, long)) in
    let lengths : r.lengths ≡ lengths_of s = λ i. record { structure = c0.0 i; node_attrs = c1.0 i; edge_attrs = c2.0 i; transient = c3.0 i } in
    record {
      tell = (lengths, more.tell);
      stands = stands_then image offset (bytes_of s) (offset + total r.lengths) (flat_map bytes_of all) (offset + sum_of (r ∷ rows)) one (more.stands ∙ ap (λ n. flat_map bytes_of all ++ drop n image) (let e : offset + total r.lengths + sum_of rows ≡ offset + sum_of (r ∷ rows) = omega (arith, sum) in e));
    }

-- ---- rows that tell the same

abbrev pub SameEnds : List Row → List Row → Type 0
SameEnds [] [] = Unit {0}
SameEnds [] (q ∷ others) = ⊥
SameEnds (r ∷ rows) [] = ⊥
SameEnds (r ∷ rows) (q ∷ others) = (r.ends ≡ q.ends) × SameEnds rows others

pub same_ends_join : (a b c d : List Row) → SameEnds a b → SameEnds c d → SameEnds (a ++ c) (b ++ d)
same_ends_join [] [] c d s t = t
same_ends_join [] (q ∷ b) c d s t = absurd s
same_ends_join (r ∷ a) [] c d s t = absurd s
same_ends_join (r ∷ a) (q ∷ b) c d s t = (s.0, same_ends_join a b c d s.1 t)

pub same_rows : (rows others : List Row) (all : List Stored) → Tell rows all → Tell others all → SameEnds rows others → rows ≡ others
same_rows [] [] all t u s = refl
same_rows [] (q ∷ others) all t u s = absurd s
same_rows (r ∷ rows) [] all t u s = absurd s
same_rows (r ∷ rows) (q ∷ others) [] t u s = absurd t
same_rows (r ∷ rows) (q ∷ others) (x ∷ all) t u s =
    let lengths : r.lengths ≡ q.lengths = t.0 ∙ sym u.0 in
    let more = same_rows rows others all t.1 u.1 s.1 in
    λ i. record { ends = s.0 i; lengths = lengths i } ∷ more i
