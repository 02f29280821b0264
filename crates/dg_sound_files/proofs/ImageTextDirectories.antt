-- Bytes that are read as a directory are the spelling of what the directory says.
use Rattle.std.proofs.Common.{◌≡◌, ℕ, zero, suc, ◌+◌, ◌*◌, ◌≤◌, Bool, true, false, cond, List, [], ◌∷◌, ◌++◌, length, drop, map, Option, Some, None, refl, sym, ap, subst, ◌∙◌, append-nil, arith}
use Rattle.std.specs.Prelude.{◌&&◌, ◌==◌, nat_lt, option_and_then}
use Rattle.std.specs.List.{flat_map}
use Rattle.std.proofs.lemmas.Bool.{ltb-false, eqb-true, and_parts, false≢true}
use Rattle.std.proofs.lemmas.List.{drop_all, length-map}
use Rattle.dg_graph.specs.Columns.{four, eight}
use Rattle.dg_history.specs.History.{is_wide}
use Rattle.dg_index.specs.FileOfHistory.{name_bytes, Stored, StoredList, Segment, list_bytes, lengths_bytes, directory}
use Rattle.dg_index.specs.ImageText.{four_at, eight_at, names_at}
use Rattle.dg_index.specs.OpenedIndex.{Opening, Directory, rows_at, list_at, list_size, lengths_size, record_at, directory_with, directory_in, directory_of, list_row, record_row, lengths_of, list_count, delta_count, rows_in}
use Rattle.dg_index.specs.declared.entry.Ends.{Ends}
use Rattle.dg_index.specs.declared.entry.Row.{Row}
use Rattle.dg_index.specs.declared.per_column.PerColumn.{PerColumn}
use Rattle.dg_index.proofs.IndexRecordColumns.{Each, each_append}
use Rattle.dg_columns.proofs.Fields.{IsBytes, Stands, stands_then}
use Rattle.dg_sound_files.proofs.EachParts.{each_then}
use Rattle.dg_sound_files.proofs.ImageTextNumbers.{four_stands, eight_stands}
use Rattle.dg_sound_files.proofs.ImageTextNames.{then_is, none_unless, some_is, names_stand}

-- ---- the spelling of what a directory says

abbrev pub times_bytes : Option Ends → List ℕ
times_bytes None = []
times_bytes (Some e) = eight e.first ++ eight e.last

-- the lengths of a row, in the second form or in the first
abbrev pub lengths_text : Bool → PerColumn ℕ → List ℕ
lengths_text false n = eight n.structure ++ (eight n.node_attrs ++ eight n.edge_attrs)
lengths_text true n = eight n.structure ++ (eight n.node_attrs ++ (eight n.edge_attrs ++ eight n.transient))

abbrev pub row_bytes : Bool → Row → List ℕ
row_bytes wide r = times_bytes r.ends ++ lengths_text wide r.lengths

abbrev pub directory_text : Bool → Directory → List ℕ
directory_text wide d =
    eight d.batch.events ++ (eight d.batch.ends.first ++ (eight d.batch.ends.last
    ++ (four (length d.names) ++ (flat_map name_bytes d.names
    ++ (four (length d.lists) ++ (flat_map (row_bytes wide) d.lists
    ++ (four (length d.deltas) ++ (flat_map (row_bytes wide) d.deltas
    ++ row_bytes wide d.piece))))))))

lengths_are : (wide : Bool) (s : Stored) → lengths_text wide (lengths_of s) ≡ lengths_bytes wide s
lengths_are false s = refl
lengths_are true s = refl

lists_text : (wide : Bool) (lists : List StoredList) → flat_map (row_bytes wide) (map list_row lists) ≡ flat_map (list_bytes wide) lists
lists_text wide [] = refl
lists_text wide (x ∷ lists) = λ i. eight x.first ++ (eight x.last ++ lengths_are wide x.columns i) ++ lists_text wide lists i

deltas_text : (wide : Bool) (deltas : List Stored) → flat_map (row_bytes wide) (map record_row deltas) ≡ flat_map (lengths_bytes wide) deltas
deltas_text wide [] = refl
deltas_text wide (s ∷ deltas) = λ i. lengths_are wide s i ++ deltas_text wide deltas i

-- the directory of a segment is the spelling of what it says
pub segment_text : (wide : Bool) (s : Segment) → directory_text wide (directory_of s) ≡ directory wide s
segment_text wide s =
    λ i. eight s.events ++ (eight s.first ++ (eight s.last
    ++ (four (length s.names) ++ (flat_map name_bytes s.names
    ++ (four (length-map s.lists list_row i) ++ (lists_text wide s.lists i
    ++ (four (length-map s.deltas record_row i) ++ (deltas_text wide s.deltas i
    ++ lengths_are wide s.piece i))))))))

-- ---- rows

abbrev pub IsUntimed : Row → Type 0
IsUntimed r = r.ends ≡ None

-- a row tells of no messages
abbrev pub IsUnheard : Row → Type 0
IsUnheard r = r.lengths.transient ≡ 0

-- the length of the messages is 0 in the first form
abbrev IsRow : Bool → Row → Type 0
IsRow wide r = wide ≡ false → IsUnheard r

record_is : (wide : Bool) (bytes : List ℕ) (at : ℕ) → IsRow wide (record_at wide bytes at)
record_is false bytes at e = refl
record_is true bytes at e = absurd (false≢true (sym e))

list_is : (wide : Bool) (bytes : List ℕ) (at : ℕ) → IsRow wide (list_at wide bytes at)
list_is false bytes at e = refl
list_is true bytes at e = absurd (false≢true (sym e))

record_stands : (wide : Bool) (bytes : List ℕ) (at next : ℕ) → IsBytes bytes → next ≡ at + lengths_size wide → at + lengths_size wide ≤ length bytes → Stands bytes at (row_bytes wide (record_at wide bytes at)) next
record_stands false bytes at next fits is long =
    let a = eight_stands bytes at (at + 8) fits refl (omega (arith, long)) in
    let b = eight_stands bytes (at + 8) (at + 16) fits (omega arith) (omega (arith, long)) in
    let c = eight_stands bytes (at + 16) next fits (omega (arith, is)) (omega (arith, long)) in
    stands_then bytes at (eight (eight_at bytes at)) (at + 8) (eight (eight_at bytes (at + 8)) ++ eight (eight_at bytes (at + 16))) next a
    (stands_then bytes (at + 8) (eight (eight_at bytes (at + 8))) (at + 16) (eight (eight_at bytes (at + 16))) next b c)
record_stands true bytes at next fits is long =
    let a = eight_stands bytes at (at + 8) fits refl (omega (arith, long)) in
    let b = eight_stands bytes (at + 8) (at + 16) fits (omega arith) (omega (arith, long)) in
    let c = eight_stands bytes (at + 16) (at + 24) fits (omega arith) (omega (arith, long)) in
    let d = eight_stands bytes (at + 24) next fits (omega (arith, is)) (omega (arith, long)) in
    stands_then bytes at (eight (eight_at bytes at)) (at + 8) (eight (eight_at bytes (at + 8)) ++ (eight (eight_at bytes (at + 16)) ++ eight (eight_at bytes (at + 24)))) next a
    (stands_then bytes (at + 8) (eight (eight_at bytes (at + 8))) (at + 16) (eight (eight_at bytes (at + 16)) ++ eight (eight_at bytes (at + 24))) next b
    (stands_then bytes (at + 16) (eight (eight_at bytes (at + 16))) (at + 24) (eight (eight_at bytes (at + 24))) next c d))

-- the row of a list is that of a record behind its times
list_long : (wide : Bool) → list_size wide ≡ 16 + lengths_size wide
list_long false = refl
list_long true = refl

list_stands : (wide : Bool) (bytes : List ℕ) (at next : ℕ) → IsBytes bytes → next ≡ at + list_size wide → at + list_size wide ≤ length bytes → Stands bytes at (row_bytes wide (list_at wide bytes at)) next
list_stands wide bytes at next fits is long =
    let size = list_long wide in
    let a = eight_stands bytes at (at + 8) fits refl (omega (arith, long, size)) in
    let b = eight_stands bytes (at + 8) (at + 16) fits (omega arith) (omega (arith, long, size)) in
    let c = record_stands wide bytes (at + 16) next fits (omega (arith, is, size)) (omega (arith, long, size)) in
    stands_then bytes at (eight (eight_at bytes at) ++ eight (eight_at bytes (at + 8))) (at + 16) (row_bytes wide (record_at wide bytes (at + 16))) next
    (stands_then bytes at (eight (eight_at bytes at)) (at + 8) (eight (eight_at bytes (at + 8))) (at + 16) a b) c

-- so many rows, one behind another
record RowsStand (wide : Bool) (count : ℕ) (bytes : List ℕ) (at next : ℕ) (rows : List Row) : Type 0 where
  stands : Stands bytes at (flat_map (row_bytes wide) rows) next
  number : length rows ≡ count
  are : Each (IsRow wide) rows

rows_stand : (wide : Bool) (row : List ℕ → ℕ → Row) (size : ℕ) (bytes : List ℕ) → ((at next : ℕ) → next ≡ at + size → at + size ≤ length bytes → Stands bytes at (row_bytes wide (row bytes at)) next) → ((at : ℕ) → IsRow wide (row bytes at))
    → (count at next : ℕ) → next ≡ at + size * count → next ≤ length bytes → RowsStand wide count bytes at next (rows_at row size count bytes at)
rows_stand wide row size bytes one are zero at next is long = record { stands = ap (λ n. drop n bytes) (let e : at ≡ next = omega (arith, is) in e); number = refl; are = tt }
rows_stand wide row size bytes one are (suc count) at next is long =
    let sum : size * suc count ≡ size + size * count = omega arith in
    let first = one at (at + size) refl (omega (arith, is, sum, long)) in
    let rest = rows_stand wide row size bytes one are count (at + size) next (omega (arith, is, sum)) long in
    record {
      stands = stands_then bytes at (row_bytes wide (row bytes at)) (at + size) (flat_map (row_bytes wide) (rows_at row size count bytes (at + size))) next first rest.stands;
      number = ap suc rest.number;
      are = (are at, rest.are);
    }

untimed_rows : (wide : Bool) (size count : ℕ) (bytes : List ℕ) (at : ℕ) → Each IsUntimed (rows_at (record_at wide) size count bytes at)
untimed_rows wide size zero bytes at = tt
untimed_rows wide size (suc count) bytes at = (refl, untimed_rows wide size count bytes (at + size))

-- ---- a directory

-- the bytes are the spelling of a directory that may stand behind what is opened so far
pub record IsSpelt (o : Opening) (bytes : List ℕ) (d : Directory) : Type 0 where
  pub text : bytes ≡ directory_text (is_wide o.form) d
  pub names : d.batch.names ≡ length d.names
  pub lists : length d.lists ≡ list_count o d.batch.events
  pub deltas : length d.deltas ≡ delta_count o d.batch.events
  pub untimed : Each IsUntimed (d.deltas ++ d.piece ∷ [])
  pub unheard : is_wide o.form ≡ false → Each IsUnheard (rows_in d)

if_true : {A : Type 0} (b : Bool) (x y : A) → cond b (Some x) None ≡ Some y → (b ≡ true) × (x ≡ y)
if_true true x y e = (refl, some_is x y e)
if_true false x y e = absurd cc

pub directories_are_spelt : (o : Opening) (bytes : List ℕ) (d : Directory) → IsBytes bytes → directory_in o bytes ≡ Some d → IsSpelt o bytes d
directories_are_spelt o bytes d fits e =
    let wide : Bool = is_wide o.form in
    let n : ℕ = list_count o (eight_at bytes 0) in
    let k : ℕ = delta_count o (eight_at bytes 0) in
    let a = none_unless (nat_lt (length bytes) 28) (option_and_then (directory_with (is_wide o.form) (list_count o (eight_at bytes 0)) (delta_count o (eight_at bytes 0)) bytes) (names_at (four_at bytes 24) bytes 28)) d e in
    let begun : 28 ≤ length bytes = ltb-false _ _ a.0 in
    let b = then_is (directory_with (is_wide o.form) (list_count o (eight_at bytes 0)) (delta_count o (eight_at bytes 0)) bytes) (names_at (four_at bytes 24) bytes 28) d a.1 in
    let end : ℕ = b.0.1 in
    let told : Directory = record {
      batch = record { events = eight_at bytes 0; ends = record { first = eight_at bytes 8; last = eight_at bytes 16 }; names = length b.0.0 };
      names = b.0.0;
      lists = rows_at (list_at wide) (list_size wide) n bytes (b.0.1 + 4);
      deltas = rows_at (record_at wide) (lengths_size wide) k bytes (b.0.1 + 8 + list_size wide * n);
      piece = record_at wide bytes (b.0.1 + 8 + list_size wide * n + lengths_size wide * k);
    } in
    let c = if_true (length bytes == b.0.1 + 8 + list_size wide * n + lengths_size wide * k + lengths_size wide && (four_at bytes b.0.1 == n && four_at bytes (b.0.1 + 4 + list_size wide * n) == k)) told d b.2 in
    let t = and_parts (length bytes == b.0.1 + 8 + list_size wide * n + lengths_size wide * k + lengths_size wide) _ c.0 in
    let t2 = and_parts (four_at bytes b.0.1 == n) _ t.1 in
    let texts = names_stand (four_at bytes 24) bytes 28 b.0 fits begun b.1 in
    subst (IsSpelt o bytes) c.1 (spelt o bytes n k b.0.0 end fits begun refl refl (eqb-true _ _ t.0) (eqb-true _ _ t2.0) (eqb-true _ _ t2.1) texts.stands texts.count)
  where
    spelt : (o : Opening) (bytes : List ℕ) (n k : ℕ) (names : List (List ℕ)) (end : ℕ) → IsBytes bytes → 28 ≤ length bytes → n ≡ list_count o (eight_at bytes 0) → k ≡ delta_count o (eight_at bytes 0)
        → (let wide : Bool = is_wide o.form in length bytes ≡ end + 8 + list_size wide * n + lengths_size wide * k + lengths_size wide)
        → four_at bytes end ≡ n → four_at bytes (end + 4 + list_size (is_wide o.form) * n) ≡ k → Stands bytes 28 (flat_map name_bytes names) end → length names ≡ four_at bytes 24
        → IsSpelt o bytes (let wide : Bool = is_wide o.form in record {
          batch = record { events = eight_at bytes 0; ends = record { first = eight_at bytes 8; last = eight_at bytes 16 }; names = length names };
          names = names;
          lists = rows_at (list_at wide) (list_size wide) n bytes (end + 4);
          deltas = rows_at (record_at wide) (lengths_size wide) k bytes (end + 8 + list_size wide * n);
          piece = record_at wide bytes (end + 8 + list_size wide * n + lengths_size wide * k);
        })
    spelt o bytes n k names end fits begun is_n is_k long is_lists is_deltas stands count =
        let wide : Bool = is_wide o.form in
        let lists_end : ℕ = end + 4 + list_size wide * n in
        let deltas_at : ℕ = end + 8 + list_size wide * n in
        let piece_at : ℕ = end + 8 + list_size wide * n + lengths_size wide * k in
        let s0 = eight_stands bytes 0 8 fits refl (omega (arith, begun)) in
        let s1 = eight_stands bytes 8 16 fits refl (omega (arith, begun)) in
        let s2 = eight_stands bytes 16 24 fits refl (omega (arith, begun)) in
        let s3 = four_stands bytes 24 28 fits refl begun in
        let s5 = four_stands bytes end (end + 4) fits refl (omega (arith, long)) in
        let lists : List Row = rows_at (list_at wide) (list_size wide) n bytes (end + 4) in
        let deltas : List Row = rows_at (record_at wide) (lengths_size wide) k bytes deltas_at in
        let piece : Row = record_at wide bytes piece_at in
        let s6 = rows_stand wide (list_at wide) (list_size wide) bytes (λ at next is le. list_stands wide bytes at next fits is le) (λ at. list_is wide bytes at) n (end + 4) lists_end refl (omega (arith, long)) in
        let s7 = four_stands bytes lists_end deltas_at fits (omega arith) (omega (arith, long)) in
        let s8 = rows_stand wide (record_at wide) (lengths_size wide) bytes (λ at next is le. record_stands wide bytes at next fits is le) (λ at. record_is wide bytes at) k deltas_at piece_at refl (omega (arith, long)) in
        let s9 = record_stands wide bytes piece_at (length bytes) fits (omega (arith, long)) (omega (arith, long)) in
        let t9 = stands_then bytes deltas_at (flat_map (row_bytes wide) deltas) piece_at (row_bytes wide piece) (length bytes) s8.stands s9 in
        let t8 : List ℕ = flat_map (row_bytes wide) deltas ++ row_bytes wide piece in
        let u7 = stands_then bytes lists_end (four (four_at bytes lists_end)) deltas_at t8 (length bytes) s7 t9 in
        let t7 : List ℕ = four (four_at bytes lists_end) ++ t8 in
        let u6 = stands_then bytes (end + 4) (flat_map (row_bytes wide) lists) lists_end t7 (length bytes) s6.stands u7 in
        let t6 : List ℕ = flat_map (row_bytes wide) lists ++ t7 in
        let u5 = stands_then bytes end (four (four_at bytes end)) (end + 4) t6 (length bytes) s5 u6 in
        let t5 : List ℕ = four (four_at bytes end) ++ t6 in
        let u4 = stands_then bytes 28 (flat_map name_bytes names) end t5 (length bytes) stands u5 in
        let t4 : List ℕ = flat_map name_bytes names ++ t5 in
        let u3 = stands_then bytes 24 (four (four_at bytes 24)) 28 t4 (length bytes) s3 u4 in
        let t3 : List ℕ = four (four_at bytes 24) ++ t4 in
        let u2 = stands_then bytes 16 (eight (eight_at bytes 16)) 24 t3 (length bytes) s2 u3 in
        let t2 : List ℕ = eight (eight_at bytes 16) ++ t3 in
        let u1 = stands_then bytes 8 (eight (eight_at bytes 8)) 16 t2 (length bytes) s1 u2 in
        let t1 : List ℕ = eight (eight_at bytes 8) ++ t2 in
        let u0 = stands_then bytes 0 (eight (eight_at bytes 0)) 8 t1 (length bytes) s0 u1 in
        let t0 : List ℕ = eight (eight_at bytes 0) ++ t1 in
        let nothing : drop (length bytes) bytes ≡ [] = drop_all (length bytes) bytes (omega arith) in
        let c6 : four_at bytes end ≡ length lists = is_lists ∙ sym s6.number in
        let c8 : four_at bytes lists_end ≡ length deltas = is_deltas ∙ sym s8.number in
        let are : Each (IsRow wide) (lists ++ (deltas ++ piece ∷ [])) = each_append (IsRow wide) lists (deltas ++ piece ∷ []) s6.are (each_append (IsRow wide) deltas (piece ∷ []) s8.are (record_is wide bytes piece_at, tt)) in
        record {
          text = u0 ∙ ap (λ (l : List ℕ). t0 ++ l) nothing ∙ append-nil t0
              ∙ (λ i. eight (eight_at bytes 0) ++ (eight (eight_at bytes 8) ++ (eight (eight_at bytes 16)
              ++ (four (sym count i) ++ (flat_map name_bytes names
              ++ (four (c6 i) ++ (flat_map (row_bytes wide) lists
              ++ (four (c8 i) ++ (flat_map (row_bytes wide) deltas
              ++ row_bytes wide piece)))))))));
          names = refl;
          lists = s6.number ∙ is_n;
          deltas = s8.number ∙ is_k;
          untimed = each_append IsUntimed deltas (piece ∷ []) (untimed_rows wide (lengths_size wide) k bytes deltas_at) (refl, tt);
          unheard = λ narrow. each_then (IsRow wide) IsUnheard (lists ++ (deltas ++ piece ∷ [])) (λ r h. h narrow) are;
        }
