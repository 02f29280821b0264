-- Where the columns of a record stand in the image.
use Rattle.std.proofs.Common.{◌≡◌, ℕ, zero, suc, ◌+◌, ◌-◌, ◌≤◌, Bool, true, false, cond, not, List, [], ◌∷◌, length, get_or, take, drop, Option, Some, None, Result, Ok, Err, refl, sym, ap, subst, ◌∙◌, arith, inl, inr}
use Rattle.std.specs.Prelude.{IfSome, IfOk, is_some, min, ◌==◌, ◌||◌, nat_le, nat_lt}
use Rattle.std.specs.Map.{lookup}
use Rattle.std.proofs.lemmas.Bool.{cases_lt, eqb-true, leb-true, ltb-false, and_parts}
use Rattle.std.proofs.lemmas.List.{length-take, take-take, take_all}
use Rattle.dg_disk.specs.Image.{HasRange}
use Rattle.dg_graph.specs.declared.element.Column.{Column}
use Rattle.dg_history.specs.declared.node.Key.{Key}
use Rattle.dg_history.specs.Keys.{same_key}
use Rattle.dg_index.specs.ImageText.{is_within, gate_behind, eight_at}
use Rattle.dg_catalogue.specs.Entries.{column_length_in, offset_in}
use Rattle.dg_index.specs.OpenedIndex.{total, Opening, Opened, Directory, opening, bare, read_on, go_on_with, directory_next, directory_in, may_stand, if_it_may, keys_next, laid, rows_in, column_at, is_marked, with_marker}
use Rattle.dg_index.specs.declared.entry.Entry.{Entry}
use Rattle.dg_index.specs.declared.entry.Row.{Row}
use Rattle.dg_index.proofs.IndexRecordColumns.{Each, each_append}
use Rattle.dg_index.proofs.OpenedSoFar.{was, one_more, opened_in, marked_parts}
use Rattle.std.proofs.lemmas.List.Sums.{sum_by-cons}
use Rattle.dg_catalogue.specs.Additions.{bytes_of_rows}
use Rattle.dg_file.specs.Images.{IsOpenedAs}
use Rattle.dg_segment.specs.Directories.{directory_due}
use Rattle.dg_segment.proofs.DirectoryTexts.{some_then}
use Rattle.dg_graph.specs.declared.element.Column.TheVariants as column

-- the columns are within so many bytes
abbrev pub IsWithin : ℕ → Key × Entry → Type 0
IsWithin n r = r.1.offset + total r.1.lengths ≤ n

laid_within : (n offset : ℕ) (keys : List Key) (rows : List Row) → offset + bytes_of_rows rows ≤ n → Each (IsWithin n) (laid offset keys rows)
laid_within n offset [] rows le = tt
laid_within n offset (k ∷ keys) [] le = tt
laid_within n offset (k ∷ keys) (r ∷ rows) le =
    let sum = sum_by-cons (λ (r : Row). total r.lengths) r rows in
    (omega (arith, le, sum), laid_within n (offset + total r.lengths) keys rows (omega (arith, le, sum)))

then_some : {A : Type 0} (b : Bool) (o : Option A) (y : A) → cond (not b) None o ≡ Some y → (b ≡ true) × (o ≡ Some y)
then_some true o y e = (refl, e)
then_some false o y e = absurd cc

it_may : (b : Bool) (x d : Directory) → if_it_may b x ≡ Some d → (b ≡ true) × (x ≡ d)
it_may true x d e = (refl, cc)
it_may false x d e = absurd cc

next_within : (image : List ℕ) (x : Opened) (d : Directory) → directory_next x image ≡ Some d → x.index.used + 16 + eight_at image x.index.used + bytes_of_rows (rows_in d) ≤ length image
next_within image x d e =
    let at : ℕ = x.index.used in
    let columns : ℕ = eight_at image (at + 8) in
    let a = then_some (is_within image at) (directory_due x columns (take (eight_at image at) (drop (at + 16) image))) d e in
    let w = and_parts (nat_le (at + 16) (length image)) _ a.0 in
    let w2 = and_parts (nat_le (gate_behind image at + 1) (length image)) _ w.1 in
    let s = some_then (λ d. if_it_may (may_stand x columns d) d) (directory_in x.index (take (eight_at image at) (drop (at + 16) image))) d a.1 in
    let may = it_may (may_stand x columns s.0) s.0 d s.2 in
    let m = and_parts (bytes_of_rows (rows_in s.0) == columns) _ may.0 in
    omega (arith, leb-true _ _ w2.0, eqb-true (bytes_of_rows (rows_in s.0)) columns m.0, ap (λ (d : Directory). bytes_of_rows (rows_in d)) may.1)

read_within : (image : List ℕ) (x : Opened) (k : ℕ) (y : Opened) → read_on k image y ≡ Ok x → Each (IsWithin (length image)) y.index.records → Each (IsWithin (length image)) x.index.records
read_within image x zero y is all = subst (λ (z : Opened). Each (IsWithin (length image)) z.index.records) (ap (opened_in x) is) all
read_within image x (suc k) y is all = by (λ z e w. read_within image x k z e w) (get_or image (y.index.used - 1) 0 == 1) (is_marked y image) (directory_next y image) refl is
  where
    by : ((z : Opened) → read_on k image z ≡ Ok x → Each (IsWithin (length image)) z.index.records → Each (IsWithin (length image)) x.index.records)
        → (b m : Bool) (o : Option Directory) → directory_next y image ≡ o → cond (not b) (Ok y) (cond m (read_on k image (with_marker y)) (go_on_with image y (read_on k image) o)) ≡ Ok x → Each (IsWithin (length image)) x.index.records
    by more false m o n is = subst (λ (z : Opened). Each (IsWithin (length image)) z.index.records) (ap (opened_in x) is) all
    by more true true o n is = more (with_marker y) is all
    by more true false None n is = absurd cc
    by more true false (Some d) n is =
        more (one_more image y d) is
        (each_append (IsWithin (length image)) y.index.records (laid (y.index.used + 16 + eight_at image y.index.used) (keys_next y.index d.batch.events) (rows_in d)) all
        (laid_within (length image) (y.index.used + 16 + eight_at image y.index.used) (keys_next y.index d.batch.events) (rows_in d) (next_within image y d n)))

held_within : (n : ℕ) (records : List (Key × Entry)) (k : Key) (e : Entry) → Each (IsWithin n) records → lookup (same_key k) records ≡ Some e → e.offset + total e.lengths ≤ n
held_within n [] k e all is = absurd cc
held_within n (r ∷ records) k e all is = by (held_within n records k e all.1) (same_key k r.0) is
  where
    by : (lookup (same_key k) records ≡ Some e → e.offset + total e.lengths ≤ n) → (b : Bool) → cond b (Some r.1) (lookup (same_key k) records) ≡ Some e → e.offset + total e.lengths ≤ n
    by more true is = let same : r.1 ≡ e = cc (is) in subst (λ (q : Entry). q.offset + total q.lengths ≤ n) same all.0
    by more false is = more is

pub record_there : (image : List ℕ) (o : Opening) (k : Key) (e : Entry) → IsOpenedAs image o → lookup (same_key k) o.records ≡ Some e → e.offset + total e.lengths ≤ length image
record_there image o k e opened is =
    let x : Opened = record { index = o; names = opened.0 } in
    let w = was image x opened.1 in
    held_within (length image) o.records k e (read_within image x (length image) (bare w.header.form w.header.params) w.read tt) is

pub some_value : {A : Type 0} (x : Option A) → is_some x ≡ true → (y : A) × (x ≡ Some y)
some_value None h = absurd cc
some_value (Some y) h = (y, refl)

column_within : (e : Entry) (col : Column) (n : ℕ) → e.offset + total e.lengths ≤ n → offset_in e col + column_length_in e col ≤ n
column_within e column.Structure n le = omega (arith, le)
column_within e column.NodeAttr n le = omega (arith, le)
column_within e column.EdgeAttr n le = omega (arith, le)
column_within e column.Transient n le = omega (arith, le)

pub column_there : (x : Option (List ℕ)) (o : Opening) (k : Key) (col : Column) (e : Entry) → lookup (same_key k) o.records ≡ Some e → IfSome x (λ image. IsOpenedAs image o) → HasRange x (offset_in e col) (column_length_in e col)
column_there None o k col e is h = tt
column_there (Some image) o k col e is h = column_within e col (length image) (record_there image o k e h is)

column_is : (image : List ℕ) (e : Entry) (col : Column) → take (column_length_in e col) (drop (offset_in e col) image) ≡ column_at image e col
column_is image e column.Structure = refl
column_is image e column.NodeAttr = refl
column_is image e column.EdgeAttr = refl
column_is image e column.Transient = refl

pub column_read : (x : Option (List ℕ)) (o : Opening) (k : Key) (col : Column) (e : Entry) (offset len : ℕ) (bytes : List ℕ) → lookup (same_key k) o.records ≡ Some e → offset ≡ offset_in e col → len ≡ column_length_in e col
    → IfSome x (λ image. bytes ≡ take len (drop offset image)) → IfSome x (λ image. IfSome (lookup (same_key k) o.records) (λ e. bytes ≡ column_at image e col))
column_read None o k col e offset len bytes is p l h = tt
column_read (Some image) o k col e offset len bytes is p l h =
    subst (λ (q : Option Entry). IfSome q (λ e. bytes ≡ column_at image e col)) (sym is) (h ∙ (λ i. take (l i) (drop (p i) image)) ∙ column_is image e col)

-- the front of a column is there, and read
pub front_there : (x : Option (List ℕ)) (offset len short : ℕ) → short ≤ len → HasRange x offset len → HasRange x offset short
front_there None offset len short le h = tt
front_there (Some image) offset len short le h = omega (arith, le, h)

take_least : {A : Type 0} (most len : ℕ) (xs : List A) → take (min most len) xs ≡ take most (take len xs)
take_least most len xs =
    elim (cases_lt most len) [
      | inl lt ↦ ap (λ n. take n xs) (let e : min most len ≡ most = omega (arith, lt) in e) ∙ sym (take-take most len xs (omega (arith, lt)))
      | inr le ↦ ap (λ n. take n xs) (let e : min most len ≡ len = omega (arith, le) in e) ∙ sym (take_all most (take len xs) (omega (arith, le, length-take len xs)))
    ]

pub front_read : (x : Option (List ℕ)) (o : Opening) (k : Key) (col : Column) (e : Entry) (offset most len : ℕ) (bytes : List ℕ) → lookup (same_key k) o.records ≡ Some e → offset ≡ offset_in e col → len ≡ min most (column_length_in e col)
    → IfSome x (λ image. bytes ≡ take len (drop offset image)) → IfSome x (λ image. IfSome (lookup (same_key k) o.records) (λ e. bytes ≡ take most (column_at image e col)))
front_read None o k col e offset most len bytes is p l h = tt
front_read (Some image) o k col e offset most len bytes is p l h =
    subst (λ (q : Option Entry). IfSome q (λ e. bytes ≡ take most (column_at image e col))) (sym is)
    (h ∙ (λ i. take (l i) (drop (p i) image)) ∙ take_least most (column_length_in e col) (drop (offset_in e col) image) ∙ ap (take most) (column_is image e col))

-- ---- the bytes in use are there

next_used : (image : List ℕ) (x : Opened) (d : Directory) → directory_next x image ≡ Some d → gate_behind image x.index.used + 1 ≤ length image
next_used image x d e =
    let at : ℕ = x.index.used in
    let a = then_some (is_within image at) (directory_due x (eight_at image (at + 8)) (take (eight_at image at) (drop (at + 16) image))) d e in
    let w = and_parts (nat_le (at + 16) (length image)) _ a.0 in
    let w2 = and_parts (nat_le (gate_behind image at + 1) (length image)) _ w.1 in
    leb-true _ _ w2.0

marked_used : (image : List ℕ) (x : Opened) → is_marked x image ≡ true → x.index.used + 25 ≤ length image
marked_used image x e =
    let m = marked_parts x image e in
    let w = and_parts (nat_le (x.index.used + 16) (length image)) _ m.1 in
    let w2 = and_parts (nat_le (gate_behind image x.index.used + 1) (length image)) _ w.1 in
    omega (arith, leb-true _ _ w2.0, m.2, m.3)

read_used : (image : List ℕ) (x : Opened) (k : ℕ) (y : Opened) → read_on k image y ≡ Ok x → y.index.used ≤ length image → x.index.used ≤ length image
read_used image x zero y is le = subst (λ (z : Opened). z.index.used ≤ length image) (ap (opened_in x) is) le
read_used image x (suc k) y is le = by (λ z e w. read_used image x k z e w) (get_or image (y.index.used - 1) 0 == 1) (is_marked y image) refl (directory_next y image) refl is
  where
    by : ((z : Opened) → read_on k image z ≡ Ok x → z.index.used ≤ length image → x.index.used ≤ length image)
        → (b m : Bool) → is_marked y image ≡ m → (o : Option Directory) → directory_next y image ≡ o → cond (not b) (Ok y) (cond m (read_on k image (with_marker y)) (go_on_with image y (read_on k image) o)) ≡ Ok x → x.index.used ≤ length image
    by more false m em o n is = subst (λ (z : Opened). z.index.used ≤ length image) (ap (opened_in x) is) le
    by more true true em o n is = more (with_marker y) is (omega (arith, marked_used image y em))
    by more true false em None n is = absurd cc
    by more true false em (Some d) n is = more (one_more image y d) is (next_used image y d n)

or_false : (a b : Bool) → (a || b) ≡ false → a ≡ false
or_false true b e = absurd cc
or_false false b e = refl

pub used_within : (image : List ℕ) (x : Opened) → opening image ≡ Ok x → x.index.used ≤ length image
used_within image x e =
    let w = was image x e in
    read_used image x (length image) (bare w.header.form w.header.params) w.read (ltb-false (length image) 18 (or_false (nat_lt (length image) 18) _ w.there))

pub ok_both : {T E : Type 0} (r : Result T E) (P Q R : T → Type 0) → ((t : T) → P t → Q t → R t) → IfOk r P → IfOk r Q → IfOk r R
ok_both (Ok t) P Q R f p q = f t p q
ok_both (Err e) P Q R f p q = tt
