-- Columns whose positions rise, and that come together to events, are the columns of these events.
use Rattle.std.proofs.Common.{◌≡◌, ℕ, zero, suc, ◌+◌, ◌<◌, ◌≤◌, Bool, true, false, cond, not, List, [], ◌∷◌, ◌++◌, length, filter, Option, Some, None, refl, sym, ap, subst, ◌∙◌, arith, length-append}
use Rattle.std.specs.Prelude.{◌≢◌, ◌==◌, find, option_and_then}
use Rattle.std.specs.Option.{option_map, option_or}
use Rattle.std.proofs.lemmas.Bool.{eqb-true, eqb-false, ne_eqb}
use Rattle.std.proofs.lemmas.List.Folds.{find-append}
use Rattle.dg_graph.specs.declared.element.Column.{Column}
use Rattle.dg_graph.specs.declared.element.Column.TheVariants as column
use Rattle.dg_graph.specs.declared.event.Event.{Event}
use Rattle.dg_graph.specs.declared.placed.Placed.{Placed}
use Rattle.dg_graph.specs.ColumnMerge.{at_positions}
use Rattle.dg_graph.specs.Columns.{same_column, column_of_body, placed_from}
use Rattle.dg_columns.specs.ReadFits.{PositionsRise}
use Rattle.dg_columns.proofs.ColumnLawEvents.{same_column_is}
use Rattle.dg_index.proofs.IndexRecordColumns.{Each}
use Rattle.dg_sound_files.proofs.ImageTextNames.{then_is, map_is, some_is}

abbrev stands_at : ℕ → Placed → Bool
stands_at n p = p.at == n

abbrev pub stands_in : Column → Placed → Bool
stands_in col p = same_column (column_of_body p.event.body) col

-- ---- as many positions as events

same_found : (k n : ℕ) (xs ys : List Placed) → ((j : ℕ) → n ≤ j → find (stands_at j) xs ≡ find (stands_at j) ys) → at_positions k n xs ≡ at_positions k n ys
same_found zero n xs ys same = refl
same_found (suc k) n xs ys same =
    λ i. option_and_then (λ (p : Placed). option_map (λ (events : List Event). p.event ∷ events) (same_found k (n + 1) xs ys (λ j le. same j (omega (arith, le))) i)) (same n (omega arith) i)

-- those that do not stand at the position
abbrev others : ℕ → List Placed → List Placed
others n xs = filter (λ (p : Placed). not (p.at == n)) xs

others_found : (n j : ℕ) (xs : List Placed) → n < j → find (stands_at j) (others n xs) ≡ find (stands_at j) xs
others_found n j [] lt = refl
others_found n j (p ∷ xs) lt = by (others_found n j xs lt) (p.at == n) refl
  where
    by : find (stands_at j) (others n xs) ≡ find (stands_at j) xs → (b : Bool) → (p.at == n) ≡ b → find (stands_at j) (cond (not b) (p ∷ others n xs) (others n xs)) ≡ cond (p.at == j) (Some p) (find (stands_at j) xs)
    by more true e = more ∙ ap (λ t. cond t (Some p) (find (stands_at j) xs)) (sym (ne_eqb p.at j (λ same. omega (arith, same, eqb-true p.at n e, lt))))
    by more false e = ap (λ o. cond (p.at == j) (Some p) o) more

others_few : (n : ℕ) (xs : List Placed) → length (others n xs) ≤ length xs
others_few n [] = omega arith
others_few n (p ∷ xs) = by (others_few n xs) (p.at == n)
  where
    by : length (others n xs) ≤ length xs → (b : Bool) → length (cond (not b) (p ∷ others n xs) (others n xs)) ≤ suc (length xs)
    by more true = omega (arith, more)
    by more false = omega (arith, more)

others_fewer : (n : ℕ) (xs : List Placed) (p : Placed) → find (stands_at n) xs ≡ Some p → length (others n xs) < length xs
others_fewer n [] p e = absurd cc
others_fewer n (q ∷ xs) p e = by (λ e. others_fewer n xs p e) (q.at == n) e
  where
    by : (find (stands_at n) xs ≡ Some p → length (others n xs) < length xs) → (b : Bool) → cond b (Some q) (find (stands_at n) xs) ≡ Some p → length (cond (not b) (q ∷ others n xs) (others n xs)) < suc (length xs)
    by more true e = omega (arith, others_few n xs)
    by more false e = omega (arith, more e)

abbrev front_of : Placed → Option (List Event) → Option (List Event)
front_of p o = option_map (λ (events : List Event). p.event ∷ events) o

-- so many positions that are found are of as many events
room : (k n : ℕ) (xs : List Placed) (events : List Event) → at_positions k n xs ≡ Some events → k ≤ length xs
room zero n xs events e = omega arith
room (suc k) n xs events e =
    let a = then_is (λ (p : Placed). front_of p (at_positions k (n + 1) xs)) (find (stands_at n) xs) events e in
    let b = map_is (λ (events : List Event). a.0.event ∷ events) (at_positions k (n + 1) xs) events a.2 in
    let fewer = others_fewer n xs a.0 a.1 in
    let more = room k (n + 1) (others n xs) b.0 (same_found k (n + 1) (others n xs) xs (λ j le. others_found n j xs (omega (arith, le))) ∙ b.1) in
    omega (arith, fewer, more)

-- ---- the first event of a column

abbrev counted_one : Option Placed → ℕ
counted_one None = 0
counted_one (Some p) = 1

abbrev in_front : Option Placed → List Placed → List Placed
in_front None rest = rest
in_front (Some p) rest = p ∷ rest

-- a column at a position: the event that stands there, and those behind it
record Popped (n : ℕ) (xs : List Placed) : Type 0 where
  here : Option Placed
  rest : List Placed
  whole : xs ≡ in_front here rest
  rises : PositionsRise (n + 1) rest
  len : length xs ≡ counted_one here + length rest
  found : find (stands_at n) xs ≡ here
  later : (j : ℕ) → n < j → find (stands_at j) xs ≡ find (stands_at j) rest

none_before : (n m : ℕ) (xs : List Placed) → n < m → PositionsRise m xs → find (stands_at n) xs ≡ None
none_before n m [] lt r = refl
none_before n m (p ∷ xs) lt r = ap (λ t. cond t (Some p) (find (stands_at n) xs)) (ne_eqb p.at n (λ e. omega (arith, e, r.0, lt))) ∙ none_before n (p.at + 1) xs (omega (arith, r.0, lt)) r.1

rises_from : (n m : ℕ) (xs : List Placed) → n ≤ m → PositionsRise m xs → PositionsRise n xs
rises_from n m [] le r = tt
rises_from n m (p ∷ xs) le r = (omega (arith, le, r.0), r.1)

popped : (n : ℕ) (xs : List Placed) → PositionsRise n xs → Popped n xs
popped n [] r = record { here = None; rest = []; whole = refl; rises = tt; len = omega arith; found = refl; later = λ j lt. refl }
popped n (p ∷ xs) r = by (p.at == n) refl
  where
    by : (b : Bool) → (p.at == n) ≡ b → Popped n (p ∷ xs)
    by true e =
        let at : p.at ≡ n = eqb-true p.at n e in
        record {
          here = Some p;
          rest = xs;
          whole = refl;
          rises = rises_from (n + 1) (p.at + 1) xs (omega (arith, at)) r.1;
          len = omega arith;
          found = ap (λ t. cond t (Some p) (find (stands_at n) xs)) e;
          later = λ j lt. ap (λ t. cond t (Some p) (find (stands_at j) xs)) (ne_eqb p.at j (λ same. omega (arith, same, at, lt)));
        }
    by false e =
        let apart : p.at ≢ n = eqb-false p.at n e in
        let other : n < p.at = omega (arith, r.0, apart) in
        record {
          here = None;
          rest = p ∷ xs;
          whole = refl;
          rises = (omega (arith, other), r.1);
          len = omega arith;
          found = none_before n (n + 1) (p ∷ xs) (omega arith) (omega (arith, other), r.1);
          later = λ j lt. refl;
        }

-- ---- the columns

abbrev EachIn : Column → List Placed → Type 0
EachIn col xs = Each (λ (p : Placed). stands_in col p ≡ true) xs

-- what holds of the events of a column
abbrev Holds : (Event → Type 0) → List Placed → Type 0
Holds P xs = Each (λ (p : Placed). P p.event) xs

each_rest : (P : Placed → Type 0) (o : Option Placed) (rest : List Placed) → Each P (in_front o rest) → Each P rest
each_rest P None rest all = all
each_rest P (Some p) rest all = all.1

-- the four columns one behind another
abbrev pub all_of : (Column → List Placed) → List Placed
all_of parts = parts column.Structure ++ parts column.NodeAttr ++ parts column.EdgeAttr ++ parts column.Transient

-- of what stands at the position in each column: the first, and how many there are
abbrev first_of : (Column → Option Placed) → Option Placed
first_of here = option_or (option_or (option_or (here column.Structure) (here column.NodeAttr)) (here column.EdgeAttr)) (here column.Transient)

abbrev count_of : (Column → Option Placed) → ℕ
count_of here =
    counted_one (here column.Structure) + counted_one (here column.NodeAttr) + counted_one (here column.EdgeAttr) + counted_one (here column.Transient)

pub record Unmerged (P : Event → Type 0) (n : ℕ) (parts : Column → List Placed) (events : List Event) : Type 0 where
  pub columns : (col : Column) → parts col ≡ filter (stands_in col) (placed_from n events)
  pub each : Each P events

abbrev IsHere : (Event → Type 0) → ℕ → Column → Option Placed → Type 0
IsHere P n col None = Unit {0}
IsHere P n col (Some p) = (p.at ≡ n) × (stands_in col p ≡ true) × P p.event

is_here : (P : Event → Type 0) (n : ℕ) (col : Column) (o : Option Placed) (rest : List Placed) → PositionsRise n (in_front o rest) → (find (stands_at n) (in_front o rest) ≡ o) → EachIn col (in_front o rest) → Holds P (in_front o rest) → IsHere P n col o
is_here P n col None rest r f inside holds = tt
is_here P n col (Some p) rest r f inside holds = by (p.at == n) refl f
  where
    by : (b : Bool) → (p.at == n) ≡ b → cond b (Some p) (find (stands_at n) rest) ≡ Some p → (p.at ≡ n) × (stands_in col p ≡ true) × P p.event
    by true e f = (eqb-true p.at n e, inside.0, holds.0)
    by false e f = absurd (let none = none_before n (p.at + 1) rest (omega (arith, r.0)) r.1 in let no : None ≡ Some p = sym none ∙ f in cc)

-- ---- one column has an event at the position

-- it stands in this column, and nothing in the others
record IsOnly (here : Column → Option Placed) (p : Placed) : Type 0 where
  col : Column
  is : here col ≡ Some p
  others : (c : Column) → same_column col c ≡ false → here c ≡ None

none_of : (o : Option Placed) → counted_one o ≡ 0 → o ≡ None
none_of None e = refl
none_of (Some p) e = absurd (omega (arith, e))

only : (here : Column → Option Placed) (p : Placed) → first_of here ≡ Some p → count_of here ≤ 1 → IsOnly here p
only here p first one = by (here column.Structure) refl (here column.NodeAttr) refl (here column.EdgeAttr) refl (here column.Transient) refl first
  where
    by : (s : Option Placed) → here column.Structure ≡ s → (n : Option Placed) → here column.NodeAttr ≡ n → (e : Option Placed) → here column.EdgeAttr ≡ e → (t : Option Placed) → here column.Transient ≡ t
        → option_or (option_or (option_or s n) e) t ≡ Some p → IsOnly here p
    by (Some q) s n is_n e is_e t is_t first = record { col = column.Structure; is = s ∙ first; others = others }
      where
        others : (c : Column) → same_column column.Structure c ≡ false → here c ≡ None
        others column.Structure apart = absurd cc
        others column.NodeAttr apart = none_of (here column.NodeAttr) (omega (arith, one, ap counted_one s))
        others column.EdgeAttr apart = none_of (here column.EdgeAttr) (omega (arith, one, ap counted_one s))
        others column.Transient apart = none_of (here column.Transient) (omega (arith, one, ap counted_one s))
    by None s (Some q) n e is_e t is_t first = record { col = column.NodeAttr; is = n ∙ first; others = others }
      where
        others : (c : Column) → same_column column.NodeAttr c ≡ false → here c ≡ None
        others column.Structure apart = s
        others column.NodeAttr apart = absurd cc
        others column.EdgeAttr apart = none_of (here column.EdgeAttr) (omega (arith, one, ap counted_one n))
        others column.Transient apart = none_of (here column.Transient) (omega (arith, one, ap counted_one n))
    by None s None n (Some q) e t is_t first = record { col = column.EdgeAttr; is = e ∙ first; others = others }
      where
        others : (c : Column) → same_column column.EdgeAttr c ≡ false → here c ≡ None
        others column.Structure apart = s
        others column.NodeAttr apart = n
        others column.EdgeAttr apart = absurd cc
        others column.Transient apart = none_of (here column.Transient) (omega (arith, one, ap counted_one e))
    by None s None n None e (Some q) t first = record { col = column.Transient; is = t ∙ first; others = others }
      where
        others : (c : Column) → same_column column.Transient c ≡ false → here c ≡ None
        others column.Structure apart = s
        others column.NodeAttr apart = n
        others column.EdgeAttr apart = e
        others column.Transient apart = absurd cc
    by None s None n None e None t first = absurd cc

-- what stands in front of a column is the event, where it stands in this one
record OneHere (P : Event → Type 0) (n : ℕ) (here : Column → Option Placed) (e : Event) : Type 0 where
  column : (col : Column) (rest : List Placed) → in_front (here col) rest ≡ cond (stands_in col (record { at = n; event = e })) (record { at = n; event = e } ∷ rest) rest
  holds : P e

one_here : (P : Event → Type 0) (n : ℕ) (here : Column → Option Placed) (p : Placed) → ((col : Column) → IsHere P n col (here col)) → first_of here ≡ Some p → count_of here ≤ 1 → OneHere P n here p.event
one_here P n here p each first one =
    let o = only here p first one in
    let h : (p.at ≡ n) × (stands_in o.col p ≡ true) × P p.event = subst (IsHere P n o.col) o.is (each o.col) in
    let in_it : column_of_body p.event.body ≡ o.col = same_column_is _ _ h.1 in
    record {
      column = λ col rest. by o h.0 in_it col rest (same_column o.col col) refl;
      holds = h.2;
    }
  where
    by : (o : IsOnly here p) → p.at ≡ n → column_of_body p.event.body ≡ o.col → (col : Column) (rest : List Placed) (b : Bool) → same_column o.col col ≡ b
        → in_front (here col) rest ≡ cond (stands_in col (record { at = n; event = p.event })) (record { at = n; event = p.event } ∷ rest) rest
    by o at in_it col rest true same =
        let col_is : o.col ≡ col = same_column_is o.col col same in
        let stands : stands_in col (record { at = n; event = p.event }) ≡ true = ap (λ (c : Column). same_column c col) in_it ∙ same in
        ap (λ (o : Option Placed). in_front o rest) (ap here (sym col_is) ∙ o.is) ∙ (λ i. record { at = at i; event = p.event } ∷ rest)
        ∙ ap (λ b. cond b (record { at = n; event = p.event } ∷ rest) rest) (sym stands)
    by o at in_it col rest false same =
        let stands : stands_in col (record { at = n; event = p.event }) ≡ false = ap (λ (c : Column). same_column c col) in_it ∙ same in
        ap (λ (o : Option Placed). in_front o rest) (o.others col same) ∙ ap (λ b. cond b (record { at = n; event = p.event } ∷ rest) rest) (sym stands)

-- ---- all positions

all_found : (n : ℕ) (parts : Column → List Placed) → find (stands_at n) (all_of parts) ≡ first_of (λ col. find (stands_at n) (parts col))
all_found n parts =
    let a : List Placed = parts column.Structure in
    let b : List Placed = parts column.NodeAttr in
    let c : List Placed = parts column.EdgeAttr in
    let d : List Placed = parts column.Transient in
    find-append (stands_at n) (a ++ b ++ c) d
    ∙ ap (λ o. option_or o (find (stands_at n) d)) (find-append (stands_at n) (a ++ b) c ∙ ap (λ o. option_or o (find (stands_at n) c)) (find-append (stands_at n) a b))

all_long : (parts : Column → List Placed) → length (all_of parts) ≡ length (parts column.Structure) + length (parts column.NodeAttr) + length (parts column.EdgeAttr) + length (parts column.Transient)
all_long parts =
    let a : List Placed = parts column.Structure in
    let b : List Placed = parts column.NodeAttr in
    let c : List Placed = parts column.EdgeAttr in
    omega (arith, length-append (a ++ b ++ c) (parts column.Transient), length-append (a ++ b) c, length-append a b)

no_placed : (xs : List Placed) → length xs ≡ 0 → xs ≡ []
no_placed [] e = refl
no_placed (p ∷ xs) e = absurd (omega (arith, e))

one_at_least : (here : Column → Option Placed) (p : Placed) → first_of here ≡ Some p → 1 ≤ count_of here
one_at_least here p first = by (here column.Structure) (here column.NodeAttr) (here column.EdgeAttr) (here column.Transient) first
  where
    by : (s n e t : Option Placed) → option_or (option_or (option_or s n) e) t ≡ Some p → 1 ≤ counted_one s + counted_one n + counted_one e + counted_one t
    by (Some q) n e t first = omega arith
    by None (Some q) e t first = omega arith
    by None None (Some q) t first = omega arith
    by None None None (Some q) first = omega arith
    by None None None None first = absurd cc

pub unmerged : (P : Event → Type 0) (k n : ℕ) (parts : Column → List Placed) (events : List Event) → length (all_of parts) ≡ k
    → ((col : Column) → PositionsRise n (parts col)) → ((col : Column) → EachIn col (parts col)) → ((col : Column) → Holds P (parts col))
    → at_positions k n (all_of parts) ≡ Some events → Unmerged P n parts events × (length events ≡ k)
unmerged P zero n parts events len rise inside holds e =
    let nothing : List Event = [] in
    let long = all_long parts in
    subst (λ (events : List Event). Unmerged P n parts events × (length events ≡ 0)) (some_is nothing events e) (record { columns = λ col. by long col; each = tt }, refl)
  where
    by : length (all_of parts) ≡ length (parts column.Structure) + length (parts column.NodeAttr) + length (parts column.EdgeAttr) + length (parts column.Transient) → (col : Column) → parts col ≡ []
    by long column.Structure = no_placed (parts column.Structure) (omega (arith, len, long))
    by long column.NodeAttr = no_placed (parts column.NodeAttr) (omega (arith, len, long))
    by long column.EdgeAttr = no_placed (parts column.EdgeAttr) (omega (arith, len, long))
    by long column.Transient = no_placed (parts column.Transient) (omega (arith, len, long))
unmerged P (suc k) n parts events len rise inside holds e =
    let pop : (col : Column) → Popped n (parts col) = λ col. popped n (parts col) (rise col) in
    let here : Column → Option Placed = λ col. (pop col).here in
    let left : Column → List Placed = λ col. (pop col).rest in
    let found = then_is (λ (p : Placed). front_of p (at_positions k (n + 1) (all_of parts))) (find (stands_at n) (all_of parts)) events e in
    let more = map_is (λ (events : List Event). found.0.event ∷ events) (at_positions k (n + 1) (all_of parts)) events found.2 in
    let first : first_of here ≡ Some found.0 =
    (λ i. option_or (option_or (option_or (sym (pop column.Structure).found i) (sym (pop column.NodeAttr).found i)) (sym (pop column.EdgeAttr).found i)) (sym (pop column.Transient).found i))
    ∙ sym (all_found n parts) ∙ found.1 in
    let rest : at_positions k (n + 1) (all_of left) ≡ Some more.0 =
    same_found k (n + 1) (all_of left) (all_of parts)
    (λ j le. all_found j left ∙ sym (all_found j parts ∙ (λ i. option_or (option_or (option_or ((pop column.Structure).later j (omega (arith, le)) i) ((pop column.NodeAttr).later j (omega (arith, le)) i)) ((pop column.EdgeAttr).later j (omega (arith, le)) i)) ((pop column.Transient).later j (omega (arith, le)) i))))
    ∙ more.1 in
    let enough = room k (n + 1) (all_of left) more.0 rest in
    let sum : length (all_of parts) ≡ count_of here + length (all_of left) =
    omega (arith, all_long parts, all_long left, (pop column.Structure).len, (pop column.NodeAttr).len, (pop column.EdgeAttr).len, (pop column.Transient).len) in
    let one : count_of here ≤ 1 = omega (arith, enough, sum, len) in
    let some = one_at_least here found.0 first in
    let each : (col : Column) → IsHere P n col (here col) =
    λ col. is_here P n col (here col) (left col) (subst (PositionsRise n) (pop col).whole (rise col)) (ap (find (stands_at n)) (sym (pop col).whole) ∙ (pop col).found) (subst (EachIn col) (pop col).whole (inside col)) (subst (Holds P) (pop col).whole (holds col)) in
    let h = one_here P n here found.0 each first one in
    let deeper = unmerged P k (n + 1) left more.0 (omega (arith, len, sum, one, some)) (λ col. (pop col).rises)
    (λ col. each_rest (λ (p : Placed). stands_in col p ≡ true) (here col) (left col) (subst (EachIn col) (pop col).whole (inside col)))
    (λ col. each_rest (λ (p : Placed). P p.event) (here col) (left col) (subst (Holds P) (pop col).whole (holds col))) rest in
    subst (λ (events : List Event). Unmerged P n parts events × (length events ≡ suc k)) more.2 (
      record {
        columns = λ col. (pop col).whole ∙ ap (in_front (here col)) (deeper.0.columns col) ∙ h.column col (filter (stands_in col) (placed_from (n + 1) more.0));
        each = (h.holds, deeper.0.each);
      },
      ap suc deeper.1,
    )
