-- Which lists have ended before an instant, and between whose times it lies.
use Rattle.std.proofs.Common.{◌≡◌, ℕ, ◌+◌, ◌<◌, ◌≤◌, Bool, true, false, ◌&&◌, ◌||◌, List, take, length, get_or, Option, Some, None, is_some, refl, sym, ap, ◌∙◌, arith}
use Rattle.std.specs.Prelude.{nat_le, nat_lt, option_and_then}
use Rattle.std.specs.Map.{lookup}
use Rattle.std.proofs.lemmas.Bool.{leb-false, ltb-true, ltb-false, le-leb, lt-leb, lt-ltb, false≢true}
use Rattle.std.proofs.lemmas.List.Folds.{list_any_more}
use Rattle.dg_history.specs.declared.node.Key.TheVariants as key
use Rattle.dg_history.specs.Keys.{same_key}
use Rattle.dg_index.specs.declared.entry.Ends.{Ends}
use Rattle.dg_index.specs.declared.entry.Entry.{Entry}
use Rattle.dg_index.specs.OpenedIndex.{Opening, entry_at, entry_or_none}
use Rattle.dg_catalogue.specs.Entries.{Holdings}
use Rattle.dg_catalogue.specs.Held.{ends_of}
use Rattle.dg_catalogue.specs.Points.{ListsRise}
use Rattle.dg_heard.specs.Heard.{end_before, is_heard, lies_between}

-- ---- the times of two lists

ends_earlier : (t : ℕ) (x y : Option Ends) → (is_some y ≡ true → is_some x ≡ true) → ((a b : Ends) → x ≡ Some a → y ≡ Some b → a.last ≤ b.last) → end_before t y ≡ true → end_before t x ≡ true
ends_earlier t x None held rise e = absurd (false≢true e)
ends_earlier t None (Some b) held rise e = absurd (false≢true (held refl))
ends_earlier t (Some a) (Some b) held rise e = lt-ltb a.last t (let h = ltb-true b.last t e in let r = rise a b refl refl in omega arith)

-- an instant does not lie between the times of a list that has ended before it
pub lies_behind : (t : ℕ) (x : Option Ends) → end_before t x ≡ true → lies_between t x ≡ false
lies_behind t None e = refl
lies_behind t (Some a) e = by (nat_le a.first t) (lt-leb t a.last (ltb-true a.last t e))
  where
    by : (b : Bool) → nat_le t a.last ≡ false → (b && nat_le t a.last) ≡ false
    by true f = f
    by false f = refl

-- it lies before a list that has not ended, and so before one that begins no earlier
begins_later : (t : ℕ) (x y : Option Ends) → (is_some y ≡ true → is_some x ≡ true) → ((a b : Ends) → x ≡ Some a → y ≡ Some b → a.first ≤ b.first) → end_before t x ≡ false → lies_between t x ≡ false → lies_between t y ≡ false
begins_later t x None held rise e f = refl
begins_later t None (Some b) held rise e f = absurd (false≢true (held refl))
begins_later t (Some a) (Some b) held rise e f =
    by (nat_le a.first t) refl f
  where
    open_still : nat_le t a.last ≡ true
    open_still = le-leb t a.last (ltb-false a.last t e)

    by : (before : Bool) → nat_le a.first t ≡ before → (before && nat_le t a.last) ≡ false → (nat_le b.first t && nat_le t b.last) ≡ false
    by true is g = absurd (false≢true (sym g ∙ open_still))
    by false is g =
        let late : t < a.first = leb-false a.first t is in
        let r : a.first ≤ b.first = rise a b refl refl in
        ap (λ z. z && nat_le t b.last) (lt-leb b.first t (omega arith))

-- ---- the lists of a catalogue

module _ (c : Holdings) (rises : ListsRise c) (t : ℕ) where
  last_rises : (i j : ℕ) → i < j → (a b : Ends) → ends_of c i ≡ Some a → ends_of c j ≡ Some b → a.last ≤ b.last
  last_rises i j less a b at_i at_j = let h = rises.apart i j a b less at_i at_j in let w = rises.within j b at_j in omega arith

  -- a list has ended where a later one has
  earlier_ended : (i j : ℕ) → i < j → end_before t (ends_of c j) ≡ true → end_before t (ends_of c i) ≡ true
  earlier_ended i j less e = ends_earlier t (ends_of c i) (ends_of c j) (rises.held i j (omega arith)) (last_rises i j less) e

  -- all lists up to one that has ended have
  pub ended_up_to : (i j : ℕ) → i ≤ j → end_before t (ends_of c j) ≡ true → end_before t (ends_of c i) ≡ true
  ended_up_to i j le e = by (nat_lt i j) refl
    where
      by : (b : Bool) → nat_lt i j ≡ b → end_before t (ends_of c i) ≡ true
      by true is = earlier_ended i j (ltb-true i j is) e
      by false is = let same : i ≡ j = (let h = ltb-false i j is in omega arith) in ap (λ n. end_before t (ends_of c n)) same ∙ e

  -- and none from one on that has not
  pub open_from : (i j : ℕ) → i ≤ j → end_before t (ends_of c i) ≡ false → end_before t (ends_of c j) ≡ false
  open_from i j le e = by (end_before t (ends_of c j)) refl
    where
      by : (b : Bool) → end_before t (ends_of c j) ≡ b → b ≡ false
      by false f = refl
      by true f = absurd (false≢true (sym e ∙ ended_up_to i j le f))

  -- behind a list that has not ended and has not begun the instant lies nowhere
  between_none : (i j : ℕ) → i ≤ j → end_before t (ends_of c i) ≡ false → lies_between t (ends_of c i) ≡ false → lies_between t (ends_of c j) ≡ false
  between_none i j le e f = begins_later t (ends_of c i) (ends_of c j) (rises.held i j le) (λ a b. rises.rise i j a b le) e f

  -- nor before it, where all before it have ended
  pub before_or_from : (i k : ℕ) → (k < i → end_before t (ends_of c k) ≡ true) → (i ≤ k → end_before t (ends_of c i) ≡ false) → lies_between t (ends_of c i) ≡ false → lies_between t (ends_of c k) ≡ false
  before_or_from i k ended still f = by (nat_lt k i) refl
    where
      by : (b : Bool) → nat_lt k i ≡ b → lies_between t (ends_of c k) ≡ false
      by true is = lies_behind t (ends_of c k) (ended (ltb-true k i is))
      by false is = let le : i ≤ k = ltb-false k i is in between_none i k le (still le) f

-- ---- the lists of an index

-- the times that a catalogue holds are those that the index keeps
pub ends_are : (o : Opening) (c : Holdings) → c.entries ≡ o.records → (i : ℕ) → ends_of c i ≡ (entry_at o (key.List i)).ends
ends_are o c same i = ap (λ es. option_and_then (λ (e : Entry). e.ends) (lookup (same_key (key.List i)) es)) same ∙ by (lookup (same_key (key.List i)) o.records)
  where
    by : (x : Option Entry) → option_and_then (λ (e : Entry). e.ends) x ≡ (entry_or_none x).ends
    by None = refl
    by (Some e) = refl

or_both : (a b : Bool) → a ≡ false → b ≡ false → (a || b) ≡ false
or_both true b e f = e
or_both false b e f = f

or_first : (a b : Bool) → a ≡ true → (a || b) ≡ true
or_first true b e = refl
or_first false b e = absurd (false≢true e)

or_second : (a b : Bool) → b ≡ true → (a || b) ≡ true
or_second true b e = refl
or_second false b e = e

module _ (o : Opening) (c : Holdings) (same : c.entries ≡ o.records) (times : List ℕ) (n : ℕ) (t : ℕ) (within : n < length times) (at : t ≡ get_or times n 0) where
  more : (i : ℕ) → is_heard o (take (n + 1) times) i ≡ (is_heard o (take n times) i || lies_between t (ends_of c i))
  more i =
      list_any_more (λ u. lies_between u (entry_at o (key.List i)).ends) times n 0 within
      ∙ ap (λ u. is_heard o (take n times) i || lies_between u (entry_at o (key.List i)).ends) (sym at)
      ∙ ap (λ ends. is_heard o (take n times) i || lies_between t ends) (sym (ends_are o c same i))

  -- with one instant more: a list is not heard for it either, or is
  pub heard_for_none : (i : ℕ) → is_heard o (take n times) i ≡ false → lies_between t (ends_of c i) ≡ false → is_heard o (take (n + 1) times) i ≡ false
  heard_for_none i e f = more i ∙ or_both _ _ e f

  heard_before : (i : ℕ) → is_heard o (take n times) i ≡ true → is_heard o (take (n + 1) times) i ≡ true
  heard_before i e = more i ∙ or_first _ _ e

  heard_for_next : (i : ℕ) → lies_between t (ends_of c i) ≡ true → is_heard o (take (n + 1) times) i ≡ true
  heard_for_next i e = more i ∙ or_second (is_heard o (take n times) i) _ e

  -- the first that is heard so far, or an earlier one that is for the next instant
  pub heard_or_next : (next found total : ℕ) → found ≤ next → (next < total → is_heard o (take n times) next ≡ true) → (found < next → lies_between t (ends_of c found) ≡ true) → found < total → is_heard o (take (n + 1) times) found ≡ true
  heard_or_next next found total le so_far between less = by (nat_lt found next) refl
    where
      by : (b : Bool) → nat_lt found next ≡ b → is_heard o (take (n + 1) times) found ≡ true
      by true is = heard_for_next found (between (ltb-true found next is))
      by false is =
          let same : found ≡ next = (let h = ltb-false found next is in omega arith) in
          heard_before found (ap (is_heard o (take n times)) same ∙ so_far (let h : next < total = omega arith in h))
