-- Which lists meet a range of instants: those behind the ones that have ended, and before the ones that begin behind it.
use Rattle.std.proofs.Common.{◌≡◌, ℕ, ◌<◌, ◌≤◌, Bool, true, false, ◌&&◌, Option, Some, None, is_some, refl, sym, ap, ◌∙◌, arith}
use Rattle.std.specs.Prelude.{nat_le, nat_lt}
use Rattle.std.proofs.lemmas.Bool.{false≢true, leb-true, leb-false, le-leb, lt-leb, lt-ltb, le-ltb, ltb-true, ltb-false}
use Rattle.dg_catalogue.specs.Entries.{Holdings}
use Rattle.dg_catalogue.specs.Held.{ends_of}
use Rattle.dg_catalogue.specs.Points.{ListsRise}
use Rattle.dg_heard.specs.Heard.{end_before}
use Rattle.dg_index.specs.declared.entry.Ends.{Ends}
use Rattle.dg_range.specs.Ranges.{begins_before, meets}

-- ---- a list and a later one

begins_earlier : (t : ℕ) (x y : Option Ends) → (is_some y ≡ true → is_some x ≡ true) → ((a b : Ends) → x ≡ Some a → y ≡ Some b → a.first ≤ b.first) → begins_before t y ≡ true → begins_before t x ≡ true
begins_earlier t x None held rise e = absurd (false≢true e)
begins_earlier t None (Some b) held rise e = absurd (false≢true (held refl))
begins_earlier t (Some a) (Some b) held rise e = lt-ltb a.first t (let h = ltb-true b.first t e in let r = rise a b refl refl in omega arith)

module _ (c : Holdings) (rises : ListsRise c) (t : ℕ) where
  -- all lists up to one that begins before the instant do
  pub begun_up_to : (i j : ℕ) → i ≤ j → begins_before t (ends_of c j) ≡ true → begins_before t (ends_of c i) ≡ true
  begun_up_to i j le e = begins_earlier t (ends_of c i) (ends_of c j) (rises.held i j le) (λ a b. rises.rise i j a b le) e

  -- and none from one on that does not
  pub later_from : (i j : ℕ) → i ≤ j → begins_before t (ends_of c i) ≡ false → begins_before t (ends_of c j) ≡ false
  later_from i j le e = by (begins_before t (ends_of c j)) refl
    where
      by : (b : Bool) → begins_before t (ends_of c j) ≡ b → b ≡ false
      by false f = refl
      by true f = absurd (false≢true (sym e ∙ begun_up_to i j le f))

-- ---- one list

none_of : (a b c : Bool) → c ≡ false → (a && (b && c)) ≡ false
none_of true true c e = e
none_of true false c e = refl
none_of false b c e = refl

none_if : (a b c : Bool) → b ≡ false → (a && (b && c)) ≡ false
none_if true b c e = ap (λ x. x && c) e
none_if false b c e = refl

all_of : (a b c : Bool) → a ≡ true → b ≡ true → c ≡ true → (a && (b && c)) ≡ true
all_of a b c e f g = λ i. e i && (f i && g i)

meets_ended : (from until : ℕ) (x : Option Ends) → end_before from x ≡ true → meets from until x ≡ false
meets_ended from until None e = refl
meets_ended from until (Some a) e =
    none_of (nat_lt from until) (nat_lt a.first until) (nat_le from a.last) (lt-leb from a.last (ltb-true a.last from e))

meets_later : (from until : ℕ) (x : Option Ends) → begins_before until x ≡ false → meets from until x ≡ false
meets_later from until None e = refl
meets_later from until (Some a) e = none_if (nat_lt from until) (nat_lt a.first until) (nat_le from a.last) e

meets_here : (from until : ℕ) (x : Option Ends) → from < until → end_before from x ≡ false → begins_before until x ≡ true → meets from until x ≡ true
meets_here from until None lt e f = absurd (false≢true f)
meets_here from until (Some a) lt e f =
    all_of (nat_lt from until) (nat_lt a.first until) (nat_le from a.last) (lt-ltb from until lt) f (le-leb from a.last (ltb-false a.last from e))

-- from the first that is open on, and before the first that is later
pub meets_between : (from until low high i : ℕ) (x : Option Ends) → from < until
    → (i < low → end_before from x ≡ true) → (low ≤ i → end_before from x ≡ false)
    → (low ≤ i → i < high → begins_before until x ≡ true) → (high ≤ i → begins_before until x ≡ false)
    → meets from until x ≡ (nat_le low i && nat_lt i high)
meets_between from until low high i x lt ended still begun later = by (nat_le low i) (nat_lt i high) refl refl
  where
    by : (a b : Bool) → nat_le low i ≡ a → nat_lt i high ≡ b → meets from until x ≡ (a && b)
    by true true e f =
        let at = leb-true low i e in
        meets_here from until x lt (still at) (begun at (ltb-true i high f))
    by true false e f = meets_later from until x (later (ltb-false i high f))
    by false b e f = meets_ended from until x (ended (leb-false low i e))

meets_empty : (from until : ℕ) (x : Option Ends) → until ≤ from → meets from until x ≡ false
meets_empty from until None le = refl
meets_empty from until (Some a) le = ap (λ b. b && (nat_lt a.first until && nat_le from a.last)) (le-ltb from until le)

and_none : (a b : Bool) → b ≡ false → (a && b) ≡ false
and_none true b e = e
and_none false b e = refl

-- nothing meets an empty range
pub meets_none : (from until i : ℕ) (x : Option Ends) → until ≤ from → meets from until x ≡ (nat_le 0 i && nat_lt i 0)
meets_none from until i x le = meets_empty from until x le ∙ sym (and_none (nat_le 0 i) (nat_lt i 0) (le-ltb i 0 (omega arith)))
