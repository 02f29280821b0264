-- The lists that have begun by an instant, and how many there are.
use Rattle.std.proofs.Common.{◌≡◌, ℕ, zero, suc, ◌+◌, ◌<◌, ◌≤◌, max, Bool, true, false, cond, List, [], ◌∷◌, Option, Some, None, is_some, option_and_then, refl, sym, subst, ◌∙◌, arith}
use Rattle.std.proofs.Math.Nat.{le-max_left, le-max_right, max-le}
use Rattle.std.proofs.lemmas.Bool.{le-leb, leb-true, false≢true}
use Rattle.std.specs.Map.{keys_of, lookup}
use Rattle.dg_history.specs.declared.node.Key.{Key}
use Rattle.dg_history.specs.declared.node.Key.TheVariants as key
use Rattle.dg_history.specs.Keys.{same_key}
use Rattle.dg_index.specs.declared.entry.Ends.{Ends}
use Rattle.dg_index.specs.declared.entry.Entry.{Entry}
use Rattle.dg_catalogue.specs.declared.catalogue.TheConstants.{LISTS_MAX}
use Rattle.dg_catalogue.specs.Entries.{Holdings}
use Rattle.dg_catalogue.specs.Held.{entry_of, ends_of}
use Rattle.dg_catalogue.specs.Points.{ListsRise, begin_by, has_begun, after_begun, after_all_begun, begun_by}
use Rattle.dg_catalogue.proofs.EntryRecords.{same_key_exact}

begins_before : (t : ℕ) (x y : Option Ends) → (is_some y ≡ true → is_some x ≡ true) → ((a b : Ends) → x ≡ Some a → y ≡ Some b → a.first ≤ b.first) → begin_by t y ≡ true → begin_by t x ≡ true
begins_before t x None held rise e = absurd (false≢true e)
begins_before t None (Some b) held rise e = absurd (false≢true (held refl))
begins_before t (Some a) (Some b) held rise e = le-leb a.first t (omega (arith, leb-true b.first t e, rise a b refl refl))

module _ (c : Holdings) (t : ℕ) where
  -- a list has begun where a later one has
  pub earlier_begun : ListsRise c → (i j : ℕ) → i ≤ j → has_begun c t j ≡ true → has_begun c t i ≡ true
  earlier_begun rises i j le e = begins_before t (ends_of c i) (ends_of c j) (rises.held i j le) (λ a b. rises.rise i j a b le) e

  -- and has not where an earlier one has not
  pub later_not_begun : ListsRise c → (i j : ℕ) → i ≤ j → has_begun c t i ≡ false → has_begun c t j ≡ false
  later_not_begun rises i j le e = by (has_begun c t j) refl
    where
      by : (b : Bool) → has_begun c t j ≡ b → b ≡ false
      by false f = refl
      by true f = absurd (false≢true (sym e ∙ earlier_begun rises i j le f))

  is_held : (o : Option Entry) → begin_by t (option_and_then (λ (e : Entry). e.ends) o) ≡ true → is_some o ≡ true
  is_held None e = absurd (false≢true e)
  is_held (Some r) e = refl

  -- no list has so great a number
  pub none_beyond : ((r : Entry) (i : ℕ) → entry_of c (key.List i) ≡ Some r → i < LISTS_MAX) → (i : ℕ) → LISTS_MAX ≤ i → has_begun c t i ≡ false
  none_beyond numbered i le = by (entry_of c (key.List i)) refl
    where
      by : (o : Option Entry) → entry_of c (key.List i) ≡ o → begin_by t (option_and_then (λ (e : Entry). e.ends) o) ≡ false
      by None e = refl
      by (Some r) e = absurd (let lt : i < LISTS_MAX = numbered r i e in omega (arith, lt, le))

  -- ---- how many there are

  at_most : (m : ℕ) → ((i : ℕ) → m ≤ i → has_begun c t i ≡ false) → (k : Key) → after_begun c t k ≤ m
  at_most m rest (key.List i) = by (has_begun c t i) refl
    where
      by : (b : Bool) → has_begun c t i ≡ b → cond b (i + 1) 0 ≤ m
      by false e = omega arith
      by true e = let far : m ≤ i → ⊥ = (λ le. false≢true (sym (rest i le) ∙ e)) in omega (arith, far)
  at_most m rest (key.Piece s) = omega arith
  at_most m rest (key.Top h) = omega arith
  at_most m rest (key.Down h d) = omega arith

  all_at_most : (m : ℕ) → ((i : ℕ) → m ≤ i → has_begun c t i ≡ false) → (keys : List Key) → after_all_begun c t keys ≤ m
  all_at_most m rest [] = omega arith
  all_at_most m rest (k ∷ keys) = max-le (at_most m rest k) (all_at_most m rest keys)

  at_least : (i : ℕ) → has_begun c t i ≡ true → (es : List (Key × Entry)) → is_some (lookup (same_key (key.List i)) es) ≡ true → i + 1 ≤ after_all_begun c t (keys_of es)
  at_least i begun [] e = absurd (false≢true e)
  at_least i begun (x ∷ es) e = by (same_key (key.List i) x.0) refl e (at_least i begun es)
    where
      here : same_key (key.List i) x.0 ≡ true → i + 1 ≤ after_begun c t x.0
      here s = subst (λ k. i + 1 ≤ after_begun c t k) (same_key_exact (key.List i) x.0 s) (subst (λ b. i + 1 ≤ cond b (i + 1) 0) (sym begun) (let z : i + 1 ≤ i + 1 = omega arith in z))

      by : (b : Bool) → same_key (key.List i) x.0 ≡ b → is_some (cond b (Some x.1) (lookup (same_key (key.List i)) es)) ≡ true
          → (is_some (lookup (same_key (key.List i)) es) ≡ true → i + 1 ≤ after_all_begun c t (keys_of es))
          → i + 1 ≤ max (after_begun c t x.0) (after_all_begun c t (keys_of es))
      by true s f rest = let h = here s in omega (arith, h, le-max_left (after_begun c t x.0) (after_all_begun c t (keys_of es)))
      by false s f rest = let h = rest f in omega (arith, h, le-max_right (after_begun c t x.0) (after_all_begun c t (keys_of es)))

  -- as many lists have begun as there are numbers below the first that has not
  pub begun_is : (m : ℕ) → ((i : ℕ) → i < m → has_begun c t i ≡ true) → ((i : ℕ) → m ≤ i → has_begun c t i ≡ false) → m ≡ begun_by c t
  begun_is m begun rest =
      let most : begun_by c t ≤ m = all_at_most m rest (keys_of c.entries) in
      let least : m ≤ begun_by c t = reached m begun in
      omega (arith, most, least)
    where
      reached : (m : ℕ) → ((i : ℕ) → i < m → has_begun c t i ≡ true) → m ≤ begun_by c t
      reached zero begun = omega arith
      reached (suc i) begun =
          let last : has_begun c t i ≡ true = begun i (omega arith) in
          let h = at_least i last c.entries (is_held (entry_of c (key.List i)) last) in
          omega (arith, h)
