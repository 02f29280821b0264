-- What a search in a set, and a test of the order of a list, say.
use Rattle.std.specs.Prelude.{ℕ, ◌≡◌, ◌<◌, ◌≤◌, ◌-◌, true, false, List, [], ◌∷◌, length, take, drop, filter, IsTrue, IsFalse, slice_index_or}
use Rattle.std.specs.List.{insert, remove}
use Rattle.std.specs.declared.cmp.Ordering.{Ordering}
use Rattle.std.specs.declared.cmp.Ordering.TheVariants.{Less}
use Rattle.dg_graph.specs.declared.element.Element.{Element}
use Rattle.dg_graph.specs.Elements.{element_cmp, IsSet, before, has, put, take_out}

-- the element is in the set, at this index
pub record StandsAt (x : Element) (set : List Element) (index : ℕ) : Type 0 where
  pub within : index < length set
  pub there : has set x ≡ true
  pub kept : put x set ≡ set
  pub out : take_out x set ≡ remove set index
  pub rises : IsSet (remove set index)

-- the element is not in the set, and would stand at this index
pub record BelongsAt (x : Element) (set : List Element) (index : ℕ) : Type 0 where
  pub within : index ≤ length set
  pub absent : has set x ≡ false
  pub kept : take_out x set ≡ set
  pub added : put x set ≡ insert set index x
  pub rises : IsSet (insert set index x)

-- the items in front of the one index come before the element, and those from the other on after it
pub record IsWithin (x : Element) (items : List Element) (low high : ℕ) : Type 0 where
  pub order : low ≤ high
  pub within : high ≤ length items
  pub front : (k : ℕ) (d : Element) → k < low → IsTrue (before (slice_index_or items k d) x)
  pub back : (k : ℕ) (d : Element) → high ≤ k → k < length items → IsTrue (before x (slice_index_or items k d))

-- those of the list that come before the element, and those that come after it
abbrev pub before_it : Element → List Element → List Element
before_it x items = filter (λ y. before y x) items

abbrev pub behind_it : Element → List Element → List Element
behind_it x items = filter (λ y. before x y) items

-- the items that come before the element end at the one index, and those that come after it begin at the other
pub record IsRange (x : Element) (items : List Element) (end start : ℕ) : Type 0 where
  pub order : end ≤ start
  pub within : start ≤ length items
  pub front : take end items ≡ before_it x items
  pub back : drop start items ≡ behind_it x items

-- the first index whose item is not greater than the one before it
pub record IsFirstFault (items : List Element) (index : ℕ) : Type 0 where
  pub past_first : 0 < index
  pub within : index < length items
  pub rises : IsSet (take index items)
  pub fault : (d : Element) → IsFalse (before (slice_index_or items (index - 1) d) (slice_index_or items index d))

-- how the element stands to the first of the items; it stands before the end of them
abbrev pub first_cmp : Element → List Element → Ordering
first_cmp x [] = Less
first_cmp x (y ∷ ys) = element_cmp x y
