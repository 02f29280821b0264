-- Slots that are ended one after another.
use Rattle.std.proofs.Common.{arith, ◌≡◌, ℕ, ◌+◌, ◌<◌, Bool, true, false, ◌||◌, eqb, List, Option, Some, None, IsSome, length, take, get_or, refl, sym, ap, ◌∙◌, subst, ◌⊎◌, inl, inr}
use Rattle.std.proofs.lemmas.Bool.{cases_Bool, both_ways, eq-eqb, eqb-true, or_parts}
use Rattle.std.proofs.lemmas.List.{get_or-map, take_more}
use Rattle.std.proofs.Math.ListN.{length-map}
use Rattle.dg_handles.proofs.HandleNumbers.{distinct_before, listed_at, listed_push}
use Rattle.dg_pool.specs.declared.slots.Slot.{Slot}
use Rattle.dg_pool.specs.Changes.{AreDistinct, NoneRestsOn, numbers_of}
use Rattle.dg_pool.specs.Graphs.{PoolState, SlotGraph, is_listed, slot_graph}

-- the slots before this index were ended, and no other graph has changed
module _ (old mid : PoolState) (slots : List Slot) (i : ℕ) where
  abbrev AreGone : Type 0
  AreGone = (s : ℕ) → is_listed (take i (numbers_of slots)) s ≡ true → slot_graph mid s ≡ None

  abbrev AreKept : Type 0
  AreKept = (s : ℕ) → is_listed (take i (numbers_of slots)) s ≡ false → slot_graph mid s ≡ slot_graph old s

  module _ (d : Slot) (within : i < length slots) where
    number : get_or (numbers_of slots) i 0 ≡ (get_or slots i d).0
    number = get_or-map (λ (s : Slot). s.0) slots i d 0 within

    inside : i < length (numbers_of slots)
    inside = let many = length-map slots (λ (s : Slot). s.0) in omega (arith, many, within)

    pub still_live : ((s : ℕ) → is_listed (numbers_of slots) s ≡ true → IsSome (slot_graph old s)) → AreDistinct (numbers_of slots) → AreKept → IsSome (slot_graph mid (get_or slots i d).0)
    still_live live apart kept =
        let k : ℕ = get_or (numbers_of slots) i 0 in
        subst (λ (n : ℕ). IsSome (slot_graph mid n)) number
        (subst (λ (o : Option SlotGraph). IsSome o) (sym (kept k (distinct_before (numbers_of slots) i 0 apart inside))) (live k (listed_at (numbers_of slots) i 0 inside)))

    pub still_unused : ((s : ℕ) → is_listed (numbers_of slots) s ≡ true → NoneRestsOn old s) → AreGone → AreKept → NoneRestsOn mid (get_or slots i d).0
    still_unused unused gone kept = λ t g b is rests same.
        unused (get_or slots i d).0 (sym (ap (is_listed (numbers_of slots)) number) ∙ listed_at (numbers_of slots) i 0 inside) t g b
        (at t g is (cases_Bool (is_listed (take i (numbers_of slots)) t))) rests same
      where
        at : (t : ℕ) (g : SlotGraph) → slot_graph mid t ≡ Some g → (is_listed (take i (numbers_of slots)) t ≡ true) ⊎ (is_listed (take i (numbers_of slots)) t ≡ false) → slot_graph old t ≡ Some g
        at t g is (inl e) = let none = gone t e in cc
        at t g is (inr e) = sym (kept t e) ∙ is

    listed_more : (s : ℕ) → is_listed (take (i + 1) (numbers_of slots)) s ≡ (is_listed (take i (numbers_of slots)) s || eqb (get_or slots i d).0 s)
    listed_more s =
        ap (λ (l : List ℕ). is_listed l s) (take_more (numbers_of slots) i 0 inside) ∙ listed_push (take i (numbers_of slots)) (get_or (numbers_of slots) i 0) s
        ∙ ap (λ n. is_listed (take i (numbers_of slots)) s || eqb n s) number

    pub detached_more : (new : PoolState) → AreGone → AreKept → slot_graph new (get_or slots i d).0 ≡ None → ((s : ℕ) → (s ≡ (get_or slots i d).0 → ⊥) → slot_graph new s ≡ slot_graph mid s)
        → ((s : ℕ) → is_listed (take (i + 1) (numbers_of slots)) s ≡ true → slot_graph new s ≡ None) × ((s : ℕ) → is_listed (take (i + 1) (numbers_of slots)) s ≡ false → slot_graph new s ≡ slot_graph old s)
    detached_more new gone kept ended others =
        (λ s e. at_gone s (cases_Bool (eqb (get_or slots i d).0 s)) (sym (listed_more s) ∙ e), λ s e. at_kept s (or_parts (is_listed (take i (numbers_of slots)) s) (eqb (get_or slots i d).0 s) (sym (listed_more s) ∙ e)))
      where
        apart : (s : ℕ) → eqb (get_or slots i d).0 s ≡ false → s ≡ (get_or slots i d).0 → ⊥
        apart s e same = both_ways (eqb (get_or slots i d).0 s) e (eq-eqb (get_or slots i d).0 s (sym same))

        at_gone : (s : ℕ) → (eqb (get_or slots i d).0 s ≡ true) ⊎ (eqb (get_or slots i d).0 s ≡ false) → (is_listed (take i (numbers_of slots)) s || eqb (get_or slots i d).0 s) ≡ true → slot_graph new s ≡ None
        at_gone s (inl f) e = ap (slot_graph new) (sym (eqb-true (get_or slots i d).0 s f)) ∙ ended
        at_gone s (inr f) e = others s (apart s f) ∙ gone s (first (is_listed (take i (numbers_of slots)) s) (eqb (get_or slots i d).0 s) f e)
          where
            first : (a b : Bool) → b ≡ false → (a || b) ≡ true → a ≡ true
            first true b f e = refl
            first false b f e = sym f ∙ e

        at_kept : (s : ℕ) → (is_listed (take i (numbers_of slots)) s ≡ false) × (eqb (get_or slots i d).0 s ≡ false) → slot_graph new s ≡ slot_graph old s
        at_kept s e = others s (apart s e.1) ∙ kept s e.0
