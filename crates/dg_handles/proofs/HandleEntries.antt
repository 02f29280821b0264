-- Entries of a table beside slots.
use Rattle.std.proofs.Common.{arith, ◌≡◌, ℕ, zero, suc, ◌<◌, Bool, true, false, cond, eqb, List, [], ◌∷◌, ◌++◌, Some, None, length, map, get_or, remove, refl, sym, ap, ◌∙◌, subst, ◌⊎◌, inl, inr, unwrap_or}
use Rattle.std.specs.List.{AllZip}
use Rattle.std.proofs.lemmas.Bool.{both_ways, eq-eqb, eqb-true, ne_eqb, or_cases, or_left, or_right}
use Rattle.dg_graph.specs.declared.element.Element.{Element}
use Rattle.dg_handles.specs.Handles.{graph_among, slot_of}
use Rattle.dg_handles.proofs.HandleNumbers.{listed_at}
use Rattle.dg_machine.specs.declared.stands.Stands.{Stands}
use Rattle.dg_machine.specs.MachineState.{dependent_on, stands_at, is_overlay_on}
use Rattle.dg_pool.specs.Changes.{AreDistinct}
use Rattle.dg_pool.specs.Graphs.{is_listed}

abbrev pub Entries : Type 0
Entries = List (ℕ × Stands)

abbrev pub handles_in : Entries → List ℕ
handles_in table = map (λ (e : ℕ × Stands). e.0) table

pub of_some : {A : Type 0} (a b : A) → Some a ≡ Some b → a ≡ b
of_some a b e = ap (λ o. unwrap_or o a) e

-- ---- any two lists

module _ {A B : Type 0} (R : A → B → Type 0) where
  pub zip-append : (xs us : List A) (ys vs : List B) → AllZip R xs ys → AllZip R us vs → AllZip R (xs ++ us) (ys ++ vs)
  zip-append [] us [] vs h g = g
  zip-append [] us (y ∷ ys) vs h g = absurd h
  zip-append (x ∷ xs) us [] vs h g = absurd h
  zip-append (x ∷ xs) us (y ∷ ys) vs h g = (h.0, zip-append xs us ys vs h.1 g)

  pub zip-remove : (xs : List A) (ys : List B) (i : ℕ) → AllZip R xs ys → AllZip R (remove xs i) (remove ys i)
  zip-remove [] [] zero h = tt
  zip-remove [] [] (suc i) h = tt
  zip-remove [] (y ∷ ys) i h = absurd h
  zip-remove (x ∷ xs) [] i h = absurd h
  zip-remove (x ∷ xs) (y ∷ ys) zero h = h.1
  zip-remove (x ∷ xs) (y ∷ ys) (suc i) h = (h.0, zip-remove xs ys i h.1)

  pub zip-length : (xs : List A) (ys : List B) → AllZip R xs ys → length ys ≡ length xs
  zip-length [] [] h = refl
  zip-length [] (y ∷ ys) h = absurd h
  zip-length (x ∷ xs) [] h = absurd h
  zip-length (x ∷ xs) (y ∷ ys) h = ap suc (zip-length xs ys h.1)

pub zip-map : {A B C : Type 0} (R : A → C → Type 0) (f : B → C) (xs : List A) (ys : List B) → AllZip (λ x y. R x (f y)) xs ys → AllZip R xs (map f ys)
zip-map R f [] [] h = tt
zip-map R f [] (y ∷ ys) h = absurd h
zip-map R f (x ∷ xs) [] h = absurd h
zip-map R f (x ∷ xs) (y ∷ ys) h = (h.0, zip-map R f xs ys h.1)

pub zip-of_map : {A B C : Type 0} (R : A → C → Type 0) (f : B → C) (xs : List A) (ys : List B) → AllZip R xs (map f ys) → AllZip (λ x y. R x (f y)) xs ys
zip-of_map R f [] [] h = tt
zip-of_map R f [] (y ∷ ys) h = absurd h
zip-of_map R f (x ∷ xs) [] h = absurd h
zip-of_map R f (x ∷ xs) (y ∷ ys) h = (h.0, zip-of_map R f xs ys h.1)

-- ---- a list beside numbers

module _ {A : Type 0} (R : A → ℕ → Type 0) where
  -- what follows of each pair, with a number that is listed
  pub zip-each : (S : A → ℕ → Type 0) (xs : List A) (slots : List ℕ) → AllZip R xs slots → ((x : A) (s : ℕ) → is_listed slots s ≡ true → R x s → S x s) → AllZip S xs slots
  zip-each S [] [] h f = tt
  zip-each S [] (s ∷ slots) h f = absurd h
  zip-each S (x ∷ xs) [] h f = absurd h
  zip-each S (x ∷ xs) (s ∷ slots) h f = (
    f x s (or_left (eqb s s) (is_listed slots s) (eq-eqb s s refl)) h.0,
    zip-each S xs slots h.1 (λ y t in'. f y t (or_right (eqb s t) (is_listed slots t) in')),
  )

  -- what stands beside a number that is listed
  pub beside : (xs : List A) (slots : List ℕ) → AllZip R xs slots → (s : ℕ) → is_listed slots s ≡ true → (x : A) × R x s
  beside [] [] h s in' = cc
  beside [] (t ∷ slots) h s in' = absurd h
  beside (x ∷ xs) [] h s in' = absurd h
  beside (x ∷ xs) (t ∷ slots) h s in' = at (or_cases (eqb t s) (is_listed slots s) in') (beside xs slots h.1 s)
    where
      at : (eqb t s ≡ true) ⊎ (is_listed slots s ≡ true) → (is_listed slots s ≡ true → (y : A) × R y s) → (y : A) × R y s
      at (inl e) rest = (x, subst (R x) (eqb-true t s e) h.0)
      at (inr e) rest = rest e

-- ---- what a table says of a handle

pub slot_listed : (handle : ℕ) (table : Entries) (slots : List ℕ) (s : ℕ) → slot_of handle table slots ≡ Some s → is_listed slots s ≡ true
slot_listed handle [] slots s is = cc
slot_listed handle (entry ∷ table) [] s is = cc
slot_listed handle (entry ∷ table) (slot ∷ slots) s is = at (eqb entry.0 handle) (slot_listed handle table slots s) is
  where
    at : (b : Bool) → (slot_of handle table slots ≡ Some s → is_listed slots s ≡ true) → cond b (Some slot) (slot_of handle table slots) ≡ Some s → is_listed (slot ∷ slots) s ≡ true
    at true rest e = or_left (eqb slot s) (is_listed slots s) (eq-eqb slot s (of_some slot s e))
    at false rest e = or_right (eqb slot s) (is_listed slots s) (rest e)

-- the slot beside a handle's entry
pub slot_beside : (P : Stands → ℕ → Type 0) (handle : ℕ) (table : Entries) (slots : List ℕ) → AllZip (λ (entry : ℕ × Stands) (s : ℕ). P entry.1 s) table slots
    → (e : Stands) → stands_at handle table ≡ Some e → (s : ℕ) × (slot_of handle table slots ≡ Some s) × P e s
slot_beside P handle [] slots h e is = cc
slot_beside P handle (entry ∷ table) [] h e is = absurd h
slot_beside P handle (entry ∷ table) (slot ∷ slots) h e is = at (eqb entry.0 handle) (slot_beside P handle table slots h.1 e) is
  where
    at : (b : Bool) → (stands_at handle table ≡ Some e → (s : ℕ) × (slot_of handle table slots ≡ Some s) × P e s) → cond b (Some entry.1) (stands_at handle table) ≡ Some e
        → (s : ℕ) × (cond b (Some slot) (slot_of handle table slots) ≡ Some s) × P e s
    at true rest same = (slot, refl, subst (λ (x : Stands). P x slot) (of_some entry.1 e same) h.0)
    at false rest same = rest same

-- the graph of a handle is that of its slot
pub graph_beside : (f : ℕ → List Element) (handle : ℕ) (table : Entries) (slots : List ℕ) (s : ℕ) → slot_of handle table slots ≡ Some s → graph_among handle table (map f slots) ≡ Some (f s)
graph_beside f handle [] slots s is = cc
graph_beside f handle (entry ∷ table) [] s is = cc
graph_beside f handle (entry ∷ table) (slot ∷ slots) s is = at (eqb entry.0 handle) (graph_beside f handle table slots s) is
  where
    at : (b : Bool) → (slot_of handle table slots ≡ Some s → graph_among handle table (map f slots) ≡ Some (f s)) → cond b (Some slot) (slot_of handle table slots) ≡ Some s
        → cond b (Some (f slot)) (graph_among handle table (map f slots)) ≡ Some (f s)
    at true rest e = ap (λ n. Some (f n)) (of_some slot s e)
    at false rest e = rest e

-- ---- more entries

pub entry_append : (handle : ℕ) (table more : Entries) (e : Stands) → stands_at handle table ≡ Some e → stands_at handle (table ++ more) ≡ Some e
entry_append handle [] more e is = cc
entry_append handle (entry ∷ table) more e is = at (eqb entry.0 handle) (entry_append handle table more e) is
  where
    at : (b : Bool) → (stands_at handle table ≡ Some e → stands_at handle (table ++ more) ≡ Some e) → cond b (Some entry.1) (stands_at handle table) ≡ Some e
        → cond b (Some entry.1) (stands_at handle (table ++ more)) ≡ Some e
    at true rest same = same
    at false rest same = rest same

pub slot_append : (handle : ℕ) (table more : Entries) (slots others : List ℕ) (s : ℕ) → slot_of handle table slots ≡ Some s → slot_of handle (table ++ more) (slots ++ others) ≡ Some s
slot_append handle [] more slots others s is = cc
slot_append handle (entry ∷ table) more [] others s is = cc
slot_append handle (entry ∷ table) more (slot ∷ slots) others s is = at (eqb entry.0 handle) (slot_append handle table more slots others s) is
  where
    at : (b : Bool) → (slot_of handle table slots ≡ Some s → slot_of handle (table ++ more) (slots ++ others) ≡ Some s) → cond b (Some slot) (slot_of handle table slots) ≡ Some s
        → cond b (Some slot) (slot_of handle (table ++ more) (slots ++ others)) ≡ Some s
    at true rest same = same
    at false rest same = rest same

-- ---- an entry less

pub entry_remove : (handle : ℕ) (table : Entries) (entry_index : ℕ) → entry_index < length table → (get_or (handles_in table) entry_index 0 ≡ handle → ⊥) → stands_at handle (remove table entry_index) ≡ stands_at handle table
entry_remove handle [] entry_index within differ = absurd (omega (arith, within))
entry_remove handle (entry ∷ table) zero within differ = sym (ap (λ b. cond b (Some entry.1) (stands_at handle table)) (ne_eqb entry.0 handle differ))
entry_remove handle (entry ∷ table) (suc entry_index) within differ = ap (λ o. cond (eqb entry.0 handle) (Some entry.1) o) (entry_remove handle table entry_index (omega (arith, within)) differ)

pub slot_remove : (handle : ℕ) (table : Entries) (slots : List ℕ) (entry_index : ℕ) → length slots ≡ length table → entry_index < length table → (get_or (handles_in table) entry_index 0 ≡ handle → ⊥)
    → slot_of handle (remove table entry_index) (remove slots entry_index) ≡ slot_of handle table slots
slot_remove handle [] slots entry_index many within differ = absurd (omega (arith, within))
slot_remove handle (entry ∷ table) [] entry_index many within differ = absurd (omega (arith, many))
slot_remove handle (entry ∷ table) (slot ∷ slots) zero many within differ = sym (ap (λ b. cond b (Some slot) (slot_of handle table slots)) (ne_eqb entry.0 handle differ))
slot_remove handle (entry ∷ table) (slot ∷ slots) (suc entry_index) many within differ =
    ap (λ o. cond (eqb entry.0 handle) (Some slot) o) (slot_remove handle table slots entry_index (omega (arith, many)) (omega (arith, within)) differ)

-- a slot is that of one handle
pub slot_apart : (handle : ℕ) (table : Entries) (slots : List ℕ) (entry_index : ℕ) → AreDistinct slots → length slots ≡ length table → entry_index < length table
    → slot_of handle table slots ≡ Some (get_or slots entry_index 0) → get_or (handles_in table) entry_index 0 ≡ handle
slot_apart handle [] slots entry_index apart many within is = absurd (omega (arith, within))
slot_apart handle (entry ∷ table) [] entry_index apart many within is = absurd (omega (arith, many))
slot_apart handle (entry ∷ table) (slot ∷ slots) zero apart many within is = at (eqb entry.0 handle) refl is
  where
    at : (b : Bool) → eqb entry.0 handle ≡ b → cond b (Some slot) (slot_of handle table slots) ≡ Some slot → entry.0 ≡ handle
    at true same e = eqb-true entry.0 handle same
    at false same e = absurd (both_ways (is_listed slots slot) apart.0 (slot_listed handle table slots slot e))
slot_apart handle (entry ∷ table) (slot ∷ slots) (suc entry_index) apart many within is =
    at (eqb entry.0 handle) (slot_apart handle table slots entry_index apart.1 (omega (arith, many)) (omega (arith, within))) is
  where
    there : entry_index < length slots
    there = omega (arith, within, many)

    at : (b : Bool) → (slot_of handle table slots ≡ Some (get_or slots entry_index 0) → get_or (handles_in table) entry_index 0 ≡ handle)
        → cond b (Some slot) (slot_of handle table slots) ≡ Some (get_or slots entry_index 0) → get_or (handles_in table) entry_index 0 ≡ handle
    at true rest e = absurd (both_ways (is_listed slots slot) apart.0 (ap (is_listed slots) (of_some slot (get_or slots entry_index 0) e) ∙ listed_at slots entry_index 0 there))
    at false rest e = rest e

-- no entry rests on a handle on which none depends
pub none_dependent : (R : ℕ × Stands → ℕ → Type 0) (handle : ℕ) (table : Entries) (slots : List ℕ) → dependent_on handle table ≡ None → AllZip R table slots
    → AllZip (λ (entry : ℕ × Stands) (s : ℕ). R entry s × (is_overlay_on handle entry.1 ≡ false)) table slots
none_dependent R handle [] [] none h = tt
none_dependent R handle [] (s ∷ slots) none h = absurd h
none_dependent R handle (entry ∷ table) [] none h = absurd h
none_dependent R handle (entry ∷ table) (s ∷ slots) none h = at (is_overlay_on handle entry.1) refl (λ e. none_dependent R handle table slots e h.1) none
  where
    at : (b : Bool) → is_overlay_on handle entry.1 ≡ b → (dependent_on handle table ≡ None → AllZip (λ (x : ℕ × Stands) (t : ℕ). R x t × (is_overlay_on handle x.1 ≡ false)) table slots)
        → cond b (Some entry.0) (dependent_on handle table) ≡ None
        → (R entry s × (is_overlay_on handle entry.1 ≡ false)) × AllZip (λ (x : ℕ × Stands) (t : ℕ). R x t × (is_overlay_on handle x.1 ≡ false)) table slots
    at true is rest e = cc
    at false is rest e = ((h.0, is), rest e)
