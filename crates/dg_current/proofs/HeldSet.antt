-- That what the entries change of the elements at the start leads from them to those now.
use Rattle.std.proofs.Common.{◌≡◌, ℕ, ◌+◌, ◌<◌, Bool, true, false, cond, not, ◌&&◌, ◌||◌, List, [], ◌∷◌, ◌++◌, length, drop, get_or, append_assoc, Option, Some, None, refl, sym, ap, ◌∙◌, ◌⊎◌, inl, inr}
use Rattle.std.proofs.lemmas.Bool.{true≢false, false≢true, or_left, or_right}
use Rattle.std.proofs.lemmas.List.{drop_more}
use Rattle.std.proofs.lemmas.Option.{get_or_from_slice_get, slice_get-map}
use Rattle.std.specs.List.{slice_get}
use Rattle.std.specs.Map.{keys_of, lookup}
use Rattle.std.specs.Option.{option_map, option_to_list}
use Rattle.dg_graph.specs.declared.element.Element.{Element}
use Rattle.dg_graph.specs.Elements.{has, put, same, with_one}
use Rattle.dg_graph.specs.Graph.{IsGraph}
use Rattle.dg_graph.specs.Sets.{unioned, without_all}
use Rattle.dg_graph.proofs.Sets.{same_members, same_itself, element_exact, has-unioned, has-without_all, IsSet-unioned, IsSet-without_all}
use Rattle.dg_set.specs.Apart.{AreApart}
use Rattle.dg_current.specs.declared.element_entry.ElementEntry.{ElementEntry}
use Rattle.dg_current.specs.declared.element_id.ElementId.{ElementId}
use Rattle.dg_current.specs.contracts.element_id.ElementIdPartialEq.TheImpl as of_ids
use Rattle.dg_current.specs.ElementIds.{element_id_of, at}
use Rattle.dg_current.specs.HeldElements.{element_in}
use Rattle.dg_current.specs.HeldGraph.{held_at, has_entry, collected, ids_of, elements_of}
use Rattle.dg_current.specs.HeldSet.{only_first, lost_at, gained_at, listed}
use Rattle.dg_current.proofs.ElementIds.{both, either, at_has, at_from, one_of_each_id}
use Rattle.dg_current.proofs.HeldGraph.{AllHaveTheirIds, IsSet-collected, collected_to, collected_from, derived_entry, held_at_base, kept_to, kept_from}
use Rattle.dg_current.proofs.HeldGraphWrites.{element_found}

some_is : {X : Type 0} (x y : X) → Some x ≡ Some y → x ≡ y
some_is x y e = cc

none_some : {X : Type 0} {x : X} → None ≡ Some x → ⊥
none_some e = cc

bool_is : (a b : Bool) → (a ≡ true → b ≡ true) → (b ≡ true → a ≡ true) → a ≡ b
bool_is true b f g = sym (f refl)
bool_is false true f g = g refl
bool_is false false f g = refl

not_true : (b : Bool) → not b ≡ true → b ≡ false
not_true true e = absurd (false≢true e)
not_true false e = refl

-- ---- one of two elements

-- the first element is found, where the other one is not the same
only_first_to : (a b : Option Element) (x : Element) → only_first a b ≡ Some x → (a ≡ Some x) × (b ≡ Some x → ⊥)
only_first_to None b x e = absurd (none_some e)
only_first_to (Some y) None x e = (e, none_some)
only_first_to (Some y) (Some z) x e = by (same z y) refl e
  where
    by : (t : Bool) → same z y ≡ t → cond t None (Some y) ≡ Some x → (Some y ≡ Some x) × (Some z ≡ Some x → ⊥)
    by true s f = absurd (none_some f)
    by false s f = (f, λ is. true≢false (sym (same_itself y) ∙ ap (λ w. same w y) (some_is y x f ∙ sym (some_is z x is)) ∙ s))

only_first_from : (a b : Option Element) (x : Element) → a ≡ Some x → (only_first a b ≡ Some x) ⊎ (b ≡ Some x)
only_first_from None b x e = absurd (none_some e)
only_first_from (Some y) None x e = inl e
only_first_from (Some y) (Some z) x e = by (same z y) refl
  where
    by : (t : Bool) → same z y ≡ t → (cond t None (Some y) ≡ Some x) ⊎ (Some z ≡ Some x)
    by true s = inr (ap (λ w. Some w) (element_exact z y s) ∙ e)
    by false s = inl e

-- ---- the elements of the ids, as a list and as a set

pub set_of_listed : (f : ElementId → Option Element) (ids : List ElementId) → unioned [] (listed f ids) ≡ collected f ids
set_of_listed f [] = refl
set_of_listed f (p ∷ ids) = by (f p) refl (set_of_listed f ids)
  where
    by : (o : Option Element) → f p ≡ o → unioned [] (listed f ids) ≡ collected f ids → unioned [] (listed f (p ∷ ids)) ≡ with_one (collected f ids) o
    by None e rest = ap (λ q. unioned [] (option_to_list q ++ listed f ids)) e ∙ rest
    by (Some x) e rest = ap (λ q. unioned [] (option_to_list q ++ listed f ids)) e ∙ ap (put x) rest

-- the element of one id more
pub listed_more : (f : ElementId → Option Element) (ids : List ElementId) (i : ℕ) (d : ElementId) (out new : List Element) (o : Option Element)
    → i < length ids → o ≡ f (get_or ids i d) → new ≡ out ++ option_to_list o → out ++ listed f (drop i ids) ≡ listed f ids
    → new ++ listed f (drop (i + 1) ids) ≡ listed f ids
listed_more f ids i d out new o less is push old =
    let rest = listed f (drop (i + 1) ids) in
    let next : listed f (drop i ids) ≡ option_to_list o ++ rest = ap (listed f) (drop_more ids i d less) ∙ ap (λ q. option_to_list q ++ rest) (sym is) in
    ap (λ l. l ++ rest) push ∙ append_assoc out (option_to_list o) rest ∙ ap (λ l. out ++ l) (sym next) ∙ old

-- what is found at the start and in the entry at an index is what its id has there
pub found_at_index : (base : List Element) (entries : List (ElementId × ElementEntry)) (index : ℕ) (d id : ElementId) (entry : ElementEntry) (before now : Option Element)
    → slice_get entries index ≡ Some (id, entry) → lookup ((of_ids.ghosts).eq id) entries ≡ Some entry → before ≡ at base id → now ≡ element_in id entry.held
    → (before ≡ at base (get_or (keys_of entries) index d)) × (now ≡ held_at base entries (get_or (keys_of entries) index d))
found_at_index base entries index d id entry before now read value first second =
    let is : get_or (keys_of entries) index d ≡ id =
    get_or_from_slice_get (keys_of entries) index id d (slice_get-map (λ e. e.0) entries index ∙ ap (option_map (λ e. e.0)) read) in (
      first ∙ ap (at base) (sym is),
      second ∙ element_found base entries id entry (sym value ∙ derived_entry entries id) ∙ ap (held_at base entries) (sym is),
    )

-- ---- from the elements at the start to those now

module _ (base : List Element) (entries : List (ElementId × ElementEntry)) (graph : IsGraph base) (own_ids : AllHaveTheirIds base entries) where
  abbrev lost : List Element
  lost = collected (lost_at base entries) (keys_of entries)

  abbrev gained : List Element
  gained = collected (gained_at base entries) (keys_of entries)

  abbrev now : List Element
  now = unioned (without_all base lost) gained

  at_start : (x : Element) → has base x ≡ true → at base (element_id_of x) ≡ Some x
  at_start x h = at_from base (one_of_each_id base graph) x h

  -- what is lost is not held
  lost_apart : (x : Element) → has lost x ≡ true → held_at base entries (element_id_of x) ≡ Some x → ⊥
  lost_apart x h held =
      let got = collected_from (lost_at base entries) (keys_of entries) x h in
      let first = only_first_to (at base got.0) (held_at base entries got.0) x got.1.0 in
      first.1 (ap (held_at base entries) (sym (at_has base got.0 x first.0).1) ∙ held)

  -- what was there and is not lost is held
  stays : (x : Element) → has base x ≡ true → has lost x ≡ false → held_at base entries (element_id_of x) ≡ Some x
  stays x there kept = by (has_entry entries (element_id_of x)) refl
    where
      p : ElementId
      p = element_id_of x

      by : (b : Bool) → has_entry entries p ≡ b → held_at base entries p ≡ Some x
      by false none = held_at_base base entries p none ∙ at_start x there
      by true has_one = which (only_first_from (at base p) (held_at base entries p) x (at_start x there))
        where
          which : (lost_at base entries p ≡ Some x) ⊎ (held_at base entries p ≡ Some x) → held_at base entries p ≡ Some x
          which (inl is) = absurd (true≢false (sym (collected_to (lost_at base entries) (keys_of entries) p x is has_one) ∙ kept))
          which (inr is) = is

  -- so what is lost is not gained
  pub lost_not_gained : AreApart lost gained
  lost_not_gained x h = by (has gained x) refl
    where
      by : (b : Bool) → has gained x ≡ b → b ≡ false
      by false e = refl
      by true e =
          let got = collected_from (gained_at base entries) (keys_of entries) x e in
          let first = only_first_to (held_at base entries got.0) (at base got.0) x got.1.0 in
          absurd (lost_apart x h (ap (held_at base entries) (own_ids got.0 x first.0) ∙ first.0))

  to : (x : Element) → has now x ≡ true → has (elements_of base entries) x ≡ true
  to x h = by (either (has (without_all base lost) x) (has gained x) (sym (has-unioned (without_all base lost) gained x) ∙ h))
    where
      by : (has (without_all base lost) x ≡ true) ⊎ (has gained x ≡ true) → has (elements_of base entries) x ≡ true
      by (inl k) =
          let parts = both (has base x) (not (has lost x)) (sym (has-without_all base lost x) ∙ k) in
          kept_to base entries (element_id_of x) x (stays x parts.0 (not_true (has lost x) parts.1))
      by (inr k) =
          let got = collected_from (gained_at base entries) (keys_of entries) x k in
          kept_to base entries got.0 x (only_first_to (held_at base entries got.0) (at base got.0) x got.1.0).0

  from : (x : Element) → has (elements_of base entries) x ≡ true → has now x ≡ true
  from x h = has-unioned (without_all base lost) gained x ∙ by (has_entry entries p) refl
    where
      p : ElementId
      p = element_id_of x

      held : held_at base entries p ≡ Some x
      held = kept_from base entries own_ids x h

      kept : at base p ≡ Some x → has (without_all base lost) x ≡ true
      kept is = has-without_all base lost x ∙ (λ i. (at_has base p x is).0 i && not (not_lost (has lost x) refl i))
        where
          not_lost : (b : Bool) → has lost x ≡ b → has lost x ≡ false
          not_lost true e = absurd (lost_apart x e held)
          not_lost false e = e

      in_kept : at base p ≡ Some x → (has (without_all base lost) x || has gained x) ≡ true
      in_kept is = or_left (has (without_all base lost) x) (has gained x) (kept is)

      by : (b : Bool) → has_entry entries p ≡ b → (has (without_all base lost) x || has gained x) ≡ true
      by false none = in_kept (sym (held_at_base base entries p none) ∙ held)
      by true has_one = which (only_first_from (held_at base entries p) (at base p) x held)
        where
          which : (gained_at base entries p ≡ Some x) ⊎ (at base p ≡ Some x) → (has (without_all base lost) x || has gained x) ≡ true
          which (inl is) = or_right (has (without_all base lost) x) (has gained x) (collected_to (gained_at base entries) (keys_of entries) p x is has_one)
          which (inr is) = in_kept is

  pub changed_is : now ≡ elements_of base entries
  changed_is =
      same_members now (elements_of base entries) (IsSet-unioned (without_all base lost) gained (IsSet-without_all base lost graph.rises))
      (IsSet-collected (held_at base entries) (ids_of base entries))
      (λ q. bool_is (has now q) (has (elements_of base entries) q) (to q) (from q))
