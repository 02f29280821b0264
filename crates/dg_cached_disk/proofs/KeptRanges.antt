-- The ranges that are kept after calls of the cache.
use Rattle.std.proofs.Common.{◌≡◌, ℕ, zero, suc, ◌-◌, Bool, true, false, List, [], ◌∷◌, map, take, Option, Some, None, Result, Ok, Err, OnOk, OnErr, IfOk, IfSome, refl, sym, subst, nat_eq}
use Rattle.std.specs.Option.{option_map_or}
use Rattle.std.specs.Map.{lookup, lookup_entry, remove_entry}
use Rattle.std.proofs.lemmas.Bool.{eqb-true}
use Rattle.lru.specs.LruCache.{LruCache, promoted, put_entries}
use Rattle.lru.proofs.CallerLemmas.{Contains-lookup_entry}
use Rattle.dg_cached_disk.specs.Ranges.{AreRangesOf, StandsIn}

pub either : {T E : Type 0} (r : Result T E) (A B C : Type 0) → (A → C) → (B → C) → OnOk r A → OnErr r B → C
either (Ok t) A B C f g a b = f a
either (Err e) A B C f g a b = g b

pub weaker : {V E : Type 0} (r : Result (Option V) E) (P Q : V → Type 0) → ((v : V) → P v → Q v) → IfOk r (λ o. IfSome o P) → IfOk r (λ o. IfSome o Q)
weaker (Ok (Some v)) P Q f p = f v p
weaker (Ok None) P Q f p = tt
weaker (Err e) P Q f p = tt

module _ {V : Type 0} (bytes : V → List ℕ) (image : List ℕ) where
  abbrev pub Stand : List (ℕ × V) → Type 0
  Stand es = AreRangesOf image (map (λ e. (e.0, bytes e.1)) es)

  pub stand_taken : (n : ℕ) (es : List (ℕ × V)) → Stand es → Stand (take n es)
  stand_taken zero es a = tt
  stand_taken (suc n) [] a = tt
  stand_taken (suc n) (e ∷ es) a = (a.0, stand_taken n es a.1)

  pub stand_removed : (test : ℕ → Bool) (es : List (ℕ × V)) → Stand es → Stand (remove_entry test es)
  stand_removed test [] a = a
  stand_removed test (e ∷ es) a = (elim (test e.0) as (λ y. test e.0 ≡ y → Stand (remove_entry test (e ∷ es))) [
    | true ↦ λ t. rw t a.1
    | false ↦ λ t. rw t (a.0, stand_removed test es a.1)
  ]) refl

  pub entry_stands : (test : ℕ → Bool) (es : List (ℕ × V)) (f : ℕ × V) → lookup_entry test es ≡ Some f → Stand es → StandsIn image (f.0, bytes f.1)
  entry_stands test [] f h a = cc
  entry_stands test (e ∷ es) f h a = (elim (test e.0) as (λ y. test e.0 ≡ y → StandsIn image (f.0, bytes f.1)) [
    | true ↦ λ t. let h' = rw t at h in let same : e ≡ f = cc in subst (λ (g : ℕ × V). StandsIn image (g.0, bytes g.1)) same a.0
    | false ↦ λ t. entry_stands test es f (rw t at h) a.1
  ]) refl

  pub value_stands : (k : ℕ) (es : List (ℕ × V)) (v : V) → lookup (nat_eq k) es ≡ Some v → Stand es → StandsIn image (k, bytes v)
  value_stands k [] v h a = cc
  value_stands k (e ∷ es) v h a = (elim (nat_eq k e.0) as (λ y. nat_eq k e.0 ≡ y → StandsIn image (k, bytes v)) [
    | true ↦ λ t. let h' = rw t at h in let same : e.1 ≡ v = cc in
        subst (λ (g : ℕ × V). StandsIn image (g.0, bytes g.1)) (let is : e ≡ (k, v) = λ i. (sym (eqb-true k e.0 t) i, same i) in is) a.0
    | false ↦ λ t. value_stands k es v (rw t at h) a.1
  ]) refl

  to_front : (test : ℕ → Bool) (es : List (ℕ × V)) (o : Option (ℕ × V)) → lookup_entry test es ≡ o → Stand es → Stand (option_map_or (λ e. e ∷ remove_entry test es) o es)
  to_front test es None h a = a
  to_front test es (Some e) h a = (entry_stands test es e h a, stand_removed test es a)

  pub stand_promoted : (test : ℕ → Bool) (es : List (ℕ × V)) → Stand es → Stand (promoted test es)
  stand_promoted test es a = to_front test es (lookup_entry test es) refl a

  put_by : (c : LruCache ℕ V) (k : ℕ) (v : V) (o : Option (ℕ × V)) → lookup_entry (nat_eq k) c.entries ≡ o → Stand c.entries → StandsIn image (k, bytes v)
      → Stand (option_map_or (λ e. (e.0, v) ∷ remove_entry (nat_eq k) c.entries) o ((k, v) ∷ take (c.cap - 1) c.entries))
  put_by c k v None h a s = (s, stand_taken (c.cap - 1) c.entries a)
  put_by c k v (Some e) h a s =
      (subst (λ j. StandsIn image (j, bytes v)) (eqb-true k e.0 (Contains-lookup_entry (nat_eq k) c.entries e h).1) s, stand_removed (nat_eq k) c.entries a)

  pub stand_put : (c : LruCache ℕ V) (k : ℕ) (v : V) → Stand c.entries → StandsIn image (k, bytes v) → Stand (put_entries nat_eq c k v)
  stand_put c k v a s = put_by c k v (lookup_entry (nat_eq k) c.entries) refl a s
