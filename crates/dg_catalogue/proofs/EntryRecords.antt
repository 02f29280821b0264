-- The records of a catalogue: what holds of each, and what a record added leaves true.
use Rattle.std.proofs.Common.{◌≡◌, ◌≢◌, ◌+◌, ◌≤◌, Bool, true, false, cond, ◌&&◌, List, [], ◌∷◌, ◌++◌, Option, None, Some, is_some, Result, Ok, refl, sym, ap, subst, ◌∙◌, arith}
use Rattle.std.proofs.lemmas.Bool.{eqb-true, eq-eqb, false≢true, and_parts}
use Rattle.std.proofs.lemmas.List.{map-append}
use Rattle.std.proofs.lemmas.List.Elements.{All-push, All-contains}
use Rattle.std.proofs.lemmas.List.Sums.{sum_by_push}
use Rattle.std.proofs.lemmas.Map.Views.{Contains-from_lookup, IfSome-lookup_from_All, Contains-keys_from_lookup}
use Rattle.std.proofs.lemmas.Option.{none-some}
use Rattle.std.specs.List.{All}
use Rattle.std.specs.Map.{keys_of, values_of, lookup}
use Rattle.std.specs.Option.{IfSome}
use Rattle.std.specs.Result.{OnOk}
use Rattle.dg_index.specs.declared.entry.Entry.{Entry}
use Rattle.dg_index.specs.IndexGrowth.{columns_in}
use Rattle.dg_index.specs.OpenedIndex.{total}
use Rattle.dg_catalogue.specs.declared.catalogue.TheConstants.{BYTES_MAX}
use Rattle.dg_history.specs.declared.node.Key.{Key}
use Rattle.dg_history.specs.declared.node.Key.TheVariants as a_key
use Rattle.dg_history.specs.contracts.node.KeyPartialEq.TheImpl as of_keys
use Rattle.dg_history.specs.Keys.{same_key, is_list}
use Rattle.dg_catalogue.specs.Keys.{IsNumbered}
use Rattle.dg_catalogue.specs.Entries.{Holdings, IsInRange, EndsIfList, RecordsAreSound}
use Rattle.dg_catalogue.specs.Held.{entry_of}

-- what a clause says of a call that did not fail
pub from_ok : {T E : Type 0} (r : Result T E) (x : T) (P : Type 0) → r ≡ Ok x → OnOk r P → P
from_ok r x P is h = subst (λ q. OnOk q P) is h

-- ---- keys

-- two keys that name one record are equal
pub same_key_exact : (x y : Key) → same_key x y ≡ true → x ≡ y
same_key_exact (a_key.List m) (a_key.List n) e = ap a_key.List (eqb-true m n e)
same_key_exact (a_key.Piece m) (a_key.Piece n) e = ap a_key.Piece (eqb-true m n e)
same_key_exact (a_key.Top m) (a_key.Top n) e = ap a_key.Top (eqb-true m n e)
same_key_exact (a_key.Down m c) (a_key.Down n d) e =
    let parts = and_parts _ _ e in
    λ i. a_key.Down (eqb-true m n parts.0 i) (eqb-true c d parts.1 i)
same_key_exact (a_key.List m) (a_key.Piece n) e = absurd (false≢true e)
same_key_exact (a_key.List m) (a_key.Top n) e = absurd (false≢true e)
same_key_exact (a_key.List m) (a_key.Down n d) e = absurd (false≢true e)
same_key_exact (a_key.Piece m) (a_key.List n) e = absurd (false≢true e)
same_key_exact (a_key.Piece m) (a_key.Top n) e = absurd (false≢true e)
same_key_exact (a_key.Piece m) (a_key.Down n d) e = absurd (false≢true e)
same_key_exact (a_key.Top m) (a_key.List n) e = absurd (false≢true e)
same_key_exact (a_key.Top m) (a_key.Piece n) e = absurd (false≢true e)
same_key_exact (a_key.Top m) (a_key.Down n d) e = absurd (false≢true e)
same_key_exact (a_key.Down m c) (a_key.List n) e = absurd (false≢true e)
same_key_exact (a_key.Down m c) (a_key.Piece n) e = absurd (false≢true e)
same_key_exact (a_key.Down m c) (a_key.Top n) e = absurd (false≢true e)

-- the derived comparison of keys says the same
pub derived_is : (x y : Key) → (of_keys.ghosts).eq x y ≡ same_key x y
derived_is (a_key.List m) (a_key.List n) = refl
derived_is (a_key.Piece m) (a_key.Piece n) = refl
derived_is (a_key.Top m) (a_key.Top n) = refl
derived_is (a_key.Down m c) (a_key.Down n d) = refl
derived_is (a_key.List m) (a_key.Piece n) = refl
derived_is (a_key.List m) (a_key.Top n) = refl
derived_is (a_key.List m) (a_key.Down n d) = refl
derived_is (a_key.Piece m) (a_key.List n) = refl
derived_is (a_key.Piece m) (a_key.Top n) = refl
derived_is (a_key.Piece m) (a_key.Down n d) = refl
derived_is (a_key.Top m) (a_key.List n) = refl
derived_is (a_key.Top m) (a_key.Piece n) = refl
derived_is (a_key.Top m) (a_key.Down n d) = refl
derived_is (a_key.Down m c) (a_key.List n) = refl
derived_is (a_key.Down m c) (a_key.Piece n) = refl
derived_is (a_key.Down m c) (a_key.Top n) = refl

-- ---- what is held at a key

-- a look-up by the derived comparison is the one of the definitions
pub look_up_is : (es : List (Key × Entry)) (held : Holdings) (key : Key) → es ≡ held.entries → lookup ((of_keys.ghosts).eq key) es ≡ entry_of held key
look_up_is es held key is i = lookup (λ q. derived_is key q i) (is i)

-- what holds of each record holds of the one at a key
pub at_key : (P : Key × Entry → Type 0) (es : List (Key × Entry)) (key : Key) (e : Entry) → All P es → lookup (same_key key) es ≡ Some e → P (key, e)
at_key P es key e all is = All-contains P es (key, e) all (Contains-from_lookup same_key_exact key e es is)

-- the record at a key, if there is one, has instants exactly for a list
pub ends_held : (o : Option Entry) (c : Holdings) (key : Key) → All EndsIfList c.entries → o ≡ entry_of c key → IfSome o (λ e. is_some e.ends ≡ is_list key)
ends_held None c key ends is = tt
ends_held (Some e) c key ends is = at_key EndsIfList c.entries key e ends (sym is)

-- what holds of the record at a key
pub held_sound : (c : Holdings) → RecordsAreSound c.entries → (key : Key) (e : Entry) → entry_of c key ≡ Some e → IsInRange e × IsNumbered key × EndsIfList (key, e)
held_sound c sound key e is = (
  by_some (subst (λ o. IfSome o IsInRange) is (IfSome-lookup_from_All IsInRange (same_key key) c.entries sound.in_range)),
  All-contains IsNumbered (keys_of c.entries) key sound.numbered (Contains-keys_from_lookup same_key_exact key c.entries (ap is_some is)),
  at_key EndsIfList c.entries key e sound.ends is,
)
  where
    by_some : IfSome (Some e) IsInRange → IsInRange e
    by_some h = h

-- ---- a record added

same_key_itself : (k : Key) → same_key k k ≡ true
same_key_itself (a_key.List n) = eq-eqb n n refl
same_key_itself (a_key.Piece n) = eq-eqb n n refl
same_key_itself (a_key.Top n) = eq-eqb n n refl
same_key_itself (a_key.Down m c) = λ i. eq-eqb m m refl i && eq-eqb c c refl i

same_key_apart : (q k : Key) → q ≢ k → same_key q k ≡ false
same_key_apart q k apart = by (same_key q k) refl
  where
    by : (b : Bool) → same_key q k ≡ b → same_key q k ≡ false
    by true e = absurd (apart (same_key_exact q k e))
    by false e = e

module _ (test : Key → Bool) (key : Key) (e : Entry) where
  -- a look-up that finds nothing finds the record that is put last
  finds_last : (es : List (Key × Entry)) → test key ≡ true → lookup test es ≡ None → lookup test (es ++ (key, e) ∷ []) ≡ Some e
  finds_last [] t none = ap (λ b. cond b (Some e) None) t
  finds_last (x ∷ es) t none = by (test x.0) none (finds_last es t)
    where
      by : (b : Bool) → cond b (Some x.1) (lookup test es) ≡ None → (lookup test es ≡ None → lookup test (es ++ (key, e) ∷ []) ≡ Some e)
          → cond b (Some x.1) (lookup test (es ++ (key, e) ∷ [])) ≡ Some e
      by true h rest = absurd (none-some x.1 (sym h))
      by false h rest = rest h

  -- a look-up by another key does not see it
  finds_other : (es : List (Key × Entry)) → test key ≡ false → lookup test (es ++ (key, e) ∷ []) ≡ lookup test es
  finds_other [] t = ap (λ b. cond b (Some e) None) t
  finds_other (x ∷ es) t = ap (λ o. cond (test x.0) (Some x.1) o) (finds_other es t)

pub added_held : (es new : List (Key × Entry)) (key : Key) (e : Entry) → new ≡ es ++ (key, e) ∷ [] → lookup (same_key key) es ≡ None → lookup (same_key key) new ≡ Some e
added_held es new key e is lacks = ap (lookup (same_key key)) is ∙ finds_last (same_key key) key e es (same_key_itself key) lacks

pub added_others : (es new : List (Key × Entry)) (key : Key) (e : Entry) → new ≡ es ++ (key, e) ∷ [] → (other : Key) → other ≢ key → lookup (same_key other) new ≡ lookup (same_key other) es
added_others es new key e is other apart = ap (lookup (same_key other)) is ∙ finds_other (same_key other) key e es (same_key_apart other key apart)

pub added_bytes : (es new : List (Key × Entry)) (key : Key) (e : Entry) → new ≡ es ++ (key, e) ∷ [] → columns_in new ≡ columns_in es + total e.lengths
added_bytes es new key e is = ap columns_in is ∙ sum_by_push (λ q. total q.1.lengths) es (key, e)

pub still_sound : (es new : List (Key × Entry)) (key : Key) (e : Entry) → new ≡ es ++ (key, e) ∷ [] → RecordsAreSound es
    → columns_in es + total e.lengths ≤ BYTES_MAX → IsInRange e → IsNumbered key → is_some e.ends ≡ is_list key → RecordsAreSound new
still_sound es new key e is sound bytes in_range numbered ends =
    let fits : columns_in (es ++ (key, e) ∷ []) ≤ BYTES_MAX = omega (arith, bytes, sum_by_push (λ q. total q.1.lengths) es (key, e)) in
    let values : values_of (es ++ (key, e) ∷ []) ≡ values_of es ++ e ∷ [] = map-append (λ q. q.1) es ((key, e) ∷ []) in
    let keys : keys_of (es ++ (key, e) ∷ []) ≡ keys_of es ++ key ∷ [] = map-append (λ q. q.0) es ((key, e) ∷ []) in
    subst RecordsAreSound (sym is) (record {
      bytes = fits;
      in_range = subst (All IsInRange) (sym values) (All-push IsInRange (values_of es) e sound.in_range in_range);
      numbered = subst (All IsNumbered) (sym keys) (All-push IsNumbered (keys_of es) key sound.numbered numbered);
      ends = All-push EndsIfList es (key, e) sound.ends ends;
    })
