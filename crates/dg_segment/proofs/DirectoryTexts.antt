-- The names of a directory: read at their offsets, one behind another.
use Rattle.std.proofs.Common.{◌≡◌, ℕ, zero, suc, ◌+◌, ◌-◌, ◌<◌, ◌≤◌, Bool, true, false, not, cond, List, [], ◌∷◌, ◌++◌, length, take, drop, Option, Some, None, is_some, refl, sym, ap, subst, ◌∙◌, append_assoc, append-nil, arith}
use Rattle.std.specs.Prelude.{◌&&◌, nat_le, nat_lt, option_and_then}
use Rattle.std.specs.Option.{option_map}
use Rattle.std.proofs.lemmas.Bool.{and_from, leb-true, le-ltb, lt-ltb, false≢true, and_parts}
use Rattle.dg_text.specs.declared.limits.TheConstants.{NAME_BYTES_MAX}
use Rattle.dg_text.specs.Names.{number_of, added, is_name, are_new}
use Rattle.dg_index.specs.ImageText.{two_at, name_at, names_at}
use Rattle.dg_index.proofs.ImageTextNames.{in_front_of, names_more, new_append, new_first, name_with, with_room}
use Rattle.dg_segment.specs.Directories.{is_fresh, TakesName, TakesNames}

name_is : (bytes : List ℕ) (at : ℕ) → name_at bytes at ≡ name_with (length bytes) at (two_at bytes at) (drop (at + 2) bytes)
name_is bytes at = refl

-- where there is no name at the offset
pub no_length : (bytes : List ℕ) (at : ℕ) → length bytes < at + 2 → name_at bytes at ≡ None
no_length bytes at lt =
    ap (λ b. cond b None (cond (nat_lt (length bytes) (at + 2 + two_at bytes at)) None (Some (take (two_at bytes at) (drop (at + 2) bytes), at + 2 + two_at bytes at)))) (lt-ltb (length bytes) (at + 2) lt)

pub no_text : (bytes : List ℕ) (at : ℕ) → at + 2 ≤ length bytes → length bytes < at + 2 + two_at bytes at → name_at bytes at ≡ None
no_text bytes at le lt =
    λ i. cond (le-ltb (length bytes) (at + 2) le i) None (cond (lt-ltb (length bytes) (at + 2 + two_at bytes at) lt i) None (Some (take (two_at bytes at) (drop (at + 2) bytes), at + 2 + two_at bytes at)))

pub name_there : (bytes : List ℕ) (at : ℕ) → at + 2 + two_at bytes at ≤ length bytes → name_at bytes at ≡ Some (take (two_at bytes at) (drop (at + 2) bytes), at + 2 + two_at bytes at)
name_there bytes at le = name_is bytes at ∙ with_room (length bytes) at (two_at bytes at) (drop (at + 2) bytes) le

pub cond_some : {A : Type 0} (b : Bool) (o : Option A) (y : A) → cond b None o ≡ Some y → o ≡ Some y
cond_some true o y e = absurd cc
cond_some false o y e = e

abbrev pub end_in : {A : Type 0} → Option (A × ℕ) → ℕ
end_in None = 0
end_in (Some t) = t.1

-- a name that is at the offset
name_some : (bytes : List ℕ) (at : ℕ) (n : List ℕ × ℕ) → name_at bytes at ≡ Some n → Some (take (two_at bytes at) (drop (at + 2) bytes), at + 2 + two_at bytes at) ≡ Some n
name_some bytes at n e =
    let there : Option (List ℕ × ℕ) = Some (take (two_at bytes at) (drop (at + 2) bytes), at + 2 + two_at bytes at) in
    cond_some (nat_lt (length bytes) (at + 2 + two_at bytes at)) there n (cond_some (nat_lt (length bytes) (at + 2)) (cond (nat_lt (length bytes) (at + 2 + two_at bytes at)) None there) n e)

pub name_far : (bytes : List ℕ) (at : ℕ) (n : List ℕ × ℕ) → name_at bytes at ≡ Some n → at + 2 ≤ n.1
name_far bytes at n e = omega (arith, ap end_in (name_some bytes at n e))

pub some_map : {A B : Type 0} (f : A → B) (o : Option A) (y : B) → option_map f o ≡ Some y → (x : A) × (o ≡ Some x) × (f x ≡ y)
some_map f None y e = absurd cc
some_map f (Some x) y e = (x, refl, cc)

pub none_map : {A B : Type 0} (f : A → B) (o : Option A) → option_map f o ≡ None → o ≡ None
none_map f None e = refl
none_map f (Some x) e = absurd cc

-- a name by the offset behind it
pub name_whole : (bytes : List ℕ) (at end : ℕ) → option_map (λ (n : List ℕ × ℕ). n.1) (name_at bytes at) ≡ Some end → name_at bytes at ≡ Some (take (end - (at + 2)) (drop (at + 2) bytes), end)
name_whole bytes at end e =
    let n = some_map (λ (n : List ℕ × ℕ). n.1) (name_at bytes at) end e in
    let is = name_some bytes at n.0 n.1 in
    let ends : at + 2 + two_at bytes at ≡ end = ap end_in is ∙ n.2 in
    let len : two_at bytes at ≡ end - (at + 2) = omega (arith, ends) in
    n.1 ∙ sym is ∙ (λ i. Some (take (len i) (drop (at + 2) bytes), ends i))

-- ---- several names

abbrev pub texts_in : Option (List (List ℕ) × ℕ) → List (List ℕ)
texts_in None = []
texts_in (Some texts) = texts.0

pub some_then : {A B : Type 0} (f : A → Option B) (o : Option A) (y : B) → option_and_then f o ≡ Some y → (x : A) × (o ≡ Some x) × (f x ≡ Some y)
some_then f None y e = absurd cc
some_then f (Some x) y e = (x, refl, e)

-- what is read of some names: the first of them, and the others
pub record First (k : ℕ) (bytes : List ℕ) (at : ℕ) (t : List (List ℕ) × ℕ) : Type 0 where
  pub text : List ℕ
  pub end : ℕ
  pub others : List (List ℕ)
  pub one : name_at bytes at ≡ Some (text, end)
  pub more : names_at k bytes end ≡ Some (others, t.1)
  pub is : t.0 ≡ text ∷ others

pub names_first : (k : ℕ) (bytes : List ℕ) (at : ℕ) (t : List (List ℕ) × ℕ) → names_at (suc k) bytes at ≡ Some t → First k bytes at t
names_first k bytes at t e =
    let n = some_then (λ (n : List ℕ × ℕ). option_map (λ (more : List (List ℕ) × ℕ). (n.0 ∷ more.0, more.1)) (names_at k bytes n.1)) (name_at bytes at) t e in
    let text : List ℕ = n.0.0 in
    let m = some_map (λ (more : List (List ℕ) × ℕ). (text ∷ more.0, more.1)) (names_at k bytes n.0.1) t n.2 in
    record {
      text = text;
      end = n.0.1;
      others = m.0.0;
      one = n.1;
      more = m.1 ∙ ap (λ (e : ℕ). Some (m.0.0, e)) (ap (λ (t : List (List ℕ) × ℕ). t.1) m.2);
      is = sym (ap (λ (t : List (List ℕ) × ℕ). t.0) m.2);
    }

pub names_length : (k : ℕ) (bytes : List ℕ) (at : ℕ) (t : List (List ℕ) × ℕ) → names_at k bytes at ≡ Some t → length t.0 ≡ k
names_length zero bytes at t e = ap (λ (o : Option (List (List ℕ) × ℕ)). length (texts_in o)) (sym e)
names_length (suc k) bytes at t e =
    let f = names_first k bytes at t e in
    ap length f.is ∙ ap (λ n. suc n) (names_length k bytes f.end (f.others, t.1) f.more)

-- ---- a name more

pub name_short : (text : List ℕ) → is_name text ≡ true → length text ≤ NAME_BYTES_MAX
name_short text e = leb-true (length text) NAME_BYTES_MAX (and_parts (nat_le (length text) NAME_BYTES_MAX) _ e).0

pub no_name : (names : List (List ℕ)) (text : List ℕ) → is_name text ≡ false → is_fresh names text ≡ false
no_name names text e = ap (λ b. b && not (is_some (number_of names text))) e

-- whether a name is fresh is whether it is new
pub fresh_name : (names : List (List ℕ)) (text : List ℕ) (is_new : Bool) → is_name text ≡ true → is_new ≡ not (is_some (number_of names text)) → is_fresh names text ≡ is_new
fresh_name names text is_new e new = ap (λ b. b && not (is_some (number_of names text))) e ∙ sym new

pub fresh_added : (names : List (List ℕ)) (text : List ℕ) → is_fresh names text ≡ true → added names text ≡ names ++ text ∷ []
fresh_added names text e = by (number_of names text) (and_parts (is_name text) _ e).1
  where
    by : (o : Option ℕ) → not (is_some o) ≡ true → cond (is_some o) names (names ++ text ∷ []) ≡ names ++ text ∷ []
    by None e = refl
    by (Some n) e = absurd (false≢true e)

module _ (bytes : List ℕ) (at : ℕ) (old : List (List ℕ)) where
  -- the text between the offsets
  abbrev pub text_to : ℕ → List ℕ
  text_to end = take (end - (at + 2)) (drop (at + 2) bytes)

  abbrev pub Ends : Option ℕ → Type 0
  Ends end = end ≡ option_map (λ (n : List ℕ × ℕ). n.1) (name_at bytes at)

  pub name_taken : (end : ℕ) (new : List (List ℕ)) → Ends (Some end) → is_fresh old (text_to end) ≡ true → new ≡ added old (text_to end) → TakesName bytes at old new end
  name_taken end new e fresh is =
      record { text = text_to end; read = name_whole bytes at end (sym e); fresh = fresh; gained = is ∙ fresh_added old (text_to end) fresh }

  pub name_stale : (end : ℕ) → Ends (Some end) → is_fresh old (text_to end) ≡ false → (n : List ℕ × ℕ) → name_at bytes at ≡ Some n → is_fresh old n.0 ≡ false
  name_stale end e stale n is =
      let same : Some n ≡ Some (text_to end, end) = sym is ∙ name_whole bytes at end (sym e) in
      ap (λ (o : Option (List ℕ × ℕ)). is_fresh old (text_of o)) same ∙ stale
    where
      text_of : Option (List ℕ × ℕ) → List ℕ
      text_of None = []
      text_of (Some n) = n.0

  pub name_lacks : Ends None → (n : List ℕ × ℕ) → name_at bytes at ≡ Some n → is_fresh old n.0 ≡ false
  name_lacks e n is = absurd (let both_are : Some n ≡ None = sym is ∙ none_map (λ (n : List ℕ × ℕ). n.1) (name_at bytes at) (sym e) in cc)

-- the names of a directory that were taken so far, and the others of them
pub record TakenSoFar (bytes : List ℕ) (count left at : ℕ) (old now : List (List ℕ)) : Type 0 where
  pub names : List (List ℕ)
  pub gained : now ≡ old ++ names
  pub fresh : are_new old names ≡ true
  pub read : (t : List (List ℕ) × ℕ) → names_at left bytes at ≡ Some t → names_at count bytes 28 ≡ Some (names ++ t.0, t.1)
  pub none : names_at left bytes at ≡ None → names_at count bytes 28 ≡ None

pub taken_none : (bytes : List ℕ) (count : ℕ) (old : List (List ℕ)) → TakenSoFar bytes count count 28 old old
taken_none bytes count old = record {
  names = [];
  gained = sym (append-nil old);
  fresh = refl;
  read = λ t e. e;
  none = λ e. e;
}

pub taken_more : (bytes : List ℕ) (count left at end : ℕ) (old now new : List (List ℕ)) → TakenSoFar bytes count (suc left) at old now → TakesName bytes at now new end → TakenSoFar bytes count left end old new
taken_more bytes count left at end old now new s n = record {
  names = s.names ++ n.text ∷ [];
  gained = n.gained ∙ ap (λ (l : List (List ℕ)). l ++ n.text ∷ []) s.gained ∙ append_assoc old s.names (n.text ∷ []);
  fresh = new_append old s.names (n.text ∷ []) ∙ and_from (are_new old s.names) _ s.fresh (new_first (old ++ s.names) n.text [] ∙ and_from (is_fresh (old ++ s.names) n.text) true (ap (λ (l : List (List ℕ)). is_fresh l n.text) (sym s.gained) ∙ n.fresh) refl);
  read = λ t e. s.read (n.text ∷ t.0, t.1) (names_more left bytes at n.text end n.read ∙ ap (in_front_of n.text) e) ∙ ap (λ (l : List (List ℕ)). Some (l, t.1)) (sym (append_assoc s.names (n.text ∷ []) t.0));
  none = λ e. s.none (names_more left bytes at n.text end n.read ∙ ap (in_front_of n.text) e);
}

pub taken_all : (bytes : List ℕ) (count at : ℕ) (old now : List (List ℕ)) → TakenSoFar bytes count 0 at old now → TakesNames bytes count old now at
taken_all bytes count at old now s = record {
  names = s.names;
  read = s.read ([], at) refl ∙ ap (λ (l : List (List ℕ)). Some (l, at)) (append-nil s.names);
  fresh = s.fresh;
  gained = s.gained;
}

-- the next name is none, or no new one
pub taken_broken : (bytes : List ℕ) (count left at : ℕ) (old now : List (List ℕ)) → TakenSoFar bytes count (suc left) at old now → ((n : List ℕ × ℕ) → name_at bytes at ≡ Some n → is_fresh now n.0 ≡ false)
    → (t : List (List ℕ) × ℕ) → names_at count bytes 28 ≡ Some t → are_new old t.0 ≡ false
taken_broken bytes count left at old now s stale t e = by (names_at (suc left) bytes at) refl
  where
    stale_rest : (rest : List (List ℕ) × ℕ) → names_at (suc left) bytes at ≡ Some rest → are_new (old ++ s.names) rest.0 ≡ false
    stale_rest rest r =
        let f = names_first left bytes at rest r in
        ap (are_new (old ++ s.names)) f.is ∙ new_first (old ++ s.names) f.text f.others ∙ ap (λ b. b && are_new ((old ++ s.names) ++ f.text ∷ []) f.others) (ap (λ (l : List (List ℕ)). is_fresh l f.text) (sym s.gained) ∙ stale (f.text, f.end) f.one)

    by : (o : Option (List (List ℕ) × ℕ)) → names_at (suc left) bytes at ≡ o → are_new old t.0 ≡ false
    by None r = absurd (let both : Some t ≡ None = sym e ∙ s.none r in cc)
    by (Some rest) r =
        let same : Some t ≡ Some (s.names ++ rest.0, rest.1) = sym e ∙ s.read rest r in
        let texts : t.0 ≡ s.names ++ rest.0 = ap texts_in same in
        ap (are_new old) texts ∙ new_append old s.names rest.0 ∙ (λ i. s.fresh i && stale_rest rest r i)

-- the same by the number of names that were taken
pub taken_first : (bytes : List ℕ) (count : ℕ) (old : List (List ℕ)) → TakenSoFar bytes count (count - 0) 28 old old
taken_first bytes count old =
    subst (λ n. TakenSoFar bytes count n 28 old old) (let all : count ≡ count - 0 = omega arith in all) (taken_none bytes count old)

pub taken_next : (bytes : List ℕ) (count counter at end : ℕ) (old now new : List (List ℕ)) → counter < count → TakenSoFar bytes count (count - counter) at old now → TakesName bytes at now new end → TakenSoFar bytes count (count - (counter + 1)) end old new
taken_next bytes count counter at end old now new lt s n =
    let more : count - counter ≡ suc (count - (counter + 1)) = omega arith in
    taken_more bytes count (count - (counter + 1)) at end old now new (subst (λ n. TakenSoFar bytes count n at old now) more s) n

pub taken_last : (bytes : List ℕ) (count counter at : ℕ) (old now : List (List ℕ)) → count ≤ counter → TakenSoFar bytes count (count - counter) at old now → TakesNames bytes count old now at
taken_last bytes count counter at old now le s =
    taken_all bytes count at old now (subst (λ n. TakenSoFar bytes count n at old now) (let none : count - counter ≡ 0 = omega arith in none) s)

pub taken_wrong : (bytes : List ℕ) (count counter at : ℕ) (old now : List (List ℕ)) → counter < count → TakenSoFar bytes count (count - counter) at old now → ((n : List ℕ × ℕ) → name_at bytes at ≡ Some n → is_fresh now n.0 ≡ false)
    → (t : List (List ℕ) × ℕ) → names_at count bytes 28 ≡ Some t → are_new old t.0 ≡ false
taken_wrong bytes count counter at old now lt s stale =
    let more : count - counter ≡ suc (count - (counter + 1)) = omega arith in
    taken_broken bytes count (count - (counter + 1)) at old now (subst (λ n. TakenSoFar bytes count n at old now) more s) stale
