-- How the list of names grows with the lines of a batch, and where the texts stand in it.
use Rattle.std.proofs.Common.{◌≡◌, ℕ, zero, suc, ◌<◌, ◌≤◌, Bool, true, false, not, ◌&&◌, ◌||◌, List, [], ◌∷◌, ◌++◌, Option, Some, None, if◌then◌else◌, length, drop, get_or, slice_get, is_some, refl, sym, ◌∙◌, ap, subst, nat_le, nat_lt, arith, append_assoc, length-append}
use Rattle.std.specs.Prelude.{◌==◌}
use Rattle.std.specs.List.{Contains, list_any, list_all}
use Rattle.std.proofs.Math.Seq.{drop-append_seam}
use Rattle.std.proofs.lemmas.List.{append-nil}
use Rattle.std.proofs.lemmas.List.Elements.{Contains-get_or}
use Rattle.std.proofs.lemmas.Option.{slice_get_within, get_or_from_slice_get}
use Rattle.std.proofs.lemmas.Bool.{and_parts}
use borrow.Author.Tests.{le-leb, leb-true, eqb-true}
use Rattle.dg_graph.specs.declared.event.Change.{Change}
use Rattle.dg_text.specs.declared.limits.TheConstants.{KEY_BYTES_MAX, NAME_BYTES_MAX}
use Rattle.dg_changes.specs.Batch.{changes_after, names_after}
use Rattle.dg_changes.specs.ChangeGrammar.{ChangeByText, named, change_with}
use Rattle.dg_text.specs.Names.{number_of, added, number_in, number_or, name_text, is_name, is_key, are_new}
use Rattle.dg_names.proofs.NameLimitNumbers.{number_stands, no_number}

-- ---- lines one after another

pub names_both : (names : List (List ℕ)) (a b : List (Option ChangeByText)) → names_after names (a ++ b) ≡ names_after (names_after names a) b
names_both names [] b = refl
names_both names (None ∷ a) b = names_both names a b
names_both names (Some s ∷ a) b = names_both (named names s.asked) a b

pub changes_both : (names : List (List ℕ)) (a b : List (Option ChangeByText)) → changes_after names (a ++ b) ≡ changes_after names a ++ changes_after (names_after names a) b
changes_both names [] b = refl
changes_both names (None ∷ a) b = ap (λ (cs : List (Option Change)). None ∷ cs) (changes_both names a b)
changes_both names (Some s ∷ a) b = ap (λ (cs : List (Option Change)). Some (change_with names s) ∷ cs) (changes_both (named names s.asked) a b)

pub changes_length : (names : List (List ℕ)) (a : List (Option ChangeByText)) → length (changes_after names a) ≡ length a
changes_length names [] = refl
changes_length names (None ∷ a) = ap (λ n. suc n) (changes_length names a)
changes_length names (Some s ∷ a) = ap (λ n. suc n) (changes_length (named names s.asked) a)

-- ---- growth by new names

pub all_three : (a b c : Bool) → (a && (b && c)) ≡ true → (a ≡ true) × (b ≡ true) × (c ≡ true)
all_three true true true h = (refl, refl, refl)
all_three true true false h = cc
all_three true false c h = cc
all_three false b c h = cc

pub three_true : (a b c : Bool) → a ≡ true → b ≡ true → c ≡ true → (a && (b && c)) ≡ true
three_true a b c x y z = ap (λ t. t && (b && c)) x ∙ ap (λ t. t && c) y ∙ z

-- new names behind new names are new
pub new_joined : (names a b : List (List ℕ)) → are_new names a ≡ true → are_new (names ++ a) b ≡ true → are_new names (a ++ b) ≡ true
new_joined names [] b h k = ap (λ (ns : List (List ℕ)). are_new ns b) (sym (append-nil names)) ∙ k
new_joined names (t ∷ a) b h k =
    let parts = all_three (is_name t) (not (is_some (number_of names t))) (are_new (names ++ t ∷ []) a) h in
    three_true (is_name t) (not (is_some (number_of names t))) (are_new (names ++ t ∷ []) (a ++ b)) parts.0 parts.1
    (new_joined (names ++ t ∷ []) a b parts.2 (ap (λ (ns : List (List ℕ)). are_new ns b) (append_assoc names (t ∷ []) a) ∙ k))

-- the list has grown by new names
pub record Grows (old new : List (List ℕ)) : Type 0 where
  pub more : List (List ℕ)
  pub is : new ≡ old ++ more
  pub right : are_new old more ≡ true

pub grows_none : (names : List (List ℕ)) → Grows names names
grows_none names = record { more = []; is = sym (append-nil names); right = refl }

pub grows_both : (a b c : List (List ℕ)) → Grows a b → Grows b c → Grows a c
grows_both a b c g h = record {
  more = g.more ++ h.more;
  is = h.is ∙ ap (λ (ns : List (List ℕ)). ns ++ h.more) g.is ∙ append_assoc a g.more h.more;
  right = new_joined a g.more h.more g.right (ap (λ (ns : List (List ℕ)). are_new ns h.more) (sym g.is) ∙ h.right);
}

-- what is new stands behind what was there
pub grown_drop : (old new : List (List ℕ)) (g : Grows old new) → drop (length old) new ≡ g.more
grown_drop old new g = ap (drop (length old)) g.is ∙ drop-append_seam old g.more

pub grown_new : (old new : List (List ℕ)) → Grows old new → are_new old (drop (length old) new) ≡ true
grown_new old new g = ap (are_new old) (grown_drop old new g) ∙ g.right

pub grown_long : (old new : List (List ℕ)) → Grows old new → length old ≤ length new
grown_long old new g = omega (arith, ap length g.is, length-append old g.more)

pub added_grows : (names : List (List ℕ)) (text : List ℕ) → is_name text ≡ true → Grows names (added names text)
added_grows names text right = by (number_of names text) refl
  where
    by : (o : Option ℕ) → number_of names text ≡ o → Grows names (if is_some o then names else names ++ text ∷ [])
    by (Some n) e = grows_none names
    by None e = record {
      more = text ∷ [];
      is = refl;
      right = three_true (is_name text) (not (is_some (number_of names text))) true right (ap (λ (o : Option ℕ). not (is_some o)) e) refl;
    }

-- a key is a name
pub no_end : (b : ℕ) → nat_lt 32 b ≡ true → (b == 10 || b == 13) ≡ false
no_end b h = by_ten (b == 10) refl
  where
    by_thirteen : (t : Bool) → (b == 13) ≡ t → t ≡ false
    by_thirteen false e = refl
    by_thirteen true e =
        let low : nat_lt 32 13 ≡ true = ap (nat_lt 32) (sym (eqb-true b 13 e)) ∙ h in cc

    by_ten : (t : Bool) → (b == 10) ≡ t → (b == 10 || b == 13) ≡ false
    by_ten false e = ap (λ x. x || b == 13) e ∙ by_thirteen (b == 13) refl
    by_ten true e =
        let low : nat_lt 32 10 ≡ true = ap (nat_lt 32) (sym (eqb-true b 10 e)) ∙ h in cc

no_ends : (text : List ℕ) → list_all (λ b. nat_lt 32 b) text ≡ true → list_any (λ b. b == 10 || b == 13) text ≡ false
no_ends [] h = refl
no_ends (b ∷ text) h =
    let parts = and_parts (nat_lt 32 b) (list_all (λ b. nat_lt 32 b) text) h in
    ap (λ x. x || list_any (λ b. b == 10 || b == 13) text) (no_end b parts.0) ∙ no_ends text parts.1

pub key_is_name : (text : List ℕ) → is_key text ≡ true → is_name text ≡ true
key_is_name text h =
    let parts = all_three (nat_le 1 (length text)) (nat_le (length text) KEY_BYTES_MAX) (list_all (λ b. nat_lt 32 b) text) h in
    let short : length text ≤ KEY_BYTES_MAX = leb-true (length text) KEY_BYTES_MAX parts.1 in
    ap (λ x. x && not (list_any (λ b. b == 10 || b == 13) text)) (le-leb (length text) NAME_BYTES_MAX (omega (arith, short)))
    ∙ ap not (no_ends text parts.2)

-- ---- where a text stands

pub stays : (xs ys : List (List ℕ)) (n : ℕ) (x : List ℕ) → slice_get xs n ≡ Some x → slice_get (xs ++ ys) n ≡ Some x
stays [] ys n x h = cc
stays (y ∷ xs) ys zero x h = h
stays (y ∷ xs) ys (suc n) x h = stays xs ys n x h

-- the text stands in the list
abbrev pub Has : List (List ℕ) → List ℕ → Type 0
Has names text = (n : ℕ) × (slice_get names n ≡ Some text)

pub has_more : (old new : List (List ℕ)) (text : List ℕ) → Grows old new → Has old text → Has new text
has_more old new text g h = (h.0, ap (λ (ns : List (List ℕ)). slice_get ns h.0) g.is ∙ stays old g.more h.0 text h.1)

at_end : (names : List (List ℕ)) (text : List ℕ) → slice_get (names ++ text ∷ []) (length names) ≡ Some text
at_end [] text = refl
at_end (x ∷ names) text = at_end names text

pub added_has : (names : List (List ℕ)) (text : List ℕ) → Has (added names text) text
added_has names text = by (number_of names text) refl
  where
    by : (o : Option ℕ) → number_of names text ≡ o → Has (if is_some o then names else names ++ text ∷ []) text
    by (Some n) e = (n, number_stands names text n e)
    by None e = (length names, at_end names text)

-- its number is where it stands
pub number_is : (names : List (List ℕ)) (text : List ℕ) → Has names text → slice_get names (number_in names text) ≡ Some text
number_is names text h = by (number_of names text) refl
  where
    by : (o : Option ℕ) → number_of names text ≡ o → slice_get names (number_or o (length names)) ≡ Some text
    by (Some n) e = number_stands names text n e
    by None e =
        let here : get_or names h.0 text ≡ text = get_or_from_slice_get names h.0 text text h.1 in
        absurd (no_number names text e (subst (λ (t : List ℕ). Contains names t) here (Contains-get_or names h.0 text (slice_get_within names h.0 text h.1))))

-- in a longer list too
pub number_stays : (names new : List (List ℕ)) (text : List ℕ) → Grows names new → Has names text → slice_get new (number_in names text) ≡ Some text
number_stays names new text g h =
    ap (λ (ns : List (List ℕ)). slice_get ns (number_in names text)) g.is ∙ stays names g.more (number_in names text) text (number_is names text h)

pub number_within : (names new : List (List ℕ)) (text : List ℕ) → Grows names new → Has names text → number_in names text < length new
number_within names new text g h = slice_get_within new (number_in names text) text (number_stays names new text g h)

pub text_is : (names new : List (List ℕ)) (text : List ℕ) → Grows names new → Has names text → name_text new (number_in names text) ≡ text
text_is names new text g h = get_or_from_slice_get new (number_in names text) text [] (number_stays names new text g h)
