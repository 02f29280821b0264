-- Reading elements one after another, as a loop does, and what elements that were read keep.
use Rattle.std.proofs.Common.{◌≡◌, ℕ, zero, suc, ◌-◌, ◌+◌, ◌≤◌, ◌<◌, Bool, true, false, cond, List, [], ◌∷◌, ◌++◌, Option, Some, None, Result, Ok, Err, refl, sym, ap, subst, ◌∙◌, append_assoc, IsTrue, arith}
use Rattle.std.specs.Prelude.{not, ◌&&◌, ◌||◌, IfSome}
use Rattle.std.proofs.lemmas.List.{append-nil}
use Rattle.std.proofs.lemmas.Bool.{true≢false}
use Rattle.dg_graph.specs.declared.element.Column.{Column}
use Rattle.dg_graph.specs.declared.element.Element.{Element}
use Rattle.dg_graph.specs.Elements.{IsSet, IsBelowFirst, before, has, same}
use Rattle.dg_graph.specs.ColumnGrammar.{and_read, any_number, four_bytes, eight_bytes, value_element, element_at, element_size, elements_at, rises_from}
use Rattle.dg_graph.proofs.Sets.{element_exact}
use Rattle.dg_set.specs.Apart.{AreApart}
use Rattle.dg_columns.specs.declared.delta_reader.AttrFields.{AttrFields}
use Rattle.dg_columns.specs.declared.fault.ReadFault.{ReadFault}
use Rattle.dg_columns.specs.declared.fault.ReadFault.TheVariants as fault
use Rattle.dg_columns.specs.ReadOutcome.{IsFaultOf}
use Rattle.dg_columns.specs.Fields.{attr_at, next_element_at}
use Rattle.std.specs.Prelude.{nat_lt}

-- ---- a value

attr_grouped : (make : ℕ → ℕ → ℕ → Element) (a b c : Result ℕ ℕ) → and_read a (λ id. and_read b (λ key. and_read c (λ value. Ok (make id key value))))
    ≡ and_read (and_read a (λ id. and_read b (λ key. and_read c (λ value. Ok (let v : AttrFields = record { id = id; key = key; value = value } in v))))) (λ v. Ok (make v.id v.key v.value))
attr_grouped make (Err p) b c = refl
attr_grouped make (Ok id) (Err p) c = refl
attr_grouped make (Ok id) (Ok key) (Err p) = refl
attr_grouped make (Ok id) (Ok key) (Ok value) = refl

pub attr_made : (make : ℕ → ℕ → ℕ → Element) (names : ℕ) (bytes : List ℕ) (at : ℕ) → value_element make names bytes at ≡ and_read (attr_at names bytes at) (λ v. Ok (make v.id v.key v.value))
attr_made make names bytes at =
    attr_grouped make (eight_bytes any_number bytes at) (four_bytes (λ n. nat_lt n names) bytes (at + 8)) (four_bytes (λ n. nat_lt n names) bytes (at + 12))

-- ---- the loop

-- what was read before, and what is still read
abbrev pub after_front : List Element → Result (List Element × ℕ) ℕ → Result (List Element × ℕ) ℕ
after_front front read = and_read read (λ more. Ok (front ++ more.0, more.1))

abbrev with_first : Element → Result (List Element × ℕ) ℕ → Result (List Element × ℕ) ℕ
with_first x read = and_read read (λ more. Ok (x ∷ more.0, more.1))

pub no_front : (read : Result (List Element × ℕ) ℕ) → after_front [] read ≡ read
no_front (Ok xs) = refl
no_front (Err offset) = refl

regroup : (front : List Element) (x : Element) (read : Result (List Element × ℕ) ℕ) → after_front front (with_first x read) ≡ after_front (front ++ x ∷ []) read
regroup front x (Ok more) = ap (λ (xs : List Element). Ok (xs, more.1)) (sym (append_assoc front (x ∷ []) more.0))
regroup front x (Err offset) = refl

element_grouped : (read : Result Element ℕ) (right : Element → Bool) (at : ℕ) (rest : Element → Result (List Element × ℕ) ℕ) → and_read read (λ x. cond (right x) (with_first x (rest x)) (Err at)) ≡ and_read (and_read read (λ x. cond (right x) (Ok x) (Err at))) (λ x. with_first x (rest x))
element_grouped (Err offset) right at rest = refl
element_grouped (Ok x) right at rest =
    elim (right x) as (λ b. cond b (with_first x (rest x)) (Err at) ≡ and_read (cond b (Ok x) (Err at)) (λ x. with_first x (rest x))) [ true ↦ refl | false ↦ refl ]

module _ (col : Column) (names : ℕ) (bytes : List ℕ) (others : List Element) where
  -- what comes behind an element
  abbrev rest_after : ℕ → ℕ → Element → Result (List Element × ℕ) ℕ
  rest_after k at x = elements_at k col names bytes others (at + element_size x) (Some x)

  pub elements_step : (k at : ℕ) (last : Option Element) → elements_at (suc k) col names bytes others at last ≡ and_read (next_element_at col names bytes others at last) (λ x. with_first x (rest_after k at x))
  elements_step k at last =
      element_grouped (element_at col names bytes at) (λ x. rises_from last x && not (has others x)) at (rest_after k at)

  module _ (front : List Element) (count i at : ℕ) (last : Option Element) (total : Result (List Element × ℕ) ℕ) where
    abbrev so_far : Type 0
    so_far = after_front front (elements_at (count - i) col names bytes others at last) ≡ total

    one_more : i < count → after_front front (elements_at (count - i) col names bytes others at last) ≡ after_front front (and_read (next_element_at col names bytes others at last) (λ x. with_first x (rest_after (count - (i + 1)) at x)))
    one_more lt =
        let k : count - i ≡ suc (count - (i + 1)) = omega arith in
        ap (λ n. after_front front (elements_at n col names bytes others at last)) k ∙ ap (after_front front) (elements_step (count - (i + 1)) at last)

    pub goes_on : i < count → (x : Element) (next : ℕ) → next ≡ at + element_size x → next_element_at col names bytes others at last ≡ Ok x → so_far
        → after_front (front ++ x ∷ []) (elements_at (count - (i + 1)) col names bytes others next (Some x)) ≡ total
    goes_on lt x next is h e =
        ap (λ n. after_front (front ++ x ∷ []) (elements_at (count - (i + 1)) col names bytes others n (Some x))) is
        ∙ sym (regroup front x (rest_after (count - (i + 1)) at x))
        ∙ ap (λ r. after_front front (and_read r (λ x. with_first x (rest_after (count - (i + 1)) at x)))) (sym h)
        ∙ sym (one_more lt) ∙ e

    pub stops : i < count → (f : ReadFault) → IsFaultOf f (next_element_at col names bytes others at last) → so_far → IsFaultOf f total
    stops lt (fault.Damaged offset) h e =
        sym e ∙ one_more lt ∙ ap (λ r. after_front front (and_read r (λ x. with_first x (rest_after (count - (i + 1)) at x)))) h
    stops lt fault.Memory h e = tt

    pub ended : count ≤ i → so_far → total ≡ Ok (front, at)
    ended le e =
        let k : count - i ≡ 0 = omega arith in
        sym e ∙ ap (λ n. after_front front (elements_at n col names bytes others at last)) k ∙ ap (λ (xs : List Element). Ok (xs, at)) (append-nil front)

-- ---- what was read

-- the value of a step that did not fail
pub bind_ok : {A B : Type 0} (r : Result A ℕ) (f : A → Result B ℕ) (y : B) → and_read r f ≡ Ok y → (x : A) × (r ≡ Ok x) × (f x ≡ Ok y)
bind_ok (Ok x) f y e = (x, refl, e)
bind_ok (Err d) f y e = absurd cc

abbrev pub done : {A : Type 0} → A → Result A ℕ
done x = Ok x

pub ok_is : {A : Type 0} (x y : A) → done x ≡ done y → x ≡ y
ok_is x y e = cc

pub elements_are : (xs ys : List Element) (m n : ℕ) → done {A = List Element × ℕ} (xs, m) ≡ done {A = List Element × ℕ} (ys, n) → xs ≡ ys
elements_are xs ys m n e = ap (λ (p : List Element × ℕ). p.0) (ok_is {A = List Element × ℕ} (xs, m) (ys, n) e)

-- a test that did not fail
pub passed : {A : Type 0} (b : Bool) (p : ℕ) (x y : A) → cond b (Ok x) (Err p) ≡ Ok y → (b ≡ true) × (x ≡ y)
passed true p x y e = (refl, cc)
passed false p x y e = absurd cc

pub both : (a b : Bool) → (a && not b) ≡ true → (a ≡ true) × (b ≡ false)
both true true e = absurd cc
both true false e = (refl, refl)
both false b e = absurd cc

-- the elements that were read rise from the last one before them, and are in none of the others
pub record Kept (others : List Element) (last : Option Element) (xs : List Element) : Type 0 where
  pub rises : IfSome last (λ l. IsBelowFirst l xs)
  pub set : IsSet xs
  pub apart : AreApart others xs

kept_first : (others : List Element) (last : Option Element) (x : Element) (xs : List Element) → rises_from last x ≡ true → has others x ≡ false → Kept others (Some x) xs → Kept others last (x ∷ xs)
kept_first others last x xs rises absent kept = record {
  rises = elim last as (λ l. rises_from l x ≡ true → IfSome l (λ y. IsTrue (before y x))) [ None ↦ λ e. tt | Some y ↦ λ e. e ] rises;
  set = (kept.rises, kept.set);
  apart = λ q h. elim (same q x) as (λ b. same q x ≡ b → (b || has xs q) ≡ false) [
    | true ↦ λ e. absurd (true≢false (sym h ∙ ap (has others) (element_exact q x e) ∙ absent))
    | false ↦ λ e. kept.apart q h
  ] refl;
}

nothing_kept : (others : List Element) (last : Option Element) → Kept others last []
nothing_kept others last = record {
  rises = elim last as (λ l. IfSome l (λ y. Unit {0})) [ None ↦ tt | Some y ↦ tt ];
  set = tt;
  apart = λ q h. refl;
}

pub elements_keep : (k : ℕ) (col : Column) (names : ℕ) (bytes : List ℕ) (others : List Element) (at : ℕ) (last : Option Element) (xs : List Element) (n : ℕ) → elements_at k col names bytes others at last ≡ Ok (xs, n) → Kept others last xs
elements_keep zero col names bytes others at last xs n e =
    subst (Kept others last) (elements_are [] xs at n e) (nothing_kept others last)
elements_keep (suc k) col names bytes others at last xs n e =
    let a = bind_ok (next_element_at col names bytes others at last) (λ x. with_first x (elements_at k col names bytes others (at + element_size x) (Some x))) (xs, n) (sym (elements_step col names bytes others k at last) ∙ e) in
    let x = a.0 in
    let b = bind_ok (elements_at k col names bytes others (at + element_size x) (Some x)) (λ more. Ok (x ∷ more.0, more.1)) (xs, n) a.2 in
    let c = bind_ok (element_at col names bytes at) (λ y. cond (rises_from last y && not (has others y)) (Ok y) (Err at)) x a.1 in
    let d = passed (rises_from last c.0 && not (has others c.0)) at c.0 x c.2 in
    let tests = both (rises_from last x) (has others x) (ap (λ y. rises_from last y && not (has others y)) (sym d.1) ∙ d.0) in
    subst (Kept others last) (elements_are (x ∷ b.0.0) xs b.0.1 n b.2) (kept_first others last x b.0.0 tests.0 tests.1 (elements_keep k col names bytes others (at + element_size x) (Some x) b.0.0 b.0.1 b.1))
