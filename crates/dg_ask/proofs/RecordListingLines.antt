-- How the lines of records are gathered, one or one height at a time.
use Rattle.std.proofs.Common.{◌≡◌, ℕ, ◌+◌, ◌-◌, ◌/◌, List as ListOf, [], ◌∷◌, ◌++◌, map, sym, ap, ◌∙◌, arith, append_assoc}
use Rattle.std.specs.List.{flat_map}
use Rattle.std.proofs.lemmas.List.{append-nil, map-append}
use Rattle.std.proofs.lemmas.List.Concat.{flat_map-append}
use Rattle.std.proofs.Math.Nat.{zero-div}
use Rattle.dg_history.specs.declared.node.Key.{Key}
use Rattle.dg_history.specs.declared.node.Key.TheVariants as key
use Rattle.dg_history.specs.declared.params.Params.{Params}
use Rattle.dg_index.specs.Hierarchy.{numbers}
use Rattle.dg_index.specs.IndexRecords.{heights, keys_of}
use Rattle.dg_plan.proofs.IndexGraphNumbers.{numbers_more}
use Rattle.dg_ask.specs.RecordListing.{down_keys}

-- one more of them, named by what it is numbered with
pub listed_more : {A B C : Type 0} (f : B → C) (g : A → B) (old : ListOf C) (xs more : ListOf A) (x : A) → more ≡ xs ++ x ∷ []
    → (old ++ map f (map g xs)) ++ f (g x) ∷ [] ≡ old ++ map f (map g more)
listed_more f g old xs more x is =
    append_assoc old (map f (map g xs)) (f (g x) ∷ [])
    ∙ ap (λ t. old ++ t)
    (sym (map-append f (map g xs) (g x ∷ [])) ∙ ap (map f) (sym (map-append g xs (x ∷ [])) ∙ ap (map g) (sym is)))

-- the next number
pub numbered_more : {B C : Type 0} (f : B → C) (g : ℕ → B) (old : ListOf C) (first n k : ℕ) → k ≡ first + n
    → (old ++ map f (map g (numbers first n))) ++ f (g k) ∷ [] ≡ old ++ map f (map g (numbers first (n + 1)))
numbered_more f g old first n k is =
    listed_more f g old (numbers first n) (numbers first (n + 1)) k (numbers_more first n ∙ ap (λ x. numbers first n ++ x ∷ []) (sym is))

-- all of one height more
pub level_more : {A B C : Type 0} (f : B → C) (g : A → ListOf B) (old : ListOf C) (xs more : ListOf A) (x : A) → more ≡ xs ++ x ∷ []
    → (old ++ map f (flat_map g xs)) ++ map f (g x) ≡ old ++ map f (flat_map g more)
level_more f g old xs more x is =
    append_assoc old (map f (flat_map g xs)) (map f (g x))
    ∙ ap (λ t. old ++ t)
    (sym (map-append f (flat_map g xs) (g x))
    ∙ ap (map f) (ap (λ t. flat_map g xs ++ t) (sym (append-nil (g x))) ∙ (sym (flat_map-append g xs (x ∷ [])) ∙ ap (flat_map g) (sym is))))

-- the lists, the tops and the downs are all keys
pub all_listed : {C : Type 0} (h : Key → C) (p : Params) (n m : ℕ) (start lists tops all : ListOf C) → m ≡ n / p.l → start ≡ []
    → lists ≡ start ++ map h (map (λ i. key.List i) (numbers 0 m)) → tops ≡ lists ++ map h (map (λ h. key.Top h) (heights p.k m)) → all ≡ tops ++ map h (flat_map (down_keys p.k m) (heights p.k m))
    → all ≡ map h (keys_of p n)
all_listed h p n m start lists tops all is none a b c =
    let xs : ListOf Key = map (λ i. key.List i) (numbers 0 m) in
    let ys : ListOf Key = map (λ h. key.Top h) (heights p.k m) in
    let zs : ListOf Key = flat_map (down_keys p.k m) (heights p.k m) in
    let none_before : 0 ≡ 0 / p.l = sym (zero-div p.l) in
    let count : m ≡ n / p.l - 0 / p.l = omega (arith, is, none_before) in
    c ∙ ap (λ l. l ++ map h zs) (b ∙ ap (λ l. l ++ map h ys) (a ∙ ap (λ l. l ++ map h xs) none))
    ∙ append_assoc (map h xs) (map h ys) (map h zs)
    ∙ ap (λ l. map h xs ++ l) (sym (map-append h ys zs)) ∙ sym (map-append h xs (ys ++ zs))
    ∙ (λ i. map h (map (λ j. key.List j) (numbers (none_before i) (count i)) ++ (map (λ g. key.Top g) (heights p.k (is i)) ++ flat_map (down_keys p.k (is i)) (heights p.k (is i)))))
