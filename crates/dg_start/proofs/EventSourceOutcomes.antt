-- What is said of an image that a disk tells, and of what a call hands on.
use Rattle.std.proofs.Common.{◌≡◌, ℕ, List, Option, Some, None, Result, Ok, Err, refl, sym, ◌∙◌, subst}
use Rattle.std.specs.Prelude.{IfErr, IfSome, IsErr, IsErrAnd, OnOk}
use Rattle.dg_start.specs.EventSources.{WhereTold}

pub of_told : {A : Type 0} (o : Option A) (P : A → Type 0) (x : A) → IfSome o P → o ≡ Some x → P x
of_told o P x h e = subst (λ (y : Option _). IfSome y P) e h

pub if_told : {A : Type 0} (o : Option A) (P : A → Type 0) → ((x : A) → o ≡ Some x → P x) → IfSome o P
if_told None P h = tt
if_told (Some y) P h = h y refl

-- the fault that a call handed on
pub err_is : {A E : Type 0} (r : Result A E) (x : E) (P : E → Type 0) → IsErr r × IsErrAnd r (λ y. y ≡ x) → P x → IfErr r P
err_is (Ok a) x P h p = tt
err_is (Err e) x P h p = subst P (sym h.1) p

-- a fact that holds however the call went
pub on_ok : {A E : Type 0} (r : Result A E) (P : Type 0) → P → OnOk r P
on_ok (Ok a) P p = p
on_ok (Err e) P p = tt

-- a fact of an image that is told
pub told_weaker : (old new : Option (List ℕ)) (P Q : List ℕ → Type 0) → new ≡ old → ((x : List ℕ) → P x → Q x) → IfSome old P → IfSome new Q
told_weaker old new P Q same weaker h = subst (λ (o : Option (List ℕ)). IfSome o Q) (sym same) (weak old h)
  where
    weak : (o : Option (List ℕ)) → IfSome o P → IfSome o Q
    weak None h = tt
    weak (Some x) h = weaker x h

-- what is said of an image that was not changed
pub said_before : (now told : Option (List ℕ)) (P : List ℕ → Type 0) → now ≡ told → WhereTold now P → WhereTold told P
said_before now told P same_image h image is = h image (same_image ∙ is)

-- the same of an image and a number of names that are the same
pub seen_before : (now told : Option (List ℕ)) (n m : ℕ) (P : List ℕ → ℕ → Type 0) → now ≡ told → n ≡ m → IfSome now (λ image. P image n) → IfSome told (λ image. P image m)
seen_before now told n m P a b h = subst (λ (t : Option (List ℕ)). IfSome t (λ image. P image m)) a (subst (λ (k : ℕ). IfSome now (λ image. P image k)) b h)
