-- What is said of a result, by what is said of another.
use Rattle.std.proofs.Common.{◌≡◌, Result, Ok, Err, subst}
use Rattle.std.specs.Prelude.{IfErr, IfOk, OnOk}

pub on_ok : {A E : Type 0} (r : Result A E) (P Q : Type 0) → (P → Q) → OnOk r P → OnOk r Q
on_ok (Ok x) P Q weaker h = weaker h
on_ok (Err e) P Q weaker h = tt

pub on_ok_so : {A E : Type 0} (r : Result A E) (P : Type 0) → P → OnOk r P
on_ok_so (Ok x) P h = h
on_ok_so (Err e) P h = tt

pub if_err : {A E : Type 0} (r : Result A E) (P Q : E → Type 0) → ((e : E) → P e → Q e) → IfErr r P → IfErr r Q
if_err (Ok x) P Q weaker h = tt
if_err (Err e) P Q weaker h = weaker e h

pub if_ok : {A E : Type 0} (r : Result A E) (P Q : A → Type 0) → ((x : A) → P x → Q x) → IfOk r P → IfOk r Q
if_ok (Ok x) P Q weaker h = weaker x h
if_ok (Err e) P Q weaker h = tt

pub both_ok : {A E : Type 0} (r : Result A E) (P Q : A → Type 0) (S : Type 0) → ((x : A) → P x → S → Q x) → IfOk r P → OnOk r S → IfOk r Q
both_ok (Ok x) P Q S so h s = so x h s
both_ok (Err e) P Q S so h s = tt

pub of_ok : {A E : Type 0} (r : Result A E) (x : A) (P : A → Type 0) → r ≡ Ok x → IfOk r P → P x
of_ok r x P is h = subst (λ (t : Result _ _). IfOk t P) is h
