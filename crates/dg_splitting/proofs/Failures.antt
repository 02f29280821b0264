-- Why a call fails whose fault is passed on.
use Rattle.std.proofs.Common.{Result, Ok, Err}
use Rattle.std.specs.Prelude.{IfErr, IsErr, IsErrAnd, OnOk}

-- the fact holds of what the fault becomes
pub err_any : {A E : Type 0} (r : Result A E) (Q P : E → Type 0) → IsErr r × IsErrAnd r Q → ((e : E) → Q e → P e) → IfErr r P
err_any (Ok a) Q P h f = tt
err_any (Err e) Q P h f = f e h.1

-- the fact holds of each error of which another one does
pub err_both : {A E : Type 0} (r : Result A E) (Q R P : E → Type 0) → IfErr r Q → IfErr r R → ((e : E) → Q e → R e → P e) → IfErr r P
err_both (Ok a) Q R P q h f = tt
err_both (Err e) Q R P q h f = f e q h

pub ok_both : {A E : Type 0} (r : Result A E) (Q R P : Type 0) → OnOk r Q → OnOk r R → (Q → R → P) → OnOk r P
ok_both (Ok a) Q R P q h f = f q h
ok_both (Err e) Q R P q h f = tt
