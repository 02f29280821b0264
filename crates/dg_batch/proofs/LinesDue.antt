-- Where as many bytes as the limit were taken and one more is needed, no line is given.
use Rattle.std.proofs.Common.{◌≡◌, ℕ, ◌<◌, Bool, true, false, Option, Some, Result, Ok, Err, if◌then◌else◌, refl, sym, ap, ◌∙◌, subst, nat_lt}
use Rattle.std.specs.Prelude.{IfSome}
use Rattle.std.specs.Result.{IsErr, IsErrAnd}
use Rattle.std.proofs.lemmas.Bool.{ltb-true}
use Rattle.dg_batch.specs.BatchLines.{IsShort, first_refusal}
use Rattle.dg_batch.specs.declared.stop.Stop.{Stop}
use Rattle.dg_batch.specs.declared.stop.Stop.TheVariants as stop
use Rattle.dg_io.specs.declared.lines.Line.{Line}
use Rattle.dg_machine.specs.declared.reply.Refusal.{Refusal}
use Rattle.dg_machine.specs.declared.reply.Refusal.TheVariants as refusal
use Rattle.dg_io.specs.LinesState.{LinesState, NeedsByte}

no_answer : (r : Result Line Stop) (line : Line) → r ≡ Err stop.Limit → r ≡ Ok line → ⊥
no_answer r line stopped given = let e : (let x : Result Line Stop = Err stop.Limit in x) ≡ Ok line = sym stopped ∙ given in cc

-- before the first line nothing was taken, and there it stops
pub due_here : (old loop : LinesState) (read : ℕ) (r : Result Line Stop) → (old.taken ≡ old.limit → NeedsByte old → read ≡ 0) → (read ≡ 0 → loop ≡ old)
    → (loop.taken ≡ loop.limit → NeedsByte loop → r ≡ Err stop.Limit) → old.taken ≡ old.limit → NeedsByte old → r ≡ Err stop.Limit
due_here old loop read r undue begins due at needs =
    subst (λ (l : LinesState). (l.taken ≡ l.limit → NeedsByte l → r ≡ Err stop.Limit)) (begins (undue at needs)) due at needs

pub never_given : (old loop : LinesState) (read : ℕ) (r : Result Line Stop) (line : Line) → (old.taken ≡ old.limit → NeedsByte old → read ≡ 0) → (read ≡ 0 → loop ≡ old)
    → (loop.taken ≡ loop.limit → NeedsByte loop → r ≡ Err stop.Limit) → r ≡ Ok line → old.taken ≡ old.limit → NeedsByte old → ⊥
never_given old loop read r line undue begins due given at needs = no_answer r line (due_here old loop read r undue begins due at needs) given

-- so does what hands the fault on
pub due_given_on : {A : Type 0} (r : Result A Stop) (s : Stop) (given : Result Line Stop) → IsErr r × IsErrAnd r (λ y. y ≡ s) → given ≡ Err s → given ≡ Err stop.Limit → r ≡ Err stop.Limit
due_given_on (Ok a) s given h was due = cc
due_given_on (Err e) s given h was due =
    let same : (let x : Result Line Stop = Err s in x) ≡ Err stop.Limit = sym was ∙ due in
    let is : s ≡ stop.Limit = cc in
    ap (λ y. Err y) (h.1 ∙ is)

-- ---- too few lines

-- a refusal for too few lines is none of those that bar a batch
pub is_short : (read count : ℕ) (bar : Option Refusal) (r : Refusal) → IfSome bar (λ x. IsShort x → ⊥) → first_refusal read count bar ≡ Some r → IsShort r → read < count
is_short read count bar r other e short = by (nat_lt read count) refl e
  where
    by : (b : Bool) → nat_lt read count ≡ b → (if b then Some (refusal.ShortBatch read count) else bar) ≡ Some r → read < count
    by true is h = ltb-true read count is
    by false is h = absurd (subst (λ o. IfSome o (λ x. IsShort x → ⊥)) h other short)
