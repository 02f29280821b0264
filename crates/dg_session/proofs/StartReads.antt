-- The bytes that a start reads where it fails.
use Rattle.std.proofs.Common.{◌≡◌, ℕ, Bool, true, false, List, Option, Some, None, Err, sym, ◌∙◌}
use Rattle.std.specs.Prelude.{IfSome}
use Rattle.dg_start.specs.Calls.{TakesStart}

-- the fault of a start is handed on as another
pub failing_reads : (A B E F : Type 0) (before after : ℕ) (e : E) (f : F) (told : Option (List ℕ)) → IfSome told (λ image. TakesStart {A = A} {E = E} (Err e) image before after) → IfSome told (λ image. TakesStart {A = B} {E = F} (Err f) image before after)
failing_reads A B E F before after e f None t = tt
failing_reads A B E F before after e f (Some image) t = record { history = t.history; blank = t.blank }

pub not_both : (b : Bool) → b ≡ true → b ≡ false → ⊥
not_both b is off = let bad : true ≡ false = sym is ∙ off in cc
