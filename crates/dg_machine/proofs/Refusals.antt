-- What is said of a reply by its refusal.
use Rattle.std.proofs.Common.{◌≡◌, Bool, true, false, Option, Some, None, sym}
use Rattle.std.specs.Prelude.{is_some}
use Rattle.std.proofs.lemmas.Bool.{false≢true}
use Rattle.dg_machine.specs.declared.reply.Refusal.{Refusal}
use Rattle.dg_machine.specs.declared.reply.Reply.{Reply}
use Rattle.dg_machine.specs.Answer.{is_refusal, refusal_of, refuses}
use Rattle.dg_machine.specs.Run.{is_failed_read, is_store_read}

refuses_none : (test : Refusal → Bool) (o : Option Refusal) → is_some o ≡ false → refuses test o ≡ true → ⊥
refuses_none test None accepts e = false≢true e
refuses_none test (Some r) accepts e = false≢true (sym accepts)

-- a reply that is no refusal does not say that a read failed
pub store_read_refuses : (r : Reply) → is_refusal r ≡ false → is_store_read r ≡ true → ⊥
store_read_refuses r accepts e = refuses_none is_failed_read (refusal_of r) accepts e
