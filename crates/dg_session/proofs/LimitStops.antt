-- A command that lines follow stops for the limit where it is due; and which commands are not stopped for the file.
use Rattle.std.proofs.Common.{◌≡◌, Result, Ok, Err, sym, ◌∙◌}
use Rattle.dg_batch.specs.declared.halt.Halt.{Halt}
use Rattle.dg_batch.specs.declared.halt.Halt.TheVariants as halt
use Rattle.dg_batch.specs.declared.stop.Stop.{Stop}
use Rattle.dg_batch.specs.declared.stop.Stop.TheVariants as stop
use Rattle.dg_machine.specs.declared.reply.Refusal.{Refusal}

pub not_ok : {A E : Type 0} (r : Result A E) (x : A) (e : E) → r ≡ Err e → r ≡ Ok x → ⊥
not_ok {A} {E} r x e fails is = let bad : (let y : Result A E = Err e in y) ≡ Ok x = sym fails ∙ is in cc

pub same_fault : {A E : Type 0} (r : Result A E) (a b : E) → r ≡ Err a → r ≡ Err b → b ≡ a
same_fault {A} {E} r a b first second = let same : (let y : Result A E = Err a in y) ≡ Err b = sym first ∙ second in cc

pub not_refused : {A : Type 0} (r : Result A Halt) (q : Refusal) → r ≡ Err (halt.Stop stop.Limit) → r ≡ Err (halt.Refusal q) → ⊥
not_refused r q stops is = let bad : halt.Refusal q ≡ halt.Stop stop.Limit = same_fault r (halt.Stop stop.Limit) (halt.Refusal q) stops is in cc

pub stop_is : {A : Type 0} (r : Result A Halt) (s : Stop) → r ≡ Err (halt.Stop stop.Limit) → r ≡ Err (halt.Stop s) → s ≡ stop.Limit
stop_is r s stops is = let same : halt.Stop s ≡ halt.Stop stop.Limit = same_fault r (halt.Stop stop.Limit) (halt.Stop s) stops is in cc

pub refused_not_store : {A : Type 0} (r : Result A Halt) (q : Refusal) → r ≡ Err (halt.Refusal q) → r ≡ Err (halt.Stop stop.Store) → ⊥
refused_not_store r q is stops = let bad : halt.Refusal q ≡ halt.Stop stop.Store = same_fault r (halt.Stop stop.Store) (halt.Refusal q) stops is in cc

pub stops_as : {A : Type 0} (r : Result A Halt) (a b : Stop) → r ≡ Err (halt.Stop a) → r ≡ Err (halt.Stop b) → a ≡ b
stops_as r a b first second = let same : halt.Stop a ≡ halt.Stop b = same_fault r (halt.Stop b) (halt.Stop a) second first in cc
