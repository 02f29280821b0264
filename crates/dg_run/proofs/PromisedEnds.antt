-- Where nothing failed, the length of the script decides how a run ends.
use Rattle.std.proofs.Common.{◌≡◌, ℕ, ◌<◌, ◌≤◌, inl, inr, List, ◌++◌, Option, Some, None, IfSome, length, refl, ap, arith, length-append}
use Rattle.dg_session.specs.declared.session_fault.SessionFault.{SessionFault}
use Rattle.dg_machine.specs.declared.limits.Limits.{Limits}
use Rattle.dg_io.specs.Told.{Gives}
use Rattle.dg_run.specs.declared.status.Status.{Status}
use Rattle.dg_run.specs.declared.status.Status.TheVariants as status
use Rattle.dg_run.specs.Promised.{Completes}

long_enough : (script taken : List ℕ) (limit : ℕ) (rest : Option (List ℕ)) → Gives (Some script) taken rest → length taken ≡ limit → limit ≤ length script
long_enough script taken limit None gives is = absurd (cc)
long_enough script taken limit (Some xs) gives is =
    let same : script ≡ taken ++ xs = cc in omega (arith, ap length same, length-append taken xs)

pub completes_of : (limits : Limits) (s : Status) (left rest : Option (List ℕ))
    → (s ≡ status.Words → ⊥) → (s ≡ status.SourceFault → ⊥) → (s ≡ status.SinkFault → ⊥)
    → (s ≡ status.DiskFault → ⊥) → ((fault : SessionFault) → s ≡ status.Refused fault → ⊥)
    → (s ≡ status.Done → IfSome left (λ script. length script < limits.script_bytes))
    → (s ≡ status.ScriptLimit → (taken : List ℕ) × Gives left taken rest × (length taken ≡ limits.script_bytes))
    → IfSome left (λ script. Completes limits s script)
completes_of limits s None rest words source sink disk refused done limit = tt
completes_of limits status.Done (Some script) rest words source sink disk refused done limit = record {
  short = λ less. inl refl;
  long = λ more. absurd (let less : length script < limits.script_bytes = done refl in omega arith);
}
completes_of limits status.Words (Some script) rest words source sink disk refused done limit = absurd (words refl)
completes_of limits status.SourceFault (Some script) rest words source sink disk refused done limit = absurd (source refl)
completes_of limits status.SinkFault (Some script) rest words source sink disk refused done limit = absurd (sink refl)
completes_of limits status.DiskFault (Some script) rest words source sink disk refused done limit = absurd (disk refl)
completes_of limits (status.Refused fault) (Some script) rest words source sink disk refused done limit = absurd (refused fault refl)
completes_of limits status.NoMemory (Some script) rest words source sink disk refused done limit = record {
  short = λ less. inr refl;
  long = λ more. inr refl;
}
completes_of limits status.ScriptLimit (Some script) rest words source sink disk refused done limit =
    let got = limit refl in record {
      short = λ less. absurd (let more : limits.script_bytes ≤ length script = long_enough script got.0 limits.script_bytes rest got.1 got.2 in omega arith);
      long = λ more. inl refl;
    }
