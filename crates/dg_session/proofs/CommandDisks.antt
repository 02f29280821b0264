-- What commands do to the disk, by what the calls below them leave of it.
use Rattle.std.proofs.Common.{◌≡◌, ℕ, List, Result, Ok, Err, refl, sym, ap, subst}
use Rattle.std.specs.Prelude.{IfErr, OnOk}
use Rattle.dg_append.specs.declared.fault.BatchFault.{BatchFault}
use Rattle.dg_append.specs.declared.fault.BatchFault.TheVariants as batch_fault
use Rattle.dg_append.specs.DiskLeft.{LeavesDisk}
use Rattle.dg_batch.specs.declared.halt.Halt.{Halt}
use Rattle.dg_batch.specs.declared.halt.Halt.TheVariants as halt
use Rattle.dg_batch.specs.declared.stop.Stop.TheVariants as stop
use Rattle.dg_batch.specs.Halt.{batch_halt, creation_halt}
use Rattle.dg_batch.specs.declared.held.Held.{Held}
use Rattle.dg_disk.proofs.FrameLemmas.{reads_none, reads_stay, reads_use}
use Rattle.dg_disk.specs.Calls.{IsOnDevice, ReadsDisk, StaysOnDevice, UsesDisk, WritesDisk}
use Rattle.dg_disk.specs.declared.disk.Disk.{Ghosts}
use Rattle.dg_file.specs.declared.fault.CommitFault.{CommitFault}
use Rattle.dg_file.specs.declared.fault.CommitFault.TheVariants as commit_fault
use Rattle.dg_file.specs.declared.fault.CreateFault.{CreateFault}
use Rattle.dg_file.specs.declared.fault.CreateFault.TheVariants as create_fault
use Rattle.dg_file.proofs.TidyWrites.{same_tidy}
use Rattle.dg_file.specs.TidyImages.{StaysTidy}
use Rattle.dg_index.specs.OpenedIndex.{Opening}
use Rattle.dg_machine.specs.declared.reply.Reply.{Reply}
use Rattle.dg_session.specs.Calls.{TreatsDisk}
use Rattle.dg_session.specs.Upgrade.{MarksHeld, upgrade_halt}

-- a fact that hangs on the answer alone
pub every_answer : {A E : Type 0} (r : Result A E) (P : Type 0) → P → OnOk r P
every_answer (Ok x) P p = p
every_answer (Err e) P p = tt

-- a fact that each fault has
pub every_err : {A E : Type 0} (r : Result A E) (P : E → Type 0) → ((e : E) → P e) → IfErr r P
every_err (Ok x) P each = tt
every_err (Err e) P each = each e

-- that it was not carried out for this reason
pub fails_as : (h k : Halt) → (let x : Result Reply Halt = Err h in x) ≡ Err k → h ≡ k
fails_as h k is = cc

module _ {D : Type 0} (g : Ghosts D) where
  writes_use : {old new : D} → WritesDisk g old new → UsesDisk g old new
  writes_use writes = record { told = writes.told; counted = writes.counted; writes_counted = writes.writes_counted; cache_counted = writes.cache_counted }

  pub answers_stay : {A E : Type 0} (r : Result A E) (old new : D) → ReadsDisk g old new → IsOnDevice g old → OnOk r (IsOnDevice g new)
  answers_stay r old new reads settled = every_answer r (IsOnDevice g new) (reads_stay old new reads settled)

  -- an image that calls leave, they leave as the bytes in use where it was those
  pub reading_tidy : (old new : D) → ReadsDisk g old new → StaysTidy (g.image old) (g.image new)
  reading_tidy old new reads = same_tidy (g.image old) (g.image new) reads.same_image

  -- calls that read, and no other
  pub reading_treats : (old new : D) (r : Result Reply Halt) → ReadsDisk g old new → TreatsDisk g old new r
  reading_treats old new r reads = record {
    used = reads_use reads;
    unwritten = every_err r (λ h. (h ≡ halt.Stop stop.Store → ⊥) → ReadsDisk g old new) (λ h other. reads);
    settled = every_answer r (StaysOnDevice g old new) (reads_stay old new reads);
    exact = every_answer r (StaysTidy (g.image old) (g.image new)) (reading_tidy old new reads);
  }

  -- ---- a batch

  batch_other : (f : BatchFault) → (batch_halt f ≡ halt.Stop stop.Store → ⊥) → f ≡ batch_fault.Store → ⊥
  batch_other f other e = other (ap batch_halt e)

  -- it is not added
  pub failed_treats : {A : Type 0} {P : List ℕ → List ℕ → Type 0} (old new : D) (f : BatchFault) → LeavesDisk {A = A} g P old new (Err f) → TreatsDisk g old new (Err (batch_halt f))
  failed_treats old new f left = record {
    used = left.used;
    unwritten = λ other. left.unwritten (batch_other f other);
    settled = tt;
    exact = tt;
  }

  -- it is added
  pub added_treats : {A : Type 0} {P : List ℕ → List ℕ → Type 0} (old new : D) (x : A) (reply : Reply) → LeavesDisk g P old new (Ok x) → TreatsDisk g old new (Ok reply)
  added_treats old new x reply left = record {
    used = left.used;
    unwritten = tt;
    settled = λ before. left.settled;
    exact = left.exact;
  }

  -- ---- an index

  -- it is not made
  pub unmade_treats : (old new : D) (f : CreateFault) → WritesDisk g old new → (f ≡ create_fault.Memory → new ≡ old)
      → TreatsDisk g old new (Err (creation_halt f))
  unmade_treats old new create_fault.Memory writes same = record {
    used = writes_use writes;
    unwritten = λ other. subst (λ (x : D). ReadsDisk g old x) (sym (same refl)) reads_none;
    settled = tt;
    exact = tt;
  }
  unmade_treats old new create_fault.Disk writes same = record {
    used = writes_use writes;
    unwritten = λ other. absurd (other refl);
    settled = tt;
    exact = tt;
  }

  -- it is made, or the file goes on in its second form
  pub made_treats : (old new : D) (reply : Reply) → WritesDisk g old new → IsOnDevice g new → StaysTidy (g.image old) (g.image new) → TreatsDisk g old new (Ok reply)
  made_treats old new reply writes settled exact = record {
    used = writes_use writes;
    unwritten = tt;
    settled = λ before. settled;
    exact = exact;
  }

  -- ---- the second form

  -- the file does not go on in it
  pub unmarked_treats : (A : Type 0) (limit : ℕ) (o : Opening) (before after : Held) (old new : D) (f : CommitFault) → WritesDisk g old new → MarksHeld {A = A} g limit o before after old new (Err f)
      → TreatsDisk g old new (Err (upgrade_halt limit f))
  unmarked_treats A limit o before after old new (commit_fault.FileFull n) writes marks = record {
    used = writes_use writes;
    unwritten = λ other. subst (λ (x : D). ReadsDisk g old x) (sym marks.3) reads_none;
    settled = tt;
    exact = tt;
  }
  unmarked_treats A limit o before after old new commit_fault.Disk writes marks = record {
    used = writes_use writes;
    unwritten = λ other. absurd (other refl);
    settled = tt;
    exact = tt;
  }
