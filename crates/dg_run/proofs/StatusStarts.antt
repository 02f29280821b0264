-- What follows from how a session begins, or does not.
use Rattle.std.proofs.Common.{◌≡◌, ◌≢◌, ℕ, ◌⊎◌, inl, inr, Bool, true, List, [], Option, Some, None, IfSome, Result, Ok, Err, refl, sym, ◌∙◌, ap, subst}
use Rattle.dg_session.specs.declared.session_fault.SessionFault.{SessionFault}
use Rattle.dg_session.specs.declared.session_fault.SessionFault.TheVariants.{Start, Unsound}
use Rattle.dg_session.specs.SessionStart.{Begins, BeginsAreDetermined, RefusesSession}
use Rattle.dg_start.specs.declared.fault.StartFault.TheVariants as fault
use Rattle.dg_start.specs.SessionStart.{Started}
use Rattle.dg_run.specs.declared.status.Status.{Status}
use Rattle.dg_run.specs.declared.status.Status.TheVariants as status
use Rattle.dg_io.specs.Told.{grown}
use Rattle.dg_run.specs.Served.{Gained}
use Rattle.dg_run.specs.Statuses.{IsBegun, ending_of, is_unbegun}

pub where_some : (o : Option (List ℕ)) (P Q : List ℕ → Type 0) → ((x : List ℕ) → P x → Q x) → IfSome o P → IfSome o Q
where_some None P Q each all = tt
where_some (Some x) P Q each all = each x all

-- How a run ends for whose session there is this fault: by the disk, by want of memory, or by what lies in the image.
pub data EndsFor (s : Status) (f : SessionFault) : Type 0 where
  By_disk : s ≡ status.DiskFault → f ≡ Start fault.Disk → EndsFor s f
  By_memory : s ≡ status.NoMemory → f ≡ Start fault.Memory → EndsFor s f
  By_image : s ≡ status.Refused f → f ≢ Start fault.Disk → f ≢ Start fault.Memory → EndsFor s f

ends : (f : SessionFault) → EndsFor (ending_of f) f
ends (Start fault.Disk) = By_disk refl refl
ends (Start fault.Foreign) = By_image refl (λ e. cc) (λ e. cc)
ends (Start (fault.Damaged offset)) = By_image refl (λ e. cc) (λ e. cc)
ends (Start (fault.BadRecord key col)) = By_image refl (λ e. cc) (λ e. cc)
ends (Start fault.NotGraph) = By_image refl (λ e. cc) (λ e. cc)
ends (Start (fault.BadRecent number)) = By_image refl (λ e. cc) (λ e. cc)
ends (Start fault.Memory) = By_memory refl refl
ends (Unsound key col) = By_image refl (λ e. cc) (λ e. cc)

pub ends_for : (s : Status) (f : SessionFault) → s ≡ ending_of f → EndsFor s f
ends_for s f is = subst (λ (t : Status). EndsFor t f) (sym is) (ends f)

-- the end of a run whose session did not begin is none of these
pub record Unbegun (s : Status) : Type 0 where
  pub words : s ≡ status.Words → ⊥
  pub done : s ≡ status.Done → ⊥
  pub source : s ≡ status.SourceFault → ⊥
  pub sink : s ≡ status.SinkFault → ⊥
  pub limit : s ≡ status.ScriptLimit → ⊥

pub unbegun : (s : Status) (f : SessionFault) → EndsFor s f → Unbegun s
unbegun s f (By_disk is disk) = record { words = λ e. cc; done = λ e. cc; source = λ e. cc; sink = λ e. cc; limit = λ e. cc }
unbegun s f (By_memory is memory) = record { words = λ e. cc; done = λ e. cc; source = λ e. cc; sink = λ e. cc; limit = λ e. cc }
unbegun s f (By_image is disk memory) = record { words = λ e. cc; done = λ e. cc; source = λ e. cc; sink = λ e. cc; limit = λ e. cc }

-- the run ended before anything was touched, or by the disk
pub untouched_end : (s : Status) (f : SessionFault) → EndsFor s f → (is_unbegun s ≡ true) ⊎ (s ≡ status.DiskFault)
untouched_end s f (By_disk is disk) = inr is
untouched_end s f (By_memory is memory) = inl (ap is_unbegun is)
untouched_end s f (By_image is disk memory) = inl (ap is_unbegun is)

-- no run of these begins
pub never_begins : (s : Status) (f : SessionFault) (P : Type 0) → EndsFor s f → IsBegun s → s ≢ status.DiskFault → P
never_begins s f P (By_disk is disk) begun other = absurd (other is)
never_begins s f P (By_memory is memory) begun other = absurd (subst IsBegun is begun)
never_begins s f P (By_image is disk memory) begun other = absurd (subst IsBegun is begun)

-- the run ends so by a failure of the disk alone
pub disk_failed : (s : Status) (f : SessionFault) → EndsFor s f → s ≡ status.DiskFault → f ≡ Start fault.Disk
disk_failed s f (By_disk is disk) e = disk
disk_failed s f (By_memory is memory) e = absurd (cc)
disk_failed s f (By_image is disk memory) e = absurd (cc)

-- a fault that the image is refused for
pub record Lies (f g : SessionFault) : Type 0 where
  pub disk : g ≢ Start fault.Disk
  pub memory : g ≢ Start fault.Memory
  pub same : f ≡ g

pub lies : (s : Status) (f g : SessionFault) → EndsFor s f → s ≡ status.Refused g → Lies f g
lies s f g (By_disk is disk) e = absurd (cc)
lies s f g (By_memory is memory) e = absurd (cc)
lies s f g (By_image is disk memory) e =
    let both : status.Refused f ≡ status.Refused g = sym is ∙ e in
    let same : f ≡ g = cc in record { disk = λ d. disk (same ∙ d); memory = λ m. memory (same ∙ m); same = same }

-- the image is refused for the fault, where it lies there
refused_for : (checked : Bool) (f : SessionFault) (image : List ℕ) → f ≢ Start fault.Disk → f ≢ Start fault.Memory → RefusesSession checked f image → Begins checked image (Err f)
refused_for checked (Start fault.Disk) image disk memory h = absurd (disk refl)
refused_for checked (Start fault.Foreign) image disk memory h = h
refused_for checked (Start (fault.Damaged offset)) image disk memory h = h
refused_for checked (Start (fault.BadRecord key col)) image disk memory h = h
refused_for checked (Start fault.NotGraph) image disk memory h = h
refused_for checked (Start (fault.BadRecent number)) image disk memory h = h
refused_for checked (Start fault.Memory) image disk memory h = absurd (memory refl)
refused_for checked (Unsound key col) image disk memory h = h

pub refused_so : (checked : Bool) (s : Status) (f g : SessionFault) (image : List ℕ) → EndsFor s f → s ≡ status.Refused g → RefusesSession checked f image → Begins checked image (Err g)
refused_so checked s f g image is e h =
    let l = lies s f g is e in
    refused_for checked g image l.disk l.memory (subst (λ (x : SessionFault). RefusesSession checked x image) l.same h)

-- an image comes to one fault
one_fault : BeginsAreDetermined → (checked : Bool) (image : List ℕ) (f g : SessionFault) → Begins checked image (Err f) → Begins checked image (Err g) → f ≡ g
one_fault determined checked image f g a b =
    let e : ◌≡◌ {A = Result (Option Started) SessionFault} (Err f) (Err g) = determined checked image (Err f) (Err g) a b in cc

-- an image that is refused ends the run so
pub ends_so : BeginsAreDetermined → (checked : Bool) (s : Status) (f g : SessionFault) (image : List ℕ) → EndsFor s f → (f ≡ Start fault.Disk → ⊥) → RefusesSession checked f image → Begins checked image (Err g)
    → (s ≡ status.Refused g) ⊎ (s ≡ status.NoMemory)
ends_so determined checked s f g image (By_disk is disk) calm h e = absurd (calm disk)
ends_so determined checked s f g image (By_memory is memory) calm h e = inr is
ends_so determined checked s f g image (By_image is disk memory) calm h e =
    inl (is ∙ ap (λ x. status.Refused x) (one_fault determined checked image f g (refused_for checked f image disk memory h) e))

-- what does not lie in the image is not answered so
pub never_so : (s : Status) (f g : SessionFault) → EndsFor s f → (f ≡ Start fault.Disk) ⊎ (f ≡ Start fault.Memory) → s ≡ status.Refused g → ⊥
never_so s f g is (inl e) refused = let l = lies s f g is refused in l.disk (sym l.same ∙ e)
never_so s f g is (inr e) refused = let l = lies s f g is refused in l.memory (sym l.same ∙ e)

-- a session that began is over an image that is not refused
pub begins_ok : BeginsAreDetermined → (checked : Bool) (image : List ℕ) (started : Option Started) (g : SessionFault) → Begins checked image (Ok started) → Begins checked image (Err g) → ⊥
begins_ok determined checked image started g a b =
    let e : ◌≡◌ {A = Result (Option Started) SessionFault} (Ok started) (Err g) = determined checked image (Ok started) (Err g) a b in cc

-- what a sink gains whose run did not begin
pub unbegun_gains : (s : Status) (f : SessionFault) (before now : Option (List ℕ)) → EndsFor s f → now ≡ grown before [] → Gained s before [] now
unbegun_gains s f before now (By_disk is disk) same = subst (λ (t : Status). Gained t before [] now) (sym is) same
unbegun_gains s f before now (By_memory is memory) same = subst (λ (t : Status). Gained t before [] now) (sym is) same
unbegun_gains s f before now (By_image is disk memory) same = subst (λ (t : Status). Gained t before [] now) (sym is) same
