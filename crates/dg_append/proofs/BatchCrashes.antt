-- What calls that may put a batch into the file leave of the disk, and what a crash leaves.
use Rattle.std.proofs.Common.{◌≡◌, ℕ, List, Option, IfSome, Ok, Err, refl, sym, subst, arith}
use Rattle.dg_append.specs.AddedBatches.{IsRefused, batch_with}
use Rattle.dg_append.specs.BatchSegments.{IsBuiltOver, StandsForKept, StopsSegment}
use Rattle.dg_append.specs.declared.batch.Batch.{Batch}
use Rattle.dg_append.specs.declared.fault.BatchFault.{BatchFault}
use Rattle.dg_append.specs.declared.fault.BatchFault.TheVariants as fault
use Rattle.dg_append.specs.declared.next_batch.NextBatch.{NextBatch}
use Rattle.dg_append.specs.DiskLeft.{LeavesDisk}
use Rattle.dg_append.specs.Faults.{HasCause}
use Rattle.dg_append.specs.KeptBatches.{GainsNextOrNot, StopsKeeping}
use Rattle.dg_disk.proofs.CrashReads.{reads_first, told_reads}
use Rattle.dg_disk.proofs.CrashTold.{told_widens}
use Rattle.dg_disk.proofs.FrameLemmas.{reads_then_writes, reads_use}
use Rattle.dg_disk.specs.Calls.{Fails, LeftByCrash, ReadsDisk, WritesDisk}
use Rattle.dg_disk.specs.declared.disk.Disk.{Ghosts}
use Rattle.dg_file.specs.Calls.{CommitsSegment}
use Rattle.dg_file.specs.Images.{GainsBatchOrNot}
use Rattle.dg_file.specs.TidyImages.{StaysTidy}
use Rattle.dg_graph.specs.declared.element.Element.{Element}
use Rattle.dg_history.specs.History.{History, events_of}
use Rattle.dg_index.specs.FileOfHistory.{Segment, segment_of}
use Rattle.dg_index.specs.OpenedIndex.{Opening}

module _ {D : Type 0} (g : Ghosts D) where
  -- ---- calls that read

  -- calls that read, and no other, where nothing is put into the file
  pub reads_leave : {A : Type 0} (old new : D) → ((disk : D) (c : List ℕ) → g.left_since disk (g.moment disk) c → g.may_leave disk c) → ReadsDisk g old new
      → (F : List ℕ → Type 0) (P : List ℕ → List ℕ → Type 0) → ((a : List ℕ) → F a → P a a) → IfSome (g.image old) F → (f : BatchFault) → HasCause g f old new → LeavesDisk {A = A} g P old new (Err f)
  reads_leave old new only reads F P has f fault cause = record {
    used = reads_use reads;
    causes = cause;
    settled = tt;
    exact = tt;
    unwritten = λ other. reads;
    crash = told_reads g.image g.faults g.write_faults g.cached g.may_leave g.moment g.left_since old new reads only F P has f;
  }

  -- a segment that is not made comes of no write
  pub cause_made : (old new : D) → ReadsDisk g old new → (before : Option (List ℕ)) (o : Opening) (next : NextBatch) (graph : List Element) (f : BatchFault)
      → StopsSegment before o next graph f → (f ≡ fault.Read → Fails g old new) → HasCause g f old new
  cause_made old new reads before o next graph (fault.BadChange line reason) stops fails = tt
  cause_made old new reads before o next graph fault.OldFormat stops fails = tt
  cause_made old new reads before o next graph (fault.FileFull needed most) stops fails = tt
  cause_made old new reads before o next graph (fault.Damaged key col) stops fails = tt
  cause_made old new reads before o next graph fault.Read stops fails = (fails refl, reads.no_write_failed)
  cause_made old new reads before o next graph fault.Memory stops fails = tt
  cause_made old new reads before o next graph fault.Store stops fails = absurd stops

  -- lines that are refused come of no call of the disk
  pub cause_refused : (disk : D) (o : Opening) (graph : List Element) (batch : Batch) (f : BatchFault) → IsRefused o graph batch f → HasCause g f disk disk
  cause_refused disk o graph batch (fault.BadChange line reason) refused = tt
  cause_refused disk o graph batch fault.OldFormat refused = tt
  cause_refused disk o graph batch (fault.FileFull needed most) refused = absurd refused
  cause_refused disk o graph batch (fault.Damaged key col) refused = absurd refused
  cause_refused disk o graph batch fault.Read refused = absurd refused
  cause_refused disk o graph batch fault.Memory refused = tt
  cause_refused disk o graph batch fault.Store refused = absurd refused

  -- ---- calls that read, and then one that writes

  -- The segment is made behind an index by calls that read, and then it is put into the file, or not.
  module _ (limit : ℕ) (o new : Opening) (next : NextBatch) (graph : List Element) (s : Segment) (before middle after : D) (reads : ReadsDisk g before middle) (writes : WritesDisk g middle after)
      (built : IsBuiltOver (g.image before) o next graph s) (run : LeftByCrash g middle after (GainsBatchOrNot s)) where
    crash_left : LeftByCrash g before after (GainsNextOrNot o next graph)
    crash_left =
        told_widens g.moment g.left_since g.may_leave (g.image before) before after
        (λ a. (z : History) → StandsForKept z a o next graph → s ≡ segment_of z.params (events_of z) (batch_with next.known next.names.now next.events.now))
        (GainsBatchOrNot s) (GainsNextOrNot o next graph) (λ a c made gains z kept legal. gains z (batch_with next.known next.names.now next.events.now) kept.0 legal (made z kept)) built
        (reads_first g.image g.faults g.write_faults g.cached g.may_leave g.moment g.left_since before middle reads after (GainsBatchOrNot s) run)

    cause_kept : (f : BatchFault) → StopsKeeping g limit o s new middle after f → HasCause g f before after
    cause_kept (fault.BadChange line reason) stops = tt
    cause_kept fault.OldFormat stops = tt
    cause_kept (fault.FileFull needed most) stops = tt
    cause_kept (fault.Damaged key col) stops = tt
    cause_kept fault.Read stops = absurd stops
    cause_kept fault.Memory stops = tt
    cause_kept fault.Store stops = record { call = omega (arith, reads.counted, stops.cause.call); write = omega (arith, reads.no_write_failed, stops.cause.write) }

    untouched : after ≡ middle → ReadsDisk g before after
    untouched same = subst (λ (x : D). ReadsDisk g before x) (sym same) reads

    unwritten_there : (f : BatchFault) → StopsKeeping g limit o s new middle after f → (f ≡ fault.Store → ⊥) → ReadsDisk g before after
    unwritten_there (fault.BadChange line reason) stops other = absurd stops
    unwritten_there fault.OldFormat stops other = absurd stops
    unwritten_there (fault.FileFull needed most) stops other = untouched stops.4
    unwritten_there (fault.Damaged key col) stops other = absurd stops
    unwritten_there fault.Read stops other = absurd stops
    unwritten_there fault.Memory stops other = untouched stops.1
    unwritten_there fault.Store stops other = absurd (other refl)

    pub not_kept_leaves : {A : Type 0} (f : BatchFault) → StopsKeeping g limit o s new middle after f → LeavesDisk {A = A} g (GainsNextOrNot o next graph) before after (Err f)
    not_kept_leaves f stops = record {
      used = reads_then_writes reads writes;
      causes = cause_kept f stops;
      settled = tt;
      exact = tt;
      unwritten = unwritten_there f stops;
      crash = crash_left;
    }

    pub kept_leaves : {A : Type 0} (x : A) → CommitsSegment g limit o s new middle after → LeavesDisk g (GainsNextOrNot o next graph) before after (Ok x)
    kept_leaves x kept = record {
      used = reads_then_writes reads writes;
      causes = tt;
      settled = kept.settled;
      exact = subst (λ (x : Option (List ℕ)). StaysTidy x (g.image after)) reads.same_image kept.exact;
      unwritten = tt;
      crash = crash_left;
    }

  -- ---- one relation for another, where a fact holds of the image

  module _ (old new : D) (F : List ℕ → Type 0) (P Q : List ℕ → List ℕ → Type 0) (to : (a c : List ℕ) → F a → P a c → Q a c) (fact : IfSome (g.image old) F) where
    wider : LeftByCrash g old new P → LeftByCrash g old new Q
    wider = told_widens g.moment g.left_since g.may_leave (g.image old) old new F P Q to fact

    pub done_leaves : {A B : Type 0} (x : A) (y : B) → LeavesDisk g P old new (Ok x) → LeavesDisk g Q old new (Ok y)
    done_leaves x y left = record { used = left.used; causes = tt; settled = left.settled; exact = left.exact; unwritten = tt; crash = wider left.crash }

    pub failed_leaves : {A B : Type 0} (f : BatchFault) → LeavesDisk {A = A} g P old new (Err f) → LeavesDisk {A = B} g Q old new (Err f)
    failed_leaves f left = record { used = left.used; causes = left.causes; settled = tt; exact = tt; unwritten = left.unwritten; crash = wider left.crash }
