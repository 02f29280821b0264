-- Which commands read the file, and which reply says that a read failed.
use Rattle.std.proofs.Common.{◌≡◌, ℕ, Bool, true, false, not, List, Option, Some, None, Result, Ok, Err, arith, refl, sym, ◌∙◌, subst}
use Rattle.std.specs.Prelude.{◌&&◌, is_some}
use Rattle.std.proofs.lemmas.Bool.{false≢true}
use Rattle.dg_text.specs.Lines.{ScriptLine}
use Rattle.dg_machine.specs.declared.command.Command.{Command}
use Rattle.dg_machine.specs.declared.reply.Refusal.{Refusal}
use Rattle.dg_machine.specs.declared.reply.Refusal.TheVariants as refusal
use Rattle.dg_machine.specs.declared.reply.Reply.{Reply}
use Rattle.dg_machine.specs.declared.reply.Reply.TheVariants as replied
use Rattle.dg_machine.specs.Needs.{following, needs, or_none}
use Rattle.dg_machine.specs.Run.{is_store_read}
use Rattle.dg_session.proofs.SessionRetrievals.{every_some}
use Rattle.dg_batch.specs.declared.halt.Halt.{Halt}
use Rattle.dg_batch.specs.declared.halt.Halt.TheVariants as halt
use Rattle.dg_batch.specs.declared.stop.Stop.TheVariants as stop
use Rattle.dg_fold.specs.BytesRead.{TakesAtMost}
use Rattle.dg_machine.specs.MachineState.{MachineState}
use Rattle.std.specs.List.{sum}
use Rattle.dg_session.specs.Parts.{Parts}
use Rattle.dg_session.specs.Reads.{Reads, ReadsIn, ReadsOlder}
use Rattle.dg_session.specs.Session.{ComesTo, Denies, StandsFor, is_at_hand}

-- ---- bytes

-- one that reads no records has read nothing
pub reads_nothing : (c : Command) (p : Parts) (image : Option (List ℕ)) (r : Result Reply Halt) (before after : ℕ) → (needs c).reads ≡ false → after ≡ before → ReadsIn c p image r before after
reads_nothing c p image r before after no_reads same = by r
  where
    none : (reply : Reply) → Reads c p image reply before after
    none reply = record { told = λ e. absurd (false≢true (sym no_reads ∙ e)); early = λ e. same; nothing = λ e. same }

    by : (r : Result Reply Halt) → ReadsIn c p image r before after
    by (Ok reply) = none reply
    by (Err (halt.Refusal r)) = none (replied.Refused r)
    by (Err (halt.Stop stop.Read)) = same
    by (Err (halt.Stop stop.Limit)) = same
    by (Err (halt.Stop stop.Store)) = record {
      older = every_some image (λ bytes. (m : MachineState) → StandsFor p bytes m → ReadsOlder m (needs c).changes before after)
          (λ bytes m s singles are. let most : TakesAtMost (sum singles) before before = omega arith in subst (TakesAtMost (sum singles) before) (sym same) most);
      nothing = λ e. same;
    }

-- ---- at hand

no_need : (reads writes : Bool) (lines : Option ℕ) → ((not reads && not writes) && not (is_some lines)) ≡ true → (reads ≡ false) × (or_none lines ≡ 0)
no_need true writes lines e = absurd (false≢true e)
no_need false true lines e = absurd (false≢true e)
no_need false false None e = (refl, refl)
no_need false false (Some n) e = absurd (false≢true e)

-- a command at hand reads no records, and no line follows it
pub reads_none : (c : Command) → is_at_hand c ≡ true → (needs c).reads ≡ false
reads_none c e = (no_need (needs c).reads (needs c).writes (needs c).lines e).0

pub followed_by_none : (c : Command) → is_at_hand c ≡ true → following c ≡ 0
followed_by_none c e = (no_need (needs c).reads (needs c).writes (needs c).lines e).1

-- ---- a failed read

-- a command that reads no records is not refused for a failed read
pub fails_no_read : (c : Command) (got : List ScriptLine) (p : Parts) (before : Option (List ℕ)) (q : Parts) (after : Option (List ℕ)) (r : Result Reply Halt) → (needs c).reads ≡ false
    → ComesTo c got p before q after r → r ≡ Err (halt.Refusal refusal.StoreRead) → ⊥
fails_no_read c got p before q after r no_reads comes is =
    let d : Denies c got p before q after refusal.StoreRead = subst (ComesTo c got p before q after) is comes in
    let may = d.reads refl in false≢true (sym no_reads ∙ may.0)

-- the refusal of a reply that says so
pub store_read_is : (r : Refusal) → is_store_read (replied.Refused r) ≡ true → r ≡ refusal.StoreRead
store_read_is refusal.StoreRead e = refl
store_read_is (refusal.Syntax column) e = absurd (false≢true e)
store_read_is refusal.NoIndex e = absurd (false≢true e)
store_read_is refusal.IndexExists e = absurd (false≢true e)
store_read_is refusal.Parameters e = absurd (false≢true e)
store_read_is (refusal.ShortBatch read count) e = absurd (false≢true e)
store_read_is (refusal.BadChange line reason) e = absurd (false≢true e)
store_read_is (refusal.OutOfRange ends) e = absurd (false≢true e)
store_read_is (refusal.UnknownHandle handle) e = absurd (false≢true e)
store_read_is (refusal.PoolFull live asked) e = absurd (false≢true e)
store_read_is (refusal.HistoryFull held more) e = absurd (false≢true e)
store_read_is (refusal.FileFull needed limit) e = absurd (false≢true e)
store_read_is (refusal.Damaged key column) e = absurd (false≢true e)
store_read_is refusal.OutOfMemory e = absurd (false≢true e)
store_read_is (refusal.InUse handle) e = absurd (false≢true e)
store_read_is refusal.UnknownNode e = absurd (false≢true e)
store_read_is (refusal.NotAnOverlay handle) e = absurd (false≢true e)
store_read_is refusal.LineLong e = absurd (false≢true e)
store_read_is refusal.HandlesSpent e = absurd (false≢true e)
store_read_is refusal.AlreadyLoaded e = absurd (false≢true e)
store_read_is refusal.NewFormat e = absurd (false≢true e)
store_read_is refusal.OldFormat e = absurd (false≢true e)
store_read_is refusal.UnknownKey e = absurd (false≢true e)
store_read_is refusal.NotIndexed e = absurd (false≢true e)
store_read_is refusal.AlreadyIndexed e = absurd (false≢true e)
store_read_is refusal.IndexesFull e = absurd (false≢true e)
