-- What a crash within a command may leave, by what the calls below it leave.
use Rattle.std.proofs.Common.{◌≡◌, inl, ℕ, List, Option, Some, None, Result, Ok, Err, refl, sym, subst}
use Rattle.std.specs.Prelude.{IfSome}
use Rattle.dg_batch.specs.declared.halt.Halt.{Halt}
use Rattle.dg_batch.specs.declared.halt.Halt.TheVariants as halt
use Rattle.dg_batch.specs.declared.stop.Stop.TheVariants as stop
use Rattle.dg_disk.proofs.CrashReads.{told_reads}
use Rattle.dg_disk.proofs.CrashTold.{told_widens}
use Rattle.dg_disk.specs.Calls.{LeftByCrash, ReadsDisk}
use Rattle.dg_disk.specs.declared.disk.Disk.{Ghosts}
use Rattle.dg_text.specs.Lines.{ScriptLine}
use Rattle.dg_index.specs.ImageOfHistory.{StandsAs}
use Rattle.dg_machine.specs.declared.command.Command.{Command}
use Rattle.dg_machine.specs.declared.reply.Reply.{Reply}
use Rattle.dg_session.specs.Parts.{Parts}
use Rattle.dg_session.specs.Session.{LeavesAnswered, LeavesCommand}

-- since the present moment there is no other
abbrev pub OnlyNow : {D : Type 0} → Ghosts D → Type 0
OnlyNow {D} g = (disk : D) (left : List ℕ) → g.left_since disk (g.moment disk) left → g.may_leave disk left

-- it holds of each list of bytes, and so of the image
any_told : (image : Option (List ℕ)) (F : List ℕ → Type 0) → ((a : List ℕ) → F a) → IfSome image F
any_told None F each = tt
any_told (Some a) F each = each a

-- the image, where it is told, is what is told
told_as : (image : Option (List ℕ)) → IfSome image (λ a. image ≡ Some a)
told_as None = tt
told_as (Some a) = refl

-- bytes that are the image stand for what it stands for
stays_answered : (c : Command) (got : List ScriptLine) (p : Parts) (reply : Reply) (a left : List ℕ) → left ≡ a → LeavesAnswered c got p reply a left
stays_answered c got p reply a left same m s = inl (subst (λ (x : List ℕ). StandsAs m.index x) (sym same) s.image_stands)

-- a command may leave the image, unless the file could not be written
stays_command : (c : Command) (got : List ScriptLine) (p : Parts) (r : Result Reply Halt) → (r ≡ Err (halt.Stop stop.Store) → ⊥) → (a : List ℕ) → LeavesCommand c got p r a a
stays_command c got p (Ok reply) other a = stays_answered c got p reply a a refl
stays_command c got p (Err (halt.Refusal why)) other a = refl
stays_command c got p (Err (halt.Stop stop.Read)) other a = refl
stays_command c got p (Err (halt.Stop stop.Limit)) other a = refl
stays_command c got p (Err (halt.Stop stop.Store)) other a = absurd (other refl)

module _ {D : Type 0} (g : Ghosts D) where
  -- what has P has Q, where the image is this
  pub wider : (old new : D) (P Q : List ℕ → List ℕ → Type 0) → ((a left : List ℕ) → g.image old ≡ Some a → P a left → Q a left) → LeftByCrash g old new P → LeftByCrash g old new Q
  wider old new P Q to run = told_widens g.moment g.left_since g.may_leave (g.image old) old new (λ a. g.image old ≡ Some a) P Q to (told_as (g.image old)) run

  -- calls that read leave the image
  pub reads_leave : OnlyNow g → (old new : D) → ReadsDisk g old new → (P : List ℕ → List ℕ → Type 0) → ((a : List ℕ) → P a a) → LeftByCrash g old new P
  reads_leave only old new reads P has =
      told_reads g.image g.faults g.write_faults g.cached g.may_leave g.moment g.left_since old new reads only (λ a. Unit {0}) P (λ a f. has a) (any_told (g.image old) (λ a. Unit {0}) (λ a. tt))

  pub reading_left : OnlyNow g → (old new : D) → ReadsDisk g old new → (c : Command) (got : List ScriptLine) (p : Parts) (r : Result Reply Halt) → (r ≡ Err (halt.Stop stop.Store) → ⊥)
      → LeftByCrash g old new (LeavesCommand c got p r)
  reading_left only old new reads c got p r other = reads_leave only old new reads (LeavesCommand c got p r) (stays_command c got p r other)

  -- a refusal is a reply
  pub refused_left : (old new : D) (c : Command) (got : List ScriptLine) (p : Parts) (reply : Reply) → LeftByCrash g old new (λ a left. left ≡ a) → LeftByCrash g old new (LeavesAnswered c got p reply)
  refused_left old new c got p reply run = wider old new (λ a left. left ≡ a) (LeavesAnswered c got p reply) (λ a left at same. stays_answered c got p reply a left same) run
