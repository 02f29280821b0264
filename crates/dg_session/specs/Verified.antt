-- What `verify` says.
use Rattle.std.specs.Prelude.{◌≡◌, ℕ, Bool, true, false, List, Option, Some, None, IfSome}
use Rattle.dg_batch.specs.declared.halt.Halt.{Halt}
use Rattle.dg_batch.specs.declared.halt.Halt.TheVariants as halt
use Rattle.dg_index.specs.OpenedIndex.{Opening}
use Rattle.dg_machine.specs.declared.command.Command.{Command}
use Rattle.dg_machine.specs.declared.command.Command.TheVariants as command
use Rattle.dg_machine.specs.declared.reply.Head.TheVariants as head
use Rattle.dg_machine.specs.declared.reply.Refusal.TheVariants as refusal
use Rattle.dg_machine.specs.declared.reply.Reply.{Reply}
use Rattle.dg_machine.specs.declared.reply.Reply.TheVariants as replied
use Rattle.dg_session.specs.Parts.{Parts}
use Rattle.dg_sound.specs.declared.soundness.Soundness.{Soundness}
use Rattle.dg_sound.specs.Soundness.{soundness_of}
use Rattle.dg_verify.specs.declared.fault.VerifyFault.{VerifyFault}
use Rattle.dg_verify.specs.declared.fault.VerifyFault.TheVariants as verify_fault

-- This is what the events of the image itself determine, whatever the image is.
abbrev pub IsOfFile : Parts → Option (List ℕ) → Soundness → Type 0
IsOfFile old image s =
    (o : Opening) × (old.index ≡ Some o) × IfSome image (λ bytes. s ≡ soundness_of bytes (record { index = o; names = old.names }))

-- what the reply says of the file
abbrev pub soundness_told : Reply → Option Soundness
soundness_told (replied.Answered (head.Verified s) body) = Some s
soundness_told r = None

abbrev pub is_verify : Command → Bool
is_verify command.Verify = true
is_verify c = false

-- what a command that verifies says, or another
abbrev pub VerifiesBy : Bool → Parts → Option (List ℕ) → Option Soundness → Type 0
VerifiesBy false old image told = Unit {0}
VerifiesBy true old image told = IfSome told (λ s. IsOfFile old image s)

-- `verify` says of the image what its own events determine. Of other commands nothing is said.
abbrev pub VerifiesFile : Command → Parts → Option (List ℕ) → Reply → Type 0
VerifiesFile c old image reply = VerifiesBy (is_verify c) old image (soundness_told reply)

-- why the file is not verified
abbrev pub verify_halt : VerifyFault → Halt
verify_halt verify_fault.Disk = halt.Refusal refusal.StoreRead
verify_halt verify_fault.Memory = halt.Refusal refusal.OutOfMemory
