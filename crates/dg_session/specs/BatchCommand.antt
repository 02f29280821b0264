-- The commands that add a batch.
use Rattle.std.specs.Prelude.{◌≡◌, ◌⊎◌, ℕ, Option, Some, None}
use Rattle.dg_machine.specs.declared.command.Command.{Command}
use Rattle.dg_machine.specs.declared.command.Command.TheVariants as command
use Rattle.dg_machine.specs.declared.reply.Head.{Head}
use Rattle.dg_machine.specs.declared.reply.Head.TheVariants as head
use Rattle.dg_machine.specs.declared.reply.Refusal.{Refusal}
use Rattle.dg_machine.specs.declared.reply.Refusal.TheVariants as refusal
use Rattle.dg_machine.specs.Needs.{needs}
use Rattle.dg_session.specs.declared.batch_command.BatchCommand.{BatchCommand}
use Rattle.dg_session.specs.declared.batch_command.BatchCommand.TheVariants.{Load, Append}
use Rattle.dg_session.specs.Parts.{Parts}
use Rattle.dg_session.specs.Session.{refused_by}

-- the command that adds a batch of so many lines
abbrev pub command_with : BatchCommand → ℕ → Command
command_with Load count = command.Load count
command_with Append count = command.Append count

-- the head of the reply where a batch was added
abbrev pub batch_head : BatchCommand → ℕ → ℕ → ℕ → Head
batch_head Load events total last = head.Loaded events total last
batch_head Append events total last = head.Appended events total last

-- why no batch of so many lines is added, whatever its lines are
abbrev pub barred : BatchCommand → Parts → ℕ → Option Refusal
barred which p count = refused_by p 0 (record (needs (command_with which count)) { lines = None })

-- a batch is barred so: by this, or where that is nothing, by want of memory
abbrev pub Bars : Option Refusal → Option Refusal → Type 0
Bars barred bar = (bar ≡ barred) ⊎ ((barred ≡ None) × (bar ≡ Some refusal.OutOfMemory))
