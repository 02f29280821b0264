-- What the index file may hold where the disk failed within a command.
use Rattle.std.specs.Prelude.{◌≡◌, ℕ, Bool, List, [], None, true, false, length, drop}
use Rattle.dg_index.specs.ImageOfHistory.{StandsAs}
use Rattle.dg_machine.specs.declared.command.Command.{Command}
use Rattle.dg_machine.specs.declared.command.Command.TheVariants as command
use Rattle.dg_machine.specs.declared.reply.Reply.{Reply}
use Rattle.dg_machine.specs.Answer.{answer, is_refusal}
use Rattle.dg_machine.specs.MachineState.{MachineState}
use Rattle.dg_machine.specs.Needs.{is_writing}
use Rattle.dg_machine.specs.Planning.{no_plan}
use Rattle.dg_machine.specs.Run.{Step}
use Rattle.dg_machine.specs.Script.{Entry, Asked, No_command, Long_line}

-- the entry is a command that writes, and that the machine does not refuse
abbrev pub IsAcceptedWrite : MachineState → Entry → Type 0
IsAcceptedWrite m (Asked c lines) = (is_writing c ≡ true) × (is_refusal (answer m c lines no_plan).reply ≡ false)
IsAcceptedWrite m (No_command line) = ⊥
IsAcceptedWrite m Long_line = ⊥

-- the command makes an index
abbrev pub makes_index : Command → Bool
makes_index (command.Create l k function) = true
makes_index (command.CreateSkewed l k r) = true
makes_index _ = false

-- The image after the entry was cut off in the state m: the entry is one that writes and is not refused, and the
-- image stands for the history before it, or for the one after it. There is one exception: where an index is made
-- over a file that has just the bytes of a header, its first byte may be any.
pub data IsCut (m : MachineState) (e : Entry) (before after : List ℕ) : Type 0 where
  As_before : IsAcceptedWrite m e → StandsAs m.index after → IsCut m e before after
  As_after : IsAcceptedWrite m e → (reply : Reply) (new : MachineState) → Step m e reply new → StandsAs new.index after → IsCut m e before after
  First_byte : IsAcceptedWrite m e → (c : Command) → makes_index c ≡ true → e ≡ Asked c [] → m.index ≡ None
      → length before ≡ 18 → length after ≡ 18 → drop 1 after ≡ drop 1 before → IsCut m e before after
