-- What is shown of the machine.
use Rattle.std.specs.Prelude.{◌≡◌, ◌⊎◌}
use Rattle.dg_machine.specs.declared.reply.Reply.{Reply}
use Rattle.dg_machine.specs.Answer.{no_memory, store_read}
use Rattle.dg_machine.specs.MachineState.{MachineState}
use Rattle.dg_machine.specs.Run.{Step}
use Rattle.dg_machine.specs.Script.{Entry}

-- want of memory and a failed read: the two replies that the machine does not decide
abbrev pub IsFree : Reply → Type 0
IsFree r = (r ≡ no_memory) ⊎ (r ≡ store_read)

-- from a state and an entry there is one reply and one next state, but for a free reply
abbrev pub IsDetermined : Type 0
IsDetermined =
    (m : MachineState) (e : Entry) (r s : Reply) (k n : MachineState) → Step m e r k → Step m e s n
    → (IsFree r ⊎ IsFree s) ⊎ ((r ≡ s) × (k ≡ n))
