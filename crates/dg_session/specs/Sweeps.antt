-- What commands that clean do to the pool, where there is one.
use Rattle.std.specs.Prelude.{◌≡◌, ℕ, Option, None, Some, length}
use Rattle.dg_handles.specs.Handles.{IsSweptWhole}
use Rattle.dg_machine.specs.declared.command.Command.{Command}
use Rattle.dg_machine.specs.declared.command.Command.TheVariants as command
use Rattle.dg_machine.specs.declared.reply.Head.TheVariants as head
use Rattle.dg_machine.specs.declared.reply.Reply.{Reply}
use Rattle.dg_machine.specs.Answer.{headed}
use Rattle.dg_pool.specs.declared.pool.Swept.{Swept}
use Rattle.dg_pool.specs.Graphs.{PoolState}
use Rattle.dg_pool.specs.Sweeps.{IsSweep, cells_of}

-- what a command sweeps: so many cells, all of them, or none
pub data Sweep : Type 0 where
  Some_cells : ℕ → Sweep
  All_cells : Sweep
  No_cell : Sweep

abbrev pub sweep_of : Command → Sweep
sweep_of (command.Clean cells) = Some_cells cells
sweep_of command.CleanAll = All_cells
sweep_of c = No_cell

abbrev pub SweepsAs : Sweep → PoolState → PoolState → Reply → Type 0
SweepsAs (Some_cells cells) old new reply = (answer : Swept) × IsSweep old new cells answer
SweepsAs All_cells old new reply = IsSweptWhole new × (reply ≡ headed (head.CleanedAll (length (cells_of new))))
SweepsAs No_cell old new reply = Unit {0}

-- where there is no pool, there is none afterwards, and nothing is swept
abbrev pub SweepsOverlay : Sweep → Option PoolState → Option PoolState → Reply → Type 0
SweepsOverlay No_cell old new reply = Unit {0}
SweepsOverlay sweep None new reply = new ≡ None
SweepsOverlay sweep (Some old) None reply = ⊥
SweepsOverlay sweep (Some old) (Some new) reply = SweepsAs sweep old new reply

-- `clean N` sweeps N cells on from where the last sweep stopped; `clean all` is a whole sweep, and its reply tells the
-- cells that are left. Of other commands nothing is said.
abbrev pub SweepsPool : Command → Option PoolState → Option PoolState → Reply → Type 0
SweepsPool c old new reply = SweepsOverlay (sweep_of c) old new reply

abbrev pub IsNoSweep : Sweep → Type 0
IsNoSweep (Some_cells cells) = ⊥
IsNoSweep All_cells = ⊥
IsNoSweep No_cell = Unit {0}

-- the command is none that cleans
abbrev pub SweepsNothing : Command → Type 0
SweepsNothing c = IsNoSweep (sweep_of c)
