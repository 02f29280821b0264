-- The words of `Frame` and of `Crash` at a bound `D: Disk`: each takes the ghost members of the disk as one argument.
use Rattle.std.specs.Prelude.{List, ℕ}
use Rattle.dg_disk.specs.declared.disk.Disk.{Ghosts}
use Rattle.dg_disk.specs.Counts.{Rose}
use Rattle.dg_disk.specs.Crash.{CrashLeaves, IsSettled}
use Rattle.dg_disk.specs.Frame.{GoesOn, OnlyReads, OnlyWrites, ReadsAndSyncs}

-- the call reads and asks
abbrev pub ReadsDisk : {D : Type 0} → Ghosts D → D → D → Type 0
ReadsDisk g = OnlyReads g.image g.faults g.write_faults g.cached g.may_leave g.moment g.left_since

-- the call reads, asks and syncs
abbrev pub SyncsDisk : {D : Type 0} → Ghosts D → D → D → Type 0
SyncsDisk g = ReadsAndSyncs g.image g.faults g.write_faults g.cached g.may_leave g.moment g.left_since

-- the call writes and syncs, and reads nothing
abbrev pub WritesDisk : {D : Type 0} → Ghosts D → D → D → Type 0
WritesDisk g = OnlyWrites g.image g.faults g.write_faults g.taken g.cached

-- the call reads, writes and syncs
abbrev pub UsesDisk : {D : Type 0} → Ghosts D → D → D → Type 0
UsesDisk g = GoesOn g.image g.faults g.write_faults g.cached

-- a call of the disk failed in this call
abbrev pub Fails : {D : Type 0} → Ghosts D → D → D → Type 0
Fails g old new = Rose (g.faults old) (g.faults new)

-- a write or a sync of the disk failed in this call
pub record FailsToWrite {D : Type 0} (g : Ghosts D) (old new : D) : Type 0 where
  pub call : Rose (g.faults old) (g.faults new)
  pub write : Rose (g.write_faults old) (g.write_faults new)

-- what the disk holds is on the device
abbrev pub IsOnDevice : {D : Type 0} → Ghosts D → D → Type 0
IsOnDevice g disk = IsSettled (g.image disk) (g.may_leave disk)

-- where what the disk held was on the device, what it holds is
abbrev pub StaysOnDevice : {D : Type 0} → Ghosts D → D → D → Type 0
StaysOnDevice g old new = IsOnDevice g old → IsOnDevice g new

-- Over a settled image that the disk tells, a crash at any moment of the call leaves bytes that have P of it.
abbrev pub LeftByCrash : {D : Type 0} → Ghosts D → D → D → (List ℕ → List ℕ → Type 0) → Type 0
LeftByCrash g = CrashLeaves g.image g.may_leave g.moment g.left_since
