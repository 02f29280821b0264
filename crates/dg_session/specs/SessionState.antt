-- What a session is seen as.
use Rattle.std.specs.Prelude.{ℕ, List, Option}
use Rattle.dg_handles.specs.Handles.{HandlesState}
use Rattle.dg_pool.specs.Graphs.{PoolState}
use Rattle.dg_session.specs.Parts.{Parts}

-- What it keeps of the machine's state; the pool in which the graphs of handles are overlaid on the current one, once there
-- was a handle; and the slot of each live handle, in the order of the handles.
pub record SessionState : Type 0 where
  pub parts : Parts
  pub pool : Option PoolState
  pub slots : List ℕ

-- the live handles with their slots
abbrev pub handles_of : SessionState → HandlesState
handles_of s = record { table = s.parts.table; slots = s.slots; next = s.parts.next }
