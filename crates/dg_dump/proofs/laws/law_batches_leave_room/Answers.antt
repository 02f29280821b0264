use Rattle.dg_dump.proofs.Rooms.{batches_leave_room}
use Rattle.dg_dump.proofs.laws.law_batches_leave_room.Goals as goal

pub returns : goal.returns
returns c = batches_leave_room
