use Rattle.std.proofs.Common.{◌≡◌, ◌≤◌, length, map, take, vec_len, vec_capacity}
use Rattle.dg_handles.specs.Attached.{AreAttached, graph_begun}
use Rattle.dg_handles.proofs.handles.Handles.attach_all.Given as goal
use Rattle.dg_pool.specs.Changes.{numbers_of}

abbrev pub invariant-loop-begun : goal.invariant-loop-begun
invariant-loop-begun l = record {
  attached : AreAttached l.initial.pool l.pool (numbers_of l.slots.items) (map (graph_begun l.self l.initial.pool l.cols) (take l.begun-index l.begins));
  len : vec_len l.slots ≡ l.begun-index;
  room : length l.begins ≤ vec_capacity l.slots;
}
