use Rattle.std.proofs.Common.{◌≡◌, ◌≤◌, length, map, take, vec_capacity, vec_len}
use Rattle.dg_handles.specs.Handles.{overlays_on}
use Rattle.dg_retrieval.specs.Beginnings.{base_handle}
use Rattle.dg_handles.proofs.entries.overlays.Given as goal

abbrev pub invariant-loop-i : goal.invariant-loop-i
invariant-loop-i l = record {
  made : l.overlays.items ≡ overlays_on l.cols (take l.i l.times) (map base_handle (take l.i l.begins));
  len : vec_len l.overlays ≡ l.i;
  room : length l.times ≤ vec_capacity l.overlays;
}
