use Rattle.std.proofs.Common.{◌≡◌, ◌+◌, ◌++◌, map, take, vec_capacity, vec_len}
use Rattle.dg_handles.specs.Handles.{numbered}
use Rattle.dg_handles.proofs.entries.enter.Given as goal
use Rattle.dg_pool.specs.Changes.{numbers_of}

abbrev pub invariant-loop-i : goal.invariant-loop-i
invariant-loop-i l = record {
  table : map (λ e. (e.handle, e.stands)) l.entries.items ≡ map (λ e. (e.handle, e.stands)) l.initial.entries.items ++ numbered l.next (take l.i l.stands);
  slots : map (λ e. e.slot.0) l.entries.items ≡ map (λ e. e.slot.0) l.initial.entries.items ++ numbers_of (take l.i l.slots);
  len : vec_len l.entries ≡ vec_len l.initial.entries + l.i;
  capacity : vec_capacity l.entries ≡ vec_capacity l.initial.entries;
}
