use Rattle.std.proofs.Common.{◌≡◌, ◌+◌, ◌≤◌, ◌++◌, length, take, vec_len, vec_capacity}
use Rattle.dg_set.specs.Indices.{IsWithin}
use Rattle.dg_set.proofs.replace.keep_before.Given as goal

abbrev pub invariant-loop-index : goal.invariant-loop-index
invariant-loop-index l = record {
  written : l.kept.items ≡ l.fn.kept.items ++ take l.index l.items;
  near : IsWithin l.element l.items l.index (length l.items);
  long : vec_len l.kept ≡ vec_len l.fn.kept + l.index;
  capacity : vec_capacity l.fn.kept ≤ vec_capacity l.kept;
}
