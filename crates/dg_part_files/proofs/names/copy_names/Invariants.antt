use Rattle.std.proofs.Common.{◌≡◌, [], take, true}
use Rattle.dg_part_files.proofs.names.copy_names.Given as goal
use Rattle.dg_text.specs.Names.{are_new}

abbrev pub invariant-loop-number : goal.invariant-loop-number
invariant-loop-number l = record {
  copied : l.copy ≡ take l.number l.names;
  new : are_new [] (take l.number l.names) ≡ true;
}
