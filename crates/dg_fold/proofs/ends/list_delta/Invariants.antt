use Rattle.std.proofs.Common.{◌≡◌, drop}
use Rattle.dg_fold.specs.Ends.{list_part}
use Rattle.dg_fold.proofs.ends.list_delta.Given as goal

abbrev pub invariant-loop-part : goal.invariant-loop-part
invariant-loop-part g l = list_part l.list l.parts ≡ list_part l.list (drop l.part-index l.parts)
