use Rattle.dg_set.proofs.SetUnions.{copied_back}
use Rattle.std.proofs.Common.{◌-◌, length, arith}
use Rattle.dg_set.proofs.replace.copy_behind.Goals as goal

pub returns-clause-back : goal.returns-clause-back
returns-clause-back c =
    copied_back c.args.cells.now c.args.items.now c.copy_from_slice.new.self c.args.free (c.args.free - length c.args.items.now) (omega arith) c.requires.within c.copy_from_slice.ensures.after
