use Rattle.std.proofs.Common.{◌≤◌, arith}
use Rattle.dg_build.proofs.FirstList.{later_list}
use Rattle.dg_build.proofs.first_list.list_at.Goals as goal

pub returns : goal.returns
returns c = later_list c.args.l c.args.i c.args.first.now c.args.later.now (let some : 1 ≤ c.args.i = omega arith in some) c.requires.first
