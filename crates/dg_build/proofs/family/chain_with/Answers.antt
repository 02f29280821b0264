use Rattle.std.proofs.Common.{rules}
use Rattle.dg_build.proofs.NothingChains.{nothing_last}
use Rattle.dg_build.proofs.family.chain_with.Goals as goal

pub returns-then-is_nothing : goal.returns-then-is_nothing
returns-then-is_nothing c = nothing_last c.args.delta c.args.later.now (search (rules, c.is_nothing.ensures))
