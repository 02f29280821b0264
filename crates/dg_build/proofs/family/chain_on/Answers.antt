use Rattle.std.proofs.Common.{rules}
use Rattle.dg_build.proofs.NothingChains.{nothing_first}
use Rattle.dg_build.proofs.family.chain_on.Goals as goal

pub returns-then-is_nothing : goal.returns-then-is_nothing
returns-then-is_nothing c = nothing_first c.args.delta.now c.args.later c.is_delta.ensures (search (rules, c.is_nothing.ensures))
