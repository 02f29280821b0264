use Rattle.std.proofs.Common.{sym, arith}
use Rattle.dg_history.specs.declared.node.Key.TheVariants as key
use Rattle.dg_range.proofs.Weights.{one_within}
use Rattle.dg_range.proofs.weight.list_bytes.Goals as goal

pub asked_bytes-requires : goal.asked_bytes-requires
asked_bytes-requires c =
    omega (arith, one_within (key.List c.args.list) c.args.index.now.opening.records c.in-Some.entry (sym c.in-Some.ensures), c.facts.ensures.columns, c.facts.ensures.within)
