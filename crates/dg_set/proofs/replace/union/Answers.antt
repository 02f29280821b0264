use Rattle.dg_set.proofs.SetMerges.{without_none}
use Rattle.dg_set.proofs.replace.union.Goals as goal

pub returns : goal.returns
returns c = simp without_none at c.replaced.ensures
