use Rattle.dg_fold.proofs.PointSplits.{points_split}
use Rattle.dg_fold.proofs.laws.law_points_split.Goals as goal

pub returns : goal.returns
returns c = points_split
