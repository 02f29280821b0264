use Rattle.dg_fold.proofs.PathIndependenceEdges.{edges_are_sound}
use Rattle.dg_fold.proofs.laws.law_edges_are_sound.Goals as goal

pub returns : goal.returns
returns c = edges_are_sound
