use Rattle.dg_handles.proofs.HandleTies.{tie_is_kept}
use Rattle.dg_handles.proofs.laws.law_tie_is_kept.Goals as goal

pub returns : goal.returns
returns c = tie_is_kept
