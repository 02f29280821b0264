use Rattle.dg_handles.proofs.HandleUnions.{union_of_handles}
use Rattle.dg_handles.proofs.laws.law_union_of_handles.Goals as goal

pub returns : goal.returns
returns c = union_of_handles
