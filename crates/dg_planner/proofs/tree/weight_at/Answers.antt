use Rattle.std.proofs.Common.{ap}
use Rattle.std.proofs.lemmas.List.{get_or_default}
use Rattle.dg_path.specs.declared.search.Cost.{Cost as Label}
use Rattle.dg_path.specs.declared.search.TheConstants.{UNREACHED}
use Rattle.dg_planner.proofs.tree.weight_at.Goals as goal

pub returns : goal.returns
returns c = ap (λ (l : Label). l.weight) (get_or_default c.args.costs.now c.args.node_index (record { weight = 0; edges = 0 }) UNREACHED c.requires)
