use Rattle.dg_view.proofs.EdgeEnds.{same_edges}
use Rattle.dg_view.proofs.adjacency.Adjacency.facts.Goals as goal

pub returns : goal.returns
returns c = λ a b. same_edges a b c.args.self.now
