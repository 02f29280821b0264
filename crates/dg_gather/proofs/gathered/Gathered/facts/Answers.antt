use Rattle.dg_delta.proofs.Deltas.{IsSet-applied}
use Rattle.dg_fold.specs.Writings.{composed_all, written_for}
use Rattle.dg_graph.specs.Composition.{applied}
use Rattle.dg_graph.specs.Elements.{asks, column_of}
use Rattle.dg_graph.proofs.Sets.{IsSet-filter}
use Rattle.dg_gather.proofs.gathered.Gathered.facts.Goals as goal

pub returns : goal.returns
returns c =
    let g = c.args.self.now in
    let d = composed_all (written_for 0 g.writings.items) in
    IsSet-filter (λ x. asks g.cols (column_of x)) (applied d g.base) (IsSet-applied d g.base c.items.ensures.set)
