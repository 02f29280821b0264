use Rattle.std.proofs.Common.{refl}
use Rattle.dg_index.specs.OpenedIndex.{Opening}
use Rattle.dg_file.proofs.InvariantLists.{lists_rise}
use Rattle.dg_file.proofs.index.Index.catalogue.Goals as goal

pub returns-clause-rise : goal.returns-clause-rise
returns-clause-rise c =
    let o : Opening = record { params = c.self.inside.params; form = c.self.inside.form; batches = c.self.inside.batches.items; records = c.self.inside.catalogue.entries; used = c.self.inside.used } in
    lists_rise o c.self.inside.events c.self.inside.names c.self.inside.earliest c.self.inside.listed c.self.inside.catalogue.span c.self.inside.catalogue c.self.invariant refl (λ k e is. (c.facts.ensures.held k e is).2)
