use Rattle.std.proofs.Common.{List, subst}
use Rattle.std.proofs.lemmas.Bool.{false≢true}
use Rattle.dg_graph.specs.declared.element.Element.{Element}
use Rattle.dg_set.specs.Indices.{IsFirstFault}
use Rattle.dg_set.proofs.Indices.{no_set_at}
use Rattle.dg_set.proofs.set.Set.from_sorted.Goals as goal

pub returns-in-Some-clause-exact : goal.returns-in-Some-clause-exact
returns-in-Some-clause-exact c =
    let index = c.in-Some.index in
    let fault = subst (λ (l : List Element). IsFirstFault l index) c.deref.ensures.value c.in-Some.ensures.fault in
    (λ e. absurd (false≢true e), λ s. absurd (no_set_at c.args.items.items index fault s))
