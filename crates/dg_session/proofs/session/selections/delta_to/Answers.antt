use Rattle.std.proofs.Common.{[], sym, ◌∙◌, ap}
use Rattle.std.proofs.lemmas.Bool.{false≢true}
use Rattle.dg_graph.specs.Composition.{applied}
use Rattle.dg_graph.specs.Elements.{has}
use Rattle.dg_set.proofs.SetMerges.{unioned_none}
use Rattle.dg_session.proofs.session.selections.delta_to.Goals as goal

pub of-requires : goal.of-requires
of-requires c x there = absurd (false≢true (sym (ap (λ s. has s x) c.new.ensures) ∙ there))

pub returns-clause-leads : goal.returns-clause-leads
returns-clause-leads c =
    ap (λ d. applied d []) c.of.ensures ∙ unioned_none c.args.elements c.items.ensures.set
