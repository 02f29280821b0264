use Rattle.std.proofs.Common.{sym, ap, subst, ◌∙◌}
use Rattle.dg_graph.specs.Composition.{Composes}
use Rattle.dg_graph.specs.ColumnGrammar.{events_in}
use Rattle.dg_index.specs.IndexRecords.{Events}
use Rattle.dg_fold.specs.PathIndependence.{taken}
use Rattle.dg_fold.specs.Parts.{taken_as}
use Rattle.dg_fold.proofs.PartCompositions.{folds_events}
use Rattle.dg_fold.proofs.column.events_column.Goals as goal

pub returns-in_ok-net_of-in-Ok : goal.returns-in_ok-net_of-in-Ok
returns-in_ok-net_of-in-Ok g c =
    folds_events c.args.name_count (taken_as c.args.part.now c.args.way c.args.until) c.args.col c.in_ok-net_of-in-Ok.field-0 c.in-Ok.placed.items c.in_ok-events-in-Ok.events.items c.requires
    (ap (events_in c.args.col c.args.name_count) (sym c.bytes_of.ensures) ∙ c.in-Ok.ensures.ok)
    (cc (c.in_ok-events-in-Ok.ensures, c.deref.ensures.value))
    (subst (λ l. Composes c.in_ok-net_of-in-Ok.field-0 (taken c.args.way c.args.until (Events l))) c.deref-in-Ok.ensures.value
    c.in_ok-net_of-in-Ok.ensures)
