use Rattle.std.proofs.Common.{◌∙◌, ap, map, subst, sym}
use Rattle.dg_graph.specs.declared.placed.Placed.{Placed}
use Rattle.dg_heard.proofs.ListColumns.{events_named, list_failed, list_held}
use Rattle.dg_records.specs.EventNames.{EventNamesAreThere}
use Rattle.dg_heard.proofs.column.read_column.Goals as goal

pub read_events-requires-clause-held : goal.read_events-requires-clause-held
read_events-requires-clause-held g c = list_held c.args.index.now.opening c.args.list c.facts.ensures.parameters c.facts.ensures.kept c.requires.there

pub returns-in_err-placed-clause-takes : goal.returns-in_err-placed-clause-takes
returns-in_err-placed-clause-takes g c =
    list_failed (g.D.Disk.image c.args.disk.now) c.args.index.now.opening c.args.list c.args.column (g.D.Disk.taken c.args.disk.now) (g.D.Disk.taken c.read_events.new.disk) c.from_residual.result
    c.in_err-placed.field-0.0 c.from_residual.ensures c.in_err-placed.ensures.all

pub returns-clause-named : goal.returns-clause-named
returns-clause-named g c =
    subst (EventNamesAreThere c.args.name_count) (sym (c.in_ok-events_of.ensures ∙ ap (map (λ (p : Placed). p.event)) c.deref.ensures.value))
    (events_named c.args.name_count 0 _ c.in_ok-placed.ensures.fits.events)
