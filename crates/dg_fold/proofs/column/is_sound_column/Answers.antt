use Rattle.std.proofs.Common.{sym, ap, ◌∙◌}
use Rattle.dg_graph.specs.ColumnGrammar.{events_in, delta_in}
use Rattle.dg_fold.proofs.PartCompositions.{read_well, events_have_deltas, delta_has_deltas}
use Rattle.dg_fold.proofs.column.is_sound_column.Goals as goal

pub returns-then-is_events : goal.returns-then-is_events
returns-then-is_events c =
    λ t.
    let read = read_well c.read_events.result _ c.read_events.ensures.ok (sym c.is_ok.ensures.value ∙ t) in
    events_have_deltas c.args.name_count c.args.part.now c.args.col read.0.items (sym c.is_events.ensures ∙ c.if-is_events.true)
    (ap (events_in c.args.col c.args.name_count) (sym c.bytes_of-bytes.ensures) ∙ read.1)

pub returns-else-is_events : goal.returns-else-is_events
returns-else-is_events c =
    λ t.
    let read = c.is_delta.ensures t in
    delta_has_deltas c.args.name_count c.args.part.now c.args.col (sym c.is_events.ensures ∙ c.if-is_events.false)
    (read.0, ap (delta_in c.args.col c.args.name_count) (sym c.bytes_of-bytes.ensures) ∙ read.1)
