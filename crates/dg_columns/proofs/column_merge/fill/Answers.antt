use Rattle.std.proofs.Common.{◌+◌, ◌∙◌, ap, sym, get_or, drop, None, arith}
use Rattle.std.specs.Prelude.{not}
use Rattle.std.proofs.lemmas.List.{drop_all}
use Rattle.dg_graph.specs.declared.event.Body.TheVariants as body
use Rattle.dg_graph.specs.declared.placed.Placed.{Placed}
use Rattle.dg_columns.specs.Rows.{filled}
use Rattle.dg_columns.proofs.Rows.{filled_none, filled_past, filled_from, filled_empty_slot, filled_taken_slot}
use Rattle.dg_columns.proofs.column_merge.fill.Goals.{then-position-row+then-is_none, else-position-row, else-position-row-via-then-position-row+else-is_none, else-position-row-via-else-position-row}
use Rattle.dg_columns.proofs.column_merge.fill.Goals as goal

pub loop-event-preserved : goal.loop-event-preserved
loop-event-preserved c =
    let placed = c.args.placed.now in
    let d : Placed = record { at = 0; event = record { time = 0; body = body.NodeAdded 0 } } in
    let i = c.loop-event.event-index in
    let p = get_or placed i d in
    let rest = drop (i + 1) placed in
    let row = c.loop-event.row in
    let position = c.from-position.result in
    let before = sym (filled_from row placed i d c.loop-event-test.true) ∙ c.loop-event.invariant in
    elim c.if-position-row.branch [
      | then-position-row+then-is_none w ↦ ap (λ r. filled 0 r rest) w.row-is ∙ sym (filled_empty_slot row position p rest None (sym c.from-position.ensures) w.if-position-row.true (w.is_none.ensures ∙ ap not w.if-is_none.true)) ∙ before
      | else-position-row w ↦ ap (λ r. filled 0 r rest) w.row-is ∙ elim w.else-position-row.branch [
        | else-position-row-via-then-position-row+else-is_none w' ↦ sym (filled_taken_slot row position p rest None (sym c.from-position.ensures) w'.if-position-row.true (w'.is_none.ensures ∙ ap not w'.if-is_none.false)) ∙ before
        | else-position-row-via-else-position-row w' ↦ sym (filled_past row p rest (omega (arith, c.from-position.ensures))) ∙ before
      ]
    ]

pub returns : goal.returns
returns c =
    let placed = c.args.placed.now in
    let row = c.loop-event.row in
    let i = c.loop-event.event-index in
    sym (filled_none 0 row) ∙ ap (filled 0 row) (sym (drop_all i placed (omega arith))) ∙ c.loop-event.invariant
