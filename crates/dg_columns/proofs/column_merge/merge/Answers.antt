use Rattle.dg_graph.specs.declared.event.Event.{Event}
use Rattle.std.proofs.Common.{List, Vec, Global, ◌≡◌, ◌∙◌, sym, subst, Option, Some, None, replicate, rules, arith}
use Rattle.std.specs.Prelude.{IfOk, IfSome}
use Rattle.dg_columns.specs.MergeWalk.{walked}
use Rattle.std.specs.Option.{option_and_then}
use Rattle.dg_graph.specs.ColumnMerge.{if_never_fall, merged}
use Rattle.dg_columns.specs.Rows.{events_in_row}
use Rattle.dg_columns.proofs.Rows.{row_merged, written_over}
use Rattle.dg_columns.proofs.MergeWalk.{walked_merged}
use Rattle.dg_columns.proofs.column_merge.merge.Goals as goal

row_is_merged : (c : goal.After-drop-row) → merged c.args.structure.now c.args.node_attrs.now c.args.edge_attrs.now c.args.transient.now c.args.len ≡ option_and_then if_never_fall (events_in_row c.deref.result.now)
row_is_merged c =
    let n = c.in_ok-row.row.len in
    let empty : c.in_ok-row.row.items ≡ replicate c.args.len None = search rules in
    row_merged c.args.len c.args.structure.now c.args.node_attrs.now c.args.edge_attrs.now c.args.transient.now c.deref_mut.result.now c.fill.new.row c.deref_mut-2.result.now c.fill-2.new.row c.deref_mut-3.result.now c.fill-3.new.row c.deref_mut-4.result.now c.fill-4.new.row c.deref.result.now
    c.if-structure-node_attrs.false
    (c.deref_mut.ensures.value ∙ empty)
    c.fill.ensures
    (c.deref_mut-2.ensures.value ∙ written_over n c.fill.new.row _ (omega arith))
    c.fill-2.ensures
    (c.deref_mut-3.ensures.value ∙ written_over n c.fill-2.new.row _ (omega arith))
    c.fill-3.ensures
    (c.deref_mut-4.ensures.value ∙ written_over n c.fill-3.new.row _ (omega arith))
    c.fill-4.ensures
    (c.deref.ensures.value ∙ written_over n c.fill-4.new.row _ (omega arith))

pub returns-clause-ok : goal.returns-clause-ok
returns-clause-ok c =
    subst (λ (list : Option (List Event)). IfOk c.in_order.result (λ events. list ≡ Some events.items)) (sym (row_is_merged c)) c.in_order.ensures.ok

pub returns-clause-positions : goal.returns-clause-positions
returns-clause-positions c = λ positions. row_is_merged c ∙ c.in_order.ensures.positions positions

pub returns-in-Some-clause-ok : goal.returns-in-Some-clause-ok
returns-in-Some-clause-ok c =
    walked_merged c.args.structure.now c.args.node_attrs.now c.args.edge_attrs.now c.args.transient.now c.args.len c.in-Some.events.items (omega (arith, c.if-structure-node_attrs.false))
    (subst (λ o. IfSome o (λ (events : Vec Event Global). walked c.args.len 0 0 c.args.structure.now c.args.node_attrs.now c.args.edge_attrs.now c.args.transient.now ≡ Some events.items)) c.in-Some.is c.in_ok-events.ensures)
