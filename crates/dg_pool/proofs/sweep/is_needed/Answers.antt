use Rattle.std.proofs.Common.{sym, ◌∙◌}
use Rattle.dg_graph.specs.declared.element.Column.TheVariants as column
use Rattle.dg_pool.proofs.SweepCells.{needed_by_mask}
use Rattle.dg_pool.proofs.sweep.is_needed.Goals as goal

pub returns-in-Structure : goal.returns-in-Structure
returns-in-Structure c = λ slots fit masks.
    let m = c.meets.ensures in
    needed_by_mask slots fit column.Structure c.args.masks.now.structure c.args.row.now masks.structure (sym c.column_of.ensures ∙ c.in-Structure.is) (sym c.is_current.ensures ∙ c.if-is_current.false) c.meets.result m.some m.none

pub returns-in-NodeAttr : goal.returns-in-NodeAttr
returns-in-NodeAttr c = λ slots fit masks.
    let m = c.meets-in-NodeAttr.ensures in
    needed_by_mask slots fit column.NodeAttr c.args.masks.now.node_attr c.args.row.now masks.node_attr (sym c.column_of.ensures ∙ c.in-NodeAttr.is) (sym c.is_current.ensures ∙ c.if-is_current.false) c.meets-in-NodeAttr.result m.some m.none

pub returns-in-EdgeAttr : goal.returns-in-EdgeAttr
returns-in-EdgeAttr c = λ slots fit masks.
    let m = c.meets-in-EdgeAttr.ensures in
    needed_by_mask slots fit column.EdgeAttr c.args.masks.now.edge_attr c.args.row.now masks.edge_attr (sym c.column_of.ensures ∙ c.in-EdgeAttr.is) (sym c.is_current.ensures ∙ c.if-is_current.false) c.meets-in-EdgeAttr.result m.some m.none

pub returns-in-Transient : goal.returns-in-Transient
returns-in-Transient c = λ slots fit masks.
    let m = c.meets-in-Transient.ensures in
    needed_by_mask slots fit column.Transient c.args.masks.now.transient c.args.row.now masks.transient (sym c.column_of.ensures ∙ c.in-Transient.is) (sym c.is_current.ensures ∙ c.if-is_current.false) c.meets-in-Transient.result m.some m.none
