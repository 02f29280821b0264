use Rattle.std.proofs.Common.{sym, ap, ◌∙◌, inl, inr}
use Rattle.dg_graph.specs.Columns.{element_bytes}
use Rattle.dg_columns.proofs.ColumnWrites.{appended}
use Rattle.dg_columns.proofs.delta_writer.write_element.Goals as goal

pub returns-in-Edge : goal.returns-in-Edge
returns-in-Edge c =
    appended _ _ _ _ _ c.extend_from_slice-in-Edge.ensures.items (c.edge_bytes.ensures ∙ ap element_bytes (sym c.in-Edge.is))

pub returns-in-NodeAttr : goal.returns-in-NodeAttr
returns-in-NodeAttr c =
    elim c.in-NodeAttr.is [
      | inl e ↦ appended _ _ _ _ _ c.extend_from_slice-in-NodeAttr.ensures.items (c.attr_bytes.ensures ∙ ap element_bytes (sym e))
      | inr e ↦ appended _ _ _ _ _ c.extend_from_slice-in-NodeAttr.ensures.items (c.attr_bytes.ensures ∙ ap element_bytes (sym e))
    ]

pub returns-in-Message : goal.returns-in-Message
returns-in-Message c =
    appended _ _ _ _ _ c.extend_from_slice-in-Message.ensures.items (c.message_bytes.ensures ∙ ap element_bytes (sym c.in-Message.is))
