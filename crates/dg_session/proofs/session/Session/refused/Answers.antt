use Rattle.std.proofs.Common.{sym, ◌∙◌}
use Rattle.dg_session.proofs.Needed.{by_parts, goes_on, stops}
use Rattle.dg_session.proofs.session.Session.refused.Goals as goal

pub returns-in-Some : goal.returns-in-Some
returns-in-Some c =
    sym
    (by_parts c.args.self.now.parts c.args.read c.args.needs.now
    ∙ stops _ _ c.refused_lines.result c.in-Some.refusal (c.refused_lines.ensures c.args.self.now.parts) c.in-Some.is)

pub returns-in-Some-refused_index : goal.returns-in-Some-refused_index
returns-in-Some-refused_index c =
    sym
    (by_parts c.args.self.now.parts c.args.read c.args.needs.now
    ∙ goes_on _ _ c.refused_lines.result (c.refused_lines.ensures c.args.self.now.parts) c.in_default.is
    ∙ stops _ _ c.refused_index.result c.in-Some-refused_index.refusal c.refused_index.ensures c.in-Some-refused_index.is)

pub returns-in-Some-refused_history : goal.returns-in-Some-refused_history
returns-in-Some-refused_history c =
    sym
    (by_parts c.args.self.now.parts c.args.read c.args.needs.now
    ∙ goes_on _ _ c.refused_lines.result (c.refused_lines.ensures c.args.self.now.parts) c.in_default.is
    ∙ goes_on _ _ c.refused_index.result c.refused_index.ensures c.in_default-refused_index.is
    ∙ stops _ _ c.refused_history.result c.in-Some-refused_history.refusal c.refused_history.ensures c.in-Some-refused_history.is)

pub returns-in-Some-refused_handle : goal.returns-in-Some-refused_handle
returns-in-Some-refused_handle c =
    sym
    (by_parts c.args.self.now.parts c.args.read c.args.needs.now
    ∙ goes_on _ _ c.refused_lines.result (c.refused_lines.ensures c.args.self.now.parts) c.in_default.is
    ∙ goes_on _ _ c.refused_index.result c.refused_index.ensures c.in_default-refused_index.is
    ∙ goes_on _ _ c.refused_history.result c.refused_history.ensures c.in_default-refused_history.is
    ∙ stops _ _ c.refused_handle.result c.in-Some-refused_handle.refusal c.refused_handle.ensures c.in-Some-refused_handle.is)

pub returns-in-Some-refused_names : goal.returns-in-Some-refused_names
returns-in-Some-refused_names c =
    sym
    (by_parts c.args.self.now.parts c.args.read c.args.needs.now
    ∙ goes_on _ _ c.refused_lines.result (c.refused_lines.ensures c.args.self.now.parts) c.in_default.is
    ∙ goes_on _ _ c.refused_index.result c.refused_index.ensures c.in_default-refused_index.is
    ∙ goes_on _ _ c.refused_history.result c.refused_history.ensures c.in_default-refused_history.is
    ∙ goes_on _ _ c.refused_handle.result c.refused_handle.ensures c.in_default-refused_handle.is
    ∙ stops _ _ c.refused_names.result c.in-Some-refused_names.refusal c.refused_names.ensures c.in-Some-refused_names.is)

pub returns : goal.returns
returns c =
    c.refused_room.ensures ∙ sym
    (by_parts c.args.self.now.parts c.args.read c.args.needs.now
    ∙ goes_on _ _ c.refused_lines.result (c.refused_lines.ensures c.args.self.now.parts) c.in_default.is
    ∙ goes_on _ _ c.refused_index.result c.refused_index.ensures c.in_default-refused_index.is
    ∙ goes_on _ _ c.refused_history.result c.refused_history.ensures c.in_default-refused_history.is
    ∙ goes_on _ _ c.refused_handle.result c.refused_handle.ensures c.in_default-refused_handle.is
    ∙ goes_on _ _ c.refused_names.result c.refused_names.ensures c.in_default-refused_names.is)
