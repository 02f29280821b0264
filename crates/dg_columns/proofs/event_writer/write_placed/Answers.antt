use Rattle.std.proofs.Common.{◌≡◌, ℕ, ◌++◌, sym, ap, ◌∙◌, inl, inr}
use Rattle.dg_graph.specs.declared.event.Body.{Body}
use Rattle.dg_graph.specs.Columns.{two, eight, body_bytes}
use Rattle.dg_columns.proofs.ColumnWrites.{appended}
use Rattle.dg_columns.proofs.event_writer.write_placed.Goals as goal

spelled_as : (position time : ℕ) (now was : Body) → now ≡ was → two position ++ (eight time ++ body_bytes was) ≡ two position ++ (eight time ++ body_bytes now)
spelled_as position time now was e = ap (λ b. two position ++ (eight time ++ body_bytes b)) (sym e)

pub returns-in-NodeAdded : goal.returns-in-NodeAdded
returns-in-NodeAdded c =
    appended _ _ _ _ _ c.extend_from_slice.ensures.items (c.node_event.ensures ∙ spelled_as c.args.position c.args.event.now.time _ _ c.in-NodeAdded.is)

pub returns-in-NodeRemoved : goal.returns-in-NodeRemoved
returns-in-NodeRemoved c =
    appended _ _ _ _ _ c.extend_from_slice-in-NodeRemoved.ensures.items (c.node_event-in-NodeRemoved.ensures ∙ spelled_as c.args.position c.args.event.now.time _ _ c.in-NodeRemoved.is)

pub returns-in-EdgeAdded : goal.returns-in-EdgeAdded
returns-in-EdgeAdded c =
    appended _ _ _ _ _ c.extend_from_slice-in-EdgeAdded.ensures.items (c.edge_event.ensures ∙ spelled_as c.args.position c.args.event.now.time _ _ c.in-EdgeAdded.is)

pub returns-in-EdgeRemoved : goal.returns-in-EdgeRemoved
returns-in-EdgeRemoved c =
    appended _ _ _ _ _ c.extend_from_slice-in-EdgeRemoved.ensures.items (c.edge_event-in-EdgeRemoved.ensures ∙ spelled_as c.args.position c.args.event.now.time _ _ c.in-EdgeRemoved.is)

pub returns-in-NodeAttr : goal.returns-in-NodeAttr
returns-in-NodeAttr c =
    elim c.in-NodeAttr.is [
      | inl e ↦ appended _ _ _ _ _ c.extend_from_slice-in-NodeAttr.ensures.items (c.change_event.ensures ∙ spelled_as c.args.position c.args.event.now.time _ _ e)
      | inr e ↦ appended _ _ _ _ _ c.extend_from_slice-in-NodeAttr.ensures.items (c.change_event.ensures ∙ spelled_as c.args.position c.args.event.now.time _ _ e)
    ]

pub returns-in-Message : goal.returns-in-Message
returns-in-Message c =
    appended _ _ _ _ _ c.extend_from_slice-in-Message.ensures.items (c.message_event.ensures ∙ spelled_as c.args.position c.args.event.now.time _ _ c.in-Message.is)
