use Rattle.std.proofs.Common.{◌∙◌, ap, Ok}
use Rattle.dg_graph.specs.declared.event.Body.TheVariants as body
use Rattle.dg_graph.specs.ColumnGrammar.{and_read}
use Rattle.dg_columns.proofs.FieldGroups.{message_made, value_made}
use Rattle.dg_columns.proofs.event_fields.body_at.Goals as goal

pub returns-in_ok-value-in-EdgeAttr-clause-body : goal.returns-in_ok-value-in-EdgeAttr-clause-body
returns-in_ok-value-in-EdgeAttr-clause-body c =
    rw c.in-EdgeAttr.is (
    value_made (λ id key old new. body.EdgeAttr key id old new) c.args.name_count c.args.bytes.now c.args.offset
    ∙ ap (λ r. and_read r (λ v. Ok (body.EdgeAttr v.key v.id v.old v.new))) c.in_ok-value-in-EdgeAttr.ensures.fields)

pub returns-in_ok-value-in-NodeAttr-clause-body : goal.returns-in_ok-value-in-NodeAttr-clause-body
returns-in_ok-value-in-NodeAttr-clause-body c =
    rw c.in-NodeAttr.is (
    value_made (λ id key old new. body.NodeAttr key id old new) c.args.name_count c.args.bytes.now c.args.offset
    ∙ ap (λ r. and_read r (λ v. Ok (body.NodeAttr v.key v.id v.old v.new))) c.in_ok-value-in-NodeAttr.ensures.fields)

pub returns-in_ok-message-in-Transient-clause-body : goal.returns-in_ok-message-in-Transient-clause-body
returns-in_ok-message-in-Transient-clause-body c =
    rw c.in-Transient.is (
    message_made c.args.name_count c.args.bytes.now c.args.offset
    ∙ ap (λ r. and_read r (λ m. Ok (body.Message m.src m.dst m.value))) c.in_ok-message-in-Transient.ensures.fields)
